-- Small messages and their text.
use Rattle.std.specs.Prelude.{◌≡◌, ℕ, pos, negsuc, List, [], ◌∷◌, ◌++◌, codes, length, refl, true, false, ◌+◌, ◌*◌}
use Rattle.std.specs.Fmt.{digits}
use Rattle.schema.specs.AnyValue.{AnyValue, items, pairs}
use Rattle.schema.specs.Messages.{mapping, location, function, link, attribute, stack, sample, profile, scope, resource, resource_profiles, dictionary, message}
use Rattle.schema.specs.Shape.{Value, empty}
use Rattle.shown.specs.Quoted.{quoted}
use Rattle.shown.specs.ShowText.{show_text}

-- a profile alone, in records with empty heads
abbrev alone : Value profile → Value dictionary → Value (message resource_profiles)
alone p d = ((empty resource, ((empty scope, (p ∷ [], ([], tt))) ∷ [], ([], tt))) ∷ [], (d, tt))

-- ---- a profile without samples

abbrev strings_only : List (List ℕ) → Value dictionary
strings_only texts = ([], ([], ([], ([], (texts, ([], ([], tt)))))))

cpu_text : show_text (alone ((pos 1, (pos 2, tt)), (empty profile).1) (strings_only ([] ∷ codes "cpu" ∷ codes "ns" ∷ []))) ≡
    codes "resource 0 dropped 0 schema \"\"\n"
    ++ (codes "  scope 0 name \"\" version \"\" dropped 0 schema \"\"\n"
    ++ codes "    profile 0 type \"cpu\"/\"ns\" period \"\"/\"\" 0 time 0 duration 0 id 0x dropped 0 format \"\" payload 0x\n")
unfolding digits
cpu_text = refl

-- ---- a line of each kind

abbrev entries : Value dictionary
entries = (
  empty mapping ∷ (4096, (8192, (16, (pos 5, (pos 1 ∷ [], tt))))) ∷ [],
  (
    empty location ∷ (pos 1, (4660, ((pos 1, (pos 7, (pos 3, tt))) ∷ [], (pos 2 ∷ [], tt)))) ∷ [],
    (
      empty function ∷ (pos 6, (pos 7, (pos 8, (pos 5, tt)))) ∷ [],
      (
        empty link ∷ (1 ∷ 171 ∷ [], (255 ∷ [], tt)) ∷ [],
        (
          [] ∷ codes "cpu" ∷ codes "ns" ∷ codes "k" ∷ codes "By" ∷ codes "a.so" ∷ codes "main" ∷ codes "_main" ∷ codes "m.c" ∷ [],
          (
            empty attribute ∷ (pos 3, (AnyValue.Int (negsuc 4), (pos 4, tt))) ∷ (pos 3, (AnyValue.Flag true, (pos 0, tt))) ∷ [],
            (empty stack ∷ (pos 1 ∷ [], tt) ∷ [], tt),
          ),
        ),
      ),
    ),
  ),
)

abbrev one_sample : Value sample
one_sample = (pos 1, (pos 1 ∷ negsuc 1 ∷ [], (pos 2 ∷ [], (pos 1, (5 ∷ 6 ∷ [], tt)))))

abbrev one_profile : Value profile
one_profile = (
  (pos 1, (pos 2, tt)),
  (
    one_sample ∷ empty sample ∷ [],
    (10, (20, ((pos 2, (pos 0, tt)), (negsuc 0, (1 ∷ 2 ∷ [], (3, (codes "f", (9 ∷ [], (pos 1 ∷ [], tt))))))))),
  ),
)

abbrev one_scope : Value scope
one_scope = (
  codes "s",
  (
    codes "1",
    (
      (codes "x", (items (AnyValue.Empty ∷ AnyValue.Double (0 ∷ 0 ∷ 0 ∷ 0 ∷ 0 ∷ 0 ∷ 240 ∷ 63 ∷ []) ∷ []), tt))
          ∷ (codes "y", (pairs ((codes "p", AnyValue.Raw (0 ∷ [])) ∷ (codes "q", AnyValue.Flag false) ∷ []), tt)) ∷ [],
      (0, tt),
    ),
  ),
)

abbrev one_resource : Value resource
one_resource = ((codes "host", (AnyValue.Text (codes "a\"b\\c\n"), tt)) ∷ [], (2, ((10 ∷ 187 ∷ []) ∷ [], tt)))

each_text : show_text ((one_resource, ((one_scope, (one_profile ∷ [], ([], tt))) ∷ [], (codes "u", tt))) ∷ [], (entries, tt)) ≡
    codes "resource 0 dropped 2 schema \"u\"\n"
    ++ (codes "  attr \"host\" text \"a\\\"b\\\\c\\x0a\"\n"
    ++ (codes "  entity 0x0abb\n"
    ++ (codes "  scope 0 name \"s\" version \"1\" dropped 0 schema \"\"\n"
    ++ (codes "    attr \"x\" items [empty, double 0x000000000000f03f]\n"
    ++ (codes "    attr \"y\" pairs {\"p\": bytes 0x00, \"q\": flag false}\n"
    ++ (codes "    profile 0 type \"cpu\"/\"ns\" period \"ns\"/\"\" -1 time 10 duration 20 id 0x0102 dropped 3 format \"f\" payload 0x09\n"
    ++ (codes "      attr \"k\" int -5 unit \"By\"\n"
    ++ (codes "      sample 0 values [1 -2] times [5 6] link 0x01ab 0xff\n"
    ++ (codes "        attr \"k\" flag true unit \"\"\n"
    ++ (codes "        location 0 address 4660\n"
    ++ (codes "          mapping 4096 8192 16 \"a.so\"\n"
    ++ (codes "            attr \"k\" int -5 unit \"By\"\n"
    ++ (codes "          line 7 3 start 5 name \"main\" system \"_main\" file \"m.c\"\n"
    ++ (codes "          attr \"k\" flag true unit \"\"\n"
    ++ codes "      sample 1 values [] times [] link 0x 0x\n"))))))))))))))
unfolding digits
each_text = refl

-- ---- lengths

-- three samples of a stack of two zero locations: the heads have 31, 49 and 95 bytes, a sample 45, a location 56
abbrev stacked : Value sample
stacked = (pos 1, (empty sample).1)

stacked_length : length (show_text (alone ((empty profile).0, (stacked ∷ stacked ∷ stacked ∷ [], (empty profile).1.1))
    ([], ([], ([], ([], ([], ([], (empty stack ∷ (pos 0 ∷ pos 0 ∷ [], tt) ∷ [], tt)))))))))
    ≡ 31 + 49 + 95 + 3 * (45 + 2 * 56)
unfolding digits
stacked_length = refl

-- ---- bytes in quotes

quoted_bytes : quoted (0 ∷ 31 ∷ 127 ∷ 128 ∷ 32 ∷ 92 ∷ 34 ∷ []) ≡ 34 ∷ (codes "\\x00\\x1f\\x7f" ++ 128 ∷ 32 ∷ 92 ∷ 92 ∷ 92 ∷ 34 ∷ 34 ∷ [])
quoted_bytes = refl

-- a backslash, a quotation mark and a line feed, as they are written above
written_codes : codes "\\\"\n" ≡ 92 ∷ 34 ∷ 10 ∷ []
written_codes = refl

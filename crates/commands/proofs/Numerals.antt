-- What `parse` gives at a word of at most eight digits.
use Rattle.std.proofs.Common.{◌≡◌, ◌≢◌, ◌<◌, ◌≤◌, ◌==◌, slice_index, ℕ, Bool, true, false, List, length, get_or, refl, sym, ap, ◌∙◌, Option, Some, None, Result, Ok, Err, subst, arith, rules}
use Rattle.std.specs.Str.{all_ascii_digits}
use Rattle.std.specs.Str.Parse.{ParsesUnsigned, digits_value}
use Rattle.std.proofs.lemmas.Str.Parse.{IsNumeralModel, digits_value_short, numerals_by_value, parse_plain, tells_all_ascii_digits}
use Rattle.commands.specs.Limits.{if_limit, is_short_number, limit_in}

own : IsNumeralModel (λ ds. all_ascii_digits ds ≡ true) (digits_value 10)
own = numerals_by_value _ tells_all_ascii_digits

is_short : (word : List ℕ) → all_ascii_digits word ≡ true → 0 < length word → length word ≤ 8 → is_short_number word ≡ true
is_short word digits some few = grind (arith, digits, some, few)

is_number : (word : List ℕ) → is_short_number word ≡ true → (all_ascii_digits word ≡ true) × (0 < length word)
is_number word short = grind (arith, short)

-- no word of digits begins with a plus
plain_of : (word bytes : List ℕ) (plus : Bool) → bytes ≡ word → plus ≡ (slice_index bytes 0 == 43) → plus ≡ false → get_or word 0 0 ≢ 43
plain_of word bytes plus same is none e = grind (arith, same, is, none, e)

-- a number that is read is that of the word
pub limit_read : {E : Type 0} (word bytes : List ℕ) (plus : Bool) (n : ℕ) (r : Result ℕ E) → length word ≤ 8
    → bytes ≡ word → plus ≡ (slice_index bytes 0 == 43) → plus ≡ false → r ≡ Ok n → ParsesUnsigned 64 10 word r
    → if_limit n ≡ limit_in word
limit_read {E = E} word bytes plus n r few same begins none is h =
    let at = subst (ParsesUnsigned {E = E} 64 10 word) is h in
    let p = parse_plain own {E = E} 64 word (Ok n) at (plain_of word bytes plus same begins none) in
    rw (is_short word p.0.0 p.0.1 few) (ap if_limit p.1)

none_of : (short : Bool) (word : List ℕ) → is_short_number word ≡ short → short ≢ true → None ≡ limit_in word
none_of true word is other = absurd (other refl)
none_of false word is other = rw is refl

-- where none is read, the word is none
pub none_read : {E : Type 0} (word bytes : List ℕ) (plus : Bool) (e : E) (r : Result ℕ E) → length word ≤ 8
    → bytes ≡ word → plus ≡ (slice_index bytes 0 == 43) → plus ≡ false → r ≡ Err e → ParsesUnsigned 64 10 word r
    → None ≡ limit_in word
none_read {E = E} word bytes plus e r few same begins none is h =
    let at = subst (ParsesUnsigned {E = E} 64 10 word) is h in
    let p = parse_plain own {E = E} 64 word (Err e) at (plain_of word bytes plus same begins none) in
    none_of (is_short_number word) word refl
    (λ short. let d = is_number word short in p (d.0, d.1, omega (arith, digits_value_short own word 8 d.0 few)))

-- Small messages that compute: what they mean, and their canonical tables.
use Rattle.std.specs.Prelude.{◌≡◌, ℕ, pos, negsuc, List, [], ◌∷◌, refl}
use Rattle.schema.specs.Messages.{mapping, location, function, link, attribute, stack, sample, value_type}
use Rattle.schema.specs.Shape.{Value, empty}
use Rattle.meaning.specs.Message.{dictionary, message, meaning_of, canonical_value, meaning_text}
use Rattle.schema.specs.Texts.{varint_upto, number_field, long_field, bytes_field}

-- a dictionary with these locations, strings and stacks, and with the zero entry alone in each other table
abbrev dictionary_with : List (Value location) → List (List ℕ) → List (Value stack) → Value dictionary
dictionary_with locations texts stacks =
    (empty mapping ∷ [], (locations, (empty function ∷ [], (empty link ∷ [], (texts, (empty attribute ∷ [], (stacks, tt)))))))

-- ---- equal entries

-- a location without a mapping at an address, and a stack of one location
abbrev location_at : ℕ → Value location
location_at address = (pos 0, (address, ([], ([], tt))))

abbrev stack_of : ℕ → Value stack
stack_of place = (pos place ∷ [], tt)

-- a sample of a stack, with one value
abbrev sample_of : ℕ → ℕ → Value sample
sample_of place v = (pos place, (pos v ∷ [], ([], (pos 0, ([], tt)))))

-- two stacks that are equal by value, over two equal locations
abbrev two_stacks : Value (message sample)
two_stacks = (
  sample_of 1 7 ∷ sample_of 2 8 ∷ [],
  (dictionary_with (location_at 0 ∷ location_at 16 ∷ location_at 16 ∷ []) [] (empty stack ∷ stack_of 1 ∷ stack_of 2 ∷ []), tt),
)

-- become one
one_stack : canonical_value sample (meaning_of sample two_stacks) ≡ (
  sample_of 1 7 ∷ sample_of 1 8 ∷ [],
  (dictionary_with (location_at 0 ∷ location_at 16 ∷ []) ([] ∷ []) (empty stack ∷ stack_of 1 ∷ []), tt),
)
one_stack = refl

-- and these are its bytes
one_stack_text : meaning_text sample (meaning_of sample two_stacks) ≡
    10 ∷ 5 ∷ 8 ∷ 1 ∷ 18 ∷ 1 ∷ 7 ∷ 10 ∷ 5 ∷ 8 ∷ 1 ∷ 18 ∷ 1 ∷ 8 ∷ 18 ∷ 23 ∷
    10 ∷ 0 ∷ 18 ∷ 0 ∷ 18 ∷ 2 ∷ 16 ∷ 16 ∷ 26 ∷ 0 ∷ 34 ∷ 0 ∷
    42 ∷ 0 ∷ 50 ∷ 0 ∷ 58 ∷ 0 ∷ 58 ∷ 3 ∷ 10 ∷ 1 ∷ 1 ∷ []
unfolding varint_upto number_field long_field bytes_field
one_stack_text = refl

-- ---- the order of entries

-- a dictionary with strings alone, of which one is a duplicate, and one is named by nothing
abbrev strings_only : Value dictionary
strings_only = ([], ([], ([], ([], ([] ∷ (99 ∷ []) ∷ (99 ∷ []) ∷ (110 ∷ []) ∷ (98 ∷ []) ∷ [], ([], ([], tt)))))))

-- types and units
abbrev old_types : Value (message value_type)
old_types = ((pos 3, (pos 1, tt)) ∷ (pos 2, (pos 0, tt)) ∷ [], (strings_only, tt))

-- are numbered as the walk meets them
new_types : canonical_value value_type (meaning_of value_type old_types) ≡ (
  (pos 1, (pos 2, tt)) ∷ (pos 2, (pos 0, tt)) ∷ [],
  (dictionary_with (empty location ∷ []) ([] ∷ (110 ∷ []) ∷ (99 ∷ []) ∷ []) (empty stack ∷ []), tt),
)
new_types = refl

-- ---- empty tables

-- an index into an empty table, and one below 0, name the empty string
no_strings : canonical_value value_type (meaning_of value_type ((pos 0, (negsuc 0, tt)) ∷ [], (empty dictionary, tt))) ≡ (
  (pos 0, (pos 0, tt)) ∷ [],
  (dictionary_with (empty location ∷ []) ([] ∷ []) (empty stack ∷ []), tt),
)
no_strings = refl

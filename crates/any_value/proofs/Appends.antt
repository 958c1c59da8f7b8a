-- Texts that follow one another.
use Rattle.std.proofs.Common.{◌≡◌, ℕ, ◌+◌, ◌*◌, List, [], ◌++◌, length, sym, ◌∙◌, length-append, append_assoc}
use Rattle.std.proofs.lemmas.List.{append-nil}
use Rattle.schema.specs.AnySpell.{pair_text}
use Rattle.schema.specs.Texts.{bytes_field, long_field, varint}
use Rattle.schema_laws.proofs.Onto.{long_onto}

-- nothing is put
pub put_none : (out : List ℕ) → out ≡ out ++ []
put_none out = sym (append-nil out)

-- the length of a key and its value
pub pair_text_len : (k b : List ℕ) → length (pair_text k b) ≡ length (bytes_field 1 k) + length (bytes_field 2 b)
pair_text_len k b = length-append (bytes_field 1 k) (bytes_field 2 b)

-- a key and its value after a tag and their length
pub pair_onto : (out : List ℕ) (n len : ℕ) (k b : List ℕ) → len ≡ length (pair_text k b)
    → ((((out ++ varint (n * 8 + 2)) ++ varint len) ++ bytes_field 1 k) ++ bytes_field 2 b) ≡ out ++ long_field n (pair_text k b)
pair_onto out n len k b e =
    append_assoc ((out ++ varint (n * 8 + 2)) ++ varint len) (bytes_field 1 k) (bytes_field 2 b) ∙ long_onto out n len (pair_text k b) e

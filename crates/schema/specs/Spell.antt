-- The one canonical spelling of a value by its shape: fields ascend by number as the rows do, varints are the shortest,
-- repeated numbers are one packed field, fields that hold their default are left out, and each element of a repeated
-- message, text or bytes field is written, also an empty one.
use Rattle.std.specs.Prelude.{ℕ, ◌+◌, List, [], ◌++◌, length, map}
use Rattle.schema.specs.Shape.{Shape, Number, Fixed, Bytes, Text, Any, Index, End, One, Many, I32, Value}
use Rattle.schema.specs.Texts.{number_to, number_field, fixed_field, bytes_field, numbers_text, fixed_text, items_text}
use Rattle.schema.specs.AnySpell.{any_text}

-- a singular and a repeated row; `inner` spells a message
abbrev pub spell_one : (s : Shape) → (Value s → List ℕ) → ℕ → Value s → List ℕ
spell_one (Number w) inner n v = number_field n (number_to w v)
spell_one (Index T entry) inner n v = number_field n (number_to I32 v)
spell_one Fixed inner n v = fixed_field n v
spell_one Bytes inner n v = bytes_field n v
spell_one Text inner n v = bytes_field n v
spell_one (Any depth) inner n v = bytes_field n (any_text v)
spell_one s inner n v = bytes_field n (inner v)

abbrev pub spell_many : (s : Shape) → (Value s → List ℕ) → ℕ → List (Value s) → List ℕ
spell_many (Number w) inner n vs = bytes_field n (numbers_text w vs)
spell_many (Index T entry) inner n vs = bytes_field n (numbers_text I32 vs)
spell_many Fixed inner n vs = bytes_field n (fixed_text vs)
spell_many Bytes inner n vs = items_text n vs
spell_many Text inner n vs = items_text n vs
spell_many (Any depth) inner n vs = items_text n (map any_text vs)
spell_many s inner n vs = items_text n (map inner vs)

-- the rows of a message, one after the other; what is no message has no rows
abbrev pub spell : (s : Shape) → Value s → List ℕ
spell (Number w) v = []
spell Fixed v = []
spell Bytes v = []
spell Text v = []
spell (Any depth) v = []
spell (Index T entry) v = []
spell End v = []
spell (One n k rest) v = spell_one k (spell k) n v.0 ++ spell rest v.1
spell (Many n k rest) v = spell_many k (spell k) n v.0 ++ spell rest v.1

-- the same, row after row at the end of a text, as a program appends it
abbrev pub spell_onto : (s : Shape) → List ℕ → Value s → List ℕ
spell_onto (Number w) out v = out
spell_onto Fixed out v = out
spell_onto Bytes out v = out
spell_onto Text out v = out
spell_onto (Any depth) out v = out
spell_onto (Index T entry) out v = out
spell_onto End out v = out
spell_onto (One n k rest) out v = spell_onto rest (out ++ spell_one k (spell k) n v.0) v.1
spell_onto (Many n k rest) out v = spell_onto rest (out ++ spell_many k (spell k) n v.0) v.1

-- and its length, row after row, as a program computes it
abbrev pub len_onto : (s : Shape) → ℕ → Value s → ℕ
len_onto (Number w) len v = len
len_onto Fixed len v = len
len_onto Bytes len v = len
len_onto Text len v = len
len_onto (Any depth) len v = len
len_onto (Index T entry) len v = len
len_onto End len v = len
len_onto (One n k rest) len v = len_onto rest (len + length (spell_one k (spell k) n v.0)) v.1
len_onto (Many n k rest) len v = len_onto rest (len + length (spell_many k (spell k) n v.0)) v.1

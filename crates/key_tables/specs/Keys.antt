-- The keys of a new dictionary by table: their spelling, what they began with, and cutting them back to it.
use Rattle.std.specs.Prelude.{◌≡◌, ℕ, suc, ◌<◌, ◌≤◌, ◌^◌, List, [], ◌∷◌, ◌++◌, length, map, take, get_or, replicate, slice_set}
use Rattle.schema.specs.Texts.{items_text}
use Rattle.tables.specs.Keys.{Interned}
use Rattle.schema.specs.Prefix.{IsPrefix}
pub use Rattle.key_tables.specs.ByPlace.{at}

-- the keys of each table, by the places of the tables
abbrev pub Keys : Type 0
Keys = List (List (List ℕ))

-- the keys of tables whose fields have the numbers from n on, each key after its tag and length
unfoldable pub text_from : ℕ → Keys → List ℕ
text_from n [] = []
text_from n (k ∷ ks) = items_text n k ++ text_from (suc n) ks

-- the spelling of the dictionary
abbrev pub keys_text : Keys → List ℕ
keys_text keys = text_from 1 keys

-- the number of keys of each table
abbrev pub lengths : Keys → List ℕ
lengths keys = map length keys

-- the first keys of each table, as many as these numbers tell; tables without a number stay whole
abbrev pub cut_to : List ℕ → Keys → Keys
cut_to [] keys = keys
cut_to (n ∷ ns) [] = []
cut_to (n ∷ ns) (k ∷ ks) = take n k ∷ cut_to ns ks

-- there are as many tables as in the base, and each begins with the keys that it has there
pub record ArePrefixes (base keys : Keys) : Type 0 where
  pub many : length keys ≡ length base
  pub front : (place : ℕ) → IsPrefix (get_or base place []) (get_or keys place [])

-- each table has fewer than 2^31 keys, so that its places are indexes of the format
abbrev pub AreFew : Keys → Type 0
AreFew keys = (place : ℕ) → length (get_or keys place []) < 2 ^ 31

-- a table's keys became these by one key, which has this place among them, and the other tables are the same
pub record InternedIn (place : ℕ) (old : Keys) (key : List ℕ) (new : Keys) (index : ℕ) : Type 0 where
  pub keys : List (List ℕ)
  pub interned : Interned (get_or old place []) key keys index
  pub is : new ≡ slice_set old place keys
  pub few : length keys < 2 ^ 31

-- what a mark tells: the numbers of keys, and the length of their spelling
pub record Counts : Type 0 where
  pub lengths : List ℕ
  pub len : ℕ

-- a mark of these keys
pub record IsMark (mark : Counts) (keys : Keys) : Type 0 where
  pub lengths : mark.lengths ≡ lengths keys
  pub len : mark.len ≡ length (keys_text keys)
  pub most : mark.len ≤ 2 ^ 62

-- the keys can be cut to what a mark tells
pub record CanBeCut (mark : Counts) (keys : Keys) : Type 0 where
  pub within : (place : ℕ) → get_or mark.lengths place 0 ≤ length (get_or keys place [])
  pub is : mark.len ≡ length (keys_text (cut_to mark.lengths keys))
  pub most : mark.len ≤ 2 ^ 62

-- the keys of tables of their zero entries alone, which have no bytes
abbrev pub zero_keys : Keys
zero_keys = replicate 7 ([] ∷ [])

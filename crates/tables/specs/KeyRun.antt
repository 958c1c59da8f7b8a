-- Keys that lie one after the other in a run of bytes. The row of a key tells where it ends in the run, and its hash.
use Rattle.std.specs.Prelude.{◌≡◌, ◌<◌, ◌≤◌, ◌+◌, ◌-◌, ◌^◌, ℕ, zero, suc, List, [], ◌∷◌, ◌++◌, length, take, drop, get_or, bit_and}
use Rattle.tables.specs.declared.key_row.KeyRow.{KeyRow}
use Rattle.tables.specs.Keys.{IsAt}
use Rattle.tables.specs.Chains.{AreChains}

-- the keys of these rows, where the run goes on from its byte `start`
unfoldable pub keys_from : ℕ → List KeyRow → List ℕ → List (List ℕ)
keys_from start [] run = []
keys_from start (row ∷ rows) run = take (row.end - start) run ∷ keys_from row.end rows (drop (row.end - start) run)

-- the keys of these rows
abbrev pub keys_in : List KeyRow → List ℕ → List (List ℕ)
keys_in rows run = keys_from 0 rows run

-- the ends ascend, and the last is the end of the run
unfoldable pub AreEnds : ℕ → List KeyRow → List ℕ → Type 0
AreEnds start [] run = length run ≡ 0
AreEnds start (row ∷ rows) run = (start ≤ row.end) × (row.end ≤ start + length run) × AreEnds row.end rows (drop (row.end - start) run)

-- where the key at a place begins
unfoldable pub begin_from : ℕ → List KeyRow → ℕ → ℕ
begin_from start rows zero = start
begin_from start [] (suc place) = start
begin_from start (row ∷ rows) (suc place) = begin_from row.end rows place

-- the hash of the key at a place
abbrev pub hash_at : List KeyRow → ℕ → ℕ
hash_at rows place = (get_or rows place (record { end = 0; hash = 0 })).hash

-- the bucket of a hash among so many
abbrev pub bucket : ℕ → ℕ → ℕ
bucket many hash = bit_and hash (many - 1)

-- the bucket of the key at a place, among so many
abbrev pub bucket_at : List KeyRow → ℕ → ℕ → ℕ
bucket_at rows many place = bucket many (hash_at rows place)

-- the key is at no place that has this hash
abbrev pub IsMissing : List KeyRow → List ℕ → List ℕ → ℕ → Type 0
IsMissing rows run key hash = (place : ℕ) → IsAt (keys_in rows run) key place → ¬ (hash_at rows place ≡ hash)

-- each row has the hash of its key
abbrev pub AreHashed : (List ℕ → ℕ) → List KeyRow → List ℕ → Type 0
AreHashed hash_of rows run = (key : List ℕ) (place : ℕ) → IsAt (keys_in rows run) key place → hash_at rows place ≡ hash_of key

-- the rows cut the run into keys, and all of them are chained
pub record AreKept (run : List ℕ) (rows : List KeyRow) (heads links : List ℕ) : Type 0 where
  pub ends : AreEnds 0 rows run
  pub chains : AreChains (bucket_at rows (length heads)) (length rows) heads links
  pub room : length rows ≤ length heads
  pub steps : length heads ≤ length links
  pub few : length rows < 2 ^ 31

-- the key of these bytes and this hash is now the last
pub record IsPut (run : List ℕ) (rows : List KeyRow) (key : List ℕ) (hash : ℕ) (run' : List ℕ) (rows' : List KeyRow) : Type 0 where
  pub bytes : run' ≡ run ++ key
  pub row : rows' ≡ rows ++ record { end = length run + length key; hash = hash } ∷ []

-- Chains of places by bucket. A link leads to a place: it is the place plus 1, and 0 where it leads nowhere. A bucket's head
-- leads to the last place in it, and the link of a place to the one before it in its bucket.
use Rattle.std.specs.Prelude.{◌≡◌, ◌<◌, ◌≤◌, ◌+◌, ℕ, List, length, get_or}

-- the link leads to the last of the first `count` places that is in the bucket
pub record LeadsToLast (bucket_of : ℕ → ℕ) (count bucket link : ℕ) : Type 0 where
  pub within : link ≤ count
  pub here : (place : ℕ) → link ≡ place + 1 → bucket_of place ≡ bucket
  pub none : (place : ℕ) → link ≤ place → place < count → ¬ (bucket_of place ≡ bucket)

-- heads and links chain the first `count` places
pub record AreChains (bucket_of : ℕ → ℕ) (count : ℕ) (heads links : List ℕ) : Type 0 where
  pub ends : (bucket : ℕ) → bucket < length heads → LeadsToLast bucket_of count bucket (get_or heads bucket 0)
  pub steps : (place : ℕ) → place < count → LeadsToLast bucket_of place (bucket_of place) (get_or links place 0)

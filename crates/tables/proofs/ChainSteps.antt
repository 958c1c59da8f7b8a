-- Chains of places, and a search along one.
use Rattle.std.proofs.Common.{◌≡◌, ℕ, ◌+◌, ◌<◌, ◌≤◌, List, get_or, sym, ap, ◌∙◌, subst, arith}
use Rattle.tables.specs.Chains.{AreChains, LeadsToLast}
use Rattle.tables.specs.KeyRun.{bucket}

-- ---- chains speak of the buckets of their places alone

pub leads_same : (f g : ℕ → ℕ) (count b l : ℕ) → ((p : ℕ) → p < count → f p ≡ g p) → LeadsToLast f count b l → LeadsToLast g count b l
leads_same f g count b l e h = record {
  within = h.within;
  here = λ p i. let m : p < count = omega (arith, i, h.within) in sym (e p m) ∙ h.here p i;
  none = λ p i m q. h.none p i m (e p m ∙ q);
}

pub chains_same : (f g : ℕ → ℕ) (count : ℕ) (heads links : List ℕ) → ((p : ℕ) → p < count → f p ≡ g p) → AreChains f count heads links
    → AreChains g count heads links
chains_same f g count heads links e h = record {
  ends = λ b m. leads_same f g count b (get_or heads b 0) e (h.ends b m);
  steps = λ p m. subst (λ b. LeadsToLast g p b (get_or links p 0)) (e p m)
      (leads_same f g p (f p) (get_or links p 0) (λ q n. e q (omega arith)) (h.steps p m));
}

-- ---- a search along a chain

-- A search of the places at which `Here` holds: of those from the link on none has the hash, and the link leads on in the
-- hash's bucket.
abbrev pub Searches : (ℕ → ℕ) → ℕ → ℕ → ℕ → (ℕ → Type 0) → ℕ → Type 0
Searches hash_of many count hash Here l = (l ≤ count) × ((p : ℕ) → l ≡ p + 1 → bucket many (hash_of p) ≡ bucket many hash)
    × ((p : ℕ) → l ≤ p → Here p → ¬ (hash_of p ≡ hash))

module _ (hash_of : ℕ → ℕ) (many count hash : ℕ) (Here : ℕ → Type 0) where
  pub search_begins : ((p : ℕ) → Here p → p < count) → (l : ℕ) → LeadsToLast (λ p. bucket many (hash_of p)) count (bucket many hash) l
      → Searches hash_of many count hash Here l
  search_begins within l h = (h.within, h.here, λ p i at e. h.none p i (within p at) (ap (bucket many) e))

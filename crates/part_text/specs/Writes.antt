-- Bytes that are put in place of others.
use Rattle.std.specs.Prelude.{◌≡◌, ℕ, ◌+◌, List, ◌++◌, length, take, drop}

-- the text is what the new bytes have from `start` to `end`; what is in front of it and after it is that of the old ones
pub record IsPutBefore (old new text : List ℕ) (start end : ℕ) : Type 0 where
  pub ends : start + length text ≡ end
  pub front : take start new ≡ take start old
  pub after : drop start new ≡ text ++ drop end old

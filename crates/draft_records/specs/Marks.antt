-- Marks, and cutting back to them.
use Rattle.std.specs.Prelude.{◌≡◌, ℕ, ◌+◌, ◌≤◌, List, [], ◌∷◌, ◌++◌, length, take}
use Rattle.parts.specs.LastHeads.{last_heads}
use Rattle.parts.specs.Parts.{RecordPart, ResourceBegins, ScopeBegins, ProfileText}
use Rattle.parts.specs.Sums.{Sums, sums_of}
use Rattle.draft_records.specs.Places.{AreInside, heads_at}
use Rattle.draft_records.specs.declared.places.HeadPlaces.{HeadPlaces}

-- what a mark tells: the number of parts, the lengths of their texts in both runs, their sums, and where the last heads stand
pub record Mark : Type 0 where
  pub extents : ℕ
  pub texts : ℕ
  pub backs : ℕ
  pub totals : Sums
  pub places : HeadPlaces

-- the text of a part in front of what its record holds, and the text after that
abbrev pub front_of : RecordPart → List ℕ
front_of (ResourceBegins f b) = f
front_of (ScopeBegins f b) = f
front_of (ProfileText p) = p

abbrev pub back_of : RecordPart → List ℕ
back_of (ResourceBegins f b) = b
back_of (ScopeBegins f b) = b
back_of (ProfileText p) = []

-- their lengths in several parts
abbrev pub texts_len : List RecordPart → ℕ
texts_len [] = 0
texts_len (p ∷ ps) = length (front_of p) + texts_len ps

abbrev pub closings_len : List RecordPart → ℕ
closings_len [] = 0
closings_len (p ∷ ps) = length (back_of p) + closings_len ps

-- their texts, one after the other
abbrev pub texts_run : List RecordPart → List ℕ
texts_run [] = []
texts_run (p ∷ ps) = front_of p ++ texts_run ps

abbrev pub closings_run : List RecordPart → List ℕ
closings_run [] = []
closings_run (p ∷ ps) = back_of p ++ closings_run ps

-- a mark of a list of parts: its last heads are those of the list, in the runs of its texts
pub record IsMark (m : Mark) (ps : List RecordPart) : Type 0 where
  pub extents : m.extents ≡ length ps
  pub texts : m.texts ≡ texts_len ps
  pub backs : m.backs ≡ closings_len ps
  pub totals : m.totals ≡ sums_of ps
  pub heads : heads_at m.places (texts_run ps) (closings_run ps) ≡ last_heads ps
  pub inside : AreInside m.places (texts_len ps) (closings_len ps)

-- a list can be cut back to a mark: it begins with a list that the mark is of
pub record CanBeCut (m : Mark) (ps : List RecordPart) : Type 0 where
  pub within : m.extents ≤ length ps
  pub mark : IsMark m (take m.extents ps)

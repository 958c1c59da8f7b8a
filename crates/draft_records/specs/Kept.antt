-- What is kept of records.
use Rattle.std.specs.Prelude.{◌≡◌, ◌+◌, List, length, drop}
use Rattle.parts.specs.Parts.{RecordPart}
use Rattle.parts.specs.LastHeads.{last_heads}
use Rattle.parts.specs.Sums.{sums_of}
use Rattle.part_text.specs.Extents.{back_len, backs_len, front_len, fronts_len, part_in, parts_in}
use Rattle.part_text.specs.declared.extent.Extent.{Extent}
use Rattle.draft_records.specs.Places.{AreInside, heads_at}
use Rattle.draft_records.specs.declared.kept.Kept.{Kept}

-- its parts
abbrev pub parts_of : Kept → List RecordPart
parts_of k = parts_in k.extents.items k.texts k.backs

-- the extents cut exactly the two runs, and the sums and the last heads are those of the parts
pub record IsKept (k : Kept) : Type 0 where
  pub texts : fronts_len k.extents.items ≡ length k.texts
  pub backs : backs_len k.extents.items ≡ length k.backs
  pub totals : k.totals ≡ sums_of (parts_of k)
  pub heads : heads_at k.places k.texts k.backs ≡ last_heads (parts_of k)
  pub inside : AreInside k.places (fronts_len k.extents.items) (backs_len k.extents.items)

-- the same, but at the ends of the runs stand the texts of an extent that is not there yet
pub record IsAwaiting (k : Kept) (p : Extent) : Type 0 where
  pub texts : fronts_len k.extents.items + front_len p ≡ length k.texts
  pub backs : backs_len k.extents.items + back_len p ≡ length k.backs
  pub totals : k.totals ≡ sums_of (parts_of k)
  pub heads : heads_at k.places k.texts k.backs ≡ last_heads (parts_of k)
  pub inside : AreInside k.places (fronts_len k.extents.items) (backs_len k.extents.items)

-- the part of that extent
abbrev pub awaited : Kept → Extent → RecordPart
awaited k p = part_in p (drop (fronts_len k.extents.items) k.texts) (drop (backs_len k.extents.items) k.backs)

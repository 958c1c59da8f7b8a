-- What is put at an extent, and what is put after it.
use Rattle.std.specs.Prelude.{ℕ, ◌+◌, ◌-◌, ◌*◌, List, [], ◌∷◌, ◌++◌, take, drop}
use Rattle.schema.specs.Texts.{varint}
use Rattle.parts.specs.Parts.{RecordPart, texts_of}
use Rattle.part_text.specs.Extents.{front_len, back_len}
use Rattle.part_text.specs.declared.extent.Extent.{Extent}
use Rattle.part_text.specs.declared.extent.Extent.TheVariants as extents

-- the number of an extent's field
abbrev pub number_of : Extent → ℕ
number_of (extents.Resource f b) = 1
number_of (extents.Scope f b) = 2
number_of (extents.Profile n) = 2

-- what closes records in front of an extent, where these texts close the scope record and the resource record that are open
abbrev pub scope_closing : Extent → List ℕ → List ℕ
scope_closing (extents.Resource f b) scope_back = scope_back
scope_closing (extents.Scope f b) scope_back = scope_back
scope_closing (extents.Profile n) scope_back = []

abbrev pub resource_closing : Extent → List ℕ → List ℕ
resource_closing (extents.Resource f b) resource_back = resource_back
resource_closing (extents.Scope f b) resource_back = []
resource_closing (extents.Profile n) resource_back = []

-- the texts that close the scope record and the resource record that are open after an extent; its own is in front of the backs
abbrev pub scope_after : Extent → List ℕ → List ℕ → List ℕ
scope_after (extents.Resource f b) scope_back backs = []
scope_after (extents.Scope f b) scope_back backs = take b backs
scope_after (extents.Profile n) scope_back backs = scope_back

abbrev pub resource_after : Extent → List ℕ → List ℕ → List ℕ
resource_after (extents.Resource f b) resource_back backs = take b backs
resource_after (extents.Scope f b) resource_back backs = resource_back
resource_after (extents.Profile n) resource_back backs = resource_back

-- the texts that close what is open after several extents
abbrev pub scope_open : List Extent → List ℕ → List ℕ → List ℕ
scope_open [] backs scope_back = scope_back
scope_open (p ∷ ps) backs scope_back = scope_open ps (drop (back_len p) backs) (scope_after p scope_back backs)

abbrev pub resource_open : List Extent → List ℕ → List ℕ → List ℕ
resource_open [] backs resource_back = resource_back
resource_open (p ∷ ps) backs resource_back = resource_open ps (drop (back_len p) backs) (resource_after p resource_back backs)

-- what is put at an extent: its tag, the length of its payload and its text, and what closes records in front of them
abbrev pub extent_text : Extent → ℕ → List ℕ → List ℕ
extent_text p payload texts = (varint (number_of p * 8 + 2) ++ varint payload) ++ take (front_len p) texts

abbrev pub closed_text : Extent → ℕ → List ℕ → List ℕ → List ℕ → List ℕ
closed_text p payload texts scope_back resource_back =
    (scope_closing p scope_back ++ resource_closing p resource_back) ++ extent_text p payload texts

-- what is put after: the text of the parts there, and the texts that close what is open
abbrev pub rest_of : List RecordPart → List ℕ → List ℕ → List ℕ
rest_of ps scope_back resource_back =
    (texts_of ps).profiles ++ (scope_back ++ ((texts_of ps).scopes ++ (resource_back ++ (texts_of ps).resources)))

-- the length of an extent's payload, where what is put so far begins at a place, and the scope record and the resource record
-- that are open end at these
abbrev pub payload_len_before : Extent → ℕ → ℕ → ℕ → ℕ
payload_len_before (extents.Resource f b) put scope resource = f + (resource - put)
payload_len_before (extents.Scope f b) put scope resource = f + (scope - put)
payload_len_before (extents.Profile n) put scope resource = n

-- where the scope record and the resource record end that are open before an extent: in front of it, if it begins a record of
-- the kind or one around it, and else where they did
abbrev pub scope_before : Extent → ℕ → ℕ → ℕ
scope_before (extents.Resource f b) here scope = here
scope_before (extents.Scope f b) here scope = here
scope_before (extents.Profile n) here scope = scope

abbrev pub resource_before : Extent → ℕ → ℕ → ℕ
resource_before (extents.Resource f b) here resource = here
resource_before (extents.Scope f b) here resource = resource
resource_before (extents.Profile n) here resource = resource

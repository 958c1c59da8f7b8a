-- Meanings as flat lists: the head of each record, and the profiles under it.
use Rattle.std.specs.Prelude.{List, [], ◌∷◌, map}
use Rattle.std.specs.List.{flat_map}
use Rattle.schema.specs.Shape.{Shape, Table}
use Rattle.meaning.specs.Tree.{Tree, Cons, head_of, tail_of, listed}
use Rattle.meaning.specs.Tables.{Tables}
use Rattle.meaning.specs.Meaning.{uses}
use Rattle.meaning.specs.Canonical.{renumber}
use Rattle.parts.specs.Parts.{RecordPart, ResourceBegins, ScopeBegins}
use Rattle.parts.specs.Records.{held, front, back, profile_part}

-- the record with the head of this one that holds these
abbrev pub holding : Tree → List Tree → Tree
holding t ts = Cons (head_of t) (Cons (listed ts) (tail_of (tail_of t)))

-- The head of a record, with its schema_url: the same record, holding nothing.
abbrev pub head : Tree → Tree
head t = holding t []

-- A line of an outline: the head of a resource record or of a scope record, or a profile.
pub data Item : Type 0 where
  ResourceItem : Tree → Item
  ScopeItem : Tree → Item
  ProfileItem : Tree → Item

abbrev pub profile_item : Tree → Item
profile_item p = ProfileItem p

-- a record's head, and then what it holds
abbrev pub scope_outline : Tree → List Item
scope_outline t = ScopeItem (head t) ∷ map profile_item (held t)

abbrev pub resource_outline : Tree → List Item
resource_outline t = ResourceItem (head t) ∷ flat_map scope_outline (held t)

-- the outline of a meaning
abbrev pub outline : List Tree → List Item
outline ms = flat_map resource_outline ms

-- ---- with shapes of resource, scope and profile

-- the part of an item, with new indexes
abbrev pub item_part : Shape → Shape → Shape → Tables → Item → RecordPart
item_part r s p v (ResourceItem h) = ResourceBegins (front r h) (back h)
item_part r s p v (ScopeItem h) = ScopeBegins (front s h) (back h)
item_part r s p v (ProfileItem t) = profile_part p (renumber v p t)

-- the values of a table that the walk of an item meets: there are none in a head
abbrev pub item_uses : Shape → Table → Item → List Tree
item_uses p T (ProfileItem t) = uses T p t
item_uses p T i = []

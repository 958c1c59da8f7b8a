-- The records of a message as a flat list of parts, and its text: nothing is nested but in the definition of the text.
use Rattle.std.specs.Prelude.{ℕ, List, [], ◌∷◌, ◌++◌}
use Rattle.schema.specs.Texts.{long_field}

-- What begins a resource record or a scope record, with the text in front of what it holds and the text after that; or the
-- text of a profile.
pub data RecordPart : Type 0 where
  ResourceBegins : List ℕ → List ℕ → RecordPart
  ScopeBegins : List ℕ → List ℕ → RecordPart
  ProfileText : List ℕ → RecordPart

-- The text of parts: the profiles before the first scope record, the scope records before the first resource record, and the
-- resource records.
pub record Texts : Type 0 where
  pub profiles : List ℕ
  pub scopes : List ℕ
  pub resources : List ℕ

-- the payload of a part's field: a profile is its own, and what begins a record has the texts after it inside
abbrev pub payload : RecordPart → Texts → List ℕ
payload (ProfileText p) t = p
payload (ScopeBegins f b) t = f ++ (t.profiles ++ b)
payload (ResourceBegins f b) t = f ++ ((t.profiles ++ t.scopes) ++ b)

abbrev pub with_part : RecordPart → Texts → Texts
with_part (ProfileText p) t = record { profiles = long_field 2 p ++ t.profiles; scopes = t.scopes; resources = t.resources }
with_part (ScopeBegins f b) t = record { profiles = []; scopes = long_field 2 (payload (ScopeBegins f b) t) ++ t.scopes; resources = t.resources }
with_part (ResourceBegins f b) t = record { profiles = []; scopes = []; resources = long_field 1 (payload (ResourceBegins f b) t) ++ t.resources }

-- a fold from the right
abbrev pub texts_onto : List RecordPart → Texts → Texts
texts_onto [] t = t
texts_onto (p ∷ ps) t = with_part p (texts_onto ps t)

abbrev pub no_texts : Texts
no_texts = record { profiles = []; scopes = []; resources = [] }

abbrev pub texts_of : List RecordPart → Texts
texts_of ps = texts_onto ps no_texts

-- the text of the records
abbrev pub parts_text : List RecordPart → List ℕ
parts_text ps = (texts_of ps).profiles ++ ((texts_of ps).scopes ++ (texts_of ps).resources)

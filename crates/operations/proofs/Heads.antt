-- The heads of messages that can be written.
use Rattle.std.proofs.Common.{◌≡◌, ℕ, ◌<◌, ◌^◌, List, [], ◌∷◌, ◌++◌, length, map, Bool, true, false, cond, refl, sym, ap, subst, ◌∙◌}
use Rattle.schema.specs.Each.{Each}
use Rattle.schema.specs.Fits.{Fits}
use Rattle.schema.specs.Messages.{profile, scope, scope_profiles, resource, resource_profiles}
use Rattle.schema.specs.Shape.{Shape, Text, End, One, Value}
use Rattle.schema.specs.Spell.{spell}
use Rattle.schema_laws.proofs.Lists.{each_append}
use Rattle.meaning.specs.Tree.{Tree, Octets, Nil, Cons, listed, tree, value, IsOf}
use Rattle.meaning.specs.Tables.{Tables}
use Rattle.meaning.specs.Meaning.{resolve}
use Rattle.meaning.specs.Message.{message, meaning_of, tables_in}
use Rattle.meaning.specs.Renumbering.{is_plain}
use Rattle.meaning.proofs.Places.{map-map}
use Rattle.meaning.proofs.Rows.{resolve-plain}
use Rattle.meaning.proofs.Trees.{value-tree, elements-listed}
use Rattle.parts.specs.Records.{holder, held}
use Rattle.operations.proofs.Renumbered.{elements-each}
use Rattle.operations.specs.Outlines.{holding}
use Rattle.operations.specs.Heads.{head_shape, HeadFits, HeadsFit}
use Rattle.operations.specs.Seams.{append_joining, same_head, joined_scope, joined_resource, seam, joined_under, under_last}
use Rattle.operations.proofs.Joining.{held-holding}

-- ---- those of a message

-- the rows of a head with this text after them
abbrev RowsFit : Shape → List ℕ → Tree → Type 0
RowsFit h u y =
    let rows = Cons y (Cons (Octets u) Nil) in IsOf (head_shape h) rows × Fits (head_shape h) (value (head_shape h) rows)

-- where the resource or scope is a value that fits
rows-fit : (h : Shape) (x : Value h) (u : List ℕ) (y : Tree) → tree h x ≡ y → Fits h x → length (spell h x) < 2 ^ 64 → Fits (One 3 Text End) (u, tt) → RowsFit h u y
rows-fit h x u y e f l g =
    let w : value h (tree h x) ≡ x = value-tree h x in
    subst (RowsFit h u) e (
      ap (λ z. Cons (tree h z) (Cons (Octets u) Nil)) w,
      (subst (Fits h) (sym w) f, subst (λ z. length (spell h z) < 2 ^ 64) (sym w) l, g),
    )

-- of a record that a message holds, once its indexes are resolved
record-fits : (d : Tables) (h k : Shape) → is_plain h ≡ true → (x : Value (holder h k)) → Fits (holder h k) x → HeadFits h (resolve d (holder h k) (tree (holder h k) x))
record-fits d h k p x f = rows-fit h x.0 x.1.1.0 (resolve d h (tree h x.0)) (sym (resolve-plain d h p (tree h x.0))) f.0 f.1 f.2.2

-- and what it holds then
held-resolved : (d : Tables) (h k : Shape) (x : Value (holder h k))
    → held (resolve d (holder h k) (tree (holder h k) x)) ≡ map (λ y. resolve d k (tree k y)) x.1.0
held-resolved d h k x =
    elements-each (resolve d k) (listed (map (tree k) x.1.0)) ∙ ap (map (resolve d k)) (elements-listed (map (tree k) x.1.0)) ∙ map-map (tree k) (resolve d k) x.1.0

scopes-fit : (d : Tables) (ys : List (Value scope_profiles)) → Each (λ y. Fits scope_profiles y × (length (spell scope_profiles y) < 2 ^ 64)) ys
    → Each (HeadFits scope) (map (λ y. resolve d scope_profiles (tree scope_profiles y)) ys)
scopes-fit d [] f = tt
scopes-fit d (y ∷ ys) f = (record-fits d scope profile refl y f.0.0, scopes-fit d ys f.1)

records-fit : (d : Tables) (xs : List (Value resource_profiles)) → Each (λ y. Fits resource_profiles y × (length (spell resource_profiles y) < 2 ^ 64)) xs
    → HeadsFit (map (λ y. resolve d resource_profiles (tree resource_profiles y)) xs)
records-fit d [] f = tt
records-fit d (x ∷ xs) f = (
  (
    record-fits d resource scope_profiles refl x f.0.0,
    subst (Each (HeadFits scope)) (sym (held-resolved d resource scope_profiles x)) (scopes-fit d x.1.0 f.0.0.2.0),
  ),
  records-fit d xs f.1,
)

pub message-heads : (x : Value (message resource_profiles)) → Fits (message resource_profiles) x → HeadsFit (meaning_of resource_profiles x)
message-heads x f = records-fit (tables_in x.1.0) x.0 f.0

-- ---- those of joined meanings

-- where joined elements have what both have
pub joining-fit : (P : Tree → Type 0) (alike : Tree → Tree → Bool) (joined : Tree → Tree → Tree) → ((r s : Tree) → P r → P s → P (joined r s))
    → (a b : List Tree) → Each P a → Each P b → Each P (append_joining alike joined a b)
joining-fit P alike joined h [] b f g = g
joining-fit P alike joined h (r ∷ []) [] f g = f
joining-fit P alike joined h (r ∷ []) (s ∷ b) f g = by_test (alike r s)
  where
    by_test : (c : Bool) → Each P (cond c (joined r s ∷ b) (r ∷ s ∷ b))
    by_test true = (h r s f.0 g.0, g.1)
    by_test false = (f.0, g)
joining-fit P alike joined h (r ∷ q ∷ a) b f g = (f.0, joining-fit P alike joined h (q ∷ a) b f.1 g)

-- a resource record's head and those of its scope records
abbrev RecordFits : Tree → Type 0
RecordFits r = HeadFits resource r × Each (HeadFits scope) (held r)

-- a record that fits still fits when it holds other scope records whose heads do
held-fit : (r : Tree) (ss : List Tree) → RecordFits r → Each (HeadFits scope) ss → RecordFits (holding r ss)
held-fit r ss f g = (f.0, subst (Each (HeadFits scope)) (sym (held-holding r ss)) g)

pub seam-heads : (a b : List Tree) → HeadsFit a → HeadsFit b → HeadsFit (seam a b)
seam-heads a b f g =
    joining-fit RecordFits same_head joined_resource
    (λ r s x y.
    held-fit r (append_joining same_head joined_scope (held r) (held s)) x
    (joining-fit (HeadFits scope) same_head joined_scope (λ p q u v. u) (held r) (held s) x.1 y.1))
    a b f g

pub under-heads : (a b : List Tree) → HeadsFit a → HeadsFit b → HeadsFit (under_last a b)
under-heads a b f g =
    joining-fit RecordFits same_head joined_under
    (λ r s x y. held-fit r (held r ++ held s) x (each_append (HeadFits scope) (held r) (held s) x.1 y.1))
    a b f g

pub append-heads : (a b : List Tree) → HeadsFit a → HeadsFit b → HeadsFit (a ++ b)
append-heads a b f g = each_append RecordFits a b f g

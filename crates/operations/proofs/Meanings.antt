-- Joined meanings that can be written.
use Rattle.std.proofs.Common.{List, [], ◌∷◌, ◌++◌, refl}
use Rattle.schema.specs.Each.{Each}
use Rattle.schema.specs.Messages.{resource, scope, profile, scope_profiles, resource_profiles}
use Rattle.schema.specs.Shape.{Text, End, One}
use Rattle.schema_laws.proofs.Lists.{each_append}
use Rattle.meaning.specs.Tree.{Tree, Cons, elements, listed}
use Rattle.meaning.specs.Meaning.{AreElements, AreParts, IsMeaning}
use Rattle.meaning.specs.Ranges.{HasRange, ElementsInRange}
use Rattle.meaning.proofs.Forms.{by_elements, by_parts}
use Rattle.parts.specs.Records.{held}
use Rattle.operations.specs.Outlines.{holding}
use Rattle.operations.specs.Seams.{append_joining, same_head, joined_scope, joined_resource, seam, joined_under, under_last}
use Rattle.operations.proofs.Heads.{joining-fit}

-- ---- the elements of a repeated row

elements-each : (P : Tree → Type 0) (t : Tree) → AreElements P t → Each P (elements t)
elements-each P t h = by_elements (λ u. Each P (elements u)) P tt (λ u us p q. (p, q)) t h

each-elements : (P : Tree → Type 0) (ts : List Tree) → Each P ts → AreElements P (listed ts)
each-elements P [] h = refl
each-elements P (t ∷ ts) h = (h.0, each-elements P ts h.1)

-- ---- records whose head, list and schema_url have these properties

-- one that holds another list
held-again : (A L C : Tree → Type 0) (r : Tree) (ts : List Tree) → AreParts A (AreParts L C) r → L (listed ts) → AreParts A (AreParts L C) (holding r ts)
held-again A L C r ts h l =
    by_parts (λ x. AreParts A (AreParts L C) (holding x ts)) A (AreParts L C)
    (λ t rest p q. by_parts (λ y. AreParts A (AreParts L C) (holding (Cons t y) ts)) L C (λ m u a b. (p, (l, b))) rest q)
    r h

-- what one holds
each-held : (A B L C : Tree → Type 0) → ((t : Tree) → L t → AreElements B t) → (r : Tree) → AreParts A (AreParts L C) r → Each B (held r)
each-held A B L C f r h =
    by_parts (λ x. Each B (held x)) A (AreParts L C)
    (λ t rest p q. by_parts (λ y. Each B (held (Cons t y))) L C (λ m u a b. elements-each B m (f m a)) rest q)
    r h

-- So joined records have them: heads with A and S, profiles with P, the rest with C and D, and lists of which L and M say that
-- each element has what it should.
module _ (A S P C D L M : Tree → Type 0)
    (scopes : (t : Tree) → L t → AreElements (AreParts S (AreParts M D)) t) (all_scopes : (ts : List Tree) → Each (AreParts S (AreParts M D)) ts → L (listed ts))
    (profiles : (t : Tree) → M t → AreElements P t) (all_profiles : (ts : List Tree) → Each P ts → M (listed ts)) where
  abbrev B : Tree → Type 0
  B = AreParts S (AreParts M D)

  abbrev R : Tree → Type 0
  R = AreParts A (AreParts L C)

  scope-joined : (q t : Tree) → B q → B t → B (joined_scope q t)
  scope-joined q t x y =
      held-again S M D q (held q ++ held t) x
      (all_profiles (held q ++ held t) (each_append P (held q) (held t) (each-held S P M D profiles q x) (each-held S P M D profiles t y)))

  -- a resource record that holds what two held
  resource-joined : (all : List Tree → List Tree → List Tree) → ((a b : List Tree) → Each B a → Each B b → Each B (all a b))
      → (r s : Tree) → R r → R s → R (holding r (all (held r) (held s)))
  resource-joined all h r s x y =
      held-again A L C r (all (held r) (held s)) x
      (all_scopes (all (held r) (held s)) (h (held r) (held s) (each-held A B L C scopes r x) (each-held A B L C scopes s y)))

  sewn : (a b : List Tree) → Each R a → Each R b → Each R (seam a b)
  sewn a b f g =
      joining-fit R same_head joined_resource
      (resource-joined (append_joining same_head joined_scope) (joining-fit B same_head joined_scope scope-joined)) a b f g

  put-under : (a b : List Tree) → Each R a → Each R b → Each R (under_last a b)
  put-under a b f g = joining-fit R same_head joined_under (resource-joined (λ ss ts. ss ++ ts) (each_append B)) a b f g

-- ---- what can be written

pub seam-means : (a b : List Tree) → Each (IsMeaning resource_profiles) a → Each (IsMeaning resource_profiles) b → Each (IsMeaning resource_profiles) (seam a b)
seam-means a b f g =
    sewn (IsMeaning resource) (IsMeaning scope) (IsMeaning profile) (IsMeaning (One 3 Text End)) (IsMeaning (One 3 Text End))
    (AreElements (IsMeaning scope_profiles)) (AreElements (IsMeaning profile))
    (λ t h. h) (each-elements (IsMeaning scope_profiles)) (λ t h. h) (each-elements (IsMeaning profile)) a b f g

pub seam-ranges : (a b : List Tree) → Each (HasRange resource_profiles) a → Each (HasRange resource_profiles) b → Each (HasRange resource_profiles) (seam a b)
seam-ranges a b f g =
    sewn (HasRange resource) (HasRange scope) (HasRange profile) (HasRange (One 3 Text End)) (HasRange (One 3 Text End))
    (λ e. AreElements (HasRange scope_profiles) e × ElementsInRange scope_profiles e) (λ e. AreElements (HasRange profile) e × ElementsInRange profile e)
    (λ t h. h.0) (λ ts h. (each-elements (HasRange scope_profiles) ts h, tt)) (λ t h. h.0) (λ ts h. (each-elements (HasRange profile) ts h, tt)) a b f g

pub under-means : (a b : List Tree) → Each (IsMeaning resource_profiles) a → Each (IsMeaning resource_profiles) b → Each (IsMeaning resource_profiles) (under_last a b)
under-means a b f g =
    put-under (IsMeaning resource) (IsMeaning scope) (IsMeaning profile) (IsMeaning (One 3 Text End)) (IsMeaning (One 3 Text End))
    (AreElements (IsMeaning scope_profiles)) (AreElements (IsMeaning profile))
    (λ t h. h) (each-elements (IsMeaning scope_profiles)) (λ t h. h) (each-elements (IsMeaning profile)) a b f g

pub under-ranges : (a b : List Tree) → Each (HasRange resource_profiles) a → Each (HasRange resource_profiles) b → Each (HasRange resource_profiles) (under_last a b)
under-ranges a b f g =
    put-under (HasRange resource) (HasRange scope) (HasRange profile) (HasRange (One 3 Text End)) (HasRange (One 3 Text End))
    (λ e. AreElements (HasRange scope_profiles) e × ElementsInRange scope_profiles e) (λ e. AreElements (HasRange profile) e × ElementsInRange profile e)
    (λ t h. h.0) (λ ts h. (each-elements (HasRange scope_profiles) ts h, tt)) (λ t h. h.0) (λ ts h. (each-elements (HasRange profile) ts h, tt)) a b f g

-- ---- without anything joined

pub append-means : (a b : List Tree) → Each (IsMeaning resource_profiles) a → Each (IsMeaning resource_profiles) b → Each (IsMeaning resource_profiles) (a ++ b)
append-means a b f g = each_append (IsMeaning resource_profiles) a b f g

pub append-ranges : (a b : List Tree) → Each (HasRange resource_profiles) a → Each (HasRange resource_profiles) b → Each (HasRange resource_profiles) (a ++ b)
append-ranges a b f g = each_append (HasRange resource_profiles) a b f g

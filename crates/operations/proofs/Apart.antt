-- Heads that can be written are equal exactly where their texts are.
use Rattle.std.proofs.Common.{◌≡◌, [], ◌++◌, true, sym, ap, ◌∙◌}
use Rattle.std.proofs.lemmas.List.{append-nil}
use Rattle.schema.specs.Fits.{Lawful, Fits}
use Rattle.schema.specs.Shape.{Shape, IsMessage}
use Rattle.schema.specs.Spell.{spell}
use Rattle.schema_laws.proofs.ReadFits.{spelled_apart}
use Rattle.meaning.specs.Tree.{Tree, Nil, Cons, head_of, tail_of, value, tree, same, IsOf}
use Rattle.meaning.proofs.Trees.{same-itself, same-true}
use Rattle.parts.specs.Records.{holder, front, back}
use Rattle.operations.specs.Outlines.{head}
use Rattle.parts.proofs.Rows.{one-text}
use Rattle.operations.specs.Heads.{head_shape, head_rows, HeadFits}
use Rattle.operations.specs.Seams.{same_head}

-- the text of a head is its two texts
head-text : (h : Shape) → IsMessage h → (t : Tree) → spell (head_shape h) (value (head_shape h) (head_rows t)) ≡ front h t ++ back t
head-text h m t =
    ap (λ x. x ++ (back t ++ [])) (one-text h m 1 (value h (head_of t))) ∙ ap (λ x. front h t ++ x) (append-nil (back t))

-- a head by its rows
abbrev from_rows : Tree → Tree
from_rows t = Cons (head_of t) (Cons Nil (tail_of t))

pub same-texts : (h : Shape) → IsMessage h → Lawful (head_shape h) → (r s : Tree) → HeadFits h r → HeadFits h s
    → front h r ≡ front h s → back r ≡ back s → same_head r s ≡ true
same-texts h m l r s a b e f =
    let k : Shape = head_shape h in
    let t : spell k (value k (head_rows r)) ≡ spell k (value k (head_rows s)) =
    head-text h m r ∙ ap (λ x. x ++ back r) e ∙ ap (λ x. front h s ++ x) f ∙ sym (head-text h m s) in
    let v : value k (head_rows r) ≡ value k (head_rows s) = spelled_apart k tt l (value k (head_rows r)) (value k (head_rows s)) a.1 b.1 t in
    let w : head_rows r ≡ head_rows s = sym a.0 ∙ ap (tree k) v ∙ b.0 in
    let u : head r ≡ head s = ap from_rows w in
    ap (λ x. same x (head s)) u ∙ same-itself (head s)

pub same-heads : (h : Shape) (r s : Tree) → same_head r s ≡ true → (front h r ≡ front h s) × (back r ≡ back s)
same-heads h r s e =
    let u : head r ≡ head s = same-true (head r) (head s) e in
    (ap (front h) u, ap back u)

-- a record that can be written has such a head
pub record-head : (h k : Shape) (r : Tree) → IsOf (holder h k) r → Fits (holder h k) (value (holder h k) r) → HeadFits h r
record-head h k r i f = (ap (λ t. Cons (head_of t) (tail_of (tail_of t))) i, (f.0, f.1, f.2.2))

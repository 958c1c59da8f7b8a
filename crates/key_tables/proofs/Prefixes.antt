-- Lists that begin with others.
use Rattle.std.proofs.Common.{◌≡◌, ◌≤◌, List, ◌++◌, length, take, drop, sym, ap, ◌∙◌, subst, arith}
use Rattle.std.proofs.Math.Seq.{take-length}
use Rattle.std.proofs.lemmas.List.{length-take, take-append-drop, take-append-le}
use Rattle.schema.specs.Prefix.{IsPrefix}

-- a list is cut to its prefix, and what it is cut to is one
pub prefix_taken : {A : Type 0} (a b : List A) → IsPrefix a b → take (length a) b ≡ a
prefix_taken a b e = ap (take (length a)) e ∙ take-append-le (length a) a (drop (length a) b) (omega arith) ∙ take-length a

pub prefix_from : {A : Type 0} (a b : List A) → take (length a) b ≡ a → IsPrefix a b
prefix_from a b e = sym (take-append-drop (length a) b) ∙ ap (λ t. t ++ drop (length a) b) e

pub prefix_itself : {A : Type 0} (a : List A) → IsPrefix a a
prefix_itself a = prefix_from a a (take-length a)

-- a prefix is no longer than the list
pub prefix_length : {A : Type 0} (a b : List A) → IsPrefix a b → length a ≤ length b
prefix_length a b e = omega (arith, length-take (length a) b, ap length (prefix_taken a b e))

-- more may come after the list
pub prefix_before : {A : Type 0} (a b c : List A) → IsPrefix a b → IsPrefix a (b ++ c)
prefix_before a b c e = prefix_from a (b ++ c) (take-append-le (length a) b c (prefix_length a b e) ∙ prefix_taken a b e)

-- a prefix of a prefix
pub prefix_over : {A : Type 0} (a b c : List A) → IsPrefix a b → IsPrefix b c → IsPrefix a c
prefix_over a b c e f = subst (IsPrefix a) (sym f) (prefix_before a b (drop (length b) c) e)

pub prefix_longer : {A : Type 0} (a b c d : List A) → d ≡ b ++ c → IsPrefix a b → IsPrefix a d
prefix_longer a b c d e h = subst (IsPrefix a) (sym e) (prefix_before a b c h)

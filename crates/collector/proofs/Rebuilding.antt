-- What is kept of a value that came is kept of the one that was wanted.
use Rattle.std.proofs.Common.{◌≡◌, Option, Some, None, Result, Ok, Err, IfOk, IfSome, IsOkAnd, subst, sym}
use Rattle.outside.specs.FileMap.{FileMap}
use Rattle.collector.specs.Messages.{after}
use Rattle.collector.specs.declared.output.Output.{Output}
use Rattle.collector.specs.declared.stop.Stop.{Stop}

pub kept : {A : Type 0} (want : Result A Stop) (a : A) (keeps : A → Output → Type 0) (r : Result Output Stop)
    → want ≡ Ok a → IfOk r (keeps a) → IfOk r (λ output. IsOkAnd want (λ a. keeps a output))
kept want a keeps (Ok output) e h = subst (λ w. IsOkAnd w (λ a. keeps a output)) (sym e) h
kept want a keeps (Err stop) e h = tt

-- the same of a value that is wanted of a map, where one is told
pub kept_told : {A : Type 0} (told : Option FileMap) (want : FileMap → Result A Stop) (a : A) (keeps : A → Output → Type 0) (r : Result Output Stop)
    → IfSome told (λ m. want m ≡ Ok a) → IfOk r (keeps a) → IfOk r (λ output. IfSome told (λ m. IsOkAnd (want m) (λ a. keeps a output)))
kept_told None want a keeps (Ok output) e h = tt
kept_told (Some m) want a keeps (Ok output) e h = kept (want m) a keeps (Ok output) e h
kept_told told want a keeps (Err stop) e h = tt

-- and where it comes after another one
pub kept_after : {A B : Type 0} (told : Option FileMap) (first : FileMap → Result A Stop) (next : A → Result B Stop) (a : A) (keeps : B → Output → Type 0) (r : Result Output Stop)
    → IfSome told (λ m. first m ≡ Ok a) → IfOk r (λ output. IsOkAnd (next a) (λ b. keeps b output))
    → IfOk r (λ output. IfSome told (λ m. IsOkAnd (after (first m) next) (λ b. keeps b output)))
kept_after None first next a keeps (Ok output) e h = tt
kept_after (Some m) first next a keeps (Ok output) e h = subst (λ w. IsOkAnd (after w next) (λ b. keeps b output)) (sym e) h
kept_after told first next a keeps (Err stop) e h = tt

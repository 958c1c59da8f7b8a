-- What a sink has taken after several calls.
use Rattle.std.proofs.Common.{◌≡◌, ℕ, List, ◌++◌, length, Option, Some, None, refl, sym, ap, ◌∙◌, take, drop, ◌+◌, ◌-◌, append_assoc, arith, length-drop}
use Rattle.std.proofs.Math.Seq.{take-add}
use Rattle.std.proofs.lemmas.List.{take_all}
use Rattle.outside.specs.Streams.{appended}

-- bytes at the end twice are both of them at the end
pub appended-appended : (o : Option (List ℕ)) (a b : List ℕ) → appended (appended o a) b ≡ appended o (a ++ b)
appended-appended None a b = refl
appended-appended (Some taken) a b = ap (λ (l : List ℕ). Some l) (append_assoc taken a b)

-- after the first `at` bytes of a text, the first n of those after them
pub appended_more : (o now : Option (List ℕ)) (at n : ℕ) (text : List ℕ) → now ≡ appended o (take at text)
    → appended now (take n (take (length text - at) (drop at text))) ≡ appended o (take (at + n) text)
appended_more o now at n text is =
    ap (λ (p : Option (List ℕ)). appended p (take n (take (length text - at) (drop at text)))) is
    ∙ ap (λ (l : List ℕ). appended (appended o (take at text)) (take n l)) (take_all _ _ (omega (arith, length-drop at text)))
    ∙ appended-appended o (take at text) (take n (drop at text))
    ∙ ap (appended o) (sym (take-add at n text))

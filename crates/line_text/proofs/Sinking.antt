-- What waits is taken, and then a text.
use Rattle.std.proofs.Common.{◌≡◌, ◌<◌, ℕ, Option, List, [], ◌++◌, length, sym, ap, ◌∙◌, arith, length-append}
use Rattle.std.proofs.Math.Seq.{take-append_seam, drop-append_seam, drop-length}
use Rattle.std.proofs.lemmas.List.{take_all}
use Rattle.std.proofs.Common.{Result, Ok, Err, OnErr}
use Rattle.outside.specs.Streams.{appended, TookPrefix}
use Rattle.outside.specs.declared.fault.IoFault.{IoFault}
use Rattle.line_text.specs.Pens.{Moved}
use Rattle.line_text.specs.PenLaws.{moved_after, took_after}

-- all of a text was taken
pub all_taken : (text : List ℕ) (t t' : Option (List ℕ)) → t' ≡ appended t text → Moved text t t' []
all_taken text t t' e = record {
  count = length text;
  within = omega arith;
  took = e ∙ ap (appended t) (sym (take_all (length text) text (omega arith)));
  waits = sym (drop-length text);
}

-- what waited was taken, and the text waits
pub then_waits : (w text : List ℕ) (t t' : Option (List ℕ)) → t' ≡ appended t w → Moved (w ++ text) t t' text
then_waits w text t t' e = record {
  count = length w;
  within = omega (arith, length-append w text);
  took = e ∙ ap (appended t) (sym (take-append_seam w text));
  waits = sym (drop-append_seam w text);
}

-- what waited was taken, and not the text
pub not_the_text : (w text : List ℕ) (t t' : Option (List ℕ)) → 0 < length text → t' ≡ appended t w → TookPrefix (w ++ text) t t'
not_the_text w text t t' some e = (length w, omega (arith, some, length-append w text), e ∙ ap (appended t) (sym (take-append_seam w text)))

-- what waited was taken, and a part of the text
pub part_of_text : (w text : List ℕ) (t t' t'' : Option (List ℕ)) → t' ≡ appended t w → TookPrefix text t' t'' → TookPrefix (w ++ text) t t''
part_of_text w text t t' t'' e p = took_after w text [] t t' t'' (all_taken w t t' e) p

-- what waited was taken, and the text
pub and_the_text : (w text : List ℕ) (t t' t'' : Option (List ℕ)) → t' ≡ appended t w → t'' ≡ appended t' text → Moved (w ++ text) t t'' []
and_the_text w text t t' t'' e e' = moved_after w text [] [] t t' t'' (all_taken w t t' e) (all_taken text t' t'' e')

-- the same at the answer of a call that writes the text
pub refused_after : (w text : List ℕ) (t t' t'' : Option (List ℕ)) (result : Result (Unit {0}) IoFault) → t' ≡ appended t w
    → OnErr result (TookPrefix text t' t'') → OnErr result (TookPrefix (w ++ text) t t'')
refused_after w text t t' t'' (Ok x) e p = p
refused_after w text t t' t'' (Err fault) e p = part_of_text w text t t' t'' e p

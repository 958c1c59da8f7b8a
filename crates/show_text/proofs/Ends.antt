-- What is told of a text when it was put.
use Rattle.std.proofs.Common.{◌≡◌, ◌<◌, ◌-◌, ◌^◌, inr, ℕ, List, [], ◌++◌, length, map, take, drop, Option, Some, None, Result, Ok, Err, IfOk, IfErr, OnOk, refl, sym, ap, subst, ◌∙◌, arith, append_assoc}
use Rattle.std.proofs.lemmas.List.{take-append-drop, append-nil}
use Rattle.outside.specs.Streams.{appended, TookPrefix}
use Rattle.outside.specs.declared.fault.IoFault.{IoFault}
use Rattle.outside.specs.declared.fault.IoFault.TheVariants.{Failed, NoMemory}
use Rattle.pb_wire.specs.declared.memory.NoMemory as memory
use Rattle.schema.specs.Messages.{dictionary, resource_profiles}
use Rattle.schema.specs.Shape.{Value}
use Rattle.meaning.specs.Message.{tables_in}
use Rattle.meaning.specs.Tables.{Tables}
use Rattle.prof_rec.specs.Views.{resource_profiles_view}
use Rattle.prof_rec.specs.declared.resource_profiles.ResourceProfiles.{ResourceProfiles}
use Rattle.otlp_msg.specs.Message.{Message}
use Rattle.shown.specs.Direct.{meant}
use Rattle.shown.specs.ShowText.{show_of, show_text}
use Rattle.shown.proofs.Appended.{message-text}
use Rattle.line_text.specs.Counting.{Counts}
use Rattle.line_text.specs.Pens.{Place, Moved, Went, PutFrom, Ended, EndedBy}
use Rattle.line_text.specs.PenLaws.{took_after}
use Rattle.show_text.specs.Showing.{PartBy}

-- the text of the records is that of the message
pub text_of : (t : Tables) (d : Value dictionary) (xs ys : List ResourceProfiles) (x : Message) → t ≡ tables_in d → xs ≡ ys → (map resource_profiles_view ys, (d, tt)) ≡ x
    → show_of (map (meant t resource_profiles) (map resource_profiles_view xs)) ≡ show_text x
text_of t d xs ys x e e' is =
    ap (λ (u : Tables). show_of (map (meant u resource_profiles) (map resource_profiles_view xs))) e
    ∙ ap (λ (l : List ResourceProfiles). show_of (map (meant (tables_in d) resource_profiles) (map resource_profiles_view l))) e'
    ∙ sym (message-text (map resource_profiles_view ys, (d, tt)))
    ∙ ap show_text is

-- ---- a length

pub counted_in_full : (text wanted : List ℕ) (begin n : ℕ) (result : Result ℕ memory.NoMemory) → text ≡ wanted → begin ≡ 0 → Counts begin text n
    → IfOk result (λ bytes. (bytes ≡ n) × (bytes < 2 ^ 128 - 1)) → IfOk result (λ bytes. bytes ≡ length wanted)
counted_in_full text wanted begin n (Ok bytes) e zero counts full = omega (arith, counts, zero, full.0, full.1, ap length e)
counted_in_full text wanted begin n (Err stop) e zero counts full = full

-- ---- a text that was written

appended_twice : (taken : Option (List ℕ)) (x y : List ℕ) → appended (appended taken x) y ≡ appended taken (x ++ y)
appended_twice None x y = refl
appended_twice (Some t) x y = ap Some (append_assoc t x y)

-- what a pen that has nothing waiting puts
begun : (text : List ℕ) (a b : Place) → a.pen.waiting ≡ [] → a.pen.stop ≡ None → PutFrom a.pen.stop text a b → Went b.pen.stop text a b
begun text a b none going puts =
    subst (λ w. Went b.pen.stop (w ++ text) a b) none (subst (λ s. PutFrom s text a b) going puts)

pub written : (text wanted : List ℕ) (a b : Place) (taken : Option (List ℕ)) (result : Result (Unit {0}) IoFault) → text ≡ wanted
    → a.pen.waiting ≡ [] → a.pen.stop ≡ None → PutFrom a.pen.stop text a b
    → OnOk result ((b.pen.stop ≡ None) × (taken ≡ appended b.taken b.pen.waiting)) → OnOk result (taken ≡ appended a.taken wanted)
written text wanted a b taken (Ok x) e none going puts done =
    let moved = (subst (λ s. Went s text a b) done.0 (begun text a b none going puts)).0 in
    done.1 ∙ ap (λ (t : Option (List ℕ)). appended t b.pen.waiting) moved.took ∙ ap (appended (appended a.taken (take moved.count text))) moved.waits
    ∙ appended_twice a.taken (take moved.count text) (drop moved.count text)
    ∙ ap (appended a.taken) (take-append-drop moved.count text ∙ e)
written text wanted a b taken (Err stop) e none going puts done = done

-- ---- a text that was not written whole

rest_cut : (text : List ℕ) (a b : Place) (taken : Option (List ℕ)) → Moved text a.taken b.taken b.pen.waiting → TookPrefix b.pen.waiting b.taken taken → TookPrefix text a.taken taken
rest_cut text a b taken moved part =
    subst (λ t. TookPrefix t a.taken taken) (append-nil text)
    (took_after text [] b.pen.waiting a.taken b.taken taken moved (subst (λ t. TookPrefix t b.taken taken) (sym (append-nil b.pen.waiting)) part))

cut_short : (stop : Option IoFault) (fault : IoFault) (text : List ℕ) (a b : Place) (taken : Option (List ℕ)) (faults : ℕ)
    → Went stop text a b → EndedBy stop b.pen.waiting fault b.taken taken b.faults faults → PartBy text a.taken taken fault
cut_short (Some Failed) fault text a b taken faults went ended =
    subst (PartBy text a.taken taken) (sym ended.0) (subst (TookPrefix text a.taken) (sym ended.1) went.0)
cut_short (Some NoMemory) fault text a b taken faults went ended =
    subst (PartBy text a.taken taken) (sym ended.0) (inr (subst (TookPrefix text a.taken) (sym ended.1) went.0))
cut_short None Failed text a b taken faults went ended = rest_cut text a b taken went.0 ended.0
cut_short None NoMemory text a b taken faults went ended = inr (rest_cut text a b taken went.0 ended.0)

pub not_written : (text wanted : List ℕ) (a b : Place) (taken : Option (List ℕ)) (faults : ℕ) (result : Result (Unit {0}) IoFault) → text ≡ wanted
    → a.pen.waiting ≡ [] → a.pen.stop ≡ None → PutFrom a.pen.stop text a b
    → IfErr result (λ fault. Ended b.pen fault b.taken taken b.faults faults) → IfErr result (PartBy wanted a.taken taken)
not_written text wanted a b taken faults (Ok x) e none going puts ended = ended
not_written text wanted a b taken faults (Err fault) e none going puts ended =
    subst (λ t. PartBy t a.taken taken fault) e (cut_short b.pen.stop fault text a b taken faults (begun text a b none going puts) ended)

use Rattle.std.proofs.Common.{◌≡◌, ◌+◌, ◌++◌, ℕ, List, length, take, drop, get_or, sym, ap, ◌∙◌, arith, append_assoc, subst}
use Rattle.std.proofs.Math.Seq.{drop-append_seam}
use Rattle.std.specs.List.{flat_map}
use Rattle.std.proofs.lemmas.List.{take_all}
use Rattle.std.proofs.lemmas.Option.{get_or_from_slice_get, slice_get_within}
use Rattle.schema.specs.Each.{Each}
use Rattle.schema.specs.Messages.{sample}
use Rattle.schema.specs.Moved.{moved}
use Rattle.schema.specs.Texts.{long_field}
use Rattle.schema.specs.Spell.{spell}
use Rattle.schema.specs.Typed.{IsTyped}
use Rattle.schema.specs.Prefix.{IsPrefix}
use Rattle.pb_wire.proofs.RowTexts.{items_moved, moved_within, next_text}
use Rattle.pb_wire.proofs.Types.{each_next, each_seen}
use Rattle.prof_rec.specs.SampleRefs.{sample_of}
use Rattle.prof_rec.specs.Views.{sample_view}
use Rattle.prof_rec.proofs.sample_rows.put_samples.Goals as goal

-- what is in front stays there
begins : (old new more : List ℕ) → new ≡ old ++ more → IsPrefix old new
begins old new more e = e ∙ ap (λ (t : List ℕ). old ++ t) (sym (ap (drop (length old)) e ∙ drop-append_seam old more))

-- the length of the sample's field is within that of the row
pub put_one-requires-clause-room : goal.put_one-requires-clause-room
put_one-requires-clause-room g c =
    let x = sample_of c.at-item.result in
    let is : x ≡ get_or c.args.samples.now c.loop-place.place x = sym (get_or_from_slice_get c.args.samples.now c.loop-place.place x x c.at-item.ensures) in
    omega (arith, moved_within sample (moved (g.I.NewIndexes.to c.args.indexes.now) sample) sample_view c.args.number c.args.samples.now c.loop-place.place x (slice_get_within c.args.samples.now c.loop-place.place x c.at-item.ensures) is)

pub loop-place-preserved : goal.loop-place-preserved
loop-place-preserved g c =
    let x = sample_of c.at-item.result in
    let is : x ≡ get_or c.args.samples.now c.loop-place.place x = sym (get_or_from_slice_get c.args.samples.now c.loop-place.place x x c.at-item.ensures) in
    let within = slice_get_within c.args.samples.now c.loop-place.place x c.at-item.ensures in
    let move = moved (g.I.NewIndexes.to c.args.indexes.now) sample in
    let text = λ (y : _). long_field c.args.number (spell sample (move (sample_view y))) in
    let more = flat_map text (take (c.loop-place.place + 1) c.args.samples.now) in
    let all : c.put_one.new.out ≡ c.args.out.now ++ more =
    c.in_default.ensures.ok
    ∙ ap (λ (t : List ℕ). t ++ text x) c.loop-place.invariant.0
    ∙ append_assoc c.args.out.now (flat_map text (take c.loop-place.place c.args.samples.now)) (text x)
    ∙ ap (λ (t : List ℕ). c.args.out.now ++ t) (sym (next_text text c.args.samples.now c.loop-place.place x within is)) in
    let typed = λ (y : _). IsTyped sample (sample_view y) in (
      all,
      begins c.args.out.now c.put_one.new.out more all,
      each_next typed c.args.samples.now c.loop-place.place x within is c.loop-place.invariant.2 c.in_default.ensures.typed,
    )

pub returns-clause-ok : goal.returns-clause-ok
returns-clause-ok g c =
    let move = moved (g.I.NewIndexes.to c.args.indexes.now) sample in
    let text = λ (y : _). long_field c.args.number (spell sample (move (sample_view y))) in
    c.loop-place.invariant.0
    ∙ ap (λ (t : List ℕ). c.args.out.now ++ t) (ap (flat_map text) (take_all c.loop-place.place c.args.samples.now (omega arith)) ∙ sym (items_moved c.args.number (spell sample) move sample_view c.args.samples.now))

pub returns-clause-typed : goal.returns-clause-typed
returns-clause-typed g c =
    let typed = λ (y : _). IsTyped sample (sample_view y) in
    each_seen (IsTyped sample) sample_view c.args.samples.now
    (subst (Each typed) (take_all c.loop-place.place c.args.samples.now (omega arith)) c.loop-place.invariant.2)

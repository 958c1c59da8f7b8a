use Rattle.std.proofs.Common.{◌≡◌, length, get_or, ap, sym, ◌∙◌, arith}
use Rattle.std.specs.List.{flat_map}
use Rattle.std.proofs.lemmas.List.{take_all}
use Rattle.std.proofs.lemmas.Option.{get_or_from_slice_get, slice_get_within}
use Rattle.schema.specs.Messages.{sample}
use Rattle.schema.specs.Moved.{moved}
use Rattle.schema.specs.Texts.{long_field}
use Rattle.schema.specs.Spell.{spell}
use Rattle.schema_laws.proofs.Onto.{onto_len}
use Rattle.pb_wire.proofs.RowTexts.{items_moved, long_len_at, moved_within, next_length, next_within}
use Rattle.prof_rec.specs.SampleRefs.{sample_of}
use Rattle.prof_rec.specs.Views.{sample_view}
use Rattle.prof_rec.proofs.sample_rows.samples_len.Goals as goal

-- the length of the sample's field is within that of the row
pub rows_len-requires : goal.rows_len-requires
rows_len-requires g c =
    let x = sample_of c.at-item.result in
    let is : x ≡ get_or c.args.samples.now c.loop-place.place x = sym (get_or_from_slice_get c.args.samples.now c.loop-place.place x x c.at-item.ensures) in
    omega (arith, moved_within sample (moved (g.I.NewIndexes.to c.args.indexes.now) sample) sample_view c.args.number c.args.samples.now c.loop-place.place x (slice_get_within c.args.samples.now c.loop-place.place x c.at-item.ensures) is)

pub long_len-len-requires-clause-room : goal.long_len-len-requires-clause-room
long_len-len-requires-clause-room g c =
    let x = sample_of c.at-item.result in
    let is : x ≡ get_or c.args.samples.now c.loop-place.place x = sym (get_or_from_slice_get c.args.samples.now c.loop-place.place x x c.at-item.ensures) in
    omega (arith, moved_within sample (moved (g.I.NewIndexes.to c.args.indexes.now) sample) sample_view c.args.number c.args.samples.now c.loop-place.place x (slice_get_within c.args.samples.now c.loop-place.place x c.at-item.ensures) is)

pub overflow_add-len : goal.overflow_add-len
overflow_add-len g c =
    let x = sample_of c.at-item.result in
    let is : x ≡ get_or c.args.samples.now c.loop-place.place x = sym (get_or_from_slice_get c.args.samples.now c.loop-place.place x x c.at-item.ensures) in
    let within = slice_get_within c.args.samples.now c.loop-place.place x c.at-item.ensures in
    let move = moved (g.I.NewIndexes.to c.args.indexes.now) sample in
    let text = λ (y : _). long_field c.args.number (spell sample (move (sample_view y))) in
    let v = move (sample_view x) in
    let len : c.rows_len.result ≡ length (spell sample v) = c.rows_len.ensures ∙ omega (arith, onto_len sample 0 v) in
    omega (
      arith,
      next_within text c.args.samples.now c.loop-place.place x within is,
      long_len_at c.args.number c.rows_len.result (spell sample v) len,
      ap length (items_moved c.args.number (spell sample) move sample_view c.args.samples.now),
    )

pub loop-place-preserved : goal.loop-place-preserved
loop-place-preserved g c =
    let x = sample_of c.at-item.result in
    let is : x ≡ get_or c.args.samples.now c.loop-place.place x = sym (get_or_from_slice_get c.args.samples.now c.loop-place.place x x c.at-item.ensures) in
    let within = slice_get_within c.args.samples.now c.loop-place.place x c.at-item.ensures in
    let move = moved (g.I.NewIndexes.to c.args.indexes.now) sample in
    let text = λ (y : _). long_field c.args.number (spell sample (move (sample_view y))) in
    let v = move (sample_view x) in
    let len : c.rows_len.result ≡ length (spell sample v) = c.rows_len.ensures ∙ omega (arith, onto_len sample 0 v) in
    omega (arith, next_length text c.args.samples.now c.loop-place.place x within is, long_len_at c.args.number c.rows_len.result (spell sample v) len)

pub returns : goal.returns
returns g c =
    let move = moved (g.I.NewIndexes.to c.args.indexes.now) sample in
    let text = λ (y : _). long_field c.args.number (spell sample (move (sample_view y))) in
    let items = c.args.samples.now in
    omega (arith, c.loop-place.invariant, ap (λ t. length (flat_map text t)) (take_all c.loop-place.place items (omega arith)), ap length (items_moved c.args.number (spell sample) move sample_view items))

use Rattle.std.proofs.Common.{◌≡◌, ◌+◌, ◌++◌, ◌∙◌, length, ap, sym, arith, length-append}
use Rattle.schema.specs.Messages.{sample}
use Rattle.schema.specs.Moved.{moved}
use Rattle.schema.specs.Spell.{spell}
use Rattle.schema.specs.Texts.{varint}
use Rattle.schema_laws.proofs.Onto.{onto}
use Rattle.prof_rec.specs.SampleRefs.{sample_of}
use Rattle.prof_rec.specs.Views.{sample_view}
use Rattle.prof_rec.proofs.LengthBytes.{one_more, short_field}
use Rattle.prof_rec.proofs.sample_rows.put_unmeasured.Goals as goal

pub overflow_sub-at : goal.overflow_sub-at
overflow_sub-at g c = omega (arith, c.len-at.ensures, one_more _ c.put_head.new.out c.in_ok-put_head.ensures.ok)

pub set-requires : goal.set-requires
set-requires g c =
    let v = moved (g.I.NewIndexes.to c.args.indexes.now) sample (sample_view (sample_of c.args.item.now)) in
    let all : c.put_rows.new.out ≡ c.put_head.new.out ++ spell sample v = c.in_ok-put_rows.ensures.ok ∙ onto sample c.put_head.new.out v in
    omega (arith, c.len-at.ensures, one_more _ c.put_head.new.out c.in_ok-put_head.ensures.ok, ap length all, length-append c.put_head.new.out (spell sample v))

pub returns-then-len-lt128-clause-ok : goal.returns-then-len-lt128-clause-ok
returns-then-len-lt128-clause-ok g c =
    let v = moved (g.I.NewIndexes.to c.args.indexes.now) sample (sample_view (sample_of c.args.item.now)) in
    let all : c.put_rows.new.out ≡ c.put_head.new.out ++ spell sample v = c.in_ok-put_rows.ensures.ok ∙ onto sample c.put_head.new.out v in
    c.set.ensures
    ∙ short_field c.args.out.now c.put_head.new.out c.put_rows.new.out (spell sample v) c.args.number _ _ c.in_ok-put_head.ensures.ok all
    (omega (arith, c.len-at.ensures, one_more _ c.put_head.new.out c.in_ok-put_head.ensures.ok))
    (omega (arith, c.len-at.ensures, c.len.ensures, ap length all, length-append c.put_head.new.out (spell sample v)))
    (omega (arith, c.if-len-lt128.true))

use Rattle.std.proofs.Common.{◌++◌, ℕ, List, ap, ◌∙◌, arith}
use Rattle.schema.specs.Messages.{sample}
use Rattle.schema.specs.Moved.{moved}
use Rattle.schema.specs.Spell.{spell}
use Rattle.schema_laws.proofs.Onto.{long_onto, onto, onto_len}
use Rattle.prof_rec.specs.SampleRefs.{sample_of}
use Rattle.prof_rec.specs.Views.{sample_view}
use Rattle.prof_rec.proofs.sample_rows.put_measured.Goals as goal

pub returns-clause-ok : goal.returns-clause-ok
returns-clause-ok g c =
    let v = moved (g.I.NewIndexes.to c.args.indexes.now) sample (sample_view (sample_of c.args.item.now)) in
    c.in_ok-put_rows.ensures.ok
    ∙ onto sample c.put_head.new.out v
    ∙ ap (λ (t : List ℕ). t ++ spell sample v) c.in_ok-put_head.ensures.ok
    ∙ long_onto c.args.out.now c.args.number c.args.len (spell sample v) (c.requires.same ∙ omega (arith, onto_len sample 0 v))

use Rattle.std.proofs.Common.{◌≡◌, ◌++◌, take}
use Rattle.std.specs.List.{flat_map}
use Rattle.schema.specs.Each.{Each}
use Rattle.schema.specs.Messages.{sample}
use Rattle.schema.specs.Moved.{moved}
use Rattle.schema.specs.Texts.{long_field}
use Rattle.schema.specs.Spell.{spell}
use Rattle.schema.specs.Typed.{IsTyped}
use Rattle.schema.specs.Prefix.{IsPrefix}
use Rattle.prof_rec.specs.Views.{sample_view}
use Rattle.prof_rec.proofs.sample_rows.put_samples.Given as goal

-- the samples so far follow what was there, and are typed
abbrev pub invariant-loop-place : goal.invariant-loop-place
invariant-loop-place g l =
    (l.out ≡ l.initial.out ++ flat_map (λ x. long_field l.number (spell sample (moved (g.I.NewIndexes.to l.indexes) sample (sample_view x)))) (take l.place l.samples)) × IsPrefix l.initial.out l.out
    × Each (λ x. IsTyped sample (sample_view x)) (take l.place l.samples)

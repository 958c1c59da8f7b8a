use Rattle.std.proofs.Common.{◌≡◌, length, take}
use Rattle.std.specs.List.{flat_map}
use Rattle.schema.specs.Messages.{sample}
use Rattle.schema.specs.Moved.{moved}
use Rattle.schema.specs.Texts.{long_field}
use Rattle.schema.specs.Spell.{spell}
use Rattle.prof_rec.specs.Views.{sample_view}
use Rattle.prof_rec.proofs.sample_rows.samples_len.Given as goal

-- the length of the samples so far
abbrev pub invariant-loop-place : goal.invariant-loop-place
invariant-loop-place g l = l.len ≡ length (flat_map (λ x. long_field l.number (spell sample (moved (g.I.NewIndexes.to l.indexes) sample (sample_view x)))) (take l.place l.samples))

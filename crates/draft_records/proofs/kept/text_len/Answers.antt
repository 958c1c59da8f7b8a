use Rattle.std.proofs.Common.{sym, ap, ◌∙◌}
use Rattle.parts.specs.Sums.{sum_of}
use Rattle.parts.proofs.Sizes.{text_size}
use Rattle.draft_records.specs.Kept.{parts_of}
use Rattle.draft_records.proofs.kept.text_len.Goals as goal

pub returns-clause-is : goal.returns-clause-is
returns-clause-is c = c.total.ensures.is ∙ ap sum_of c.requires.totals ∙ sym (text_size (parts_of c.args.kept.now))

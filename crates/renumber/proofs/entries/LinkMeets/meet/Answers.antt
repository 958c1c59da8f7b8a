use Rattle.std.proofs.Common.{refl}
use Rattle.schema.specs.Messages.{link}
use Rattle.dict_rec.specs.Views.{link_view}
use Rattle.renumber.proofs.Walks.{walked_nothing}
use Rattle.renumber.proofs.entries.LinkMeets.meet.Goals as goal

pub returns-clause-walked : goal.returns-clause-walked
returns-clause-walked g c = walked_nothing link refl (link_view c.args.self.now) _

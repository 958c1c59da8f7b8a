use Rattle.std.proofs.Common.{OnOk, subst}
use Rattle.dict_build.specs.Adders.{Adding}
use Rattle.draft_contents.specs.Draft.{StandsWithin}
use Rattle.draft_contents.specs.Singles.{alone}
use Rattle.split_merge.proofs.cutting.add_at.Goals as goal

pub returns-clause-ok : goal.returns-clause-ok
returns-clause-ok g c =
    subst (λ (a : Adding). OnOk c.add.result (StandsWithin c.args.limit c.args.joining a.draft c.add.new.self.draft (alone a.message c.args.place.pos)))
    c.in_ok-turn_to.ensures.ok c.add.ensures.ok

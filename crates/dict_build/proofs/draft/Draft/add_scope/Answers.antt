use Rattle.otlp_msg.specs.Checked.{value_of}
use Rattle.draft_contents.specs.Contents.{contents}
use Rattle.draft_contents.specs.Singles.{alone}
use Rattle.draft_contents.specs.declared.incoming.Joining.TheVariants.{Scope}
use Rattle.draft_contents.proofs.Drafts.{still_stands}
use Rattle.dict_build.proofs.draft.Draft.add_scope.Goals as goal

pub invariant_of-self : goal.invariant_of-self
invariant_of-self g c =
    still_stands c.add_profile_at.result Scope (contents c.self.inside.tables c.self.inside.records) (contents c.add_profile_at.new.tables c.add_profile_at.new.records)
    (alone (value_of c.args.message.now) c.args.pos) c.self.invariant c.add_profile_at.ensures.ok c.add_profile_at.ensures.same

pub returns-clause-ok : goal.returns-clause-ok
returns-clause-ok g c = rw (← c.self.view_is) c.add_profile_at.ensures.ok

use Rattle.std.proofs.Common.{◌≡◌, ◌∙◌, ap, refl, subst, sym}
use Rattle.otlp_msg.specs.Checked.{value_of}
use Rattle.renumber.specs.Walk.{State}
use Rattle.draft_contents.specs.Contents.{Contents, contents}
use Rattle.draft_contents.specs.Marks.{IsMark, cut_to}
use Rattle.draft_contents.proofs.Drafts.{contents_same}
use Rattle.draft_contents.proofs.Marks.{records_there}
use Rattle.dict_build.specs.States.{IsWalkOver}
use Rattle.dict_build.proofs.Going.{back_to_start, begun_grown, begun_seen, is_at_start, over_at_start, walk_at_start}
use Rattle.dict_build.proofs.state.restart.Goals as goal

pub back_to-requires : goal.back_to-requires
back_to-requires g c =
    let w = c.args.state.now in
    back_to_start (value_of w.message.now) w.start w.walk w.records c.requires.state.walk c.requires.state.grown (record { keys = w.start.keys; memo = c.none.result }) refl c.none.ensures

pub back_to-requires-2 : goal.back_to-requires-2
back_to-requires-2 g c =
    let w = c.args.state.now in
    records_there w.start (contents w.walk.keys w.records) c.requires.state.grown.back

pub returns-clause-state : goal.returns-clause-state
returns-clause-state g c =
    let w = c.args.state.now in
    let there : c.back_to.new.self ≡ walk_at_start (value_of w.message.now) w.start w.walk w.records c.requires.state.walk c.requires.state.grown =
    c.back_to.ensures
    ∙ is_at_start (value_of w.message.now) w.start w.walk w.records c.requires.state.walk c.requires.state.grown (record { keys = w.start.keys; memo = c.none.result }) refl c.none.ensures in
    let same : contents c.back_to.new.self.keys c.back_to-2.new.self ≡ cut_to w.start (contents w.walk.keys w.records) = contents_same _ _ _ _ (ap (λ (s : State). s.keys) there) c.back_to-2.ensures in
    record {
      walk = subst (λ (s : State). IsWalkOver (value_of w.message.now) s) (sym there) (over_at_start (value_of w.message.now) w.start w.walk w.records c.requires.state.walk c.requires.state.grown);
      grown = begun_grown w.start (contents c.back_to.new.self.keys c.back_to-2.new.self) (subst (λ (d : Contents). IsMark w.start d) (sym same) c.requires.state.grown.back.mark);
      heads = tt;
    }

pub returns-clause-seen : goal.returns-clause-seen
returns-clause-seen g c =
    let w = c.args.state.now in
    let there : c.back_to.new.self ≡ walk_at_start (value_of w.message.now) w.start w.walk w.records c.requires.state.walk c.requires.state.grown =
    c.back_to.ensures
    ∙ is_at_start (value_of w.message.now) w.start w.walk w.records c.requires.state.walk c.requires.state.grown (record { keys = w.start.keys; memo = c.none.result }) refl c.none.ensures in
    let same : contents c.back_to.new.self.keys c.back_to-2.new.self ≡ cut_to w.start (contents w.walk.keys w.records) = contents_same _ _ _ _ (ap (λ (s : State). s.keys) there) c.back_to-2.ensures in
    begun_seen (value_of w.message.now) w.start c.back_to.new.self c.back_to-2.new.self (cut_to w.start (contents w.walk.keys w.records)) c.requires.state.grown.back.mark same

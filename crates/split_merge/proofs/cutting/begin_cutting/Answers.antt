use Rattle.std.proofs.Common.{[], ap, sym, subst, ◌∙◌}
use Rattle.schema.specs.Messages.{envelope}
use Rattle.schema.specs.Shape.{empty}
use Rattle.otlp_msg.specs.Checked.{value_of}
use Rattle.dict_build.specs.Adders.{Adding}
use Rattle.draft_contents.specs.Draft.{StandsFor}
use Rattle.split_merge.proofs.Numbers.{seen_at, seen_below}
use Rattle.split_merge.proofs.cutting.begin_cutting.Goals as goal

pub returns-in-Ok-clause-state : goal.returns-in-Ok-clause-state
returns-in-Ok-clause-state g c =
    let messages = c.args.input.now.messages.now in
    let number = c.args.first.message in
    let x = c.index-input-number.result in
    let e = c.in-Ok.ensures.ok in
    let below = seen_below value_of messages number c.requires.message in
    record {
      over = record {
        within = c.requires.message;
        message = ap (λ (a : Adding). a.message) e ∙ sym (ap value_of c.index-input-number.is)
            ∙ sym (seen_at value_of messages number x (empty envelope) below c.index-input-number.is);
      };
      rest = record {
        start = ap (λ (a : Adding). a.draft) e ∙ sym (ap (λ (a : Adding). a.start) e);
        empty = subst (λ (a : Adding). StandsFor a.draft []) (sym e) c.in_ok-draft.ensures;
      };
      place = c.requires;
    }

use Rattle.std.proofs.Common.{refl, ap, ◌∙◌, ◌∷◌, ◌++◌, []}
use Rattle.parts.specs.Records.{held}
use Rattle.operations.specs.Seams.{append_joining, same_head, joined_scope}
use Rattle.operations.proofs.Joining.{held-holding, joining-none, joining-between}
use Rattle.operations.proofs.joined_records_hold_both.Goals as goal

pub returns : goal.returns
returns c = record {
  resource_head = λ r s. refl;
  first = λ r s e. held-holding r (append_joining same_head joined_scope (held r) (held s)) ∙ ap (λ l. append_joining same_head joined_scope l (held s)) e;
  last = λ r s e.
      held-holding r (append_joining same_head joined_scope (held r) (held s)) ∙ ap (append_joining same_head joined_scope (held r)) e
      ∙ joining-none same_head joined_scope (held r);
  between = λ r s a q t b e f.
      held-holding r (append_joining same_head joined_scope (held r) (held s)) ∙ ap (λ l. append_joining same_head joined_scope l (held s)) e
      ∙ ap (append_joining same_head joined_scope (a ++ q ∷ [])) f ∙ joining-between same_head joined_scope a q t b;
  scope_head = λ q t. refl;
  profiles = λ q t. held-holding q (held q ++ held t);
}

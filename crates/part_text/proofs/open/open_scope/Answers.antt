use Rattle.std.proofs.Common.{[], ◌∷◌, ◌++◌, sym, ap, ◌∙◌, arith}
use Rattle.part_text.specs.Extents.{backs_len}
use Rattle.part_text.specs.declared.extent.Extent.TheVariants as extents
use Rattle.part_text.proofs.Steps.{last_back, last_scope, last_text}
use Rattle.part_text.proofs.open.open_scope.Goals as goal

pub loop-extent-preserved : goal.loop-extent-preserved
loop-extent-preserved c =
    let i = c.loop-extent.invariant in
    let more = c.in-Some.more.now in
    let p = extents.Profile c.in-Profile.len in
    let e = c.in-Some.ensures ∙ ap (λ q. more ++ q ∷ []) c.in-Profile.is in
    record {
      end = omega (arith, i.end, last_back c.loop-extent.left.now more p e);
      found = sym (last_scope c.loop-extent.left.now more p c.args.backs.now e) ∙ i.found;
    }

pub overflow_sub-result : goal.overflow_sub-result
overflow_sub-result c =
    let more = c.in-Some.more.now in
    omega (arith, c.loop-extent.invariant.end, last_back c.loop-extent.left.now more (extents.Scope c.in-Scope.front c.in-Scope.back) (c.in-Some.ensures ∙ ap (λ q. more ++ q ∷ []) c.in-Scope.is))

pub returns-in-Scope : goal.returns-in-Scope
returns-in-Scope c =
    let i = c.loop-extent.invariant in
    let more = c.in-Some.more.now in
    let p = extents.Scope c.in-Scope.front c.in-Scope.back in
    let e = c.in-Some.ensures ∙ ap (λ q. more ++ q ∷ []) c.in-Scope.is in
    last_text c.args.backs.now (backs_len more) c.in-Scope.back c.args.end (i.end ∙ last_back c.loop-extent.left.now more p e)
    ∙ sym (last_scope c.loop-extent.left.now more p c.args.backs.now e) ∙ i.found

pub returns-in-Resource : goal.returns-in-Resource
returns-in-Resource c =
    let more = c.in-Some.more.now in
    sym (last_scope c.loop-extent.left.now more (extents.Resource c.in-Resource.front c.in-Resource.back) c.args.backs.now (c.in-Some.ensures ∙ ap (λ q. more ++ q ∷ []) c.in-Resource.is))
    ∙ c.loop-extent.invariant.found

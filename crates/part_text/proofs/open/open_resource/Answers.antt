use Rattle.std.proofs.Common.{[], ◌∷◌, ◌++◌, sym, ap, ◌∙◌, arith}
use Rattle.part_text.specs.Extents.{backs_len}
use Rattle.part_text.specs.declared.extent.Extent.TheVariants as extents
use Rattle.part_text.proofs.Steps.{last_back, last_resource, last_text}
use Rattle.part_text.proofs.open.open_resource.Goals as goal

pub loop-extent-preserved-in-Profile : goal.loop-extent-preserved-in-Profile
loop-extent-preserved-in-Profile c =
    let i = c.loop-extent.invariant in
    let more = c.in-Some.more.now in
    let p = extents.Profile c.in-Profile.len in
    let e = c.in-Some.ensures ∙ ap (λ q. more ++ q ∷ []) c.in-Profile.is in
    record {
      last = omega (arith, i.last, last_back c.loop-extent.left.now more p e);
      within = i.within;
      found = sym (last_resource c.loop-extent.left.now more p c.args.backs.now e) ∙ i.found;
    }

pub overflow_sub-last : goal.overflow_sub-last
overflow_sub-last c =
    let more = c.in-Some.more.now in
    omega (arith, c.loop-extent.invariant.last, last_back c.loop-extent.left.now more (extents.Scope c.in-Scope.front c.in-Scope.back) (c.in-Some.ensures ∙ ap (λ q. more ++ q ∷ []) c.in-Scope.is))

pub loop-extent-preserved : goal.loop-extent-preserved
loop-extent-preserved c =
    let i = c.loop-extent.invariant in
    let more = c.in-Some.more.now in
    let p = extents.Scope c.in-Scope.front c.in-Scope.back in
    let e = c.in-Some.ensures ∙ ap (λ q. more ++ q ∷ []) c.in-Scope.is in
    record {
      last = omega (arith, i.last, last_back c.loop-extent.left.now more p e);
      within = omega (arith, i.within);
      found = sym (last_resource c.loop-extent.left.now more p c.args.backs.now e) ∙ i.found;
    }

pub overflow_sub-result : goal.overflow_sub-result
overflow_sub-result c =
    let more = c.in-Some.more.now in
    omega (arith, c.loop-extent.invariant.last, last_back c.loop-extent.left.now more (extents.Resource c.in-Resource.front c.in-Resource.back) (c.in-Some.ensures ∙ ap (λ q. more ++ q ∷ []) c.in-Resource.is))

pub returns-in-Resource : goal.returns-in-Resource
returns-in-Resource c =
    let i = c.loop-extent.invariant in
    let more = c.in-Some.more.now in
    let p = extents.Resource c.in-Resource.front c.in-Resource.back in
    let e = c.in-Some.ensures ∙ ap (λ q. more ++ q ∷ []) c.in-Resource.is in
    last_text c.args.backs.now (backs_len more) c.in-Resource.back c.loop-extent.last (i.last ∙ last_back c.loop-extent.left.now more p e)
    ∙ sym (last_resource c.loop-extent.left.now more p c.args.backs.now e) ∙ i.found

use Rattle.std.proofs.Common.{refl, sym, ap, ◌∙◌, arith, length, drop}
use Rattle.part_text.specs.Extents.{backs_len}
use Rattle.part_text.proofs.Steps.{backs_of, last_front, last_back}
use Rattle.part_text.proofs.Positions.{whole_is, closing_room, starts, extent_room, extent_done}
use Rattle.part_text.proofs.backward.put_parts.Goals as goal

pub put_closing-at-requires-clause-room : goal.put_closing-at-requires-clause-room
put_closing-at-requires-clause-room c =
    let w = whole_is c.args.bytes.now c.args.backs.now c.args.end c.args.texts c.args.extents.now c.requires.fronts c.requires.held c.requires.backs c.requires.size in
    let h = c.open_records.ensures in
    omega (arith, closing_room c.args.bytes.now c.args.backs.now c.args.end c.args.extents.now w, ap length h.scope, ap length h.resource)

pub loop-extent-init : goal.loop-extent-init
loop-extent-init c =
    let w = whole_is c.args.bytes.now c.args.backs.now c.args.end c.args.texts c.args.extents.now c.requires.fronts c.requires.held c.requires.backs c.requires.size in
    let o = c.open_records in
    let h = c.put_closing-at.ensures in
    let at = c.put_closing-at.result in
    record {
      way = starts c.args.bytes.now c.args.backs.now c.args.end c.args.extents.now c.put_closing-at.new.bytes o.result.scope.now o.result.resource.now c.args.texts _
          at.put at.scope at.resource w (sym c.requires.fronts) (sym c.requires.backs) o.ensures.scope o.ensures.resource h.put h.scope h.resource;
      block = refl;
    }

pub overflow_sub-front : goal.overflow_sub-front
overflow_sub-front c =
    omega (arith, c.loop-extent.invariant.way.texts_is, last_front c.loop-extent.left.now c.in-Some.more.now c.in-Some.extent c.in-Some.ensures, c.front_of-front.ensures)

pub overflow_sub-back : goal.overflow_sub-back
overflow_sub-back c =
    omega (arith, c.loop-extent.invariant.way.closing_is, last_back c.loop-extent.left.now c.in-Some.more.now c.in-Some.extent c.in-Some.ensures, c.back_of-back.ensures)

pub closing_before-closing-requires-clause-end : goal.closing_before-closing-requires-clause-end
closing_before-closing-requires-clause-end c =
    omega (arith, c.loop-extent.invariant.way.closing_is, last_back c.loop-extent.left.now c.in-Some.more.now c.in-Some.extent c.in-Some.ensures, c.back_of-back.ensures)

pub closing_before-closing-requires-clause-within : goal.closing_before-closing-requires-clause-within
closing_before-closing-requires-clause-within c =
    let i = c.loop-extent.invariant.way in
    let left = c.loop-extent.left.now in
    omega (arith, i.closing_is, ap backs_len i.cut, backs_of left (drop (length left) c.args.extents.now), c.requires.backs)

pub put_extent-at-requires-clause-room : goal.put_extent-at-requires-clause-room
put_extent-at-requires-clause-room c =
    let i = c.loop-extent.invariant.way in
    let at = c.loop-extent.at in
    let left = c.loop-extent.left.now in
    let h = c.closing_before-closing.ensures in
    let w = whole_is c.args.bytes.now c.args.backs.now c.args.end c.args.texts c.args.extents.now c.requires.fronts c.requires.held c.requires.backs c.requires.size in
    let room = extent_room c.args.bytes.now c.args.backs.now c.args.end c.args.extents.now c.loop-extent.bytes left c.in-Some.more.now c.in-Some.extent
    c.loop-extent.front c.loop-extent.back at.put at.scope at.resource c.payload_len-payload.result w i c.in-Some.ensures c.payload_len-payload.ensures in
    omega (arith, i.texts_is, last_front left c.in-Some.more.now c.in-Some.extent c.in-Some.ensures, c.front_of-front.ensures, room, ap length h.scope, ap length h.resource)

pub loop-extent-preserved : goal.loop-extent-preserved
loop-extent-preserved c =
    let i = c.loop-extent.invariant.way in
    let at = c.loop-extent.at in
    let left = c.loop-extent.left.now in
    let ps = c.in-Some.more.now in
    let p = c.in-Some.extent in
    let o = c.closing_before-closing in
    let new = c.put_extent-at.result in
    let h = c.put_extent-at.ensures in
    let w = whole_is c.args.bytes.now c.args.backs.now c.args.end c.args.texts c.args.extents.now c.requires.fronts c.requires.held c.requires.backs c.requires.size in
    record {
      way = extent_done c.args.bytes.now c.args.backs.now c.args.end c.args.extents.now c.loop-extent.bytes c.put_extent-at.new.bytes left ps p o.result.scope.now o.result.resource.now
          c.loop-extent.front c.loop-extent.back at.put at.scope at.resource c.payload_len-payload.result _ _ new.put new.scope new.resource w i
          c.in-Some.ensures c.payload_len-payload.ensures
          (omega (arith, i.texts_is, last_front left ps p c.in-Some.ensures, c.front_of-front.ensures))
          (omega (arith, i.closing_is, last_back left ps p c.in-Some.ensures, c.back_of-back.ensures))
          o.ensures.scope o.ensures.resource h.put h.scope h.resource;
      block = h.block ∙ c.loop-extent.invariant.block;
    }

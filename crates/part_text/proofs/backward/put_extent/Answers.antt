use Rattle.std.proofs.Common.{◌+◌, ◌*◌, ◌++◌, List, ℕ, sym, subst, take, drop}
use Rattle.schema.specs.Texts.{varint}
use Rattle.part_text.specs.Extents.{front_len}
use Rattle.part_text.specs.Writes.{IsPutBefore}
use Rattle.part_text.specs.Remainders.{number_of}
use Rattle.part_text.proofs.Writes.{put_then}
use Rattle.part_text.proofs.backward.put_extent.Goals as goal

pub returns-clause-put : goal.returns-clause-put
returns-clause-put c =
    let p = c.args.extent in
    let old = c.args.bytes.now in
    let one = c.move_up-text.new.bytes in
    let two = c.put_head-head.new.bytes in
    let start = c.move_up-text.result in
    let begun = c.put_head-head.result in
    let put = c.put_closing-here.result.put in
    let text : List ℕ = take (front_len p) (drop c.args.from old) in
    let head : List ℕ = varint (number_of p * 8 + 2) ++ varint c.args.payload in
    let moved = subst (λ (n : ℕ). IsPutBefore old one (take n (drop c.args.from old)) start c.args.at.put) c.front_of.ensures c.move_up-text.ensures.put in
    let headed = subst (λ (n : ℕ). IsPutBefore one two (varint (n * 8 + 2) ++ varint c.args.payload) begun start) c.number_of.ensures.is c.put_head-head.ensures in
    let new = c.put_closing-here.new.bytes in
    let closing : List ℕ = c.args.closing.scope.now ++ c.args.closing.resource.now in
    subst (λ (n : ℕ). IsPutBefore old new (closing ++ (head ++ text)) n c.args.at.put) (sym c.places_before.ensures.put)
    (put_then old two new closing (head ++ text) put begun c.args.at.put (put_then old one two head text begun start c.args.at.put moved headed) c.put_closing-here.ensures.put)

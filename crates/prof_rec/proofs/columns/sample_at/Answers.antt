use Rattle.std.proofs.Common.{rules, ◌≡◌, w32}
use Rattle.std.proofs.lemmas.Int.{to_z-of_z}
use mir.Val.{of_z, to_z}
use Rattle.prof_rec.proofs.Heads.{seen, shown}
use Rattle.prof_rec.proofs.columns.sample_at.Goals as goal

pub part-requires-clause-ascend : goal.part-requires-clause-ascend
part-requires-clause-ascend c =
    let there = shown c.args.heads.now c.args.all.now c.args.place c.head_before-before.result c.head_at-head.result c.requires.parted c.requires.inside c.head_before-before.ensures c.head_at-head.ensures in
    there.after.values

pub part-requires-clause-inside : goal.part-requires-clause-inside
part-requires-clause-inside c =
    let there = shown c.args.heads.now c.args.all.now c.args.place c.head_before-before.result c.head_at-head.result c.requires.parted c.requires.inside c.head_before-before.ensures c.head_at-head.ensures in
    there.values

pub part-requires-2-clause-ascend : goal.part-requires-2-clause-ascend
part-requires-2-clause-ascend c =
    let there = shown c.args.heads.now c.args.all.now c.args.place c.head_before-before.result c.head_at-head.result c.requires.parted c.requires.inside c.head_before-before.ensures c.head_at-head.ensures in
    there.after.attributes

pub part-requires-2-clause-inside : goal.part-requires-2-clause-inside
part-requires-2-clause-inside c =
    let there = shown c.args.heads.now c.args.all.now c.args.place c.head_before-before.result c.head_at-head.result c.requires.parted c.requires.inside c.head_before-before.ensures c.head_at-head.ensures in
    there.attributes

pub part-requires-3-clause-ascend : goal.part-requires-3-clause-ascend
part-requires-3-clause-ascend c =
    let there = shown c.args.heads.now c.args.all.now c.args.place c.head_before-before.result c.head_at-head.result c.requires.parted c.requires.inside c.head_before-before.ensures c.head_at-head.ensures in
    there.after.times

pub part-requires-3-clause-inside : goal.part-requires-3-clause-inside
part-requires-3-clause-inside c =
    let there = shown c.args.heads.now c.args.all.now c.args.place c.head_before-before.result c.head_at-head.result c.requires.parted c.requires.inside c.head_before-before.ensures c.head_at-head.ensures in
    there.times

pub returns : goal.returns
returns c =
    seen c.args.heads.now c.args.all.now c.args.place c.head_before-before.result c.head_at-head.result _ c.requires.inside c.head_before-before.ensures c.head_at-head.ensures
    (let stack : to_z w32 (of_z w32 c.head_at-head.result.stack_index) ≡ c.head_at-head.result.stack_index = to_z-of_z w32 c.head_at-head.result.stack_index (search rules) in
    let link : to_z w32 (of_z w32 c.head_at-head.result.link_index) ≡ c.head_at-head.result.link_index = to_z-of_z w32 c.head_at-head.result.link_index (search rules) in
    let values = c.part.ensures in
    let attributes = c.part-2.ensures in
    let times = c.part-3.ensures in
    cc)

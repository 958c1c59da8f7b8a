use Rattle.draft_contents.proofs.Positions.{profile_below, record_found, scope_below}
use Rattle.draft_contents.proofs.single.single_at.Goals as goal

pub bounds-as_slice-pos : goal.bounds-as_slice-pos
bounds-as_slice-pos c =
    scope_below c.args.records.now c.args.pos c.requires c.index-records-pos.result c.index-records-pos.is c.as_slice.result.now c.as_slice.ensures

pub bounds-as_slice-pos-2 : goal.bounds-as_slice-pos-2
bounds-as_slice-pos-2 c =
    profile_below c.args.records.now c.args.pos c.requires c.index-records-pos.result c.index-records-pos.is c.as_slice.result.now c.as_slice.ensures
    c.index-as_slice-pos.result c.index-as_slice-pos.is c.as_slice-2.result.now c.as_slice-2.ensures

pub returns : goal.returns
returns c =
    record_found c.args.records.now c.args.pos c.requires c.index-records-pos.result c.index-records-pos.is c.as_slice.result.now c.as_slice.ensures
    c.index-as_slice-pos.result c.index-as_slice-pos.is c.as_slice-2.result.now c.as_slice-2.ensures c.index-as_slice-pos-2.result c.index-as_slice-pos-2.is

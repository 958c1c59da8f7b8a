use Rattle.key_tables.proofs.Cuts.{now_cut, now_longer, now_within}
use Rattle.key_tables.proofs.filling.cut_back.Goals as goal

pub at_mut-requires : goal.at_mut-requires
at_mut-requires g c = now_within c.args.marks.now c.args.tables.now c.loop-place.tables c.loop-place.place c.loop-place.invariant c.loop-place-test.true c.requires.seven

pub back_to-requires : goal.back_to-requires
back_to-requires g c =
    now_longer c.args.marks.now c.args.tables.now c.loop-place.tables c.loop-place.place c.loop-place.invariant c.loop-place-test.true c.index-marks-place.result c.at_mut.result.now
    c.index-marks-place.is c.at_mut.ensures.value c.requires.within

pub loop-place-preserved : goal.loop-place-preserved
loop-place-preserved g c =
    now_cut c.args.marks.now c.args.tables.now c.loop-place.tables c.loop-place.place c.loop-place.invariant c.loop-place-test.true c.index-marks-place.result c.at_mut.result.now
    c.back_to.new.self c.index-marks-place.is c.at_mut.ensures.value c.back_to.ensures

use Rattle.std.proofs.Common.{arith}
use Rattle.collector.proofs.Writing.{put_files_more, left_at, named_at}
use Rattle.collector.proofs.deliver.write_files.Goals as goal

pub loop-name-preserved : goal.loop-name-preserved
loop-name-preserved g c = record {
  told = put_files_more _ _ _ _ _ _ c.loop-name-test.true c.loop-name-item.is c.loop-name.invariant.told c.in_default.ensures.ok;
  sound = λ h. (c.in_default.ensures.sound (c.loop-name.invariant.sound h)).0;
  later = omega (arith, c.in_default.ensures.later);
}

pub returns-in-Err : goal.returns-in-Err
returns-in-Err g c = record {
  ok = tt;
  named = named_at _ _ _ _ _ c.loop-name-test.true c.loop-name-item.is c.in-Err.ensures.named;
  left = left_at _ _ _ _ _ _ _ _ _ _ c.loop-name-test.true c.loop-name-item.is c.loop-name.invariant.told c.loop-name.invariant.later c.in-Err.ensures.left;
  later = omega (arith, c.loop-name.invariant.later, c.in-Err.ensures.later);
  sound = λ h. c.in-Err.ensures.sound (c.loop-name.invariant.sound h);
}

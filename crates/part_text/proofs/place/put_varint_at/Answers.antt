use Rattle.std.proofs.Common.{ℕ, length, ap, arith, refl, length-set}
use Rattle.schema_laws.proofs.Onto.{varint_small, varint_large, varint_some}
use Rattle.part_text.proofs.Varints.{byte_put, byte_after, last_put}
use Rattle.part_text.proofs.place.put_varint_at.Goals as goal

pub bounds-bytes-place : goal.bounds-bytes-place
bounds-bytes-place c = omega (arith, varint_some c.loop-rest.rest)

pub loop-rest-preserved : goal.loop-rest-preserved
loop-rest-preserved c =
    let i = c.loop-rest.invariant in
    let n = c.loop-rest.rest in
    record {
      put = byte_put c.loop-rest.bytes _ c.loop-rest.place n (omega (arith, varint_some n)) c.loop-rest-test.true i.put;
      after = byte_after c.loop-rest.bytes c.args.bytes.now c.loop-rest.place _ i.after;
      same = omega (arith, length-set {A = ℕ});
      stop = omega (arith, ap length (varint_large n c.loop-rest-test.true));
    }

pub bounds-bytes-place-2 : goal.bounds-bytes-place-2
bounds-bytes-place-2 c = omega (arith, varint_some c.loop-rest.rest)

pub returns : goal.returns
returns c =
    let i = c.loop-rest.invariant in
    let n = c.loop-rest.rest in
    last_put c.loop-rest.bytes c.args.bytes.now c.args.at c.loop-rest.place n _ _ (omega (arith, varint_some n)) (omega arith) c.loop-rest-test.false i.put i.after
    (omega (arith, ap length (varint_small n c.loop-rest-test.false))) refl

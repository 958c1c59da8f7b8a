use Rattle.std.proofs.Common.{◌≡◌, ℕ, ◌<◌, ◌-◌, ◌∷◌, List, ap, ◌∙◌, sym, arith}
use Rattle.std.proofs.lemmas.List.{nil_from_length}
use Rattle.schema.specs.Decoding.{varint_at}
use Rattle.schema_laws.proofs.VarintLoop.{above, next_weight, goes_on, ends, ends_last, too_long, too_short, low_fits, last_fits}
use Rattle.pb_wire.proofs.next.varint.Goals as goal

pub returns-in_default : goal.returns-in_default
returns-in_default c =
    let e = nil_from_length c.loop-place.rest.now c.in_default.ensures.cases in
    too_short c.loop-place.value c.loop-place.weight (9 - c.loop-place.place) _ (ap (λ (r : List ℕ). above c.loop-place.value c.loop-place.weight (varint_at (9 - c.loop-place.place) r)) (sym e) ∙ c.loop-place.invariant.same)

pub overflow_mul-result : goal.overflow_mul-result
overflow_mul-result c = omega (arith, (low_fits c.loop-place.value _ _ _ c.loop-place-test.true c.loop-place.invariant.scale c.loop-place.invariant.small c.if-byte-lt128.true))

pub overflow_add-result : goal.overflow_add-result
overflow_add-result c = omega (arith, (low_fits c.loop-place.value _ _ _ c.loop-place-test.true c.loop-place.invariant.scale c.loop-place.invariant.small c.if-byte-lt128.true))

pub returns-then-byte-lt128 : goal.returns-then-byte-lt128
returns-then-byte-lt128 c =
    let r : c.loop-place.rest.now ≡ c.from-byte.result ∷ c.in-Some.after.now = cc (c.in-Some.ensures.cases.0, c.from-byte.ensures) in
    ends c.loop-place.value c.loop-place.weight c.loop-place.place c.from-byte.result _ _ c.loop-place-test.true c.if-byte-lt128.true (ap (λ (r : List ℕ). above c.loop-place.value c.loop-place.weight (varint_at (9 - c.loop-place.place) r)) (sym r) ∙ c.loop-place.invariant.same)

pub overflow_mul-value : goal.overflow_mul-value
overflow_mul-value c = let l : c.from-byte.result - 128 < 128 = omega arith in omega (arith, (low_fits c.loop-place.value _ _ _ c.loop-place-test.true c.loop-place.invariant.scale c.loop-place.invariant.small l))

pub overflow_add-value : goal.overflow_add-value
overflow_add-value c = let l : c.from-byte.result - 128 < 128 = omega arith in omega (arith, (low_fits c.loop-place.value _ _ _ c.loop-place-test.true c.loop-place.invariant.scale c.loop-place.invariant.small l))

pub overflow_mul-weight : goal.overflow_mul-weight
overflow_mul-weight c = let l : c.from-byte.result - 128 < 128 = omega arith in omega (arith, (low_fits c.loop-place.value _ _ _ c.loop-place-test.true c.loop-place.invariant.scale c.loop-place.invariant.small l))

pub loop-place-preserved : goal.loop-place-preserved
loop-place-preserved c =
    let l : c.from-byte.result - 128 < 128 = omega arith in
    let f = low_fits c.loop-place.value _ _ _ c.loop-place-test.true c.loop-place.invariant.scale c.loop-place.invariant.small l in
    let r : c.loop-place.rest.now ≡ c.from-byte.result ∷ c.in-Some.after.now = cc (c.in-Some.ensures.cases.0, c.from-byte.ensures) in
    record {
      scale = next_weight _ _ c.loop-place.invariant.scale;
      small = f.2;
      same = goes_on c.loop-place.value c.loop-place.weight c.loop-place.place c.from-byte.result _ _ c.loop-place-test.true c.if-byte-lt128.false (omega arith) (ap (λ (r : List ℕ). above c.loop-place.value c.loop-place.weight (varint_at (9 - c.loop-place.place) r)) (sym r) ∙ c.loop-place.invariant.same);
    }

pub returns-in_default-split_first : goal.returns-in_default-split_first
returns-in_default-split_first c =
    let e = nil_from_length c.loop-place.rest.now c.in_default-split_first.ensures.cases in
    too_short c.loop-place.value c.loop-place.weight (9 - c.loop-place.place) _ (ap (λ (r : List ℕ). above c.loop-place.value c.loop-place.weight (varint_at (9 - c.loop-place.place) r)) (sym e) ∙ c.loop-place.invariant.same)

pub overflow_add-result-then-byte-lt2 : goal.overflow_add-result-then-byte-lt2
overflow_add-result-then-byte-lt2 c = omega (arith, last_fits c.loop-place.value _ _ c.from-byte-2.result c.loop-place-test.false (omega arith) c.loop-place.invariant.scale c.loop-place.invariant.small c.if-byte-lt2.true)

pub returns-then-byte-lt2 : goal.returns-then-byte-lt2
returns-then-byte-lt2 c =
    let r : c.loop-place.rest.now ≡ c.from-byte-2.result ∷ c.in-Some-split_first.after.now = cc (c.in-Some-split_first.ensures.cases.0, c.from-byte-2.ensures) in
    ends_last c.loop-place.value c.loop-place.weight c.loop-place.place c.from-byte-2.result _ _ c.loop-place-test.false c.if-byte-lt2.true (ap (λ (r : List ℕ). above c.loop-place.value c.loop-place.weight (varint_at (9 - c.loop-place.place) r)) (sym r) ∙ c.loop-place.invariant.same)

pub returns-else-byte-lt2 : goal.returns-else-byte-lt2
returns-else-byte-lt2 c =
    let r : c.loop-place.rest.now ≡ c.from-byte-2.result ∷ c.in-Some-split_first.after.now = cc (c.in-Some-split_first.ensures.cases.0, c.from-byte-2.ensures) in
    too_long c.loop-place.value c.loop-place.weight c.loop-place.place c.from-byte-2.result _ _ c.loop-place-test.false c.if-byte-lt2.false (ap (λ (r : List ℕ). above c.loop-place.value c.loop-place.weight (varint_at (9 - c.loop-place.place) r)) (sym r) ∙ c.loop-place.invariant.same)

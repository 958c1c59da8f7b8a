use Rattle.std.proofs.Common.{length, sym, ap, ◌∙◌, subst, arith}
use Rattle.pb_wire.specs.TableKinds.{place_of, table_of}
use Rattle.key_tables.specs.Keys.{ArePrefixes}
use Rattle.key_tables.proofs.Cuts.{count_at}
use Rattle.key_tables.proofs.Spelling.{len_grown}
use Rattle.key_tables.proofs.Places.{prefixes_still, few_still}
use Rattle.key_tables.proofs.key_tables.KeyTables.intern.Goals as goal

pub invariant_of-self-2 : goal.invariant_of-self-2
invariant_of-self-2 g c =
    let T = table_of c.args.kind in
    let old = c.self.inside.tables in
    let new = c.intern_in.new.tables in
    let count = count_at old (place_of T) c.get.result.now c.len-count.result c.get.ensures c.len-count.ensures.len in
    let len = len_grown T old c.args.key.now new c.in_ok-place.place c.in_ok-place.ensures.interned (ap length c.self.view_is ∙ c.requires) (omega (arith, count, c.if-place-count.false)) in (
      omega (arith, c.self.invariant.0, c.entry_len-more.ensures.is, len),
      omega (arith, c.if-self-more-gt-MOST_BYTES.false),
      few_still T old c.args.key.now new c.in_ok-place.place c.in_ok-place.ensures.interned c.self.invariant.2,
    )

pub returns-clause-kept : goal.returns-clause-kept
returns-clause-kept g c = λ base b.
    prefixes_still (table_of c.args.kind) c.self.inside.tables c.args.key.now c.intern_in.new.tables c.in_ok-place.place c.in_ok-place.ensures.interned base
    (subst (ArePrefixes base) (sym c.self.view_is) b)

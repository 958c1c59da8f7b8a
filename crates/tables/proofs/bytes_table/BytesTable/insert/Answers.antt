use Rattle.std.proofs.Common.{rules, List, ℕ, ◌/◌, ◌^◌, Ok, subst}
use Rattle.tables.specs.Keys.{Interned, IsInterning}
use Rattle.tables.specs.KeyRun.{IsPut, keys_in}
use Rattle.tables.proofs.Interning.{interned_table, interning}
use Rattle.tables.proofs.KeyRuns.{put_hashed, put_interned}
use Rattle.tables.proofs.bytes_table.BytesTable.insert.Goals as goal

pub invariant_of-self-in-None : goal.invariant_of-self-in-None
invariant_of-self-in-None g c =
    let hash_of : List ℕ → ℕ = λ bytes. g.S.Hasher.Hasher.finish (g.S.Hasher.Hasher.write (g.S.BuildHasher.build_hasher c.self.inside.hasher) bytes) / 2 ^ 32 in
    let old = c.self.inside.keys in
    let new = c.add.new.keys in
    let put : IsPut old.run.items old.rows.items c.args.bytes.now c.hash_of-hash.result new.run.items new.rows.items = search rules in
    let h : Interned (keys_in old.rows.items old.run.items) c.args.bytes.now (keys_in new.rows.items new.run.items) c.count-place.result =
    put_interned old.run.items old.rows.items c.args.bytes.now c.hash_of-hash.result new.run.items new.rows.items c.self.invariant.1.ends put hash_of c.hash_of-hash.ensures c.self.invariant.2 c.in-None.ensures c.count-place.result c.count-place.ensures in (
      interned_table _ _ _ _ h c.self.invariant.0.distinct (rw c.self.view_is c.requires.few),
      c.in_ok-add-in-None.ensures.kept,
      put_hashed old.run.items old.rows.items c.args.bytes.now c.hash_of-hash.result new.run.items new.rows.items c.self.invariant.1.ends put hash_of c.hash_of-hash.ensures c.self.invariant.2,
    )

pub returns-in_ok-add-in-None : goal.returns-in_ok-add-in-None
returns-in_ok-add-in-None g c =
    let hash_of : List ℕ → ℕ = λ bytes. g.S.Hasher.Hasher.finish (g.S.Hasher.Hasher.write (g.S.BuildHasher.build_hasher c.self.inside.hasher) bytes) / 2 ^ 32 in
    let old = c.self.inside.keys in
    let new = c.add.new.keys in
    let put : IsPut old.run.items old.rows.items c.args.bytes.now c.hash_of-hash.result new.run.items new.rows.items = search rules in
    let h : Interned (keys_in old.rows.items old.run.items) c.args.bytes.now (keys_in new.rows.items new.run.items) c.count-place.result =
    put_interned old.run.items old.rows.items c.args.bytes.now c.hash_of-hash.result new.run.items new.rows.items c.self.invariant.1.ends put hash_of c.hash_of-hash.ensures c.self.invariant.2 c.in-None.ensures c.count-place.result c.count-place.ensures in
    record { interned = subst (λ l. IsInterning l c.args.bytes.now (keys_in new.rows.items new.run.items) (Ok c.count-place.result)) c.self.view_is (interning _ _ _ _ h c.self.invariant.0.distinct) }

use Rattle.std.proofs.Common.{rules, ◌≡◌, length, sym, ◌∙◌}
use Rattle.tables.proofs.KeyRuns.{length-keys}
use Rattle.tables.proofs.key_run.count.Goals as goal

pub returns : goal.returns
returns c =
    let many : c.len.result ≡ length c.args.keys.now.rows.items = search rules in
    many ∙ sym (length-keys 0 c.args.keys.now.rows.items c.args.keys.now.run.items)

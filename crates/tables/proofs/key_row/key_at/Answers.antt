use Rattle.std.proofs.Common.{arith, ◌≡◌, ◌-◌, Some, take, drop, sym, ap, ◌∙◌, get_or, subst}
use Rattle.tables.specs.KeyRun.{begin_from, keys_in}
use Rattle.tables.specs.Keys.{IsAt}
use Rattle.tables.proofs.KeyRuns.{end_bounds, key_read}
use Rattle.tables.proofs.key_row.key_at.Goals as goal

pub slice_bounds-result-count : goal.slice_bounds-result-count
slice_bounds-result-count c =
    let b = end_bounds 0 c.args.rows.now c.args.run.now c.args.place (record { end = 0; hash = 0 }) c.requires.ends c.requires.within in
    omega (arith, b.0, c.begin_of.ensures)

pub slice_bounds-result-start : goal.slice_bounds-result-start
slice_bounds-result-start c =
    let b = end_bounds 0 c.args.rows.now c.args.run.now c.args.place (record { end = 0; hash = 0 }) c.requires.ends c.requires.within in
    omega (arith, b.0, b.1, c.begin_of.ensures)

pub slice_bounds-result-end : goal.slice_bounds-result-end
slice_bounds-result-end c =
    let b = end_bounds 0 c.args.rows.now c.args.run.now c.args.place (record { end = 0; hash = 0 }) c.requires.ends c.requires.within in
    omega (arith, b.0, b.1, c.begin_of.ensures)

pub returns : goal.returns
returns c =
    let rows = c.args.rows.now in
    let run = c.args.run.now in
    let place = c.args.place in
    let end = (get_or rows place (record { end = 0; hash = 0 })).end in
    let e : begin_from 0 rows place - 0 ≡ begin_from 0 rows place = omega arith in
    subst (λ b. IsAt (keys_in rows run) (take (end - b) (drop b run)) place) (sym c.begin_of.ensures)
    (key_read 0 rows run place (record { end = 0; hash = 0 }) c.requires.ends c.requires.within
    ∙ ap (λ b. Some (take (end - begin_from 0 rows place) (drop b run))) e)

use Rattle.std.proofs.Common.{◌++◌, List, ℕ, sym, ap, codes}
use Rattle.std.specs.List.{join_by}
use Rattle.line_text.proofs.Following.{put_as, then_put}
use Rattle.line_text.proofs.Lists.{joined_words}
use Rattle.line_text.proofs.words.put_numbers.Goals as goal

pub returns : goal.returns
returns g c =
    let text = g.N.Decimal.text in let between = join_by text (codes " ") c.args.numbers.now in
    put_as g.O.TextOut.Puts _ _ (codes "[" ++ (between ++ codes "]")) _ (ap (λ (l : List ℕ). codes "[" ++ (l ++ codes "]")) (sym (joined_words text (codes " ") c.args.numbers.now)))
    (then_put g.O.TextOut.Puts g.O.TextOut.lawful (codes "[") c.put.ensures (then_put g.O.TextOut.Puts g.O.TextOut.lawful between c.put_between_spaces.ensures c.put-2.ensures))

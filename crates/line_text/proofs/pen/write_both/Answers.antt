use Rattle.std.proofs.Common.{subst, sym, ◌∙◌, ◌++◌, List, ℕ, ap}
use Rattle.outside.specs.Streams.{appended}
use Rattle.line_text.specs.Pens.{Moved}
use Rattle.line_text.proofs.Sinking.{then_waits, not_the_text, refused_after}
use Rattle.line_text.proofs.pen.write_both.Goals as goal

pub returns-then-text-gt-ROOM-clause-refused : goal.returns-then-text-gt-ROOM-clause-refused
returns-then-text-gt-ROOM-clause-refused g c =
    refused_after c.args.waiting.now c.args.text.now _ _ _ c.put_all-then-text-gt-ROOM.result (c.in_default.ensures.ok ∙ ap (appended (g.W.Sink.taken c.args.to.now)) c.as_slice.ensures) c.put_all-then-text-gt-ROOM.ensures.refused

pub returns-in-Ok-clause-ok : goal.returns-in-Ok-clause-ok
returns-in-Ok-clause-ok g c =
    subst (Moved (c.args.waiting.now ++ c.args.text.now) (g.W.Sink.taken c.args.to.now) (g.W.Sink.taken c.put_all.new.sink))
    (sym (c.in-Ok.ensures.ok ∙ ap (λ (l : List ℕ). l ++ c.args.text.now) c.truncate.ensures))
    (then_waits c.args.waiting.now c.args.text.now _ _ (c.in_default.ensures.ok ∙ ap (appended (g.W.Sink.taken c.args.to.now)) c.as_slice.ensures))

pub returns-in-Err-append-clause-refused : goal.returns-in-Err-append-clause-refused
returns-in-Err-append-clause-refused g c = not_the_text c.args.waiting.now c.args.text.now _ _ c.requires (c.in_default.ensures.ok ∙ ap (appended (g.W.Sink.taken c.args.to.now)) c.as_slice.ensures)

use Rattle.std.proofs.Common.{sym, subst, IfErr}
use Rattle.otlp_msg.specs.Message.{message_limit}
use Rattle.draft_contents.specs.Adding.{message_with}
use Rattle.draft_contents.specs.Contents.{Contents, contents}
use Rattle.draft_contents.specs.Draft.{IsFaultOfPlaced, StandsForPlaced}
use Rattle.draft_contents.specs.Singles.{coming, joining_of}
use Rattle.draft_contents.proofs.Results.{kept_err, kept_ok}
use Rattle.draft_contents.proofs.Marks.{can_go_back, goes_anyway, kept_grown, marked_back}
use Rattle.draft_contents.proofs.adding.add_within_limit.Goals as goal

pub kept_or_cut_back-requires : goal.kept_or_cut_back-requires
kept_or_cut_back-requires g c =
    can_go_back c.mark_of-mark.result (contents c.args.tables.now c.args.records.now) (contents c.add_incoming-done.new.tables c.add_incoming-done.new.records) c.mark_of-mark.ensures
    c.add_incoming-done.ensures.grown

pub returns-clause-ok : goal.returns-clause-ok
returns-clause-ok g c =
    kept_ok c.kept_or_cut_back.result c.add_incoming-done.result
    (λ d. StandsForPlaced (joining_of c.args.incoming.now) (contents c.args.tables.now c.args.records.now) d (message_with (coming c.args.incoming.now) c.args.dictionary.now))
    (contents c.add_incoming-done.new.tables c.add_incoming-done.new.records) (contents c.kept_or_cut_back.new.tables c.kept_or_cut_back.new.records) c.kept_or_cut_back.ensures.answer
    c.kept_or_cut_back.ensures.kept c.add_incoming-done.ensures.ok

pub returns-clause-fault : goal.returns-clause-fault
returns-clause-fault g c =
    subst (λ r. IfErr r (IsFaultOfPlaced message_limit (joining_of c.args.incoming.now) (contents c.args.tables.now c.args.records.now) (message_with (coming c.args.incoming.now) c.args.dictionary.now)))
    (sym c.kept_or_cut_back.ensures.answer) c.add_incoming-done.ensures.fault

pub returns-clause-same : goal.returns-clause-same
returns-clause-same g c =
    kept_err c.kept_or_cut_back.result _ (contents c.kept_or_cut_back.new.tables c.kept_or_cut_back.new.records) (contents c.args.tables.now c.args.records.now)
    c.kept_or_cut_back.ensures.cut
    (marked_back c.mark_of-mark.result (contents c.args.tables.now c.args.records.now) (contents c.add_incoming-done.new.tables c.add_incoming-done.new.records) c.mark_of-mark.ensures
    c.add_incoming-done.ensures.grown)

pub returns-clause-grown : goal.returns-clause-grown
returns-clause-grown g c =
    let old : Contents = contents c.args.tables.now c.args.records.now in
    let memo : Contents = contents c.add_incoming-done.new.tables c.add_incoming-done.new.records in
    let new : Contents = contents c.kept_or_cut_back.new.tables c.kept_or_cut_back.new.records in
    goes_anyway c.kept_or_cut_back.result old new (kept_grown c.kept_or_cut_back.result old memo new c.kept_or_cut_back.ensures.kept c.add_incoming-done.ensures.grown)
    (kept_err c.kept_or_cut_back.result _ new old c.kept_or_cut_back.ensures.cut (marked_back c.mark_of-mark.result old memo c.mark_of-mark.ensures c.add_incoming-done.ensures.grown))

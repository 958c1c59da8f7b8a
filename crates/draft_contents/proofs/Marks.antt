-- Contents that go on, and marks of them.
use Rattle.std.proofs.Common.{◌≡◌, length, take, Result, Ok, Err, OnOk, OnErr, sym, ap, ◌∙◌, subst, arith}
use Rattle.std.proofs.lemmas.List.{length-take}
use Rattle.key_tables.specs.Keys.{CanBeCut as TablesCanBeCut}
use Rattle.key_tables.proofs.Cuts.{prefixes_itself, prefixes_over, can_be_cut as tables_cut, cut_back as tables_back}
use Rattle.key_tables.proofs.Prefixes.{prefix_itself, prefix_over, prefix_taken}
use Rattle.draft_records.specs.Marks.{CanBeCut as RecordsCanBeCut}
use Rattle.draft_contents.specs.Contents.{Contents}
use Rattle.draft_contents.specs.declared.mark.DraftMark.{DraftMark}
use Rattle.draft_contents.specs.Marks.{CanBeCutTo, GoesOn, IsMark, cut_to}
use Rattle.draft_contents.proofs.Drafts.{contents_same}

-- ---- contents that go on

pub goes_itself : (c : Contents) → GoesOn c c
goes_itself c = record { keys = prefixes_itself c.keys; parts = prefix_itself c.parts }

pub goes_over : (a b c : Contents) → GoesOn a b → GoesOn b c → GoesOn a c
goes_over a b c g h = record { keys = prefixes_over a.keys b.keys c.keys g.keys h.keys; parts = prefix_over a.parts b.parts c.parts g.parts h.parts }

-- after an error they are as before, so they go on in any case
pub goes_anyway : {A E : Type 0} (r : Result A E) (c d : Contents) → OnOk r (GoesOn c d) → OnErr r (d ≡ c) → GoesOn c d
goes_anyway (Ok x) c d g e = g
goes_anyway (Err x) c d g e = subst (GoesOn c) (sym e) (goes_itself c)

-- what stayed after Ok goes on, too
pub kept_grown : {A E : Type 0} (r : Result A E) (c d e : Contents) → OnOk r (e ≡ d) → GoesOn c d → OnOk r (GoesOn c e)
kept_grown (Ok x) c d e k g = subst (GoesOn c) (sym k) g
kept_grown (Err x) c d e k g = tt

-- ---- back to a mark

-- what goes on from the contents of a mark is these again
pub marked_back : (m : DraftMark) (c d : Contents) → IsMark m c → GoesOn c d → cut_to m d ≡ c
marked_back m c d i g = contents_same _ c.keys _ c.parts (tables_back c.keys d.keys m.keys i.keys g.keys) (ap (λ n. take n d.parts) i.parts.extents ∙ prefix_taken c.parts d.parts g.parts)

pub can_go_back : (m : DraftMark) (c d : Contents) → IsMark m c → GoesOn c d → CanBeCutTo m d
can_go_back m c d i g =
    let e : c ≡ cut_to m d = sym (marked_back m c d i g) in
    record { grown = subst (λ x. GoesOn x d) e g; mark = subst (IsMark m) e i }

-- ---- what going back needs

module _ (m : DraftMark) (c : Contents) (h : CanBeCutTo m c) where
  pub seven_there : length c.keys ≡ 7
  seven_there = h.grown.keys.many ∙ h.mark.stands.1.draft.tables.seven

  pub tables_there : TablesCanBeCut m.keys c.keys
  tables_there = tables_cut (cut_to m c).keys c.keys m.keys h.mark.keys h.grown.keys

  pub records_there : RecordsCanBeCut m.records c.parts
  records_there = record {
    within = omega (arith, length-take m.records.extents c.parts, h.mark.parts.extents);
    mark = h.mark.parts;
  }

-- The steps of an adder's state.
use Rattle.std.proofs.Common.{◌≡◌, ℕ, zero, suc, ◌<◌, ◌≤◌, ◌^◌, List, [], ◌∷◌, length, get_or, set, map, take, drop, replicate, Option, Some, None, refl, sym, ap, ◌∙◌, subst, arith}
use Rattle.schema.specs.Each.{Each}
use Rattle.schema.specs.Fits.{Fits}
use Rattle.schema.specs.Messages.{dictionary, resource_profiles, envelope}
use Rattle.schema.specs.Prefix.{IsPrefix}
use Rattle.schema.specs.Shape.{Table, Value}
use Rattle.schema.specs.Spell.{spell}
use Rattle.meaning.specs.Canonical.{IsWithin, records as part_records}
use Rattle.meaning.specs.Meaning.{HasZeros}
use Rattle.meaning.specs.Message.{tables_in}
use Rattle.meaning.specs.Tables.{entry}
use Rattle.meaning.specs.Tree.{tree}
use Rattle.dict_rec.specs.declared.dictionary.Dictionary.{Dictionary}
use Rattle.dict_rec.specs.Views.{dictionary_view}
use Rattle.prof_rec.specs.Views.{resource_profiles_view}
use Rattle.otlp_msg.specs.declared.message.Message as declared
use Rattle.otlp_msg.specs.declared.path.ProfilePos.{ProfilePos}
use Rattle.otlp_msg.specs.Message.{Message, dictionary_of, message_limit, records_of}
use Rattle.otlp_msg.specs.Views.{message_view}
use Rattle.pb_wire.specs.TableKinds.{place_of, table_of}
use Rattle.key_tables.specs.Keys.{Keys, at}
use Rattle.key_tables.specs.Keys.{cut_to as tables_cut_to}
use Rattle.parts.specs.Parts.{RecordPart}
use Rattle.draft_records.specs.Marks.{CanBeCut, IsMark as IsRecordsMark, Mark as RecordsMark}
use Rattle.draft_records.proofs.Marks.{cut-marked, take-marked}
use Rattle.renumber.specs.Entries.{IsPart, IsSource, entry_count, old_entries}
use Rattle.renumber.specs.Marks.{CanBeWalkedBack, IsWalkMark, WalkGoesOn, state_with, walked_back}
use Rattle.renumber.specs.Memos.{MemoGoesOn, MemoLists, MemoState, NotedEach, noted_in}
use Rattle.renumber.specs.Walk.{IsReady, State, memo_of, unmet, unmet_in, unmet_of}
use Rattle.renumber.specs.declared.spot.Spot.{Spot}
use Rattle.renumber.specs.declared.walk_mark.WalkMark.{WalkMark}
use Rattle.renumber.proofs.MemoSteps.{goes_itself as memo_itself, goes_over as memo_over, same_memo}
use Rattle.renumber.proofs.Marks.{can_go_back as can_walk_back, marked_back as walk_marked_back}
use Rattle.draft_contents.specs.Adding.{AreRenumbered, IsRefused, message_with, size_with}
use Rattle.draft_contents.specs.Contents.{Contents, contents, whole_text}
use Rattle.draft_contents.specs.Draft.{IsFaultOfPlaced, StandsForSome}
use Rattle.draft_contents.specs.Marks.{GoesOn, IsMark, cut_to}
use Rattle.draft_contents.specs.Meanings.{placed}
use Rattle.draft_contents.specs.Singles.{IsPosition, alone, record_alone}
use Rattle.draft_contents.specs.declared.fault.BuildFault.{BuildFault}
use Rattle.draft_contents.specs.declared.incoming.Joining.{Joining}
use Rattle.draft_contents.specs.declared.mark.DraftMark.{DraftMark}
use Rattle.draft_contents.proofs.DraftContents.{draft_ready}
use Rattle.draft_contents.proofs.Drafts.{found_alone, found_source, single_part, single_records}
use Rattle.draft_contents.proofs.Joins.{Led, led_from, placed_within, refused}
use Rattle.draft_contents.proofs.Marks.{can_go_back, goes_itself, goes_over, marked_back}
use Rattle.draft_contents.proofs.Repeats.{put_heads_stand}
use Rattle.dict_build.specs.Adders.{Adding, adding}
use Rattle.dict_build.specs.States.{HasGrown, IsEmptyMemo, IsPut, IsStateOf, IsWalkOver}

-- what an adder with these parts is seen as
abbrev pub seen_with : Message → DraftMark → State → List RecordPart → Adding
seen_with m begun w parts = adding (contents w.keys parts) (cut_to begun (contents w.keys parts)) m

-- ---- the message

-- with this dictionary what comes is the profile alone
pub one_alone : (m : Message) (pos : ProfilePos) (xs : List (Value resource_profiles)) (source : Dictionary) → xs ≡ record_alone (records_of m) pos ∷ [] → dictionary_view source ≡ dictionary_of m
    → message_with xs source ≡ alone m pos
one_alone m pos xs source e d =
    ap (λ (ys : List (Value resource_profiles)). message_with ys source) e ∙ ap (λ (x : Value dictionary). (record_alone (records_of m) pos ∷ [], (x, tt))) d

module _ (found : declared.Message) (m : Message) (v : message_view found ≡ m) (z : HasZeros (tables_in (dictionary_of m)))
    (t : (T : Table) → Each (IsWithin (tables_in (dictionary_of m)) (entry T)) (tables_in (dictionary_of m) T)) (r : Each (IsWithin (tables_in (dictionary_of m)) resource_profiles) (map (tree resource_profiles) (records_of m)))
    (f : Fits envelope m) (l : length (spell envelope m) < 2 ^ 60) where
  -- its dictionary can be renumbered
  pub found_dictionary : IsSource found.dictionary
  found_dictionary = (found_source found.records found m v z t r f l).0

  module _ (pos : ProfilePos) (i : IsPosition (records_of m) pos) (x : Value resource_profiles) (h : x ≡ record_alone (map resource_profiles_view found.records) pos) where
    -- the profile is a part of it, under each such dictionary
    pub one_part : (source : Dictionary) → dictionary_view source ≡ dictionary_of m → IsPart (part_records resource_profiles) source (x ∷ [], tt)
    one_part source d =
        let w : declared.Message = record { records = found.records; dictionary = source } in
        let e : message_with (map resource_profiles_view found.records) source ≡ m = ap (λ (y : Value dictionary). (map resource_profiles_view found.records, (y, tt))) (d ∙ sym (ap dictionary_of v)) ∙ v in
        single_records found.records w m e z t r f l pos x i h

    pub one_fits : Fits envelope (alone m pos)
    one_fits =
        subst (λ (n : Message). Fits envelope n) (found_alone found.records found m pos x v h) (single_part found.records found m v z t r f l pos x i h).fits

    pub one_coming : x ∷ [] ≡ record_alone (records_of m) pos ∷ []
    one_coming = ap (λ (y : Value resource_profiles). y ∷ []) (h ∙ ap (λ (n : Message). record_alone (records_of n) pos) v)

-- ---- memos of nothing

-- the memo of the dictionary that was found
pub memo_empty : (found : declared.Message) (m : Message) (memo : MemoState) → message_view found ≡ m
    → ((T : Table) → at memo.lists T ≡ replicate (length (old_entries found.dictionary T)) None) → length memo.lists ≡ 7 → memo.noted ≡ []
    → unmet_of memo.lists ≡ entry_count (old_entries found.dictionary) → IsEmptyMemo m memo
memo_empty found m memo v none seven nothing count = subst (λ (x : Message). IsEmptyMemo x memo) v (record { unmet = none; seven = seven; nothing = nothing; count = count })

-- with it what stands for a meaning is ready
pub ready_for : (source : Dictionary) (m : Message) (d : Contents) (memo : MemoState) → dictionary_view source ≡ dictionary_of m → StandsForSome d → IsEmptyMemo m memo
    → IsReady source d.keys memo.lists
ready_for source m d memo e s u =
    draft_ready source d s.0 memo.lists s.1.draft u.seven
    (subst (λ (x : Value dictionary). (T : Table) → at memo.lists T ≡ replicate (length (tables_in x T)) None) (sym e) u.unmet)

-- a walk that has this dictionary and this memo
pub walk_begun : (m : Message) (w : State) (source : Dictionary) (memo : MemoState) → IsSource source → dictionary_view source ≡ dictionary_of m → IsEmptyMemo m memo
    → w.source ≡ source → w.memo ≡ memo.lists → w.noted ≡ memo.noted → IsWalkOver m w
walk_begun m w source memo z d u e f g = record {
  dictionary = ap dictionary_view e ∙ d;
  source = subst IsSource (sym e) z;
  first = memo;
  empty = u;
  goes_on = subst (MemoGoesOn memo) (sym (same_memo (memo_of w) memo f g)) (memo_itself memo);
}

-- ---- going on

pub walk_further : (m : Message) (a b : State) → IsWalkOver m a → WalkGoesOn a b → IsWalkOver m b
walk_further m a b w g = record {
  dictionary = ap dictionary_view g.same ∙ w.dictionary;
  source = subst IsSource (sym g.same) w.source;
  first = w.first;
  empty = w.empty;
  goes_on = memo_over w.first (memo_of a) (memo_of b) w.goes_on g.memo;
}

-- the tables of a walk that goes on, with parts that go on
pub goes_with : (a b : State) (ps ps' : List RecordPart) → WalkGoesOn a b → IsPrefix ps ps' → GoesOn (contents a.keys ps) (contents b.keys ps')
goes_with a b ps ps' g front = record { keys = g.keys; parts = front }

pub grown_further : (begun : DraftMark) (c d : Contents) → HasGrown begun c → StandsForSome d → GoesOn c d → HasGrown begun d
grown_further begun c d h s g = record { stands = s; back = can_go_back begun (cut_to begun c) d h.back.mark (goes_over (cut_to begun c) c d h.back.grown g) }

-- the start stays
pub start_stays : (begun : DraftMark) (c d : Contents) → HasGrown begun c → GoesOn c d → cut_to begun d ≡ cut_to begun c
start_stays begun c d h g = marked_back begun (cut_to begun c) d h.back.mark (goes_over (cut_to begun c) c d h.back.grown g)

-- ---- one profile more

module _ (a b : State) (same : b.source ≡ a.source) (z : IsSource b.source) (r : IsReady b.source b.keys b.memo) (limit : ℕ) (how : Joining) (ps : List RecordPart) (xs : List (Value resource_profiles))
    (fits : Fits envelope (message_with xs a.source)) where
  led : Led a.source a.keys b.keys a b
  led = led_from a.source a b refl same z r

  -- what was walked over and put is put, where the whole is short
  pub is_put : (ps' : List RecordPart) → limit ≤ message_limit → AreRenumbered how a b ps ps' xs → size_with how b ps xs ≤ limit → IsPut limit how a b ps ps' xs
  is_put ps' most q few = record { stands = placed_within a.source a.keys b.keys a b led how xs limit ps ps' most fits q few; added = q }

  -- and where it is not, the fault is told
  pub is_refused : (fault : BuildFault) → IsRefused limit how a b ps xs fault → IsFaultOfPlaced limit how (contents a.keys ps) (message_with xs a.source) fault
  is_refused fault q = refused a.source a.keys b.keys a b led how xs limit ps fault fits q

-- after it was added profiles are under state, and it is the newest
pub added_state : (m : Message) (begun : DraftMark) (a b : State) (ps ps' : List RecordPart) (newest : Option ProfilePos) (pos : ProfilePos) (how : Joining) (limit : ℕ) (xs : List (Value resource_profiles))
    → xs ≡ record_alone (records_of m) pos ∷ [] → IsStateOf m begun a ps newest → IsPut limit how a b ps ps' xs → WalkGoesOn a b → IsPrefix ps ps' → IsStateOf m begun b ps' (Some pos)
added_state m begun a b ps ps' newest pos how limit xs e h put g front =
    let s : StandsForSome (contents a.keys ps) = h.grown.stands in
    record {
      walk = walk_further m a b h.walk g;
      grown = grown_further begun (contents a.keys ps) (contents b.keys ps') h.grown (placed how s.0 (message_with xs a.source), (put.stands s.0 s.1).0) (goes_with a b ps ps' g front);
      heads = put_heads_stand how a b ps ps' m pos (record_alone (records_of m) pos) refl (subst (λ (ys : List (Value resource_profiles)). AreRenumbered how a b ps ps' ys) e put.added);
    }

-- the start is the same
pub start_kept : (m : Message) (begun : DraftMark) (a b : State) (ps ps' : List RecordPart) → HasGrown begun (contents a.keys ps) → WalkGoesOn a b → IsPrefix ps ps'
    → seen_with m begun b ps' ≡ adding (contents b.keys ps') (cut_to begun (contents a.keys ps)) m
start_kept m begun a b ps ps' h g front =
    ap (λ (s : Contents). adding (contents b.keys ps') s m) (start_stays begun (contents a.keys ps) (contents b.keys ps') h (goes_with a b ps ps' g front))

-- ---- steps

-- with an entry noted no more are unmet
unmet_set : (new_indexes : List (Option ℕ)) (i j : ℕ) → unmet_in (set new_indexes i (Some j)) ≤ unmet_in new_indexes
unmet_set [] i j = omega arith
unmet_set (None ∷ new_indexes) zero j = omega arith
unmet_set (Some k ∷ new_indexes) zero j = omega arith
unmet_set (None ∷ new_indexes) (suc i) j = omega (arith, unmet_set new_indexes i j)
unmet_set (Some k ∷ new_indexes) (suc i) j = unmet_set new_indexes i j

unmet_noted : (memo : MemoLists) (p i j : ℕ) → unmet_of (set memo p (set (get_or memo p []) i (Some j))) ≤ unmet_of memo
unmet_noted [] p i j = omega arith
unmet_noted (x ∷ memo) zero i j = omega (arith, unmet_set x i j)
unmet_noted (x ∷ memo) (suc p) i j = omega (arith, unmet_noted memo p i j)

unmet_each : (ss : List Spot) (a b : MemoLists) → NotedEach ss a b → unmet_of b ≤ unmet_of a
unmet_each [] a b h = omega (arith, ap unmet_of h)
unmet_each (s ∷ ss) a b h =
    omega (arith, unmet_each ss (noted_in (table_of s.kind) s.place h.1.0 a) b h.1.1, unmet_noted a (place_of (table_of s.kind)) s.place h.1.0)

-- so a walk over the message has no more unmet entries than its tables have
pub few_unmet : (m : Message) (w : State) → IsWalkOver m w → unmet w ≤ entry_count (tables_in (dictionary_of m))
few_unmet m w over = omega (arith, unmet_each over.goes_on.more over.first.lists w.memo over.goes_on.lists, over.empty.count)

-- ---- nothing more

pub still_state : (m : Message) (begun : DraftMark) (a b : State) (ps ps' : List RecordPart) (newest : Option ProfilePos) → IsStateOf m begun a ps newest → b ≡ a → ps' ≡ ps
    → IsStateOf m begun b ps' newest
still_state m begun a b ps ps' newest h e f =
    subst (λ (w : State). IsStateOf m begun w ps' newest) (sym e) (subst (λ (rs : List RecordPart). IsStateOf m begun a rs newest) (sym f) h)

pub goes_nowhere : (a b : State) (ps ps' : List RecordPart) → b ≡ a → ps' ≡ ps → GoesOn (contents a.keys ps) (contents b.keys ps')
goes_nowhere a b ps ps' e f =
    subst (λ (w : State). GoesOn (contents a.keys ps) (contents w.keys ps')) (sym e)
    (subst (λ (rs : List RecordPart). GoesOn (contents a.keys ps) (contents a.keys rs)) (sym f) (goes_itself (contents a.keys ps)))

pub still_seen : (m : Message) (begun : DraftMark) (a b : State) (ps ps' : List RecordPart) → b ≡ a → ps' ≡ ps → seen_with m begun b ps' ≡ seen_with m begun a ps
still_seen m begun a b ps ps' e f = ap (λ (w : State). seen_with m begun w ps') e ∙ ap (λ (rs : List RecordPart). seen_with m begun a rs) f

-- parts that go on, back to a mark
pub records_back : (mark : RecordsMark) (ps ps' : List RecordPart) → IsRecordsMark mark ps → IsPrefix ps ps' → take mark.extents ps' ≡ ps
records_back mark ps ps' i front = ap (take mark.extents) front ∙ take-marked mark ps (drop (length ps) ps') i

pub records_can_go_back : (mark : RecordsMark) (ps ps' : List RecordPart) → IsRecordsMark mark ps → IsPrefix ps ps' → CanBeCut mark ps'
records_can_go_back mark ps ps' i front = subst (CanBeCut mark) (sym front) (cut-marked mark ps (drop (length ps) ps') i)

-- ---- the text

-- with these tables it is that of the contents with equal ones
pub text_with : (bytes : List ℕ) (keys keys' : Keys) (parts : List RecordPart) → bytes ≡ whole_text (contents keys parts) → keys ≡ keys' → bytes ≡ whole_text (contents keys' parts)
text_with bytes keys keys' parts e k = e ∙ ap (λ (x : Keys). whole_text (contents x parts)) k

-- ---- back to the start

-- where contents are those of the mark, they are the start
pub begun_grown : (begun : DraftMark) (c : Contents) → IsMark begun c → HasGrown begun c
begun_grown begun c i = record { stands = i.stands; back = can_go_back begun c c i (goes_itself c) }

pub begun_seen : (m : Message) (begun : DraftMark) (w : State) (parts : List RecordPart) (c : Contents) → IsMark begun c → contents w.keys parts ≡ c → seen_with m begun w parts ≡ adding c c m
begun_seen m begun w parts c i e = ap (λ (d : Contents). adding d (cut_to begun d) m) e ∙ ap (λ (s : Contents). adding c s m) (marked_back begun c c i (goes_itself c))

module _ (m : Message) (begun : DraftMark) (w : State) (parts : List RecordPart) (over : IsWalkOver m w) (h : HasGrown begun (contents w.keys parts)) where
  -- the walk at the start: with the tables of then, and a memo of nothing
  abbrev pub walk_at_start : State
  walk_at_start = state_with w.source (tables_cut_to begun.keys.lengths w.keys) over.first

  at_start_marked : (mark : WalkMark) → mark.keys ≡ begun.keys → mark.memo ≡ 0 → IsWalkMark mark walk_at_start
  at_start_marked mark e f = record {
    source = over.source;
    ready = ready_for w.source m (cut_to begun (contents w.keys parts)) over.first over.dictionary h.back.mark.stands over.empty;
    keys = rw e h.back.mark.keys;
    memo = f ∙ sym (ap length over.empty.nothing);
  }

  goes_from_start : WalkGoesOn walk_at_start w
  goes_from_start = record { same = refl; keys = h.back.grown.keys; memo = over.goes_on }

  pub back_to_start : (mark : WalkMark) → mark.keys ≡ begun.keys → mark.memo ≡ 0 → CanBeWalkedBack mark w
  back_to_start mark e f = can_walk_back mark walk_at_start w (at_start_marked mark e f) goes_from_start

  pub is_at_start : (mark : WalkMark) → mark.keys ≡ begun.keys → mark.memo ≡ 0 → walked_back mark w ≡ walk_at_start
  is_at_start mark e f = walk_marked_back mark walk_at_start w (at_start_marked mark e f) goes_from_start

  pub over_at_start : IsWalkOver m walk_at_start
  over_at_start = record { dictionary = over.dictionary; source = over.source; first = over.first; empty = over.empty; goes_on = memo_itself over.first }

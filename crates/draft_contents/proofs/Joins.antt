-- Records that were walked over come to those of a draft.
use Rattle.std.proofs.Common.{◌≡◌, ℕ, ◌≤◌, List, ◌++◌, length, map, refl, sym, ap, ◌∙◌, subst, arith}
use Rattle.schema.specs.Fits.{Fits}
use Rattle.schema.specs.Messages.{resource_profiles, envelope}
use Rattle.schema.specs.Moved.{moved}
use Rattle.schema.specs.Shape.{Value}
use Rattle.meaning.specs.Canonical.{values}
use Rattle.meaning.specs.Memo.{index_in}
use Rattle.meaning.specs.Renumbering.{BecomeEach}
use Rattle.meaning.proofs.Soundness.{records_sound}
use Rattle.dict_rec.specs.declared.dictionary.Dictionary.{Dictionary}
use Rattle.dict_rec.specs.Views.{dictionary_view}
use Rattle.otlp_msg.specs.Message.{Message, message_limit}
use Rattle.schema.specs.Prefix.{IsPrefix}
use Rattle.key_tables.specs.Keys.{ArePrefixes, Keys, at}
use Rattle.key_tables.proofs.Cuts.{prefixes_itself, prefixes_same}
use Rattle.renumber.specs.Entries.{IsSource, new_entries, old_entries}
use Rattle.renumber.specs.Walk.{IsReady, State, WalkedEach}
use Rattle.renumber.proofs.Texts.{values_renumbered}
use Rattle.parts.specs.Parts.{RecordPart}
use Rattle.operations.proofs.Heads.{message-heads}
use Rattle.draft_contents.specs.Adding.{AreRenumbered, IsRefused, left_parts, moved_parts, size_with}
use Rattle.draft_contents.specs.Contents.{IsDraft, contents, whole_text}
use Rattle.draft_contents.specs.declared.fault.BuildFault.{BuildFault}
use Rattle.draft_contents.specs.declared.fault.BuildFault.TheVariants.{OutputLimit, NoMemory}
use Rattle.draft_contents.specs.Draft.{IsFaultOfPlaced, StandsFor, StandsForPlaced, StandsWithin}
use Rattle.draft_contents.specs.declared.incoming.Joining.{Joining}
use Rattle.draft_contents.specs.Marks.{GoesOn}
use Rattle.draft_contents.specs.Meanings.{Meaning, placed, size_of}
use Rattle.draft_contents.proofs.Acceptance.{heads_written, placed_written}
use Rattle.draft_contents.proofs.Drafts.{size_is}
use Rattle.draft_contents.proofs.DraftContents.{draft_grown}

-- A walk leads from a, with the tables of a draft, to b, and these are its tables then.
pub record Led (old : Dictionary) (keys keys' : Keys) (a b : State) : Type 0 where
  pub source : a.source ≡ old
  pub from : a.keys ≡ keys
  pub same : b.source ≡ a.source
  pub to : keys' ≡ b.keys
  pub sound : IsSource b.source
  pub ready : IsReady b.source keys' b.memo

-- as one does that goes on from anywhere
pub led_from : (old : Dictionary) (a b : State) → a.source ≡ old → b.source ≡ a.source → IsSource b.source → IsReady b.source b.keys b.memo → Led old a.keys b.keys a b
led_from old a b source same sound ready =
    record { source = source; from = refl; same = same; to = refl; sound = sound; ready = ready }

-- So the tables go on. With parts that go on, too, the whole does.
pub led_on : (keys keys' : Keys) (a b : State) → a.keys ≡ keys → keys' ≡ b.keys → (ps ps' : List RecordPart) → ((base : Keys) → ArePrefixes base a.keys → ArePrefixes base b.keys) → IsPrefix ps ps'
    → GoesOn (contents keys ps) (contents keys' ps')
led_on keys keys' a b from to ps ps' kept front =
    record { keys = prefixes_same keys b.keys keys' to (kept keys (prefixes_same keys keys a.keys from (prefixes_itself keys))); parts = front }

module _ (old : Dictionary) (keys keys' : Keys) (a b : State) (l : Led old keys keys' a b) (how : Joining) (rs : List (Value resource_profiles)) where
  -- what the records that were walked over become
  become : WalkedEach resource_profiles a b rs → BecomeEach (old_entries old) resource_profiles (values (new_entries keys)) (values (new_entries keys')) rs (map (moved (index_in (at b.memo)) resource_profiles) rs)
  become w =
      let ys = map (moved (index_in (at b.memo)) resource_profiles) rs in
      let ready : IsReady b.source b.keys b.memo = subst (λ (k : Keys). IsReady b.source k b.memo) l.to l.ready in
      subst (λ (o : Dictionary). BecomeEach (old_entries o) resource_profiles (values (new_entries keys)) (values (new_entries keys')) rs ys) l.source
      (subst (λ (k : Keys). BecomeEach (old_entries a.source) resource_profiles (values (new_entries k)) (values (new_entries keys')) rs ys) l.from
      (subst (λ (k : Keys). BecomeEach (old_entries a.source) resource_profiles (values (new_entries a.keys)) (values (new_entries k)) rs ys) (sym l.to)
      (values_renumbered resource_profiles records_sound a b l.sound ready rs w)))

  -- the message that they are of
  abbrev m : Message
  m = (rs, (dictionary_view old, tt))

  -- with the parts that they add after those of a draft there is a draft of all
  placed_draft : (ps ps' : List RecordPart) (ms : Meaning) → Fits envelope m → StandsFor (contents keys ps) ms → WalkedEach resource_profiles a b rs
      → ps' ≡ ps ++ left_parts how ps (moved_parts b rs) → IsDraft (contents keys' ps') (placed how ms m)
  placed_draft ps ps' ms fits s w e =
      draft_grown how old rs (map (moved (index_in (at b.memo)) resource_profiles) rs) (contents keys ps) (contents keys' ps') ms b.memo s.draft
      (subst (λ (o : Dictionary). IsReady o keys' b.memo) (l.same ∙ l.source) l.ready) (become w) (heads_written ms s.written) (message-heads m fits) e

  -- whose size is that of all
  placed_size : (ps ps' : List RecordPart) (ms : Meaning) → Fits envelope m → StandsFor (contents keys ps) ms → WalkedEach resource_profiles a b rs
      → ps' ≡ ps ++ left_parts how ps (moved_parts b rs) → length (whole_text (contents b.keys ps')) ≡ size_of (placed how ms m)
  placed_size ps ps' ms fits s w e =
      ap (λ (k : Keys). length (whole_text (contents k ps'))) (sym l.to)
      ∙ size_is (contents keys' ps') (placed how ms m) (length (whole_text (contents keys' ps'))) refl (placed_draft ps ps' ms fits s w e)

  -- where that is short, it stands for all
  pub placed_within : (limit : ℕ) (ps ps' : List RecordPart) → limit ≤ message_limit → Fits envelope m → AreRenumbered how a b ps ps' rs → size_with how b ps rs ≤ limit
      → StandsWithin limit how (contents keys ps) (contents keys' ps') m
  placed_within limit ps ps' most fits q few ms s =
      let small : size_of (placed how ms m) ≤ limit = subst (λ n. n ≤ limit) (placed_size ps (ps ++ left_parts how ps (moved_parts b rs)) ms fits s q.walked refl) few in (
        record { draft = placed_draft ps ps' ms fits s q.walked q.is; written = placed_written how ms m s.written fits (omega (arith, small, most)) },
        small,
      )

  pub placed_stands : (ps ps' : List RecordPart) → Fits envelope m → AreRenumbered how a b ps ps' rs → size_with how b ps rs ≤ message_limit
      → StandsForPlaced how (contents keys ps) (contents keys' ps') m
  placed_stands ps ps' fits q few ms s = (placed_within message_limit ps ps' (omega arith) fits q few ms s).0

  -- a refusal tells it
  pub refused : (limit : ℕ) (ps : List RecordPart) (fault : BuildFault) → Fits envelope m → IsRefused limit how a b ps rs fault → IsFaultOfPlaced limit how (contents keys ps) m fault
  refused limit ps (OutputLimit size) fits q ms s = (q.1.0 ∙ placed_size ps (ps ++ left_parts how ps (moved_parts b rs)) ms fits s q.0 refl, q.1.1)
  refused limit ps NoMemory fits q ms s = tt

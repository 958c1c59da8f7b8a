-- Canonical bytes are accepted, with their meaning, and are those of no other meaning.
use Rattle.std.proofs.Common.{◌≡◌, ◌≤◌, refl, subst, arith}
use Rattle.schema.specs.Each.{Each}
use Rattle.schema.specs.Fits.{Fits}
use Rattle.schema.specs.Messages.{resource_profiles, envelope}
use Rattle.schema_laws.proofs.Lawfulness.{lawful_from}
use Rattle.meaning.specs.Meaning.{IsMeaning}
use Rattle.meaning.specs.Message.{canonical_value, meaning_text}
use Rattle.meaning.specs.Ranges.{HasRange}
use Rattle.meaning.proofs.Message.{canonical_entries_within, canonical_records_within, canonical_zeros, means_the_same, messages_mean, text_apart, text_back}
use Rattle.meaning.proofs.Ranges.{meanings_fit, messages_range}
use Rattle.meaning.proofs.Soundness.{records_sound}
use Rattle.otlp_msg.specs.Message.{Message, message_limit}
use Rattle.otlp_msg.proofs.GoodMessages.{in_order}
use Rattle.operations.specs.Heads.{HeadsFit}
use Rattle.operations.proofs.Heads.{message-heads}
use Rattle.operations.proofs.Meanings.{append-means, append-ranges, seam-means, seam-ranges, under-means, under-ranges}
use Rattle.draft_contents.specs.Meanings.{Meaning, CanBeWritten, IsAcceptedAs, meaning, placed, size_of}
use Rattle.draft_contents.specs.declared.incoming.Joining.{Joining}
use Rattle.draft_contents.specs.declared.incoming.Joining.TheVariants.{Resource, Scope, Seam}

-- the meaning of a message that can be written can be, where its canonical bytes are few
pub message_written : (m : Message) → Fits envelope m → size_of (meaning m) ≤ message_limit → CanBeWritten (meaning m)
message_written m fits few = record {
  means = messages_mean resource_profiles records_sound m;
  ranges = messages_range resource_profiles records_sound m fits;
  small = few;
}

-- so can a meaning with that of a message
placed_means : (how : Joining) (ms : Meaning) (m : Message) → Each (IsMeaning resource_profiles) ms → Each (IsMeaning resource_profiles) (placed how ms m)
placed_means Resource ms m h = append-means ms (meaning m) h (messages_mean resource_profiles records_sound m)
placed_means Scope ms m h = under-means ms (meaning m) h (messages_mean resource_profiles records_sound m)
placed_means Seam ms m h = seam-means ms (meaning m) h (messages_mean resource_profiles records_sound m)

placed_ranges : (how : Joining) (ms : Meaning) (m : Message) → Each (HasRange resource_profiles) ms → Fits envelope m → Each (HasRange resource_profiles) (placed how ms m)
placed_ranges Resource ms m h f = append-ranges ms (meaning m) h (messages_range resource_profiles records_sound m f)
placed_ranges Scope ms m h f = under-ranges ms (meaning m) h (messages_range resource_profiles records_sound m f)
placed_ranges Seam ms m h f = seam-ranges ms (meaning m) h (messages_range resource_profiles records_sound m f)

pub placed_written : (how : Joining) (ms : Meaning) (m : Message) → CanBeWritten ms → Fits envelope m → size_of (placed how ms m) ≤ message_limit → CanBeWritten (placed how ms m)
placed_written how ms m w fits few =
    record { means = placed_means how ms m w.means; ranges = placed_ranges how ms m w.ranges fits; small = few }

-- the canonical message of a meaning that can be written fits
pub written_fits : (ms : Meaning) → CanBeWritten ms → Fits envelope (canonical_value resource_profiles ms)
written_fits ms w = meanings_fit resource_profiles tt records_sound (lawful_from resource_profiles refl) ms w.ranges (let few = w.small in omega arith)

-- so its heads can be written
pub heads_written : (ms : Meaning) → CanBeWritten ms → HeadsFit ms
heads_written ms w =
    subst HeadsFit (means_the_same resource_profiles records_sound ms w.means) (message-heads (canonical_value resource_profiles ms) (written_fits ms w))

-- its canonical bytes are accepted as this message, with its meaning
pub meaning_accepted : (ms : Meaning) → CanBeWritten ms → IsAcceptedAs (meaning_text resource_profiles ms) ms
meaning_accepted ms w = record {
  message = canonical_value resource_profiles ms;
  accepted = in_order (meaning_text resource_profiles ms) (canonical_value resource_profiles ms) w.small
      (text_back resource_profiles (lawful_from resource_profiles refl) ms (written_fits ms w) 0)
      (canonical_zeros resource_profiles records_sound ms w.means)
      (canonical_entries_within resource_profiles records_sound ms w.means)
      (canonical_records_within resource_profiles records_sound ms w.means);
  same = means_the_same resource_profiles records_sound ms w.means;
}

-- two meanings with the same bytes are the same
pub apart : (ms ns : Meaning) → CanBeWritten ms → CanBeWritten ns → meaning_text resource_profiles ms ≡ meaning_text resource_profiles ns → ms ≡ ns
apart ms ns w x e =
    text_apart resource_profiles records_sound (lawful_from resource_profiles refl) ms ns w.means x.means (written_fits ms w) (written_fits ns x) e

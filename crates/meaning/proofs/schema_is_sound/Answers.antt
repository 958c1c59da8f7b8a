use Rattle.meaning.proofs.Soundness.{entry_sound, profile_sound, records_sound}
use Rattle.meaning.proofs.schema_is_sound.Goals as goal

pub returns : goal.returns
returns c = record { entries = entry_sound; profile = profile_sound; records = records_sound }

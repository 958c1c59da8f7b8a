use Rattle.meaning.proofs.Message.{canonical_tables, canonical_records, canonical_zeros, canonical_entries_within, canonical_records_within}
use Rattle.meaning.proofs.canonical_message_is_in_order.Goals as goal

pub returns : goal.returns
returns c = record {
  tables = canonical_tables;
  renumbered = canonical_records;
  zeros = canonical_zeros;
  entries = canonical_entries_within;
  records = canonical_records_within;
}

use Rattle.otlp_msg.proofs.Acceptance.{accepted_fits}
use Rattle.otlp_msg.proofs.Decisions.{accepted_from, accepted_to, dangling_from, dangling_to, never_memory, size_from, size_to, wire_from, wire_to, zero_entry_from, zero_entry_to}
use Rattle.otlp_msg.proofs.laws.accepts_exactly.Goals as goal

pub returns : goal.returns
returns c = record {
  accepted = λ body m. (accepted_from body m, accepted_to body m);
  ranges = accepted_fits;
  size = λ body len. (size_from body len, size_to body len);
  wire = λ body f. (wire_from body f, wire_to body f);
  zero_entry = λ body table. (zero_entry_from body table, zero_entry_to body table);
  dangling = λ body table index len path. (dangling_from body table index len path, dangling_to body table index len path);
  no_memory = never_memory;
}

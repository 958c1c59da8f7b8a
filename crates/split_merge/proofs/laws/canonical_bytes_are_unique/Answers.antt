use Rattle.std.proofs.Common.{ap}
use Rattle.otlp_msg.proofs.Acceptance.{accepted_fits}
use Rattle.split_merge.specs.Canonical.{canonical_bytes, within_limit}
use Rattle.split_merge.proofs.Bytes.{canon_apart, only_meaning}
use Rattle.split_merge.proofs.laws.canonical_bytes_are_unique.Goals as goal

pub returns : goal.returns
returns c = record {
  meanings = only_meaning;
  apart = λ m n b f g e q. canon_apart m n f g b e q;
  bodies = λ a b m n bytes oa ob ea eb e q. canon_apart m n (accepted_fits a m oa ea) (accepted_fits b n ob eb) bytes e q;
  same = λ m n e. ap (λ ms. within_limit (canonical_bytes ms)) e;
}

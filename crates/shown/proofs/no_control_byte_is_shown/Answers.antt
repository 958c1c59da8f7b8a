use Rattle.shown.proofs.Visible.{lines-visible, bytes-shown, feeds-are-lines}
use Rattle.shown.proofs.no_control_byte_is_shown.Goals as goal

pub returns : goal.returns
returns c = record { lines = lines-visible; bytes = bytes-shown; feeds = feeds-are-lines }

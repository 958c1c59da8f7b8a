use Rattle.shown.specs.ShowText.{location_lines, sample_lines, profile_lines, scope_lines, resource_lines}
use Rattle.shown.proofs.Appended.{lines-append, numbered-append}
use Rattle.shown.proofs.texts_go_on.Goals as goal

pub returns : goal.returns
returns c = record {
  lines = lines-append;
  resources = numbered-append resource_lines;
  scopes = numbered-append scope_lines;
  profiles = numbered-append profile_lines;
  samples = numbered-append sample_lines;
  locations = numbered-append location_lines;
}

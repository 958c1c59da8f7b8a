use Rattle.schema_laws.proofs.Mentions.{leads_elsewhere}
use Rattle.schema_laws.proofs.moving.entries_lead_elsewhere.Goals as goal

pub returns : goal.returns
returns c = leads_elsewhere

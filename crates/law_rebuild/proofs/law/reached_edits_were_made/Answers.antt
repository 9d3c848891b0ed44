use Rattle.law_rebuild.proofs.Made.{edits_were_made}
use Rattle.law_rebuild.proofs.law.reached_edits_were_made.Goals as goal

pub returns : goal.returns
returns c = edits_were_made

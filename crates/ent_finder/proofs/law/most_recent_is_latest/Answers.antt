use Rattle.ent_finder.proofs.Latest.{latest, none_named}
use Rattle.ent_finder.proofs.law.most_recent_is_latest.Goals as goal

pub returns : goal.returns
returns c = record { found = latest; none = none_named }

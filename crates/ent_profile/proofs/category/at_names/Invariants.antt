use Rattle.std.proofs.Common.{◌≡◌, drop}
use Rattle.ent_profile.specs.Asks.{category_at}
use Rattle.ent_profile.specs.Reading.{gathered}
use Rattle.ent_profile.proofs.ReadLemmas.{with_front}
use Rattle.ent_profile.proofs.category.at_names.Given as goal

abbrev pub invariant-loop-name : goal.invariant-loop-name
invariant-loop-name g l = with_front l.all (gathered (category_at (g.J.JsonTree.content l.object)) (drop l.name-index l.names)) ≡ gathered (category_at (g.J.JsonTree.content l.object)) l.names

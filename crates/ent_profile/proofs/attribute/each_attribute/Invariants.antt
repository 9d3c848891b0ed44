use Rattle.std.proofs.Common.{◌≡◌, drop, map}
use Rattle.ent_profile.specs.Asks.{attribute_of}
use Rattle.ent_profile.specs.Reading.{each}
use Rattle.ent_profile.proofs.ReadLemmas.{with_front}
use Rattle.ent_profile.proofs.attribute.each_attribute.Given as goal

abbrev pub invariant-loop-value : goal.invariant-loop-value
invariant-loop-value g l = with_front l.all (each (attribute_of) (map g.J.JsonTree.content (drop l.value-index l.values))) ≡ each (attribute_of) (map g.J.JsonTree.content l.values)

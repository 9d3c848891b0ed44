use Rattle.std.proofs.Common.{◌≡◌, map}
use Rattle.ent_finder.specs.Slots.{held}
use Rattle.lint_reach.specs.Reached.{has_place, places_within}
use Rattle.lint_reach.specs.declared.place.DocPlace.{DocPlace}
use Rattle.lint_reach.specs.proofs_only.Search.{IsSound}
use Rattle.lint_reach.proofs.reached.reached_places.Given as goal

abbrev pub invariant-loop : goal.invariant-loop
invariant-loop g l = record {
  sound : IsSound (map held (g.P.Policies.slots l.policies)) l.search;
  places : (place : DocPlace) → has_place place l.search.places.keys
      ≡ has_place place (places_within l.counter (map held (g.P.Policies.slots l.policies)) l.root);
}

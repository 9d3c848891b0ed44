use Rattle.std.proofs.Common.{◌≡◌, ◌∙◌, ◌+◌, suc, ap, arith, map, refl, subst}
use Rattle.std.specs.Prelude.{◌||◌}
use Rattle.ent_finder.specs.Slots.{held}
use Rattle.lint_reach.specs.Reached.{has_place, places_within}
use Rattle.lint_reach.specs.declared.place.DocPlace.{DocPlace}
use Rattle.lint_reach.proofs.Places.{found_from, one_hop}
use Rattle.lint_reach.proofs.reached.reached_places.Goals as goal

pub loop-preserved : goal.loop-preserved
loop-preserved g c =
    let modules = map held (g.P.Policies.slots c.args.policies.now) in
    let next : suc c.loop.counter ≡ c.loop.counter + 1 = omega arith in
    let old = c.loop.search.places.keys in
    let new = c.look_at_all.new.search.places.keys in
    let added = λ (p : DocPlace). c.in_ok-look_at_all.ensures.places p
    ∙ ap (λ ps. has_place p old || has_place p (found_from modules ps)) (c.as_slice.ensures.value ∙ c.in_ok-places.ensures) in
    record {
      sound = c.in_ok-look_at_all.ensures.sound;
      places = subst (λ n. (place : DocPlace) → has_place place new ≡ has_place place (places_within n modules c.args.root.now)) next
          (one_hop modules old new (places_within c.loop.counter modules c.args.root.now) (found_from modules old) c.loop.invariant.places refl added);
    }

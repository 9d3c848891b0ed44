use Rattle.std.proofs.Common.{◌≡◌, ◌++◌, drop, map}
use Rattle.serde_json.specs.View.{items_view}
use Rattle.script_matching.specs.Places.{missing}
use Rattle.script_matching.proofs.placing.push_unlike.Given as goal

-- the places so far, and the other members are left
abbrev pub invariant-loop-i : goal.invariant-loop-i
invariant-loop-i l = map (λ v. v.items) l.told.items ++ missing l.i l.place (items_view (drop l.i l.items)) (items_view l.others)
    ≡ map (λ v. v.items) l.fn.told.items ++ missing 0 l.place (items_view l.items) (items_view l.others)

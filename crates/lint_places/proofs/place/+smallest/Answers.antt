use Rattle.std.proofs.Common.{◌<◌, arith}
use Rattle.std.proofs.lemmas.Result.{IfOk-weaker}
use Rattle.serde_json.specs.Data.{depth}
use Rattle.lint_places.specs.Faults.{IsLedTo}
use Rattle.lint_places.specs.Places.{IsSmallest}
use Rattle.lint_places.specs.Views.{spot_of}
use Rattle.lint_places.proofs.Inside.{depth-inside}
use Rattle.lint_places.proofs.Leading.{leads_deeper, leads_here}
use Rattle.lint_places.proofs.Smallest.{goes_inside, is_deeper, is_last}
use Rattle.lint_places.proofs.place.+smallest.Goals as goal

pub returns-in-None : goal.returns-in-None
returns-in-None g t c =
    let none = rw c.in-None.is at c.in_ok-inside.ensures.found in
    let here = spot_of g.J.JsonTree.content c.args.place in
    record { smallest = is_last c.args.fault here c.requires.faulty none; leads = leads_here c.args.fault here none }

pub smallest-requires : goal.smallest-requires
smallest-requires g t c κs within =
    let some = rw c.in-Some.is at c.in_ok-inside.ensures.found in
    let found = goes_inside c.args.fault (spot_of g.J.JsonTree.content c.args.place) (spot_of g.J.JsonTree.content c.in-Some.found) some in
    let less : depth (g.J.JsonTree.content c.in-Some.found.json.now) < depth (g.J.JsonTree.content c.args.place.json.now) =
    depth-inside (spot_of g.J.JsonTree.content c.args.place) (spot_of g.J.JsonTree.content c.in-Some.found) found.0 in
    (omega (arith, less), (within, (found.1, rw c.in-Some.is at c.in_ok-inside.ensures.marked)))

pub returns-clause-smallest : goal.returns-clause-smallest
returns-clause-smallest g t c =
    let some = rw c.in-Some.is at c.in_ok-inside.ensures.found in
    let here = spot_of g.J.JsonTree.content c.args.place in
    let there = spot_of g.J.JsonTree.content c.in-Some.found in
    let found = goes_inside c.args.fault here there some in
    IfOk-weaker c.smallest.result (λ p. IsSmallest c.args.fault (spot_of g.J.JsonTree.content p) there) (λ p. IsSmallest c.args.fault (spot_of g.J.JsonTree.content p) here)
    (λ p h. is_deeper c.args.fault here there (spot_of g.J.JsonTree.content p) found.0 h) c.smallest.ensures.smallest

pub returns-clause-leads : goal.returns-clause-leads
returns-clause-leads g t c =
    let some = rw c.in-Some.is at c.in_ok-inside.ensures.found in
    let here = spot_of g.J.JsonTree.content c.args.place in
    let there = spot_of g.J.JsonTree.content c.in-Some.found in
    IfOk-weaker c.smallest.result (λ p. IsLedTo c.args.fault (spot_of g.J.JsonTree.content p) there) (λ p. IsLedTo c.args.fault (spot_of g.J.JsonTree.content p) here)
    (λ p h. leads_deeper c.args.fault here there (spot_of g.J.JsonTree.content p) some h) c.smallest.ensures.leads

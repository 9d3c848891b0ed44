use Rattle.serde_json.specs.Data.{depth}
use Rattle.std.proofs.Common.{◌≡◌, false, true, map}
use Rattle.lint_places.specs.Faults.{has_inside, is_told_at}
use Rattle.lint_places.specs.Views.{fault_at, faults_in, spot_of}
use Rattle.lint_places.specs.proofs_only.Walk.{Keeps, TellsBelow, TellsMore}
use Rattle.lint_places.proofs.faults.+walk.Given as goal

abbrev pub decreases-walk : goal.decreases-walk
decreases-walk g l = depth (g.J.JsonTree.content l.place.now.json.now)

-- what is told so far is right, and whole, unless the search was cut
abbrev pub invariant-loop-part : goal.invariant-loop-part
invariant-loop-part g l =
    let content = g.J.JsonTree.content in
    let s = spot_of content l.place in
    Keeps s (faults_in content l.fn.faults) (faults_in content l.faults) ×
    TellsMore (faults_in content l.fn.faults) (faults_in content l.faults) ×
    (has_inside (l.fn.fault, s) ≡ false → is_told_at (faults_in content l.faults) s.pointer ≡ true) ×
    (l.fn.faults.is_cut ≡ true → l.faults.is_cut ≡ true) ×
    TellsBelow l.part-index (map (fault_at content) l.part-items) l.faults.is_cut (faults_in content l.faults)

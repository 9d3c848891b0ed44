use Rattle.std.proofs.Common.{◌≡◌, false, take}
use Rattle.std.specs.List.{list_any}
use Rattle.lint_declared.specs.Compared.{is_stray}
use Rattle.lint_declared.specs.proofs_only.Placed.{place_of, places_of}
use Rattle.lint_declared.proofs.stray.stray_of.Given as goal

-- none of the designators so far strays
abbrev pub invariant-loop-designator : goal.invariant-loop-designator
invariant-loop-designator g l =
    let content = g.J.JsonTree.content in
    list_any (λ designator. is_stray l.attributes designator (place_of content l.literal)) (places_of content (take l.designator-index l.designators)) ≡ false

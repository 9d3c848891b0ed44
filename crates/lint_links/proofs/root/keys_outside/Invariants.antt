use Rattle.std.proofs.Common.{◌≡◌, not, take}
use Rattle.std.specs.List.{filter}
use Rattle.lint_reach.specs.Reached.{has_place}
use Rattle.lint_links.specs.proofs_only.Root.{place_of}
use Rattle.lint_links.proofs.root.keys_outside.Given as goal

abbrev pub invariant-loop-key : goal.invariant-loop-key
invariant-loop-key l = l.left ≡ filter (λ k. not (has_place (place_of k) l.reached)) (take l.key-index l.keys)

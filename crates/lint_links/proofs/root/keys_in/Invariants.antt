use Rattle.std.proofs.Common.{◌≡◌, map, take}
use Rattle.lint_links.proofs.root.keys_in.Given as goal

abbrev pub invariant-loop-one : goal.invariant-loop-one
invariant-loop-one l = l.keys.items ≡ map (λ one. one.key.now) (take l.one-index l.all)

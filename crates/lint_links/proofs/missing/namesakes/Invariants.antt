use Rattle.std.proofs.Common.{◌≡◌, map, take}
use Rattle.std.specs.List.{filter}
use Rattle.ent_finder.specs.Finding.{is_of}
use Rattle.lint_links.proofs.missing.namesakes.Given as goal

abbrev pub invariant-loop-one : goal.invariant-loop-one
invariant-loop-one l = map (λ key. key.now) l.keys.items ≡ filter (is_of l.reference) (map (λ one. one.key.now) (take l.one-index l.all))

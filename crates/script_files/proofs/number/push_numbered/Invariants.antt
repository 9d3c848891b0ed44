use Rattle.std.proofs.Common.{◌≡◌, ◌++◌, map, take}
use Rattle.std.specs.List.{flat_map}
use Rattle.script_files.specs.Numbers.{number_at}
use Rattle.script_files.proofs.number.push_numbered.Given as goal

-- the parts so far are written
abbrev pub invariant-loop-behind : goal.invariant-loop-behind
invariant-loop-behind l = l.out.items ≡ l.initial.out.items ++ flat_map (number_at l.time) (map (λ p. p.now) (take l.behind-index l.others))

use Rattle.std.proofs.Common.{◌≡◌, ◌++◌, map}
use Rattle.std.specs.List.{flat_map, range_with_len}
use Rattle.script_files.specs.Brackets.{copy}
use Rattle.script_files.proofs.bracket.push_copies.Given as goal

-- the copies so far are written
abbrev pub invariant-loop-time : goal.invariant-loop-time
invariant-loop-time l = l.out.items ≡ l.fn.out.items ++ flat_map (copy l.separator (map (λ p. p.now) l.parts.items)) (range_with_len 0 l.time)

use Rattle.std.proofs.Common.{◌≡◌, ◌++◌, Some}
use Rattle.std.specs.List.{flat_map, range_with_len}
use Rattle.script_files.specs.Sessions.{steps_of}
use Rattle.script_files.proofs.building.push_times.Given as goal

-- the steps of the times so far
abbrev pub invariant-loop-time : goal.invariant-loop-time
invariant-loop-time l = l.steps ≡ l.fn.steps ++ flat_map (λ time. steps_of (Some time) l.lines) (range_with_len 0 l.time)

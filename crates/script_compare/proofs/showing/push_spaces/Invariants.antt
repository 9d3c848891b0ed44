use Rattle.std.proofs.Common.{◌≡◌, ◌++◌, replicate}
use Rattle.script_compare.proofs.showing.push_spaces.Given as goal

-- so many spaces so far
abbrev pub invariant-loop : goal.invariant-loop
invariant-loop l = l.out.items ≡ l.fn.out.items ++ replicate l.counter 32

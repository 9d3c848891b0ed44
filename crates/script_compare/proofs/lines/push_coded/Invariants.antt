use Rattle.std.proofs.Common.{◌≡◌, ◌++◌, map, take}
use Rattle.script_compare.specs.Gains.{code_byte}
use Rattle.script_compare.proofs.lines.push_coded.Given as goal

-- the bytes so far
abbrev pub invariant-loop-byte : goal.invariant-loop-byte
invariant-loop-byte l = l.out.items ≡ l.fn.out.items ++ map code_byte (take l.byte-index l.text)

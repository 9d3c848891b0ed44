use Rattle.std.proofs.Common.{◌≡◌, ◌++◌, take}
use Rattle.std.specs.List.{flat_map}
use Rattle.script_matching.specs.Places.{escaped_byte}
use Rattle.script_matching.proofs.placing.push_escaped.Given as goal

-- the bytes so far
abbrev pub invariant-loop-byte : goal.invariant-loop-byte
invariant-loop-byte l = l.place.items ≡ l.fn.place.items ++ flat_map escaped_byte (take l.byte-index l.key)

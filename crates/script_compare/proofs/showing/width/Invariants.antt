use Rattle.std.proofs.Common.{◌≡◌, take}
use Rattle.script_compare.specs.Shown.{width}
use Rattle.script_compare.proofs.showing.width.Given as goal

-- the characters so far
abbrev pub invariant-loop-byte : goal.invariant-loop-byte
invariant-loop-byte l = l.count ≡ width (take l.byte-index l.text)

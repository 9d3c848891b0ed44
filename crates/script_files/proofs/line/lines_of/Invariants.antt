use Rattle.std.proofs.Common.{◌≡◌, ◌+◌, ◌++◌, drop, map}
use Rattle.script_files.specs.Lines.{numbered_lines}
use Rattle.script_files.proofs.line.lines_of.Given as goal

-- the lines so far, and those of the other parts
abbrev pub invariant-loop-part : goal.invariant-loop-part
invariant-loop-part l = record {
  counted : l.number ≡ l.part-index;
  lines : l.lines.items ++ numbered_lines (l.part-index + 1) (map (λ p. p.now) (drop l.part-index l.part-items))
      ≡ numbered_lines 1 (map (λ p. p.now) l.part-items);
}

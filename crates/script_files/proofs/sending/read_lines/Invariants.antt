use Rattle.std.proofs.Common.{◌≡◌, ◌+◌, ◌++◌, drop, map}
use Rattle.script_files.specs.Sent.{sent_from}
use Rattle.script_files.proofs.sending.read_lines.Given as goal

-- the steps so far, and those of the other parts
abbrev pub invariant-loop-part : goal.invariant-loop-part
invariant-loop-part l = record {
  counted : l.number ≡ l.part-index;
  steps : l.steps ++ sent_from (l.part-index + 1) (map (λ p. p.now) (drop l.part-index l.part-items))
      ≡ sent_from 1 (map (λ p. p.now) l.part-items);
}

use Rattle.std.proofs.Common.{◌≡◌, map}
use Rattle.lint_declared.specs.Lines.{faults_in}
use Rattle.lint_declared.specs.proofs_only.Claims.{claimed_in}
use Rattle.lint_declared.proofs.Noted.{told_from}
use Rattle.lint_declared.proofs.lines.faulty_among.Given as goal

-- what is left is put behind what was
abbrev pub invariant-loop-index : goal.invariant-loop-index
invariant-loop-index l =
    let commands = map (λ c. c.now) l.commands in
    faults_in commands l.attributes l.listed (map (λ l. l.now) l.lines) ≡ told_from commands l.attributes l.listed l.all.items (claimed_in l.claims) l.lines l.index

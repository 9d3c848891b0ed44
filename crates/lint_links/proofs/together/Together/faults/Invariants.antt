use Rattle.std.proofs.Common.{◌≡◌, take}
use Rattle.std.specs.FinMap.{entries}
use Rattle.std.specs.List.{sum_by}
use Rattle.std.specs.Prelude.{vec_len}
use Rattle.ent_finder.specs.Slots.{held}
use Rattle.lint_links.specs.Together.{faults_of}
use Rattle.lint_links.proofs.together.Together.faults.Given as goal

abbrev pub invariant-loop-number : goal.invariant-loop-number
invariant-loop-number l = vec_len l.lines ≡ sum_by (λ e. faults_of (held l.self.state.docs) e.1) (take l.number (entries (held l.self.state.docs)))

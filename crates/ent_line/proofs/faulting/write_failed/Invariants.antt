use Rattle.std.proofs.Common.{◌≡◌, ◌++◌, map}
use Rattle.ent_json.specs.proofs_only.Text.{items_tokens_of}
use Rattle.ent_table.specs.Left.{judged_left}
use Rattle.ent_line.specs.Reports.{fault_data}
use Rattle.ent_line.specs.proofs_only.Failing.{failed_in}
use Rattle.ent_line.proofs.faulting.write_failed.Given as goal

abbrev pub invariant-loop-person : goal.invariant-loop-person
invariant-loop-person g l =
    l.out ++ items_tokens_of (map fault_data (failed_in (judged_left l.person-iterator)))
    ≡ l.fn.out ++ items_tokens_of (map fault_data (failed_in (judged_left l.fn.cells)))

use Rattle.std.proofs.Common.{◌≡◌, ◌++◌, drop, map}
use Rattle.ent_json.specs.proofs_only.Text.{items_tokens_of}
use Rattle.ent_line.specs.Reports.{pair_data}
use Rattle.ent_line.proofs.reports.write_pairs.Given as goal

abbrev pub invariant-loop-action : goal.invariant-loop-action
invariant-loop-action l = l.out ++ items_tokens_of (map pair_data (drop l.action-index l.found)) ≡ l.fn.out ++ items_tokens_of (map pair_data l.found)

use Rattle.std.proofs.Common.{◌≡◌, ◌++◌, drop, map}
use Rattle.ent_json.specs.proofs_only.Text.{items_tokens_of}
use Rattle.ent_line.specs.Reports.{triple_data}
use Rattle.ent_line.proofs.reports.write_triples.Given as goal

abbrev pub invariant-loop-person : goal.invariant-loop-person
invariant-loop-person l = l.out ++ items_tokens_of (map triple_data (drop l.person-index l.found)) ≡ l.fn.out ++ items_tokens_of (map triple_data l.found)

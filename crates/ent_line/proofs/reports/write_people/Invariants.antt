use Rattle.std.proofs.Common.{◌≡◌, ◌++◌, drop, map}
use Rattle.serde_json.specs.Data as json
use Rattle.ent_json.specs.proofs_only.Text.{items_tokens_of}
use Rattle.ent_line.proofs.reports.write_people.Given as goal

abbrev pub invariant-loop-person : goal.invariant-loop-person
invariant-loop-person l = l.out ++ items_tokens_of (map json.string (drop l.person-index l.people)) ≡ l.fn.out ++ items_tokens_of (map json.string l.people)

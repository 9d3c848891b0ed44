use Rattle.std.proofs.Common.{◌≡◌, ◌++◌, drop, map}
use Rattle.ent_json.specs.proofs_only.Text.{items_tokens_of}
use Rattle.ent_line.specs.Standing.{mark_data}
use Rattle.ent_line.specs.proofs_only.Standing.{marked_from}
use Rattle.ent_line.proofs.standing.write_marks.Given as goal

abbrev pub invariant-loop-session : goal.invariant-loop-session
invariant-loop-session l =
    l.out ++ items_tokens_of (map mark_data (marked_from l.session (drop l.session l.serials)))
    ≡ l.fn.out ++ items_tokens_of (map mark_data (marked_from 0 l.serials))

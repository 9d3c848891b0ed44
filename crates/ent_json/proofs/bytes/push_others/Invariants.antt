use Rattle.std.proofs.Common.{◌≡◌, ◌++◌, drop, length, take}
use Rattle.ent_json.specs.proofs_only.Written.{others_text}
use Rattle.ent_json.proofs.bytes.push_others.Given as goal

abbrev pub invariant-loop-number : goal.invariant-loop-number
invariant-loop-number l =
    (l.bytes.items ++ others_text (drop l.number-index l.numbers) ≡ l.fn.bytes.items ++ others_text l.numbers)
    × (take (length l.fn.bytes.items) l.bytes.items ≡ l.fn.bytes.items)

use Rattle.std.proofs.Common.{◌≡◌, ◌++◌, map}
use Rattle.serde_json.specs.View.{members_view}
use Rattle.script_matching.specs.Places.{unexpected}
use Rattle.script_matching.proofs.placing.push_unexpected.Given as goal

-- the places so far, and the other members are left
abbrev pub invariant-loop-key : goal.invariant-loop-key
invariant-loop-key l = map (λ v. v.items) l.told.items ++ unexpected l.place (members_view l.expected.entries) (members_view l.key-iterator)
    ≡ map (λ v. v.items) l.fn.told.items ++ unexpected l.place (members_view l.expected.entries) (members_view l.members.entries)

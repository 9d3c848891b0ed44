use Rattle.std.proofs.Common.{◌≡◌, ◌++◌}
use Rattle.serde_json.specs.View.{members_view}
use Rattle.script_compare.specs.Shown.{counts_text}
use Rattle.script_compare.proofs.showing.push_counts.Given as goal

-- the kinds so far, and the others are left
abbrev pub invariant-loop-kind : goal.invariant-loop-kind
invariant-loop-kind l = l.out.items ++ counts_text (members_view l.kind-iterator) ≡ l.fn.out.items ++ counts_text (members_view l.counts.entries)

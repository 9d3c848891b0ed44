use Rattle.std.proofs.Common.{◌-◌, length}
use Rattle.memo_plan.specs.Plan.{constant, entry_came, goes_on, is_test, skip_of}
use Rattle.memo_plan.specs.Signed.{Grows}
use Rattle.memo_plan.proofs.Signing.{IsSigning}
use Rattle.memo_plan.proofs.way.sign.Given as goal

abbrev pub invariant-loop-place : goal.invariant-loop-place
invariant-loop-place g l = record {
  grows : Grows g.O.Outcomes.scene g.O.Outcomes.has_test g.O.Outcomes.tells g.O.Outcomes.follows l.initial.outcomes l.outcomes;
  signing : IsSigning is_test constant entry_came goes_on skip_of g.O.Outcomes.scene g.O.Outcomes.has_test g.O.Outcomes.tells g.O.Outcomes.follows l.entries
      (g.O.Outcomes.scene l.initial.outcomes) l.outcomes l.place 0 l.way.items;
}

abbrev pub decreases-loop-place : goal.decreases-loop-place
decreases-loop-place g l = length l.entries - l.place

use Rattle.std.proofs.Common.{append_assoc}
use Rattle.serde_json.specs.View.{view}
use Rattle.script_coverage.proofs.Levels.{policies_below}
use Rattle.script_coverage.proofs.policies.+policies.Goals as goal

pub push_policies-returns : goal.push_policies-returns
push_policies-returns t c =
    rw (
      policies_below c.args.levels (view c.args.child.now) c.if-levels-eq0.false,
      ← append_assoc,
      ← c.in_ok-push_policy.ensures,
    ) c.in_ok-push_set.ensures

use Rattle.std.proofs.Common.{arith, sym, ◌∙◌}
use Rattle.memo_plan.proofs.Segments.{is_plan}
use Rattle.memo_plan.proofs.entries.plan_of.Goals as goal

pub returns-else-len-gt-MOST_ENTRIES : goal.returns-else-len-gt-MOST_ENTRIES
returns-else-len-gt-MOST_ENTRIES g c =
    is_plan (g.L.LookUps.looks c.args.held.now) c.in-Some.root c.in-Ok.entries (sym c.root.ensures ∙ c.in-Some.is) (omega arith) c.in-Ok.ensures

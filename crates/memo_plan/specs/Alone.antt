-- Tests that are evaluated alone.
use Rattle.ent_request.specs.Looks.{Looks}
use Rattle.ent_request.specs.Part.{Part, mapped}
use Rattle.ent_request.specs.declared.request.Request.{Request}
use Rattle.ent_walk.specs.Rule.{condition_part}
use Rattle.ent_walk.specs.Target.{target_part}
use Rattle.memo_plan.specs.Heard.{decides_part}
use Rattle.memo_plan.specs.declared.tested.Tested.{Tested}
use Rattle.memo_plan.specs.declared.tested.Tested.TheVariants as tested
use Rattle.memo_plan.specs.declared.task.TestTask.{TestTask}
use Rattle.memo_plan.specs.declared.task.TestTask.TheVariants as task

-- what a test comes to, and what is noted of it
abbrev pub task_part : Looks → Request → TestTask → Part Tested
task_part looks request (task.Target x) = mapped tested.Target (target_part looks request x)
task_part looks request (task.RuleTarget rule) = mapped tested.Target (target_part looks request rule.target)
task_part looks request (task.Condition within rule) = mapped tested.Condition (condition_part looks request within.definitions rule.condition)
task_part looks request (task.Decision within rule) = mapped tested.Decides (decides_part looks request within.definitions within.path rule)

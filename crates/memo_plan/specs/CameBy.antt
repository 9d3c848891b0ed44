-- What is heard of a test, by what it came to.
use Rattle.memo_plan.specs.Heard.{Came, Gist, condition, decides, target}
use Rattle.memo_plan.specs.declared.tested.Tested.{Tested}
use Rattle.memo_plan.specs.declared.tested.Tested.TheVariants as tested

-- what is heard of a test, by what it came to
abbrev pub came_by : Tested → Gist → Came
came_by (tested.Target t) g = target (record { value = t; gist = g })
came_by (tested.Condition c) g = condition (record { value = c; gist = g })
came_by (tested.Decides a) g = decides (record { value = a; gist = g })

-- Look-ups: all that an evaluation asks of what is held.
use Rattle.std.specs.Prelude.{List, Option}
use Rattle.ent_values.specs.Calendar.{Day, TimeOfDay}
use Rattle.ent_values.specs.declared.date_time.DateTime.{DateTime}
use Rattle.ent_values.specs.declared.value.Value.{Value}
use Rattle.ent_finder.specs.declared.row.AttrKey.{AttrKey}
use Rattle.ent_policy.specs.declared.document.Tree.{Tree}
use Rattle.ent_policy.specs.declared.key.Reference.{Reference}

-- the root, the document that a reference names, if there is one, the values that a key names, and the date, the time, and both together, where they are known
pub record Looks : Type 0 where
  pub root : Option Reference
  pub document : Reference → Option Tree
  pub values : AttrKey → List Value
  pub date : Option Day
  pub time : Option TimeOfDay
  pub date_time : Option DateTime

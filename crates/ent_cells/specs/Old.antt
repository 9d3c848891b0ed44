-- Old answers of cells that an edit changes.
use Rattle.std.specs.Prelude.{◌≡◌, List, false, Option, Some, None}
use Rattle.std.specs.List.{AllByRecursion, list_any}
use Rattle.std.specs.Ordering.{is_eq}
use Rattle.ent_request.specs.declared.answer.Answer.{Answer}
use Rattle.ent_log.specs.Tables.{KeepsTables, Undoes}
use Rattle.ent_log.specs.declared.entry.OldAnswer.{OldAnswer}
use Rattle.ent_log.specs.declared.log.Log.{Log}
use Rattle.ent_eval.specs.declared.who.Who.{Who}
use Rattle.ent_cells.specs.Cell.{Kept}
use Rattle.ent_cells.specs.Order.{request_order}

-- a table of cells: it has the answer of each, and none of any other request
pub record IsTableOf (cells : List Kept) (table : Who → Option Answer) : Type 0 where
  pub has : AllByRecursion (λ e. table e.who ≡ Some e.said.answer) cells
  pub only : (x : Who) → list_any (λ e. is_eq (request_order e.who x)) cells ≡ false → table x ≡ None

-- these are the old answers of the cells that an edit changed: put back in the table of the new cells, they give that of the old ones
abbrev pub AreOld : List (OldAnswer Who Answer) → List Kept → List Kept → Type 0
AreOld olds old new = (before after : Who → Option Answer) → IsTableOf old before → IsTableOf new after → Undoes request_order olds before after

-- an edit of cells was logged, by the old answers of those that it changed
abbrev pub IsLogged : List Kept → List Kept → Log Who Answer → Log Who Answer → Type 0
IsLogged cells new_cells old new =
    (olds : List (OldAnswer Who Answer)) × AreOld olds cells new_cells × KeepsTables request_order olds old new

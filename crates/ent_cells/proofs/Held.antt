-- A cell that is there, with keys in place of groups.
use Rattle.std.proofs.Common.{◌≡◌, ℕ, List, Option, Some, None, option_map, refl, sym, ap, ◌∙◌}
use Rattle.std.specs.Prelude.{if◌then◌else◌, option_and_then}
use Rattle.slab.specs.Slab.{Slab, get}
use Rattle.ent_request.specs.declared.question.Question.{Question}
use Rattle.ent_index.specs.declared.groups.Groups.{Groups}
use Rattle.ent_cells.specs.declared.cell.Cell.{Cell}
use Rattle.ent_cells.specs.declared.cell.Grouped.{Grouped}
use Rattle.ent_cells.specs.proofs_only.Entries.{changes_by}
use Rattle.ent_cells.specs.proofs_only.Grouping.{entry_in, replaces_by, said_of, seen}
use Rattle.ent_cells.specs.proofs_only.Logging.{answer_in, old_at, old_of, replaced_in}
use Rattle.ent_cells.proofs.StoreSteps.{get_seen}

module _ (q : List Question) (g : Groups) (s : Slab Cell) (key : ℕ) where
  pub olds_seen : option_and_then replaced_in (get s key) ≡ option_and_then old_at (get (seen q g s) key)
  olds_seen = by (get s key) ∙ ap (option_and_then old_at) (sym (get_seen q g s key))
    where
      next : (cell : Cell) (o : Option Grouped) → replaces_by cell o ≡ changes_by (entry_in q g cell).kept (option_map (said_of q g cell.who) o)
      next cell None = refl
      next cell (Some said) = refl

      by : (o : Option Cell) → option_and_then replaced_in o ≡ option_and_then old_at (option_map (entry_in q g) o)
      by None = refl
      by (Some cell) = ap (λ b. if b then Some (answer_in cell) else None) (next cell cell.next)

  -- a cell that is taken out has the answer that it had
  pub gone_answer_seen : (o : Option Cell) → get s key ≡ o → option_map answer_in o ≡ option_map (λ e. old_of e.kept) (get (seen q g s) key)
  gone_answer_seen o is = ap (option_map answer_in) (sym is) ∙ by (get s key) ∙ ap (option_map (λ e. old_of e.kept)) (sym (get_seen q g s key))
    where
      by : (o : Option Cell) → option_map answer_in o ≡ option_map (λ e. old_of e.kept) (option_map (entry_in q g) o)
      by None = refl
      by (Some cell) = refl

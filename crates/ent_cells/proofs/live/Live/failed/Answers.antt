use Rattle.std.proofs.Common.{None, Some, ◌∙◌}
use Rattle.ent_cells.specs.proofs_only.Grouping.{shown, shown_kept}
use Rattle.ent_cells.proofs.Listed.{shown_part}
use Rattle.ent_cells.proofs.live.Live.failed.Goals as goal

pub returns-in_err-cell : goal.returns-in_err-cell
returns-in_err-cell g c = c.from_residual.ensures ∙ shown_part (λ x. x.1.1) shown_kept None c.args.self.now.kept c.args.place c.in_err-cell.ensures.cell

pub returns : goal.returns
returns g c = shown_part (λ x. x.1.1) shown_kept (Some (shown c.in_ok-cell.cell.now)) c.args.self.now.kept c.args.place c.in_ok-cell.ensures.cell

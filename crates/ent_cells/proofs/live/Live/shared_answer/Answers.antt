use Rattle.std.proofs.Common.{None, Some, option_copied, ap, ◌∙◌}
use Rattle.ent_cells.specs.proofs_only.Grouping.{shown, shown_kept}
use Rattle.ent_cells.proofs.Listed.{shown_part}
use Rattle.ent_cells.proofs.live.Live.shared_answer.Goals as goal

pub returns-in_err-cell-clause-answer : goal.returns-in_err-cell-clause-answer
returns-in_err-cell-clause-answer g c =
    ap option_copied c.from_residual.ensures ∙ shown_part (λ x. x.1.0) shown_kept None c.args.self.now.kept c.args.place c.in_err-cell.ensures.cell

pub returns-clause-answer : goal.returns-clause-answer
returns-clause-answer g c = shown_part (λ x. x.1.0) shown_kept (Some (shown c.in_ok-cell.cell.now)) c.args.self.now.kept c.args.place c.in_ok-cell.ensures.cell

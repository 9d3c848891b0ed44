use Rattle.std.proofs.Common.{◌≡◌, ◌∙◌, true, ap, sym}
use Rattle.std.specs.Prelude.{filter, if◌then◌else◌, Ok, Err}
use Rattle.serde_json.specs.Written.{compact_text}
use Rattle.ent_table.specs.Left.{cells_left}
use Rattle.ent_table.specs.State.{table_of}
use Rattle.ent_line.specs.Cells.{cells_reply}
use Rattle.ent_line.specs.Commands.{cells_told}
use Rattle.ent_line.specs.Replies.{answered, text}
use Rattle.ent_command.specs.Wanted.{are_listed, is_asked}
use Rattle.ent_report.specs.Desk.{Desked}
use Rattle.ent_wire.specs.declared.refusal.Refusal.TheVariants.{NotThere}
use Rattle.ent_command.specs.CommandView.{wanted_view}
use Rattle.ent_line.specs.proofs_only.Selecting.{selects}
use Rattle.ent_line.proofs.service.Service.cells.Goals as goal

pub returns : goal.returns
unfolding cells_told
returns g c =
    let s = c.args.self.now.world.state in
    let wanted = wanted_view g.J.JsonTree.content c.args.wanted in
    let listed : are_listed s.names wanted ≡ true = sym c.are_listed.ensures ∙ c.if-not-are_listed.false in
    let left : cells_left c.cells.result ≡ table_of s = c.cells.ensures ∙ ap (λ v. table_of v.state) c.review.ensures ∙ ap (λ (d : Desked). table_of d.world.state) c.self.view_is in
    let cells : filter (selects c.of-selection.result) (cells_left c.cells.result) ≡ filter (is_asked wanted) (table_of s) =
    λ i. filter (λ cell. c.of-selection.ensures cell i) (left i) in
    ap text (c.in_ok-text.ensures ∙ ap (λ cs. compact_text (cells_reply cs)) cells)
    ∙ sym (λ i. answered (if listed i then Ok (cells_reply (filter (is_asked wanted) (table_of s))) else Err NotThere))

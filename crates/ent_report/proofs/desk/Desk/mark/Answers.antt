use Rattle.std.proofs.Common.{◌≡◌, map, Some, ap, subst, ◌∙◌}
use Rattle.std.specs.Prelude.{option_map, slice_set}
use Rattle.std.proofs.lemmas.List.{map-set}
use Rattle.ent_table.specs.AnswerMap.{answers_of}
use Rattle.ent_table.specs.Tables.{table_at_serial}
use Rattle.ent_report.specs.Desk.{Desked}
use Rattle.ent_report.specs.Kept.{Forgets}
use Rattle.ent_report.specs.Serials.{mark_at}
use Rattle.ent_report.specs.World.{mark_in, marked}
use Rattle.ent_report.proofs.desk.Desk.mark.Goals as goal

pub returns-clause-rest : goal.returns-clause-rest
returns-clause-rest g c =
    let d = c.self.inside in
    let state = d.review.state in
    let mark = mark_at d.review in
    let new = c.forget.new.self in
    let serial : c.serial-serial.result ≡ state.serial = c.serial-serial.ensures.value in
    let table : table_at_serial d.review c.serial-serial.result ≡ answers_of state =
    ap (table_at_serial d.review) serial ∙ c.serial-serial.ensures.now in
    let now : mark c.serial-serial.result ≡ mark_in state = λ i. record { serial = serial i; table = table i } in
    let marks : map (option_map mark) (slice_set d.marks c.args.session (Some c.serial-serial.result))
    ≡ slice_set (map (option_map mark) d.marks) c.args.session (Some (mark_in state)) =
    map-set (option_map mark) d.marks c.args.session (Some c.serial-serial.result)
    ∙ ap (λ m. slice_set (map (option_map mark) d.marks) c.args.session (Some m)) now in
    c.forget.ensures.rest
    ∙ (λ i. record {
      world = record { state = state; marks = marks i };
      past = new.past;
      evaluations = d.review.evaluations;
      counts = d.counts;
    })
    ∙ ap (λ (v : Desked). record v { world = marked v.world c.args.session; past = new.past }) c.self.view_is

pub returns-clause-forgotten : goal.returns-clause-forgotten
returns-clause-forgotten g c =
    let is = c.forget.ensures.forgotten in
    subst (λ (v : Desked). Forgets v c.forget.new.self) c.self.view_is
    (record { from = is.from; later = is.later; left = is.left; now = is.now })

use Rattle.std.proofs.Common.{◌≤◌, arith, ap, subst, ◌∙◌}
use Rattle.ent_report.specs.Desk.{Desked}
use Rattle.ent_report.specs.Kept.{Forgets}
use Rattle.ent_report.proofs.Desks.{marks_known, marks_stay}
use Rattle.ent_report.proofs.Serials.{serial_rises}
use Rattle.ent_report.proofs.desk.Desk.edit.Goals as goal

-- over a refused edit the table at each mark stays
pub returns-in_err-accepted-clause-marks : goal.returns-in_err-accepted-clause-marks
returns-in_err-accepted-clause-marks g c =
    let d = c.self.inside in
    marks_stay d.review c.edit.new.self d.marks c.edit.ensures.tables c.self.invariant.kept
    ∙ ap (λ (v : Desked). v.world.marks) c.self.view_is

-- behind an accepted one they are known, and no counts are kept
pub invariant_of-self-2 : goal.invariant_of-self-2
invariant_of-self-2 g c =
    let d = c.self.inside in
    let rises : d.review.state.serial ≤ c.edit.new.self.state.serial =
    serial_rises d.review.state c.edit.new.self.state c.args.edit c.edit.result c.edit.ensures.step in
    record {
      kept = marks_known d.review c.edit.new.self d.marks c.edit.ensures.tables c.self.invariant.kept rises;
      sixteen = c.self.invariant.sixteen;
      counts = tt;
    }

-- over it the table at each mark stays
pub returns-clause-marks : goal.returns-clause-marks
returns-clause-marks g c =
    let d = c.self.inside in
    ap (λ (v : Desked). v.world.marks) c.forget.ensures.rest
    ∙ marks_stay d.review c.edit.new.self d.marks c.edit.ensures.tables c.self.invariant.kept
    ∙ ap (λ (v : Desked). v.world.marks) c.self.view_is

-- forgetting leaves the tables from the oldest mark on, and the edit all of them
pub returns-clause-remembered : goal.returns-clause-remembered
returns-clause-remembered g c =
    let d = c.self.inside in
    let is = c.forget.ensures.forgotten in
    let rises : d.review.state.serial ≤ c.edit.new.self.state.serial =
    serial_rises d.review.state c.edit.new.self.state c.args.edit c.edit.result c.edit.ensures.step in
    subst (λ (v : Desked). Forgets v c.forget.new.self) c.self.view_is (record {
      from = is.from;
      later = omega (arith, is.later, c.edit.ensures.tables.from);
      left = λ n from le. is.left n from (omega (arith, le, rises)) ∙ c.edit.ensures.tables.each n le;
      now = is.now;
    })

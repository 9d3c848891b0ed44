use Rattle.std.proofs.Common.{◌≡◌, max, arith, ap, subst, ◌∙◌}
use Rattle.ent_report.specs.Desk.{Desked, desk_of}
use Rattle.ent_report.specs.Kept.{Forgets}
use Rattle.ent_report.specs.Serials.{oldest}
use Rattle.ent_report.proofs.Desks.{forgets, only_past, ready_again}
use Rattle.ent_report.proofs.Marks.{oldest_reached}
use Rattle.ent_report.proofs.desk.Desk.forget.Goals as goal

pub forget_before-requires : goal.forget_before-requires
forget_before-requires g c =
    let d = c.self.inside in
    omega (arith, oldest_reached d.marks c.serial.result, c.oldest-oldest.ensures, c.serial.ensures.value)

pub invariant_of-self : goal.invariant_of-self
invariant_of-self g c =
    let d = c.self.inside in
    let new = c.forget_before.new.self in
    let from : new.past.from ≡ max (oldest d.marks d.review.state.serial) d.review.past.from =
    c.forget_before.ensures.from
    ∙ ap (λ n. max n d.review.past.from) (c.oldest-oldest.ensures ∙ ap (oldest d.marks) c.serial.ensures.value) in
    ready_again d.review new d.marks d.counts c.self.invariant c.forget_before.ensures.rest
    (omega (arith, c.serial.ensures.value, c.serial.ensures.from)) from c.forget_before.ensures.tables c.serial.ensures.now

pub returns-clause-rest : goal.returns-clause-rest
returns-clause-rest g c =
    let d = c.self.inside in
    let new = c.forget_before.new.self in
    let from : new.past.from ≡ max (oldest d.marks d.review.state.serial) d.review.past.from =
    c.forget_before.ensures.from
    ∙ ap (λ n. max n d.review.past.from) (c.oldest-oldest.ensures ∙ ap (oldest d.marks) c.serial.ensures.value) in
    only_past d.review new d.marks d.counts c.self.invariant c.forget_before.ensures.rest
    (omega (arith, c.serial.ensures.value, c.serial.ensures.from)) from c.forget_before.ensures.tables c.serial.ensures.now
    ∙ ap (λ (v : Desked). record v { past = new.past }) c.self.view_is

pub returns-clause-forgotten : goal.returns-clause-forgotten
returns-clause-forgotten g c =
    let d = c.self.inside in
    let new = c.forget_before.new.self in
    let from : new.past.from ≡ max (oldest d.marks d.review.state.serial) d.review.past.from =
    c.forget_before.ensures.from
    ∙ ap (λ n. max n d.review.past.from) (c.oldest-oldest.ensures ∙ ap (oldest d.marks) c.serial.ensures.value) in
    subst (λ (v : Desked). Forgets v (desk_of new d.marks d.counts)) c.self.view_is
    (forgets d.review new d.marks d.counts c.self.invariant c.forget_before.ensures.rest
    (omega (arith, c.serial.ensures.value, c.serial.ensures.from)) from c.forget_before.ensures.tables c.serial.ensures.now)

use Rattle.std.proofs.Common.{◌||◌, Some, ap, not, sym, ◌∙◌}
use Rattle.ent_policy.specs.declared.fault.DocFault.TheVariants as fault
use Rattle.lint_places.specs.Faults.{has_inside}
use Rattle.lint_places.specs.Places.{is_fault}
use Rattle.lint_places.specs.Views.{fault_at, spot_of}
use Rattle.lint_places.proofs.Each.{inside_as, never}
use Rattle.lint_places.proofs.OwnLemmas.{smallest_here}
use Rattle.lint_places.proofs.faults.Faults.tell_here.Goals as goal

pub tell-requires : goal.tell-requires
tell-requires g c =
    smallest_here (fault_at g.J.JsonTree.content) c.args.fault (spot_of g.J.JsonTree.content c.args.place.now) c.args.parts.now c.requires.faulty c.requires.parts
    (sym c.is_inside.ensures ∙ c.if-is_inside.false)

pub returns-then-is_inside-clause-here : goal.returns-then-is_inside-clause-here
returns-then-is_inside-clause-here g c =
    let content = g.J.JsonTree.content in
    let s = spot_of content c.args.place.now in
    λ none. absurd (never (has_inside (c.args.fault, s)) (inside_as (fault_at content) (c.args.fault, s) c.args.parts.now c.requires.parts ∙ sym c.is_inside.ensures ∙ c.if-is_inside.true) none)

pub returns-then-is_inside-clause-into : goal.returns-then-is_inside-clause-into
returns-then-is_inside-clause-into g c =
    let content = g.J.JsonTree.content in
    let s = spot_of content c.args.place.now in
    sym (ap (λ b. b || not (is_fault fault.Form (Some c.args.fault))) (inside_as (fault_at content) (c.args.fault, s) c.args.parts.now c.requires.parts ∙ sym c.is_inside.ensures ∙ c.if-is_inside.true))

pub returns-clause-into : goal.returns-clause-into
returns-clause-into g c =
    let content = g.J.JsonTree.content in
    let s = spot_of content c.args.place.now in
    ap not c.is_fault.ensures
    ∙ sym (ap (λ b. b || not (is_fault fault.Form (Some c.args.fault))) (inside_as (fault_at content) (c.args.fault, s) c.args.parts.now c.requires.parts ∙ sym c.is_inside.ensures ∙ c.if-is_inside.false))

use Rattle.std.proofs.Common.{List, sym, subst}
use Rattle.std.specs.Prelude.{IsOk}
use Rattle.ent_values.specs.declared.value.Value.{Value}
use Rattle.ent_table.specs.Counted.{IsCounted}
use Rattle.ent_table.specs.Fresh.{point_of, state_of}
use Rattle.ent_table.specs.Step.{IsAnswered, attribute_set}
use Rattle.ent_table.proofs.Steps.{row_passes}
use Rattle.ent_table.proofs.review_parts.ReviewParts.set_attribute.Goals as goal

pub returns-clause-step : goal.returns-clause-step
returns-clause-step g c =
    let s = state_of c.args.self.now in
    let passes : IsOk (attribute_set s c.args.number c.args.key c.args.values) =
    subst (λ (vs : List Value). IsOk (attribute_set s c.args.number c.args.key vs)) c.as_slice.ensures
    c.in_ok-row_fault.ensures.tested in
    subst (λ r. IsAnswered r s (state_of c.make.new.self) c.make.result)
    (sym (row_passes s c.args.number c.args.key c.args.values passes)) c.make.ensures.step

pub returns-clause-counted : goal.returns-clause-counted
returns-clause-counted g c =
    let s = state_of c.args.self.now in
    let passes : IsOk (attribute_set s c.args.number c.args.key c.args.values) =
    subst (λ (vs : List Value). IsOk (attribute_set s c.args.number c.args.key vs)) c.as_slice.ensures c.in_ok-row_fault.ensures.tested in
    λ h. subst (λ r. IsCounted r s (point_of c.args.self.now).evaluations (point_of c.make.new.self).evaluations c.make.result)
    (sym (row_passes s c.args.number c.args.key c.args.values passes)) (c.make.ensures.counted h)

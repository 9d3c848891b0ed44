use Rattle.std.proofs.Common.{◌≡◌, ◌∙◌, Some, refl, sym, ap, subst, arith}
use Rattle.std.specs.Prelude.{IfNone, IfOk, IfSome, IsSome}
use Rattle.std.proofs.lemmas.Result.{IfOk-weaker}
use Rattle.ent_functions.specs.Applied.{applied}
use Rattle.ent_policy.specs.Variables.{definition_of}
use Rattle.ent_walk.specs.Expression.{evaluated_of, fault_in, meaning}
use Rattle.ent_walk.specs.proofs_only.Comes.{Comes, in_walk}
use Rattle.ent_walk.specs.proofs_only.Expression.{apply_part}
use Rattle.ent_trace.specs.proofs_only.Noted.{noting}
use Rattle.ent_walk.specs.proofs_only.Typed.{HasType, type_of}
use Rattle.ent_walk.specs.proofs_only.Uncopied.{ComesOf, HasItsType}
use Rattle.ent_walk.proofs.Arguments.{all-notes, all-value, next_argument, settled-notes, settled-type, settled-value}
use Rattle.ent_walk.proofs.Parts.{asks_left, came_from, comes, comes_equal, keeps_on}
use Rattle.ent_walk.proofs.Variables.{definition_part, definition_type, has_reference, worth-falls}
use Rattle.ent_walk.proofs.walk.Walk.+expression.Goals as goal

pub of_each-returns-in-Err-clause-comes : goal.of_each-returns-in-Err-clause-comes
of_each-returns-in-Err-clause-comes g t c =
    let came = came_from g.L.LookUps.looks (λ looks request. meaning looks request c.args.definitions.now c.args.references c.argument-item.result) c.args.self.now c.loop-argument.self c.expression.new.self c.in_ok-value.value
    c.loop-argument.invariant.keeps c.in_ok-value.ensures.comes in
    record {
      value = c.in-Err.ensures.0 ∙ settled-value c.args.function (meaning (g.L.LookUps.looks c.args.self.now.lender.held) c.args.self.now.lender.request c.args.definitions.now c.args.references) (type_of c.args.definitions.now c.args.references)
          c.args.arguments.now c.loop-argument.argument-index c.loop-argument.evaluated c.args.self.now.notes c.loop-argument.self.notes c.argument-item.result c.in_ok-value.value
          c.loop-argument-test.true c.argument-item.is c.loop-argument.invariant.evaluated came.value c.in-Err.ensures.1;
      notes = settled-notes c.args.function (meaning (g.L.LookUps.looks c.args.self.now.lender.held) c.args.self.now.lender.request c.args.definitions.now c.args.references) (type_of c.args.definitions.now c.args.references)
          c.args.arguments.now c.loop-argument.argument-index c.loop-argument.evaluated c.args.self.now.notes c.loop-argument.self.notes c.argument-item.result c.in_ok-value.value c.expression.new.self.notes
          c.loop-argument-test.true c.argument-item.is c.loop-argument.invariant.evaluated came.value c.in-Err.ensures.1 came.notes;
      keeps = keeps_on c.args.self.now c.loop-argument.self c.expression.new.self c.loop-argument.invariant.keeps came.keeps;
    }

pub of_each-returns-in-Err-clause-typed : goal.of_each-returns-in-Err-clause-typed
of_each-returns-in-Err-clause-typed g t c =
    subst (HasType _) (sym c.in-Err.ensures.0) (settled-type c.args.function c.in_ok-value.value _ c.in-Err.ensures.1 c.requires.typed)

pub of_each-loop-argument-preserved : goal.of_each-loop-argument-preserved
of_each-loop-argument-preserved g t c =
    let came = came_from g.L.LookUps.looks (λ looks request. meaning looks request c.args.definitions.now c.args.references c.argument-item.result) c.args.self.now c.loop-argument.self c.expression.new.self c.in_ok-value.value
    c.loop-argument.invariant.keeps c.in_ok-value.ensures.comes in
    let next = next_argument c.args.function (meaning (g.L.LookUps.looks c.args.self.now.lender.held) c.args.self.now.lender.request c.args.definitions.now c.args.references) (type_of c.args.definitions.now c.args.references)
    c.args.arguments.now c.loop-argument.argument-index c.loop-argument.evaluated c.args.self.now.notes c.loop-argument.self.notes c.argument-item.result c.in_ok-value.value c.in-Ok.argument c.push.new.self c.expression.new.self.notes
    c.loop-argument-test.true c.argument-item.is c.loop-argument.invariant.evaluated came.value came.notes c.in_ok-value.ensures.typed c.in-Ok.ensures.0 c.in-Ok.ensures.1 c.in_ok-push-in-Ok.ensures.ok in
    record { evaluated = next; keeps = keeps_on c.args.self.now c.loop-argument.self c.expression.new.self c.loop-argument.invariant.keeps came.keeps }

pub of_each-returns-clause-comes : goal.of_each-returns-clause-comes
of_each-returns-clause-comes g t c =
    let part = meaning (g.L.LookUps.looks c.args.self.now.lender.held) c.args.self.now.lender.request c.args.definitions.now c.args.references in
    let type = type_of c.args.definitions.now c.args.references in
    let all = apply_part (g.L.LookUps.looks c.args.self.now.lender.held) c.args.self.now.lender.request c.args.definitions.now c.args.references c.args.function c.args.arguments.now in
    let noted = ap (λ given. noting c.loop-argument.self.notes (fault_in c.args.function (applied c.args.function given))) c.as_slice.ensures
    ∙ all-notes c.args.function part type c.args.arguments.now c.loop-argument.argument-index c.loop-argument.evaluated c.args.self.now.notes c.loop-argument.self.notes (omega (arith, c.loop-argument-test.false)) c.loop-argument.invariant.evaluated
    (noting c.loop-argument.self.notes (fault_in c.args.function (applied c.args.function c.loop-argument.evaluated))) refl in
    comes (λ v. v) c.applied_to.result all c.args.self.now c.applied_to.new.self
    (IfOk-weaker c.applied_to.result _ _ (λ v is. is ∙ ap (λ given. evaluated_of (applied c.args.function given)) c.as_slice.ensures
    ∙ all-value c.args.function part type c.args.arguments.now c.loop-argument.argument-index c.loop-argument.evaluated c.args.self.now.notes c.loop-argument.self.notes (omega (arith, c.loop-argument-test.false)) c.loop-argument.invariant.evaluated) c.applied_to.ensures.value)
    (asks_left c.applied_to.result (fault_in c.args.function (applied c.args.function c.as_slice.result.now)) all.notes c.args.self.now c.loop-argument.self c.applied_to.new.self noted c.loop-argument.invariant.keeps c.applied_to.ensures.notes)

pub variable-expression-requires : goal.variable-expression-requires
variable-expression-requires g t c κs within =
    let left = has_reference c.args.definitions.now c.args.references c.args.id.now c.requires.typed in
    let found : definition_of c.args.definitions.now c.args.id.now ≡ Some c.in-Some.definition.now = sym c.in-Some.ensures in
    let falls = worth-falls c.args.definitions.now c.args.references c.args.id.now c.in-Some.definition.now found left in
    (omega (arith, falls), (within, subst IsSome (definition_type c.args.definitions.now c.args.references c.args.id.now c.in-Some.definition.now found c.requires.typed) c.requires.typed))

pub variable-returns-clause-comes : goal.variable-returns-clause-comes
variable-returns-clause-comes g t c =
    let found : definition_of c.args.definitions.now c.args.id.now ≡ Some c.in-Some.definition.now = sym c.in-Some.ensures in
    comes_equal (λ v. v) c.expression.result c.args.self.now c.expression.new.self _ _ (sym (definition_part c.args.definitions.now c.args.references c.args.id.now c.in-Some.definition.now found
    (g.L.LookUps.looks c.args.self.now.lender.held) c.args.self.now.lender.request (has_reference c.args.definitions.now c.args.references c.args.id.now c.requires.typed))) c.expression.ensures.comes

pub variable-returns-clause-typed : goal.variable-returns-clause-typed
variable-returns-clause-typed g t c =
    IfOk-weaker c.expression.result _ _ (λ v has. subst (λ type. HasType type v) (sym (definition_type c.args.definitions.now c.args.references c.args.id.now c.in-Some.definition.now (sym c.in-Some.ensures) c.requires.typed)) has) c.expression.ensures.typed

pub application-uncopied-requires : goal.application-uncopied-requires
application-uncopied-requires g t c = (c.args.definitions.now, c.args.references, c.requires.typed)

pub application-returns-in-Some-clause-comes : goal.application-returns-in-Some-clause-comes
application-returns-in-Some-clause-comes g t c =
    let before = c.args.self.now in
    subst (λ o. IfSome o (in_walk g.L.LookUps.looks before ComesOf c.args.function c.args.arguments.now before c.uncopied.new.self)) c.in-Some.is c.in_ok-value.ensures.comes
    c.args.definitions.now c.args.references

pub application-returns-in-Some-clause-typed : goal.application-returns-in-Some-clause-typed
application-returns-in-Some-clause-typed g t c =
    subst (λ o. IfSome o (HasItsType c.args.function c.args.arguments.now)) c.in-Some.is c.in_ok-value.ensures.typed c.args.definitions.now c.args.references c.requires.typed

pub application-returns-in-None-clause-comes : goal.application-returns-in-None-clause-comes
application-returns-in-None-clause-comes g t c =
    let left : c.uncopied.new.self ≡ c.args.self.now = subst (λ o. IfNone o (c.uncopied.new.self ≡ c.args.self.now)) c.in-None.is c.in_ok-value.ensures.left in
    subst (λ w. IfOk c.of_each.result (Comes (in_walk g.L.LookUps.looks w apply_part c.args.definitions.now c.args.references c.args.function c.args.arguments.now) w c.of_each.new.self)) left c.of_each.ensures.comes

use Rattle.std.proofs.Common.{◌≡◌, ℕ, List, subst, sym}
use Rattle.std.proofs.lemmas.Option.{IfSome_then}
use Rattle.std.proofs.lemmas.Result.{IfOk-weaker}
use Rattle.ent_policy.specs.declared.expression.VariableDefinition.{VariableDefinition}
use Rattle.ent_walk.specs.proofs_only.Comes.{Comes}
use Rattle.ent_walk.specs.proofs_only.Expression.{apply_part}
use Rattle.ent_walk.specs.proofs_only.Typed.{HasType}
use Rattle.ent_walk.specs.proofs_only.Uncopied.{uncopied_part}
use Rattle.ent_walk.proofs.walk.Walk.uncopied.Goals as goal

pub told-requires : goal.told-requires
told-requires g c = c.in-Some.ensures.tested c.requires.0 c.requires.1 c.requires.2

pub returns-in-Some-clause-comes : goal.returns-in-Some-clause-comes
returns-in-Some-clause-comes g c =
    let looks = g.L.LookUps.looks c.args.self.now.lender.held in
    let u = c.in-Some.uncopied in
    let same : (definitions : List VariableDefinition) (n : ℕ) → apply_part looks c.args.self.now.lender.request definitions n c.args.function c.args.arguments.now ≡ uncopied_part looks c.args.self.now.lender.request u =
    λ definitions n. subst (λ request. apply_part looks request definitions n c.args.function c.args.arguments.now ≡ uncopied_part looks request u) c.request.ensures (c.in-Some.ensures.part looks definitions n) in
    IfOk-weaker c.told.result _ _ (λ o is. IfSome_then o is (λ v came definitions n. subst (λ p. Comes p c.args.self.now c.told.new.self v) (sym (same definitions n)) came)) c.told.ensures.comes

pub returns-in-Some-clause-typed : goal.returns-in-Some-clause-typed
returns-in-Some-clause-typed g c =
    IfOk-weaker c.told.result _ _ (λ o is. IfSome_then o is (λ v has definitions n some. subst (λ type. HasType type v) (sym (c.in-Some.ensures.typed definitions n some)) has)) c.told.ensures.typed

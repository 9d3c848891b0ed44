use Rattle.std.proofs.Common.{Some, subst, sym}
use Rattle.std.specs.Prelude.{IfOk, IfSome}
use Rattle.std.proofs.lemmas.Option.{IfSome_then}
use Rattle.std.proofs.lemmas.Result.{IfOk-weaker}
use Rattle.ent_walk.specs.proofs_only.Comes.{Comes, in_walk}
use Rattle.ent_walk.specs.proofs_only.Typed.{HasType}
use Rattle.ent_walk.specs.proofs_only.Uncopied.{IsTested, uncopied_part, uncopied_type}
use Rattle.ent_walk.proofs.walk.Walk.told.Goals as goal

pub is_any-requires : goal.is_any-requires
is_any-requires g c = subst IsTested c.in-AnyOf.is c.requires

pub returns-in_ok-are_equal-in-Equal-clause-comes : goal.returns-in_ok-are_equal-in-Equal-clause-comes
returns-in_ok-are_equal-in-Equal-clause-comes g c =
    subst (λ u. Comes (in_walk g.L.LookUps.looks c.args.self.now uncopied_part u) c.args.self.now c.are_equal.new.self c.in_ok-are_equal-in-Equal.field-0) (sym c.in-Equal.is) c.in_ok-are_equal-in-Equal.ensures.comes

pub returns-in_ok-are_equal-in-Equal-clause-typed : goal.returns-in_ok-are_equal-in-Equal-clause-typed
returns-in_ok-are_equal-in-Equal-clause-typed g c =
    subst (λ u. HasType (Some (uncopied_type u)) c.in_ok-are_equal-in-Equal.field-0) (sym c.in-Equal.is) c.in_ok-are_equal-in-Equal.ensures.typed

pub returns-in_ok-is_in-in-IsIn-clause-comes : goal.returns-in_ok-is_in-in-IsIn-clause-comes
returns-in_ok-is_in-in-IsIn-clause-comes g c =
    subst (λ u. Comes (in_walk g.L.LookUps.looks c.args.self.now uncopied_part u) c.args.self.now c.is_in.new.self c.in_ok-is_in-in-IsIn.field-0) (sym c.in-IsIn.is) c.in_ok-is_in-in-IsIn.ensures.comes

pub returns-in_ok-is_in-in-IsIn-clause-typed : goal.returns-in_ok-is_in-in-IsIn-clause-typed
returns-in_ok-is_in-in-IsIn-clause-typed g c =
    subst (λ u. HasType (Some (uncopied_type u)) c.in_ok-is_in-in-IsIn.field-0) (sym c.in-IsIn.is) c.in_ok-is_in-in-IsIn.ensures.typed

pub returns-in_ok-is_any-in-AnyOf-clause-comes : goal.returns-in_ok-is_any-in-AnyOf-clause-comes
returns-in_ok-is_any-in-AnyOf-clause-comes g c =
    subst (λ u. Comes (in_walk g.L.LookUps.looks c.args.self.now uncopied_part u) c.args.self.now c.is_any.new.self c.in_ok-is_any-in-AnyOf.field-0) (sym c.in-AnyOf.is) c.in_ok-is_any-in-AnyOf.ensures.comes

pub returns-in_ok-is_any-in-AnyOf-clause-typed : goal.returns-in_ok-is_any-in-AnyOf-clause-typed
returns-in_ok-is_any-in-AnyOf-clause-typed g c =
    subst (λ u. HasType (Some (uncopied_type u)) c.in_ok-is_any-in-AnyOf.field-0) (sym c.in-AnyOf.is) c.in_ok-is_any-in-AnyOf.ensures.typed

pub returns-in-OneAndOnly-clause-comes : goal.returns-in-OneAndOnly-clause-comes
returns-in-OneAndOnly-clause-comes g c =
    subst (λ u. IfOk c.only.result (λ o. IfSome o (Comes (in_walk g.L.LookUps.looks c.args.self.now uncopied_part u) c.args.self.now c.only.new.self))) (sym c.in-OneAndOnly.is)
    (IfOk-weaker c.only.result _ _ (λ o is. IfSome_then o is (λ v came. came c.in-OneAndOnly.field-0)) c.only.ensures.comes)

pub returns-in-OneAndOnly-clause-typed : goal.returns-in-OneAndOnly-clause-typed
returns-in-OneAndOnly-clause-typed g c =
    subst (λ u. IfOk c.only.result (λ o. IfSome o (HasType (Some (uncopied_type u))))) (sym c.in-OneAndOnly.is) c.only.ensures.typed

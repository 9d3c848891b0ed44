use Rattle.std.proofs.Common.{refl}
use Rattle.std.specs.Prelude.{option_copied}
use Rattle.ent_trace.specs.proofs_only.Noted.{asked_by}
use Rattle.ent_policy.specs.declared.expression.Expression.TheVariants.{Designator}
use Rattle.ent_walk.proofs.AnyBag.{any-of-part, any-of-type, are_tested}
use Rattle.ent_walk.proofs.Literals.{equal-part, equal-type, is-in-part, is-in-type, only-part, only-type}
use Rattle.ent_walk.proofs.uncopied.Uncopied.of.Goals as goal

pub returns-in_ok-of-in-Equal-2 : goal.returns-in_ok-of-in-Equal-2
returns-in_ok-of-in-Equal-2 c =
    let f = c.args.function in
    let e = c.in-Equal.field-0 in
    let xs = c.args.arguments.now in
    let s = c.in_ok-of-in-Equal.field-0 in
    let t = c.in_ok-of-in-Equal-2.field-0 in
    record {
      part = λ looks definitions n. equal-part looks c.args.request.now definitions n f e xs c.in_ok-first-in-Equal.first.now c.in_ok-first-in-Equal.second.now s.value.now t.value.now
          (asked_by (option_copied s.asked)) (asked_by (option_copied t.asked)) c.in-Equal.is c.in_ok-first-in-Equal.ensures
          (c.in_ok-of-in-Equal.ensures looks definitions n) (c.in_ok-of-in-Equal-2.ensures looks definitions n);
      typed = λ definitions n. equal-type definitions n f e xs c.in-Equal.is;
      tested = λ definitions n some. tt;
    }

pub returns-in_ok-of-in-IsIn : goal.returns-in_ok-of-in-IsIn
returns-in_ok-of-in-IsIn c =
    let f = c.args.function in
    let e = c.in-IsIn.field-0 in
    let d = c.in_ok-value-in-IsIn.designator.now in
    let xs = c.args.arguments.now in
    let s = c.in_ok-of-in-IsIn.field-0 in
    record {
      part = λ looks definitions n. is-in-part looks c.args.request.now definitions n f e xs c.in_ok-value-in-IsIn.value.now (Designator d) s.value.now (asked_by (option_copied s.asked)) d
          c.in-IsIn.is c.in_ok-value-in-IsIn.ensures (c.in_ok-of-in-IsIn.ensures looks definitions n) refl;
      typed = λ definitions n. is-in-type definitions n f e xs c.in-IsIn.is;
      tested = λ definitions n some. tt;
    }

pub returns-in_ok-one_designator-in-OneAndOnly : goal.returns-in_ok-one_designator-in-OneAndOnly
returns-in_ok-one_designator-in-OneAndOnly c =
    let f = c.args.function in
    let e = c.in-OneAndOnly.element in
    let d = c.in_ok-one_designator-in-OneAndOnly.field-0.now in
    let xs = c.args.arguments.now in
    record {
      part = λ looks definitions n. only-part looks c.args.request.now definitions n f e d xs c.in-OneAndOnly.is c.in_ok-one_designator-in-OneAndOnly.ensures;
      typed = λ definitions n. only-type definitions n f e d xs c.in-OneAndOnly.is c.in_ok-one_designator-in-OneAndOnly.ensures;
      tested = λ definitions n some. tt;
    }

pub returns-in_ok-test-in-AnyOf : goal.returns-in_ok-test-in-AnyOf
returns-in_ok-test-in-AnyOf c =
    let g = c.args.function in
    let f = c.in_ok-test-in-AnyOf.test in
    let v = c.in_ok-test-in-AnyOf.literal.now in
    let d = c.in_ok-test-in-AnyOf.designator.now in
    let xs = c.args.arguments.now in
    record {
      part = λ looks definitions n. any-of-part looks c.args.request.now definitions n g f v d xs c.in-AnyOf.is c.in_ok-test-in-AnyOf.ensures;
      typed = λ definitions n. any-of-type definitions n g f v d xs c.in-AnyOf.is c.in_ok-test-in-AnyOf.ensures;
      tested = λ definitions n. are_tested definitions n g f v d xs c.in-AnyOf.is c.in_ok-test-in-AnyOf.ensures;
    }

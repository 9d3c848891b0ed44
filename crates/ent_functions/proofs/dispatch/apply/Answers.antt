use Rattle.std.proofs.Common.{map}
use Rattle.std.specs.Prelude.{IsSome}
use Rattle.ent_functions.specs.Applied.{applied}
use Rattle.ent_functions.specs.Arguments.{type_of_arg}
use Rattle.ent_functions.specs.Types.{higher_order_type, result_type_of}
use Rattle.ent_functions.proofs.TypedResults.{first_order_answer, higher_gives, others_applied, others_taken, others_type}
use Rattle.ent_functions.proofs.dispatch.apply.Goals as goal

pub any_of-requires : goal.any_of-requires
unfolding result_type_of
any_of-requires c = rw c.in-AnyOf.is at c.requires

pub all_of-requires : goal.all_of-requires
unfolding result_type_of
all_of-requires c = rw c.in-AllOf.is at c.requires

pub first_order-requires : goal.first_order-requires
first_order-requires c = others_taken c.args.function c.args.arguments.now c.in_default.not-AnyOf c.in_default.not-AllOf c.requires

pub returns-in-AnyOf-clause-value : goal.returns-in-AnyOf-clause-value
unfolding applied
returns-in-AnyOf-clause-value c = rw (c.in-AnyOf.is, c.boolean.ensures) c.any_of.ensures

pub returns-in-AllOf-clause-value : goal.returns-in-AllOf-clause-value
unfolding applied
returns-in-AllOf-clause-value c = rw (c.in-AllOf.is, c.boolean-in-AllOf.ensures) c.all_of.ensures

pub returns-in-AnyOf-clause-typed : goal.returns-in-AnyOf-clause-typed
unfolding result_type_of
returns-in-AnyOf-clause-typed c =
    let some : IsSome (higher_order_type (map type_of_arg c.args.arguments.now)) = rw c.in-AnyOf.is at c.requires in
    rw (c.in-AnyOf.is, c.boolean.ensures) (higher_gives (map type_of_arg c.args.arguments.now) some)

pub returns-in-AllOf-clause-typed : goal.returns-in-AllOf-clause-typed
unfolding result_type_of
returns-in-AllOf-clause-typed c =
    let some : IsSome (higher_order_type (map type_of_arg c.args.arguments.now)) = rw c.in-AllOf.is at c.requires in
    rw (c.in-AllOf.is, c.boolean-in-AllOf.ensures) (higher_gives (map type_of_arg c.args.arguments.now) some)

pub returns-in_default : goal.returns-in_default
returns-in_default c =
    let taken = others_taken c.args.function c.args.arguments.now c.in_default.not-AnyOf c.in_default.not-AllOf c.requires in
    record {
      value = rw (others_applied c.args.function c.in_default.not-AnyOf c.in_default.not-AllOf) c.first_order.ensures.value;
      memory = c.first_order.ensures.memory;
      typed = rw (others_type c.args.function c.in_default.not-AnyOf c.in_default.not-AllOf)
          (first_order_answer c.args.function c.args.arguments.now c.first_order.result taken c.first_order.ensures.held c.first_order.ensures.value);
    }

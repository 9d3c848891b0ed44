use Rattle.std.proofs.Common.{◌≡◌, true, [], refl}
use Rattle.std.proofs.lemmas.List.Elements.{All-cons, All-nil}
use Rattle.ent_functions.specs.proofs_only.Reading.{IsHeld, Takes}
use Rattle.ent_functions.specs.declared.arg.Arg.TheVariants.{Many}
use Rattle.ent_functions.specs.declared.function.Function.TheVariants as functions
use Rattle.ent_functions.proofs.Memory.{only_value_wants}
use Rattle.ent_functions.proofs.Taken.{one_bag_taken, takes_one_bag, value_and_bag_taken}
use Rattle.ent_functions.proofs.dispatch.of_bag.Goals as goal

pub one_bag-requires : goal.one_bag-requires
one_bag-requires c =
    let kind : takes_one_bag c.args.function ≡ true = rw c.in-OneAndOnly.is refl in
    one_bag_taken c.args.function c.args.arguments.now kind c.requires.taken

pub one_bag-requires-in-BagSize : goal.one_bag-requires-in-BagSize
one_bag-requires-in-BagSize c =
    let kind : takes_one_bag c.args.function ≡ true = rw c.in-BagSize.is refl in
    one_bag_taken c.args.function c.args.arguments.now kind c.requires.taken

pub value_and_bag-requires : goal.value_and_bag-requires
value_and_bag-requires c =
    let taken : Takes (functions.IsIn c.in-IsIn.field-0) c.args.arguments.now = rw (← c.in-IsIn.is) c.requires.taken in
    value_and_bag_taken c.in-IsIn.field-0 c.args.arguments.now taken

pub returns-in-OneAndOnly-clause-held : goal.returns-in-OneAndOnly-clause-held
returns-in-OneAndOnly-clause-held c = λ kind.
    rw c.one_bag.ensures (All-cons IsHeld (Many c.one_bag.result.now) [] c.one_and_only.ensures.held (All-nil IsHeld))

pub returns-in-OneAndOnly-clause-memory : goal.returns-in-OneAndOnly-clause-memory
returns-in-OneAndOnly-clause-memory c =
    let taken : Takes (functions.OneAndOnly c.in-OneAndOnly.field-0) c.args.arguments.now = rw (← c.in-OneAndOnly.is) c.requires.taken in
    rw c.in-OneAndOnly.is
    (only_value_wants c.in-OneAndOnly.field-0 c.one_bag.result.now c.args.arguments.now c.one_and_only.result c.one_bag.ensures taken c.one_and_only.ensures.memory)

use Rattle.ent_functions.proofs.Memory.{exact, exact_value}
use Rattle.ent_functions.proofs.dispatch.first_order.Goals as goal

pub returns-in-Equal-clause-memory : goal.returns-in-Equal-clause-memory
returns-in-Equal-clause-memory c = exact _ c.args.function c.args.arguments.now c.tested.result c.requires c.tested.ensures

pub returns-in-Add-clause-memory : goal.returns-in-Add-clause-memory
returns-in-Add-clause-memory c = exact _ c.args.function c.args.arguments.now c.calculated.result c.requires c.calculated.ensures

pub returns-in-DateAdd-clause-memory : goal.returns-in-DateAdd-clause-memory
returns-in-DateAdd-clause-memory c = exact _ c.args.function c.args.arguments.now c.moved.result c.requires c.moved.ensures

pub returns-in-Equal-clause-value : goal.returns-in-Equal-clause-value
returns-in-Equal-clause-value c = exact_value c.args.function c.args.arguments.now c.tested.result c.requires c.tested.ensures

pub returns-in-Add-clause-value : goal.returns-in-Add-clause-value
returns-in-Add-clause-value c = exact_value c.args.function c.args.arguments.now c.calculated.result c.requires c.calculated.ensures

pub returns-in-DateAdd-clause-value : goal.returns-in-DateAdd-clause-value
returns-in-DateAdd-clause-value c = exact_value c.args.function c.args.arguments.now c.moved.result c.requires c.moved.ensures

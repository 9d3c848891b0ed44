use Rattle.std.proofs.Common.{◌≡◌, rules}
use Rattle.std.specs.Prelude.{Err}
use Rattle.ent_functions.specs.Arguments.{values_of}
use Rattle.ent_functions.specs.Types.{element_type}
use Rattle.ent_functions.specs.declared.arg.Fault.TheVariants.{Memory}
use Rattle.ent_functions.proofs.Held.{held_once}
use Rattle.ent_functions.proofs.Memory.{filled_once, wants}
use Rattle.ent_functions.proofs.sets.union.Goals as goal

pub of-requires : goal.of-requires
of-requires c =
    rw (c.datatype.ensures, c.in_ok-values.ensures.value)
    (held_once (element_type c.args.element) c.args.arguments.now c.requires c.in_ok-values.ensures.held)

pub returns-in_err-values : goal.returns-in_err-values
returns-in_err-values c =
    let is : c.from_residual.result ≡ Err Memory = search rules in
    wants _ c.from_residual.result is (filled_once (values_of c.args.arguments.now) c.in_err-values.ensures.filled)

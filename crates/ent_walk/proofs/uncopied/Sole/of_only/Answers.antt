use Rattle.std.proofs.Common.{ap}
use Rattle.std.proofs.lemmas.Option.{IfSome_then}
use Rattle.std.specs.Prelude.{option_copied}
use Rattle.ent_trace.specs.proofs_only.Noted.{asked_by}
use Rattle.ent_walk.proofs.Literals.{only}
use Rattle.ent_walk.proofs.uncopied.Sole.of_only.Goals as goal

pub returns-in_ok-one_designator-in-OneAndOnly : goal.returns-in_ok-one_designator-in-OneAndOnly
returns-in_ok-one_designator-in-OneAndOnly c = IfSome_then c.of_own.result c.of_own.ensures (λ s own looks definitions references.
    only looks c.args.request.now definitions references c.args.function c.in-OneAndOnly.field-0 c.in_ok-one_designator-in-OneAndOnly.field-0.now s.value.now c.args.arguments.now (asked_by (option_copied s.asked))
    c.in-OneAndOnly.is c.in_ok-one_designator-in-OneAndOnly.ensures own.0 (ap asked_by own.1))

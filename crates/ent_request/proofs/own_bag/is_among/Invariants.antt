use Rattle.std.proofs.Common.{◌≡◌, drop}
use Rattle.ent_functions.specs.Sets.{is_among}
use Rattle.ent_request.proofs.own_bag.is_among.Given as goal

abbrev pub invariant-loop-other : goal.invariant-loop-other
invariant-loop-other l = is_among l.value (drop l.other-index l.values) ≡ is_among l.value l.values

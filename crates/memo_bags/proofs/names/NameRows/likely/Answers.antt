use Rattle.std.proofs.Common.{sym}
use Rattle.memo_bags.proofs.Placed.{none_elsewhere}
use Rattle.memo_bags.proofs.names.NameRows.likely.Goals as goal

pub returns-then-is_of-clause-some : goal.returns-then-is_of-clause-some
returns-then-is_of-clause-some c = c.is_of.ensures.is c.if-is_of.true

pub returns-then-is_of-2-clause-some : goal.returns-then-is_of-2-clause-some
returns-then-is_of-2-clause-some c = c.is_of-2.ensures.is c.if-is_of-2.true

pub returns-else-is_of-2-clause-none : goal.returns-else-is_of-2-clause-none
returns-else-is_of-2-clause-none c =
    let names = c.args.self.now in
    none_elsewhere names.rows.items names.places c.args.name.now c.in_ok-place.field-0.now names.placed (sym c.in_ok-place.ensures.value) c.if-is_of-2.ensures.other

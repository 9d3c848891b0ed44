use Rattle.std.proofs.Common.{arith, ltb, rules}
use Rattle.std.proofs.lemmas.List.Sorted.{IsPartitionPoint-from_clause, IsPartitionedBy-ltb}
use Rattle.ent_index.proofs.Placed.{places_rise, seat_behind, seat_found, seat_last}
use Rattle.ent_index.specs.declared.words.Word.{Word}
use Rattle.ent_index.proofs.words.seat.Goals as goal

pub returns-then-words-last : goal.returns-then-words-last
returns-then-words-last c = seat_behind c.args.place c.in-Some.last c.args.words.now (record { place = 0; bits = 0 }) c.requires (search rules) (omega (arith, c.if-words-last.true))

pub returns-then-words-last-2 : goal.returns-then-words-last-2
returns-then-words-last-2 c = seat_last c.args.place c.in-Some.last c.args.words.now (record { place = 0; bits = 0 }) c.requires (search rules) (omega (arith, c.if-words-last-2.true))

pub returns : goal.returns
returns c =
    let place = c.args.place in
    let words = c.args.words.now in
    seat_found place words c.partition_point.result
    (IsPartitionPoint-from_clause (λ (w : Word). ltb w.place place) words c.partition_point.result c.partition_point.ensures.partitioned (IsPartitionedBy-ltb (λ (w : Word). w.place) words place (places_rise words c.requires))
    (λ a r f called. search rules))
    c.partition_point.ensures.bound

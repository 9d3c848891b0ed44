use Rattle.std.proofs.Common.{ℕ, arith, slice_index_or}
use Rattle.std.proofs.lemmas.List.{get_or_default}
use Rattle.ent_index.proofs.Members.{numbered_more}
use Rattle.ent_index.proofs.numbers.Numbers.of.Goals as goal

pub loop-number-preserved : goal.loop-number-preserved
loop-number-preserved c =
    let numbers = c.args.numbers.now in
    let i = c.loop-number.number-index in
    let number : ℕ = slice_index_or numbers i 0 in
    numbered_more numbers i number c.loop-number.roll c.put.new.self (omega (arith, c.loop-number-test.true)) (get_or_default numbers i 0 number (omega (arith, c.loop-number-test.true))) c.loop-number.invariant
    c.in_ok-put.ensures.cells

use Rattle.std.proofs.Common.{sym, ◌∙◌}
use Rattle.ent_index.proofs.WordCells.{bit_told, has_none, member_there}
use Rattle.ent_index.specs.declared.words.Word.{Word}
use Rattle.ent_index.proofs.words.has.Goals as goal

pub returns-then-is_at : goal.returns-then-is_at
returns-then-is_at c =
    let words = c.args.words.now in
    let i = c.seat-seat.result in
    let d : Word = record { place = 0; bits = 0 } in
    let there = c.if-is_at.ensures.there in
    bit_told _ c.args.cell (sym (there.at d)) ∙ sym (member_there 0 words i c.args.cell d c.requires there.within (sym (there.at d)))

pub returns-else-is_at : goal.returns-else-is_at
returns-else-is_at c = c.if-is_at.false ∙ sym (has_none c.args.words.now c.seat-seat.result c.args.cell c.requires c.seat-seat.ensures c.if-is_at.ensures.absent)

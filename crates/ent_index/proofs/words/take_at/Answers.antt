use Rattle.std.proofs.Common.{◌≡◌, ℕ, List, slice_index_or}
use Rattle.std.proofs.lemmas.List.{get_or_default}
use Rattle.ent_index.proofs.Rolled.{take_cells, take_count, take_fewer, take_gone, take_words}
use Rattle.ent_index.specs.proofs_only.Rolls.{IsOf}
use Rattle.ent_index.specs.declared.words.Word.{Word}
use Rattle.ent_index.proofs.words.take_at.Goals as goal

abbrev none : Word
none = record { place = 0; bits = 0 }

abbrev there : List Word → ℕ → Word
there words seat = slice_index_or words seat none

read : (words : List Word) (seat place : ℕ) → IsOf place words seat → there words seat ≡ slice_index_or words seat (there words seat)
read words seat place is = get_or_default words seat none (there words seat) is.within

pub overflow_sub-result : goal.overflow_sub-result
overflow_sub-result c =
    let words = c.args.words.now in
    let seat = c.args.seat in
    take_fewer words seat (there words seat) c.requires.words c.requires.seat.within (read words seat _ c.requires.seat) c.args.cell (c.requires.seat.at none)

pub returns-clause-words : goal.returns-clause-words
returns-clause-words c =
    let words = c.args.words.now in
    let seat = c.args.seat in
    take_words words seat (there words seat) c.requires.words c.requires.seat.within (read words seat _ c.requires.seat) c.args.cell (c.requires.seat.at none)

pub returns-clause-cells : goal.returns-clause-cells
returns-clause-cells c =
    let words = c.args.words.now in
    let seat = c.args.seat in
    take_cells words seat (there words seat) c.requires.words c.requires.seat.within (read words seat _ c.requires.seat) c.args.cell (c.requires.seat.at none)

pub returns-clause-gone : goal.returns-clause-gone
returns-clause-gone c =
    let words = c.args.words.now in
    let seat = c.args.seat in
    take_gone words seat (there words seat) c.requires.words c.requires.seat.within (read words seat _ c.requires.seat) c.args.cell (c.requires.seat.at none)

pub returns-clause-count : goal.returns-clause-count
returns-clause-count c =
    let words = c.args.words.now in
    let seat = c.args.seat in
    take_count words seat (there words seat) c.requires.words c.requires.seat.within (read words seat _ c.requires.seat) c.args.cell (c.requires.seat.at none)

use Rattle.std.proofs.Common.{arith, slice_index_or}
use Rattle.std.proofs.lemmas.List.{get_or_default}
use Rattle.ent_index.proofs.Placed.{word_at}
use Rattle.ent_index.proofs.Rolled.{all_pushed, pushed_more}
use Rattle.ent_index.specs.declared.words.Word.{Word}
use Rattle.ent_index.proofs.words.push_all.Goals as goal

abbrev none : Word
none = record { place = 0; bits = 0 }

pub push_cells-requires : goal.push_cells-requires
push_cells-requires c = word_at 0 c.args.words.now c.requires c.loop-word.word-index none (omega (arith, c.loop-word-test.true))

pub loop-word-preserved : goal.loop-word-preserved
loop-word-preserved c =
    let words = c.args.words.now in
    let i = c.loop-word.word-index in
    let word : Word = slice_index_or words i none in
    pushed_more words i word c.args.cells.now.items c.loop-word.cells.items c.push_cells.new.cells.items (omega (arith, c.loop-word-test.true))
    (get_or_default words i none word (omega (arith, c.loop-word-test.true))) c.loop-word.invariant c.in_ok-push_cells.ensures

pub returns : goal.returns
returns c = all_pushed c.args.words.now c.loop-word.word-index c.args.cells.now.items c.loop-word.cells.items (omega (arith, c.loop-word-test.false)) c.loop-word.invariant

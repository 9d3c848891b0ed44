use Rattle.std.proofs.Common.{arith, slice_index_or}
use Rattle.std.proofs.lemmas.List.{get_or_default}
use Rattle.ent_index.proofs.Placed.{word_at}
use Rattle.ent_index.proofs.Rolled.{all_put, put_more, put_none}
use Rattle.ent_index.specs.declared.words.Word.{Word}
use Rattle.ent_index.proofs.roll.Roll.put_words.Goals as goal

abbrev none : Word
none = record { place = 0; bits = 0 }

pub put_word-requires : goal.put_word-requires
put_word-requires c = word_at 0 c.args.words.now c.requires c.loop-word.word-index none (omega (arith, c.loop-word-test.true))

pub loop-word-init : goal.loop-word-init
loop-word-init c = put_none c.args.self.now

pub loop-word-preserved : goal.loop-word-preserved
loop-word-preserved c =
    let words = c.args.words.now in
    let i = c.loop-word.word-index in
    let word : Word = slice_index_or words i none in
    put_more words i word c.args.self.now c.loop-word.self c.put_word.new.self (omega (arith, c.loop-word-test.true)) (get_or_default words i none word (omega (arith, c.loop-word-test.true)))
    c.loop-word.invariant c.in_ok-put_word.ensures.cells

pub returns : goal.returns
returns c = all_put c.args.words.now c.loop-word.word-index c.args.self.now c.loop-word.self (omega (arith, c.loop-word-test.false)) c.loop-word.invariant

use Rattle.std.proofs.Common.{length, refl}
use Rattle.std.proofs.lemmas.Option.{slice_get_read}
use Rattle.memo_answers.proofs.tests.EntryTests.learn.Goals as goal

pub returns-clause-learns : goal.returns-clause-learns
returns-clause-learns g c =
    let tests = c.args.self.now.list.items in
    let test = c.index_mut-test.result.now in
    record {
      test = test;
      learnt = c.learn-learnt.new.self;
      was = slice_get_read tests (length tests) c.args.place test refl c.requires.there c.index_mut-test.ensures.value;
      is = refl;
      there = c.learn-learnt.ensures.there;
      begins = c.learn-learnt.ensures.begins;
      learns = c.learn-learnt.ensures.learns;
    }

use Rattle.std.proofs.Common.{◌≡◌, length}
use Rattle.std.specs.List.{AllByRecursion}
use Rattle.memo_answers.proofs.Kept.{IsNew}
use Rattle.memo_answers.proofs.tests.EntryTests.of.Given as goal

abbrev pub invariant-loop : goal.invariant-loop
invariant-loop l = record {
  many : length l.tests.list.items ≡ l.index;
  new : AllByRecursion IsNew l.tests.list.items;
}

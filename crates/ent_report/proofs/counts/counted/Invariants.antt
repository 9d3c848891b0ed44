use Rattle.std.proofs.Common.{◌≡◌, ◌+◌, length}
use Rattle.ent_table.specs.Left.{cells_left}
use Rattle.ent_report.specs.proofs_only.Counting.{total}
use Rattle.ent_report.specs.Reports.{counted, is_deny, is_indeterminate, is_not_applicable, is_permit}
use Rattle.ent_report.proofs.counts.counted.Given as goal

abbrev pub invariant-loop-answer : goal.invariant-loop-answer
invariant-loop-answer g l = record {
  deny : l.counts.deny + counted is_deny (cells_left l.answer-iterator) ≡ counted is_deny (cells_left l.fn.cells);
  indeterminate : l.counts.indeterminate + counted is_indeterminate (cells_left l.answer-iterator) ≡ counted is_indeterminate (cells_left l.fn.cells);
  not_applicable : l.counts.not_applicable + counted is_not_applicable (cells_left l.answer-iterator) ≡ counted is_not_applicable (cells_left l.fn.cells);
  permit : l.counts.permit + counted is_permit (cells_left l.answer-iterator) ≡ counted is_permit (cells_left l.fn.cells);
  all : total l.counts + length (cells_left l.answer-iterator) ≡ length (cells_left l.fn.cells);
}

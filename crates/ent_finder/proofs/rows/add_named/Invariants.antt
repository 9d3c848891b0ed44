use Rattle.std.proofs.Common.{◌≡◌, ◌++◌, drop}
use Rattle.ent_finder.proofs.Gathered.{values_in}
use Rattle.ent_finder.specs.Looking.{values_of}
use Rattle.ent_finder.specs.RowEntry.{rows_of}
use Rattle.ent_finder.specs.Rows.{filled}
use Rattle.ent_finder.proofs.rows.add_named.Given as goal

-- what is in the bag and what is in the rows that are left make up what is to be there
abbrev pub invariant-loop-row : goal.invariant-loop-row
invariant-loop-row l = record {
  datatype : l.bag.datatype ≡ l.fn.bag.datatype;
  values : l.bag.values ++ values_in (drop l.row-index l.named) ≡ l.fn.bag.values ++ values_of l.key (filled (rows_of l.rows));
}

use Rattle.std.proofs.Common.{◌≡◌, ◌++◌, drop}
use Rattle.ent_values.specs.Bags.{AllOfType}
use Rattle.ent_finder.proofs.Gathered.{values_in}
use Rattle.ent_finder.specs.Looking.{values_of}
use Rattle.ent_finder.specs.RowEntry.{rows_of}
use Rattle.ent_finder.specs.Rows.{filled}
use Rattle.ent_finder.proofs.rows.named_in_one.Given as goal

-- what one row has and what is in the rows that are left make up what is wanted
abbrev pub invariant-loop-row : goal.invariant-loop-row
invariant-loop-row l = record {
  values : l.so_far ++ values_in (drop l.row-index l.named) ≡ values_of l.key (filled (rows_of l.rows));
  types : AllOfType l.key.datatype l.so_far;
}

use Rattle.std.proofs.Common.{arith, rules}
use Rattle.std.specs.Ordering.{is_le, is_lt}
use Rattle.std.proofs.lemmas.List.Sorted.{IsPartitionPoint-from_clause}
use Rattle.ent_finder.proofs.Fronts.{rest, rest_within}
use Rattle.ent_finder.proofs.Ranges.{ends_after, le_partitioned_rest, lt_partitioned, tied_between}
use Rattle.ent_finder.proofs.RowKeys.{row_tied, rows_rise}
use Rattle.ent_finder.specs.proofs_only.Order.{named_cmp}
use Rattle.ent_finder.specs.declared.row.Row.{Row}
use Rattle.ent_finder.proofs.rows.bounds.Goals as goal

-- rows rise towards those that the key names, so the start is where one test changes, and the end where another does from there on
pub returns : goal.returns
returns c =
    let rows = c.args.rows.now in
    let key = c.args.key.now in
    let order = λ (r : Row). named_cmp r.key key in
    let rises = rows_rise rows key c.requires in
    let start = c.partition_point-start.result in
    let first = c.partition_point-start.ensures in
    let named = c.count_passing-named.result in
    let last = c.count_passing-named.ensures in
    let starts = IsPartitionPoint-from_clause (λ r. is_lt (order r)) rows _ first.partitioned (lt_partitioned order rows rises) (λ a r f called. search rules) in
    let more = IsPartitionPoint-from_clause (λ r. is_le (order r)) (rest start rows) _ last.partitioned (le_partitioned_rest order rows rises start first.bound) (λ a r f called. search rules) in
    let ends = ends_after order rows rises start first.bound named starts more in
    let within = rest_within rows start named first.bound last.bound in
    record {
      ordered = omega arith;
      within = within;
      named = tied_between order rows _ _ starts ends _ (λ r. row_tied key r.key) first.bound within;
    }

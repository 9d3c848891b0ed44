use Rattle.std.proofs.Common.{arith, rules}
use Rattle.std.specs.Ordering.{is_le, is_lt}
use Rattle.std.proofs.lemmas.List.Sorted.{IsPartitionPoint-from_clause}
use Rattle.ent_finder.proofs.Fronts.{rest, rest_within}
use Rattle.ent_finder.proofs.Names.{name_tied, names_rise}
use Rattle.ent_finder.proofs.Ranges.{ends_after, le_partitioned_rest, lt_partitioned, tied_between}
use Rattle.ent_finder.specs.proofs_only.Order.{name_cmp, name_of, name_wanted}
use Rattle.ent_finder.specs.declared.slot.DocSlot.{DocSlot}
use Rattle.ent_finder.proofs.list.bounds.Goals as goal

-- the keys' names rise, so the start is where one test changes, and the end where another does from there on
pub returns : goal.returns
returns c =
    let slots = c.args.slots.now in
    let reference = c.args.reference.now in
    let order = λ (s : DocSlot). name_cmp (name_of s.key) (name_wanted reference) in
    let rises = names_rise slots (name_wanted reference) c.requires in
    let start = c.partition_point-start.result in
    let first = c.partition_point-start.ensures in
    let named = c.count_passing-named.result in
    let last = c.count_passing-named.ensures in
    let starts = IsPartitionPoint-from_clause (λ s. is_lt (order s)) slots _ first.partitioned (lt_partitioned order slots rises) (λ a r f called. search rules) in
    let more = IsPartitionPoint-from_clause (λ s. is_le (order s)) (rest start slots) _ last.partitioned (le_partitioned_rest order slots rises start first.bound) (λ a r f called. search rules) in
    let ends = ends_after order slots rises start first.bound named starts more in
    let within = rest_within slots start named first.bound last.bound in
    record {
      ordered = omega arith;
      within = within;
      versions = tied_between order slots _ _ starts ends _ (λ s. name_tied reference s.key) first.bound within;
    }

use Rattle.std.proofs.Common.{T, ap, subst, sym, ◌∙◌}
use Rattle.std.specs.BTreeMap.Range.{range_contains}
use Rattle.std.specs.FinMap.{is_sorted, keys}
use Rattle.std.specs.FinMap.Entries.{is_sorted-where_key}
use Rattle.std.specs.List.{filter}
use Rattle.std.specs.Map.{keys_of}
use Rattle.std.specs.declared.ops.Bound.TheVariants.{Included, Unbounded}
use Rattle.ent_request.specs.Noted.{read_cmp}
use Rattle.ent_index.proofs.KeyCells.{asked_have_cells}
use Rattle.ent_index.proofs.KeyOrders.{from_first, if_ok_also, is_sorted-from_ordered, keys-index_of}
use Rattle.ent_index.specs.Asked.{asks_policy}
use Rattle.ent_index.specs.Index.{IsSound}
use Rattle.ent_index.proofs.index.Index.keys_of_policy.Goals as goal

pub references-requires : goal.references-requires
references-requires c =
    let es = c.self.inside.readers.entries in
    subst (λ fs. T (is_sorted read_cmp fs)) (sym (c.range.ensures.between tt))
    (is_sorted-where_key read_cmp (range_contains read_cmp (Included c.in_ok-first.first) Unbounded) es (is_sorted-from_ordered read_cmp es c.range.ensures.ordered))

pub returns-clause-keys : goal.returns-clause-keys
returns-clause-keys c =
    let es = c.self.inside.readers.entries in
    if_ok_also c.references.result (λ ks is.
    is ∙ ap (λ fs. filter (asks_policy c.args.kind c.args.id.now) (keys_of fs)) (c.range.ensures.between tt)
    ∙ from_first read_cmp (asks_policy c.args.kind c.args.id.now) c.in_ok-first.first c.in_ok-first.ensures es
    ∙ ap (filter (asks_policy c.args.kind c.args.id.now)) (sym (keys-index_of c.self.inside.readers (is_sorted-from_ordered read_cmp es c.range.ensures.ordered)) ∙ ap keys c.self.view_is)) c.references.ensures

pub returns-clause-read : goal.returns-clause-read
returns-clause-read c =
    if_ok_also c.references.result (asked_have_cells c.args.self.now (subst IsSound c.self.view_is c.self.invariant) (asks_policy c.args.kind c.args.id.now)) (returns-clause-keys c)

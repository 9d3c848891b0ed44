use Rattle.std.proofs.Common.{◌≡◌, ◌++◌, T}
use Rattle.std.specs.FinMap.{is_sorted}
use Rattle.std.specs.List.{filter}
use Rattle.std.specs.Map.{keys_of}
use Rattle.ent_request.specs.Noted.{read_cmp}
use Rattle.ent_index.specs.Asked.{asks_policy}
use Rattle.ent_index.proofs.asked.references.Given as goal

abbrev pub invariant-loop-key : goal.invariant-loop-key
invariant-loop-key l = record {
  sorted : T (is_sorted read_cmp l.key-iterator);
  rest : l.keys ++ filter (asks_policy l.kind l.id) (keys_of l.key-iterator) ≡ filter (asks_policy l.kind l.id) (keys_of l.fn.range);
}

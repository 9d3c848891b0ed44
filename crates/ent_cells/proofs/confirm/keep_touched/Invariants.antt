use Rattle.std.proofs.Common.{◌≡◌, take}
use Rattle.std.specs.List.{filter}
use Rattle.slab.specs.Slab.{get}
use Rattle.ent_cells.specs.proofs_only.Grouping.{wanted_at}
use Rattle.ent_cells.proofs.confirm.keep_touched.Given as goal

abbrev pub invariant-loop-key : goal.invariant-loop-key
invariant-loop-key l = l.kept.items ≡ filter (λ c. wanted_at l.groups l.wanted (get l.cells c)) (take l.key-index l.candidates)

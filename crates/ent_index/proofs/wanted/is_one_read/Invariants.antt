use Rattle.std.proofs.Common.{◌≡◌, false, take}
use Rattle.std.specs.List.{list_any}
use Rattle.ent_index.specs.Groups.{is_wanted}
use Rattle.ent_index.proofs.wanted.is_one_read.Given as goal

abbrev pub invariant-loop-one : goal.invariant-loop-one
invariant-loop-one l = list_any (is_wanted l.person l.action l.resource l.numbers) (take l.one-index l.wanted) ≡ false

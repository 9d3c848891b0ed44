use Rattle.std.proofs.Common.{◌≡◌, true}
use Rattle.std.specs.Fn.{ComputesKey}
use Rattle.std.specs.List.{AllWithin}
use Rattle.ent_finder.proofs.passing.count_passing.Given as goal

-- what answers by a test still does, and all that is passed passes it
abbrev pub invariant-loop-index : goal.invariant-loop-index
invariant-loop-index g l = record {
  callable : goal.P-IsAlwaysCallable g l.passes;
  passed : (p : _) → ComputesKey g.P.FnMut p l.initial.passes → ComputesKey g.P.FnMut p l.passes × AllWithin (λ x. p x ≡ true) l.items 0 l.index;
}

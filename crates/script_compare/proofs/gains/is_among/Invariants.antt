use Rattle.std.proofs.Common.{◌≡◌, bytes_eq, drop, map}
use Rattle.std.specs.List.{list_any}
use Rattle.script_compare.proofs.gains.is_among.Given as goal

-- none so far is the same
abbrev pub invariant-loop-others : goal.invariant-loop-others
invariant-loop-others l =
    list_any (bytes_eq l.rules) (map (λ v. v.items) (drop l.others-index l.seen)) ≡ list_any (bytes_eq l.rules) (map (λ v. v.items) l.seen)

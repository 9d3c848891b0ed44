use Rattle.std.proofs.Common.{◌≡◌, ◌++◌, drop}
use Rattle.ent_policy.specs.proofs_only.Order.{has_id}
use Rattle.lint_places.specs.Led.{numbers_of}
use Rattle.lint_places.proofs.led.referring_to.Given as goal

abbrev pub invariant-loop-number : goal.invariant-loop-number
invariant-loop-number l =
    l.row.items ++ numbers_of (λ ids. has_id ids l.id) l.number (drop l.number l.noted) ≡ numbers_of (λ ids. has_id ids l.id) 0 l.noted

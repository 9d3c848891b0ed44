use Rattle.std.proofs.Common.{◌≡◌, drop, false, get_or}
use Rattle.std.specs.List.{list_any}
use Rattle.lint_places.proofs.led.is_one_led.Given as goal

abbrev pub invariant-loop-number : goal.invariant-loop-number
invariant-loop-number l = list_any (λ number. get_or l.led number false) (drop l.number-index l.row) ≡ list_any (λ number. get_or l.led number false) l.row

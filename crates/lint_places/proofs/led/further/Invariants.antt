use Rattle.std.proofs.Common.{◌≡◌, ◌++◌, drop, length, map}
use Rattle.std.specs.List.{zip}
use Rattle.lint_places.specs.proofs_only.Rows.{is_reached_by}
use Rattle.lint_places.proofs.led.further.Given as goal

abbrev pub invariant-loop-is_led : goal.invariant-loop-is_led
invariant-loop-is_led l =
    l.next.items ++ map (is_reached_by l.led) (zip (drop (length l.yielded) l.led) (drop (length l.yielded) l.rows)) ≡ map (is_reached_by l.led) (zip l.led l.rows)

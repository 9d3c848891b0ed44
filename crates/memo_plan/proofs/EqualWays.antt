-- Equal ways tell the same.
use Rattle.std.proofs.Common.{◌≡◌, ℕ, Option, Some, sym, ◌∙◌}
use Rattle.memo_plan.proofs.HeardAlike.{heard_alike}
use Rattle.memo_plan.specs.Heard.{Came}
use Rattle.memo_plan.specs.Plan.{EqualWaysAreHeardAlike, TellsOutcome, constant, entry_came, goes_on, is_test, skip_of}
use Rattle.memo_plan.specs.Run.{run}
use Rattle.memo_plan.proofs.Ways.{way_tells_once}

one_outcome : (outcomes : ℕ → ℕ → Option Came) (place n : ℕ) (c d : Came) → TellsOutcome outcomes place n c → TellsOutcome outcomes place n d → c ≡ d
one_outcome outcomes place n c d first second = some_same (sym first ∙ second) where
  some_same : Some c ≡ Some d → c ≡ d
  some_same e = cc

pub equal_ways : EqualWaysAreHeardAlike
equal_ways looks entries outcomes way s t plan s_root t_root s_fits t_fits first second =
    let same = way_tells_once is_test constant (TellsOutcome outcomes) goes_on skip_of (one_outcome outcomes) 0 0 entries way (run entry_came goes_on skip_of 0 entries t) (run entry_came goes_on skip_of 0 entries s) second first in
    heard_alike s.looks t.looks s.request t.request (t_root ∙ sym s_root)
    (sym (plan.lists t t_root t_fits) ∙ same ∙ plan.lists s s_root s_fits)

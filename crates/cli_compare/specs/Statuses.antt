-- The exit status of a comparison.
use Rattle.std.specs.Prelude.{ℕ, Bool, true, Option, Some, None, Result, Ok, Err, if◌then◌else◌}
use Rattle.cli_compare.specs.declared.differing.Ending.{Ending}
use Rattle.cli_compare.specs.declared.differing.Ending.TheVariants as compared
use Rattle.cli_words.specs.declared.asked_states.Failing.{Failing}
use Rattle.cli_words.specs.declared.asked_states.Failing.TheVariants.{Gain, Loss, Any}
use Rattle.cli_words.specs.declared.status.Unmet.{Unmet}
use Rattle.cli_words.specs.Statuses.{unmet_status}

-- differences fail, of which a request gains Permit or not, and one loses it or not
abbrev pub fails : Failing → Bool → Bool → Bool
fails Gain gain loss = gain
fails Loss gain loss = loss
fails Any gain loss = true

-- states that differ give 1; where it is said which differences fail, those give 4, and the others 0
abbrev pub different_status : Option Failing → Bool → Bool → ℕ
different_status None gain loss = 1
different_status (Some failing) gain loss = if fails failing gain loss then 4 else 0

-- states that don't differ give 0, a refused line 2
abbrev pub compare_status : Option Failing → Result Ending Unmet → ℕ
compare_status failing (Ok compared.Same) = 0
compare_status failing (Ok (compared.Different gain loss)) = different_status failing gain loss
compare_status failing (Ok compared.Refused) = 2
compare_status failing (Err u) = unmet_status u

-- The causes that an evaluation met so far, each once: words of the code's own contracts.
use Rattle.std.specs.Prelude.{ℕ, List, Option, Some, None, option_and_then, slice_get}
use Rattle.std.specs.Option.{option_or}
use Rattle.ent_request.specs.declared.cause.Cause.{Cause}
use Rattle.ent_request.specs.Causes.{with_cause}

-- those that were met, and the first that isn't passed over
pub record Met : Type 0 where
  pub causes : List Cause
  pub named : Option Cause

-- the cause at a place, if there is one
abbrev pub at_place : List Cause → Option ℕ → Option Cause
at_place causes place = option_and_then (slice_get causes) place

-- one more that fails
abbrev pub with_failing : Met → Cause → Met
with_failing met cause = record {
  causes = with_cause met.causes cause;
  named = option_or met.named (Some cause);
}

-- one more that is passed over
abbrev pub with_passed : Met → Cause → Met
with_passed met cause = record met { causes = with_cause met.causes cause }

-- all are passed over
abbrev pub all_passed : Met → Met
all_passed met = record met { named = None }

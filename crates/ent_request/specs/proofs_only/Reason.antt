-- What is told of a reason: words of the code's own contracts.
use Rattle.std.specs.Prelude.{ℕ, List, Option}
use Rattle.ent_policy.specs.declared.key.DocKey.{DocKey}
use Rattle.ent_request.specs.declared.cause.Cause.{Cause}
use Rattle.ent_request.specs.declared.cause.Reason.{Reason}
use Rattle.ent_request.specs.declared.cause.Reason.TheVariants as reason
use Rattle.ent_request.specs.declared.cause.What.{What}
use Rattle.ent_request.specs.declared.cause.What.TheVariants as what
use Rattle.ent_request.specs.Note.{status_of}
use Rattle.ent_request.specs.Sources.{asked_of}

-- what is told of it
abbrev pub what_of : Reason → What
what_of (reason.Missing designator) = what.Missing (asked_of designator.now)
what_of (reason.Fault function fault) = what.Fault function fault
what_of (reason.Unfound reference) = what.Unfound reference.now
what_of (reason.TooFar reference) = what.TooFar reference.now
what_of reason.Several = what.Several

-- what is told of it where an evaluation is: in these policies and in that rule
abbrev pub cause_of : List DocKey → Option (List ℕ) → Reason → Cause
cause_of path rule reason = record {
  path = path;
  rule = rule;
  status = status_of (what_of reason);
  what = what_of reason;
}

-- The versions that a reference accepts (sections 5.10 and 5.11).
use Rattle.std.specs.Prelude.{ℕ, List, Bool, true, not, ◌&&◌, Option, Some, None}
use Rattle.std.specs.Ordering.{is_gt, is_lt}
use Rattle.ent_policy.specs.declared.pattern.PatternPart.{PatternPart}
use Rattle.ent_policy.specs.declared.pattern.VersionConstraints.{VersionConstraints}
use Rattle.ent_policy.specs.Patterns.{beside, matches}

-- what holds of a pattern, where there is one
abbrev pub holds : (List PatternPart → Bool) → Option (List PatternPart) → Bool
holds test None = true
holds test (Some pattern) = test pattern

-- a version meets all constraints: it matches, it isn't earlier than the earliest, and it isn't later than the latest
abbrev pub meets : VersionConstraints → List ℕ → Bool
meets constraints version =
    holds (λ pattern. matches pattern version) constraints.version
    && holds (λ pattern. not (is_lt (beside version pattern))) constraints.earliest
    && holds (λ pattern. not (is_gt (beside version pattern))) constraints.latest

-- no constraints
abbrev pub unconstrained : VersionConstraints
unconstrained = record { version = None; earliest = None; latest = None }

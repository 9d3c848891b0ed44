-- Outcomes that are found to be equal.
use Rattle.std.proofs.Common.{◌≡◌, true, refl, ap}
use Rattle.ent_request.specs.declared.answer.Status.{Status}
use Rattle.ent_request.specs.declared.answer.Status.TheVariants as status
use Rattle.ent_request.specs.contracts.answer.StatusPartialEq.TheImpl as statuses
use Rattle.ent_walk.specs.declared.evaluated.Truth.{Truth}
use Rattle.ent_walk.specs.declared.evaluated.Truth.TheVariants as truth
use Rattle.ent_walk.specs.contracts.evaluated.TruthPartialEq.TheImpl as truths
use Rattle.ent_walk.specs.declared.target.Targeted.{Targeted}
use Rattle.ent_walk.specs.declared.target.Targeted.TheVariants as is
use Rattle.ent_walk.specs.contracts.target.TargetedPartialEq.TheImpl as targets

status_same : (a b : Status) → (statuses.ghosts).eq a b ≡ true → a ≡ b
status_same status.Okay status.Okay h = refl
status_same status.Okay status.MissingAttribute h = absurd (cc)
status_same status.Okay status.ProcessingError h = absurd (cc)
status_same status.MissingAttribute status.Okay h = absurd (cc)
status_same status.MissingAttribute status.MissingAttribute h = refl
status_same status.MissingAttribute status.ProcessingError h = absurd (cc)
status_same status.ProcessingError status.Okay h = absurd (cc)
status_same status.ProcessingError status.MissingAttribute h = absurd (cc)
status_same status.ProcessingError status.ProcessingError h = refl

pub targeted_same : (a b : Targeted) → (targets.ghosts).eq a b ≡ true → a ≡ b
targeted_same is.Match is.Match h = refl
targeted_same is.Match is.NoMatch h = absurd (cc)
targeted_same is.Match (is.Indeterminate t) h = absurd (cc)
targeted_same is.NoMatch is.Match h = absurd (cc)
targeted_same is.NoMatch is.NoMatch h = refl
targeted_same is.NoMatch (is.Indeterminate t) h = absurd (cc)
targeted_same (is.Indeterminate s) is.Match h = absurd (cc)
targeted_same (is.Indeterminate s) is.NoMatch h = absurd (cc)
targeted_same (is.Indeterminate s) (is.Indeterminate t) h = ap is.Indeterminate (status_same s t h)

pub truth_same : (a b : Truth) → (truths.ghosts).eq a b ≡ true → a ≡ b
truth_same truth.True truth.True h = refl
truth_same truth.True truth.False h = absurd (cc)
truth_same truth.True (truth.Indeterminate t) h = absurd (cc)
truth_same truth.False truth.True h = absurd (cc)
truth_same truth.False truth.False h = refl
truth_same truth.False (truth.Indeterminate t) h = absurd (cc)
truth_same (truth.Indeterminate s) truth.True h = absurd (cc)
truth_same (truth.Indeterminate s) truth.False h = absurd (cc)
truth_same (truth.Indeterminate s) (truth.Indeterminate t) h = ap truth.Indeterminate (status_same s t h)

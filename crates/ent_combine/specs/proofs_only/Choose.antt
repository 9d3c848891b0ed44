-- A choice after one target more: a word of the code's own contracts.
use Rattle.std.specs.Prelude.{ℕ}
use Rattle.ent_combine.specs.declared.chooser.Choice.{Choice}
use Rattle.ent_combine.specs.declared.chooser.Choice.TheVariants.{Nobody, Only, Bad}
use Rattle.ent_combine.specs.declared.chooser.TargetResult.{TargetResult}
use Rattle.ent_combine.specs.declared.chooser.TargetResult.TheVariants.{Match, NoMatch, Indeterminate}

-- a choice after one more target, that of the child at `place`
abbrev pub with_target : Choice → ℕ → TargetResult → Choice
with_target choice place Indeterminate = Bad
with_target choice place NoMatch = choice
with_target Nobody place Match = Only place
with_target (Only i) place Match = Bad
with_target Bad place Match = Bad

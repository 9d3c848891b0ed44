-- The limits of a review.
use Rattle.std.specs.Prelude.{◌≤◌}
use Rattle.ent_table.specs.declared.limits.Limits.{Limits}

-- those that hold where none are given
abbrev pub standard_limits : Limits
standard_limits = record { people = 256; actions = 32; resources = 256; cells = 65536; documents = 1024 }

-- no limit is above the greatest that a review takes
pub record IsWithinGreatest (limits : Limits) : Type 0 where
  pub people : limits.people ≤ 65536
  pub actions : limits.actions ≤ 1024
  pub resources : limits.resources ≤ 65536
  pub cells : limits.cells ≤ 16777216
  pub documents : limits.documents ≤ 65536

-- Durations of years and months.
use Rattle.std.specs.Prelude.{ℤ, Bool, nat_le, unsigned_abs, Option, Some, None, if◌then◌else◌}

-- a duration has at most 999,999,999 years and 999,999,999 months, forwards or back
abbrev pub is_duration : ℤ → Bool
is_duration months = nat_le (unsigned_abs months) 12999999987

-- the duration of that many months, if there is one
abbrev pub months_of : ℤ → Option ℤ
months_of months = if is_duration months then Some months else None

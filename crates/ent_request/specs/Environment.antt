-- What is known of the time (section 10.2.5 and appendix B.7): nothing, the day alone, or the moment.
use Rattle.std.specs.Prelude.{Option, Some, None}
use Rattle.ent_values.specs.Calendar.{Day, TimeOfDay}
use Rattle.ent_values.specs.declared.date_time.DateTime.{DateTime}
use Rattle.ent_request.specs.declared.environment.Environment.{Environment}
use Rattle.ent_request.specs.declared.environment.Environment.TheVariants as environments

-- the date: a day itself, of a moment its date
abbrev pub date_in : Environment → Option Day
date_in environments.Empty = None
date_in (environments.Day day) = Some day
date_in (environments.Moment moment) = Some moment.date

-- the time of day, which a moment alone has
abbrev pub time_in : Environment → Option TimeOfDay
time_in (environments.Moment moment) = Some moment.time
time_in _ = None

-- the date and time, which is a moment itself
abbrev pub date_time_in : Environment → Option DateTime
date_time_in (environments.Moment moment) = Some moment
date_time_in _ = None

-- the environment of that day, or of none
abbrev pub of_day : Option Day → Environment
of_day None = environments.Empty
of_day (Some day) = environments.Day day

-- the environment at that moment, or at none
abbrev pub of_moment : Option DateTime → Environment
of_moment None = environments.Empty
of_moment (Some moment) = environments.Moment moment

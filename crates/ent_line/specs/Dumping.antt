-- Which versions lines have, and what can be told in them.
use Rattle.std.specs.Prelude.{ℕ, ◌==◌, ◌&&◌, ◌||◌, not, Bool, true, false, codes}
use Rattle.serde_json.specs.Data.{Data}
use Rattle.ent_request.specs.declared.environment.Environment.{Environment}
use Rattle.ent_request.specs.declared.environment.Environment.TheVariants.{Moment}
use Rattle.ent_line.specs.Cells.{reply_data}
use Rattle.ent_line.specs.Reports.{count_data}

-- lines have the version 1 or 2
abbrev pub is_version : ℕ → Bool
is_version version = (version == 1) || (version == 2)

-- a moment is known, and not only its day
abbrev pub is_moment : Environment → Bool
is_moment (Moment moment) = true
is_moment other = false

-- lines of that version can tell what is known of the time: those of version 2 can always, those of version 1 where it
-- is no moment
abbrev pub can_tell : ℕ → Environment → Bool
can_tell version environment = (version == 2) || ((version == 1) && not (is_moment environment))

-- the reply to `format`: the version
unfoldable pub format_reply : ℕ → Data
format_reply version = reply_data (codes "format") (count_data version)

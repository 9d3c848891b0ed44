-- What a new service replies to lines.
use Rattle.std.specs.Prelude.{ℕ, ◌&&◌, nat_le, List, [], Option, Some, Ok, if◌then◌else◌}
use Rattle.ent_line.specs.Headline.{Headline}
use Rattle.ent_line.specs.Step.{Counted, at_start}
use Rattle.cli_serve.specs.Starting.{start_of}
use Rattle.ent_table.specs.declared.limits.Limits.{Limits}
use Rattle.cli_serve.specs.Limiting.{bounded}

-- that number of modules, or two where it isn't from 1 to 4
abbrev pub few : ℕ → ℕ
few count = if nat_le 1 count && nat_le count 4 then count else 2

-- these bytes are what a new service within those limits, of that number of modules of each sort, replies to the lines that are sent
unfoldable pub AreRepliesTo : Limits → ℕ → List ℕ → List ℕ → Type 0
AreRepliesTo limits modules sent replies = (end : Counted) × (left : Option (List ℕ)) × (number : ℕ) × Headline (record {
  start = at_start (start_of (bounded limits) (few modules) (few modules));
  end = end;
  unread = Some sent;
  left = left;
  wrote = Some [];
  holds = Some replies;
}) (Ok number)

-- What a decision point holds, and the look-ups that it gives.
use Rattle.std.specs.Prelude.{map}
use Rattle.ent_finder.specs.Rows.{filled_source}
use Rattle.ent_finder.specs.Slots.{held}
use Rattle.ent_eval.specs.Point.{Point}
use Rattle.ent_request.specs.Held.{Held, looks_in}
use Rattle.ent_request.specs.Looks.{Looks}

-- its root, what its modules hold, where an empty slot or row counts as none, and its environment
abbrev pub held_by : Point → Held
held_by pdp = record {
  root = pdp.root;
  modules = map held pdp.slots;
  sources = map filled_source pdp.sources;
  environment = pdp.environment;
}

-- the look-ups in that
abbrev pub looks_of : Point → Looks
looks_of pdp = looks_in (held_by pdp)

-- What is held, and the look-ups that it gives.
use Rattle.std.specs.Prelude.{List, Option}
use Rattle.ent_finder.specs.Finding.{found}
use Rattle.ent_finder.specs.Looking.{looked}
use Rattle.ent_finder.specs.Rows.{Source}
use Rattle.ent_finder.specs.Slots.{Docs}
use Rattle.ent_policy.specs.declared.key.Reference.{Reference}
use Rattle.ent_request.specs.Environment.{date_in, date_time_in, time_in}
use Rattle.ent_request.specs.declared.environment.Environment.{Environment}
use Rattle.ent_request.specs.Looks.{Looks}

-- the root, the documents of each module of policies, the categories and rows of each module of attributes, and what is known of the time
pub record Held : Type 0 where
  pub root : Option Reference
  pub modules : List Docs
  pub sources : List Source
  pub environment : Environment

-- the root, by each reference the document that it finds, by each key the values that it finds, and the date and the time as far as known
abbrev pub looks_in : Held → Looks
looks_in held = record {
  root = held.root;
  document = λ reference. found reference held.modules;
  values = λ key. looked key held.sources;
  date = date_in held.environment;
  time = time_in held.environment;
  date_time = date_time_in held.environment;
}

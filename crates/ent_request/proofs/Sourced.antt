-- The date is what is found for it.
use Rattle.std.proofs.Common.{◌≡◌, ℕ, Bool, true, false, ◌&&◌, List, refl, sym, ap, ◌∙◌}
use Rattle.std.specs.Prelude.{bytes_eq, if◌then◌else◌, is_none}
use Rattle.ent_values.specs.Bags.{Contents}
use Rattle.ent_values.specs.Same.{same_type}
use Rattle.ent_values.specs.declared.datatype.DataType.{DataType}
use Rattle.ent_values.specs.declared.datatype.DataType.TheVariants as types
use Rattle.ent_values.specs.declared.value.Value.{Value}
use Rattle.ent_values.specs.declared.value.Value.TheVariants as value
use Rattle.ent_values.proofs.Values.{same_type-Decides}
use Rattle.ent_policy.specs.declared.document.Designator.{Designator}
use Rattle.ent_request.specs.declared.request.Request.{Request}
use Rattle.ent_request.specs.Looks.{Looks}
use Rattle.ent_request.specs.Sources.{asks_for, entity_of, entity_values, known_values, source_values}
use Rattle.ent_request.specs.Uris as uris

asked_type : (d : Designator) (attribute : List ℕ) (type : DataType) → asks_for attribute type d ≡ true → d.datatype ≡ type
asked_type d attribute type h = at (bytes_eq d.category uris.environment) (bytes_eq d.attribute attribute) (same_type d.datatype type) refl h where
  at : (a b c : Bool) → same_type d.datatype type ≡ c → (a && (b && (c && is_none d.issuer))) ≡ true → d.datatype ≡ type
  at true true true is h = (same_type-Decides d.datatype type).0 is
  at true true false is h = absurd (cc)
  at true false c is h = absurd (cc)
  at false b c is h = absurd (cc)

-- a bag
abbrev pub contents : DataType → List Value → Contents
contents type vs = record { datatype = type; values = vs }

pub dated : (looks : Looks) (request : Request) (d : Designator) → asks_for uris.current_date types.Date d ≡ true
    → contents types.Date (known_values value.Date looks.date) ≡ contents d.datatype (source_values looks request d)
dated looks request d h =
    ap (λ type. contents type (known_values value.Date looks.date)) (sym (asked_type d uris.current_date types.Date h))
    ∙ ap (λ b. contents d.datatype (if b then known_values value.Date looks.date else (if asks_for uris.current_time types.Time d then known_values value.Time looks.time
    else (if asks_for uris.current_date_time types.DateTime d then known_values value.DateTime looks.date_time else entity_values looks d (entity_of request d.category))))) (sym h)

-- The JSON form of targets and their matches.
use Rattle.std.specs.Prelude.{[], ◌∷◌, Option, Some, None, Result, Ok, codes}
use Rattle.serde_json.specs.Data.{Data}
use Rattle.serde_json.specs.Find.{get}
use Rattle.ent_policy.specs.declared.fault.DocFault.{DocFault}
use Rattle.ent_policy.specs.declared.fault.DocFault.TheVariants as fault
use Rattle.ent_policy.specs.declared.raw.RawAllOf.{RawAllOf}
use Rattle.ent_policy.specs.declared.raw.RawAnyOf.{RawAnyOf}
use Rattle.ent_policy.specs.declared.raw.RawMatch.{RawMatch}
use Rattle.ent_policy.specs.declared.raw.RawTarget.{RawTarget}
use Rattle.ent_json.specs.Objects.{has_only, text_at, list_at, filled_list_at}
use Rattle.ent_polform.specs.Objects.{◌>>=◌, list_by}
use Rattle.ent_polform.specs.Reading.{part, formed}
use Rattle.ent_polform.specs.Expressions.{value_of, designator_of}

-- a Match (section 5.9)
unfoldable pub match_of : Data → Result RawMatch DocFault
match_of d = formed (has_only (codes "AttributeDesignator" ∷ codes "AttributeValue" ∷ codes "MatchId" ∷ []) d) (do
  function ← part (text_at (codes "MatchId") d)
  literal ← part (get (codes "AttributeValue") d) >>= value_of
  designator ← part (get (codes "AttributeDesignator") d) >>= designator_of
  Ok (record { function = function; literal = literal; designator = designator }))

-- a member of AllOf (section 5.8): one Match or more
unfoldable pub one_all_of : Data → Result RawAllOf DocFault
one_all_of d = formed (has_only (codes "Match" ∷ []) d) (do
  matches ← list_by fault.Form match_of (filled_list_at (codes "Match") d)
  Ok (record { matches = matches }))

-- a member of AnyOf (section 5.7): one AllOf or more
unfoldable pub one_any_of : Data → Result RawAnyOf DocFault
one_any_of d = formed (has_only (codes "AllOf" ∷ []) d) (do
  all_of ← list_by fault.Form one_all_of (filled_list_at (codes "AllOf") d)
  Ok (record { all_of = all_of }))

-- a Target (section 5.6)
unfoldable pub target_of : Data → Result RawTarget DocFault
target_of d = formed (has_only (codes "AnyOf" ∷ []) d) (do
  any_of ← list_by fault.Form one_any_of (list_at (codes "AnyOf") d)
  Ok (record { any_of = any_of }))

-- a Target, which is empty where it is absent
abbrev pub target_or_empty : Option Data → Result RawTarget DocFault
target_or_empty None = Ok (record { any_of = [] })
target_or_empty (Some d) = target_of d

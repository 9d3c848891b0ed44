-- Where the keys that are looked up for a question give the same, it finds the same.
use Rattle.std.proofs.Common.{◌≡◌, ℕ, Bool, true, false, List, [], ◌∷◌, refl, ap, Option, Some, None}
use Rattle.std.specs.Prelude.{if◌then◌else◌}
use Rattle.std.specs.List.{AllByRecursion, flat_map}
use Rattle.ent_values.specs.declared.datatype.DataType.TheVariants as types
use Rattle.ent_values.specs.declared.value.Value.{Value}
use Rattle.ent_values.specs.declared.value.Value.TheVariants as value
use Rattle.ent_policy.specs.declared.document.Designator.{Designator}
use Rattle.ent_request.specs.declared.key.ReadKey.TheVariants as key
use Rattle.ent_request.specs.declared.question.Question.{Question}
use Rattle.ent_request.specs.declared.question.Question.TheVariants.{Root, Ref, Of}
use Rattle.ent_request.specs.declared.request.Request.{Request}
use Rattle.ent_walk.specs.Law.{FindsSame}
use Rattle.ent_request.specs.SameLook.{IsSameLook}
use Rattle.ent_request.specs.Looks.{Looks}
use Rattle.ent_request.specs.Own.{is_empty, own_values}
use Rattle.ent_request.specs.Sources.{asks_for, designator_for, entity_keys, entity_of, entity_values, keys_of, known_values, source_keys, source_values}
use Rattle.ent_request.specs.Uris as uris
use Rattle.ent_request.proofs.Lists.{first_looks, later_looks}

module _ (s t : Looks) (request : Request) where
  entity-same : (d : Designator) (entity : Option (List ℕ)) → AllByRecursion (IsSameLook s t) (entity_keys d entity) → entity_values s d entity ≡ entity_values t d entity
  entity-same d None h = refl
  entity-same d (Some e) h = h.0

  source-same : (d : Designator) → AllByRecursion (IsSameLook s t) (source_keys request d) → source_values s request d ≡ source_values t request d
  source-same d = at (asks_for uris.current_date types.Date d) (asks_for uris.current_time types.Time d) (asks_for uris.current_date_time types.DateTime d) where
    at : (a b c : Bool)
        → AllByRecursion (IsSameLook s t) (if a then key.CurrentDate ∷ [] else (if b then key.CurrentTime ∷ [] else (if c then key.CurrentDateTime ∷ [] else entity_keys d (entity_of request d.category))))
        → (if a then known_values value.Date s.date else (if b then known_values value.Time s.time else (if c then known_values value.DateTime s.date_time else entity_values s d (entity_of request d.category))))
        ≡ (if a then known_values value.Date t.date else (if b then known_values value.Time t.time else (if c then known_values value.DateTime t.date_time else entity_values t d (entity_of request d.category))))
    at true b c h = ap (known_values value.Date) h.0
    at false true c h = ap (known_values value.Time) h.0
    at false false true h = ap (known_values value.DateTime) h.0
    at false false false h = entity-same d (entity_of request d.category) h

  finds-same : (x : Question) → AllByRecursion (IsSameLook s t) (keys_of request x) → FindsSame s request t request x
  finds-same Root h = h.0
  finds-same (Ref reference) h = h.0
  finds-same (Of a) h = at (own_values (designator_for a) request) h where
    at : (vs : List Value) → AllByRecursion (IsSameLook s t) (if is_empty vs then source_keys request (designator_for a) else [])
        → (if is_empty vs then source_values s request (designator_for a) else vs) ≡ (if is_empty vs then source_values t request (designator_for a) else vs)
    at [] h = source-same (designator_for a) h
    at (v ∷ vs) h = refl

  -- each question does whose keys are among those that give the same
  pub all-find : (xs : List Question) → AllByRecursion (IsSameLook s t) (flat_map (keys_of request) xs) → AllByRecursion (FindsSame s request t request) xs
  all-find [] h = tt
  all-find (x ∷ xs) h =
      (finds-same x (first_looks (IsSameLook s t) (keys_of request x) (flat_map (keys_of request) xs) h), all-find xs (later_looks (IsSameLook s t) (keys_of request x) (flat_map (keys_of request) xs) h))

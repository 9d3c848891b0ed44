-- What was found for names stays found where the same values are held for them.
use Rattle.std.proofs.Common.{◌≡◌, inl, inr, ℕ, List, [], ◌∷◌, Option, Some, slice_get, refl, sym, ap, ◌∙◌}
use Rattle.std.specs.List.{AllByRecursion}
use Rattle.std.specs.Prelude.{if◌then◌else◌}
use Rattle.ent_values.specs.Bags.{Contents}
use Rattle.ent_values.specs.declared.value.Value.TheVariants as value
use Rattle.ent_finder.specs.declared.row.AttrKey.{AttrKey}
use Rattle.memo_bags.specs.declared.findings.Findings.{Findings}
use Rattle.memo_bags.specs.declared.names.NameRow.{NameRow}
use Rattle.ent_request.specs.declared.question.Asked.{Asked}
use Rattle.ent_request.specs.declared.question.Question.{Question}
use Rattle.ent_request.specs.declared.readers.NamePlace.{NamePlace}
use Rattle.ent_request.specs.declared.readers.NamePlace.TheVariants.{Person, Action, Resource}
use Rattle.ent_request.specs.Looks.{Looks}
use Rattle.ent_request.specs.Readers.{is_own}
use Rattle.ent_request.specs.Sources.{designator_for, key_for}
use Rattle.memo_bags.specs.Found.{HaveSameOthers, bag_in}
use Rattle.memo_bags.specs.Findings.{AreFindings, IsRow}
use Rattle.memo_bags.specs.proofs_only.Ready.{ForgetsName, IsForgotten}
use Rattle.memo_bags.proofs.Growing.{all_by_place, all_map}
use Rattle.ent_request.proofs.Numbering.{all_at}

-- the bag that is found for a name rests on the values of one key
bag_still : (looks other : Looks) (a : Asked) (name : List ℕ) → other.values (key_for (designator_for a) name) ≡ looks.values (key_for (designator_for a) name)
    → bag_in looks a name ≡ bag_in other a name
bag_still looks other a name same = λ i. record {
  datatype = a.datatype;
  values = if is_own (key_for (designator_for a) name) then value.Text name ∷ [] else sym same i;
}

-- a row is as it should be where its name's keys name the same values
row_still : (looks other : Looks) (questions : List Question) (bags : List Contents) (place : NamePlace) (row : NameRow)
    → ((key : AttrKey) → key.entity ≡ row.name → other.values key ≡ looks.values key)
    → IsRow looks questions bags place row → IsRow other questions bags place row
row_still looks other questions bags place row same is n k known =
    let f = is n k known in
    let key = key_for (designator_for f.0) row.name in
    (f.0, (f.1.0, (f.1.1.0, f.1.1.1 ∙ ap Some (bag_still looks other f.0 row.name (same key refl)))))

-- where all keys name the same values, all that was found is as it should be
pub findings_still : (looks other : Looks) → ((key : AttrKey) → other.values key ≡ looks.values key) → (questions : List Question) (findings : Findings)
    → AreFindings looks questions findings → AreFindings other questions findings
findings_still looks other same questions findings are = record {
  distinct = are.distinct;
  people = still Person findings.people.rows.items are.people;
  actions = still Action findings.actions.rows.items are.actions;
  resources = still Resource findings.resources.rows.items are.resources;
} where
  still : (place : NamePlace) (rows : List NameRow) → AllByRecursion (IsRow looks questions findings.bags place) rows
      → AllByRecursion (IsRow other questions findings.bags place) rows
  still place rows all =
      all_map (IsRow looks questions findings.bags place) (IsRow other questions findings.bags place)
      (λ row. row_still looks other questions findings.bags place row (λ key named. same key)) rows all

-- so are the rows of which those of one name forgot it, where the keys of others name the same values
pub rows_forgotten : (looks other : Looks) (questions : List Question) (bags : List Contents) (place : NamePlace) (name : List ℕ) (old new : List NameRow)
    → HaveSameOthers name looks other → ForgetsName name old new
    → AllByRecursion (IsRow looks questions bags place) old → AllByRecursion (IsRow other questions bags place) new
rows_forgotten looks other questions bags place name old new same forgets all = all_by_place (IsRow other questions bags place) new each where
  nothing : (xs : List (Option ℕ)) (n k : ℕ) → xs ≡ [] → slice_get xs n ≡ Some (Some k) → ⊥
  nothing [] n k is at = absurd (cc)
  nothing (x ∷ xs) n k is at = absurd (cc)

  by : (i : ℕ) (row : NameRow) → IsForgotten name old i row → IsRow other questions bags place row
  by i row (inl none) = λ n k known. absurd (nothing row.found.items n k none known)
  by i row (inr kept) =
      row_still looks other questions bags place row (λ key named. same key (λ is. kept.0 (sym named ∙ is)))
      (all_at (IsRow looks questions bags place) old i row all kept.1)

  each : (i : ℕ) (row : NameRow) → slice_get new i ≡ Some row → IsRow other questions bags place row
  each i row at = by i row (forgets i row at)

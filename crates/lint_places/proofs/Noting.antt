-- Loops that note the parts that have a fault of their own.
use Rattle.std.proofs.Common.{◌≡◌, ℕ, suc, ◌+◌, ◌<◌, List, [], ◌∷◌, ◌++◌, length, get_or, drop, map, add-one, append_assoc, drop-cons, Option, Some, None, codes, refl, sym, subst}
use Rattle.std.specs.Fmt.{decimal}
use Rattle.std.specs.List.{flat_map}
use Rattle.std.proofs.lemmas.Grind.{flat_map-append}
use Rattle.std.proofs.lemmas.List.{append-nil}
use Rattle.serde_json.specs.Data.{Data}
use Rattle.ent_policy.specs.declared.fault.DocFault.{DocFault}
use Rattle.lint_places.specs.Faults.{FaultAt, faulty, own_by, own_fault, with_fault}
use Rattle.lint_places.specs.Parts.{Row}
use Rattle.lint_places.specs.Places.{Spot, at_key, at_numbers, scope_at, scope_in, scope_of_member}
use Rattle.lint_places.specs.Told.{Scope, scope_told, told}
use Rattle.lint_places.specs.declared.part.Part.{Part}

faulty-append : (xs ys : List Spot) → faulty (xs ++ ys) ≡ faulty xs ++ faulty ys
faulty-append xs ys = flat_map-append (λ s. with_fault (own_fault s) s) xs ys

-- what was noted and is to be noted, where one more is
noted : (found next before whole : List FaultAt) (here behind : List Spot) → next ≡ found ++ faulty here → found ++ faulty (here ++ behind) ≡ before ++ whole
    → next ++ faulty behind ≡ before ++ whole
noted found next before whole here behind is so_far = rw (is, append_assoc found (faulty here) (faulty behind), ← faulty-append here behind) so_far

module _ {R : Type 0} (at_row : Row → List Spot) (view : R → Row) (rows : List R) where
  -- those at the rows from the i-th on
  abbrev pub from_row : ℕ → List Spot
  from_row i = flat_map at_row (map view (drop i rows))

  row_next : (i : ℕ) (r : R) → i < length rows → r ≡ get_or rows i r → from_row i ≡ at_row (view r) ++ from_row (i + 1)
  row_next i r lt here = rw (add-one, drop-cons rows i r, ← here) refl

  pub row_noted : (i : ℕ) (r : R) (found next before whole : List FaultAt) → i < length rows → r ≡ get_or rows i r → next ≡ found ++ faulty (at_row (view r))
      → found ++ faulty (from_row i) ≡ before ++ whole → next ++ faulty (from_row (i + 1)) ≡ before ++ whole
  row_noted i r found next before whole lt here is so_far =
      noted found next before whole (at_row (view r)) (from_row (i + 1)) is
      (subst (λ (xs : List Spot). found ++ faulty xs ≡ before ++ whole) (row_next i r lt here) so_far)

module _ {J : Type 0} (s : Spot) (part : Part) (all : List Data) (content : J → Data) (values : List J) where
  -- the members from the i-th on
  abbrev pub from_member : ℕ → List Spot
  from_member i = at_numbers s part all i (map content (drop i values))

  member_next : (i : ℕ) (v : J) → i < length values → v ≡ get_or values i v → from_member i ≡ at_numbers s part all i (content v ∷ []) ++ from_member (i + 1)
  member_next i v lt here = rw (add-one, drop-cons values i v, ← here) refl

  pub member_noted : (i : ℕ) (v : J) (found next before whole : List FaultAt) → i < length values → v ≡ get_or values i v → next ≡ found ++ faulty (at_numbers s part all i (content v ∷ []))
      → found ++ faulty (from_member i) ≡ before ++ whole → next ++ faulty (from_member (i + 1)) ≡ before ++ whole
  member_noted i v found next before whole lt here is so_far =
      noted found next before whole (at_numbers s part all i (content v ∷ [])) (from_member (i + 1)) is
      (subst (λ (xs : List Spot). found ++ faulty xs ≡ before ++ whole) (member_next i v lt here) so_far)

-- ---- one part

-- what stands at a key, judged in its scope
pub key_noted : (s : Spot) (row : Row) (o : Option Data) (d : Data) (around : Scope) (own : Option DocFault) → Some d ≡ o → around ≡ scope_at row.1 (scope_in s.part s.scope s.json)
    → own ≡ own_by (told row.1 around d) (scope_told around)
    → faulty (at_key s row o) ≡ with_fault own (record { pointer = s.pointer ++ codes "/" ++ row.0; part = row.1; scope = around; json = d })
key_noted s row o d around own is scope judged = rw (← is, judged, scope) (append-nil _)

-- nothing stands at a key
pub no_key_noted : (s : Spot) (row : Row) (o : Option Data) → None ≡ o → faulty (at_key s row o) ≡ []
no_key_noted s row o is = rw (← is) refl

-- a member of a list, judged in its scope
pub member_judged : (s : Spot) (p : Part) (all : List Data) (n : ℕ) (d : Data) (around : Scope) (own : Option DocFault) → around ≡ scope_of_member s.part s.scope all n
    → own ≡ own_by (told p around d) (scope_told around)
    → faulty (at_numbers s p all n (d ∷ [])) ≡ with_fault own (record { pointer = s.pointer ++ codes "/" ++ decimal n; part = p; scope = around; json = d })
member_judged s p all n d around own scope judged = rw (judged, scope) (append-nil _)

-- nothing more is noted
pub none_more : (found more : List FaultAt) → more ≡ [] → found ≡ found ++ more
none_more found more is = rw is (sym (append-nil found))

-- What the loops over a list's members have read, and what is still to read.
use Rattle.std.proofs.Common.{◌≡◌, ℕ, ◌+◌, ◌<◌, List, [], ◌∷◌, ◌++◌, length, get_or, drop, map, append_assoc, add-one, drop-cons, Result, Ok, Err, refl, sym, ap, ◌∙◌}
use Rattle.serde_json.specs.Data.{Data, Items}
use Rattle.serde_json.specs.View.{items_of}
use Rattle.ent_policy.specs.declared.fault.CheckFault.{CheckFault}
use Rattle.ent_policy.specs.declared.fault.CheckFault.TheVariants as faults
use Rattle.ent_policy.specs.declared.fault.DocFault.{DocFault}
use Rattle.ent_policy.specs.Gives.{Fails}
use Rattle.ent_polform.specs.Objects.{◌>>=◌, each_by}

-- the items that these are, each seen as its content
abbrev pub items_in : {B : Type 0} → (B → Data) → List B → Items
items_in content vs = items_of (map content vs)

-- what was read before, and what is still read
abbrev with_front : {A : Type 0} → List A → Result (List A) DocFault → Result (List A) DocFault
with_front front read = read >>= λ xs. Ok (front ++ xs)

regroup : {A : Type 0} (front : List A) (x : A) (read : Result (List A) DocFault) → with_front front (read >>= λ xs. Ok (x ∷ xs)) ≡ with_front (front ++ x ∷ []) read
regroup front x (Ok xs) = ap (λ ys. Ok ys) (sym (append_assoc front (x ∷ []) xs))
regroup front x (Err f) = refl

-- what f reads of a list, where the members before the i-th are read already: they stand in front
abbrev pub HasRead : {A B : Type 0} → (B → Data) → (Data → Result A DocFault) → List B → ℕ → List A → Type 0
HasRead content f vs i front = with_front front (each_by f (items_in content (drop i vs))) ≡ each_by f (items_in content vs)

module _ {A B : Type 0} (content : B → Data) (f : Data → Result A DocFault) (vs : List B) (i : ℕ) (v : B) (front : List A) where
  -- a member is read, and goes to the end of what was read
  pub goes_on : (x : A) → i < length vs → v ≡ get_or vs i v → f (content v) ≡ Ok x → HasRead content f vs i front → HasRead content f vs (i + 1) (front ++ x ∷ [])
  goes_on x lt here h so_far =
      let one : with_front front (each_by f (items_in content (drop i vs))) ≡ with_front (front ++ x ∷ []) (each_by f (items_in content (drop (i + 1) vs))) =
      rw (add-one, drop-cons vs i v, ← here, h) (regroup front x _) in
      sym one ∙ so_far

  -- a member has a fault, which is then the fault of the list
  pub ends : (e : CheckFault) → i < length vs → v ≡ get_or vs i v → Fails e (f (content v)) → HasRead content f vs i front → Fails e (each_by f (items_in content vs))
  ends faults.Memory lt here h so_far = tt
  ends (faults.Doc d) lt here h so_far =
      let one : with_front front (each_by f (items_in content (drop i vs))) ≡ Err d = rw (drop-cons vs i v, ← here, h) refl in
      sym so_far ∙ one

-- The members of an array, and what the loops over a list's members have read.
use Rattle.std.proofs.Common.{◌≡◌, ℕ, ◌+◌, ◌<◌, List, [], ◌∷◌, ◌++◌, length, get_or, drop, map, append_assoc, add-one, drop-cons, Result, Ok, Err, refl, sym, ap, ◌∙◌}
use Rattle.serde_json.specs.Data.{Data}
use Rattle.serde_json.specs.View.{items_of}
use Rattle.ent_policy.specs.declared.fault.CheckFault.{CheckFault}
use Rattle.ent_policy.specs.declared.fault.CheckFault.TheVariants as faults
use Rattle.ent_policy.specs.declared.fault.DocFault.{DocFault}
use Rattle.ent_policy.specs.Gives.{Fails}
use Rattle.ent_polform.specs.Objects.{◌>>=◌}
use Rattle.lint_places.specs.Told.{members_of, numbered}

pub members_of_items : (ds : List Data) → members_of (items_of ds) ≡ ds
members_of_items [] = refl
members_of_items (d ∷ ds) = ap (λ es. d ∷ es) (members_of_items ds)

-- what was read before, and what is still read
abbrev with_front : {A : Type 0} → List A → Result (List A) DocFault → Result (List A) DocFault
with_front front read = read >>= λ xs. Ok (front ++ xs)

regroup : {A : Type 0} (front : List A) (x : A) (read : Result (List A) DocFault) → with_front front (read >>= λ xs. Ok (x ∷ xs)) ≡ with_front (front ++ x ∷ []) read
regroup front x (Ok xs) = ap (λ ys. Ok ys) (sym (append_assoc front (x ∷ []) xs))
regroup front x (Err f) = refl

-- what f reads of a list, where the members before the i-th are read already: they stand in front
abbrev pub HasRead : {A B : Type 0} → (B → Data) → (ℕ → Data → Result A DocFault) → List B → ℕ → List A → Type 0
HasRead content f vs i front = with_front front (numbered f i (map content (drop i vs))) ≡ numbered f 0 (map content vs)

module _ {A B : Type 0} (content : B → Data) (f : ℕ → Data → Result A DocFault) (vs : List B) (i : ℕ) (v : B) (front : List A) where
  -- a member is read, and goes to the end of what was read
  pub goes_on : (x : A) → i < length vs → v ≡ get_or vs i v → f i (content v) ≡ Ok x → HasRead content f vs i front → HasRead content f vs (i + 1) (front ++ x ∷ [])
  goes_on x lt here h so_far =
      let one : with_front front (numbered f i (map content (drop i vs))) ≡ with_front (front ++ x ∷ []) (numbered f (i + 1) (map content (drop (i + 1) vs))) =
      rw (add-one, drop-cons vs i v, ← here, h) (regroup front x _) in
      sym one ∙ so_far

  -- a member has a fault, which is then the fault of the list
  pub ends : (e : CheckFault) → i < length vs → v ≡ get_or vs i v → Fails e (f i (content v)) → HasRead content f vs i front → Fails e (numbered f 0 (map content vs))
  ends faults.Memory lt here h so_far = tt
  ends (faults.Doc d) lt here h so_far =
      let one : with_front front (numbered f i (map content (drop i vs))) ≡ Err d = rw (drop-cons vs i v, ← here, h) refl in
      sym so_far ∙ one

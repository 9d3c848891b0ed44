-- The phases of an edit, one cell after another.
use Rattle.std.proofs.Common.{◌≡◌, inl, inr, ℕ, ◌+◌, ◌<◌, ◌≤◌, Bool, true, false, cond, List, take, length, Option, Some, None, IsSome, option_map, refl, sym, ap, subst, ◌∙◌, slice_index_or as get_or}
use Rattle.std.proofs.lemmas.Bool.Decides.{eqb_tells}
use Rattle.slab.specs.Slab.{Slab, Updates, get}
use Rattle.ent_request.specs.Looks.{Looks}
use Rattle.ent_cells.specs.Entries.{AreFree, Entry}
use Rattle.ent_cells.specs.proofs_only.Entries.{Becomes, IsFree, given_up}
use Rattle.ent_cells.specs.Grid.{times}
use Rattle.ent_cells.specs.proofs_only.Phases.{KeepsCells, changed_at, is_among, made_ready}
use Rattle.ent_cells.proofs.Among.{among_here, among_others, among_take, first_time}

pub some_of : {A : Type 0} (o : Option A) → IsSome o → (e : A) × (o ≡ Some e)
some_of None h = absurd (let bad : false ≡ true = h in cc)
some_of (Some e) h = (e, refl)

changed_here : (f : Entry → Entry) (b : Bool) (o : Option Entry) (e : Entry) → b ≡ true → o ≡ Some e → cond b (option_map f o) o ≡ Some (f e)
changed_here f true o e h is = ap (option_map f) is
changed_here f false o e h is = absurd (cc)

module _ (f : Entry → Entry) (old s : Slab Entry) (ks : List ℕ) (i : ℕ) (within : i < length ks) (once : times (get_or ks i 0) ks ≤ 1) (so_far : (c : ℕ) → get s c ≡ changed_at f (take i ks) c (get old c)) where
  -- a cell is as before until its turn comes
  pub same_here : get s (get_or ks i 0) ≡ get old (get_or ks i 0)
  same_here =
      let k : ℕ = get_or ks i 0 in
      so_far k ∙ ap (λ (b : Bool). cond b (option_map f (get old k)) (get old k)) (first_time ks i within once)

  pub still_there : IsSome (get old (get_or ks i 0)) → IsSome (get s (get_or ks i 0))
  still_there there = subst IsSome (sym same_here) there

  step_by : (t : Slab Entry) (e : Entry) → get old (get_or ks i 0) ≡ Some e → Updates s t (get_or ks i 0) (Some (f e)) → (c : ℕ) → get t c ≡ changed_at f (take (i + 1) ks) c (get old c)
  step_by t e held u c = elim (eqb_tells c (get_or ks i 0)) [
    | inl p ↦
        ap (get t) p.1
        ∙ u.changed
        ∙ sym (changed_here f (is_among (take (i + 1) ks) c) (get old c) e (among_here ks i c within p.0) (ap (get old) p.1 ∙ held))
    | inr p ↦
        u.others c p.1
        ∙ so_far c
        ∙ ap (λ (b : Bool). cond b (option_map f (get old c)) (get old c)) (sym (among_others ks i c within p.0))
  ]

  -- one cell more has had its turn
  pub one_step : (t : Slab Entry) → IsSome (get old (get_or ks i 0)) → Becomes f (get_or ks i 0) s t → (c : ℕ) → get t c ≡ changed_at f (take (i + 1) ks) c (get old c)
  one_step t there becomes =
      let held = some_of (get old (get_or ks i 0)) there in
      step_by t held.0 held.1 (becomes held.0 (same_here ∙ held.1))

  free_by : (o p : Option Entry) → p ≡ o → IsSome o → ((e : Entry) → o ≡ Some e → e.next ≡ None) → IsFree p
  free_by None p is there free = absurd (let bad : false ≡ true = there in cc)
  free_by (Some e) p is there free = subst IsFree (sym is) (free e refl)

  -- nothing is ready of the cell whose turn comes
  pub free_here : AreFree old → IsSome (get old (get_or ks i 0)) → IsFree (get s (get_or ks i 0))
  free_here free there = free_by (get old (get_or ks i 0)) (get s (get_or ks i 0)) same_here there (free (get_or ks i 0))

-- ---- given up
free_again : (e : Entry) → e.next ≡ None → given_up e ≡ e
free_again e h = λ j. record { kept = e.kept; next = sym h j }

kept_by : (looks : Looks) (a b : Bool) (o : Option Entry) → ((e : Entry) → o ≡ Some e → e.next ≡ None) → (a ≡ true → b ≡ true)
    → cond b (option_map given_up (cond a (option_map (made_ready looks) o) o)) (cond a (option_map (made_ready looks) o) o) ≡ o
kept_by looks true true None free h = refl
kept_by looks false true None free h = refl
kept_by looks false false None free h = refl
kept_by looks true true (Some e) free h = ap Some (free_again e (free e refl))
kept_by looks false true (Some e) free h = ap Some (free_again e (free e refl))
kept_by looks false false (Some e) free h = refl
kept_by looks true false o free h = absurd (let bad : false ≡ true = h refl in cc)

-- the cells are as before, where the fresh evaluation is ready of the first of them
pub keeps_cells : (looks : Looks) (old s : Slab Entry) (ks : List ℕ) (i : ℕ) → AreFree old → ((c : ℕ) → get s c ≡ changed_at (made_ready looks) (take i ks) c (get old c)) → KeepsCells ks old s
keeps_cells looks old s ks i free so_far c =
    ap (changed_at given_up ks c) (so_far c)
    ∙ kept_by looks (is_among (take i ks) c) (is_among ks c) (get old c) (free c) (among_take ks i c)

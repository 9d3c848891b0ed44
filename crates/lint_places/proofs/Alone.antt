-- A definition has a fault only where it has it by itself, or uses a variable that isn't defined, or leads to itself.
use Rattle.std.proofs.Common.{◌≡◌, ◌≢◌, ℕ, zero, suc, ◌+◌, ◌<◌, ◌≤◌, min, List, [], ◌∷◌, ◌++◌, get_or, map, slice_set, Bool, true, false, not, Option, Some, Result, Ok, Err, refl, sym, ap, subst, ◌∙◌, inl, inr, arith}
use Rattle.std.specs.List.{All, list_all}
use Rattle.std.proofs.lemmas.Bool.{and_parts, cases_eq, cases_lt, false_from_ne_true, false≢true}
use Rattle.std.proofs.lemmas.List.{get_or-set_other}
use Rattle.std.proofs.lemmas.List.Elements.{All-cons, All-head, All-tail}
use Rattle.serde_json.specs.Data.{Data}
use Rattle.ent_policy.specs.Check.{fault_of}
use Rattle.ent_policy.specs.First.{place}
use Rattle.ent_policy.specs.Limits.{has_double, is_among}
use Rattle.ent_policy.specs.Reading.{definition_read}
use Rattle.ent_policy.specs.Variables.{has_bad_variable, ids_of, uses_only}
use Rattle.ent_policy.specs.declared.expression.VariableDefinition.{VariableDefinition}
use Rattle.ent_policy.specs.declared.fault.DocFault.{DocFault}
use Rattle.ent_policy.specs.declared.fault.DocFault.TheVariants as fault
use Rattle.ent_policy.specs.declared.raw.RawVariableDefinition.{RawVariableDefinition}
use Rattle.ent_polform.specs.Form.{definition_of}
use Rattle.ent_polform.specs.Objects.{◌>>=◌}
use Rattle.lint_places.specs.Places.{is_fault, is_faulty}
use Rattle.lint_places.specs.Told.{Scope, definition_told, each, everything, first_fault, nothing_given, numbered, of_rules, scope_told, set_aside, standing_with, standing_without, told, variable_at, variables_in, variables_of}
use Rattle.lint_places.specs.declared.part.Part.{Part}
use Rattle.lint_places.specs.declared.part.Part.TheVariants as part
use Rattle.lint_places.specs.proofs_only.Clear.{AreFree}
use Rattle.lint_places.specs.proofs_only.Suspects.{AreSuspectsIn, AreUsing, MayBeUsing, lone_told, names_of, uses}
use Rattle.lint_places.proofs.Judged.{bad_where_not_late, bad_with_either, beside, good_where_late, local, local_append, rank_of_policy, sound_in_policy, stored, stored_append, stored_ids, stored_policy, whole, whole_is_late}
use Rattle.lint_places.proofs.Named.{IsConsed, all_late, all_under, aside_has_none, consed, named, uses_what_is_read}
use Rattle.lint_places.proofs.Ranks.{fault_of_rank, rank, rank_of_fault, rank_of_later}
use Rattle.lint_places.proofs.Resolved.{AreSound, sound_under, under_ids, uses_defined}

-- ---- what is read where one definition stands, and where it is set aside

-- both are a fault of another; or this one can't be read; or it is read, and stands in one list where a stand-in stands in the other
pub data IsParted (down : Data → Bool) (standing lacking : Result (List RawVariableDefinition) DocFault) : Type 0 where
  of_another : (e : DocFault) → standing ≡ Err e → lacking ≡ Err e → IsParted down standing lacking
  unreadable : (d : Data) (e : DocFault) → down d ≡ false → definition_of d ≡ Err e → standing ≡ Err e → IsParted down standing lacking
  readable : (d : Data) (v : RawVariableDefinition) (front back : List RawVariableDefinition) → down d ≡ false → definition_of d ≡ Ok v
      → standing ≡ Ok (front ++ v ∷ back) → lacking ≡ Ok (front ++ set_aside d ∷ back) → IsParted down standing lacking

-- where the flags are the same, so is what is read
agree : (p q : List Bool) (k : ℕ) (ds : List Data) → ((i : ℕ) → k ≤ i → get_or p i true ≡ get_or q i true) → numbered (variable_at p) k ds ≡ numbered (variable_at q) k ds
agree p q k [] h = refl
agree p q k (d ∷ ds) h = rw (h k (omega arith), agree p q (suc k) ds (λ i le. h i (omega arith))) refl

module _ (down : Data → Bool) (p q : List Bool) where
  after : (r : Result RawVariableDefinition DocFault) (standing lacking : Result (List RawVariableDefinition) DocFault) → IsParted down standing lacking
      → IsParted down (r >>= λ x. standing >>= λ xs. Ok (x ∷ xs)) (r >>= λ x. lacking >>= λ xs. Ok (x ∷ xs))
  after (Err e) standing lacking s = of_another e refl refl
  after (Ok x) standing lacking (of_another e a b) = of_another e (rw a refl) (rw b refl)
  after (Ok x) standing lacking (unreadable d e n u a) = unreadable d e n u (rw a refl)
  after (Ok x) standing lacking (readable d v front back n u a b) = readable d v (x ∷ front) back n u (rw a refl) (rw b refl)

  here : (d : Data) (r : Result RawVariableDefinition DocFault) (rest : Result (List RawVariableDefinition) DocFault) → down d ≡ false → definition_of d ≡ r
      → IsParted down (r >>= λ x. rest >>= λ xs. Ok (x ∷ xs)) (rest >>= λ xs. Ok (set_aside d ∷ xs))
  here d (Err e) rest n u = unreadable d e n u refl
  here d (Ok v) (Err e) n u = of_another e refl refl
  here d (Ok v) (Ok xs) n u = readable d v [] xs n u refl refl

  parted : (k j : ℕ) (ds : List Data) → get_or (map down ds) j true ≡ false → get_or p (k + j) true ≡ true → get_or q (k + j) true ≡ false
      → ((i : ℕ) → i ≢ k + j → get_or p i true ≡ get_or q i true) → IsParted down (numbered (variable_at p) k ds) (numbered (variable_at q) k ds)
  parted k j [] n a b h = absurd (false≢true (sym n))
  parted k zero (d ∷ ds) n a b h =
      let e : k + 0 ≡ k = omega arith in
      let up = rw e at a in
      let dn = rw e at b in
      rw (up, dn, agree p q (suc k) ds (λ i le. h i (λ same. omega (arith, same)))) (here d (definition_of d) (numbered (variable_at q) (suc k) ds) n refl)
  parted k (suc j) (d ∷ ds) n a b h =
      let e : k + suc j ≡ suc k + j = omega arith in
      rw (h k (λ same. omega (arith, same)))
      (after (variable_at q k d) (numbered (variable_at p) (suc k) ds) (numbered (variable_at q) (suc k) ds)
      (parted (suc k) j ds n (rw e at a) (rw e at b) (λ i other. h i (λ same. other (same ∙ e)))))

-- ---- the definitions around a definition

-- which stand together with it, and which stand without it
abbrev lacking : List Data → ℕ → List Bool
lacking ds n = standing_without ds n

abbrev standing : List Data → ℕ → List Bool
standing ds n = standing_with (Some n) (standing_without ds n)

set_up : (xs : List Bool) (n : ℕ) → get_or (slice_set xs n true) n true ≡ true
set_up [] n = refl
set_up (x ∷ xs) zero = refl
set_up (x ∷ xs) (suc n) = set_up xs n

-- the flags of the others are the same
other_flags : (ds : List Data) (n i : ℕ) → i ≢ n → get_or (standing ds n) i true ≡ get_or (lacking ds n) i true
other_flags ds n i other = get_or-set_other (lacking ds n) n i true true other

-- all are where this one stands in both
same_flags : (ds : List Data) (n : ℕ) → get_or (lacking ds n) n true ≡ true → (i : ℕ) → get_or (standing ds n) i true ≡ get_or (lacking ds n) i true
same_flags ds n is i = elim (cases_eq i n) [
  | inl e ↦ ap (λ j. get_or (standing ds n) j true) e ∙ set_up (lacking ds n) n ∙ sym is ∙ sym (ap (λ j. get_or (lacking ds n) j true) e)
  | inr other ↦ other_flags ds n i other
]

-- what is told of definitions as they are read
abbrev result_told : Result (List RawVariableDefinition) DocFault → Option DocFault
result_told r = first_fault (r >>= λ vs. Ok (of_rules [] vs))

-- the scope around a definition
abbrev around : List Data → ℕ → Scope
around ds n = record { definitions = ds; aside = Some n; standing = standing_without ds n }

standing_is : (ds : List Data) (n : ℕ) → definition_told (around ds n) ≡ result_told (numbered (variable_at (standing ds n)) 0 ds)
unfolding definition_told variables_of
standing_is ds n = refl

lacking_is : (down : Data → Bool) (ds : List Data) (n : ℕ) → get_or (map down ds) n true ≡ false → scope_told (around ds n) ≡ result_told (numbered (variable_at (lacking ds n)) 0 ds)
unfolding scope_told variables_in variables_of
lacking_is down [] n h = absurd (false≢true (sym h))
lacking_is down (d ∷ ds) n h = refl

-- a definition doesn't have a fault, if what is read where it stands and where it is set aside never shows it
module _ (f : DocFault) (down : Data → Bool) (ds : List Data) (never : (p q : List Bool) → IsParted down (numbered (variable_at p) 0 ds) (numbered (variable_at q) 0 ds)
    → is_fault f (result_told (numbered (variable_at p) 0 ds)) ≡ true → is_fault f (result_told (numbered (variable_at q) 0 ds)) ≡ false → ⊥) where
  not_faulty : (n : ℕ) (d : Data) → get_or (map down ds) n true ≡ false → is_faulty f part.Definition (around ds n) d ≡ false
  unfolding told
  not_faulty n d low = false_from_ne_true (is_faulty f part.Definition (around ds n) d) (λ h.
      let both = and_parts (is_fault f (definition_told (around ds n))) (not (is_fault f (scope_told (around ds n)))) h in
      let one : is_fault f (result_told (numbered (variable_at (standing ds n)) 0 ds)) ≡ true = sym (ap (is_fault f) (standing_is ds n)) ∙ both.0 in
      let none : is_fault f (result_told (numbered (variable_at (lacking ds n)) 0 ds)) ≡ false = sym (ap (is_fault f) (lacking_is down ds n low)) ∙ not_true (is_fault f (scope_told (around ds n))) both.1 in
      at (get_or (lacking ds n) n true) refl one none)
    where
      not_true : (b : Bool) → not b ≡ true → b ≡ false
      not_true true h = absurd (false≢true h)
      not_true false h = refl

      at : (b : Bool) → get_or (lacking ds n) n true ≡ b → is_fault f (result_told (numbered (variable_at (standing ds n)) 0 ds)) ≡ true
          → is_fault f (result_told (numbered (variable_at (lacking ds n)) 0 ds)) ≡ false → ⊥
      at true is one none = false≢true (sym none ∙ ap (λ r. is_fault f (result_told r)) (sym (agree (standing ds n) (lacking ds n) 0 ds (λ i le. same_flags ds n is i))) ∙ one)
      at false is one none =
          let zero_plus : 0 + n ≡ n = omega arith in
          never (standing ds n) (lacking ds n) (parted down (standing ds n) (lacking ds n) 0 n ds low (ap (λ j. get_or (standing ds n) j true) zero_plus ∙ set_up (lacking ds n) n)
          (ap (λ j. get_or (lacking ds n) j true) zero_plus ∙ is) (λ i other. other_flags ds n i (λ e. other (e ∙ sym zero_plus)))) one none

-- ---- a fault that is told before those of variables

-- where neither another definition nor what is around it has the k-th place, it is this one's
of_this : (k b front v back w1 w0 wl : ℕ) → k < 5 → 5 ≤ w1 → 5 ≤ w0 → 5 ≤ wl → min b (min (min front (min v back)) w1) ≡ k → (min b (min (min front (min 9 back)) w0) ≡ k → ⊥) → (min b (min v wl) ≡ k → ⊥) → ⊥
of_this k b front v back w1 w0 wl low l1 l0 ll is none alone =
    elim (cases_lt k b) [
      | inr le ↦ none (omega (arith, low, l0, is, le))
      | inl lt ↦ elim (cases_lt k front) [
        | inr le ↦ none (omega (arith, low, l0, is, le))
        | inl lt' ↦ elim (cases_lt k back) [
          | inr le ↦ none (omega (arith, low, l0, is, le))
          | inl lt'' ↦ alone (omega (arith, low, l1, ll, is, lt, lt', lt''))
        ]
      ]
    ]

-- the rank of what is told of definitions alone
abbrev rest : ℕ
rest = beside everything [] nothing_given

abbrev all_of : List RawVariableDefinition → ℕ
all_of vs = whole (stored_policy everything [] nothing_given vs)

rank_of_rules : (vs : List RawVariableDefinition) → rank (fault_of (of_rules [] vs)) ≡ min rest (min (local vs) (all_of vs))
unfolding of_rules
rank_of_rules vs = rank_of_policy everything [] nothing_given vs

-- definitions around one
local_around : (front back : List RawVariableDefinition) (v : RawVariableDefinition) → local (front ++ v ∷ back) ≡ min (local front) (min (local (v ∷ [])) (local back))
local_around front back v = local_append front (v ∷ back) ∙ ap (min (local front)) (local_append (v ∷ []) back)

module _ (f : DocFault) (low : place f < 5) where
  abbrev alone_with : Data → Bool
  alone_with d = is_fault f (lone_told d)

  no_rank : (o : Option DocFault) → is_fault f o ≡ false → rank o ≡ place f → ⊥
  no_rank o h e = false≢true (sym h ∙ fault_of_rank f o e)

  never_alone : (standing lacking : Result (List RawVariableDefinition) DocFault) → IsParted alone_with standing lacking → is_fault f (result_told standing) ≡ true → is_fault f (result_told lacking) ≡ false → ⊥
  unfolding lone_told
  never_alone standing lacking (of_another e a b) one none = false≢true (sym none ∙ ap (λ r. is_fault f (result_told r)) (b ∙ sym a) ∙ one)
  never_alone standing lacking (unreadable d e n u a) one none =
      let here : is_fault f (Some e) ≡ true = sym (ap (λ r. is_fault f (result_told r)) a) ∙ one in
      let alone : is_fault f (Some e) ≡ false = rw u at n in
      false≢true (sym alone ∙ here)
  never_alone standing lacking (readable d v front back n u a b) one none =
      let x : List RawVariableDefinition = front ++ v ∷ back in
      let y : List RawVariableDefinition = front ++ set_aside d ∷ back in
      let first : rank (fault_of (of_rules [] x)) ≡ place f = rank_of_fault f (fault_of (of_rules [] x)) (sym (ap (λ r. is_fault f (result_told r)) a) ∙ one) in
      let second : is_fault f (fault_of (of_rules [] y)) ≡ false = sym (ap (λ r. is_fault f (result_told r)) b) ∙ none in
      let third : is_fault f (fault_of (of_rules [] (v ∷ []))) ≡ false = rw u at n in
      of_this (place f) rest (local front) (local (v ∷ [])) (local back) (all_of x) (all_of y) (all_of (v ∷ [])) low
      (whole_is_late (stored_policy everything [] nothing_given x)) (whole_is_late (stored_policy everything [] nothing_given y)) (whole_is_late (stored_policy everything [] nothing_given (v ∷ [])))
      (sym (ap (λ n. min rest (min n (all_of x))) (local_around front back v)) ∙ sym (rank_of_rules x) ∙ first)
      (λ e. no_rank (fault_of (of_rules [] y)) second (rank_of_rules y ∙ ap (λ n. min rest (min n (all_of y))) (local_around front back (set_aside d) ∙ ap (λ n. min (local front) (min n (local back))) (aside_has_none d)) ∙ e))
      (λ e. no_rank (fault_of (of_rules [] (v ∷ []))) third (rank_of_rules (v ∷ []) ∙ e))

  pub alone_suspects : (s : Scope) (ds : List Data) → AreSuspectsIn f part.Definitions s ds (map alone_with ds)
  alone_suspects s ds q n d is down =
      let own : part.Definition ≡ q = cc in
      subst (λ (r : Part). is_faulty f r (around ds n) d ≡ false) own (not_faulty f alone_with ds (λ p q. never_alone (numbered (variable_at p) 0 ds) (numbered (variable_at q) 0 ds)) n d down)

-- ---- a fault of variables

-- what is seen of a definition as read; of one that can't be read nothing is
abbrev seen : (RawVariableDefinition → Bool) → Result RawVariableDefinition DocFault → Bool
seen g (Ok v) = g v
seen g (Err e) = true

seen_all : (g : RawVariableDefinition → Bool) (k : ℕ) (ds : List Data) (us : List RawVariableDefinition) → numbered (λ n. definition_of) k ds ≡ Ok us → map (λ d. seen g (definition_of d)) ds ≡ map g us
seen_all g k [] us h = let same : [] ≡ us = cc in ap (map g) same
seen_all g k (d ∷ ds) us h = seen_cons g d ds us (consed (definition_of d) (numbered (λ n. definition_of) (suc k) ds) us h) (seen_all g (suc k) ds)
  where
    seen_cons : (g : RawVariableDefinition → Bool) (d : Data) (ds : List Data) (us : List RawVariableDefinition) {rest : Result (List RawVariableDefinition) DocFault} (c : IsConsed (definition_of d) rest us)
        → ((vs : List RawVariableDefinition) → rest ≡ Ok vs → map (λ d. seen g (definition_of d)) ds ≡ map g vs) → map (λ d. seen g (definition_of d)) (d ∷ ds) ≡ map g us
    seen_cons g d ds us c more =
        ap (λ b. b ∷ map (λ d. seen g (definition_of d)) ds) (ap (seen g) c.read_head) ∙ ap (λ bs. g c.head ∷ bs) (more c.tail c.read_tail) ∙ sym (ap (map g) c.is)

-- one definition in the place of another
replaced : (P : VariableDefinition → Type 0) (front back : List RawVariableDefinition) (a v : RawVariableDefinition) → All P (stored (front ++ a ∷ back)) → P (definition_read v).value → All P (stored (front ++ v ∷ back))
replaced P [] back a v all own = All-cons P (definition_read v).value (stored back) own (All-tail P (definition_read a).value (stored back) all)
replaced P (x ∷ front) back a v all own =
    All-cons P (definition_read x).value (stored (front ++ v ∷ back)) (All-head P (definition_read x).value (stored (front ++ a ∷ back)) all)
    (replaced P front back a v (All-tail P (definition_read x).value (stored (front ++ a ∷ back)) all) own)

-- where the places are none but that of variables
only_whole : (b l1 w1 l0 w0 : ℕ) → 5 < l1 → 5 < l0 → 5 ≤ w1 → 5 ≤ w0 → min b (min l1 w1) ≡ 5 → (min b (min l0 w0) ≡ 5 → ⊥) → (w1 ≡ 5) × (5 < w0)
only_whole b l1 w1 l0 w0 a c d e is none =
    elim (cases_lt 5 b) [
      | inr le ↦ absurd (none (omega (arith, c, e, is, le)))
      | inl lt ↦ elim (cases_lt 5 w0) [
        | inr le ↦ absurd (none (omega (arith, c, e, lt, le)))
        | inl lt' ↦ (omega (arith, a, d, is, lt), lt')
      ]
    ]

own_uses : (us : List RawVariableDefinition) (v : RawVariableDefinition) → list_all (is_among (names_of us)) (uses v.expression) ≡ true
    → uses_only (is_among (ids_of (stored us))) (definition_read v).value.expression ≡ true
unfolding definition_read
own_uses us v h = rw (stored_ids us, uses_what_is_read v.expression) h

not_false : (b : Bool) → not b ≡ false → b ≡ true
not_false true h = refl
not_false false h = absurd (false≢true (sym h))

module _ (ds : List Data) (us others : List RawVariableDefinition) (read : each definition_of ds ≡ Ok us) (free : AreFree fault.Variable (us ++ others)) where
  abbrev uses_another : RawVariableDefinition → Bool
  uses_another v = not (list_all (is_among (names_of us)) (uses v.expression))

  all_late_whole : 5 < min rest (min (local (us ++ others)) (all_of (us ++ others)))
  all_late_whole = subst (λ n. 5 < n) (rank_of_rules (us ++ others)) (rank_of_later fault.Variable (fault_of (of_rules [] (us ++ others))) free)

  late_read : 5 < local us
  late_read = omega (arith, all_late_whole, local_append us others)

  sound_read : AreSound (stored us ++ stored others)
  sound_read =
      let late : 5 < all_of (us ++ others) = omega (arith, all_late_whole) in
      subst AreSound (stored_append us others) (sound_in_policy everything [] nothing_given (us ++ others) (good_where_late (stored_policy everything [] nothing_given (us ++ others)) late))

  never_using : (p q : List Bool) → IsParted (λ d. seen uses_another (definition_of d)) (numbered (variable_at p) 0 ds) (numbered (variable_at q) 0 ds)
      → is_fault fault.Variable (result_told (numbered (variable_at p) 0 ds)) ≡ true → is_fault fault.Variable (result_told (numbered (variable_at q) 0 ds)) ≡ false → ⊥
  never_using p q (of_another e a b) one none = false≢true (sym none ∙ ap (λ r. is_fault fault.Variable (result_told r)) (b ∙ sym a) ∙ one)
  never_using p q (unreadable d e n u a) one none = false≢true (sym n ∙ ap (seen uses_another) u)
  never_using p q (readable d v front back n u a b) one none =
      let x : List RawVariableDefinition = front ++ v ∷ back in
      let y : List RawVariableDefinition = front ++ set_aside d ∷ back in
      let first : rank (fault_of (of_rules [] x)) ≡ 5 = rank_of_fault fault.Variable (fault_of (of_rules [] x)) (sym (ap (λ r. is_fault fault.Variable (result_told r)) a) ∙ one) in
      let second : is_fault fault.Variable (fault_of (of_rules [] y)) ≡ false = sym (ap (λ r. is_fault fault.Variable (result_told r)) b) ∙ none in
      let parts = only_whole rest (local x) (all_of x) (local y) (all_of y) (all_late p 0 ds x us a read late_read) (all_late q 0 ds y us b read late_read)
      (whole_is_late (stored_policy everything [] nothing_given x)) (whole_is_late (stored_policy everything [] nothing_given y))
      (sym (rank_of_rules x) ∙ first) (λ e. false≢true (sym second ∙ fault_of_rank fault.Variable (fault_of (of_rules [] y)) (rank_of_rules y ∙ e))) in
      let bad : has_bad_variable (stored_policy everything [] nothing_given x) ≡ true = bad_where_not_late (stored_policy everything [] nothing_given x) parts.0 in
      let good : has_bad_variable (stored_policy everything [] nothing_given y) ≡ false = good_where_late (stored_policy everything [] nothing_given y) parts.1 in
      let sound_y : AreSound (stored y) = sound_in_policy everything [] nothing_given y good in
      let names = named us late_read in
      let under_x = all_under p 0 ds x us a read names in
      let under_y = all_under q 0 ds y us b read names in
      let ids_x : ids_of (stored x) ≡ ids_of (stored us) = under_ids (stored x) (stored us) under_x in
      let ids_y : ids_of (stored y) ≡ ids_of (stored us) = under_ids (stored y) (stored us) under_y in
      let uses_y = subst (λ ids. All (λ d. uses_only (is_among ids) d.expression ≡ true) (stored y)) ids_y (uses_defined (stored y) sound_y) in
      let own = own_uses us v (not_false (list_all (is_among (names_of us)) (uses v.expression)) (sym (ap (seen uses_another) u) ∙ n)) in
      let uses_x = replaced (λ d. uses_only (is_among (ids_of (stored us))) d.expression ≡ true) front back (set_aside d) v uses_y own in
      let same : ids_of (stored x) ≡ ids_of (stored y) = ids_x ∙ sym ids_y in
      let sound_x : AreSound (stored x) = record { once = ap has_double same ∙ sound_y.once; resolved = sound_under (stored x) (stored us) (stored others) under_x uses_x sound_read } in
      let both = bad_with_either everything [] nothing_given x y sound_x sound_y same in
      false≢true (sym good ∙ sym both ∙ bad)

  using_down : (n : ℕ) (d : Data) → get_or (map uses_another us) n true ≡ false → is_faulty fault.Variable part.Definition (around ds n) d ≡ false
  using_down n d down = not_faulty fault.Variable (λ d. seen uses_another (definition_of d)) ds never_using n d (ap (λ flags. get_or flags n true) (seen_all uses_another 0 ds us read) ∙ down)

pub using_suspects : (s : Scope) (ds : List Data) (flags : List Bool) → AreUsing ds flags → AreSuspectsIn fault.Variable part.Definitions s ds flags
using_suspects s ds flags using q n d is down =
    let own : part.Definition ≡ q = cc in
    subst (λ (r : Part). is_faulty fault.Variable r (around ds n) d ≡ false) own
    (using_down ds using.variables using.end.0 using.are_read using.end.1 n d (sym (ap (λ flags. get_or flags n true) using.are) ∙ down))

-- where no flag is kept none is down
pub no_suspects : (f : DocFault) (p : Part) (s : Scope) (ds : List Data) → AreSuspectsIn f p s ds []
no_suspects f p s ds q n d is down = absurd (false≢true (sym down))

-- of a fault of variables
pub may_be_suspects : (s : Scope) (ds : List Data) (flags : List Bool) → MayBeUsing ds flags → AreSuspectsIn fault.Variable part.Definitions s ds flags
may_be_suspects s ds flags may =
    elim may [
      | inl none ↦ subst (λ fs. AreSuspectsIn fault.Variable part.Definitions s ds fs) (sym none) (no_suspects fault.Variable part.Definitions s ds)
      | inr using ↦ using_suspects s ds flags using
    ]

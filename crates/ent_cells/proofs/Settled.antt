-- What an edit makes of the cells that it touches, and how many get another answer.
use Rattle.std.proofs.Common.{◌≡◌, ℕ, suc, ◌+◌, ◌≤◌, Bool, true, false, not, cond, List, [], ◌∷◌, filter, map, length, count_by, Option, Some, None, IsSome, is_some, option_map, refl, sym, ap, subst, ◌∙◌, arith}
use Rattle.std.specs.Prelude.{if◌then◌else◌}
use Rattle.std.specs.List.{All, AllByRecursion, cons_option}
use Rattle.std.specs.Option.{option_map_or}
use Rattle.std.proofs.lemmas.List.Sums.{length-filter}
use Rattle.std.proofs.lemmas.List.Elements.{All-from_recursion}
use Rattle.slab.specs.Slab.{Slab, get}
use Rattle.ent_request.specs.declared.answer.Answer.{Answer}
use Rattle.ent_request.specs.declared.key.ReadKey.{ReadKey}
use Rattle.ent_request.specs.Looks.{Looks}
use Rattle.ent_request.specs.Same.{same_answer}
use Rattle.ent_cells.specs.Cell.{IsRightBut, Kept, Said, answers_in, reads_any, renewed, says, unlike_count}
use Rattle.ent_cells.specs.Entries.{Entry, IsLive, kept_of}
use Rattle.ent_cells.specs.proofs_only.Entries.{changes, entry_of_cell, given_up, settled, touched_at}
use Rattle.ent_cells.specs.Grid.{IsGrid, times}
use Rattle.ent_cells.specs.proofs_only.Phases.{IsPrepared, KeepsCells, changed_at, is_among, made_ready}
use Rattle.ent_cells.proofs.Among.{among_bit, bit, once_at_least, same_length, times_filter}
use Rattle.ent_cells.proofs.Listed.{each, kept_cons, mapped}

-- a cell that says the fresh evaluation, of which nothing is ready
abbrev pub fresh : Looks → Entry → Entry
fresh looks e = entry_of_cell e.kept.who (says looks e.kept.who)

-- how many of the cells under these keys get another answer by what is ready
abbrev pub changed_count : Slab Entry → List ℕ → ℕ
changed_count s keys = length (filter (λ c. option_map_or changes (get s c) false) keys)

-- each touched cell stands in a list once, and no other does
abbrev pub AreTouched : List ReadKey → Slab Entry → List ℕ → Type 0
AreTouched changed s ks = (c : ℕ) → times c ks ≡ cond (touched_at changed (get s c)) 1 0

-- ---- what holds of each number that stands in a list
each_by : (P : ℕ → Type 0) (xs : List ℕ) → ((c : ℕ) → 1 ≤ times c xs → P c) → AllByRecursion P xs
each_by P [] f = tt
each_by P (x ∷ xs) f = (f x (once_at_least x xs), each_by P xs (λ c h. f c (omega (arith, h))))

some_by : (changed : List ReadKey) (o : Option Entry) (n : ℕ) → n ≡ bit (touched_at changed o) → 1 ≤ n → IsSome o
some_by changed None n e h = absurd (omega (arith, e, h))
some_by changed (Some x) n e h = refl

at_most_one : (b : Bool) (n : ℕ) → n ≡ bit b → n ≤ 1
at_most_one true n h = omega (arith, h)
at_most_one false n h = omega (arith, h)

module _ (changed : List ReadKey) (s : Slab Entry) (ks : List ℕ) (touched : AreTouched changed s ks) where
  pub touched_there : All (λ c. IsSome (get s c)) ks
  touched_there = All-from_recursion (λ c. IsSome (get s c)) ks (each_by (λ c. IsSome (get s c)) ks (λ c h. some_by changed (get s c) (times c ks) (touched c) h))

  pub touched_once : (c : ℕ) → times c ks ≤ 1
  touched_once c = at_most_one (touched_at changed (get s c)) (times c ks) (touched c)

  pub touched_among : (c : ℕ) → is_among ks c ≡ touched_at changed (get s c)
  touched_among c = among_bit ks c (touched_at changed (get s c)) (touched c)

-- ---- a prepared cell is there
prepared_some : (f : Entry → Entry) (b : Bool) (o : Option Entry) → IsSome o → IsSome (cond b (option_map f o) o)
prepared_some f true None h = h
prepared_some f false None h = h
prepared_some f true (Some e) h = refl
prepared_some f false (Some e) h = refl

pub prepared_there : (f : Entry → Entry) (s t : Slab Entry) (ks : List ℕ) → ((c : ℕ) → get t c ≡ changed_at f ks c (get s c)) → All (λ c. IsSome (get s c)) ks → All (λ c. IsSome (get t c)) ks
prepared_there f s t ks are all k d h = subst IsSome (sym (are _)) (prepared_some f _ _ (all k d h))

-- where cells are as before once what is ready is given up, each that was there is there
given_some : (b : Bool) (o p : Option Entry) → cond b (option_map given_up o) o ≡ p → IsSome p → IsSome o
given_some true None p e h = absurd (let bad : false ≡ true = ap is_some e ∙ h in cc)
given_some false None p e h = absurd (let bad : false ≡ true = ap is_some e ∙ h in cc)
given_some b (Some x) p e h = refl

pub kept_there : (s t : Slab Entry) (ks : List ℕ) → KeepsCells ks s t → All (λ c. IsSome (get s c)) ks → All (λ c. IsSome (get t c)) ks
kept_there s t ks keeps all k d h = given_some _ _ _ (keeps _) (all k d h)

-- ---- each cell is as it is to be
right_again : (looks : Looks) (e : Entry) → e.next ≡ None → e.kept ≡ renewed looks e.kept → e ≡ fresh looks e
right_again looks e free right = λ j. record { kept = right j; next = free j }

next_by : (looks : Looks) (changed : List ReadKey) (b : Bool) (o : Option Entry) → b ≡ touched_at changed o → ((e : Entry) → o ≡ Some e → e.next ≡ None) → ((e : Entry) → o ≡ Some e → IsRightBut changed looks e.kept)
    → cond b (option_map settled (cond b (option_map (made_ready looks) o) o)) (cond b (option_map (made_ready looks) o) o) ≡ option_map (fresh looks) o
next_by looks changed true None is free right = refl
next_by looks changed false None is free right = refl
next_by looks changed true (Some e) is free right = refl
next_by looks changed false (Some e) is free right = ap Some (right_again looks e (free e refl) (right e refl (sym is)))

module _ (looks : Looks) (changed : List ReadKey) (s0 s1 : Slab Entry) (ks grid : List ℕ) (touched : AreTouched changed s0 ks) (prepared : IsPrepared looks ks s0 s1) (live : IsLive s0 grid) (all : AllByRecursion (IsRightBut changed looks) (kept_of s0 grid)) where
  pub right : (c : ℕ) (e : Entry) → get s0 c ≡ Some e → IsRightBut changed looks e.kept
  right c e h = each (IsRightBut changed looks) s0 grid live.grid all c e h

  module _ (s2 : Slab Entry) (done : (c : ℕ) → get s2 c ≡ changed_at settled ks c (get s1 c)) where
    next : (c : ℕ) → get s2 c ≡ option_map (fresh looks) (get s0 c)
    next c =
        done c
        ∙ ap (changed_at settled ks c) (prepared c)
        ∙ next_by looks changed (is_among ks c) (get s0 c) (touched_among changed s0 ks touched c) (live.free c) (right c)

    pub settled_kept : kept_of s2 grid ≡ map (renewed looks) (kept_of s0 grid)
    settled_kept = mapped (fresh looks) (renewed looks) (λ e. refl) s0 s2 next grid

  -- ---- how many get another answer
  abbrev changed_here : ℕ → Bool
  changed_here c = option_map_or changes (get s1 c) false

  same_by : (b : Bool) (n : ℕ) (o : Option Entry) → b ≡ touched_at changed o → n ≡ bit b → ((e : Entry) → o ≡ Some e → e.next ≡ None)
      → cond (option_map_or changes (cond b (option_map (made_ready looks) o) o) false) n 0 ≡ cond (option_map_or changes (cond b (option_map (made_ready looks) o) o) false) (bit (is_some o)) 0
  same_by true n None is m free = refl
  same_by false n None is m free = refl
  same_by true n (Some e) is m free = ap (λ (k : ℕ). cond (changes (made_ready looks e)) k 0) m
  same_by false n (Some e) is m free = none (changes e) (unchanged e (free e refl)) where
    unchanged : (x : Entry) → x.next ≡ None → changes x ≡ false
    unchanged x h = by x.kept x.next h where
      by : (kept : Kept) (said : Option Said) → said ≡ None → changes (record { kept = kept; next = said }) ≡ false
      by kept None h = refl
      by kept (Some said) h = absurd (cc)

    none : (b : Bool) → b ≡ false → cond b n 0 ≡ cond b 1 0
    none true h = absurd (cc)
    none false h = refl

  same_times : (q : ℕ) → times q (filter changed_here ks) ≡ times q (filter changed_here grid)
  same_times q =
      times_filter changed_here q ks
      ∙ ap (λ (o : Option Entry). cond (option_map_or changes o false) (times q ks) 0) (prepared q)
      ∙ same_by (is_among ks q) (times q ks) (get s0 q) (touched_among changed s0 ks touched q) (touched q ∙ ap bit (sym (touched_among changed s0 ks touched q))) (live.free q)
      ∙ ap (λ (o : Option Entry). cond (option_map_or changes o false) (bit (is_some (get s0 q))) 0) (sym (prepared q))
      ∙ ap (λ (n : ℕ). cond (changed_here q) n 0) (sym (live.grid q))
      ∙ sym (times_filter changed_here q grid)

  module _ (self : (a : Answer) → same_answer a a ≡ true) where
    unlike_here : (b : Bool) (n m : ℕ) → n ≡ m → cond (not b) (suc n) n ≡ (if b then 0 else 1) + m
    unlike_here true n m h = omega (arith, h)
    unlike_here false n m h = omega (arith, h)

    like_here : (b : Bool) (m : ℕ) → b ≡ true → m ≡ (if b then 0 else 1) + m
    like_here true m h = omega arith
    like_here false m h = absurd (cc)

    abbrev unlike : List Kept → ℕ
    unlike es = unlike_count (answers_in es) (answers_in (map (renewed looks) es))

    pick : (b : Bool) (k : ℕ) (xs : List ℕ) → length (cond b (k ∷ xs) xs) ≡ cond b (suc (length xs)) (length xs)
    pick true k xs = refl
    pick false k xs = refl

    unlike_one : (b : Bool) (o : Option Entry) (k : ℕ) (xs : List ℕ) (es : List Kept) → b ≡ touched_at changed o → ((e : Entry) → o ≡ Some e → e.next ≡ None) → ((e : Entry) → o ≡ Some e → IsRightBut changed looks e.kept)
        → length xs ≡ unlike es → length (cond (option_map_or changes (cond b (option_map (made_ready looks) o) o) false) (k ∷ xs) xs) ≡ unlike (cons_option (option_map (λ e. e.kept) o) es)
    unlike_one true None k xs es is free is_right h = h
    unlike_one false None k xs es is free is_right h = h
    unlike_one true (Some e) k xs es is free is_right h =
        pick (not (same_answer e.kept.said.answer (says looks e.kept.who).answer)) k xs
        ∙ unlike_here (same_answer e.kept.said.answer (says looks e.kept.who).answer) (length xs) (unlike es) h
    unlike_one false (Some e) k xs es is free is_right h =
        ap (λ (o : Option Said). length (cond (changes (record { kept = e.kept; next = o })) (k ∷ xs) xs)) (free e refl)
        ∙ h
        ∙ like_here (same_answer e.kept.said.answer (says looks e.kept.who).answer) (unlike es)
        (ap (λ (x : Kept). same_answer e.kept.said.answer x.said.answer) (sym (is_right e refl (sym is))) ∙ self e.kept.said.answer)

    unlike_all : (qs : List ℕ) → length (filter changed_here qs) ≡ unlike (kept_of s0 qs)
    unlike_all [] = refl
    unlike_all (q ∷ qs) =
        ap (λ (o : Option Entry). length (cond (option_map_or changes o false) (q ∷ filter changed_here qs) (filter changed_here qs))) (prepared q)
        ∙ unlike_one (is_among ks q) (get s0 q) q (filter changed_here qs) (kept_of s0 qs) (touched_among changed s0 ks touched q) (live.free q) (right q) (unlike_all qs)
        ∙ ap unlike (sym (kept_cons s0 q qs))

    -- as many as there are places with another answer
    pub changes_counted : changed_count s1 ks ≡ unlike_count (answers_in (kept_of s0 grid)) (answers_in (map (renewed looks) (kept_of s0 grid)))
    changes_counted = same_length (filter changed_here ks) (filter changed_here grid) same_times ∙ unlike_all grid

-- ---- how many are touched
there_by : (changed : List ReadKey) (o : Option Entry) (n : ℕ) → n ≡ bit (is_some o) → cond (touched_at changed o) n 0 ≡ bit (touched_at changed o)
there_by changed None n h = refl
there_by changed (Some e) n h = ap (λ (k : ℕ). cond (reads_any changed e.kept) k 0) h

kept_two : (b : Bool) (k : ℕ) (ks : List ℕ) (e : Kept) (es : List Kept) → length ks ≡ length es → length (cond b (k ∷ ks) ks) ≡ length (cond b (e ∷ es) es)
kept_two true k ks e es h = ap suc h
kept_two false k ks e es h = h

kept_one : (changed : List ReadKey) (o : Option Entry) (es : List Kept) (k : ℕ) (ks : List ℕ) → length ks ≡ length (filter (reads_any changed) es)
    → length (cond (touched_at changed o) (k ∷ ks) ks) ≡ length (filter (reads_any changed) (cons_option (option_map (λ e. e.kept) o) es))
kept_one changed None es k ks h = h
kept_one changed (Some e) es k ks h = kept_two (reads_any changed e.kept) k ks e.kept (filter (reads_any changed) es) h

count_kept : (changed : List ReadKey) (s : Slab Entry) (ks : List ℕ) → length (filter (λ c. touched_at changed (get s c)) ks) ≡ length (filter (reads_any changed) (kept_of s ks))
count_kept changed s [] = refl
count_kept changed s (k ∷ ks) =
    kept_one changed (get s k) (kept_of s ks) k (filter (λ c. touched_at changed (get s c)) ks) (count_kept changed s ks)
    ∙ ap (λ (es : List Kept). length (filter (reads_any changed) es)) (sym (kept_cons s k ks))

-- as many as there are cells in the list that read a changed key
pub touched_count : (changed : List ReadKey) (s : Slab Entry) (ks grid : List ℕ) → AreTouched changed s ks → IsGrid s grid → length ks ≡ count_by (reads_any changed) (kept_of s grid)
touched_count changed s ks grid touched is_grid =
    same_length ks (filter (λ c. touched_at changed (get s c)) grid)
    (λ q. touched q ∙ sym (times_filter (λ c. touched_at changed (get s c)) q grid ∙ there_by changed (get s q) (times q grid) (is_grid q)))
    ∙ count_kept changed s grid
    ∙ length-filter (reads_any changed) (kept_of s grid)

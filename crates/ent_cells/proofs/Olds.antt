-- The old answers of the cells that an edit touches.
use Rattle.std.proofs.Common.{◌≡◌, inl, inr, ℕ, suc, ◌+◌, ◌<◌, ◌≤◌, Bool, true, false, not, cond, ◌||◌, nat_eq, List, [], ◌∷◌, ◌++◌, filter, map, length, take, Option, Some, None, option_map, refl, sym, ap, subst, ◌∙◌, arith, slice_index_or as get_or}
use Rattle.std.specs.Prelude.{if◌then◌else◌, option_and_then}
use Rattle.std.specs.List.{AllByRecursion, cons_option, list_any}
use Rattle.std.specs.Option.{option_map_or}
use Rattle.std.specs.Ordering.{is_eq}
use Rattle.std.proofs.lemmas.Bool.Decides.{eqb_tells}
use Rattle.std.proofs.lemmas.List.{take_more}
use Rattle.std.proofs.lemmas.List.Elements.{All-from_recursion, filter_map-append}
use Rattle.slab.specs.Slab.{Slab, get}
use Rattle.ent_request.specs.declared.answer.Answer.{Answer}
use Rattle.ent_request.specs.declared.key.ReadKey.{ReadKey}
use Rattle.ent_request.specs.Looks.{Looks}
use Rattle.ent_request.specs.Same.{same_answer}
use Rattle.ent_request.proofs.Sames.{answer-Decides}
use Rattle.ent_log.specs.declared.entry.OldAnswer.{OldAnswer}
use Rattle.ent_log.proofs.Before.{undoes-listed}
use Rattle.ent_eval.specs.declared.who.Who.{Who}
use Rattle.ent_cells.specs.Cell.{IsRightBut, Kept, answers_in, reads_any, renewed, says, unlike_count}
use Rattle.ent_cells.specs.Entries.{Entry, IsLive, kept_of}
use Rattle.ent_cells.specs.proofs_only.Entries.{changes, touched_at}
use Rattle.ent_cells.specs.Grid.{times}
use Rattle.ent_cells.specs.proofs_only.Logging.{old_at, old_of, olds_in}
use Rattle.ent_cells.specs.Old.{AreOld}
use Rattle.ent_cells.specs.Order.{request_order}
use Rattle.ent_cells.specs.proofs_only.Phases.{IsPrepared, is_among, made_ready}
use Rattle.ent_cells.proofs.Among.{bit}
use Rattle.ent_cells.proofs.Listed.{each, kept_cons}
use Rattle.ent_cells.proofs.Orders.{requests-respected, same_request}
use Rattle.ent_cells.proofs.Settled.{AreTouched, changed_count, changes_counted, right, touched_among}

-- ---- how many there are

counted_one : (b : Bool) (o : OldAnswer Who Answer) (k : ℕ) (os : List (OldAnswer Who Answer)) (ks : List ℕ) → length os ≡ length ks
    → length (cons_option (if b then Some o else None) os) ≡ length (cond b (k ∷ ks) ks)
counted_one true o k os ks h = ap suc h
counted_one false o k os ks h = h

counted_by : (o : Option Entry) (k : ℕ) (os : List (OldAnswer Who Answer)) (ks : List ℕ) → length os ≡ length ks
    → length (cons_option (option_and_then old_at o) os) ≡ length (cond (option_map_or changes o false) (k ∷ ks) ks)
counted_by None k os ks h = h
counted_by (Some e) k os ks h = counted_one (changes e) (old_of e.kept) k os ks h

pub olds_counted : (s : Slab Entry) (ks : List ℕ) → length (olds_in s ks) ≡ changed_count s ks
olds_counted s [] = refl
olds_counted s (k ∷ ks) = counted_by (get s k) k (olds_in s ks) (filter (λ c. option_map_or changes (get s c) false) ks) (olds_counted s ks)

length_one : (o : Option (OldAnswer Who Answer)) (os : List (OldAnswer Who Answer)) (n : ℕ) → length os ≤ n → length (cons_option o os) ≤ 1 + n
length_one None os n h = omega (arith, h)
length_one (Some e) os n h = omega (arith, h)

-- no more than there are keys
pub olds_length : (s : Slab Entry) (keys : List ℕ) → length (olds_in s keys) ≤ length keys
olds_length s [] = omega arith
olds_length s (k ∷ ks) = let h = length_one (option_and_then old_at (get s k)) (olds_in s ks) (length ks) (olds_length s ks) in omega (arith, h)

-- that of one cell more
pub olds_more : (s : Slab Entry) (keys : List ℕ) (i : ℕ) (o : Option (OldAnswer Who Answer)) (so_far : List (OldAnswer Who Answer)) → i < length keys → o ≡ option_and_then old_at (get s (get_or keys i 0))
    → so_far ≡ olds_in s (take i keys) → so_far ++ cons_option o [] ≡ olds_in s (take (i + 1) keys)
olds_more s keys i o so_far within is e =
    (λ j. e j ++ cons_option (is j) [])
    ∙ sym (filter_map-append (λ c. option_and_then old_at (get s c)) (take i keys) (get_or keys i 0 ∷ []))
    ∙ ap (olds_in s) (sym (take_more keys i 0 within))

-- ---- which there are

any_at : (p : OldAnswer Who Answer → Bool) (x : Option (OldAnswer Who Answer)) (o : OldAnswer Who Answer) (os : List (OldAnswer Who Answer)) → x ≡ Some o → p o ≡ true → list_any p (cons_option x os) ≡ true
any_at p x o os is h = ap (λ y. list_any p (cons_option y os)) is ∙ ap (λ b. b || list_any p os) h

any_later : (p : OldAnswer Who Answer → Bool) (x : Option (OldAnswer Who Answer)) (os : List (OldAnswer Who Answer)) → list_any p os ≡ true → list_any p (cons_option x os) ≡ true
any_later p None os h = h
any_later p (Some o) os h = by (p o)
  where
    by : (b : Bool) → (b || list_any p os) ≡ true
    by true = refl
    by false = h

fewer : (b : Bool) (n : ℕ) → b ≡ false → 1 ≤ bit b + n → 1 ≤ n
fewer true n e h = absurd (cc)
fewer false n e h = omega (arith, h)

-- the old answer of the cell under one of the keys is there
any_olds : (p : OldAnswer Who Answer → Bool) (s : Slab Entry) (ks : List ℕ) (c : ℕ) (o : OldAnswer Who Answer) → option_and_then old_at (get s c) ≡ Some o → 1 ≤ times c ks → p o ≡ true → list_any p (olds_in s ks) ≡ true
any_olds p s [] c o is some h = absurd (omega (arith, some))
any_olds p s (k ∷ ks) c o is some h = elim (eqb_tells c k) [
  | inl q ↦ any_at p (option_and_then old_at (get s k)) o (olds_in s ks) (ap (λ x. option_and_then old_at (get s x)) (sym q.1) ∙ is) h
  | inr q ↦ any_later p (option_and_then old_at (get s k)) (olds_in s ks) (any_olds p s ks c o is (fewer (nat_eq c k) (times c ks) q.0 some) h)
]

-- a cell of the list that passes a test is under a key
some_kept : {Q : Type 0} (p : Kept → Bool) (s : Slab Entry) (ks : List ℕ) → list_any p (kept_of s ks) ≡ true → ((c : ℕ) (e : Entry) → get s c ≡ Some e → p e.kept ≡ true → Q) → Q
some_kept p s [] h f = absurd (let bad : false ≡ true = h in cc)
some_kept {Q} p s (k ∷ ks) h f = by (get s k) refl (λ any. some_kept p s ks any f) (ap (list_any p) (sym (kept_cons s k ks)) ∙ h)
  where
    here : (e : Entry) → get s k ≡ Some e → (b : Bool) → p e.kept ≡ b → (list_any p (kept_of s ks) ≡ true → Q) → (b || list_any p (kept_of s ks)) ≡ true → Q
    here e is true passes later any = f k e is passes
    here e is false not_here later any = later any

    by : (o : Option Entry) → get s k ≡ o → (list_any p (kept_of s ks) ≡ true → Q) → list_any p (cons_option (option_map (λ e. e.kept) o) (kept_of s ks)) ≡ true → Q
    by None is later any = later any
    by (Some e) is later any = here e is (p e.kept) refl later any

all_renewed : (P : Kept → Type 0) (looks : Looks) (es : List Kept) → AllByRecursion P (map (renewed looks) es) → AllByRecursion (λ e. P (renewed looks e)) es
all_renewed P looks [] a = tt
all_renewed P looks (e ∷ es) a = (a.0, all_renewed P looks es a.1)

any_renewed : (k : Who) (looks : Looks) (es : List Kept) → list_any (λ e. is_eq (request_order e.who k)) (map (renewed looks) es) ≡ list_any (λ e. is_eq (request_order e.who k)) es
any_renewed k looks [] = refl
any_renewed k looks (e ∷ es) = ap (λ b. is_eq (request_order e.who k) || b) (any_renewed k looks es)

-- ---- put back, they give the table before

-- a table has the answer of a cell
abbrev Has : (Who → Option Answer) → Kept → Type 0
Has table e = table e.who ≡ Some e.said.answer

module _ (looks : Looks) (changed : List ReadKey) (s0 s1 : Slab Entry) (ks grid : List ℕ) (touched : AreTouched changed s0 ks) (prepared : IsPrepared looks ks s0 s1) (live : IsLive s0 grid) (all : AllByRecursion (IsRightBut changed looks) (kept_of s0 grid)) where
  -- of a prepared cell the answer is as before
  old_by : (table : Who → Option Answer) (b : Bool) (x : Option Entry) → ((e : Entry) → x ≡ Some e → Has table e.kept) → (y : Option Entry) → y ≡ cond b (option_map (made_ready looks) x) x
      → (os : List (OldAnswer Who Answer)) → AllByRecursion (λ o. o.answer ≡ table o.key) os → AllByRecursion (λ o. o.answer ≡ table o.key) (cons_option (option_and_then old_at y) os)
  old_by table b x has y is os rest = subst (λ z. AllByRecursion (λ o. o.answer ≡ table o.key) (cons_option (option_and_then old_at z) os)) (sym is) (at b x has)
    where
      one : (e : Entry) → Has table e.kept → (c : Bool) → AllByRecursion (λ o. o.answer ≡ table o.key) (cons_option (if c then Some (old_of e.kept) else None) os)
      one e h true = (sym h, rest)
      one e h false = rest

      at : (b : Bool) (x : Option Entry) → ((e : Entry) → x ≡ Some e → Has table e.kept) → AllByRecursion (λ o. o.answer ≡ table o.key) (cons_option (option_and_then old_at (cond b (option_map (made_ready looks) x) x)) os)
      at true None h = rest
      at false None h = rest
      at true (Some e) h = one (made_ready looks e) (h e refl) (changes (made_ready looks e))
      at false (Some e) h = one e (h e refl) (changes e)

  olds_right : (table : Who → Option Answer) → AllByRecursion (Has table) (kept_of s0 grid) → (qs : List ℕ) → AllByRecursion (λ o. o.answer ≡ table o.key) (olds_in s1 qs)
  olds_right table has [] = tt
  olds_right table has (q ∷ qs) =
      old_by table (is_among ks q) (get s0 q) (λ e is. each (Has table) s0 grid live.grid has q e is) (get s1 q) (prepared q) (olds_in s1 qs) (olds_right table has qs)

  -- a cell whose answer isn't among them has the same one afterwards
  same_said : (k : Who) (c : ℕ) (e : Entry) → get s0 c ≡ Some e → is_eq (request_order e.kept.who k) ≡ true → list_any (λ o. is_eq (request_order o.key k)) (olds_in s1 ks) ≡ false → e.kept.said.answer ≡ (says looks e.kept.who).answer
  same_said k c e is same none = by (reads_any changed e.kept) refl
    where
      ready : (b : Bool) → same_answer e.kept.said.answer (says looks e.kept.who).answer ≡ b → reads_any changed e.kept ≡ true → e.kept.said.answer ≡ (says looks e.kept.who).answer
      ready true alike reads = (answer-Decides e.kept.said.answer (says looks e.kept.who).answer).0 alike
      ready false other reads =
          let among : touched_at changed (get s0 c) ≡ true = ap (touched_at changed) is ∙ reads in
          let once : times c ks ≡ 1 = touched c ∙ ap bit among in
          let made : get s1 c ≡ Some (made_ready looks e) =
          prepared c ∙ (λ i. cond ((touched_among changed s0 ks touched c ∙ among) i) (option_map (made_ready looks) (is i)) (is i)) in
          let old : option_and_then old_at (get s1 c) ≡ Some (old_of e.kept) =
          ap (option_and_then old_at) made ∙ ap (λ (b : Bool). if not b then Some (old_of e.kept) else None) other in
          let some : list_any (λ o. is_eq (request_order o.key k)) (olds_in s1 ks) ≡ true =
          any_olds (λ o. is_eq (request_order o.key k)) s1 ks c (old_of e.kept) old (omega (arith, once)) same in
          absurd (let bad : true ≡ false = sym some ∙ none in cc)

      by : (b : Bool) → reads_any changed e.kept ≡ b → e.kept.said.answer ≡ (says looks e.kept.who).answer
      by true reads = ready (same_answer e.kept.said.answer (says looks e.kept.who).answer) refl reads
      by false reads = ap (λ (x : Kept). x.said.answer) (right looks changed s0 s1 ks grid touched prepared live all c e is reads)

  pub olds_old : AreOld (olds_in s1 ks) (kept_of s0 grid) (map (renewed looks) (kept_of s0 grid))
  olds_old before after is_before is_after =
      undoes-listed request_order (olds_in s1 ks) before after (requests-respected before)
      (All-from_recursion (λ o. o.answer ≡ before o.key) (olds_in s1 ks) (olds_right before is_before.has ks))
      (λ k none. by k none (list_any (λ e. is_eq (request_order e.who k)) (kept_of s0 grid)) refl)
    where
      by : (k : Who) → list_any (λ o. is_eq (request_order o.key k)) (olds_in s1 ks) ≡ false → (b : Bool) → list_any (λ e. is_eq (request_order e.who k)) (kept_of s0 grid) ≡ b → after k ≡ before k
      by k none true some =
          some_kept (λ e. is_eq (request_order e.who k)) s0 grid some
          (λ c e is same.
          let whose : e.kept.who ≡ k = same_request e.kept.who k same in
          let had : before e.kept.who ≡ Some e.kept.said.answer = each (Has before) s0 grid live.grid is_before.has c e is in
          let has : after e.kept.who ≡ Some (says looks e.kept.who).answer =
          each (λ x. Has after (renewed looks x)) s0 grid live.grid (all_renewed (Has after) looks (kept_of s0 grid) is_after.has) c e is in
          sym (ap after whose) ∙ has ∙ ap Some (sym (same_said k c e is same none)) ∙ sym had ∙ ap before whose)
      by k none false nothing =
          is_after.only k (any_renewed k looks (kept_of s0 grid) ∙ nothing) ∙ sym (is_before.only k nothing)

  -- as many as there are places with another answer
  pub olds_unlike : length (olds_in s1 ks) ≡ unlike_count (answers_in (kept_of s0 grid)) (answers_in (map (renewed looks) (kept_of s0 grid)))
  olds_unlike = olds_counted s1 ks ∙ changes_counted looks changed s0 s1 ks grid touched prepared live all (λ a. (answer-Decides a a).1 refl)

-- How a way comes about, one entry after the other.
use Rattle.std.proofs.Common.{◌≡◌, inl, inr, ℕ, zero, suc, ◌+◌, ◌<◌, ◌≤◌, Bool, true, false, List, [], ◌∷◌, ◌++◌, append-nil, append_assoc, drop, get_or, length, ltb, min, refl, sym, ap, subst, ◌∙◌, arith}
use Rattle.std.specs.Prelude.{◌⊎◌}
use Rattle.std.proofs.Math.Seq.{drop-cons}
use Rattle.std.proofs.lemmas.Bool.{ltb-false, ltb-true}
use Rattle.std.proofs.lemmas.List.{drop-drop, drop_all}
use Rattle.memo_plan.specs.Run.{CameBy, Signs, passed, run}
use Rattle.memo_plan.specs.Signed.{Grows, NotesOne}

-- where signing goes on behind an entry, and as many more as are passed: past the end at most
pub next_place : (places place k first next most : ℕ) → place < places → places ≤ most → first ≡ min (place + 1) most → next ≡ min (first + k) most
    → (next ≡ place + 1 + k) ⊎ ((places ≤ place + 1 + k) × (places ≤ next))
next_place places place k first next most below fits is then = by (ltb most (place + 1 + k)) refl where
  by : (b : Bool) → ltb most (place + 1 + k) ≡ b → (next ≡ place + 1 + k) ⊎ ((places ≤ place + 1 + k) × (places ≤ next))
  by true test = let over = ltb-true most (place + 1 + k) test in inr (omega (arith, over), omega (arith, over))
  by false test = let within = ltb-false most (place + 1 + k) test in inl (omega (arith, within))

module _ {S E T W C : Type 0} (is_test : E → Bool) (constant : E → C) (item : E → W → C) (goes_on : E → C → Bool) (skip : E → ℕ) (scene : S → W) (has_test : S → ℕ → T → Type 0) (tells : S → ℕ → ℕ → C → Type 0) (follows : S → S → Type 0) (entries : List E) (w : W) where
  -- what a way of more numbers tells from a place on, all of it tells from the first on, and will as outcomes grow
  abbrev pub IsSigning : S → ℕ → ℕ → List ℕ → Type 0
  IsSigning s place k way = (later : S) → Grows scene has_test tells follows s later → (more : List ℕ)
      → CameBy is_test constant (tells later) goes_on skip place k (drop place entries) more (run item goes_on skip k (drop place entries) w)
      → CameBy is_test constant (tells later) goes_on skip 0 0 entries (way ++ more) (run item goes_on skip 0 entries w)

  grows_none : (s : S) → Grows scene has_test tells follows s s
  grows_none s = record { same = refl; tested = λ place t has. has; told = λ place n c tell. tell; followed = λ first is. is }

  pub grows_then : (s t u : S) → Grows scene has_test tells follows s t → Grows scene has_test tells follows t u → Grows scene has_test tells follows s u
  grows_then s t u first second = record {
    same = second.same ∙ first.same;
    tested = λ place x has. second.tested place x (first.tested place x has);
    told = λ place n c tell. second.told place n c (first.told place n c tell);
    followed = λ from is. second.followed from (first.followed from is);
  }

  pub signing_none : (s : S) (way : List ℕ) → way ≡ [] → IsSigning s 0 0 way
  signing_none s way none later grows more by = subst (λ xs. CameBy is_test constant (tells later) goes_on skip 0 0 entries (xs ++ more) (run item goes_on skip 0 entries w)) (sym none) by

  -- what is left, from an entry on
  abbrev Left : S → ℕ → ℕ → List E → List ℕ → Type 0
  Left later place k es more = CameBy is_test constant (tells later) goes_on skip place k es more (run item goes_on skip k es w)

  -- what is left behind entries that are passed is left where they are passed first
  left_behind : (later : S) (place k : ℕ) (es : List E) (more : List ℕ) → Left later (place + k) 0 (drop k es) more → Left later place k es more
  left_behind later place zero es more by =
      let here : place + zero ≡ place = omega arith in
      subst (λ p. Left later p 0 es more) here by
  left_behind later place (suc k) [] more by = by
  left_behind later place (suc k) (e ∷ es) more by =
      let on : place + suc k ≡ suc place + k = omega arith in
      left_behind later (suc place) k es more (subst (λ p. Left later p 0 (drop k es) more) on by)

  -- entries are passed at once, to the one behind them or past the end
  pub signing_jumps : (s : S) (place k next : ℕ) (way : List ℕ) → (next ≡ place + k) ⊎ ((length entries ≤ place + k) × (length entries ≤ next))
      → IsSigning s place k way → IsSigning s next 0 way
  signing_jumps s place k next way to is later grows more by = is later grows more (left_behind later place k (drop place entries) more (at to)) where
    same : drop k (drop place entries) ≡ drop (place + k) entries
    same = drop-drop k place entries

    at : (next ≡ place + k) ⊎ ((length entries ≤ place + k) × (length entries ≤ next)) → Left later (place + k) 0 (drop k (drop place entries)) more
    at (inl there) = subst (λ es. Left later (place + k) 0 es more) (sym same) (subst (λ p. Left later p 0 (drop p entries) more) there by)
    at (inr past) =
        let none : Left later next 0 [] more = subst (λ es. Left later next 0 es more) (drop_all next entries past.1) by in
        subst (λ es. Left later (place + k) 0 es more) (sym (same ∙ drop_all (place + k) entries past.0)) none

  -- an entry is noted
  notes_one : (later : S) (place : ℕ) (e : E) (es : List E) (before after more : List ℕ) (b : Bool) → NotesOne constant (tells later) b place e (item e w) before after
      → Left later (suc place) (passed goes_on skip e (item e w)) es more
      → (own : List ℕ) × ((after ≡ before ++ own) × Signs is_test constant (tells later) goes_on skip b place e (own ++ more) (item e w) (λ rest. Left later (suc place) (passed goes_on skip e (item e w)) es rest))
  notes_one later place e es before after more true notes by = (notes.0 ∷ [], (notes.1.0, (notes.1.1, by)))
  notes_one later place e es before after more false notes by = ([], (notes.0 ∙ sym (append-nil before), (notes.1, by)))

  notes_later : (s later : S) (place : ℕ) (e : E) (before after : List ℕ) (b : Bool) → Grows scene has_test tells follows s later → NotesOne constant (tells s) b place e (item e w) before after
      → NotesOne constant (tells later) b place e (item e w) before after
  notes_later s later place e before after true grows notes = (notes.0, (notes.1.0, grows.told place notes.0 (item e w) notes.1.1))
  notes_later s later place e before after false grows notes = notes

  notes_one_more : (s t : S) (place : ℕ) (before after : List ℕ) (e : E) → place < length entries → e ≡ get_or entries place e → Grows scene has_test tells follows s t
      → NotesOne constant (tells t) (is_test e) place e (item e w) before after
      → IsSigning s place 0 before → IsSigning t (suc place) (passed goes_on skip e (item e w)) after
  notes_one_more s t place before after e below at growth notes is later grows more by =
      let one = notes_one later place e (drop (suc place) entries) before after more (is_test e) (notes_later t later place e before after (is_test e) grows notes) by in
      let here : drop place entries ≡ e ∷ drop (suc place) entries = drop-cons entries place e below ∙ ap (λ x. x ∷ drop (suc place) entries) (sym at) in
      let all = is later (grows_then s t later growth grows) (one.0 ++ more) (subst (λ es. Left later place 0 es (one.0 ++ more)) (sym here) one.1.1) in
      subst (λ xs. CameBy is_test constant (tells later) goes_on skip 0 0 entries xs (run item goes_on skip 0 entries w)) (sym (ap (λ xs. xs ++ more) one.1.0 ∙ append_assoc before one.0 more)) all

  pub signing_notes : (s t : S) (place k more : ℕ) (before after : List ℕ) (e : E) (v : W) → place < length entries → k ≡ 0 → e ≡ get_or entries place e → Grows scene has_test tells follows s t → v ≡ w
      → NotesOne constant (tells t) (is_test e) place e (item e v) before after → more ≡ passed goes_on skip e (item e v)
      → IsSigning s place k before → IsSigning t (place + 1) more after
  signing_notes s t place k more before after e v below none at growth same notes passes is =
      let on : place + 1 ≡ suc place = omega arith in
      let here : NotesOne constant (tells t) (is_test e) place e (item e w) before after = subst (λ x. NotesOne constant (tells t) (is_test e) place e (item e x) before after) same notes in
      subst (λ p. IsSigning t p more after) (sym on) (subst (λ n. IsSigning t (suc place) n after) (sym (passes ∙ ap (λ x. passed goes_on skip e (item e x)) same))
      (notes_one_more s t place before after e below at growth here (subst (λ n. IsSigning s place n before) none is)))

  pub signing_ends : (s : S) (place k : ℕ) (way : List ℕ) → length entries ≤ place → IsSigning s place k way → CameBy is_test constant (tells s) goes_on skip 0 0 entries way (run item goes_on skip 0 entries w)
  signing_ends s place k way end is =
      subst (λ xs. CameBy is_test constant (tells s) goes_on skip 0 0 entries xs (run item goes_on skip 0 entries w)) (append-nil way)
      (is s (grows_none s) [] (subst (λ es. Left s place k es []) (sym (drop_all place entries end)) (none k))) where
        none : (k : ℕ) → Left s place k [] []
        none k = (refl, refl)

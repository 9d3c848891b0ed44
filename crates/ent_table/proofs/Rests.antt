-- The cells that an exchange touches are those that read a key that gives another.
use Rattle.std.proofs.Common.{◌≡◌, Bool, true, false, ◌||◌, cond, not, suc, List, [], ◌∷◌, filter, length, map, count_by, refl, sym, ap, subst, ◌∙◌}
use Rattle.std.specs.List.{All, AllByRecursion, list_any}
use Rattle.std.proofs.lemmas.List.Sums.{length-filter}
use Rattle.std.proofs.lemmas.Simd.{map-map}
use Rattle.ent_walk.specs.Answer.{asked, has_cause, looked_up, recorded}
use Rattle.ent_request.specs.Causes.{are_any}
use Rattle.ent_request.specs.Held.{looks_in}
use Rattle.ent_walk.specs.Law.{FindsSame}
use Rattle.ent_request.specs.SameLook.{IsSameLook}
use Rattle.ent_request.specs.Listed.{listed}
use Rattle.ent_request.specs.Looks.{Looks}
use Rattle.ent_request.specs.Noted.{has_key}
use Rattle.ent_request.specs.declared.key.ReadKey.{ReadKey}
use Rattle.ent_request.specs.declared.request.Request.{Request}
use Rattle.ent_walk.proofs.AnswersRest.{answers-rest, findings-rest}
use Rattle.ent_walk.proofs.Finds.{all-find}
use Rattle.ent_request.proofs.Keys.{all_noted, by_recursion}
use Rattle.ent_request.proofs.Lists.{from_recursion}
use Rattle.ent_request.proofs.SameLooks.{same_look-Decides}
use Rattle.ent_cells.specs.Cell.{IsRightBut, Kept, cell_of, is_read, reads_any, renewed}
use Rattle.ent_eval.specs.declared.exchange.Exchange.{Exchange}
use Rattle.ent_eval.specs.declared.exchange.Exchange.TheVariants.{Document, Row, Root, Environment}
use Rattle.ent_table.specs.Counted.{touched, touched_count}
use Rattle.ent_table.specs.proofs_only.Exchange.{with_exchange}
use Rattle.ent_table.specs.Names.{Names, Triple, is_listed, triples}
use Rattle.ent_table.specs.proofs_only.Look.{AreChanged, gives_another}
use Rattle.ent_table.specs.State.{State, fresh_cells}
use Rattle.ent_table.proofs.Bits.{or_left, or_right}
use Rattle.ent_table.proofs.Counts.{own_listed, passing-same}
use Rattle.ent_table.proofs.ReadKeys.{any_agree, any_swapped}

-- ---- what an exchange leaves

not_false : (b : Bool) → not b ≡ false → b ≡ true
not_false true h = refl
not_false false h = cc

same_of : (s t : State) (k : ReadKey) → gives_another s t k ≡ false → IsSameLook (looks_in s.held) (looks_in t.held) k
same_of s t k h = (same_look-Decides (looks_in s.held) (looks_in t.held) k).0 (not_false _ h)

pub names_stay : (s : State) (x : Exchange) → (with_exchange s x).names ≡ s.names
names_stay s (Document number key document) = refl
names_stay s (Row number row values) = refl
names_stay s (Root root) = refl
names_stay s (Environment environment) = refl

-- the cells of the same requests, evaluated afresh, are those of the state afterwards
renewed_are : (s : State) (x : Exchange) → map (renewed (looks_in (with_exchange s x).held)) (fresh_cells s) ≡ fresh_cells (with_exchange s x)
renewed_are s x =
    let t = with_exchange s x in
    map-map (renewed (looks_in t.held)) (cell_of (looks_in s.held)) (triples s.names) ∙ ap (λ (n : Names). map (cell_of (looks_in t.held)) (triples n)) (sym (names_stay s x))

-- where each look-up that is recorded for an answer gives the same, there is a cause if there was one
causes_rest : (s t : Looks) (request : Request) → All (IsSameLook s t) (recorded s request) → has_cause t request ≡ has_cause s request
causes_rest s t request h =
    let looks = (all_noted (IsSameLook s t) [] (looked_up s request) (by_recursion (IsSameLook s t) (recorded s request) h)).1 in
    ap are_any (findings-rest s t request request (from_recursion (FindsSame s request t request) (asked s request) (all-find s t request (asked s request) looks))).1.1

-- ---- the cells of a state, and which of the keys that they read give another for an exchange

module _ (s : State) (x : Exchange) (changed : List ReadKey) (are : AreChanged s x (fresh_cells s) changed) where
  abbrev t : State
  t = with_exchange s x

  abbrev p : ReadKey → Bool
  p = gives_another s t

  abbrev reads : Triple → List ReadKey
  reads w = recorded (looks_in s.held) (listed w.person w.action w.resource)

  -- each key that these cells read is read by the cells of the state
  abbrev AreRead : List Triple → Type 0
  AreRead ws = (k : ReadKey) → is_read (map (cell_of (looks_in s.held)) ws) k ≡ true → is_read (fresh_cells s) k ≡ true

  head_read : (w : Triple) (ws : List Triple) → AreRead (w ∷ ws) → (k : ReadKey) → has_key (reads w) k ≡ true → is_read (fresh_cells s) k ≡ true
  head_read w ws are k h = are k (or_left (has_key (reads w) k) (is_read (map (cell_of (looks_in s.held)) ws) k) h)

  tail_read : (w : Triple) (ws : List Triple) → AreRead (w ∷ ws) → AreRead ws
  tail_read w ws are k h = are k (or_right (has_key (reads w) k) (is_read (map (cell_of (looks_in s.held)) ws) k) h)

  -- a cell reads a changed key where a look-up that it rests on gives another
  rests : (w : Triple) → ((k : ReadKey) → has_key (reads w) k ≡ true → is_read (fresh_cells s) k ≡ true) → reads_any changed (cell_of (looks_in s.held) w) ≡ list_any p (reads w)
  rests w read = any_swapped (reads w) changed ∙ any_agree (has_key changed) p (reads w) (λ k h. are k (read k h))

  all_same : (ks : List ReadKey) → list_any p ks ≡ false → AllByRecursion (IsSameLook (looks_in s.held) (looks_in t.held)) ks
  all_same [] h = tt
  all_same (k ∷ ks) h = by (p k) refl h (all_same ks) where
    by : (b : Bool) → p k ≡ b → (b || list_any p ks) ≡ false → (list_any p ks ≡ false → AllByRecursion (IsSameLook (looks_in s.held) (looks_in t.held)) ks) → AllByRecursion (IsSameLook (looks_in s.held) (looks_in t.held)) (k ∷ ks)
    by true e h rest = absurd (cc)
    by false e h rest = (same_of s t k e, rest h)

  -- a cell that reads none of them is right afterwards
  right : (w : Triple) → ((k : ReadKey) → has_key (reads w) k ≡ true → is_read (fresh_cells s) k ≡ true) → IsRightBut changed (looks_in t.held) (cell_of (looks_in s.held) w)
  right w read none =
      let all = from_recursion _ _ (all_same (reads w) (sym (rests w read) ∙ none)) in
      let same = answers-rest (looks_in s.held) (looks_in t.held) (listed w.person w.action w.resource) all in
      let fails = causes_rest (looks_in s.held) (looks_in t.held) (listed w.person w.action w.resource) all in
      λ i. record { who = w; said = record { answer = sym same.0 i; reads = sym same.1 i; failed = sym fails i } }

  all_right : (ws : List Triple) → AreRead ws → AllByRecursion (IsRightBut changed (looks_in t.held)) (map (cell_of (looks_in s.held)) ws)
  all_right [] are = tt
  all_right (w ∷ ws) are = (right w (head_read w ws are), all_right ws (tail_read w ws are))

  pub cells_right : AllByRecursion (IsRightBut changed (looks_in t.held)) (fresh_cells s)
  cells_right = all_right (triples s.names) (λ k h. h)

  -- ---- how many they are

  one_more : (b c : Bool) (e : Kept) (w : Triple) (es : List Kept) (ws : List Triple) → b ≡ c → length es ≡ length ws → length (cond b (e ∷ es) es) ≡ length (cond c (w ∷ ws) ws)
  one_more true true e w es ws same h = ap suc h
  one_more true false e w es ws same h = absurd (cc)
  one_more false true e w es ws same h = absurd (cc)
  one_more false false e w es ws same h = h

  resting : (ws : List Triple) → AreRead ws → length (filter (reads_any changed) (map (cell_of (looks_in s.held)) ws)) ≡ length (filter (λ w. list_any p (reads w)) ws)
  resting [] are = refl
  resting (w ∷ ws) are =
      one_more (reads_any changed (cell_of (looks_in s.held) w)) (list_any p (reads w)) (cell_of (looks_in s.held) w) w (filter (reads_any changed) (map (cell_of (looks_in s.held)) ws)) (filter (λ v. list_any p (reads v)) ws)
      (rests w (head_read w ws are)) (resting ws (tail_read w ws are))

  touched_is : (w : Triple) → is_listed s.names w ≡ true → list_any p (reads w) ≡ touched s t w
  touched_is w listed_too = sym (ap (λ b. not b || list_any p (reads w)) listed_too)

  pub count_is : count_by (reads_any changed) (fresh_cells s) ≡ touched_count s t
  count_is =
      sym (length-filter (reads_any changed) (fresh_cells s))
      ∙ resting (triples s.names) (λ k h. h)
      ∙ passing-same (is_listed s.names) (λ w. list_any p (reads w)) (touched s t) touched_is (triples s.names) (own_listed s.names)
      ∙ ap (λ (n : Names). length (filter (touched s t) (triples n))) (sym (names_stay s x))

-- ---- the same, where the state is told by an equation

module _ (s t : State) (x : Exchange) (now : t ≡ with_exchange s x) (cells : List Kept) (are : cells ≡ fresh_cells s) where
  module _ (keys : List ReadKey) (changed : AreChanged s x cells keys) where
    abbrev changed_fresh : AreChanged s x (fresh_cells s) keys
    changed_fresh = subst (λ (es : List Kept). AreChanged s x es keys) are changed

    pub right_but : AllByRecursion (IsRightBut keys (looks_in t.held)) cells
    right_but =
        subst (λ (es : List Kept). AllByRecursion (IsRightBut keys (looks_in t.held)) es) (sym are)
        (subst (λ (u : State). AllByRecursion (IsRightBut keys (looks_in u.held)) (fresh_cells s)) (sym now) (cells_right s x keys changed_fresh))

    pub count_touched : count_by (reads_any keys) cells ≡ touched_count s (with_exchange s x)
    count_touched = ap (count_by (reads_any keys)) are ∙ count_is s x keys changed_fresh

  pub all_renewed : map (renewed (looks_in t.held)) cells ≡ fresh_cells (with_exchange s x)
  all_renewed = (λ i. map (renewed (looks_in (now i).held)) (are i)) ∙ renewed_are s x

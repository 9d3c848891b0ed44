-- Members of lists and objects: how many there are, and how deep they nest.
use Rattle.std.proofs.Common.{◌≡◌, ℕ, zero, suc, ◌<◌, ◌≤◌, List, [], ◌∷◌, length, drop, take, decimal, get_or, append_assoc, option_map, string_bytes, unwrap_or, Bool, true, false, ◌++◌, ◌&&◌, ◌==◌, Option, Some, None, ◌⊎◌, inl, inr, String, Global, refl, ap, sym, ◌∙◌, arith, rules}
use Rattle.std.specs.Str.{IsUtf8}
use Rattle.std.specs.Str.Lossy.{utf8_valid_len}
use Rattle.std.proofs.lemmas.Str.{utf8_valid_len-IsUtf8}
use Rattle.serde_json.specs.Data.{Data, Members, boolean, null, number, string, no_items, depth, items_depth, members_depth}
use Rattle.serde_json.specs.Find.{get}
use Rattle.serde_json.specs.View.{items_view, members_view, number_view, view}
use Rattle.serde_json.specs.declared.number.Number.{Number}
use Rattle.serde_json.specs.declared.value.Value.{Value, Null, Bool as Flag, Number as Of, String as Text, the_lemmas}
use Rattle.serde_json.proofs.Views.{Entry, members_len-members_view}
use Rattle.std.proofs.lemmas.List.{drop_all, length-drop, take_all}
use Rattle.script_matching.specs.Matching.{alike, as_many, fits}
use Rattle.script_matching.specs.Places.{below, item_places, member_places, places, unless}
use Rattle.script_matching.specs.Told.{another, needless, nothing}

-- an object has as many members as these
pub as_many_members : (whole : Bool) (es fs : List Entry) (o : Option Members) (n m : ℕ) → whole ≡ true → Some (members_view fs) ≡ o
    → n ≡ length es → m ≡ length fs → (n == m) ≡ as_many whole (members_view es) o
as_many_members true es fs (Some others) n m is found first second =
    let same : members_view fs ≡ others = cc in
    rw (first, second, ← same, members_len-members_view es, members_len-members_view fs) refl
as_many_members true es fs None n m is found first second = absurd cc
as_many_members false es fs o n m is found first second = absurd cc

-- a member of a list nests less deep than its list
pub depth_of_member : (vs : List Value) (i : ℕ) (v : Value) → i < length vs → v ≡ get_or vs i v → depth (view v) ≤ items_depth (items_view vs)
depth_of_member [] i v h is = absurd (omega (arith, h))
depth_of_member (w ∷ vs) zero v h is = let same : view v ≡ view w = ap view is in omega (arith, ap depth same)
depth_of_member (w ∷ vs) (suc i) v h is = let rest : depth (view v) ≤ items_depth (items_view vs) = depth_of_member vs i v (omega (arith, h)) is in omega (arith, rest)

-- what stands at the first key nests no deeper than the members
pub depth_of_first : (es rest : List Entry) (e : Entry) → es ≡ e ∷ rest → depth (view e.1) ≤ members_depth (members_view es)
depth_of_first es rest e is = rw is (omega arith)

and_false : (b : Bool) → (b && false) ≡ false
and_false true = refl
and_false false = refl

-- lists of different lengths are not alike
pub unlike : (vs ws : List Value) → (length vs ≡ length ws → ⊥) → alike (items_view vs) (items_view ws) ≡ false
unlike [] [] h = absurd (h refl)
unlike [] (w ∷ ws) h = refl
unlike (v ∷ vs) [] h = refl
unlike (v ∷ vs) (w ∷ ws) h = ap (λ b. fits true (view v) (view w) && b) (unlike vs ws (λ e. h (ap suc e))) ∙ and_false (fits true (view v) (view w))

-- the first of those from a place on is that at the place
first_left : (vs : List Value) (i : ℕ) (v : Value) → v ≡ get_or vs i v → v ≡ get_or (drop i vs) 0 v
first_left vs zero v is = is
first_left [] (suc i) v is = refl
first_left (w ∷ vs) (suc i) v is = first_left vs i v is

-- what is told where a member is expected and none is left
nothing_by : (place : List ℕ) (n : ℕ) (vs : List Value) (v : Value) → 0 < length vs → v ≡ get_or vs 0 v
    → item_places n place (items_view vs) no_items ≡ nothing (below place (decimal n)) (view v) ∷ []
nothing_by place n [] v some is = absurd (omega (arith, some))
nothing_by place n (w ∷ vs) v some is = ap (λ x. nothing (below place (decimal n)) (view x) ∷ []) (sym is)

-- what is told of a member that is expected past all of a list
pub nothing_past : (place : List ℕ) (vs ws : List Value) (i : ℕ) (v : Value) → i < length vs → v ≡ get_or vs i v → length ws ≤ i
    → item_places i place (items_view (drop i vs)) (items_view (drop i ws)) ≡ nothing (below place (decimal i)) (view v) ∷ []
nothing_past place vs ws i v lt is past =
    let left = length-drop i vs in
    rw (drop_all i ws past) (nothing_by place i (drop i vs) v (omega (arith, left, lt)) (first_left vs i v is))

-- what is told of the first member past all that are expected
needless_by : (place : List ℕ) (n : ℕ) (vs : List Value) (v : Value) → 0 < length vs → v ≡ get_or vs 0 v
    → item_places n place no_items (items_view vs) ≡ needless (below place (decimal n)) (view v) ∷ []
needless_by place n [] v some is = absurd (omega (arith, some))
needless_by place n (w ∷ vs) v some is = ap (λ x. needless (below place (decimal n)) (view x) ∷ []) (sym is)

pub needless_past : (place : List ℕ) (vs : List Value) (i : ℕ) (v : Value) → i < length vs → v ≡ get_or vs i v
    → item_places i place no_items (items_view (drop i vs)) ≡ needless (below place (decimal i)) (view v) ∷ []
needless_past place vs i v lt is = let left = length-drop i vs in needless_by place i (drop i vs) v (omega (arith, left, lt)) (first_left vs i v is)

-- of bytes that are text, all are in their longest front that is
pub whole_front : (bs : List ℕ) → IsUtf8 bs → bs ≡ take (utf8_valid_len bs) bs
whole_front bs text = sym (ap (λ n. take n bs) (utf8_valid_len-IsUtf8 bs text) ∙ take_all (length bs) bs (omega arith))

-- what is told of what stands at a key, and then of what stands at the others
pub members_more : (whole : Bool) (place : List ℕ) (d : Data) (es rest : List Entry) (e : Entry) (key : List ℕ) (now so_far all : List (List ℕ))
    → es ≡ e ∷ rest → key ≡ string_bytes e.0
    → now ≡ so_far ++ unwrap_or (option_map (places whole (below place key) (view e.1)) (get key d)) (nothing (below place key) (view e.1) ∷ [])
    → so_far ++ member_places whole place (members_view es) d ≡ all → now ++ member_places whole place (members_view rest) d ≡ all
members_more whole place d es rest e key now so_far all step is told left =
    let at : List ℕ → List (List ℕ) =
    λ k. unwrap_or (option_map (places whole (below place k) (view e.1)) (get k d)) (nothing (below place k) (view e.1) ∷ []) in
    ap (λ lines. lines ++ member_places whole place (members_view rest) d) (told ∙ ap (λ k. so_far ++ at k) is)
    ∙ append_assoc so_far (at (string_bytes e.0)) (member_places whole place (members_view rest) d)
    ∙ ap (λ entries. so_far ++ member_places whole place (members_view entries) d) (sym step) ∙ left

view-Null : view Null ≡ null
view-Null = search (rules, the_lemmas)

view-Bool : (b : Bool) → view (Flag b) ≡ boolean b
view-Bool b = search (rules, the_lemmas)

view-Number : (n : Number) → view (Of n) ≡ number (number_view n)
view-Number n = search (rules, the_lemmas)

view-String : (s : String Global) → view (Text s) ≡ string (string_bytes s)
view-String s = search (rules, the_lemmas)

-- what is told of a value that is no list and no object
pub plain_places : (whole : Bool) (place : List ℕ) (e : Value) (d : Data)
    → (e ≡ Null) ⊎ (((b : Bool) × (e ≡ Flag b)) ⊎ (((n : Number) × (e ≡ Of n)) ⊎ ((s : String Global) × (e ≡ Text s))))
    → places whole place (view e) d ≡ unless (fits whole (view e) d) (another place (view e) d)
plain_places whole place e d (inl is) = rw (ap view is ∙ view-Null) refl
plain_places whole place e d (inr (inl (b, is))) = rw (ap view is ∙ view-Bool b) refl
plain_places whole place e d (inr (inr (inl (n, is)))) = rw (ap view is ∙ view-Number n) refl
plain_places whole place e d (inr (inr (inr (s, is)))) = rw (ap view is ∙ view-String s) refl

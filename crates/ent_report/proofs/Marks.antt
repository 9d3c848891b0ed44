-- Marks, the oldest of them, and the tables that they stand for.
use Rattle.std.proofs.Common.{◌≡◌, ℕ, ◌+◌, ◌≤◌, ◌<◌, min, max, List, [], ◌∷◌, map, length, drop, get_or, Option, Some, None, arith, refl, sym, ap, ◌∙◌}
use Rattle.std.specs.Prelude.{IfSome, option_map}
use Rattle.std.proofs.lemmas.List.{at_drop_more}
use Rattle.std.proofs.lemmas.List.Elements.{All-cons, All-head, All-nil, All-tail, All-weaker}
use Rattle.ent_report.specs.Desk.{AreMarks}
use Rattle.ent_report.specs.Serials.{oldest}

-- what holds of each mark
abbrev IsMark : ℕ → ℕ → Option ℕ → Type 0
IsMark from serial mark = IfSome mark (λ n. (from ≤ n) × (n ≤ serial))

-- ---- the oldest one

-- it has been reached
pub oldest_reached : (marks : List (Option ℕ)) (serial : ℕ) → oldest marks serial ≤ serial
oldest_reached [] serial = omega arith
oldest_reached (None ∷ marks) serial = oldest_reached marks serial
oldest_reached (Some n ∷ marks) serial = omega (arith, oldest_reached marks serial)

-- its table is known
pub oldest_known : (from serial : ℕ) (marks : List (Option ℕ)) → AreMarks from serial marks → from ≤ serial → from ≤ oldest marks serial
oldest_known from serial [] are within = within
oldest_known from serial (None ∷ marks) are within = oldest_known from serial marks (All-tail (IsMark from serial) None marks are) within
oldest_known from serial (Some n ∷ marks) are within =
    let here = All-head (IsMark from serial) (Some n) marks are in
    omega (arith, here.0, oldest_known from serial marks (All-tail (IsMark from serial) (Some n) marks are) within)

-- what is known from it on is enough for all
pub known_from_oldest : (from serial low : ℕ) (marks : List (Option ℕ)) → AreMarks from serial marks → low ≤ oldest marks serial → AreMarks low serial marks
known_from_oldest from serial low [] are within = All-nil (IsMark low serial)
known_from_oldest from serial low (None ∷ marks) are within =
    All-cons (IsMark low serial) None marks tt (known_from_oldest from serial low marks (All-tail (IsMark from serial) None marks are) within)
known_from_oldest from serial low (Some n ∷ marks) are within =
    let here = All-head (IsMark from serial) (Some n) marks are in
    All-cons (IsMark low serial) (Some n) marks (omega (arith, within), here.1)
    (known_from_oldest from serial low marks (All-tail (IsMark from serial) (Some n) marks are) (omega (arith, within)))

-- they stay marks at a later serial
pub marks_later : (from serial later : ℕ) (marks : List (Option ℕ)) → serial ≤ later → AreMarks from serial marks → AreMarks from later marks
marks_later from serial later marks le are = All-weaker (IsMark from serial) (IsMark from later) by marks are
  where
    by : (mark : Option ℕ) → IsMark from serial mark → IsMark from later mark
    by None h = tt
    by (Some n) h = (h.0, omega (arith, h.1, le))

-- once what is before it is forgotten, it is the least serial whose table is known
pub forgotten_before : (from serial asked found low : ℕ) (marks : List (Option ℕ)) → AreMarks from serial marks → from ≤ serial
    → asked ≡ serial → found ≡ oldest marks asked → low ≡ max found from → low ≡ oldest marks serial
forgotten_before from serial asked found low marks are within same is least =
    let there : found ≡ oldest marks serial = is ∙ ap (oldest marks) same in
    omega (arith, there, least, oldest_known from serial marks are within)

-- ---- how it is found

oldest_lower : (marks : List (Option ℕ)) (n serial : ℕ) → oldest marks (min serial n) ≡ min n (oldest marks serial)
oldest_lower [] n serial = omega arith
oldest_lower (None ∷ marks) n serial = oldest_lower marks n serial
oldest_lower (Some k ∷ marks) n serial = omega (arith, oldest_lower marks n serial)

-- among the marks from a place on, those before it being seen
pub oldest_none : (marks : List (Option ℕ)) (i least : ℕ) → i < length marks → get_or marks i None ≡ None
    → oldest (drop (i + 1) marks) least ≡ oldest (drop i marks) least
oldest_none marks i least within is =
    sym (at_drop_more (λ ms. oldest ms least) marks i None within ∙ ap (λ mark. oldest (mark ∷ drop (i + 1) marks) least) is)

pub oldest_some : (marks : List (Option ℕ)) (i least n : ℕ) → i < length marks → get_or marks i None ≡ Some n
    → oldest (drop (i + 1) marks) (min least n) ≡ oldest (drop i marks) least
oldest_some marks i least n within is =
    oldest_lower (drop (i + 1) marks) n least
    ∙ sym (at_drop_more (λ ms. oldest ms least) marks i None within ∙ ap (λ mark. oldest (mark ∷ drop (i + 1) marks) least) is)

-- ---- their tables

-- two histories that agree where the marks are give them the same tables
pub same_tables : {X : Type 0} (f g : ℕ → X) (from serial : ℕ) (marks : List (Option ℕ)) → AreMarks from serial marks
    → ((n : ℕ) → from ≤ n → n ≤ serial → f n ≡ g n) → map (option_map f) marks ≡ map (option_map g) marks
same_tables f g from serial [] are same = refl
same_tables f g from serial (mark ∷ marks) are same =
    let first = by mark (All-head (IsMark from serial) mark marks are) in
    let rest = same_tables f g from serial marks (All-tail (IsMark from serial) mark marks are) same in
    λ i. first i ∷ rest i
  where
    by : (m : Option ℕ) → IsMark from serial m → option_map f m ≡ option_map g m
    by None h = refl
    by (Some n) h = ap Some (same n h.0 h.1)

-- what is read of each of them, where it is a part of what is made of it
pub read_back : {X : Type 0} (f : ℕ → X) (g : X → ℕ) → ((n : ℕ) → g (f n) ≡ n) → (marks : List (Option ℕ)) → map (option_map g) (map (option_map f) marks) ≡ marks
read_back f g same [] = refl
read_back f g same (None ∷ marks) = ap (λ ms. None ∷ ms) (read_back f g same marks)
read_back f g same (Some n ∷ marks) = λ i. Some (same n i) ∷ read_back f g same marks i

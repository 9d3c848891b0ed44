-- Entries whose serials don't fall, and those of them from a serial on.
use Rattle.std.proofs.Common.{◌≡◌, ℕ, ◌<◌, ◌≤◌, List, [], ◌∷◌, ◌++◌, Bool, true, false, cond, nat_le, drop}
use Rattle.std.proofs.Common.{arith, refl, sym, ◌∙◌}
use Rattle.std.proofs.lemmas.Bool.{and_parts, and_from, leb-true, leb-false, le-leb, lt-leb, cond-true, cond-false}
use Rattle.ent_log.specs.Entries.{entries_since, is_in_order}
use Rattle.ent_log.specs.declared.entry.Logged.{Logged}

-- the first bound is at most the last
pub low-le-high : {K A : Type 0} (low : ℕ) (es : List (Logged K A)) (high : ℕ) → is_in_order low es high ≡ true → low ≤ high
low-le-high low [] high h = leb-true low high h
low-le-high low (e ∷ es) high h =
    let parts = and_parts (nat_le low e.serial) (is_in_order e.serial es high) h in
    let first = leb-true low e.serial parts.0 in
    let rest = low-le-high e.serial es high parts.1 in
    omega arith

-- past the last bound there is no entry
pub entries_since-past : {K A : Type 0} (low : ℕ) (es : List (Logged K A)) (high n : ℕ) → is_in_order low es high ≡ true → high < n
    → entries_since n es ≡ []
entries_since-past low [] high n h above = refl
entries_since-past low (e ∷ es) high n h above =
    let parts = and_parts (nat_le low e.serial) (is_in_order e.serial es high) h in
    let rest = low-le-high e.serial es high parts.1 in
    cond-false (nat_le n e.serial) (e ∷ es) (entries_since n es) (lt-leb n e.serial (omega arith))
    ∙ entries_since-past e.serial es high n parts.1 above

-- from the first bound on, or from below it, there are all entries
pub entries_since-low : {K A : Type 0} (low : ℕ) (es : List (Logged K A)) (high n : ℕ) → is_in_order low es high ≡ true → n ≤ low
    → entries_since n es ≡ es
entries_since-low low [] high n h below = refl
entries_since-low low (e ∷ es) high n h below =
    let parts = and_parts (nat_le low e.serial) (is_in_order e.serial es high) h in
    let first = leb-true low e.serial parts.0 in
    cond-true (nat_le n e.serial) (e ∷ es) (entries_since n es) (le-leb n e.serial (omega arith))

-- a later last bound
pub in_order-raise : {K A : Type 0} (low : ℕ) (es : List (Logged K A)) (high top : ℕ) → is_in_order low es high ≡ true → high ≤ top
    → is_in_order low es top ≡ true
in_order-raise low [] high top h le = let first = leb-true low high h in le-leb low top (omega arith)
in_order-raise low (e ∷ es) high top h le =
    let parts = and_parts (nat_le low e.serial) (is_in_order e.serial es high) h in
    and_from (nat_le low e.serial) (is_in_order e.serial es top) parts.0 (in_order-raise e.serial es high top parts.1 le)

-- an earlier first bound
pub in_order-lower : {K A : Type 0} (low : ℕ) (es : List (Logged K A)) (high base : ℕ) → is_in_order low es high ≡ true → base ≤ low
    → is_in_order base es high ≡ true
in_order-lower low [] high base h le = let first = leb-true low high h in le-leb base high (omega arith)
in_order-lower low (e ∷ es) high base h le =
    let parts = and_parts (nat_le low e.serial) (is_in_order e.serial es high) h in
    let first = leb-true low e.serial parts.0 in
    and_from (nat_le base e.serial) (is_in_order e.serial es high) (le-leb base e.serial (omega arith)) parts.1

-- without the first entry
pub in_order-tail : {K A : Type 0} (low : ℕ) (e : Logged K A) (es : List (Logged K A)) (high : ℕ) → is_in_order low (e ∷ es) high ≡ true
    → is_in_order low es high ≡ true
in_order-tail low e es high h =
    let parts = and_parts (nat_le low e.serial) (is_in_order e.serial es high) h in
    let first = leb-true low e.serial parts.0 in
    in_order-lower e.serial es high low parts.1 (omega arith)

pub in_order-drop : {K A : Type 0} (low : ℕ) (es : List (Logged K A)) (high : ℕ) → is_in_order low es high ≡ true
    → is_in_order low (drop 1 es) high ≡ true
in_order-drop low [] high h = h
in_order-drop low (e ∷ es) high h = in_order-tail low e es high h

-- with one more entry, at the last bound
pub in_order-push : {K A : Type 0} (low : ℕ) (es : List (Logged K A)) (e : Logged K A) → is_in_order low es e.serial ≡ true
    → is_in_order low (es ++ e ∷ []) e.serial ≡ true
in_order-push low [] e h = and_from (nat_le low e.serial) (nat_le e.serial e.serial) h (le-leb e.serial e.serial (omega arith))
in_order-push low (x ∷ es) e h =
    let parts = and_parts (nat_le low x.serial) (is_in_order x.serial es e.serial) h in
    and_from (nat_le low x.serial) (is_in_order x.serial (es ++ e ∷ []) e.serial) parts.0 (in_order-push x.serial es e parts.1)

-- an entry put last, with no lower serial
pub entries_since-push : {K A : Type 0} (n : ℕ) (es : List (Logged K A)) (e : Logged K A) → n ≤ e.serial
    → entries_since n (es ++ e ∷ []) ≡ entries_since n es ++ e ∷ []
entries_since-push n [] e le = cond-true (nat_le n e.serial) (e ∷ []) [] (le-leb n e.serial le)
entries_since-push n (x ∷ es) e le =
    elim (nat_le n x.serial) as (λ b.
    cond b (x ∷ (es ++ e ∷ [])) (entries_since n (es ++ e ∷ [])) ≡ cond b (x ∷ es) (entries_since n es) ++ e ∷ []) [
      | true ↦ refl
      | false ↦ entries_since-push n es e le
    ]

-- those from a serial on, of those from an earlier one on
pub entries_since-twice : {K A : Type 0} (n m : ℕ) (es : List (Logged K A)) → n ≤ m
    → entries_since m (entries_since n es) ≡ entries_since m es
entries_since-twice n m [] le = refl
entries_since-twice n m (x ∷ es) le = by (entries_since-twice n m es le) (nat_le n x.serial) refl
  where
    by : entries_since m (entries_since n es) ≡ entries_since m es → (b : Bool) → nat_le n x.serial ≡ b
        → entries_since m (cond b (x ∷ es) (entries_since n es)) ≡ entries_since m (x ∷ es)
    by later true is = refl
    by later false is =
        let below = leb-false n x.serial is in
        later ∙ sym (cond-false (nat_le m x.serial) (x ∷ es) (entries_since m es) (lt-leb m x.serial (omega arith)))

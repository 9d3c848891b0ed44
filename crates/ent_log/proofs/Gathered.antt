-- The old answers, gathered from the newest entry back to a serial.
use Rattle.std.proofs.Common.{◌≡◌, ℕ, zero, suc, ◌<◌, ◌≤◌, List, [], ◌∷◌, true, nat_le, drop, length, get_or}
use Rattle.std.proofs.Common.{arith, sym, ◌∙◌, subst}
use Rattle.std.proofs.lemmas.Bool.{and_parts, leb-true, lt-leb, cond-false}
use Rattle.ent_log.specs.Entries.{entries_since, is_in_order}
use Rattle.ent_log.specs.declared.entry.Logged.{Logged}

-- each entry is at the first bound or later
pub low-le-at : {K A : Type 0} (low : ℕ) (es : List (Logged K A)) (high i : ℕ) (x : Logged K A) → is_in_order low es high ≡ true
    → i < length es → x ≡ get_or es i x → low ≤ x.serial
low-le-at low [] high i x h within is = absurd (omega arith)
low-le-at low (e ∷ es) high zero x h within is =
    let parts = and_parts (nat_le low e.serial) (is_in_order e.serial es high) h in
    subst (λ y. low ≤ y.serial) (sym is) (leb-true low e.serial parts.0)
low-le-at low (e ∷ es) high (suc i) x h within is =
    let parts = and_parts (nat_le low e.serial) (is_in_order e.serial es high) h in
    let first = leb-true low e.serial parts.0 in
    let rest = low-le-at e.serial es high i x parts.1 (omega arith) is in
    omega arith

-- where the entry at a place is before the serial, so are those in front of it
pub entries_since-skip : {K A : Type 0} (n low : ℕ) (es : List (Logged K A)) (high i : ℕ) (x : Logged K A)
    → is_in_order low es high ≡ true → i < length es → x ≡ get_or es i x → x.serial < n
    → entries_since n es ≡ entries_since n (drop (suc i) es)
entries_since-skip n low [] high i x h within is before = absurd (omega arith)
entries_since-skip n low (e ∷ es) high zero x h within is before =
    let below = subst (λ y. y.serial < n) is before in
    cond-false (nat_le n e.serial) (e ∷ es) (entries_since n es) (lt-leb n e.serial below)
entries_since-skip n low (e ∷ es) high (suc i) x h within is before =
    let parts = and_parts (nat_le low e.serial) (is_in_order e.serial es high) h in
    let later = low-le-at e.serial es high i x parts.1 (omega arith) is in
    let below : e.serial < n = omega arith in
    cond-false (nat_le n e.serial) (e ∷ es) (entries_since n es) (lt-leb n e.serial below)
    ∙ entries_since-skip n e.serial es high i x parts.1 (omega arith) is before

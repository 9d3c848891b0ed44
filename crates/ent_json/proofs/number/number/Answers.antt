use Rattle.std.proofs.Common.{◌≡◌, ℕ, ◌≤◌, List, length, take, drop, get_or, true, false, ◌==◌, refl, sym, ap, ◌∙◌, arith, take_all, length-drop}
use Rattle.fast_float.specs.Text.{scan}
use Rattle.serde_json.specs.Read.{number_of, number_from}
use Rattle.ent_json.proofs.number.number.Goals as goal

with_minus : (s : List ℕ) (n : ℕ) → (get_or s 0 0 == 45) ≡ true → length (drop 1 s) ≤ n → number_from true (scan (take n (drop 1 s))) ≡ number_of s
unfolding number_of
with_minus s n e h = ap (λ t. number_from true (scan t)) (take_all n (drop 1 s) h) ∙ rw e refl

with_none : (s : List ℕ) → (get_or s 0 0 == 45) ≡ false → number_from false (scan s) ≡ number_of s
unfolding number_of
with_none s e = rw e refl

pub returns-then-has_minus : goal.returns-then-has_minus
returns-then-has_minus c =
    let s = c.as_bytes-bytes.result.now in
    let read = with_minus s _ (sym c.if-has_minus.ensures.value) (omega (arith, length-drop 1 s)) in
    c.below_zero.ensures ∙ ap (number_from true) c.scan.ensures.parts ∙ read ∙ ap number_of c.as_bytes-bytes.ensures.value

pub returns-else-has_minus : goal.returns-else-has_minus
returns-else-has_minus c =
    let s = c.as_bytes-bytes.result.now in
    let read = with_none s (sym c.if-has_minus.ensures.value) in
    c.without_sign.ensures ∙ ap (number_from false) c.scan-else-has_minus.ensures.parts ∙ read ∙ ap number_of c.as_bytes-bytes.ensures.value

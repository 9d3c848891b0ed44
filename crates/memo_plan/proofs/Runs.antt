-- Segments of tests.
use Rattle.std.proofs.Common.{◌≡◌, ℕ, Bool, true, false, List, [], ◌∷◌, ◌++◌, length, refl, sym, ap, ◌∙◌}
use Rattle.std.specs.Prelude.{if◌then◌else◌}
use Rattle.std.proofs.lemmas.List.{append_assoc}
use Rattle.memo_plan.specs.Run.{IsSegment, run}

module _ {E W C : Type 0} (item : E → W → C) (goes_on : E → C → Bool) (skip : E → ℕ) where
  -- all of a list are passed
  pub run_passes : (es more : List E) (w : W) → run item goes_on skip (length es) (es ++ more) w ≡ run item goes_on skip 0 more w
  run_passes [] more w = refl
  run_passes (e ∷ es) more w = run_passes es more w

  -- a test behind which all of a segment is passed where it doesn't go on
  pub segment_below : (fits : W → Type 0) (e : E) (es : List E) (f : W → List C) → skip e ≡ length es → IsSegment item goes_on skip fits es f
      → IsSegment item goes_on skip fits (e ∷ es) (λ w. item e w ∷ (if goes_on e (item e w) then f w else []))
  segment_below fits e es f is below w fit more = ap (λ cs. item e w ∷ cs) (at (goes_on e (item e w))) where
    at : (b : Bool) → run item goes_on skip (if b then 0 else skip e) (es ++ more) w ≡ (if b then f w else []) ++ run item goes_on skip 0 more w
    at true = below w fit more
    at false = ap (λ k. run item goes_on skip k (es ++ more) w) is ∙ run_passes es more w

  -- one that passes nothing
  pub segment_one : (fits : W → Type 0) (e : E) → skip e ≡ 0 → IsSegment item goes_on skip fits (e ∷ []) (λ w. item e w ∷ [])
  segment_one fits e none w fit more = ap (λ cs. item e w ∷ cs) (ap (λ k. run item goes_on skip k more w) (at (goes_on e (item e w)))) where
    at : (b : Bool) → (if b then 0 else skip e) ≡ 0
    at true = refl
    at false = none

  pub segment_none : (fits : W → Type 0) → IsSegment item goes_on skip fits [] (λ w. [])
  segment_none fits w fit more = refl

  -- the same under fewer worlds, and of equal lists
  pub segment_by : (fits gives : W → Type 0) (es : List E) (f g : W → List C) → ((w : W) → gives w → fits w) → ((w : W) → gives w → f w ≡ g w) → IsSegment item goes_on skip fits es f → IsSegment item goes_on skip gives es g
  segment_by fits gives es f g weaker same is w fit more = is w (weaker w fit) more ∙ ap (λ cs. cs ++ run item goes_on skip 0 more w) (same w fit)

  pub segment_then : (fits : W → Type 0) (es ds : List E) (f g : W → List C) → IsSegment item goes_on skip fits es f → IsSegment item goes_on skip fits ds g → IsSegment item goes_on skip fits (es ++ ds) (λ w. f w ++ g w)
  segment_then fits es ds f g first second w fit more =
      ap (λ zs. run item goes_on skip 0 zs w) (append_assoc es ds more) ∙ first w fit (ds ++ more) ∙ ap (λ cs. f w ++ cs) (second w fit more) ∙ sym (append_assoc (f w) (g w) (run item goes_on skip 0 more w))

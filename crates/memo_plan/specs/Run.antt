-- What comes of tests that stand in a list, each of which says how many behind it are passed where it doesn't go on.
use Rattle.std.specs.Prelude.{◌≡◌, ℕ, zero, suc, Bool, true, false, List, [], ◌∷◌, ◌++◌, if◌then◌else◌}

-- how many are passed behind one
abbrev pub passed : {E C : Type 0} → (E → C → Bool) → (E → ℕ) → E → C → ℕ
passed goes_on skip e c = if goes_on e c then 0 else skip e

module _ {E W C : Type 0} (item : E → W → C) (goes_on : E → C → Bool) (skip : E → ℕ) where
  -- what comes of tests in one world, where so many are passed first
  abbrev pub run : ℕ → List E → W → List C
  run k [] w = []
  run zero (e ∷ es) w = item e w ∷ run (passed goes_on skip e (item e w)) es w
  run (suc k) (e ∷ es) w = run k es w

  -- tests list this, whatever stands behind them
  abbrev pub IsSegment : (W → Type 0) → List E → (W → List C) → Type 0
  IsSegment fits es f = (w : W) → fits w → (more : List E) → run 0 (es ++ more) w ≡ f w ++ run 0 more w

module _ {E C : Type 0} (is_test : E → Bool) (constant : E → C) (tells : ℕ → ℕ → C → Type 0) (goes_on : E → C → Bool) (skip : E → ℕ) where
  -- the first of a way's numbers tells this of the test at a place; of what is no test none does
  abbrev pub Signs : Bool → ℕ → E → List ℕ → C → (List ℕ → Type 0) → Type 0
  Signs true place e [] c rest = ⊥
  Signs true place e (n ∷ way) c rest = tells place n c × rest way
  Signs false place e way c rest = (c ≡ constant e) × rest way

  -- a way tells what comes of tests from a place on, of which so many are passed first: a number for each that is tested
  abbrev pub CameBy : ℕ → ℕ → List E → List ℕ → List C → Type 0
  CameBy place k [] way cs = (way ≡ []) × (cs ≡ [])
  CameBy place zero (e ∷ es) way [] = ⊥
  CameBy place zero (e ∷ es) way (c ∷ cs) = Signs (is_test e) place e way c (λ rest. CameBy (suc place) (passed goes_on skip e c) es rest cs)
  CameBy place (suc k) (e ∷ es) way cs = CameBy (suc place) k es way cs

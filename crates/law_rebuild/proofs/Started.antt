-- A state in which nothing was ever held.
use Rattle.std.proofs.Common.{◌≡◌, ℕ, zero, suc, List, ◌∷◌, refl, ap}
use Rattle.std.specs.Prelude.{map, replicate}
use Rattle.std.specs.FinMap.{empty}
use Rattle.ent_finder.specs.Rows.{Source}
use Rattle.ent_finder.specs.Slots.{Docs}
use Rattle.ent_table.specs.declared.limits.Limits.{Limits}
use Rattle.law_rebuild.specs.Rebuilding.{emptied, emptied_modules, emptied_source, new_state}

-- it is as it is emptied
pub emptied_new : (policies attributes : ℕ) (categories : List (List ℕ)) (limits : Limits)
    → emptied (new_state policies attributes categories limits) ≡ new_state policies attributes categories limits
emptied_new policies attributes categories limits =
    λ i. record (new_state policies attributes categories limits) {
      held = record
          (new_state policies attributes categories limits).held { modules = no_modules policies i; sources = no_sources attributes i };
    }
  where
    no_modules : (n : ℕ) → emptied_modules (replicate n empty) ≡ replicate n empty
    no_modules zero = refl
    no_modules (suc n) = ap (λ (l : List Docs). empty ∷ l) (no_modules n)

    bare : Source
    bare = record { categories = categories; rows = empty }

    no_sources : (n : ℕ) → map emptied_source (replicate n bare) ≡ replicate n bare
    no_sources zero = refl
    no_sources (suc n) = ap (λ (l : List Source). bare ∷ l) (no_sources n)

-- Variables and their definitions.
use Rattle.std.proofs.Common.{◌≡◌, ℕ, zero, suc, ◌+◌, ◌*◌, ◌-◌, ◌<◌, ◌≤◌, max, Bool, true, false, List, [], ◌∷◌, refl, sym, ap, ◌∙◌, subst, suc-mul, arith, Option, Some, None}
use Rattle.std.specs.Prelude.{bytes_eq, if◌then◌else◌, IsSome}
use Rattle.ent_functions.specs.declared.types.ArgType.{ArgType}
use Rattle.ent_functions.specs.declared.types.ArgType.TheVariants.{One, Many, Fun}
use Rattle.ent_policy.specs.declared.expression.Expression.{size-Expression}
use Rattle.ent_policy.specs.declared.expression.VariableDefinition.{VariableDefinition}
use Rattle.ent_policy.specs.Typing.{held, variable_type}
use Rattle.ent_policy.specs.Typing as typing
use Rattle.ent_policy.specs.Variables.{defined, definition_of}
use Rattle.ent_request.specs.declared.request.Request.{Request}
use Rattle.ent_walk.specs.Expression.{meaning, variable_part}
use Rattle.ent_request.specs.Looks.{Looks}
use Rattle.ent_walk.specs.proofs_only.Typed.{deepest, type_of, worth}

held_some : (t : Option ArgType) → IsSome (held t) → held t ≡ t
held_some None some = refl
held_some (Some (One t)) some = refl
held_some (Some (Many t)) some = refl
held_some (Some (Fun f)) some = absurd (cc)

module _ (definitions : List VariableDefinition) (n : ℕ) (id : List ℕ) where
  -- a variable with a type has a reference left
  pub has_reference : IsSome (variable_type definitions n id) → 0 < n
  has_reference = at n where
    at : (m : ℕ) → IsSome (variable_type definitions m id) → 0 < m
    at zero some = absurd (cc)
    at (suc m) some = omega arith

  module _ (d : VariableDefinition) (found : definition_of definitions id ≡ Some d) where
    -- whose type it has
    pub definition_type : IsSome (variable_type definitions n id) → variable_type definitions n id ≡ type_of definitions (n - 1) d.expression
    definition_type = at n where
      at : (m : ℕ) → IsSome (variable_type definitions m id) → variable_type definitions m id ≡ type_of definitions (m - 1) d.expression
      at zero some = absurd (cc)
      at (suc m) some =
          let e : suc m - 1 ≡ m = omega arith in
          let out : variable_type definitions (suc m) id ≡ held (type_of definitions m d.expression) = ap (defined (typing.definition_type (variable_type definitions m)) None) found in
          out ∙ held_some (type_of definitions m d.expression) (subst IsSome out some) ∙ ap (λ k. type_of definitions k d.expression) (sym e)

    -- and what it comes to
    pub definition_part : (looks : Looks) (request : Request) → 0 < n → variable_part looks request definitions n id ≡ meaning looks request definitions (n - 1) d.expression
    definition_part looks request = at n where
      at : (m : ℕ) → 0 < m → variable_part looks request definitions m id ≡ meaning looks request definitions (m - 1) d.expression
      at zero below = absurd (omega (arith, below))
      at (suc m) below = let e : suc m - 1 ≡ m = omega arith in rw (found, e) refl

    within : size-Expression d.expression ≤ deepest definitions
    within = at definitions found where
      at : (ds : List VariableDefinition) → definition_of ds id ≡ Some d → size-Expression d.expression ≤ deepest ds
      at [] h = absurd (cc)
      at (e ∷ ds) h = step (bytes_eq e.id id) e ds (at ds) h where
        step : (b : Bool) (e : VariableDefinition) (ds : List VariableDefinition) → (definition_of ds id ≡ Some d → size-Expression d.expression ≤ deepest ds) → (if b then Some e else definition_of ds id) ≡ Some d
            → size-Expression d.expression ≤ max (size-Expression e.expression) (deepest ds)
        step true e ds later h = let same : e ≡ d = cc in subst (λ (x : VariableDefinition). size-Expression x.expression ≤ max (size-Expression e.expression) (deepest ds)) same (omega arith)
        step false e ds later h = omega (arith, later h)

    -- one reference less is worth more than any definition is deep
    pub worth-falls : 0 < n → (n - 1) * worth definitions + 4 * size-Expression d.expression + 1 < n * worth definitions
    worth-falls = at n where
      fits : (h w s deep : ℕ) → w ≡ 4 * deep + 8 → s ≤ deep → h * w + 4 * s + 1 < suc h * w
      fits h w s deep is below = omega (arith, suc-mul h w)

      at : (m : ℕ) → 0 < m → (m - 1) * worth definitions + 4 * size-Expression d.expression + 1 < m * worth definitions
      at zero below = absurd (omega (arith, below))
      at (suc m) below = let e : suc m - 1 ≡ m = omega arith in rw e (fits m (worth definitions) (size-Expression d.expression) (deepest definitions) refl within)

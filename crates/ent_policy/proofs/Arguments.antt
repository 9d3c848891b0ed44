-- What is measured of arguments, one after another.
use Rattle.std.proofs.Common.{◌≡◌, ℕ, ◌+◌, ◌<◌, List, [], ◌∷◌, ◌++◌, length, map, take, get_or, max, min, Bool, true, false, cond, Option, Some, None, option_and_then, option_map, refl, ap, arith}
use Rattle.std.proofs.lemmas.List.{map_more}
use Rattle.std.proofs.lemmas.List.Sums.{sum_by_push}
use Rattle.ent_functions.specs.declared.types.ArgType.{ArgType}
use Rattle.ent_policy.specs.declared.expression.Expression.{Expression}
use Rattle.ent_policy.specs.Depths.{depth_with, greatest}
use Rattle.ent_policy.specs.declared.measure.Measured.{Measured}
use Rattle.ent_policy.specs.proofs_only.Measure.{AreMeasured, measured_with}
use Rattle.ent_policy.specs.Sizes.{nodes_with}
use Rattle.ent_policy.specs.Typing.{all_typed, type_with}

greatest_push : (ns : List ℕ) (n : ℕ) → greatest (ns ++ n ∷ []) ≡ max n (greatest ns)
greatest_push [] n = omega arith
greatest_push (m ∷ ns) n = rw (greatest_push ns n) (omega arith)

-- the greatest of one number more, up to a limit
pub greatest_more : {X : Type 0} (limit : ℕ) (f : X → ℕ) (xs : List X) (i : ℕ) (x : X) (m v n : ℕ) → i < length xs → x ≡ get_or xs i x → m ≡ min limit (greatest (map f (take i xs))) → v ≡ min limit (f x) → n ≡ max v m → n ≡ min limit (greatest (map f (take (i + 1) xs)))
greatest_more limit f xs i x m v n lt here sofar is e = rw (map_more f xs i x lt, ← here, greatest_push (map f (take i xs)) (f x)) (cut limit (greatest (map f (take i xs))) (f x) m v n sofar is e)
  where
    cut : (l g a m v n : ℕ) → m ≡ min l g → v ≡ min l a → n ≡ max v m → n ≡ min l (max a g)
    cut l g a m v n e f h = omega arith

-- a type more, if there is one
abbrev pub with_type : Option ArgType → Option (List ArgType) → Option (List ArgType)
with_type o types = option_and_then (λ ts. option_map (λ t. ts ++ t ∷ []) o) types

all_typed_push : (os : List (Option ArgType)) (o : Option ArgType) → all_typed (os ++ o ∷ []) ≡ with_type o (all_typed os)
all_typed_push [] None = refl
all_typed_push [] (Some t) = refl
all_typed_push (None ∷ os) o = refl
all_typed_push (Some t ∷ os) o = rw (all_typed_push os o) (first (all_typed os) o)
  where
    first : (a : Option (List ArgType)) (o : Option ArgType) → option_map (λ ts. t ∷ ts) (with_type o a) ≡ with_type o (option_map (λ ts. t ∷ ts) a)
    first None o = refl
    first (Some ts) None = refl
    first (Some ts) (Some u) = refl

pub with_some : (typed more : Bool) (types all : List ArgType) (o : Option ArgType) (t : ArgType) → more ≡ typed → all ≡ types ++ t ∷ [] → o ≡ Some t → cond more (Some all) None ≡ with_type o (cond typed (Some types) None)
with_some true more types all o t e f g = rw (e, f, g) refl
with_some false more types all o t e f g = rw e refl

pub with_none : (typed more : Bool) (types all : List ArgType) (o : Option ArgType) → more ≡ false → o ≡ None → cond more (Some all) None ≡ with_type o (cond typed (Some types) None)
with_none true more types all o e f = rw (e, f) refl
with_none false more types all o e f = rw e refl

-- an argument more
pub measured_more : (refer : List ℕ → Measured) (es : List Expression) (i : ℕ) (e : Expression) (one : Measured) (n d m k : ℕ) (ts us : Option (List ArgType)) → i < length es → e ≡ get_or es i e → one ≡ measured_with refer e
    → m ≡ min 65537 (n + one.nodes) → k ≡ max one.depth d → us ≡ with_type one.datatype ts → AreMeasured refer (take i es) n d ts → AreMeasured refer (take (i + 1) es) m k us
measured_more refer es i e one n d m k ts us lt here is more deep types sofar =
    let nodes : List ℕ → ℕ = λ id. (refer id).nodes in
    let depth : List ℕ → ℕ = λ id. (refer id).depth in
    let type : List ℕ → Option ArgType = λ id. (refer id).datatype in
    record {
      counted = rw (map_more (nodes_with nodes) es i e lt, ← here, sum_by_push (λ n. n) (map (nodes_with nodes) (take i es)) (nodes_with nodes e)) (omega (arith, more, sofar.counted, ap (λ m. m.nodes) is));
      deepest = greatest_more 17 (depth_with depth) es i e d one.depth k lt here sofar.deepest (ap (λ m. m.depth) is) deep;
      typed = rw (map_more (type_with type) es i e lt, ← here, all_typed_push (map (type_with type) (take i es)) (type_with type e), types, sofar.typed, is) refl;
    }

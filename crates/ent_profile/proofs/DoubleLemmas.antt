-- A walk over categories that looks for each among those behind it.
use Rattle.std.proofs.Common.{◌≡◌, ℕ, ◌-◌, ◌≤◌, List, [], ◌∷◌, map, length, get_or, take, drop, Bool, true, false, ◌||◌, bytes_eq, refl, sym, ap, ◌∙◌, arith}
use Rattle.std.proofs.Math.Seq.{take-length}
use Rattle.std.specs.List.{list_any}
use Rattle.ent_policy.specs.Limits.{has_double}
use Rattle.ent_request.specs.declared.request.Category.{Category}
use Rattle.ent_profile.proofs.ReadLemmas.{any_seen}

-- all but the first
abbrev behind : List Category → List Category
behind cs = take (length cs - 1) (drop 1 cs)

all_behind : (c : Category) (cs : List Category) → behind (c ∷ cs) ≡ cs
all_behind c cs =
    let n : length (c ∷ cs) - 1 ≡ length cs = omega arith in
    rw n (take-length cs)

walk : (cs : List Category) (c : Category) (name : List ℕ) (b : Bool) → 1 ≤ length cs → c ≡ get_or cs 0 c → name ≡ c.id → b ≡ list_any (λ d. bytes_eq name d.id) (behind cs)
    → has_double (map (λ d. d.id) cs) ≡ (b || has_double (map (λ d. d.id) (behind cs)))
walk [] c name b some here named among = absurd (omega arith)
walk (x ∷ xs) c name b some here named among = rw (among, named, here, all_behind x xs, any_seen (bytes_eq x.id) (λ d. d.id) xs) refl

pub stands_twice : (cs : List Category) (c : Category) (name : List ℕ) (b total : Bool) → 1 ≤ length cs → c ≡ get_or cs 0 c → name ≡ c.id → b ≡ list_any (λ d. bytes_eq name d.id) (behind cs)
    → b ≡ true → has_double (map (λ d. d.id) cs) ≡ total → true ≡ total
stands_twice cs c name b total some here named among seen so_far = sym (ap (λ s. s || has_double (map (λ d. d.id) (behind cs))) seen) ∙ sym (walk cs c name b some here named among) ∙ so_far

pub stands_once : (cs : List Category) (c : Category) (name : List ℕ) (b total : Bool) → 1 ≤ length cs → c ≡ get_or cs 0 c → name ≡ c.id → b ≡ list_any (λ d. bytes_eq name d.id) (behind cs)
    → b ≡ false → has_double (map (λ d. d.id) cs) ≡ total → has_double (map (λ d. d.id) (behind cs)) ≡ total
stands_once cs c name b total some here named among unseen so_far = sym (ap (λ s. s || has_double (map (λ d. d.id) (behind cs))) unseen) ∙ sym (walk cs c name b some here named among) ∙ so_far

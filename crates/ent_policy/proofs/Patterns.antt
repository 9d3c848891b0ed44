-- Reading a pattern, walking a version beside one, and that `==` of patterns decides whether they are equal.
use Rattle.std.proofs.Common.{◌≡◌, ℕ, suc, ◌-◌, ◌==◌, ◌≤◌, List, [], ◌∷◌, length, take, drop, min, Bool, true, false, not, cond, ◌&&◌, bytes_eq, codes, Option, Some, None, option_and_then, option_map, refl, sym, ap, ◌∙◌, arith, rules}
use Rattle.std.specs.Bool.{Decides}
use Rattle.std.specs.Cmp.Lexicographic.{pointwise_decides}
use Rattle.std.specs.List.{list_all}
use Rattle.std.specs.Ordering.{nat_cmp}
use Rattle.std.proofs.lemmas.Bool.Decides.{nat_tests}
use Rattle.ent_policy.proofs.Dotted.{dotted_kept}
use Rattle.ent_policy.proofs.Numbers.{number_small}
use Rattle.ent_values.proofs.Telling.{decided, decides, last, maybe, more, struct}
use Rattle.ent_policy.specs.Patterns.{beside, ending_right, is_more, is_part, is_pattern, matches, more_is_last, part_of, pattern_of}
use Rattle.ent_policy.specs.Versions.{dotted_of, number_of}
use Rattle.ent_policy.specs.Same.{same_constraints}
use Rattle.ent_policy.specs.contracts.pattern.PatternPartPartialEq.TheImpl as parts
use Rattle.ent_policy.specs.contracts.pattern.VersionConstraints as constraint
use Rattle.ent_policy.specs.contracts.pattern.VersionConstraintsEq.TheImpl.Laws as equivalence
use Rattle.ent_policy.specs.contracts.pattern.VersionMatchPartialEq.TheImpl as patterns
use Rattle.ent_policy.specs.declared.pattern.VersionConstraints.{VersionConstraints}
use Rattle.ent_policy.specs.declared.pattern.PatternPart.{PatternPart}
use Rattle.ent_policy.specs.declared.pattern.PatternPart.TheVariants.{Number, Any, More}

-- ---- reading

-- the parts in front of the last one
pub front_only : (parts : List PatternPart) → 1 ≤ length parts → list_all (λ p. not (is_more p)) (take (length parts - 1) parts) ≡ more_is_last parts
front_only [] h = absurd (omega arith)
front_only (p ∷ []) h = refl
front_only (p ∷ q ∷ parts) h =
    let before : length (p ∷ q ∷ parts) - 1 ≡ suc (length (q ∷ parts) - 1) = omega arith in
    rw before (ap (λ b. not (is_more p) && b) (front_only (q ∷ parts) (omega arith)))

-- what isn't read
pub not_dotted : (text : List ℕ) → dotted_of part_of text ≡ None → None ≡ pattern_of text
unfolding pattern_of
not_dotted text h = rw h refl

pub more_inside : (text : List ℕ) (parts : List PatternPart) → dotted_of part_of text ≡ Some parts → more_is_last parts ≡ false → None ≡ pattern_of text
unfolding pattern_of
more_inside text parts h last = rw (h, last) refl

-- what is read
pub ends_right : (text : List ℕ) (parts : List PatternPart) → dotted_of part_of text ≡ Some parts → more_is_last parts ≡ true → Some parts ≡ pattern_of text
unfolding pattern_of
ends_right text parts h last = rw (h, last) refl

part_kept : (piece : List ℕ) (part : PatternPart) → part_of piece ≡ Some part → is_part part ≡ true
part_kept piece part h = of (bytes_eq piece (codes "*")) (bytes_eq piece (codes "+")) (number_of piece) refl part h
  where
    of : (a b : Bool) (o : Option ℕ) → number_of piece ≡ o → (part : PatternPart)
        → cond a (Some Any) (cond b (Some More) (option_map Number o)) ≡ Some part → is_part part ≡ true
    of a b o e Any h = refl
    of a b o e More h = refl
    of true b o e (Number n) h = absurd cc
    of false true o e (Number n) h = absurd cc
    of false false None e (Number n) h = absurd cc
    of false false (Some m) e (Number n) h = number_small piece n (e ∙ cc)

pub is_pattern_from_dotted : (text : List ℕ) (parts : List PatternPart) → dotted_of part_of text ≡ Some parts → more_is_last parts ≡ true → is_pattern parts ≡ true
is_pattern_from_dotted text parts h last = rw (dotted_kept part_of is_part part_kept text parts h, last) refl

-- what is read is a pattern
pub is_pattern_of : (text : List ℕ) (parts : List PatternPart) → pattern_of text ≡ Some parts → is_pattern parts ≡ true
unfolding pattern_of
is_pattern_of text parts h = of (dotted_of part_of text) refl h
  where
    right : (found : List PatternPart) (b : Bool) → more_is_last found ≡ b → cond b (Some found) None ≡ Some parts → (found ≡ parts) × (more_is_last found ≡ true)
    right found false e h = absurd cc
    right found true e h = (cc, e)

    of : (o : Option (List PatternPart)) → dotted_of part_of text ≡ o → option_and_then ending_right o ≡ Some parts → is_pattern parts ≡ true
    of None e h = absurd cc
    of (Some found) e h =
        let r = right found (more_is_last found) refl h in
        is_pattern_from_dotted text parts (e ∙ ap Some r.0) (sym (ap more_is_last r.0) ∙ r.1)

-- ---- walking

-- where one of two lists ends, their lengths say the rest
module _ {A B X : Type 0} (F : List A → List B → X) (G : ℕ → ℕ → X) where
  module _ (both : F [] [] ≡ G 0 0) (first : (x : A) (xs : List A) → F (x ∷ xs) [] ≡ G (suc (length xs)) 0)
      (second : (y : B) (ys : List B) → F [] (y ∷ ys) ≡ G 0 (suc (length ys)))
      (step : (a b : ℕ) → G (suc a) (suc b) ≡ G a b) where
    pub at_end : (xs : List A) (ys : List B) (k : ℕ) → k ≡ min (length xs) (length ys) → F (drop k xs) (drop k ys) ≡ G (length xs) (length ys)
    at_end [] [] k e = let z : k ≡ 0 = omega arith in rw z both
    at_end (x ∷ xs) [] k e = let z : k ≡ 0 = omega arith in rw z (first x xs)
    at_end [] (y ∷ ys) k e = let z : k ≡ 0 = omega arith in rw z (second y ys)
    at_end (x ∷ xs) (y ∷ ys) k e =
        let z : k ≡ suc (min (length xs) (length ys)) = omega arith in
        rw z (at_end xs ys (min (length xs) (length ys)) refl ∙ sym (step (length xs) (length ys)))

longer : (n : ℕ) → (suc n == 0) ≡ false
longer n = grind (arith, nat_tests)

shorter : (n : ℕ) → (0 == suc n) ≡ false
shorter n = grind (arith, nat_tests)

same_step : (a b : ℕ) → (suc a == suc b) ≡ (a == b)
same_step a b = grind (arith, nat_tests)

cmp_step : (a b : ℕ) → nat_cmp (suc a) (suc b) ≡ nat_cmp a b
cmp_step a b = grind (arith, nat_tests)

pub matches_at_end : (parts : List PatternPart) (numbers : List ℕ) (k : ℕ) → k ≡ min (length parts) (length numbers)
    → matches (drop k parts) (drop k numbers) ≡ (length parts == length numbers)
matches_at_end = at_end matches (λ a b. a == b) refl first (λ n numbers. sym (shorter (length numbers))) same_step
  where
    first : (part : PatternPart) (parts : List PatternPart) → matches (part ∷ parts) [] ≡ (suc (length parts) == 0)
    first Any parts = sym (longer (length parts))
    first More parts = sym (longer (length parts))
    first (Number m) parts = sym (longer (length parts))

pub beside_at_end : (numbers : List ℕ) (parts : List PatternPart) (k : ℕ) → k ≡ min (length numbers) (length parts)
    → beside (drop k numbers) (drop k parts) ≡ nat_cmp (length numbers) (length parts)
beside_at_end = at_end beside nat_cmp refl (λ n numbers. grind (arith, nat_tests)) (λ part parts. grind (arith, nat_tests)) cmp_step

-- ---- equality

-- what `==` of two parts answers
abbrev pub same_part : PatternPart → PatternPart → Bool
same_part = (parts.ghosts).eq

-- the same of patterns
abbrev pub same_pattern : List PatternPart → List PatternPart → Bool
same_pattern = (patterns.ghosts).eq

pub same_part-Decides : (a b : PatternPart) → Decides (same_part a b) (a ≡ b)
same_part-Decides a b = search rules

pub same_pattern-Decides : (a b : List PatternPart) → Decides (same_pattern a b) (a ≡ b)
same_pattern-Decides = pointwise_decides same_part-Decides

pub same_constraints-Decides : (a b : VersionConstraints) → Decides (same_constraints a b) (a ≡ b)
same_constraints-Decides =
    let maybe_same = maybe (decided same_pattern-Decides) in
    decides equivalence.laws-law (struct constraint.struct constraint.the_propositions (more maybe_same (more maybe_same (last maybe_same))))

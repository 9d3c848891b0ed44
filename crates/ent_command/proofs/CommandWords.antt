-- The words of commands.
use Rattle.std.proofs.Common.{◌≡◌, ℕ, List, [], ◌∷◌, Bor, Bool, true, false, ◌||◌, cond, map, refl, ap, ◌∙◌}
use Rattle.std.specs.List.{list_any}
use Rattle.std.specs.Prelude.{IfOk, Result, Ok, Err, Some, bytes_eq, find, is_some}
use Rattle.ent_command.specs.Asked.{form_of, forms}

-- one of the words is it where one of their owners has it
found : {A B : Type 0} (p : B → Bool) (f : A → B) (xs : List A) → list_any p (map f xs) ≡ is_some (find (λ x. p (f x)) xs)
found p f [] = refl
found p f (x ∷ xs) = by (p (f x)) (found p f xs)
  where
    by : (b : Bool) → list_any p (map f xs) ≡ is_some (find (λ x. p (f x)) xs)
        → (b || list_any p (map f xs)) ≡ is_some (cond b (Some x) (find (λ x. p (f x)) xs))
    by true rest = refl
    by false rest = rest

-- a word is one of those of the table where a command has it
known : (words : List (List ℕ)) → words ≡ map (λ f. f.word) forms → (word : List ℕ) → list_any (bytes_eq word) words ≡ is_some (form_of word)
unfolding form_of
known words are word = ap (list_any (bytes_eq word)) are ∙ found (bytes_eq word) (λ f. f.word) forms

-- so is one of a list that was copied, where there was memory
pub copied_known : {A E : Type 0} (items : A → List (Bor (List ℕ))) (r : Result A E) (words : List (Bor (List ℕ)))
    → IfOk r (λ all. items all ≡ words) → map (λ w. w.now) words ≡ map (λ f. f.word) forms
    → IfOk r (λ all. (word : List ℕ) → list_any (bytes_eq word) (map (λ w. w.now) (items all)) ≡ is_some (form_of word))
copied_known items (Ok all) words copied are = known (map (λ w. w.now) (items all)) (ap (map (λ w. w.now)) copied ∙ are)
copied_known items (Err e) words copied are = tt

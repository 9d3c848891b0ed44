-- The function of a URI among those whose names begin with the same word.
use Rattle.std.proofs.Common.{◌≡◌, ℕ, Bool, false, List, [], ◌∷◌, ◌++◌, refl, sym, ◌∙◌}
use Rattle.std.specs.Prelude.{Option, None, Some, bytes_eq, codes, cond, find, ◌≢◌}
use Rattle.std.specs.Option.{option_or}
use Rattle.std.proofs.lemmas.List.Folds.{find-append}
use Rattle.ent_functions.specs.Identifiers.{comparisons_at, element_word, functions_at, id_of, operation_of, ordered_word, prefix_of, type_word_of}
use Rattle.ent_functions.specs.declared.function.Element.{Element}
use Rattle.ent_functions.specs.declared.function.Function.{Function}
use Rattle.ent_functions.specs.declared.function.Ordered.{Ordered}
use Rattle.ent_functions.proofs.Naming.{lacks_front, past_front}

-- how the URI of a function begins that there is for several types
abbrev pub front : List ℕ
front = codes "urn:oasis:names:tc:xacml:1.0:function:"

-- the URIs go on with the word, and then with what the functions do
abbrev Begin : List ℕ → List Function → Type 0
Begin word [] = Unit {0}
Begin word (f ∷ fs) = (id_of f ≡ front ++ (word ++ operation_of f)) × Begin word fs

-- what a function does tells it from the others behind the same front and word
found_behind : (word text name operation : List ℕ) → text ≡ front ++ name → name ≡ word ++ operation → (fs : List Function) → Begin word fs
    → find (λ f. bytes_eq operation (operation_of f)) fs ≡ find (λ f. bytes_eq text (id_of f)) fs
found_behind word text name operation begins goes [] _ = refl
found_behind word text name operation begins goes (f ∷ fs) (is, rest) = λ t. cond (same t) (Some f) (found_behind word text name operation begins goes fs rest t) where
  same : bytes_eq operation (operation_of f) ≡ bytes_eq text (id_of f)
  same = past_front word operation (operation_of f) name goes ∙ past_front front name (word ++ operation_of f) text begins ∙ (λ t. bytes_eq text (sym is t))

-- a text that has another front is none of them
none_in_front : (word text : List ℕ) → ((end : List ℕ) → text ≢ front ++ end) → (fs : List Function) → Begin word fs → None ≡ find (λ f. bytes_eq text (id_of f)) fs
none_in_front word text lacks [] _ = refl
none_in_front word text lacks (f ∷ fs) (is, rest) = λ t. cond (other t) (Some f) (none_in_front word text lacks fs rest t) where
  other : false ≡ bytes_eq text (id_of f)
  other = lacks_front front (word ++ operation_of f) text lacks ∙ (λ t. bytes_eq text (sym is t))

-- nor is one that has another word
none_behind : (word text name : List ℕ) → text ≡ front ++ name → ((end : List ℕ) → name ≢ word ++ end) → (fs : List Function) → Begin word fs
    → None ≡ find (λ f. bytes_eq text (id_of f)) fs
none_behind word text name begins lacks [] _ = refl
none_behind word text name begins lacks (f ∷ fs) (is, rest) = λ t. cond (other t) (Some f) (none_behind word text name begins lacks fs rest t) where
  other : false ≡ bytes_eq text (id_of f)
  other = lacks_front word (operation_of f) name lacks ∙ past_front front name (word ++ operation_of f) text begins ∙ (λ t. bytes_eq text (sym is t))

of_element : (element : Element) → Begin (element_word element) (functions_at element)
unfolding id_of prefix_of type_word_of operation_of
of_element element = (refl, (refl, (refl, (refl, (refl, (refl, (refl, (refl, (refl, (refl, tt))))))))))

of_order : (order : Ordered) → Begin (ordered_word order) (comparisons_at order)
unfolding id_of prefix_of type_word_of operation_of
of_order order = (refl, (refl, (refl, (refl, tt))))

-- of the functions of one type
pub element_found : (element : Element) (text name operation : List ℕ) → text ≡ front ++ name → name ≡ element_word element ++ operation
    → find (λ f. bytes_eq operation (operation_of f)) (functions_at element) ≡ find (λ f. bytes_eq text (id_of f)) (functions_at element)
element_found element text name operation begins goes = found_behind (element_word element) text name operation begins goes (functions_at element) (of_element element)

pub element_in_front : (element : Element) (text : List ℕ) → ((end : List ℕ) → text ≢ front ++ end) → None ≡ find (λ f. bytes_eq text (id_of f)) (functions_at element)
element_in_front element text lacks = none_in_front (element_word element) text lacks (functions_at element) (of_element element)

pub element_behind : (element : Element) (text name : List ℕ) → text ≡ front ++ name → ((end : List ℕ) → name ≢ element_word element ++ end)
    → None ≡ find (λ f. bytes_eq text (id_of f)) (functions_at element)
element_behind element text name begins lacks = none_behind (element_word element) text name begins lacks (functions_at element) (of_element element)

-- of the comparisons at one type
pub order_found : (order : Ordered) (text name operation : List ℕ) → text ≡ front ++ name → name ≡ ordered_word order ++ operation
    → find (λ f. bytes_eq operation (operation_of f)) (comparisons_at order) ≡ find (λ f. bytes_eq text (id_of f)) (comparisons_at order)
order_found order text name operation begins goes = found_behind (ordered_word order) text name operation begins goes (comparisons_at order) (of_order order)

pub order_in_front : (order : Ordered) (text : List ℕ) → ((end : List ℕ) → text ≢ front ++ end) → None ≡ find (λ f. bytes_eq text (id_of f)) (comparisons_at order)
order_in_front order text lacks = none_in_front (ordered_word order) text lacks (comparisons_at order) (of_order order)

pub order_behind : (order : Ordered) (text name : List ℕ) → text ≡ front ++ name → ((end : List ℕ) → name ≢ ordered_word order ++ end)
    → None ≡ find (λ f. bytes_eq text (id_of f)) (comparisons_at order)
order_behind order text name begins lacks = none_behind (ordered_word order) text name begins lacks (comparisons_at order) (of_order order)

-- ---- several groups

-- the first of two groups that has it
pub or_found : (p : Function → Bool) (A B : List Function) {a b r : Option Function} → a ≡ find p A → b ≡ find p B → r ≡ option_or a b → r ≡ find p (A ++ B)
or_found p A B in_a in_b is = is ∙ (λ t. option_or (in_a t) (in_b t)) ∙ sym (find-append p A B)

of_three : (p : Function → Bool) (A B C : List Function) → find p ((A ++ B) ++ C) ≡ option_or (option_or (find p A) (find p B)) (find p C)
of_three p A B C = find-append p (A ++ B) C ∙ (λ t. option_or (find-append p A B t) (find p C))

-- what the first of three groups has
pub in_first : (p : Function → Bool) (A B C : List Function) (f : Function) → find p A ≡ Some f → Some f ≡ find p ((A ++ B) ++ C)
in_first p A B C f is = (λ t. option_or (option_or (sym is t) (find p B)) (find p C)) ∙ sym (of_three p A B C)

-- what the second has, where the first has none
pub in_second : (p : Function → Bool) (A B C : List Function) (f : Function) → find p A ≡ None → find p B ≡ Some f → Some f ≡ find p ((A ++ B) ++ C)
in_second p A B C f none is = (λ t. option_or (option_or (sym none t) (sym is t)) (find p C)) ∙ sym (of_three p A B C)

-- what the third has, where neither of the others has any
pub in_third : (p : Function → Bool) (A B C : List Function) (r : Option Function) → find p A ≡ None → find p B ≡ None → r ≡ find p C → r ≡ find p ((A ++ B) ++ C)
in_third p A B C r none none2 is = is ∙ (λ t. option_or (option_or (sym none t) (sym none2 t)) (find p C)) ∙ sym (of_three p A B C)

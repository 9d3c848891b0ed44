-- A text that is compared piece by piece.
use Rattle.std.proofs.Common.{◌≡◌, ℕ, Bool, true, false, List, [], ◌∷◌, ◌++◌, refl, sym, ap, ◌∙◌}
use Rattle.std.specs.Prelude.{bytes_eq, ◌≢◌, ◌↔◌, Some, cond, find}
use Rattle.std.proofs.lemmas.Slice.Eq.{bytes_eq-Decides}
use Rattle.std.proofs.lemmas.List.{append_cancel_left}
use Rattle.ent_functions.specs.Identifiers.{all_functions, function_of, id_of, operation_of, prefix_of, type_word_of}
use Rattle.ent_functions.specs.declared.function.Comparison.TheVariants.{GreaterThan, GreaterThanOrEqual, LessThan, LessThanOrEqual}
use Rattle.ent_functions.specs.declared.function.Element.TheVariants as elements
use Rattle.ent_functions.specs.declared.function.Function.{Function}
use Rattle.ent_functions.specs.declared.function.Function.TheVariants as functions
use Rattle.ent_functions.specs.declared.function.Ordered.TheVariants as ordered

is_false : (b : Bool) → (b ≡ true → Unit {0} → ⊥) → b ≡ false
is_false true not = absurd (not refl tt)
is_false false not = refl

same_bool : (a b : Bool) → (a ≡ true → b ≡ true) → (b ≡ true → a ≡ true) → a ≡ b
same_bool true b to from = sym (to refl)
same_bool false true to from = from refl
same_bool false false to from = refl

-- a text that doesn't begin with a front is no text that does
pub lacks_front : (front rest text : List ℕ) → ((end : List ℕ) → text ≢ front ++ end) → false ≡ bytes_eq text (front ++ rest)
lacks_front front rest text lacks = sym (is_false (bytes_eq text (front ++ rest)) (λ same _. lacks rest ((bytes_eq-Decides text (front ++ rest)).0 same)))

-- behind the same front the ends decide
pub past_front : (front end rest text : List ℕ) → text ≡ front ++ end → bytes_eq end rest ≡ bytes_eq text (front ++ rest)
past_front front end rest text is = same_bool (bytes_eq end rest) (bytes_eq text (front ++ rest))
    (λ same. (bytes_eq-Decides text (front ++ rest)).1 (is ∙ ap (λ e. front ++ e) ((bytes_eq-Decides end rest).0 same)))
    (λ same. (bytes_eq-Decides end rest).1 (append_cancel_left front end rest (sym is ∙ (bytes_eq-Decides text (front ++ rest)).0 same)))

-- what is found passes
found : {A : Type 0} (p : A → Bool) (xs : List A) (a : A) → find p xs ≡ Some a → p a ≡ true
found p [] a is = absurd (cc)
found p (x ∷ xs) a is = at (p x) refl is (found p xs a) where
  at : (b : Bool) → p x ≡ b → cond b (Some x) (find p xs) ≡ Some a → (find p xs ≡ Some a → p a ≡ true) → p a ≡ true
  at true passes is later = let e : x ≡ a = cc in rw (← e) passes
  at false passes is later = later is

id_read : (function : Function) → function_of (id_of function) ≡ Some function
unfolding function_of all_functions id_of prefix_of type_word_of operation_of
id_read (functions.Equal elements.Text) = refl
id_read (functions.Equal elements.Boolean) = refl
id_read (functions.Equal elements.Integer) = refl
id_read (functions.Equal elements.Date) = refl
id_read (functions.Equal elements.AnyUri) = refl
id_read (functions.Equal elements.Time) = refl
id_read (functions.Equal elements.DateTime) = refl
id_read (functions.OneAndOnly elements.Text) = refl
id_read (functions.OneAndOnly elements.Boolean) = refl
id_read (functions.OneAndOnly elements.Integer) = refl
id_read (functions.OneAndOnly elements.Date) = refl
id_read (functions.OneAndOnly elements.AnyUri) = refl
id_read (functions.OneAndOnly elements.Time) = refl
id_read (functions.OneAndOnly elements.DateTime) = refl
id_read (functions.BagSize elements.Text) = refl
id_read (functions.BagSize elements.Boolean) = refl
id_read (functions.BagSize elements.Integer) = refl
id_read (functions.BagSize elements.Date) = refl
id_read (functions.BagSize elements.AnyUri) = refl
id_read (functions.BagSize elements.Time) = refl
id_read (functions.BagSize elements.DateTime) = refl
id_read (functions.IsIn elements.Text) = refl
id_read (functions.IsIn elements.Boolean) = refl
id_read (functions.IsIn elements.Integer) = refl
id_read (functions.IsIn elements.Date) = refl
id_read (functions.IsIn elements.AnyUri) = refl
id_read (functions.IsIn elements.Time) = refl
id_read (functions.IsIn elements.DateTime) = refl
id_read (functions.Bag elements.Text) = refl
id_read (functions.Bag elements.Boolean) = refl
id_read (functions.Bag elements.Integer) = refl
id_read (functions.Bag elements.Date) = refl
id_read (functions.Bag elements.AnyUri) = refl
id_read (functions.Bag elements.Time) = refl
id_read (functions.Bag elements.DateTime) = refl
id_read (functions.Intersection elements.Text) = refl
id_read (functions.Intersection elements.Boolean) = refl
id_read (functions.Intersection elements.Integer) = refl
id_read (functions.Intersection elements.Date) = refl
id_read (functions.Intersection elements.AnyUri) = refl
id_read (functions.Intersection elements.Time) = refl
id_read (functions.Intersection elements.DateTime) = refl
id_read (functions.Union elements.Text) = refl
id_read (functions.Union elements.Boolean) = refl
id_read (functions.Union elements.Integer) = refl
id_read (functions.Union elements.Date) = refl
id_read (functions.Union elements.AnyUri) = refl
id_read (functions.Union elements.Time) = refl
id_read (functions.Union elements.DateTime) = refl
id_read (functions.AtLeastOneMemberOf elements.Text) = refl
id_read (functions.AtLeastOneMemberOf elements.Boolean) = refl
id_read (functions.AtLeastOneMemberOf elements.Integer) = refl
id_read (functions.AtLeastOneMemberOf elements.Date) = refl
id_read (functions.AtLeastOneMemberOf elements.AnyUri) = refl
id_read (functions.AtLeastOneMemberOf elements.Time) = refl
id_read (functions.AtLeastOneMemberOf elements.DateTime) = refl
id_read (functions.Subset elements.Text) = refl
id_read (functions.Subset elements.Boolean) = refl
id_read (functions.Subset elements.Integer) = refl
id_read (functions.Subset elements.Date) = refl
id_read (functions.Subset elements.AnyUri) = refl
id_read (functions.Subset elements.Time) = refl
id_read (functions.Subset elements.DateTime) = refl
id_read (functions.SetEquals elements.Text) = refl
id_read (functions.SetEquals elements.Boolean) = refl
id_read (functions.SetEquals elements.Integer) = refl
id_read (functions.SetEquals elements.Date) = refl
id_read (functions.SetEquals elements.AnyUri) = refl
id_read (functions.SetEquals elements.Time) = refl
id_read (functions.SetEquals elements.DateTime) = refl
id_read (functions.Compare GreaterThan ordered.Integer) = refl
id_read (functions.Compare GreaterThan ordered.Text) = refl
id_read (functions.Compare GreaterThan ordered.Date) = refl
id_read (functions.Compare GreaterThan ordered.Time) = refl
id_read (functions.Compare GreaterThan ordered.DateTime) = refl
id_read (functions.Compare GreaterThanOrEqual ordered.Integer) = refl
id_read (functions.Compare GreaterThanOrEqual ordered.Text) = refl
id_read (functions.Compare GreaterThanOrEqual ordered.Date) = refl
id_read (functions.Compare GreaterThanOrEqual ordered.Time) = refl
id_read (functions.Compare GreaterThanOrEqual ordered.DateTime) = refl
id_read (functions.Compare LessThan ordered.Integer) = refl
id_read (functions.Compare LessThan ordered.Text) = refl
id_read (functions.Compare LessThan ordered.Date) = refl
id_read (functions.Compare LessThan ordered.Time) = refl
id_read (functions.Compare LessThan ordered.DateTime) = refl
id_read (functions.Compare LessThanOrEqual ordered.Integer) = refl
id_read (functions.Compare LessThanOrEqual ordered.Text) = refl
id_read (functions.Compare LessThanOrEqual ordered.Date) = refl
id_read (functions.Compare LessThanOrEqual ordered.Time) = refl
id_read (functions.Compare LessThanOrEqual ordered.DateTime) = refl
id_read functions.Add = refl
id_read functions.Subtract = refl
id_read functions.Multiply = refl
id_read functions.Divide = refl
id_read functions.Mod = refl
id_read functions.Abs = refl
id_read functions.Or = refl
id_read functions.And = refl
id_read functions.Not = refl
id_read functions.Concatenate = refl
id_read functions.StartsWith = refl
id_read functions.EndsWith = refl
id_read functions.Contains = refl
id_read functions.DateAdd = refl
id_read functions.DateSubtract = refl
id_read functions.AnyOf = refl
id_read functions.AllOf = refl

-- a URI names a function exactly where it is that function's own
pub ids_read_back : (text : List ℕ) (function : Function) → (function_of text ≡ Some function) ↔ (text ≡ id_of function)
unfolding function_of
ids_read_back text function = (
  λ is. (bytes_eq-Decides text (id_of function)).0 (found (λ f. bytes_eq text (id_of f)) all_functions function is),
  λ is. rw is (id_read function),
)

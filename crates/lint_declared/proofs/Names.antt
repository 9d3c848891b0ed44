-- Names that are listed, and sets of them.
use Rattle.std.proofs.Common.{◌≡◌, ℕ, ◌<◌, ◌+◌, List, [], ◌∷◌, ◌++◌, Bool, Bor, Option, Some, None, true, false, ◌||◌, cond, get_or, length, map, take, refl, sym, ap, ◌∙◌}
use Rattle.std.proofs.lemmas.List.{map-append, take_more}
use Rattle.std.proofs.lemmas.List.Elements.{filter_map-append}
use Rattle.std.proofs.lemmas.List.Folds.{list_any-append}
use Rattle.std.proofs.lemmas.Slice.Eq.{bytes_eq-Decides}
use Rattle.std.specs.Bool.{Decides}
use Rattle.std.specs.List.{list_any}
use Rattle.std.specs.Option.{option_and_then, option_to_list}
use Rattle.std.specs.Ordering.{is_eq}
use Rattle.std.specs.declared.cmp.Ordering.{Ordering}
use Rattle.ent_values.proofs.Telling.{decided, decides, last, more, struct}
use Rattle.ent_json.specs.Line.{data_of}
use Rattle.lint_declared.specs.Settings.{has_name, listed_by, names_in}
use Rattle.lint_declared.specs.contracts.listed.ListedName as named
use Rattle.lint_declared.specs.contracts.listed.ListedNameEq.TheImpl.Laws as equalities
use Rattle.lint_declared.specs.contracts.listed.ListedNameOrd.TheImpl as orders
use Rattle.lint_declared.specs.contracts.listed.ListedNameOrd.TheImpl.Laws.{matches_eq-law}
use Rattle.lint_declared.specs.contracts.listed.ListedNamePartialEq.TheImpl as names
use Rattle.lint_declared.specs.declared.listed.ListedName.{ListedName}

abbrev pub same_named : ListedName → ListedName → Bool
same_named = (names.ghosts).eq

abbrev pub named_cmp : ListedName → ListedName → Ordering
named_cmp = (orders.ghosts).cmp

pub named-Decides : (a b : ListedName) → Decides (same_named a b) (a ≡ b)
named-Decides = decides equalities.laws-law (struct named.struct named.the_propositions (more (decided bytes_eq-Decides) (last (decided bytes_eq-Decides))))

-- what is found by the order is found by `==`
pub by_order : (n : ListedName) (among : List ListedName) → list_any (λ other. is_eq (named_cmp n other)) among ≡ has_name n among
by_order n among = λ i. list_any (λ other. sym (matches_eq-law n other) i) among

-- two tests that have the same answer true
both_ways : (a b : Bool) → (a ≡ true → b ≡ true) → (b ≡ true → a ≡ true) → a ≡ b
both_ways true b there back = sym (there refl)
both_ways false true there back = back refl
both_ways false false there back = refl

same_turned : (m n : ListedName) → same_named m n ≡ same_named n m
same_turned m n =
    both_ways (same_named m n) (same_named n m) (λ h. (named-Decides n m).1 (sym ((named-Decides m n).0 h))) (λ h. (named-Decides m n).1 (sym ((named-Decides n m).0 h)))

-- a set that has one name more than another
abbrev pub HasMore : List ListedName → List ListedName → ListedName → Type 0
HasMore old new more = (n : ListedName)
    → list_any (λ other. is_eq (named_cmp n other)) new ≡ cond (is_eq (named_cmp more n)) true (list_any (λ other. is_eq (named_cmp n other)) old)

placed_last : (a b : Bool) → cond b true a ≡ (a || (b || false))
placed_last true true = refl
placed_last true false = refl
placed_last false true = refl
placed_last false false = refl

-- what is in it then
pub added : (old new : List ListedName) (more : ListedName) → HasMore old new more → (n : ListedName) → has_name n new ≡ (has_name n old || has_name n (more ∷ []))
added old new more updates n =
    sym (by_order n new) ∙ updates n
    ∙ (λ i. cond (same_is i) true (by_order n old i))
    ∙ placed_last (has_name n old) (same_named n more)
  where
    same_is : is_eq (named_cmp more n) ≡ same_named n more
    same_is = sym (matches_eq-law more n) ∙ same_turned more n

pub none_added : (old : List ListedName) (n : ListedName) → has_name n old ≡ (has_name n old || has_name n [])
none_added old n = by (has_name n old)
  where
    by : (b : Bool) → b ≡ (b || false)
    by true = refl
    by false = refl

-- ---- the names of lines

of_one : (line : List ℕ) (o : Option ListedName) → o ≡ option_and_then listed_by (data_of line) → names_in (line ∷ []) ≡ option_to_list o
of_one line o is = by o is
  where
    by : (o : Option ListedName) → o ≡ option_and_then listed_by (data_of line) → names_in (line ∷ []) ≡ option_to_list o
    by None e = rw (← e) refl
    by (Some n) e = rw (← e) refl

-- those of one line more
pub one_more_line : (lines : List (Bor (List ℕ))) (i : ℕ) (d : Bor (List ℕ)) (o : Option ListedName) → i < length lines → o ≡ option_and_then listed_by (data_of (get_or lines i d).now)
    → names_in (map (λ l. l.now) (take (i + 1) lines)) ≡ names_in (map (λ l. l.now) (take i lines)) ++ option_to_list o
one_more_line lines i d o lt is =
    ap (λ ls. names_in (map (λ (l : Bor (List ℕ)). l.now) ls)) (take_more lines i d lt)
    ∙ ap names_in (map-append (λ (l : Bor (List ℕ)). l.now) (take i lines) (get_or lines i d ∷ []))
    ∙ filter_map-append _ (map (λ (l : Bor (List ℕ)). l.now) (take i lines)) ((get_or lines i d).now ∷ [])
    ∙ ap (λ ns. names_in (map (λ (l : Bor (List ℕ)). l.now) (take i lines)) ++ ns) (of_one (get_or lines i d).now o is)

or_or : (a b c : Bool) → ((a || b) || c) ≡ (a || (b || c))
or_or true b c = refl
or_or false b c = refl

-- a name is there where it was, or where a line lists it
pub read_more : (n : ListedName) (start old new before after : List ListedName) (o : Option ListedName) → has_name n old ≡ (has_name n start || has_name n before)
    → has_name n new ≡ (has_name n old || has_name n (option_to_list o)) → after ≡ before ++ option_to_list o → has_name n new ≡ (has_name n start || has_name n after)
read_more n start old new before after o so_far is all =
    is ∙ ap (λ b. b || has_name n (option_to_list o)) so_far ∙ or_or (has_name n start) (has_name n before) (has_name n (option_to_list o))
    ∙ ap (λ b. has_name n start || b) (sym (list_any-append (same_named n) before (option_to_list o)) ∙ ap (has_name n) (sym all))

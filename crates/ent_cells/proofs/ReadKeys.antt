-- The keys that a row or a kind and an id ask for, and that cells read.
use Rattle.std.proofs.Common.{◌≡◌, ◌<◌, ℕ, zero, suc, Bool, true, false, ◌||◌, List, [], ◌∷◌, ◌++◌, Option, Some, None, inl, inr, if◌then◌else◌, slice_index_or as get_or, length, option_map, refl, sym, ap, subst, ◌∙◌, arith}
use Rattle.std.specs.Prelude.{filter_map}
use Rattle.std.specs.List.{cons_option}
use Rattle.std.specs.Ordering.{is_eq}
use Rattle.std.proofs.lemmas.Bool.{and_parts, or_cases, or_left, or_right, true≢false}
use Rattle.slab.specs.Slab.{Slab, get}
use Rattle.ent_policy.specs.declared.key.Kind.{Kind}
use Rattle.ent_policy.specs.declared.key.Reference.{Reference}
use Rattle.ent_finder.specs.declared.row.RowKey.{RowKey}
use Rattle.ent_finder.proofs.Sorted.{equal}
use Rattle.ent_request.proofs.Keys.{read_cmp-IsAntisymmetric}
use Rattle.ent_request.proofs.Sames.{question-Decides}
use Rattle.ent_request.specs.declared.key.ReadKey.{ReadKey}
use Rattle.ent_request.specs.declared.key.ReadKey.TheVariants as key
use Rattle.ent_request.specs.declared.question.Question.{Question}
use Rattle.ent_request.specs.declared.question.Question.TheVariants.{Root, Ref}
use Rattle.ent_request.specs.Noted.{has_key, read_cmp}
use Rattle.ent_request.specs.QuestionOf.{question_of}
use Rattle.ent_request.specs.Questions.{AreNumbers, at_numbers, is_asked, same_question}
use Rattle.ent_request.specs.Readers.{ListedLookUps, looks_up}
use Rattle.ent_index.proofs.RowsAsked.{asked_both, asked_plain}
use Rattle.ent_index.proofs.Views.{key_itself, key_turned}
use Rattle.ent_index.specs.Asked.{asks_policy, asks_row}
use Rattle.ent_index.specs.declared.groups.Groups.{Groups}
use Rattle.ent_index.specs.Groups.{numbers_of}
use Rattle.ent_cells.proofs.StoreSteps.{get_seen}
use Rattle.ent_cells.specs.declared.cell.Cell.{Cell}
use Rattle.ent_cells.specs.proofs_only.Asked.{asked_keys, key_of_row, reads_at, reference_of}
use Rattle.ent_cells.specs.proofs_only.Grouping.{IsStore, entry_in, seen}

-- ---- the keys of a row

plain_keys : (row : RowKey) → row.issuer ≡ None → (k : ReadKey) → is_eq (read_cmp k (key_of_row row None)) ≡ asks_row row k
plain_keys row none k = key_turned k (key_of_row row None) ∙ sym (asked_plain row none k)

both_keys : (row : RowKey) (i : List ℕ) → row.issuer ≡ Some i → (k : ReadKey) → (is_eq (read_cmp k (key_of_row row None)) || is_eq (read_cmp k (key_of_row row (Some i)))) ≡ asks_row row k
both_keys row i some k =
    (λ j. key_turned k (key_of_row row None) j || key_turned k (key_of_row row (Some i)) j)
    ∙ sym (asked_both row i some k)

module _ (q : List Question) (k : ReadKey) (asked : is_asked q (question_of k) ≡ true) where
  -- a key whose question is one of these is among them
  itself : (x : ReadKey) → is_eq (read_cmp k x) ≡ true → asked_keys q x ≡ x ∷ []
  itself x tied =
      let same : k ≡ x = read_cmp-IsAntisymmetric k x (equal (read_cmp k x) tied) in
      ap (λ b. if b then x ∷ [] else []) (ap (λ y. is_asked q (question_of y)) (sym same) ∙ asked)

  first_there : (x : ReadKey) (others : List ReadKey) → is_eq (read_cmp k x) ≡ true → has_key (asked_keys q x ++ others) k ≡ true
  first_there x others tied = ap (λ ks. has_key (ks ++ others) k) (itself x tied) ∙ or_left (is_eq (read_cmp k x)) (has_key others k) tied

  only_there : (x : ReadKey) → is_eq (read_cmp k x) ≡ true → has_key (asked_keys q x) k ≡ true
  only_there x tied = ap (λ ks. has_key ks k) (itself x tied) ∙ or_left (is_eq (read_cmp k x)) false tied

  behind : (x : ReadKey) (others : List ReadKey) → has_key others k ≡ true → has_key (asked_keys q x ++ others) k ≡ true
  behind x others there = by (is_asked q (question_of x)) where
    by : (b : Bool) → has_key ((if b then x ∷ [] else []) ++ others) k ≡ true
    by true = or_right (is_eq (read_cmp k x)) (has_key others k) there
    by false = there

  -- so are those of a row
  pub plain_there : (row : RowKey) → row.issuer ≡ None → asks_row row k ≡ true → has_key (asked_keys q (key_of_row row None)) k ≡ true
  plain_there row none asks = only_there (key_of_row row None) (plain_keys row none k ∙ asks)

  pub both_there : (row : RowKey) (i : List ℕ) → row.issuer ≡ Some i → asks_row row k ≡ true
      → has_key (asked_keys q (key_of_row row None) ++ asked_keys q (key_of_row row (Some i))) k ≡ true
  both_there row i some asks =
      let first = key_of_row row None in
      let second = key_of_row row (Some i) in
      elim (or_cases (is_eq (read_cmp k first)) (is_eq (read_cmp k second)) (both_keys row i some k ∙ asks)) [
        | inl tied ↦ first_there first (asked_keys q second) tied
        | inr tied ↦ behind first (asked_keys q second) (only_there second tied)
      ]

-- ---- references among questions

module _ (kind : Kind) (id : List ℕ) where
  -- each that is of the kind and the id is among them whose question is
  later : (k : ReadKey) (o : Option ReadKey) (ks : List ReadKey) → has_key ks k ≡ true → has_key (cons_option o ks) k ≡ true
  later k None ks h = h
  later k (Some x) ks h = or_right (is_eq (read_cmp k x)) (has_key ks k) h

  there_by : (r : Reference) → asks_policy kind id (key.Ref r) ≡ true → (xs : List Question) → is_asked xs (Ref r) ≡ true → has_key (filter_map (reference_of kind id) xs) (key.Ref r) ≡ true
  there_by r asks [] h = absurd (true≢false (sym h))
  there_by r asks (x ∷ xs) h = elim (or_cases (same_question (Ref r) x) (is_asked xs (Ref r)) h) [
    | inl same ↦
        let is : Ref r ≡ x = (question-Decides (Ref r) x).0 same in
        subst (λ y. has_key (cons_option (reference_of kind id y) (filter_map (reference_of kind id) xs)) (key.Ref r) ≡ true) is
        (ap (λ b. has_key (cons_option (if b then Some (key.Ref r) else None) (filter_map (reference_of kind id) xs)) (key.Ref r)) asks
        ∙ or_left (is_eq (read_cmp (key.Ref r) (key.Ref r))) (has_key (filter_map (reference_of kind id) xs) (key.Ref r)) (key_itself (key.Ref r) (key.Ref r) refl))
    | inr there ↦ later (key.Ref r) (reference_of kind id x) (filter_map (reference_of kind id) xs) (there_by r asks xs there)
  ]

  pub references_there : (xs : List Question) (k : ReadKey) → asks_policy kind id k ≡ true → is_asked xs (question_of k) ≡ true → has_key (filter_map (reference_of kind id) xs) k ≡ true
  references_there xs (key.Ref r) asks h = there_by r asks xs h
  references_there xs key.Root asks h = absurd (true≢false (sym asks))
  references_there xs (key.Attr a) asks h = absurd (true≢false (sym asks))
  references_there xs key.CurrentDate asks h = absurd (true≢false (sym asks))
  references_there xs key.CurrentTime asks h = absurd (true≢false (sym asks))
  references_there xs key.CurrentDateTime asks h = absurd (true≢false (sym asks))

-- ---- the question of a key that a cell reads has a number

one_of : (x : Question) (xs : List Question) (n : ℕ) → n < length xs → same_question x (get_or xs n Root) ≡ true → is_asked xs x ≡ true
one_of x [] n lt h = absurd (omega (arith, lt))
one_of x (y ∷ xs) zero lt h = or_left (same_question x y) (is_asked xs x) h
one_of x (y ∷ xs) (suc n) lt h = or_right (same_question x y) (is_asked xs x) (one_of x xs n (omega (arith, lt)) h)

pub asked_among : (x : Question) (xs : List Question) (ns : List ℕ) → AreNumbers xs ns → is_asked (at_numbers xs ns) x ≡ true → is_asked xs x ≡ true
asked_among x xs [] are h = absurd (true≢false (sym h))
asked_among x xs (n ∷ ns) are h = elim (or_cases (same_question x (get_or xs n Root)) (is_asked (at_numbers xs ns) x) h) [
  | inl same ↦ one_of x xs n are.0 same
  | inr there ↦ asked_among x xs ns are.1 there
]

pub read_asked : ListedLookUps → (q : List Question) (g : Groups) (s : Slab Cell) → IsStore q g s → (k : ReadKey) (c : ℕ) → reads_at (get (seen q g s) c) k ≡ true → is_asked q (question_of k) ≡ true
read_asked law q g s is k c h = by (get s c) refl (ap (λ o. reads_at o k) (sym (get_seen q g s c)) ∙ h)
  where
    by : (o : Option Cell) → get s c ≡ o → reads_at (option_map (entry_in q g) o) k ≡ true → is_asked q (question_of k) ≡ true
    by None e h = absurd (true≢false (sym h))
    by (Some cell) e h =
        let ns = numbers_of g cell.said.group in
        let x = cell.who in
        let both = sym (law x.person x.action x.resource (at_numbers q ns) k) ∙ h in
        asked_among (question_of k) q ns (is c cell e).said.within (and_parts (is_asked (at_numbers q ns) (question_of k)) (looks_up x.person x.action x.resource k) both).0

-- What the bytes of a text hold, and what some tokens more do to them.
use Rattle.std.proofs.Common.{◌≡◌, List, [], ◌∷◌, ◌++◌, ◌&&◌, ℕ, Bool, true, false, fold, not, IsUtf8, refl, sym, ap, ◌∙◌, subst, append-nil}
use Rattle.std.proofs.lemmas.Bool.{and_parts, not-true}
use Rattle.std.proofs.lemmas.Slice.Eq.{bytes_eq-Decides}
use Rattle.std.proofs.lemmas.Str.{IsUtf8-append, IsUtf8-nil}
use Rattle.std.specs.List.{list_all}
use Rattle.std.specs.Str.{bytes_eq}
use Rattle.json.specs.Lex.{tokens, lex, punctuate}
use Rattle.json.specs.Print.{ArePrintable, IsPrintable, begins, ends, ends_value, print, print_from, separator, token_text}
use Rattle.json.specs.Token.{Token, begin_object, end_object, begin_array, end_array, key, string, number, boolean, null, bad}
use Rattle.json.proofs.Printed.Tokens.{print_from-append, tokens-print}
use Rattle.json.proofs.Printed.Utf8.{IsUtf8-are_ascii}
use Rattle.ent_json.specs.Fragments.{is_fixed, is_fragment, is_front}
use Rattle.ent_json.specs.proofs_only.Written.{IsWritten, comma_if}

-- the tokens that are read are those that were written
pub shown : (bytes : List ℕ) (after : Bool) (h : IsWritten bytes after) → tokens bytes ≡ h.written
shown bytes after h = ap tokens h.text ∙ tokens-print h.written h.printable

-- nothing is written
pub empty_written : (bytes : List ℕ) → bytes ≡ [] → IsWritten bytes false
unfolding print_from ArePrintable
empty_written bytes none = record { written = []; printable = tt; text = none; place = refl; utf8 = subst IsUtf8 (sym none) IsUtf8-nil }

pub empty_read : (bytes : List ℕ) → bytes ≡ [] → tokens bytes ≡ []
unfolding lex punctuate
empty_read bytes none = ap tokens none

-- a text without a change
pub same_written : (old new : List ℕ) (after : Bool) → IsWritten old after → new ≡ old → IsWritten new after
same_written old new after h same = subst (λ b. IsWritten b after) (sym same) h

ends_more : (c : Bool) (ts us : List Token) → fold (λ _ t. ends t) c (ts ++ us) ≡ fold (λ _ t. ends t) (fold (λ _ t. ends t) c ts) us
ends_more c [] us = refl
ends_more c (t ∷ ts) us = ends_more (ends t) ts us

both_printable : (ts us : List Token) → ArePrintable ts → ArePrintable us → ArePrintable (ts ++ us)
unfolding ArePrintable
both_printable [] us h k = k
both_printable (t ∷ ts) us h k = (h.0, both_printable ts us h.1 k)

IsUtf8-comma_if : (comma : Bool) → IsUtf8 (comma_if comma)
IsUtf8-comma_if true = IsUtf8-are_ascii (44 ∷ []) refl
IsUtf8-comma_if false = IsUtf8-nil

module _ (old new text : List ℕ) (before after comma : Bool) (h : IsWritten old before) (utf8 : IsUtf8 text) (items : new ≡ old ++ (comma_if comma ++ text)) where
  still_utf8 : IsUtf8 new
  still_utf8 = subst IsUtf8 (sym items) (IsUtf8-append old (comma_if comma ++ text) h.utf8 (IsUtf8-append (comma_if comma) text (IsUtf8-comma_if comma) utf8))

  -- some tokens more, whose text was put behind
  module _ (ts : List Token) (printable : ArePrintable ts) (printed : comma_if comma ++ text ≡ print_from before ts) (place : after ≡ fold (λ _ t. ends t) before ts) where
    pub more_written : IsWritten new after
    more_written = record {
      written = h.written ++ ts;
      printable = both_printable h.written ts h.printable printable;
      text = items ∙ (λ i. h.text i ++ printed i) ∙ ap (λ b. print h.written ++ print_from b ts) h.place ∙ sym (print_from-append false h.written ts);
      place = place ∙ ap (λ b. fold (λ _ t. ends t) b ts) h.place ∙ sym (ends_more false h.written ts);
      utf8 = still_utf8;
    }

    pub more_read : tokens new ≡ tokens old ++ ts
    unfolding more_written
    more_read = shown new after more_written ∙ ap (λ us. us ++ ts) (sym (shown old before h))

-- ---- one token

-- the text of one that stands alone
pub printed_alone : (text before : List ℕ) (ts : List Token) (t : Token) → before ≡ [] → ts ≡ t ∷ [] → text ≡ before ++ print ts → text ≡ token_text t
unfolding print_from
printed_alone text before ts t none alone said = said ∙ (λ i. none i ++ print (alone i)) ∙ append-nil (token_text t)

-- a comma stands before it
begun : (before : Bool) (t : Token) → begins t ≡ true → comma_if before ++ token_text t ≡ print_from before (t ∷ [])
unfolding print_from
begun true t e = ap (λ b. comma_if b ++ token_text t) (sym e) ∙ ap (λ s. separator true t ++ s) (sym (append-nil (token_text t)))
begun false t e = sym (append-nil (token_text t))

-- none does
closed : (before : Bool) (t : Token) → begins t ≡ false → token_text t ≡ print_from before (t ∷ [])
unfolding print_from
closed true t e = ap (λ b. comma_if b ++ token_text t) (sym e) ∙ ap (λ s. separator true t ++ s) (sym (append-nil (token_text t)))
closed false t e = sym (append-nil (token_text t))

one_printable : (t : Token) → IsPrintable t → ArePrintable (t ∷ [])
unfolding ArePrintable
one_printable t h = (h, tt)

module _ (old new : List ℕ) (before after : Bool) (h : IsWritten old before) (t : Token) (printable : IsPrintable t) (utf8 : IsUtf8 (token_text t)) (place : after ≡ ends t) where
  module _ (first : begins t ≡ true) (items : new ≡ old ++ (comma_if before ++ token_text t)) where
    pub token_written : IsWritten new after
    token_written = more_written old new (token_text t) before after before h utf8 items (t ∷ []) (one_printable t printable) (begun before t first) place

    pub token_read : tokens new ≡ tokens old ++ t ∷ []
    token_read = more_read old new (token_text t) before after before h utf8 items (t ∷ []) (one_printable t printable) (begun before t first) place

  module _ (last : begins t ≡ false) (items : new ≡ old ++ token_text t) where
    pub end_written : IsWritten new after
    end_written = more_written old new (token_text t) before after false h utf8 items (t ∷ []) (one_printable t printable) (closed before t last) place

    pub end_read : tokens new ≡ tokens old ++ t ∷ []
    end_read = more_read old new (token_text t) before after false h utf8 items (t ∷ []) (one_printable t printable) (closed before t last) place

-- ---- a fragment

fixed_printable : (ts : List Token) → list_all is_fixed ts ≡ true → ArePrintable ts
unfolding ArePrintable
fixed_printable [] e = tt
fixed_printable (begin_object ∷ ts) e = (tt, fixed_printable ts e)
fixed_printable (end_object ∷ ts) e = (tt, fixed_printable ts e)
fixed_printable (begin_array ∷ ts) e = (tt, fixed_printable ts e)
fixed_printable (end_array ∷ ts) e = (tt, fixed_printable ts e)
fixed_printable (key s ∷ ts) e = (tt, fixed_printable ts e)
fixed_printable (string s ∷ ts) e = (tt, fixed_printable ts e)
fixed_printable (number s ∷ ts) e = absurd cc
fixed_printable (boolean b ∷ ts) e = (tt, fixed_printable ts e)
fixed_printable (null ∷ ts) e = (tt, fixed_printable ts e)
fixed_printable (bad ∷ ts) e = absurd cc

abbrev Fits : List ℕ → List Token → Type 0
Fits text ts = (before : Bool) → (comma_if before ++ text ≡ print_from before ts) × (false ≡ fold (λ _ t. ends t) before ts)

front_fits : (text : List ℕ) (ts : List Token) → is_front ts ≡ true → text ≡ print ts → Fits text ts
unfolding print_from
front_fits text [] front e before = absurd cc
front_fits text (t ∷ ts) front e before =
    let first = and_parts (begins t && not (ends_value (t ∷ ts))) (list_all is_fixed (t ∷ ts)) front in
    let begun = and_parts (begins t) (not (ends_value (t ∷ ts))) first.0 in
    let rest = token_text t ++ print_from (ends t) ts in (
      ap (λ x. comma_if before ++ x) e ∙ of before begun.0 rest,
      sym (not-true (ends_value (t ∷ ts)) begun.1),
    )
  where
    of : (b : Bool) → begins t ≡ true → (rest : List ℕ) → comma_if b ++ rest ≡ separator b t ++ rest
    of true h rest = ap (λ c. comma_if c ++ rest) (sym h)
    of false h rest = refl

front_fixed : (ts : List Token) → is_front ts ≡ true → list_all is_fixed ts ≡ true
front_fixed [] front = absurd cc
front_fixed (t ∷ ts) front = (and_parts (begins t && not (ends_value (t ∷ ts))) (list_all is_fixed (t ∷ ts)) front).1

module _ (old new text : List ℕ) (before : Bool) (h : IsWritten old before) (fragment : is_fragment text ≡ true) (utf8 : IsUtf8 text) (items : new ≡ old ++ (comma_if before ++ text)) where
  fragment_parts : (is_front (tokens text) ≡ true) × (bytes_eq (print (tokens text)) text ≡ true)
  fragment_parts = and_parts (is_front (tokens text)) (bytes_eq (print (tokens text)) text) fragment

  fragment_fits : Fits text (tokens text)
  fragment_fits = front_fits text (tokens text) fragment_parts.0 (sym ((bytes_eq-Decides (print (tokens text)) text).0 fragment_parts.1))

  pub fragment_written : IsWritten new false
  fragment_written =
      more_written old new text before false before h utf8 items (tokens text) (fixed_printable (tokens text) (front_fixed (tokens text) fragment_parts.0))
      (fragment_fits before).0 (fragment_fits before).1

  pub fragment_read : tokens new ≡ tokens old ++ tokens text
  fragment_read =
      more_read old new text before false before h utf8 items (tokens text) (fixed_printable (tokens text) (front_fixed (tokens text) fragment_parts.0))
      (fragment_fits before).0 (fragment_fits before).1

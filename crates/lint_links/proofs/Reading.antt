-- The lines of a state, read one after the other.
use Rattle.std.proofs.Common.{◌≡◌, ◌==◌, ◌||◌, ℕ, ◌+◌, ◌<◌, ◌≤◌, Bool, true, false, List, [], ◌∷◌, length, get_or, drop, Option, Some, None, Result, Ok, Err, OnOk, refl, sym, ap, subst, ◌∙◌}
use Rattle.std.specs.Prelude.{IfErr, bytes_eq, codes, if◌then◌else◌, option_and_then}
use Rattle.std.specs.Iterator.{Yields}
use Rattle.std.specs.Result.{IsErr, IsErrAnd}
use Rattle.std.proofs.lemmas.Iterator.{YieldsList}
use Rattle.std.proofs.lemmas.Iterator.Consumers.{YieldsList-end, YieldsList-turn}
use Rattle.std.proofs.lemmas.List.{at_drop_all, at_drop_more}
use Rattle.std.proofs.lemmas.Slice.Eq.{bytes_eq-Decides}
use Rattle.serde_json.specs.Data.{Data}
use Rattle.serde_json.specs.Find.{get}
use Rattle.ent_json.specs.Line.{data_of}
use Rattle.ent_json.specs.Objects.{among, text_at}
use Rattle.lint_links.specs.Stored.{Stored, added, after_command, after_data, after_line, after_lines, others, rooted}
use Rattle.lint_links.specs.declared.state.StateFault.{StateFault}

-- what the lines from a number on come to, by the first of them
at_next : (lines : List (List ℕ)) (n : ℕ) (line : List ℕ) (s : Stored) (o : Option Stored) → (n < length lines) × (line ≡ get_or lines n line) → after_line s line ≡ o
    → after_lines s (drop n lines) ≡ option_and_then (λ t. after_lines t (drop (n + 1) lines)) o
at_next lines n line s o here is =
    at_drop_more (after_lines s) lines n line here.0
    ∙ ap (λ x. option_and_then (λ t. after_lines t (drop (n + 1) lines)) (after_line s x)) (sym here.1)
    ∙ ap (option_and_then (λ t. after_lines t (drop (n + 1) lines))) is

pub one_read : (lines : List (List ℕ)) (n : ℕ) (line : List ℕ) (s t : Stored) (end : Option Stored) → (n < length lines) × (line ≡ get_or lines n line) → after_line s line ≡ Some t
    → after_lines s (drop n lines) ≡ end → after_lines t (drop (n + 1) lines) ≡ end
one_read lines n line s t end here is so_far = sym (at_next lines n line s (Some t) here is) ∙ so_far

pub one_refused : (lines : List (List ℕ)) (n : ℕ) (line : List ℕ) (s : Stored) (end : Option Stored) → (n < length lines) × (line ≡ get_or lines n line) → after_line s line ≡ None
    → after_lines s (drop n lines) ≡ end → end ≡ None
one_refused lines n line s end here is so_far = sym so_far ∙ at_next lines n line s None here is

pub all_read : (lines : List (List ℕ)) (n : ℕ) (s : Stored) (end : Option Stored) → length lines ≤ n → after_lines s (drop n lines) ≡ end → end ≡ Some s
all_read lines n s end past so_far = sym so_far ∙ at_drop_all (after_lines s) lines n past

-- ---- one line

-- a line that isn't empty is what its JSON is
pub of_data : {A E : Type 0} (s : Stored) (line : List ℕ) (d : Data) (t : Stored) (r : Result A E) → (length line == 0) ≡ false → Some d ≡ data_of line
    → OnOk r (after_data s d ≡ Some t) → OnOk r (after_line s line ≡ Some t)
of_data s [] d t r filled is told = absurd cc
of_data s (byte ∷ bytes) d t (Ok x) filled is told = ap (option_and_then (after_data s)) (sym is) ∙ told
of_data s (byte ∷ bytes) d t (Err e) filled is told = tt

-- ---- the word of a line

is_other : (a b : List ℕ) → (a ≡ b → ⊥) → bytes_eq a b ≡ false
is_other a b other = by (bytes_eq a b) refl where
  by : (t : Bool) → bytes_eq a b ≡ t → bytes_eq a b ≡ false
  by true e = absurd (other ((bytes_eq-Decides a b).0 e))
  by false e = e

or_false : (a b : Bool) → a ≡ false → b ≡ false → (a || b) ≡ false
or_false a b p q = rw (p, q) refl

-- none of the words that count for nothing
pub no_other : (word : List ℕ) → (word ≡ codes "format" → ⊥) → (word ≡ codes "person.add" → ⊥) → (word ≡ codes "action.add" → ⊥) → (word ≡ codes "resource.add" → ⊥)
    → (word ≡ codes "attr.set" → ⊥) → (word ≡ codes "day.set" → ⊥) → (word ≡ codes "moment.set" → ⊥) → among word others ≡ false
no_other word a b c d e f g =
    or_false _ _ (is_other (codes "format") word (λ i. a (sym i))) (or_false _ _ (is_other (codes "person.add") word (λ i. b (sym i)))
    (or_false _ _ (is_other (codes "action.add") word (λ i. c (sym i))) (or_false _ _ (is_other (codes "resource.add") word (λ i. d (sym i)))
    (or_false _ _ (is_other (codes "attr.set") word (λ i. e (sym i))) (or_false _ _ (is_other (codes "day.set") word (λ i. f (sym i)))
    (or_false _ _ (is_other (codes "moment.set") word (λ i. g (sym i))) refl))))))

no_command : (x y z : Option Stored) (a b c : Bool) → a ≡ false → b ≡ false → c ≡ false → (if a then x else (if b then y else (if c then z else None))) ≡ None
no_command x y z a b c p q r = rw (p, q, r) refl

-- a line with a word that no command of a dump has
pub of_no_command : (s : Stored) (d : Data) (word : List ℕ) → Some word ≡ text_at (codes "do") d → (word ≡ codes "policy.add" → ⊥) → (word ≡ codes "root.set" → ⊥) → among word others ≡ false
    → after_data s d ≡ None
of_no_command s d word is no_add no_root rest =
    ap (option_and_then (λ w. after_command w s d)) (sym is)
    ∙ no_command (added s (get (codes "document") d)) (rooted s (get (codes "reference") d)) (Some s) (bytes_eq word (codes "policy.add")) (bytes_eq word (codes "root.set")) (among word others)
    (is_other word (codes "policy.add") no_add) (is_other word (codes "root.set") no_root) rest

-- ---- the lines of a text, where the call that gives them is known first

pub turned : {S A B : Type 0} {steps : S → Option A → S → Type 0} {v : A → B} {s : S} {all : List B} (xs : List A) (t : S) → Yields steps s xs t → (r : Option A) (u : S) (x : A) → r ≡ Some x → steps t r u
    → YieldsList steps v s all → (length xs < length all) × (v x ≡ get_or all (length xs) (v x))
turned xs t y r u x is step e = YieldsList-turn e xs t y r u x is step

pub ended : {S A B : Type 0} {steps : S → Option A → S → Type 0} {v : A → B} {s : S} {all : List B} (xs : List A) (t : S) → Yields steps s xs t → (r : Option A) (u : S) → r ≡ None → steps t r u
    → YieldsList steps v s all → length xs ≡ length all
ended xs t y r u is step e = (YieldsList-end e xs t y r u is step).1

-- ---- a refusal that is passed on

pub passed_on : {A : Type 0} (r : Result A StateFault) (fault : StateFault) (P : StateFault → Type 0) → IsErr r × IsErrAnd r (λ e. e ≡ fault) → P fault → IfErr r P
passed_on (Ok x) fault P (none, same) told = tt
passed_on (Err e) fault P (some, same) told = subst P (sym same) told

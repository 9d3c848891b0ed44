-- One change of an index after another.
use Rattle.std.proofs.Common.{◌≡◌, ℕ, ◌+◌, ◌<◌, Bool, true, false, cond, not, ◌&&◌, ◌||◌, List, [], ◌∷◌, length, take, drop, slice_index_or as get_or, refl, sym, ap, ◌∙◌}
use Rattle.std.specs.List.{filter}
use Rattle.std.specs.Ordering.{is_eq, nat_cmp}
use Rattle.std.proofs.lemmas.Bool.{and_parts, or_left, true≢false}
use Rattle.std.proofs.lemmas.List.{take-append-drop}
use Rattle.std.proofs.lemmas.List.Folds.{list_any-append, list_any_more}
use Rattle.ent_request.specs.Noted.{has_key, read_cmp}
use Rattle.ent_request.specs.declared.key.ReadKey.{ReadKey}
use Rattle.ent_index.proofs.Views.{same_cell, same_index, same_key}
use Rattle.ent_index.specs.Index.{Adds, Forgets, IsSound, ReadIndex, has, is_pair_of}
use Rattle.ent_index.specs.proofs_only.Steps.{is_pair}

abbrev pub Pairs : Type 0
Pairs = ReadKey → ℕ → Bool

-- ---- two changes

or_three : (p q o : Bool) → (q || (p || o)) ≡ ((p || q) || o)
or_three true true o = refl
or_three true false o = refl
or_three false q o = refl

not_three : (p q o : Bool) → (not q && (not p && o)) ≡ (not (p || q) && o)
not_three true true o = refl
not_three true false o = refl
not_three false q o = refl

pub adds_more : (p q r : Pairs) (a b c : ReadIndex) → Adds p a b → Adds q b c → ((k : ReadKey) (x : ℕ) → r k x ≡ (p k x || q k x)) → Adds r a c
adds_more p q r a b c first after is = record {
  has = λ k x. after.has k x ∙ ap (λ t. q k x || t) (first.has k x) ∙ or_three (p k x) (q k x) (has a k x) ∙ ap (λ t. t || has a k x) (sym (is k x));
  sound = λ sound. after.sound (first.sound sound);
}

pub forgets_more : (p q r : Pairs) (a b c : ReadIndex) → Forgets p a b → Forgets q b c → ((k : ReadKey) (x : ℕ) → r k x ≡ (p k x || q k x)) → Forgets r a c
forgets_more p q r a b c first after is = record {
  has = λ k x. after.has k x ∙ ap (λ t. not (q k x) && t) (first.has k x) ∙ not_three (p k x) (q k x) (has a k x) ∙ ap (λ t. not t && has a k x) (sym (is k x));
  sound = λ sound. after.sound (first.sound sound);
}

-- ---- one more pair

spread : (a b q : Bool) → ((a || b) && q) ≡ ((a && q) || (b && q))
spread true true true = refl
spread true true false = refl
spread true false true = refl
spread true false false = refl
spread false b q = refl

pub pair_more : (keys : List ReadKey) (cell i : ℕ) (key : ReadKey) → i < length keys → key ≡ get_or keys i key
    → (k : ReadKey) (x : ℕ) → is_pair_of (take (i + 1) keys) cell k x ≡ (is_pair_of (take i keys) cell k x || is_pair key cell k x)
pair_more keys cell i key lt is k x =
    ap (λ b. b && is_eq (nat_cmp x cell)) (list_any_more (λ j. is_eq (read_cmp k j)) keys i key lt ∙ ap (λ j. has_key (take i keys) k || is_eq (read_cmp k j)) (sym is))
    ∙ spread (has_key (take i keys) k) (is_eq (read_cmp k key)) (is_eq (nat_cmp x cell))

-- ---- the keys that a cell doesn't read

passing : (p : ReadKey → Bool) (keys : List ReadKey) (k : ReadKey) → has_key (filter p keys) k ≡ (has_key keys k && p k)
passing p [] k = refl
passing p (j ∷ keys) k = by (p j) (is_eq (read_cmp k j)) refl refl (passing p keys k)
  where
    by : (b t : Bool) → p j ≡ b → is_eq (read_cmp k j) ≡ t → has_key (filter p keys) k ≡ (has_key keys k && p k) → has_key (cond b (j ∷ filter p keys) (filter p keys)) k ≡ ((t || has_key keys k) && p k)
    by true true pass tie rest = ap (λ t. t || has_key (filter p keys) k) tie ∙ sym (ap p (same_key k j tie) ∙ pass)
    by true false pass tie rest = ap (λ t. t || has_key (filter p keys) k) tie ∙ rest
    by false true pass tie rest = rest ∙ neither (has_key keys k) (p k) (ap p (same_key k j tie) ∙ pass)
      where
        neither : (h b : Bool) → b ≡ false → (h && b) ≡ b
        neither true b e = refl
        neither false b e = sym e
    by false false pass tie rest = rest

module _ (a : ReadIndex) (keys unread : List ReadKey) (cell : ℕ) (are : unread ≡ filter (λ k. not (has a k cell)) keys) where
  among : (k : ReadKey) → has_key unread k ≡ (has_key keys k && not (has a k cell))
  among k = ap (λ ks. has_key ks k) are ∙ passing (λ k. not (has a k cell)) keys k

  -- to put the cell in under them is to put it in under all
  pub adds_all : (b : ReadIndex) → Adds (is_pair_of unread cell) a b → Adds (is_pair_of keys cell) a b
  adds_all b adds = record {
    has = λ k x. adds.has k x ∙ ap (λ h. (h && is_eq (nat_cmp x cell)) || has a k x) (among k)
        ∙ there (has_key keys k) (has a k cell) (is_eq (nat_cmp x cell)) (has a k x) (λ tie. ap (has a k) (sym (same_cell x cell tie)));
    sound = adds.sound;
  }
    where
      there : (h c q o : Bool) → (q ≡ true → c ≡ o) → (((h && not c) && q) || o) ≡ ((h && q) || o)
      there true true true o is = sym (is refl)
      there true true false o is = refl
      there true false q o is = refl
      there false c q o is = refl

  -- after a refusal: where it is put in under some first ones and taken out under all of them, all is as before
  pub restored : (n : ℕ) (b c : ReadIndex) → IsSound a → Adds (is_pair_of (take n unread) cell) a b → Forgets (is_pair_of unread cell) b c → c ≡ a
  restored n b c sound adds forgets = same_index c a (forgets.sound (adds.sound sound)) sound (λ k x.
      forgets.has k x ∙ ap (λ t. not (is_pair_of unread cell k x) && t) (adds.has k x)
      ∙ out (has_key unread k) (has_key (take n unread) k) (is_eq (nat_cmp x cell)) (has a k x) (first k)
      (λ h tie. ap (has a k) (same_cell x cell tie) ∙ not_true (has a k cell) (and_parts (has_key keys k) (not (has a k cell)) (sym (among k) ∙ h)).1))
    where
      first : (k : ReadKey) → has_key (take n unread) k ≡ true → has_key unread k ≡ true
      first k h =
          ap (λ ks. has_key ks k) (sym (take-append-drop n unread)) ∙ list_any-append (λ j. is_eq (read_cmp k j)) (take n unread) (drop n unread)
          ∙ or_left (has_key (take n unread) k) (has_key (drop n unread) k) h

      not_true : (b : Bool) → not b ≡ true → b ≡ false
      not_true true e = sym e
      not_true false e = refl

      out : (p n q o : Bool) → (n ≡ true → p ≡ true) → (p ≡ true → q ≡ true → o ≡ false) → (not (p && q) && ((n && q) || o)) ≡ o
      out true n true o f g = sym (g refl refl)
      out true true false o f g = refl
      out true false false o f g = refl
      out false true q o f g = absurd (true≢false (sym (f refl)))
      out false false q o f g = refl

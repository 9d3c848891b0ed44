-- What an index says, and what other cells under one key do to it.
use Rattle.std.proofs.Common.{◌≡◌, ℕ, List, [], ◌∷◌, Bool, true, false, cond, not, ◌&&◌, ◌||◌, Option, Some, None, is_some, refl, sym, ap, ◌∙◌}
use Rattle.std.specs.BTreeMap as tree
use Rattle.std.specs.BTreeMap.{BTreeMap}
use Rattle.std.specs.Cmp.{IsTotalOrder, eq_by_cmp_equiv, nat_cmp_total}
use Rattle.std.specs.FinMap.{find, get, get-empty, get-from_entries, get-insert, get-remove, nat_cmp-IsAntisymmetric, same_map}
use Rattle.std.specs.Map.{lookup}
use Rattle.std.specs.Option.{option_map}
use Rattle.std.specs.Ordering.{is_eq, nat_cmp}
use Rattle.std.specs.declared.cmp.Ordering.{Ordering}
use Rattle.std.specs.declared.cmp.Ordering.TheVariants.{Less, Equal, Greater}
use Rattle.std.proofs.lemmas.Bool.{true≢false}
use Rattle.std.proofs.lemmas.Cmp.{tied_itself}
use Rattle.std.proofs.lemmas.Option.{same_Some}
use Rattle.ent_request.proofs.Keys.{read_cmp-IsAntisymmetric}
use Rattle.ent_request.specs.Noted.{read_cmp}
use Rattle.ent_request.specs.contracts.key.ReadKeyOrd.TheImpl.Laws.{total-law}
use Rattle.ent_request.specs.declared.key.ReadKey.{ReadKey}
use Rattle.ent_index.specs.Cells.{CellSet, has_cell, no_cells}
use Rattle.ent_index.specs.Index.{Adds, Forgets, IsSound, ReadIndex, has, has_in}
use Rattle.ent_index.specs.proofs_only.Steps.{Puts, is_pair, with_cell, without_cell}
use Rattle.ent_index.specs.proofs_only.Stored.{index_of}

-- ---- keys and cells that tie

pub read_cmp-total : IsTotalOrder read_cmp
read_cmp-total = total-law

equal : (r : Ordering) → is_eq r ≡ true → r ≡ Equal
equal Less h = cc
equal Equal h = refl
equal Greater h = cc

pub same_key : (a b : ReadKey) → is_eq (read_cmp a b) ≡ true → a ≡ b
same_key a b h = read_cmp-IsAntisymmetric a b (equal _ h)

pub key_itself : (a b : ReadKey) → a ≡ b → is_eq (read_cmp a b) ≡ true
key_itself a b e = ap (λ x. is_eq (read_cmp x b)) e ∙ ap is_eq (tied_itself read_cmp-total b)

pub key_turned : (a b : ReadKey) → is_eq (read_cmp a b) ≡ is_eq (read_cmp b a)
key_turned a b = (eq_by_cmp_equiv read_cmp-total).symm a b

pub same_cell : (a b : ℕ) → is_eq (nat_cmp a b) ≡ true → a ≡ b
same_cell a b h = nat_cmp-IsAntisymmetric a b (equal _ h)

pub cell_itself : (a b : ℕ) → a ≡ b → is_eq (nat_cmp a b) ≡ true
cell_itself a b e = ap (λ x. is_eq (nat_cmp x b)) e ∙ ap is_eq (tied_itself nat_cmp_total b)

pub not_cell : (a b : ℕ) → (a ≡ b → ⊥) → is_eq (nat_cmp a b) ≡ false
not_cell a b apart = by (is_eq (nat_cmp a b)) refl
  where
    by : (t : Bool) → is_eq (nat_cmp a b) ≡ t → is_eq (nat_cmp a b) ≡ false
    by true e = absurd (apart (same_cell a b e))
    by false e = e

-- ---- sets of cells

some_or : (b : Bool) (x : Option (Unit {0})) → is_some (cond b (Some tt) x) ≡ (b || is_some x)
some_or true x = refl
some_or false x = refl

none_or : (b : Bool) (x : Option (Unit {0})) → is_some (cond b None x) ≡ (not b && is_some x)
none_or true x = refl
none_or false x = refl

pub has_cell-with : (cells : CellSet) (cell c : ℕ) → has_cell (with_cell cells cell) c ≡ (is_eq (nat_cmp c cell) || has_cell cells c)
has_cell-with cells cell c = ap is_some (get-insert nat_cmp_total cells cell tt c) ∙ some_or (is_eq (nat_cmp c cell)) (get cells c)

pub has_cell-without : (cells : CellSet) (cell c : ℕ) → has_cell (without_cell cells cell) c ≡ (not (is_eq (nat_cmp c cell)) && has_cell cells c)
has_cell-without cells cell c = ap is_some (get-remove nat_cmp_total cells cell c) ∙ none_or (is_eq (nat_cmp c cell)) (get cells c)

pub has_cell-none : (c : ℕ) → has_cell no_cells c ≡ false
has_cell-none c = ap is_some (get-empty nat_cmp c)

marked : (a b : Option (Unit {0})) → is_some a ≡ is_some b → a ≡ b
marked None None e = refl
marked None (Some y) e = cc
marked (Some x) None e = cc
marked (Some x) (Some y) e = refl

pub same_cells : (a b : CellSet) → ((c : ℕ) → has_cell a c ≡ has_cell b c) → a ≡ b
same_cells a b is = same_map nat_cmp_total nat_cmp-IsAntisymmetric a b (λ c. marked (get a c) (get b c) (is c))

pub with_cell-filled : (cells : CellSet) (cell : ℕ) → with_cell cells cell ≡ no_cells → ⊥
with_cell-filled cells cell e =
    true≢false (ap (λ b. b || has_cell cells cell) (sym (cell_itself cell cell refl)) ∙ sym (has_cell-with cells cell cell) ∙ ap (λ s. has_cell s cell) e ∙ has_cell-none cell)

pub some_none : {A : Type 0} (x : A) → Some x ≡ None → ⊥
some_none x e = cc

-- ---- what is under a key

find-lookup : (es : List (ReadKey × CellSet)) (k : ReadKey) → find read_cmp k es ≡ lookup (λ q. is_eq (read_cmp k q)) es
find-lookup [] k = refl
find-lookup (e ∷ es) k = ap (cond (is_eq (read_cmp k e.0)) (Some e.1)) (find-lookup es k)

pub get-index_of : (readers : BTreeMap ReadKey CellSet) (k : ReadKey) → get (index_of readers) k ≡ tree.get read_cmp readers k
get-index_of readers k = get-from_entries read_cmp-total readers.entries k ∙ find-lookup readers.entries k

-- an index is seen by which cell reads which key
pub same_index : (a b : ReadIndex) → IsSound a → IsSound b → ((k : ReadKey) (c : ℕ) → has a k c ≡ has b k c) → a ≡ b
same_index a b sound_a sound_b is = same_map read_cmp-total read_cmp-IsAntisymmetric a b (λ k. cells (get a k) (get b k) (sound_a k) (sound_b k) (is k))
  where
    filled : (s : CellSet) → (Some s ≡ Some no_cells → ⊥) → ((c : ℕ) → has_cell s c ≡ false) → ⊥
    filled s sound none = sound (ap Some (same_cells s no_cells (λ c. none c ∙ sym (has_cell-none c))))

    cells : (o p : Option CellSet) → (o ≡ Some no_cells → ⊥) → (p ≡ Some no_cells → ⊥) → ((c : ℕ) → has_in o c ≡ has_in p c) → o ≡ p
    cells None None x y h = refl
    cells None (Some s) x y h = absurd (filled s y (λ c. sym (h c)))
    cells (Some s) None x y h = absurd (filled s x h)
    cells (Some s) (Some t) x y h = ap Some (same_cells s t h)

-- ---- other cells under one key

module _ (old new : BTreeMap ReadKey CellSet) (key : ReadKey) (w : Option CellSet) (puts : (k : ReadKey) → tree.get read_cmp new k ≡ cond (is_eq (read_cmp key k)) w (tree.get read_cmp old k)) where
  put_at : (k : ReadKey) → get (index_of new) k ≡ cond (is_eq (read_cmp k key)) w (get (index_of old) k)
  put_at k = get-index_of new k ∙ puts k ∙ (λ i. cond (key_turned key k i) w (sym (get-index_of old k) i))

  pub put_sound : (w ≡ Some no_cells → ⊥) → IsSound (index_of old) → IsSound (index_of new)
  put_sound filled sound k none = by (is_eq (read_cmp k key)) (sym (put_at k) ∙ none)
    where
      by : (t : Bool) → cond t w (get (index_of old) k) ≡ Some no_cells → ⊥
      by true e = filled e
      by false e = sound k e

  -- where the cells under the key are those of before and the cell, or those without it, so are the pairs of the index
  pub put_pairs : (f : Bool → Bool → Bool) (cell : ℕ) → ((o : Bool) → o ≡ f false o) → ((c : ℕ) → has_in w c ≡ f (is_eq (nat_cmp c cell)) (has_in (tree.get read_cmp old key) c))
      → (k : ReadKey) (c : ℕ) → has (index_of new) k c ≡ f (is_pair key cell k c) (has (index_of old) k c)
  put_pairs f cell none here k c = ap (λ o. has_in o c) (put_at k) ∙ by (is_eq (read_cmp k key)) refl
    where
      by : (t : Bool) → is_eq (read_cmp k key) ≡ t → has_in (cond t w (get (index_of old) k)) c ≡ f (t && is_eq (nat_cmp c cell)) (has (index_of old) k c)
      by true tie = here c ∙ ap (λ o. f (is_eq (nat_cmp c cell)) (has_in o c)) (sym (get-index_of old key) ∙ ap (get (index_of old)) (sym (same_key k key tie)))
      by false tie = none (has (index_of old) k c)

  pub put_adds : (cell : ℕ) → (w ≡ Some no_cells → ⊥) → ((c : ℕ) → has_in w c ≡ (is_eq (nat_cmp c cell) || has_in (tree.get read_cmp old key) c)) → Adds (is_pair key cell) (index_of old) (index_of new)
  put_adds cell filled here = record { has = put_pairs (λ p o. p || o) cell (λ o. refl) here; sound = put_sound filled }

  pub put_forgets : (cell : ℕ) → (w ≡ Some no_cells → ⊥) → ((c : ℕ) → has_in w c ≡ (not (is_eq (nat_cmp c cell)) && has_in (tree.get read_cmp old key) c)) → Forgets (is_pair key cell) (index_of old) (index_of new)
  put_forgets cell filled here = record { has = put_pairs (λ p o. not p && o) cell (λ o. refl) here; sound = put_sound filled }

  -- those of before
  pub put_same : w ≡ tree.get read_cmp old key → index_of new ≡ index_of old
  put_same is = same_map read_cmp-total read_cmp-IsAntisymmetric _ _ (λ k. put_at k ∙ by k (is_eq (read_cmp k key)) refl)
    where
      by : (k : ReadKey) (t : Bool) → is_eq (read_cmp k key) ≡ t → cond t w (get (index_of old) k) ≡ get (index_of old) k
      by k true tie = is ∙ sym (get-index_of old key) ∙ ap (get (index_of old)) (sym (same_key k key tie))
      by k false tie = refl

-- ---- one cell under one key

twice : {A : Type 0} (t : Bool) (v w x : A) → cond t v (cond t w x) ≡ cond t v x
twice true v w x = refl
twice false v w x = refl

itself : (o : Option CellSet) → option_map (λ cells. cells) o ≡ o
itself None = refl
itself (Some s) = refl

-- no key, no cell
pub none_sound : (readers : BTreeMap ReadKey CellSet) → readers.entries ≡ [] → IsSound (index_of readers)
none_sound readers none k e = some_none no_cells (sym e ∙ get-index_of readers k ∙ ap (lookup (λ q. is_eq (read_cmp k q))) none)

-- a key without cells stays so
pub none_puts : (old new : BTreeMap ReadKey CellSet) (key : ReadKey) (change : CellSet → CellSet) → new ≡ old → None ≡ tree.get read_cmp old key → Puts change old new key
none_puts old new key change same none k = ap (λ m. tree.get read_cmp m k) same ∙ by (is_eq (read_cmp key k)) refl
  where
    by : (t : Bool) → is_eq (read_cmp key k) ≡ t → tree.get read_cmp old k ≡ cond t (option_map change (tree.get read_cmp old key)) (tree.get read_cmp old k)
    by true tie = ap (tree.get read_cmp old) (sym (same_key key k tie)) ∙ sym none ∙ ap (option_map change) none
    by false tie = refl

module _ (old new : BTreeMap ReadKey CellSet) (key : ReadKey) where
  -- what a refusal leaves
  pub same_puts : Puts (λ cells. cells) old new key → index_of new ≡ index_of old
  same_puts puts = put_same old new key (option_map (λ cells. cells) (tree.get read_cmp old key)) puts (itself (tree.get read_cmp old key))

  -- one more
  pub more_adds : (cell : ℕ) → is_some (tree.get read_cmp old key) ≡ true → Puts (λ cells. with_cell cells cell) old new key → Adds (is_pair key cell) (index_of old) (index_of new)
  more_adds cell some puts = put_adds old new key (option_map (λ cells. with_cell cells cell) (tree.get read_cmp old key)) puts cell (filled (tree.get read_cmp old key)) (has_more (tree.get read_cmp old key) some)
    where
      filled : (o : Option CellSet) → option_map (λ cells. with_cell cells cell) o ≡ Some no_cells → ⊥
      filled None e = cc
      filled (Some s) e = with_cell-filled s cell (same_Some _ _ e)

      has_more : (o : Option CellSet) → is_some o ≡ true → (c : ℕ) → has_in (option_map (λ cells. with_cell cells cell) o) c ≡ (is_eq (nat_cmp c cell) || has_in o c)
      has_more None some c = cc
      has_more (Some s) some c = has_cell-with s cell c

  -- the first
  pub one_adds : (cell : ℕ) (copy : ReadKey) (cells : CellSet) → copy ≡ key → cells ≡ with_cell no_cells cell → is_some (tree.get read_cmp old key) ≡ false
      → ((k : ReadKey) → tree.get read_cmp new k ≡ cond (is_eq (read_cmp copy k)) (Some cells) (tree.get read_cmp old k)) → Adds (is_pair key cell) (index_of old) (index_of new)
  one_adds cell copy cells copied one none puts =
      put_adds old new key (Some (with_cell no_cells cell)) (λ k. puts k ∙ (λ i. cond (is_eq (read_cmp (copied i) k)) (Some (one i)) (tree.get read_cmp old k))) cell
      (λ e. with_cell-filled no_cells cell (same_Some _ _ e)) (has_one (tree.get read_cmp old key) none)
    where
      has_one : (o : Option CellSet) → is_some o ≡ false → (c : ℕ) → has_in (Some (with_cell no_cells cell)) c ≡ (is_eq (nat_cmp c cell) || has_in o c)
      has_one None none c = has_cell-with no_cells cell c ∙ ap (λ b. is_eq (nat_cmp c cell) || b) (has_cell-none c)
      has_one (Some s) none c = cc

  -- one less
  has_less : (cell : ℕ) (o : Option CellSet) (c : ℕ) → has_in (option_map (λ cells. without_cell cells cell) o) c ≡ (not (is_eq (nat_cmp c cell)) && has_in o c)
  has_less cell None c = by (is_eq (nat_cmp c cell))
    where
      by : (t : Bool) → false ≡ (not t && false)
      by true = refl
      by false = refl
  has_less cell (Some s) c = has_cell-without s cell c

  put_here : (cell : ℕ) → Puts (λ cells. without_cell cells cell) old new key → tree.get read_cmp new key ≡ option_map (λ cells. without_cell cells cell) (tree.get read_cmp old key)
  put_here cell puts = puts key ∙ ap (λ t. cond t (option_map (λ cells. without_cell cells cell) (tree.get read_cmp old key)) (tree.get read_cmp old key)) (key_itself key key refl)

  pub less_forgets : (cell : ℕ) → Puts (λ cells. without_cell cells cell) old new key → (tree.get read_cmp new key ≡ Some no_cells → ⊥) → Forgets (is_pair key cell) (index_of old) (index_of new)
  less_forgets cell puts left =
      put_forgets old new key (option_map (λ cells. without_cell cells cell) (tree.get read_cmp old key)) puts cell (λ e. left (put_here cell puts ∙ e)) (has_less cell (tree.get read_cmp old key))

  -- and none is left
  pub last_forgets : (cell : ℕ) (last : BTreeMap ReadKey CellSet) → Puts (λ cells. without_cell cells cell) old new key → tree.get read_cmp new key ≡ Some no_cells
      → ((k : ReadKey) → tree.get read_cmp last k ≡ cond (is_eq (read_cmp key k)) None (tree.get read_cmp new k)) → Forgets (is_pair key cell) (index_of old) (index_of last)
  last_forgets cell last puts bare gone =
      put_forgets old last key None (λ k. gone k ∙ ap (cond (is_eq (read_cmp key k)) None) (puts k) ∙ twice (is_eq (read_cmp key k)) None _ (tree.get read_cmp old k)) cell
      (λ e. some_none no_cells (sym e))
      (λ c. sym (has_cell-none c) ∙ ap (λ o. has_in o c) (sym bare ∙ put_here cell puts) ∙ has_less cell (tree.get read_cmp old key) c)

-- The cells of a slab, in the order of a list of their keys.
use Rattle.std.proofs.Common.{◌≡◌, inl, inr, ℕ, zero, suc, ◌+◌, ◌<◌, ◌≤◌, Bool, true, false, ◌||◌, nat_eq, List, [], ◌∷◌, ◌++◌, map, length, take, drop, Option, Some, None, is_some, option_map, slice_get, slice_index_or as get_or, refl, sym, ap, subst, ◌∙◌, arith, le_refl}
use Rattle.std.specs.List.{AllByRecursion, cons_option, filter}
use Rattle.std.proofs.lemmas.Bool.{false≢true}
use Rattle.std.proofs.lemmas.Bool.Decides.{eqb_tells}
use Rattle.std.proofs.Math.Seq.{take-append_seam}
use Rattle.std.proofs.lemmas.List.{length-map, map-append, take-map, drop-map}
use Rattle.std.proofs.lemmas.Option.{slice_get-map}
use Rattle.std.proofs.lemmas.Simd.{map-map}
use Rattle.slab.specs.Slab.{Slab, get}
use Rattle.ent_request.specs.declared.key.ReadKey.{ReadKey}
use Rattle.ent_request.specs.Noted.{has_key}
use Rattle.ent_cells.specs.Cell.{HasReadKeys, Kept, is_read}
use Rattle.ent_cells.specs.Entries.{Entry, IsLive, kept_of}
use Rattle.ent_cells.specs.proofs_only.Entries.{Inserts}
use Rattle.ent_cells.specs.proofs_only.Asked.{HasKeysOf, reads_at}
use Rattle.ent_cells.specs.Grid.{IsGrid, entries_of, times, values}
use Rattle.ent_cells.specs.Shape.{left_after, left_of, taken_out, without, woven}
use Rattle.ent_cells.proofs.Among.{bit}
use Rattle.ent_cells.proofs.Grids.{at, at_none, long, more_grid, more_values}
use Rattle.ent_cells.proofs.Narrowed.{narrow_filter, narrow_grid, narrow_values, without-map}
use Rattle.ent_cells.proofs.Shapes.{before, behind}
use Rattle.ent_cells.proofs.Woven.{woven-map, woven_grid, woven_values}

abbrev cell_in : Entry → Kept
cell_in e = e.kept

cons_by : (k : ℕ) (o : Option Entry) (es : List (ℕ × Entry)) → map cell_in (values (cons_option (option_map (λ v. (k, v)) o) es)) ≡ cons_option (option_map cell_in o) (map cell_in (values es))
cons_by k None es = refl
cons_by k (Some e) es = refl

-- the cell under one key more
pub kept_cons : (s : Slab Entry) (k : ℕ) (ks : List ℕ) → kept_of s (k ∷ ks) ≡ cons_option (option_map cell_in (get s k)) (kept_of s ks)
kept_cons s k ks = cons_by k (get s k) (entries_of s ks)

-- ---- each cell is changed alike
map_one : (f : Entry → Entry) (g : Kept → Kept) → ((e : Entry) → (f e).kept ≡ g e.kept) → (o : Option Entry) (es fs : List Kept) → es ≡ map g fs
    → cons_option (option_map cell_in (option_map f o)) es ≡ map g (cons_option (option_map cell_in o) fs)
map_one f g same None es fs h = h
map_one f g same (Some e) es fs h = λ j. same e j ∷ h j

pub mapped : (f : Entry → Entry) (g : Kept → Kept) → ((e : Entry) → (f e).kept ≡ g e.kept) → (s t : Slab Entry) → ((c : ℕ) → get t c ≡ option_map f (get s c)) → (ks : List ℕ) → kept_of t ks ≡ map g (kept_of s ks)
mapped f g same s t are [] = refl
mapped f g same s t are (k ∷ ks) =
    kept_cons t k ks
    ∙ ap (λ (o : Option Entry). cons_option (option_map cell_in o) (kept_of t ks)) (are k)
    ∙ map_one f g same (get s k) (kept_of t ks) (kept_of s ks) (mapped f g same s t are ks)
    ∙ ap (map g) (sym (kept_cons s k ks))

-- ---- what holds of each cell of the list holds of each cell of the slab
head_of : (P : Kept → Type 0) (o : Option Entry) (es : List Kept) (e : Entry) → o ≡ Some e → AllByRecursion P (cons_option (option_map cell_in o) es) → P e.kept
head_of P None es e h all = absurd (cc)
head_of P (Some x) es e h all = let same : x ≡ e = cc in subst (λ (y : Entry). P y.kept) same all.0

tail_of : (P : Kept → Type 0) (o : Option Entry) (es : List Kept) → AllByRecursion P (cons_option (option_map cell_in o) es) → AllByRecursion P es
tail_of P None es all = all
tail_of P (Some x) es all = all.1

fewer : (b : Bool) (n : ℕ) → b ≡ false → 1 ≤ bit b + n → 1 ≤ n
fewer true n e h = absurd (cc)
fewer false n e h = omega (arith, h)

each_by : (P : Kept → Type 0) (s : Slab Entry) (ks : List ℕ) → AllByRecursion P (kept_of s ks) → (c : ℕ) (e : Entry) → get s c ≡ Some e → 1 ≤ times c ks → P e.kept
each_by P s [] all c e h some = absurd (omega (arith, some))
each_by P s (k ∷ ks) all c e h some =
    let parts : AllByRecursion P (cons_option (option_map cell_in (get s k)) (kept_of s ks)) = subst (AllByRecursion P) (kept_cons s k ks) all in
    elim (eqb_tells c k) [
      | inl p ↦ head_of P (get s k) (kept_of s ks) e (ap (get s) (sym p.1) ∙ h) parts
      | inr p ↦ each_by P s ks (tail_of P (get s k) (kept_of s ks) parts) c e h (fewer (nat_eq c k) (times c ks) p.0 some)
    ]

pub each : (P : Kept → Type 0) (s : Slab Entry) (ks : List ℕ) → IsGrid s ks → AllByRecursion P (kept_of s ks) → (c : ℕ) (e : Entry) → get s c ≡ Some e → P e.kept
each P s ks grid all c e h =
    let once : times c ks ≡ 1 = grid c ∙ ap (λ (o : Option Entry). bit (is_some o)) h in
    each_by P s ks all c e h (omega (arith, once))

-- ---- the keys that cells read
-- a key that one of the list reads is one that a cell reads
read_reads : (s : Slab Entry) (ks : List ℕ) (k : ReadKey) → is_read (kept_of s ks) k ≡ true → (c : ℕ) × (reads_at (get s c) k ≡ true)
read_reads s [] k h = absurd (false≢true h)
read_reads s (c ∷ ks) k h = by (get s c) refl (read_reads s ks k) (ap (λ es. is_read es k) (sym (kept_cons s c ks)) ∙ h)
  where
    own : (e : Entry) → get s c ≡ Some e → (is_read (kept_of s ks) k ≡ true → (d : ℕ) × (reads_at (get s d) k ≡ true))
        → (b : Bool) → has_key e.kept.said.reads k ≡ b → (b || is_read (kept_of s ks) k) ≡ true → (d : ℕ) × (reads_at (get s d) k ≡ true)
    own e at others true is h = (c, ap (λ o. reads_at o k) at ∙ is)
    own e at others false is h = others h

    by : (o : Option Entry) → get s c ≡ o → (is_read (kept_of s ks) k ≡ true → (d : ℕ) × (reads_at (get s d) k ≡ true))
        → is_read (cons_option (option_map cell_in o) (kept_of s ks)) k ≡ true → (d : ℕ) × (reads_at (get s d) k ≡ true)
    by None at others h = others h
    by (Some e) at others h = own e at others (has_key e.kept.said.reads k) refl h

pub are_listed : (asks : ReadKey → Bool) (s : Slab Entry) (ks : List ℕ) (keys : List ReadKey) → HasKeysOf asks s keys → HasReadKeys asks (kept_of s ks) keys
are_listed asks s ks keys has k asked read = let r = read_reads s ks k read in has k r.0 asked r.1

-- ---- places
pub kept_long : (s : Slab Entry) (ks : List ℕ) → IsGrid s ks → length (kept_of s ks) ≡ length ks
kept_long s ks grid = length-map (values (entries_of s ks)) cell_in ∙ length-map (entries_of s ks) (λ e. e.1) ∙ long s ks grid

-- what is shown of the cell at a place is what is shown of that under its key
module _ {B : Type 0} (f : Kept → B) (s : Slab Entry) (ks : List ℕ) (i : ℕ) (grid : IsGrid s ks) where
  shown_in : slice_get (map f (kept_of s ks)) i ≡ option_map (λ (e : Entry). f e.kept) (slice_get (values (entries_of s ks)) i)
  shown_in = ap (λ (bs : List B). slice_get bs i) (map-map f cell_in (values (entries_of s ks))) ∙ slice_get-map (λ (e : Entry). f e.kept) (values (entries_of s ks)) i

  pub shown_at : (k : ℕ) → i < length ks → k ≡ get_or ks i k → slice_get (map f (kept_of s ks)) i ≡ option_map (λ (e : Entry). f e.kept) (get s k)
  shown_at k within read = shown_in ∙ ap (option_map (λ (e : Entry). f e.kept)) (at s ks i k grid within read)

  pub shown_past : slice_get ks i ≡ None → slice_get (map f (kept_of s ks)) i ≡ None
  shown_past past = shown_in ∙ ap (option_map (λ (e : Entry). f e.kept)) (at_none s ks i grid past)

-- a part of what is shown of the cell at a place
pub shown_part : {B C : Type 0} (g : B → C) (f : Kept → B) (o : Option B) (es : List Kept) (i : ℕ) → o ≡ slice_get (map f es) i → option_map g o ≡ slice_get (map (λ e. g (f e)) es) i
shown_part g f o es i is = ap (option_map g) is ∙ sym (slice_get-map g (map f es) i) ∙ ap (λ xs. slice_get xs i) (map-map g f es)

-- ---- a new cell
new_free : (e f : Entry) (o : Option Entry) → e.next ≡ None → o ≡ Some e → o ≡ Some f → f.next ≡ None
new_free e f o free is also = let same : e ≡ f = cc in ap (λ (y : Entry). y.next) (sym same) ∙ free

pub more_live : (s t : Slab Entry) (ks : List ℕ) (k : ℕ) (e : Entry) → e.next ≡ None → Inserts e s t k → IsLive s ks → IsLive t (ks ++ k ∷ [])
more_live s t ks k e free new live = record {
  grid = more_grid s t k e new.1 ks new.0 live.grid;
  free = λ c f h. elim (eqb_tells c k) [
    | inl p ↦ new_free e f (get t c) free (ap (get t) p.1 ∙ new.1.changed) h
    | inr p ↦ live.free c f (sym (new.1.others c p.1) ∙ h)
  ];
}

pub more_kept : (s t : Slab Entry) (ks : List ℕ) (k : ℕ) (e : Entry) → Inserts e s t k → IsGrid s ks → kept_of t (ks ++ k ∷ []) ≡ kept_of s ks ++ e.kept ∷ []
more_kept s t ks k e new grid =
    ap (λ (es : List (ℕ × Entry)). map cell_in (values es)) (more_values s t k e new.1 ks new.0 grid)
    ∙ ap (map cell_in) (map-append (λ p. p.1) (entries_of s ks) ((k, e) ∷ []))
    ∙ map-append cell_in (values (entries_of s ks)) (e ∷ [])

-- the cells before those that were put last
pub first_kept : (s t : Slab Entry) (ks ls : List ℕ) (more : List Kept) → IsGrid s ks → kept_of t ls ≡ kept_of s ks ++ more → take (length ks) (kept_of t ls) ≡ kept_of s ks
first_kept s t ks ls more grid is =
    (λ j. take (sym (kept_long s ks grid) j) (is j)) ∙ take-append_seam (kept_of s ks) more

-- ---- cells are dropped
left_free : (n : ℕ) (o : Option Entry) (e : Entry) → ((x : Entry) → o ≡ Some x → x.next ≡ None) → left_after n o ≡ Some e → e.next ≡ None
left_free zero o e free h = free e h
left_free (suc n) o e free h = absurd (cc)

module _ (s t : Slab Entry) (m w o n : ℕ) (ks : List ℕ) (live : IsLive s ks) (cleared : (q : ℕ) → get t q ≡ left_of s (taken_out m w o n ks) q) where
  pub narrow_live : IsLive t (without m w o n ks)
  narrow_live = record {
    grid = narrow_grid s t m w o n ks live.grid cleared;
    free = λ c e h. left_free (times c (taken_out m w o n ks)) (get s c) e (live.free c) (sym (cleared c) ∙ h);
  }

  pub narrow_kept : kept_of t (without m w o n ks) ≡ without m w o n (kept_of s ks)
  narrow_kept =
      ap (λ (es : List (ℕ × Entry)). map cell_in (values es)) (narrow_values s t m w o n ks live.grid cleared)
      ∙ ap (map cell_in) (without-map (λ p. p.1) m w o n (entries_of s ks))
      ∙ without-map cell_in m w o n (values (entries_of s ks))

-- the first cells are kept
module _ (s t : Slab Entry) (len : ℕ) (ks : List ℕ) (live : IsLive s ks) (cleared : (q : ℕ) → get t q ≡ left_of s (drop len ks) q) where
  gone : (q : ℕ) → get t q ≡ left_of s (taken_out 1 (length ks) len (length ks) ks) q
  gone q = cleared q ∙ ap (λ (xs : List ℕ). left_of s xs q) (sym (behind (length ks) len ks (le_refl (length ks))))

  left : without 1 (length ks) len (length ks) ks ≡ take len ks
  left = before (length ks) len ks (le_refl (length ks))

  pub front_filter : filter (λ q. is_some (get t q)) ks ≡ take len ks
  front_filter = narrow_filter s t 1 (length ks) len (length ks) ks live.grid gone ∙ left

  pub front_live : IsLive t (take len ks)
  front_live = subst (IsLive t) left (narrow_live s t 1 (length ks) len (length ks) ks live gone)

  pub front_kept : kept_of t (take len ks) ≡ take len (kept_of s ks)
  front_kept =
      ap (kept_of t) (sym left)
      ∙ narrow_kept s t 1 (length ks) len (length ks) ks live gone
      ∙ before (length ks) len (kept_of s ks) (omega (arith, kept_long s ks live.grid))

-- ---- cells change their places
module _ (s : Slab Entry) (ks : List ℕ) (start m w n : ℕ) (live : IsLive s ks) where
  pub woven_live : IsLive s (woven m w n (take start ks) (drop start ks))
  woven_live = record { grid = woven_grid s ks start m w n live.grid; free = live.free }

  pub woven_kept : kept_of s (woven m w n (take start ks) (drop start ks)) ≡ woven m w n (take start (kept_of s ks)) (drop start (kept_of s ks))
  woven_kept =
      let es : List (ℕ × Entry) = entries_of s ks in
      ap (λ (xs : List (ℕ × Entry)). map cell_in (values xs)) (woven_values s ks start m w n live.grid)
      ∙ ap (map cell_in) (woven-map (λ p. p.1) m w n (take start es) (drop start es))
      ∙ woven-map cell_in m w n (values (take start es)) (values (drop start es))
      ∙ (λ j. woven m w n (map cell_in (sym (take-map (λ p. p.1) start es) j)) (map cell_in (sym (drop-map (λ p. p.1) start es) j)))
      ∙ (λ j. woven m w n (sym (take-map cell_in start (values es)) j) (sym (drop-map cell_in start (values es)) j))

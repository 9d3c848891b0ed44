-- Modules that are empty, and serving that never began.
use Rattle.std.proofs.Common.{◌≡◌, ℕ, zero, suc, ◌+◌, ◌++◌, List, [], ◌∷◌, length, map, replicate, Option, None, Result, Err, refl, sym, ap, ◌∙◌, arith}
use Rattle.std.proofs.KnownBytes.{Appends-nil, Consumes-nil}
use Rattle.std.specs.FinMap.{empty, empty_of_len, entries, len-empty, len-entries}
use Rattle.std.specs.List.{filter}
use Rattle.ent_values.specs.declared.value.Value.{Value}
use Rattle.ent_policy.specs.declared.document.Tree.{Tree}
use Rattle.ent_finder.specs.Rows as rows
use Rattle.ent_finder.specs.Rows.{Rows, Source, filled_source, is_filled, row_cmp}
use Rattle.ent_finder.specs.Slots.{Slots, held, key_cmp}
use Rattle.ent_finder.proofs.Filled.{entries-filled}
use Rattle.ent_finder.proofs.Held.{entries-held, filled}
use Rattle.ent_eval.specs.LooksOf.{held_by}
use Rattle.ent_eval.specs.Point.{Point, point_of}
use Rattle.ent_request.specs.declared.environment.Environment.TheVariants.{Empty}
use Rattle.ent_table.specs.State.{initial}
use Rattle.ent_table.specs.declared.limits.Limits.{Limits}
use Rattle.ent_report.specs.World.{unmarked}
use Rattle.ent_line.specs.Headline.{Headline, IsHeadline}
use Rattle.ent_line.specs.Step.{Counted}
use Rattle.ent_wire.specs.declared.fault.ServeFault.{ServeFault}
use Rattle.ent_wire.specs.declared.fault.ServeFault.TheVariants.{Memory}
use Rattle.cli_serve.specs.Starting.{no_rows, start_of}
use Rattle.cli_serve.specs.proofs_only.Begun.{begun}

none_of_length : {A : Type 0} (xs : List A) → length xs ≡ 0 → xs ≡ []
none_of_length [] e = refl
none_of_length (x ∷ xs) e = cc

entries-no_slots : entries (empty {X = Option Tree} {R = key_cmp}) ≡ []
entries-no_slots = none_of_length _ (sym (len-entries empty) ∙ len-empty key_cmp (Option Tree))

-- a module without slots holds no document
held-empty : held empty ≡ empty
held-empty = empty_of_len (held empty) (len-entries (held empty) ∙ ap length (entries-held empty ∙ ap filled entries-no_slots))

entries-no_rows : entries (empty {X = List Value} {R = row_cmp}) ≡ []
entries-no_rows = none_of_length _ (sym (len-entries empty) ∙ len-empty row_cmp (List Value))

-- a module without rows has no empty one
filled-empty : rows.filled empty ≡ empty
filled-empty = empty_of_len (rows.filled empty) (len-entries (rows.filled empty) ∙ ap length (entries-filled empty ∙ ap (filter (λ e. is_filled e.1)) entries-no_rows))

filled-no_rows : filled_source no_rows ≡ no_rows
filled-no_rows = ap (λ (m : Rows). record no_rows { rows = m }) filled-empty

replicate-more : {A : Type 0} (x : A) (n : ℕ) → replicate n x ++ x ∷ [] ≡ replicate (n + 1) x
replicate-more x zero = refl
replicate-more x (suc n) = let e : suc n + 1 ≡ suc (n + 1) = omega arith in rw e (ap (λ xs. x ∷ xs) (replicate-more x n))

-- one module more that holds nothing
pub one_more : {A : Type 0} (x : A) (old new : List A) (n : ℕ) → new ≡ old ++ x ∷ [] → old ≡ replicate n x → new ≡ replicate (n + 1) x
one_more x old new n grown before = grown ∙ ap (λ xs. xs ++ x ∷ []) before ∙ replicate-more x n

map-replicate : {A B : Type 0} (f : A → B) (x : A) (y : B) → f x ≡ y → (n : ℕ) → map f (replicate n x) ≡ replicate n y
map-replicate f x y is zero = refl
map-replicate f x y is (suc n) = λ t. is t ∷ map-replicate f x y is n t

-- what modules hold of which each holds the same
alike : {A B : Type 0} (f : A → B) (x : A) (y : B) → f x ≡ y → (xs : List A) (n count : ℕ) → xs ≡ replicate n x → n ≡ count → map f xs ≡ replicate count y
alike f x y is xs n count are all = ap (map f) are ∙ map-replicate f x y is n ∙ ap (λ m. replicate m y) all

-- a decision point over what holds values and documents, with no root, where nothing is known of the time
pub started : (sources : List Source) (slots : List Slots) (pdp : Point) (limits : Limits) → pdp ≡ point_of sources slots
    → initial (held_by pdp) limits ≡ (begun limits sources slots).state
started sources slots pdp limits is = λ t. initial (held_by (is t)) limits

-- modules that hold nothing, as many as are asked for
pub nothing_held : (limits : Limits) (os : List Source) (ms : List Slots) (n m a p : ℕ)
    → os ≡ replicate n no_rows → ms ≡ replicate m empty → n ≡ a → m ≡ p → begun limits os ms ≡ start_of limits a p
nothing_held limits os ms n m a p no_row no_document all_a all_p =
    let rowless = alike filled_source no_rows no_rows filled-no_rows os n a no_row all_a in
    let empty_ones = alike held empty empty held-empty ms m p no_document all_p in λ t. record {
      state = initial (record { root = None; modules = empty_ones t; sources = rowless t; environment = Empty }) limits;
      marks = unmarked;
    }

-- where memory was wanting, nothing was served
pub not_begun : (replies : IsHeadline) (w : Counted) (unread wrote : Option (List ℕ)) (r : Result ℕ ServeFault) → r ≡ Err Memory → (end : Counted) × Headline (record { start = w; end = end; unread = unread; left = unread; wrote = wrote; holds = wrote }) r
not_begun replies w unread wrote r e = rw e (w, record { bytes = (refl, Consumes-nil unread, Appends-nil wrote); replies = replies })

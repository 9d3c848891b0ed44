-- What modules of documents hold after a swap in one of them.
use Rattle.std.proofs.Common.{◌≡◌, ℕ, ◌<◌, cond, List, map, length, Option, Some, IsSome, is_some, slice_set as set, sym, ap, ◌∙◌, arith}
use Rattle.std.specs.FinMap.{empty, get, get-insert, insert}
use Rattle.std.specs.Ordering.{is_eq}
use Rattle.std.proofs.lemmas.Cmp.{tied_itself}
use Rattle.std.proofs.lemmas.List.{get_or-map, get_or-set_same, length-map, map-set}
use Rattle.ent_policy.specs.declared.document.Tree.{Tree}
use Rattle.ent_policy.specs.declared.key.DocKey.{DocKey}
use Rattle.ent_finder.specs.Slots.{Docs, Slots, document_at, held, module_at, with_document}
use Rattle.ent_finder.proofs.Totals.{key_cmp_total}
use Rattle.ent_finder.proofs.Held.{get-held, held-insert}

-- as many modules as there are slots
pub held_within : (ms : List Slots) (n : ℕ) → n < length (map held ms) → n < length ms
held_within ms n h = omega (arith, h, length-map ms held)

-- what a module holds
pub held-module : (ms : List Slots) (n : ℕ) → n < length ms → module_at (map held ms) n ≡ held (module_at ms n)
held-module ms n h = get_or-map held ms n empty empty h

-- what the modules hold after a swap in one of them
pub held-swapped : (ms : List Slots) (n : ℕ) (k : DocKey) (o : Option Tree) → n < length ms
    → map held (set ms n (insert (module_at ms n) k o)) ≡ set (map held ms) n (with_document (module_at (map held ms) n) k o)
held-swapped ms n k o h =
    map-set held ms n _ ∙ ap (set (map held ms) n) (held-insert (module_at ms n) k o ∙ ap (λ (d : Docs). with_document d k o) (sym (held-module ms n h)))

-- what comes out of it
pub held-taken : (ms : List Slots) (n : ℕ) (k : DocKey) → n < length ms → document_at (module_at ms n) k ≡ get (module_at (map held ms) n) k
held-taken ms n k h = sym (get-held (module_at ms n) k) ∙ ap (λ (d : Docs). get d k) (sym (held-module ms n h))

-- the slot is there afterwards
pub there : (ms : List Slots) (n : ℕ) (k : DocKey) (o : Option Tree) → n < length ms → IsSome (get (module_at (set ms n (insert (module_at ms n) k o)) n) k)
there ms n k o h =
    ap (λ (m : Slots). is_some (get m k)) (get_or-set_same ms n (insert (module_at ms n) k o) empty h)
    ∙ ap is_some (get-insert key_cmp_total (module_at ms n) k o k)
    ∙ ap (λ r. is_some (cond (is_eq r) (Some o) (get (module_at ms n) k))) (tied_itself key_cmp_total k)

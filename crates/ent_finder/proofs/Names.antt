-- The order of documents' names, and how slots in the order of their keys stand to a name.
use Rattle.std.proofs.Common.{◌≡◌, Bool, true, false, ◌&&◌, List, refl, sym, ◌∙◌}
use Rattle.std.specs.Bool.{Decides}
use Rattle.std.specs.Cmp.{IsTotalOrder, both_tied, on_total, then_total}
use Rattle.std.specs.Cmp.Lexicographic.{nat_list_cmp_total, slice_cmp}
use Rattle.std.specs.Ordering.{is_eq, nat_cmp, ordering_then}
use Rattle.std.specs.Str.{bytes_eq}
use Rattle.std.proofs.lemmas.Slice.Eq.{bytes_eq-Decides}
use Rattle.ent_policy.specs.Same.{same_kind}
use Rattle.ent_policy.specs.contracts.key.KindOrd.TheImpl.Laws.{total-law}
use Rattle.ent_policy.specs.declared.key.DocKey.{DocKey}
use Rattle.ent_policy.specs.declared.key.Kind.{Kind}
use Rattle.ent_policy.specs.declared.key.Kind.TheVariants.{Policy, PolicySet}
use Rattle.ent_policy.specs.declared.key.Reference.{Reference}
use Rattle.ent_finder.proofs.Keys.{kind_same}
use Rattle.ent_finder.proofs.Orders.{texts_tied, then_assoc, then_less, tied}
use Rattle.ent_finder.proofs.Ranges.{Rises, rises_with}
use Rattle.ent_finder.specs.Entry.{AreSorted, entry_of}
use Rattle.ent_finder.specs.Finding.{is_of}
use Rattle.ent_finder.specs.proofs_only.Order.{Name, kind_cmp, name_cmp, name_of, name_wanted}
use Rattle.ent_finder.specs.Slots.{key_cmp}
use Rattle.ent_finder.specs.declared.slot.DocSlot.{DocSlot}

pub name_cmp_total : IsTotalOrder name_cmp
name_cmp_total = then_total (on_total (λ (n : Name). n.0) total-law) (on_total (λ (n : Name). n.1) nat_list_cmp_total)

-- ---- names of keys and references

pub and_first : (a b : Bool) → (a && b) ≡ true → a ≡ true
and_first true b h = refl
and_first false b h = h

pub and_second : (a b : Bool) → (a && b) ≡ true → b ≡ true
and_second true b h = h
and_second false b h = cc

both_true : (a b : Bool) → a ≡ true → b ≡ true → (a && b) ≡ true
both_true true b p q = q
both_true false b p q = p

kinds_decide : (a b : Kind) → Decides (same_kind a b) (a ≡ b)
kinds_decide Policy Policy = (λ _. refl, λ _. refl)
kinds_decide Policy PolicySet = (λ h. cc, λ h. cc)
kinds_decide PolicySet Policy = (λ h. cc, λ h. cc)
kinds_decide PolicySet PolicySet = (λ _. refl, λ _. refl)

abbrev pub HasName : Reference → DocKey → Type 0
HasName r k = (r.kind ≡ k.kind) × (r.id ≡ k.id)

pub is_of-decides : (r : Reference) (k : DocKey) → Decides (is_of r k) (HasName r k)
is_of-decides r k = (
  λ h. ((kinds_decide r.kind k.kind).0 (and_first _ _ h), (bytes_eq-Decides r.id k.id).0 (and_second (same_kind r.kind k.kind) _ h)),
  λ h. both_true _ _ ((kinds_decide r.kind k.kind).1 h.0) ((bytes_eq-Decides r.id k.id).1 h.1),
)

pub name_tied : (r : Reference) (k : DocKey) → is_eq (name_cmp (name_of k) (name_wanted r)) ≡ is_of r k
name_tied r k =
    sym (both_tied (same_kind r.kind k.kind) (bytes_eq r.id k.id) (kind_cmp k.kind r.kind) (slice_cmp nat_cmp k.id r.id) (tied total-law kind_same same_kind kinds_decide k.kind r.kind) (texts_tied k.id r.id))

-- ---- names rise with the keys

pub names_rise : (ss : List DocSlot) (n : Name) → AreSorted ss → Rises (λ s. name_cmp (name_of s.key) n) ss
names_rise ss n sorted =
    rises_with key_cmp entry_of name_cmp_total (λ (s : DocSlot). name_of s.key)
    (λ x y less.
    let kinds = kind_cmp x.key.kind y.key.kind in
    let ids = slice_cmp nat_cmp x.key.id y.key.id in
    let versions = slice_cmp nat_cmp x.key.version y.key.version in
    then_less (ordering_then kinds ids) versions (then_assoc kinds ids versions ∙ less)) ss sorted n

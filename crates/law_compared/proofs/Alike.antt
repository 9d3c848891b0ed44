-- Plain JSON that fits other plain JSON is that JSON.
use Rattle.std.proofs.Common.{◌≡◌, ℕ, suc, ◌≤◌, ℤ, pos, negsuc, List, Bool, true, false, Some, None, refl}
use Rattle.std.proofs.Common.{sym, ap, ap₂, subst, ◌∙◌, arith}
use Rattle.std.specs.Prelude.{◌&&◌, ◌==◌}
use Rattle.std.specs.Bool.{Decides}
use Rattle.std.specs.Cmp.{signed_Decides, tied_itself}
use Rattle.std.specs.Cmp.Lexicographic.{bytes_decides, nat_list_cmp_total, slice_cmp}
use Rattle.std.specs.FinMap.{nat_cmp-IsAntisymmetric, slice_cmp-IsAntisymmetric}
use Rattle.std.specs.Ordering.{int_eq, nat_cmp, ordering_reverse}
use Rattle.std.proofs.lemmas.Bool.{eq-eqb, eqb-true}
use Rattle.std.specs.declared.cmp.Ordering.{Ordering}
use Rattle.std.specs.declared.cmp.Ordering.TheVariants.{Less, Equal, Greater}
use Rattle.serde_json.specs.Data as json
use Rattle.serde_json.specs.Data.{Data, Items, Members, Num}
use Rattle.serde_json.specs.Events.{members_len}
use Rattle.serde_json.specs.Find.{get_member}
use Rattle.script_matching.specs.Matching.{alike, fits, holds, same_flag, same_number, stand_in}
use Rattle.ent_polform.specs.Plain.{AreBehind, ArePlainItems, ArePlainMembers, IsPlain, IsWholeNumber}

-- ---- keys

abbrev cmp : List ℕ → List ℕ → Ordering
cmp = slice_cmp nat_cmp

same_key : (k l : List ℕ) → cmp k l ≡ Equal → k ≡ l
same_key = slice_cmp-IsAntisymmetric nat_cmp-IsAntisymmetric

turned : (k l : List ℕ) (o : Ordering) → cmp k l ≡ o → cmp l k ≡ ordering_reverse o
turned k l o e = nat_list_cmp_total.antisymm l k ∙ ap ordering_reverse e

-- a key before those of the members isn't one of them
not_there : (k l : List ℕ) (ms : Members) → cmp k l ≡ Less → AreBehind l ms → get_member k ms ≡ None
not_there k l json.no_members e h = refl
not_there k l (json.member m d ms) e h =
    rw (nat_list_cmp_total.trans k l m e (turned m l Greater h.0)) (not_there k l ms e h.1)

-- members behind a key are behind one before it
behind_more : (k l : List ℕ) (ms : Members) → cmp k l ≡ Greater → AreBehind k ms → AreBehind l ms
behind_more k l json.no_members e h = tt
behind_more k l (json.member m d ms) e h = (
  turned l m Less (nat_list_cmp_total.trans l k m (turned k l Greater e) (turned m k Greater h.0)),
  behind_more k
      l ms e h.1,
)

-- ---- objects

both_true : (a b : Bool) → (a && b) ≡ true → (a ≡ true) × (b ≡ true)
both_true true b h = (refl, h)
both_true false b h = absurd cc

-- members behind a key stand in an object wherever they do without it
stand_on : (l : List ℕ) (e : Data) (ms ns : Members) → AreBehind l ms
    → stand_in true ms (json.object (json.member l e ns)) ≡ stand_in true ms (json.object ns)
stand_on l e json.no_members ns h = refl
stand_on l e (json.member k d ms) ns h = rw (h.0, stand_on l e ms ns h.1) refl

-- a key before those of an object doesn't stand in it
stand_before : (k l : List ℕ) (d e : Data) (ms ns : Members) → cmp k l ≡ Less → AreBehind l ns
    → stand_in true (json.member k d ms) (json.object (json.member l e ns)) ≡ true → ⊥
stand_before k l d e ms ns less behind h =
    let none : get_member k (json.member l e ns) ≡ None = rw less (not_there k l ns less behind) in
    let no : holds (fits true d) None ≡ true = ap (holds (fits true d)) (sym none) ∙ (both_true _ _ h).0 in
    absurd cc

-- an object has as many members as stand in it
no_fewer : (ms ns : Members) → ArePlainMembers ms → ArePlainMembers ns → stand_in true ms (json.object ns) ≡ true
    → members_len ms ≤ members_len ns
no_fewer json.no_members ns p q h = omega arith
no_fewer (json.member k d ms) json.no_members p q h = absurd cc
no_fewer (json.member k d ms) (json.member l e ns) p q h =
    by (no_fewer ms ns p.2 q.2) (no_fewer (json.member k d ms) ns p q.2) (cmp k l) refl
  where
    by : (stand_in true ms (json.object ns) ≡ true → members_len ms ≤ members_len ns)
        → (stand_in true (json.member k d ms) (json.object ns) ≡ true → suc (members_len ms) ≤ members_len ns)
        → (o : Ordering) → cmp k l ≡ o → suc (members_len ms) ≤ suc (members_len ns)
    by rest later Less less = absurd (stand_before k l d e ms ns less q.1 h)
    by rest later Equal equal =
        let behind : AreBehind l ms = subst (λ key. AreBehind key ms) (same_key k l equal) p.1 in
        let here = holds (fits true d) (get_member k (json.member l e ns)) in
        let there = (both_true here (stand_in true ms (json.object (json.member l e ns))) h).1 in
        let more : members_len ms ≤ members_len ns = rest (sym (stand_on l e ms ns behind) ∙ there) in
        omega arith
    by rest later Greater greater =
        let more : suc (members_len ms) ≤ members_len ns =
        later (sym (stand_on l e (json.member k d ms) ns (greater, behind_more k l ms greater p.1)) ∙ h) in
        omega arith

-- ---- numbers

integer_same : (n m : ℤ) → int_eq n m ≡ true → n ≡ m
integer_same n m h = (signed_Decides n m).0 h

same_whole : (n m : Num) → IsWholeNumber n → IsWholeNumber m → same_number n m ≡ true → n ≡ m
same_whole (json.unsigned n) (json.unsigned m) p q h = let is = integer_same (pos n) (pos m) h in cc
same_whole (json.unsigned n) (json.negative (pos m)) p q h = absurd q
same_whole (json.unsigned n) (json.negative (negsuc m)) p q h =
    let is = integer_same (pos n) (negsuc m) h in absurd cc
same_whole (json.unsigned n) (json.float x) p q h = absurd q
same_whole (json.negative (pos n)) m p q h = absurd p
same_whole (json.negative (negsuc n)) (json.unsigned m) p q h =
    let is = integer_same (negsuc n) (pos m) h in absurd cc
same_whole (json.negative (negsuc n)) (json.negative m) p q h = ap json.negative (integer_same (negsuc n) m h)
same_whole (json.negative (negsuc n)) (json.float x) p q h = absurd q
same_whole (json.float x) m p q h = absurd p

whole_itself : (n : Num) → IsWholeNumber n → same_number n n ≡ true
whole_itself (json.unsigned n) p = (signed_Decides (pos n) (pos n)).1 refl
whole_itself (json.negative n) p = (signed_Decides n n).1 refl
whole_itself (json.float x) p = absurd p

flag_same : (b c : Bool) → same_flag b c ≡ true → b ≡ c
flag_same true true h = refl
flag_same true false h = absurd cc
flag_same false true h = absurd cc
flag_same false false h = refl

flag_itself : (b : Bool) → same_flag b b ≡ true
flag_itself true = refl
flag_itself false = refl

-- ---- data

mutual
  same_data : (d e : Data) → IsPlain d → IsPlain e → fits true d e ≡ true → d ≡ e
  same_data json.null json.null p q h = refl
  same_data json.null (json.boolean b) p q h = absurd cc
  same_data json.null (json.number n) p q h = absurd cc
  same_data json.null (json.string s) p q h = absurd cc
  same_data json.null (json.array ds) p q h = absurd cc
  same_data json.null (json.object ms) p q h = absurd cc
  same_data (json.boolean a) (json.boolean b) p q h = ap json.boolean (flag_same a b h)
  same_data (json.boolean a) json.null p q h = absurd cc
  same_data (json.boolean a) (json.number n) p q h = absurd cc
  same_data (json.boolean a) (json.string s) p q h = absurd cc
  same_data (json.boolean a) (json.array ds) p q h = absurd cc
  same_data (json.boolean a) (json.object ms) p q h = absurd cc
  same_data (json.number n) (json.number m) p q h = ap json.number (same_whole n m p q h)
  same_data (json.number n) json.null p q h = absurd cc
  same_data (json.number n) (json.boolean b) p q h = absurd cc
  same_data (json.number n) (json.string s) p q h = absurd cc
  same_data (json.number n) (json.array ds) p q h = absurd cc
  same_data (json.number n) (json.object ms) p q h = absurd cc
  same_data (json.string s) (json.string t) p q h = ap json.string ((bytes_decides s t).0 h)
  same_data (json.string s) json.null p q h = absurd cc
  same_data (json.string s) (json.boolean b) p q h = absurd cc
  same_data (json.string s) (json.number n) p q h = absurd cc
  same_data (json.string s) (json.array ds) p q h = absurd cc
  same_data (json.string s) (json.object ms) p q h = absurd cc
  same_data (json.array ds) (json.array es) p q h = ap json.array (same_items ds es p q h)
  same_data (json.array ds) json.null p q h = absurd cc
  same_data (json.array ds) (json.boolean b) p q h = absurd cc
  same_data (json.array ds) (json.number n) p q h = absurd cc
  same_data (json.array ds) (json.string s) p q h = absurd cc
  same_data (json.array ds) (json.object ms) p q h = absurd cc
  same_data (json.object ms) (json.object ns) p q h =
      let both = both_true (members_len ms == members_len ns) (stand_in true ms (json.object ns)) h in
      ap json.object (same_members ms ns p q (eqb-true (members_len ms) (members_len ns) both.0) both.1)
  same_data (json.object ms) json.null p q h = absurd cc
  same_data (json.object ms) (json.boolean b) p q h = absurd cc
  same_data (json.object ms) (json.number n) p q h = absurd cc
  same_data (json.object ms) (json.string s) p q h = absurd cc
  same_data (json.object ms) (json.array ds) p q h = absurd cc

  same_items : (ds es : Items) → ArePlainItems ds → ArePlainItems es → alike ds es ≡ true → ds ≡ es
  same_items json.no_items json.no_items p q h = refl
  same_items json.no_items (json.item e es) p q h = absurd cc
  same_items (json.item d ds) json.no_items p q h = absurd cc
  same_items (json.item d ds) (json.item e es) p q h =
      let both = both_true (fits true d e) (alike ds es) h in
      ap₂ json.item (same_data d e p.0 q.0 both.0) (same_items ds es p.1 q.1 both.1)

  same_members : (ms ns : Members) → ArePlainMembers ms → ArePlainMembers ns → members_len ms ≡ members_len ns
      → stand_in true ms (json.object ns) ≡ true → ms ≡ ns
  same_members json.no_members json.no_members p q len h = refl
  same_members json.no_members (json.member l e ns) p q len h = absurd (omega (arith, len))
  same_members (json.member k d ms) json.no_members p q len h = absurd (omega (arith, len))
  same_members (json.member k d ms) (json.member l e ns) p q len h =
      by (same_data d e p.0 q.0) (same_members ms ns p.2 q.2 (omega (arith, len))) (cmp k l) refl
    where
      by : (fits true d e ≡ true → d ≡ e) → (stand_in true ms (json.object ns) ≡ true → ms ≡ ns) → (o : Ordering)
          → cmp k l ≡ o → json.member k d ms ≡ json.member l e ns
      by one rest Less less = absurd (stand_before k l d e ms ns less q.1 h)
      by one rest Equal equal =
          let key = same_key k l equal in
          let behind : AreBehind l ms = subst (λ x. AreBehind x ms) key p.1 in
          let both = both_true _ _ h in
          let found : get_member k (json.member l e ns) ≡ Some e = rw equal refl in
          let first : d ≡ e = one (ap (holds (fits true d)) (sym found) ∙ both.0) in
          let more : ms ≡ ns = rest (sym (stand_on l e ms ns behind) ∙ both.1) in
          λ i. json.member (key i) (first i) (more i)
      by one rest Greater greater =
          let fewer = no_fewer (json.member k d ms) ns p q.2
          (sym (stand_on l e (json.member k d ms) ns (greater, behind_more k l ms greater p.1)) ∙ h) in
          absurd (omega (arith, len, fewer))

-- ---- data fits itself

-- each of these stands at its key among those
abbrev AreThere : Members → Members → Type 0
AreThere json.no_members ns = Unit {0}
AreThere (json.member k d ms) ns = (get_member k ns ≡ Some d) × AreThere ms ns

there_on : (l : List ℕ) (e : Data) (ms ns : Members) → AreBehind l ms → AreThere ms ns
    → AreThere ms (json.member l e ns)
there_on l e json.no_members ns h there = tt
there_on l e (json.member k d ms) ns h there = (rw h.0 there.0, there_on l e ms ns h.1 there.1)

there_itself : (ms : Members) → ArePlainMembers ms → AreThere ms ms
there_itself json.no_members p = tt
there_itself (json.member k d ms) p =
    (rw (tied_itself nat_list_cmp_total k) refl, there_on k d ms ms p.1 (there_itself ms p.2))

mutual
  data_itself : (d : Data) → IsPlain d → fits true d d ≡ true
  data_itself json.null p = refl
  data_itself (json.boolean b) p = flag_itself b
  data_itself (json.number n) p = whole_itself n p
  data_itself (json.string s) p = (bytes_decides s s).1 refl
  data_itself (json.array ds) p = items_itself ds p
  data_itself (json.object ms) p =
      rw (eq-eqb (members_len ms) (members_len ms) refl) (members_itself ms ms p (there_itself ms p))

  items_itself : (ds : Items) → ArePlainItems ds → alike ds ds ≡ true
  items_itself json.no_items p = refl
  items_itself (json.item d ds) p = rw (data_itself d p.0, items_itself ds p.1) refl

  members_itself : (ms ns : Members) → ArePlainMembers ms → AreThere ms ns → stand_in true ms (json.object ns) ≡ true
  members_itself json.no_members ns p h = refl
  members_itself (json.member k d ms) ns p h = rw (h.0, data_itself d p.0, members_itself ms ns p.2 h.1) refl

-- plain data fits plain data exactly where it is the same
pub fits_decides : (d e : Data) → IsPlain d → IsPlain e → Decides (fits true d e) (d ≡ e)
fits_decides d e p q = (λ h. same_data d e p q h, λ is. subst (λ x. fits true d x ≡ true) is (data_itself d p))

-- Where the recursion of a reader goes, and one level of what it reads.
use Rattle.std.proofs.Common.{◌≡◌, ℕ, zero, suc, ◌<◌, ◌≤◌, max, List, [], ◌∷◌, length, get_or, Option, Some, None, Result, Ordering, Less, Equal, Greater, nat_cmp, codes, refl, subst, arith}
use Rattle.std.specs.Cmp.Lexicographic.{slice_cmp}
use Rattle.std.specs.Ordering.{match_ordering}
use Rattle.serde_json.specs.Data as json
use Rattle.serde_json.specs.Data.{Data, Items, Members, depth, items_depth, members_depth}
use Rattle.serde_json.specs.Find.{get, get_member, as_array}
use Rattle.ent_policy.specs.declared.fault.DocFault.{DocFault}
use Rattle.ent_policy.specs.declared.fault.DocFault.TheVariants as fault
use Rattle.ent_policy.specs.declared.key.Kind.{Kind}
use Rattle.ent_policy.specs.declared.raw.RawChild.{RawChild}
use Rattle.ent_policy.specs.declared.raw.RawExpression.{RawExpression}
use Rattle.ent_json.specs.Objects.{alone, one_member, list_or_empty, list_at}
use Rattle.ent_polform.specs.Objects.{◌>>=◌, each_by, list_by}
use Rattle.ent_polform.specs.Reading.{part, within, nested}
use Rattle.ent_polform.specs.Expressions.{apply_by, expression_named, expression_by, expression_of}
use Rattle.ent_polform.specs.Form.{set_by, raw_named, child_named, child_by, child_of}
use Rattle.ent_polform.specs.Reference.{kind_of}
use Rattle.ent_polform.proofs.FormLemmas.{items_in}

-- ---- what is found lies less deep

found_depth : (o : Ordering) (a b : Option Data) (v e : Data) (n : ℕ) → ((x : Data) → a ≡ Some x → depth x ≤ n) → depth v ≤ n → match_ordering o a (Some v) a ≡ Some e → depth e ≤ n
found_depth Less a b v e n p q h = p e h
found_depth Equal a b v e n p q h = let same : v ≡ e = cc in subst (λ (x : Data). depth x ≤ n) same q
found_depth Greater a b v e n p q h = p e h

depth-get_member : (k : List ℕ) (ms : Members) (e : Data) (n : ℕ) → members_depth ms ≤ n → get_member k ms ≡ Some e → depth e ≤ n
depth-get_member k json.no_members e n le h = absurd cc
depth-get_member k (json.member l d ms) e n le h =
    found_depth (slice_cmp nat_cmp k l) (get_member k ms) None d e n (λ x q. depth-get_member k ms x n (omega arith) q) (omega arith) h

depth-get : (k : List ℕ) (d e : Data) → get k d ≡ Some e → depth e < depth d
depth-get k json.null e h = absurd cc
depth-get k (json.boolean b) e h = absurd cc
depth-get k (json.number n) e h = absurd cc
depth-get k (json.string s) e h = absurd cc
depth-get k (json.array ds) e h = absurd cc
depth-get k (json.object ms) e h = omega (arith, depth-get_member k ms e (members_depth ms) (omega arith) h)

depth-alone : (ms : Members) (m : List ℕ × Data) → alone ms ≡ Some m → depth m.1 ≤ members_depth ms
depth-alone json.no_members m h = absurd cc
depth-alone (json.member k d json.no_members) m h = let same : (k, d) ≡ m = cc in subst (λ (x : List ℕ × Data). depth x.1 ≤ max (depth d) 0) same (omega arith)
depth-alone (json.member k d (json.member l e ms)) m h = absurd cc

pub depth-one_member : (d : Data) (m : List ℕ × Data) → one_member d ≡ Some m → depth m.1 < depth d
depth-one_member json.null m h = absurd cc
depth-one_member (json.boolean b) m h = absurd cc
depth-one_member (json.number n) m h = absurd cc
depth-one_member (json.string s) m h = absurd cc
depth-one_member (json.array ds) m h = absurd cc
depth-one_member (json.object ms) m h = omega (arith, depth-alone ms m h)

depth-as_array : (d : Data) (ds : Items) → as_array d ≡ Some ds → items_depth ds < depth d
depth-as_array json.null ds h = absurd cc
depth-as_array (json.boolean b) ds h = absurd cc
depth-as_array (json.number n) ds h = absurd cc
depth-as_array (json.string s) ds h = absurd cc
depth-as_array (json.array es) ds h = let same : es ≡ ds = cc in subst (λ (x : Items). items_depth x < suc (items_depth es)) same (omega arith)
depth-as_array (json.object ms) ds h = absurd cc

depth-list : (o : Option Data) (n : ℕ) (ds : Items) → ((e : Data) → o ≡ Some e → depth e < n) → list_or_empty o ≡ Some ds → items_depth ds ≤ n
depth-list None n ds h is = let same : json.no_items ≡ ds = cc in subst (λ (x : Items). items_depth x ≤ n) same (omega arith)
depth-list (Some e) n ds h is = omega (arith, h e refl, depth-as_array e ds is)

-- a list lies no deeper than the object that has it
pub depth-list_at : (k : List ℕ) (d : Data) (ds : Items) → list_at k d ≡ Some ds → items_depth ds ≤ depth d
depth-list_at k d ds h = depth-list (get k d) (depth d) ds (λ e is. depth-get k d e is) h

pub depth-item : {B : Type 0} (content : B → Data) (vs : List B) (i : ℕ) (v : B) → i < length vs → v ≡ get_or vs i v → depth (content v) ≤ items_depth (items_in content vs)
depth-item content [] i v h e = absurd (omega arith)
depth-item content (w ∷ vs) zero v h e = rw e (omega arith)
depth-item content (w ∷ vs) (suc i) v h e = omega (arith, depth-item content vs i v (omega arith) e)

-- ---- a reader that reads one level by what reads the levels inside

-- two readers that agree on what lies less deep than n
abbrev AgreeBelow : {A : Type 0} → ℕ → (Data → Result A DocFault) → (Data → Result A DocFault) → Type 0
AgreeBelow n f g = (e : Data) → depth e < n → f e ≡ g e

-- what reads one level uses its reader only for what lies less deep
abbrev LooksInside : {A : Type 0} → ((Data → Result A DocFault) → Data → Result A DocFault) → Type 0
LooksInside {A} by = (f g : Data → Result A DocFault) (d : Data) → AgreeBelow (depth d) f g → by f d ≡ by g d

-- more levels than there are change nothing
within-agree : {A : Type 0} (by : (Data → Result A DocFault) → Data → Result A DocFault) → LooksInside by → (n m : ℕ) (d : Data) → depth d < n → depth d < m → within by n d ≡ within by m d
unfolding within
within-agree by inside zero m d p q = absurd (omega arith)
within-agree by inside (suc n) zero d p q = absurd (omega arith)
within-agree by inside (suc n) (suc m) d p q = inside (within by n) (within by m) d (λ e lt. within-agree by inside n m e (omega arith) (omega arith))

-- one level of what is nested
nested-step : {A : Type 0} (by : (Data → Result A DocFault) → Data → Result A DocFault) → LooksInside by → (d : Data) → nested by d ≡ by (nested by) d
unfolding within
nested-step by inside d = inside (within by (depth d)) (nested by) d (λ e lt. within-agree by inside (depth d) (suc (depth e)) e lt (omega arith))

each_by-agree : {A : Type 0} (n : ℕ) (f g : Data → Result A DocFault) (ds : Items) → AgreeBelow n f g → items_depth ds < n → each_by f ds ≡ each_by g ds
each_by-agree n f g json.no_items h le = refl
each_by-agree n f g (json.item d ds) h le = rw (h d (omega arith), each_by-agree n f g ds h (omega arith)) refl

list_by-agree : {A : Type 0} (n : ℕ) (f g : Data → Result A DocFault) (o : Option Items) → AgreeBelow n f g → ((ds : Items) → o ≡ Some ds → items_depth ds < n) → list_by fault.Form f o ≡ list_by fault.Form g o
list_by-agree n f g None h le = refl
list_by-agree n f g (Some ds) h le = each_by-agree n f g ds h (le ds refl)

member-agree : {A : Type 0} (n : ℕ) (f g : List ℕ → Data → Result A DocFault) (o : Option (List ℕ × Data)) → ((m : List ℕ × Data) → o ≡ Some m → depth m.1 < n) → ((k : List ℕ) (d : Data) → depth d < n → f k d ≡ g k d)
    → (part o >>= λ m. f m.0 m.1) ≡ (part o >>= λ m. g m.0 m.1)
member-agree n f g None le h = refl
member-agree n f g (Some m) le h = h m.0 m.1 (le m refl)

-- ---- expressions

apply_by-agree : (n : ℕ) (f g : Data → Result RawExpression DocFault) (d : Data) → AgreeBelow n f g → depth d < n → apply_by f d ≡ apply_by g d
unfolding apply_by
apply_by-agree n f g d h le = rw (list_by-agree n f g (list_at (codes "Arguments") d) h (λ ds is. omega (arith, depth-list_at (codes "Arguments") d ds is))) refl

expression_named-agree : (n : ℕ) (f g : Data → Result RawExpression DocFault) (k : List ℕ) (d : Data) → AgreeBelow n f g → depth d < n → expression_named f k d ≡ expression_named g k d
unfolding expression_named
expression_named-agree n f g k d h le = rw (apply_by-agree n f g d h le) refl

-- one level of an expression
pub expression_of-step : (d : Data) → expression_of d ≡ expression_by expression_of d
unfolding expression_of
expression_of-step d = nested-step expression_by (λ f g d h. member-agree (depth d) (expression_named f) (expression_named g) (one_member d) (λ m is. depth-one_member d m is) (λ k e lt. expression_named-agree (depth d) f g k e h lt)) d

-- ---- children of sets

set_by-agree : (n : ℕ) (f g : Data → Result RawChild DocFault) (d : Data) → AgreeBelow n f g → depth d < n → set_by f d ≡ set_by g d
unfolding set_by
set_by-agree n f g d h le = rw (list_by-agree n f g (list_at (codes "Children") d) h (λ ds is. omega (arith, depth-list_at (codes "Children") d ds is))) refl

child_named-agree : (n : ℕ) (f g : Data → Result RawChild DocFault) (k : List ℕ) (d : Data) (o : Option Kind) → AgreeBelow n f g → depth d < n → child_named f k d o ≡ child_named g k d o
unfolding raw_named
child_named-agree n f g k d (Some kind) h le = refl
child_named-agree n f g k d None h le = rw (set_by-agree n f g d h le) refl

-- one level of a child
pub child_of-step : (d : Data) → child_of d ≡ child_by child_of d
unfolding child_of
child_of-step d = nested-step child_by (λ f g d h. member-agree (depth d) (λ k e. child_named f k e (kind_of k)) (λ k e. child_named g k e (kind_of k)) (one_member d) (λ m is. depth-one_member d m is) (λ k e lt. child_named-agree (depth d) f g k e (kind_of k) h lt)) d

-- What stands inside a part lies less deep.
use Rattle.std.proofs.Common.{◌≡◌, ℕ, suc, ◌<◌, ◌≤◌, List, [], ◌∷◌, ◌++◌, Option, Some, None, Ordering, Less, Equal, Greater, nat_cmp, codes, refl, subst, arith}
use Rattle.std.specs.Cmp.Lexicographic.{slice_cmp}
use Rattle.std.specs.Ordering.{match_ordering}
use Rattle.std.specs.Fmt.{decimal}
use Rattle.std.specs.List.{All, Contains, flat_map}
use Rattle.std.proofs.lemmas.List.Elements.{All-nil, All-cons, All-append}
use Rattle.serde_json.specs.Data as json
use Rattle.serde_json.specs.Data.{Data, Items, Members, depth, items_depth, members_depth}
use Rattle.serde_json.specs.Find.{as_array, get, get_member}
use Rattle.lint_places.specs.Parts.{Row, item, rows}
use Rattle.lint_places.specs.Places.{Spot, at_key, at_keys, at_numbers, in_list, inside, listed, scope_at, scope_in, scope_of_member}
use Rattle.lint_places.specs.Told.{members_of}
use Rattle.lint_places.specs.declared.part.Part.{Part}

-- ---- data in data

found_depth : (o : Ordering) (a b : Option Data) (v e : Data) (n : ℕ) → ((x : Data) → a ≡ Some x → depth x ≤ n) → depth v ≤ n → match_ordering o a (Some v) a ≡ Some e → depth e ≤ n
found_depth Less a b v e n p q h = p e h
found_depth Equal a b v e n p q h = let same : v ≡ e = cc in subst (λ (x : Data). depth x ≤ n) same q
found_depth Greater a b v e n p q h = p e h

depth-get_member : (k : List ℕ) (ms : Members) (e : Data) (n : ℕ) → members_depth ms ≤ n → get_member k ms ≡ Some e → depth e ≤ n
depth-get_member k json.no_members e n le h = absurd cc
depth-get_member k (json.member l d ms) e n le h =
    found_depth (slice_cmp nat_cmp k l) (get_member k ms) None d e n (λ x q. depth-get_member k ms x n (omega arith) q) (omega arith) h

pub depth-get : (k : List ℕ) (d e : Data) → get k d ≡ Some e → depth e < depth d
depth-get k json.null e h = absurd cc
depth-get k (json.boolean b) e h = absurd cc
depth-get k (json.number n) e h = absurd cc
depth-get k (json.string s) e h = absurd cc
depth-get k (json.array ds) e h = absurd cc
depth-get k (json.object ms) e h = omega (arith, depth-get_member k ms e (members_depth ms) (omega arith) h)

-- the members of an array
pub depth-as_array : (d : Data) (ds : Items) → as_array d ≡ Some ds → items_depth ds < depth d
depth-as_array json.null ds h = absurd cc
depth-as_array (json.boolean b) ds h = absurd cc
depth-as_array (json.number n) ds h = absurd cc
depth-as_array (json.string s) ds h = absurd cc
depth-as_array (json.array es) ds h = let same : es ≡ ds = cc in subst (λ (x : Items). items_depth x < suc (items_depth es)) same (omega arith)
depth-as_array (json.object ms) ds h = absurd cc

-- data that lies less deep than n
abbrev IsBelow : ℕ → Data → Type 0
IsBelow n d = depth d < n

members_below : (n : ℕ) (ds : Items) → items_depth ds < n → All (IsBelow n) (members_of ds)
members_below n json.no_items le = All-nil _
members_below n (json.item d ds) le = All-cons (IsBelow n) d (members_of ds) (omega arith) (members_below n ds (omega arith))

listed_below : (d : Data) → All (IsBelow (depth d)) (listed (Some d))
listed_below json.null = All-nil _
listed_below (json.boolean b) = All-nil _
listed_below (json.number n) = All-nil _
listed_below (json.string s) = All-nil _
listed_below (json.array ds) = members_below (depth (json.array ds)) ds (omega arith)
listed_below (json.object ms) = All-nil _

-- ---- spots inside spots

-- a spot whose data lies less deep than n
abbrev IsSpotBelow : ℕ → Spot → Type 0
IsSpotBelow n t = depth t.json < n

only_below : (n : ℕ) (t : Spot) → IsSpotBelow n t → All (IsSpotBelow n) (t ∷ [])
only_below n t h = All-cons (IsSpotBelow n) t [] h (All-nil (IsSpotBelow n))

also_below : (n : ℕ) (t : Spot) (ts : List Spot) → IsSpotBelow n t → All (IsSpotBelow n) ts → All (IsSpotBelow n) (t ∷ ts)
also_below n t ts h hs = All-cons (IsSpotBelow n) t ts h hs

key_below : (s : Spot) (row : Row) (o : Option Data) → ((e : Data) → o ≡ Some e → depth e < depth s.json) → All (IsSpotBelow (depth s.json)) (at_key s row o)
key_below s row None h = All-nil _
key_below s row (Some e) h = only_below (depth s.json)
    (record { pointer = s.pointer ++ codes "/" ++ row.0; part = row.1; scope = scope_at row.1 (scope_in s.part s.scope s.json); json = e }) (h e refl)

rows_below : (s : Spot) (rs : List Row) → All (IsSpotBelow (depth s.json)) (flat_map (λ row. at_key s row (get row.0 s.json)) rs)
rows_below s [] = All-nil _
rows_below s (r ∷ rs) = All-append (IsSpotBelow (depth s.json)) (at_key s r (get r.0 s.json)) _ (key_below s r (get r.0 s.json) (λ e is. depth-get r.0 s.json e is)) (rows_below s rs)

numbers_below : (s : Spot) (p : Part) (all : List Data) (n : ℕ) (ds : List Data) → All (IsBelow (depth s.json)) ds → All (IsSpotBelow (depth s.json)) (at_numbers s p all n ds)
numbers_below s p all n [] h = All-nil _
numbers_below s p all n (d ∷ ds) h = also_below (depth s.json)
    (record { pointer = s.pointer ++ codes "/" ++ decimal n; part = p; scope = scope_of_member s.part s.scope all n; json = d })
    (at_numbers s p all (suc n) ds) (h 0 d (omega arith)) (numbers_below s p all (suc n) ds (λ k e lt. h (suc k) e (omega arith)))

list_below : (s : Spot) (o : Option Part) → All (IsSpotBelow (depth s.json)) (in_list s o)
list_below s None = All-nil _
list_below s (Some p) = numbers_below s p (listed (Some s.json)) 0 (listed (Some s.json)) (listed_below s.json)

inside_below : (s : Spot) → All (IsSpotBelow (depth s.json)) (inside s)
inside_below s = All-append (IsSpotBelow (depth s.json)) (at_keys s) _ (rows_below s (rows s.part)) (list_below s (item s.part))

-- what stands inside lies less deep
pub depth-inside : (s t : Spot) → Contains (inside s) t → depth t.json < depth s.json
depth-inside s t c = let below = inside_below s c.0 t c.1 in subst (λ (x : Spot). depth x.json < depth s.json) c.2 below

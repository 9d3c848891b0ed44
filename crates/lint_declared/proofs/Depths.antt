-- What stands in a JSON value lies less deep.
use Rattle.std.proofs.Common.{◌≡◌, ℕ, suc, ◌<◌, ◌≤◌, List, Option, Some, None, Ordering, Less, Equal, Greater, nat_cmp, subst, arith}
use Rattle.std.specs.Cmp.Lexicographic.{slice_cmp}
use Rattle.std.specs.Ordering.{match_ordering}
use Rattle.serde_json.specs.Data as json
use Rattle.serde_json.specs.Data.{Data, Items, Members, depth, items_depth, members_depth}
use Rattle.serde_json.specs.Find.{get, get_member, as_array}

found_depth : (o : Ordering) (a b : Option Data) (v e : Data) (n : ℕ) → ((x : Data) → a ≡ Some x → depth x ≤ n) → depth v ≤ n → match_ordering o a (Some v) a ≡ Some e → depth e ≤ n
found_depth Less a b v e n p q h = p e h
found_depth Equal a b v e n p q h = let same : v ≡ e = cc in subst (λ (x : Data). depth x ≤ n) same q
found_depth Greater a b v e n p q h = p e h

depth-get_member : (k : List ℕ) (ms : Members) (e : Data) (n : ℕ) → members_depth ms ≤ n → get_member k ms ≡ Some e → depth e ≤ n
depth-get_member k json.no_members e n le h = absurd cc
depth-get_member k (json.member l d ms) e n le h =
    found_depth (slice_cmp nat_cmp k l) (get_member k ms) None d e n (λ x q. depth-get_member k ms x n (omega arith) q) (omega arith) h

-- what stands at a key of an object
pub depth-get : (k : List ℕ) (d e : Data) → get k d ≡ Some e → depth e < depth d
depth-get k json.null e h = absurd cc
depth-get k (json.boolean b) e h = absurd cc
depth-get k (json.number n) e h = absurd cc
depth-get k (json.string s) e h = absurd cc
depth-get k (json.array ds) e h = absurd cc
depth-get k (json.object ms) e h = omega (arith, depth-get_member k ms e (members_depth ms) (omega arith) h)

-- the members of an array
pub depth-as_array : (d : Data) (ds : Items) → as_array d ≡ Some ds → items_depth ds < depth d
depth-as_array json.null ds h = absurd cc
depth-as_array (json.boolean b) ds h = absurd cc
depth-as_array (json.number n) ds h = absurd cc
depth-as_array (json.string s) ds h = absurd cc
depth-as_array (json.array es) ds h = let same : es ≡ ds = cc in subst (λ (x : Items). items_depth x < suc (items_depth es)) same (omega arith)
depth-as_array (json.object ms) ds h = absurd cc

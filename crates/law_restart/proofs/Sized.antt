-- The whole numbers of JSON that is read have 64 bits.
use Rattle.std.proofs.Common.{◌≡◌, ℕ, zero, suc, ◌≤◌, ◌<◌, ◌^◌, List, Bool, true, false, Option, Some, None, nat_lt, nat_le, refl, subst, arith}
use Rattle.std.specs.Prelude.{◌&&◌, ◌==◌, option_and_then, option_map, if◌then◌else◌, slice_index, drop}
use Rattle.std.specs.Cmp.Lexicographic.{slice_cmp}
use Rattle.std.specs.Ordering.{nat_cmp, match_ordering}
use Rattle.std.specs.Float.{float_is_finite}
use Rattle.std.specs.Str.{is_utf8}
use Rattle.std.specs.declared.cmp.Ordering.{Ordering}
use Rattle.std.specs.declared.cmp.Ordering.TheVariants.{Less, Equal, Greater}
use Rattle.std.proofs.lemmas.Bool.{ltb-true, leb-true}
use Rattle.fast_float.specs.Text.{Parts, digits_of, minus, nearest, scan, with_sign}
use Rattle.std.specs.Float.{binary64}
use Rattle.json.specs.Json as text
use Rattle.json.specs.Lex.{tokens}
use Rattle.serde_json.specs.Data as json
use Rattle.serde_json.specs.Data.{Data, Items, Members, Num, put}
use Rattle.serde_json.specs.Find.{as_array, get, get_member}
use Rattle.serde_json.specs.Read.{float_of, is_integer, max_depth, number_from, number_of, of_items, of_json, of_members, read}
use Rattle.ent_json.specs.Line.{data_of}
use Rattle.ent_polform.proofs.TypedValues.{AreSized, AreSizedMembers, IsSized, IsSizedNumber, then_there}

-- ---- what is read

float_sized : (sign : Bool) (p : Parts) (n : Num) → float_of sign p ≡ Some n → IsSizedNumber n
float_sized sign p n h = by (float_is_finite (nearest binary64 sign p)) h
  where
    by : (b : Bool) → (if b then Some (json.float (nearest binary64 sign p)) else None) ≡ Some n → IsSizedNumber n
    by true h = let same : json.float (nearest binary64 sign p) ≡ n = cc in subst IsSizedNumber same tt
    by false h = absurd cc

negative_sized : (k : ℕ) → 0 < k → k ≤ 2 ^ 63 → IsSizedNumber (json.negative (with_sign true k))
negative_sized zero h g = absurd (omega arith)
negative_sized (suc k) h g = omega arith

from_sized : (sign : Bool) (p : Parts) (n : Num) → number_from sign p ≡ Some n → IsSizedNumber n
from_sized false p n h = by (is_integer p && nat_lt (digits_of p) (2 ^ 64)) h
  where
    by : (b : Bool) → (if b then Some (json.unsigned (digits_of p)) else float_of false p) ≡ Some n → IsSizedNumber n
    by true h = let same : json.unsigned (digits_of p) ≡ n = cc in subst IsSizedNumber same tt
    by false h = float_sized false p n h
from_sized true p n h = by (is_integer p) (nat_lt 0 (digits_of p)) (nat_le (digits_of p) (2 ^ 63)) refl refl h
  where
    by : (a b c : Bool) → nat_lt 0 (digits_of p) ≡ b → nat_le (digits_of p) (2 ^ 63) ≡ c → (if (a && b) && c then Some (json.negative (with_sign true (digits_of p))) else float_of true p) ≡ Some n → IsSizedNumber n
    by true true true e f h =
        let same : json.negative (with_sign true (digits_of p)) ≡ n = cc in
        subst IsSizedNumber same (negative_sized (digits_of p) (ltb-true 0 (digits_of p) e) (leb-true (digits_of p) (2 ^ 63) f))
    by true true false e f h = float_sized true p n h
    by true false c e f h = float_sized true p n h
    by false b c e f h = float_sized true p n h

number_sized : (s : List ℕ) (n : Num) → number_of s ≡ Some n → IsSizedNumber n
unfolding number_of
number_sized s n h = by (slice_index s 0 == minus) h
  where
    by : (b : Bool) → (if b then number_from true (scan (drop 1 s)) else number_from false (scan s)) ≡ Some n → IsSizedNumber n
    by true h = from_sized true (scan (drop 1 s)) n h
    by false h = from_sized false (scan s) n h

put_by : (o : Ordering) (k l : List ℕ) (d e : Data) (ms more : Members) → IsSized d → IsSized e → AreSizedMembers ms → AreSizedMembers more
    → AreSizedMembers (match_ordering o (json.member k d (json.member l e ms)) (json.member l d ms) (json.member l e more))
put_by Less k l d e ms more p q h g = (p, (q, h))
put_by Equal k l d e ms more p q h g = (p, h)
put_by Greater k l d e ms more p q h g = (q, g)

put_sized : (k : List ℕ) (d : Data) (ms : Members) → IsSized d → AreSizedMembers ms → AreSizedMembers (put k d ms)
put_sized k d json.no_members p h = (p, tt)
put_sized k d (json.member l e ms) p h = put_by (slice_cmp nat_cmp k l) k l d e ms (put k d ms) p h.0 h.1 (put_sized k d ms p h.1)

-- what is made of what was there
mapped : {A B : Type 0} (P : B → Type 0) (f : A → B) (o : Option A) (y : B) → option_map f o ≡ Some y → ((x : A) → o ≡ Some x → P (f x)) → P y
mapped P f (Some x) y h good = let same : f x ≡ y = cc in subst P same (good x refl)
mapped P f None y h good = absurd cc

mutual
  value_sized : (j : text.Json) (d : Data) → of_json j ≡ Some d → IsSized d
  value_sized text.null d h = let same : json.null ≡ d = cc in subst IsSized same tt
  value_sized (text.boolean b) d h = let same : json.boolean b ≡ d = cc in subst IsSized same tt
  value_sized (text.number s) d h = mapped IsSized json.number (number_of s) d h (λ n is. number_sized s n is)
  value_sized (text.string s) d h = let same : json.string s ≡ d = cc in subst IsSized same tt
  value_sized (text.array js) d h = mapped IsSized json.array (of_items js) d h (λ ds is. items_sized js ds is)
  value_sized (text.object ms) d h = mapped IsSized json.object (of_members ms json.no_members) d h (λ found is. members_sized ms json.no_members found tt is)

  items_sized : (js : text.Items) (ds : Items) → of_items js ≡ Some ds → AreSized ds
  items_sized text.no_items ds h = let same : json.no_items ≡ ds = cc in subst AreSized same tt
  items_sized (text.item j js) ds h =
      let one = then_there (λ d. option_map (json.item d) (of_items js)) (of_json j) ds h in
      mapped AreSized (json.item one.0) (of_items js) ds one.1.1 (λ rest is. (value_sized j one.0 one.1.0, items_sized js rest is))

  members_sized : (ms : text.Members) (found all : Members) → AreSizedMembers found → of_members ms found ≡ Some all → AreSizedMembers all
  members_sized text.no_members found all good h = let same : found ≡ all = cc in subst AreSizedMembers same good
  members_sized (text.member k j ms) found all good h =
      let one = then_there (λ d. of_members ms (put k d found)) (of_json j) all h in
      members_sized ms (put k one.0 found) all (put_sized k one.0 found (value_sized j one.0 one.1.0) good) one.1.1

pub line_sized : (line : List ℕ) (d : Data) → data_of line ≡ Some d → IsSized d
line_sized line d h = by (is_utf8 line) h
  where
    by : (b : Bool) → (if b then read line else None) ≡ Some d → IsSized d
    by true h = let one = then_there of_json (option_and_then (λ p. text.if_last p.0 p.1) (text.value max_depth (tokens line))) d h in value_sized one.0 d one.1.1
    by false h = absurd cc

-- ---- what is found in it

found_sized : (o : Ordering) (a : Option Data) (v e : Data) → ((x : Data) → a ≡ Some x → IsSized x) → IsSized v → match_ordering o a (Some v) a ≡ Some e → IsSized e
found_sized Less a v e p q h = p e h
found_sized Equal a v e p q h = let same : v ≡ e = cc in subst IsSized same q
found_sized Greater a v e p q h = p e h

member_sized : (k : List ℕ) (ms : Members) (e : Data) → AreSizedMembers ms → get_member k ms ≡ Some e → IsSized e
member_sized k json.no_members e h is = absurd cc
member_sized k (json.member l d ms) e h is = found_sized (slice_cmp nat_cmp k l) (get_member k ms) d e (λ x q. member_sized k ms x h.1 q) h.0 is

pub get_sized : (k : List ℕ) (d e : Data) → IsSized d → get k d ≡ Some e → IsSized e
get_sized k json.null e h is = absurd cc
get_sized k (json.boolean b) e h is = absurd cc
get_sized k (json.number n) e h is = absurd cc
get_sized k (json.string s) e h is = absurd cc
get_sized k (json.array ds) e h is = absurd cc
get_sized k (json.object ms) e h is = member_sized k ms e h is

pub array_sized : (d : Data) (ds : Items) → IsSized d → as_array d ≡ Some ds → AreSized ds
array_sized json.null ds h is = absurd cc
array_sized (json.boolean b) ds h is = absurd cc
array_sized (json.number n) ds h is = absurd cc
array_sized (json.string s) ds h is = absurd cc
array_sized (json.array es) ds h is = let same : es ≡ ds = cc in subst AreSized same h
array_sized (json.object ms) ds h is = absurd cc

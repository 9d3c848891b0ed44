-- The texts and keys of JSON that is read of a line are UTF-8.
use Rattle.std.proofs.Common.{◌≡◌, ℕ, List, Bool, true, false, Option, Some, None, option_and_then, option_map, refl, subst, IsUtf8}
use Rattle.std.specs.Prelude.{if◌then◌else◌}
use Rattle.std.specs.Str.{is_utf8}
use Rattle.std.proofs.lemmas.Str.{IsUtf8-from_is_utf8}
use Rattle.json.specs.Lex.{tokens}
use Rattle.json.specs.Json as text
use Rattle.serde_json.specs.Data as json
use Rattle.serde_json.specs.Data.{Data, Items, Members, put}
use Rattle.serde_json.specs.Read.{max_depth, number_of, of_items, of_json, of_members, read}
use Rattle.std.specs.Cmp.Lexicographic.{slice_cmp}
use Rattle.std.specs.Ordering.{match_ordering, nat_cmp}
use Rattle.std.specs.declared.cmp.Ordering.{Ordering}
use Rattle.std.specs.declared.cmp.Ordering.TheVariants.{Less, Equal, Greater}
use Rattle.serde_json.specs.Find.{as_array, as_str, get, get_member}
use Rattle.ent_json.specs.Line.{data_of}
use Rattle.ent_json.specs.Objects.{filled, filled_list_at, list_at, list_or_empty, one_member, text_at}
use Rattle.law_restart.proofs.Utf8Tokens.{AreCleanItems, AreCleanMembers, IsCleanJson, parsed_clean}

-- each text and each key in it is UTF-8
abbrev mutual
  pub IsUtf8Data : Data → Type 0
  IsUtf8Data json.null = Unit {0}
  IsUtf8Data (json.boolean b) = Unit {0}
  IsUtf8Data (json.number n) = Unit {0}
  IsUtf8Data (json.string s) = IsUtf8 s
  IsUtf8Data (json.array ds) = AreUtf8Items ds
  IsUtf8Data (json.object ms) = AreUtf8Members ms

  pub AreUtf8Items : Items → Type 0
  AreUtf8Items json.no_items = Unit {0}
  AreUtf8Items (json.item d ds) = IsUtf8Data d × AreUtf8Items ds

  pub AreUtf8Members : Members → Type 0
  AreUtf8Members json.no_members = Unit {0}
  AreUtf8Members (json.member k d ms) = IsUtf8 k × IsUtf8Data d × AreUtf8Members ms

-- what is there, if it is there, is so
abbrev pub IfThere : {A : Type 0} → (A → Type 0) → Option A → Type 0
IfThere P None = Unit {0}
IfThere P (Some x) = P x

-- ---- as data

put_by : (o : Ordering) (k l : List ℕ) (d e : Data) (ms more : Members) → IsUtf8 k → IsUtf8 l → IsUtf8Data d → IsUtf8Data e → AreUtf8Members ms → AreUtf8Members more
    → AreUtf8Members (match_ordering o (json.member k d (json.member l e ms)) (json.member l d ms) (json.member l e more))
put_by Less k l d e ms more a b p q h g = (a, p, (b, q, h))
put_by Equal k l d e ms more a b p q h g = (b, p, h)
put_by Greater k l d e ms more a b p q h g = (b, q, g)

pub put_utf8 : (k : List ℕ) (d : Data) (ms : Members) → IsUtf8 k → IsUtf8Data d → AreUtf8Members ms → AreUtf8Members (put k d ms)
put_utf8 k d json.no_members a p h = (a, p, tt)
put_utf8 k d (json.member l e ms) a p h = put_by (slice_cmp nat_cmp k l) k l d e ms (put k d ms) a h.0 p h.1 h.2 (put_utf8 k d ms a p h.2)

mapped : {A B : Type 0} (P : B → Type 0) (f : A → B) (o : Option A) (y : B) → option_map f o ≡ Some y → ((x : A) → o ≡ Some x → P (f x)) → P y
mapped P f (Some x) y h good = let same : f x ≡ y = cc in subst P same (good x refl)
mapped P f None y h good = absurd cc

then_there : {A B : Type 0} (f : A → Option B) (o : Option A) (y : B) → option_and_then f o ≡ Some y → (x : A) × ((o ≡ Some x) × (f x ≡ Some y))
then_there f (Some x) y h = (x, (refl, h))
then_there f None y h = absurd cc

mutual
  value_utf8 : (j : text.Json) (d : Data) → IsCleanJson j → of_json j ≡ Some d → IsUtf8Data d
  value_utf8 text.null d g h = let same : json.null ≡ d = cc in subst IsUtf8Data same tt
  value_utf8 (text.boolean b) d g h = let same : json.boolean b ≡ d = cc in subst IsUtf8Data same tt
  value_utf8 (text.number s) d g h = mapped IsUtf8Data json.number (number_of s) d h (λ n is. tt)
  value_utf8 (text.string s) d g h = let same : json.string s ≡ d = cc in subst IsUtf8Data same g
  value_utf8 (text.array js) d g h = mapped IsUtf8Data json.array (of_items js) d h (λ ds is. items_utf8 js ds g is)
  value_utf8 (text.object ms) d g h = mapped IsUtf8Data json.object (of_members ms json.no_members) d h (λ found is. members_utf8 ms json.no_members found g tt is)

  items_utf8 : (js : text.Items) (ds : Items) → AreCleanItems js → of_items js ≡ Some ds → AreUtf8Items ds
  items_utf8 text.no_items ds g h = let same : json.no_items ≡ ds = cc in subst AreUtf8Items same tt
  items_utf8 (text.item j js) ds g h =
      let one = then_there (λ d. option_map (json.item d) (of_items js)) (of_json j) ds h in
      mapped AreUtf8Items (json.item one.0) (of_items js) ds one.1.1 (λ rest is. (value_utf8 j one.0 g.0 one.1.0, items_utf8 js rest g.1 is))

  members_utf8 : (ms : text.Members) (found all : Members) → AreCleanMembers ms → AreUtf8Members found → of_members ms found ≡ Some all → AreUtf8Members all
  members_utf8 text.no_members found all g good h = let same : found ≡ all = cc in subst AreUtf8Members same good
  members_utf8 (text.member k j ms) found all g good h =
      let one = then_there (λ d. of_members ms (put k d found)) (of_json j) all h in
      members_utf8 ms (put k one.0 found) all g.2 (put_utf8 k one.0 found g.0 (value_utf8 j one.0 g.1 one.1.0) good) one.1.1

-- ---- a line

pub line_utf8 : (line : List ℕ) (d : Data) → data_of line ≡ Some d → IsUtf8Data d
line_utf8 line d h = by (is_utf8 line) refl h
  where
    by : (b : Bool) → is_utf8 line ≡ b → (if b then read line else None) ≡ Some d → IsUtf8Data d
    by true e h =
        let whole = then_there of_json (option_and_then (λ p. text.if_last p.0 p.1) (text.value max_depth (tokens line))) d h in
        value_utf8 whole.0 d (parsed_clean max_depth line whole.0 (IsUtf8-from_is_utf8 line e) whole.1.0) whole.1.1
    by false e h = absurd cc

-- ---- what is found in it

found_utf8 : (o : Ordering) (a : Option Data) (v e : Data) → ((x : Data) → a ≡ Some x → IsUtf8Data x) → IsUtf8Data v → match_ordering o a (Some v) a ≡ Some e → IsUtf8Data e
found_utf8 Less a v e p q h = p e h
found_utf8 Equal a v e p q h = let same : v ≡ e = cc in subst IsUtf8Data same q
found_utf8 Greater a v e p q h = p e h

member_utf8 : (k : List ℕ) (ms : Members) (e : Data) → AreUtf8Members ms → get_member k ms ≡ Some e → IsUtf8Data e
member_utf8 k json.no_members e h is = absurd cc
member_utf8 k (json.member l d ms) e h is = found_utf8 (slice_cmp nat_cmp k l) (get_member k ms) d e (λ x q. member_utf8 k ms x h.2 q) h.1 is

get_found : (k : List ℕ) (d e : Data) → IsUtf8Data d → get k d ≡ Some e → IsUtf8Data e
get_found k json.null e h is = absurd cc
get_found k (json.boolean b) e h is = absurd cc
get_found k (json.number n) e h is = absurd cc
get_found k (json.string s) e h is = absurd cc
get_found k (json.array ds) e h is = absurd cc
get_found k (json.object ms) e h is = member_utf8 k ms e h is

if_there : {A : Type 0} (P : A → Type 0) (o : Option A) → ((x : A) → o ≡ Some x → P x) → IfThere P o
if_there P None h = tt
if_there P (Some x) h = h x refl

and_there : {A B : Type 0} (P : A → Type 0) (Q : B → Type 0) (f : A → Option B) (o : Option A) → IfThere P o → ((x : A) → P x → IfThere Q (f x)) → IfThere Q (option_and_then f o)
and_there P Q f None h g = tt
and_there P Q f (Some x) h g = g x h

-- what stands at a key
pub get_utf8 : (k : List ℕ) (d : Data) → IsUtf8Data d → IfThere IsUtf8Data (get k d)
get_utf8 k d h = if_there IsUtf8Data (get k d) (λ e is. get_found k d e h is)

pub str_utf8 : (d : Data) → IsUtf8Data d → IfThere IsUtf8 (as_str d)
str_utf8 json.null h = tt
str_utf8 (json.boolean b) h = tt
str_utf8 (json.number n) h = tt
str_utf8 (json.string s) h = h
str_utf8 (json.array ds) h = tt
str_utf8 (json.object ms) h = tt

pub array_utf8 : (d : Data) → IsUtf8Data d → IfThere AreUtf8Items (as_array d)
array_utf8 json.null h = tt
array_utf8 (json.boolean b) h = tt
array_utf8 (json.number n) h = tt
array_utf8 (json.string s) h = tt
array_utf8 (json.array ds) h = h
array_utf8 (json.object ms) h = tt

pub text_utf8 : (k : List ℕ) (d : Data) → IsUtf8Data d → IfThere IsUtf8 (text_at k d)
text_utf8 k d h = and_there IsUtf8Data IsUtf8 as_str (get k d) (get_utf8 k d h) str_utf8

-- the list at a key
pub list_utf8 : (k : List ℕ) (d : Data) → IsUtf8Data d → IfThere AreUtf8Items (list_at k d)
list_utf8 k d h = by (get k d) (get_utf8 k d h)
  where
    by : (o : Option Data) → IfThere IsUtf8Data o → IfThere AreUtf8Items (list_or_empty o)
    by None g = tt
    by (Some e) g = array_utf8 e g

filled_utf8 : (ds : Items) → AreUtf8Items ds → IfThere AreUtf8Items (filled ds)
filled_utf8 json.no_items h = tt
filled_utf8 (json.item d ds) h = h

pub filled_list_utf8 : (k : List ℕ) (d : Data) → IsUtf8Data d → IfThere AreUtf8Items (filled_list_at k d)
filled_list_utf8 k d h = and_there AreUtf8Items AreUtf8Items filled (list_at k d) (list_utf8 k d h) filled_utf8

-- the value of an object with one member
pub one_utf8 : (d : Data) → IsUtf8Data d → IfThere (λ m. IsUtf8Data m.1) (one_member d)
one_utf8 json.null h = tt
one_utf8 (json.boolean b) h = tt
one_utf8 (json.number n) h = tt
one_utf8 (json.string s) h = tt
one_utf8 (json.array ds) h = tt
one_utf8 (json.object json.no_members) h = tt
one_utf8 (json.object (json.member k d json.no_members)) h = h.1
one_utf8 (json.object (json.member k d (json.member l e ms))) h = tt

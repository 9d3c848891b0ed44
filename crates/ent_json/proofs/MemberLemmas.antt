-- Objects whose members were put in one after another.
use Rattle.std.proofs.Common.{◌≡◌, ℕ, List, Bool, true, false, ◌&&◌, cond, Option, Some, None, option_map, bytes_eq, true≢false, refl, sym, ap, ◌∙◌, subst}
use Rattle.std.proofs.Common.{Ordering, Less, Equal, Greater, nat_cmp, is_eq}
use Rattle.std.proofs.lemmas.Map.Text.{is_eq-slice_cmp}
use Rattle.std.proofs.lemmas.Slice.Eq.{bytes_eq-Decides}
use Rattle.std.specs.Cmp.Lexicographic.{slice_cmp}
use Rattle.std.specs.Ordering.{match_ordering}
use Rattle.json.specs.Json as json
use Rattle.json.specs.Json.{Json}
use Rattle.json.specs.Find as find
use Rattle.serde_json.specs.Data.{Data, Members, no_members, member, put}
use Rattle.serde_json.specs.Find.{get, get_member}
use Rattle.serde_json.proofs.Views.{get_member-put, get_member-put_other}
use Rattle.ent_json.specs.Content.{number_or_null, content_of, members_content}
use Rattle.ent_json.specs.Objects.{among, only, alone}

-- ---- the value at a key

got : (q k : List ℕ) (d : Data) (ms : Members) (b : Bool) → bytes_eq k q ≡ b → get_member q (put k d ms) ≡ cond b (Some d) (get_member q ms)
got q k d ms true e = subst (λ x. get_member x (put k d ms) ≡ Some d) ((bytes_eq-Decides k q).0 e) (get_member-put k d ms)
got q k d ms false e = get_member-put_other q k d ms (λ same. true≢false (sym ((bytes_eq-Decides k q).1 (sym same)) ∙ e))

-- the newer value where there is one, else the older
abbrev newest : Option Data → Option Data → Option Data
newest None old = old
newest (Some d) old = Some d

one_newer : (found : Option Json) (b : Bool) (j : Json) (old : Option Data)
    → newest (option_map content_of found) (cond b (Some (content_of j)) old) ≡ newest (option_map content_of (find.later_or found (cond b (Some j) None))) old
one_newer (Some f) b j old = refl
one_newer None true j old = refl
one_newer None false j old = refl

get_among : (q : List ℕ) (ms : json.Members) (found : Members) → get_member q (members_content ms found) ≡ newest (option_map content_of (find.get_member q ms)) (get_member q found)
get_among q json.no_members found = refl
get_among q (json.member k j ms) found =
    get_among q ms (put k (content_of j) found)
    ∙ ap (newest (option_map content_of (find.get_member q ms))) (got q k (content_of j) found (bytes_eq k q) refl)
    ∙ one_newer (find.get_member q ms) (bytes_eq k q) j (get_member q found)

or_nothing : (o : Option Data) → newest o None ≡ o
or_nothing None = refl
or_nothing (Some d) = refl

get_number : (q : List ℕ) (o : Option _) → get q (number_or_null o) ≡ None
get_number q None = refl
get_number q (Some n) = refl

-- the last value of a key is the one that counts
pub get-content_of : (q : List ℕ) (j : Json) → get q (content_of j) ≡ option_map content_of (find.get q j)
get-content_of q json.null = refl
get-content_of q (json.boolean b) = refl
get-content_of q (json.number s) = get_number q _
get-content_of q (json.string s) = refl
get-content_of q (json.array js) = refl
get-content_of q (json.object ms) = get_among q ms no_members ∙ or_nothing _

-- ---- no other keys

and_again : (a b : Bool) → (a && b) ≡ (a && (a && b))
and_again true b = refl
and_again false b = refl

and_swap : (a b c : Bool) → (a && (b && c)) ≡ (b && (a && c))
and_swap true true c = refl
and_swap true false c = refl
and_swap false true c = refl
and_swap false false c = refl

same_key : (k l : List ℕ) → slice_cmp nat_cmp k l ≡ Equal → k ≡ l
same_key k l e = (bytes_eq-Decides k l).0 (sym (is_eq-slice_cmp k l) ∙ ap is_eq e)

only-put_at : (ks : List (List ℕ)) (o : Ordering) (k l : List ℕ) (d e : Data) (ms : Members) → slice_cmp nat_cmp k l ≡ o → only ks (put k d ms) ≡ (among k ks && only ks ms)
    → only ks (match_ordering o (member k d (member l e ms)) (member l d ms) (member l e (put k d ms))) ≡ (among k ks && (among l ks && only ks ms))
only-put_at ks Less k l d e ms is later = refl
only-put_at ks Equal k l d e ms is later = subst (λ x. (among l ks && only ks ms) ≡ (among x ks && (among l ks && only ks ms))) (sym (same_key k l is)) (and_again (among l ks) (only ks ms))
only-put_at ks Greater k l d e ms is later = ap (λ b. among l ks && b) later ∙ and_swap (among l ks) (among k ks) (only ks ms)

only-put : (ks : List (List ℕ)) (k : List ℕ) (d : Data) (ms : Members) → only ks (put k d ms) ≡ (among k ks && only ks ms)
only-put ks k d no_members = refl
only-put ks k d (member l e ms) = only-put_at ks (slice_cmp nat_cmp k l) k l d e ms refl (only-put ks k d ms)

-- each key is one of these
abbrev pub keys_among : List (List ℕ) → json.Members → Bool
keys_among ks json.no_members = true
keys_among ks (json.member k j ms) = among k ks && keys_among ks ms

only_among : (ks : List (List ℕ)) (ms : json.Members) (found : Members) → only ks (members_content ms found) ≡ (keys_among ks ms && only ks found)
only_among ks json.no_members found = refl
only_among ks (json.member k j ms) found =
    only_among ks ms (put k (content_of j) found)
    ∙ ap (λ b. keys_among ks ms && b) (only-put ks k (content_of j) found)
    ∙ moved (keys_among ks ms) (among k ks) (only ks found)
  where
    moved : (a b c : Bool) → (a && (b && c)) ≡ ((b && a) && c)
    moved true true c = refl
    moved true false c = refl
    moved false true c = refl
    moved false false c = refl

and_true : (b : Bool) → (b && true) ≡ b
and_true true = refl
and_true false = refl

pub only-members_content : (ks : List (List ℕ)) (ms : json.Members) → only ks (members_content ms no_members) ≡ keys_among ks ms
only-members_content ks ms = only_among ks ms no_members ∙ and_true (keys_among ks ms)

-- ---- one key

several-put : (o : Ordering) (k a b : List ℕ) (d x y : Data) (ms : Members)
    → (l : List ℕ) × (m : List ℕ) × (e : Data) × (f : Data) × (more : Members)
    × (match_ordering o (member k d (member a x (member b y ms))) (member a d (member b y ms)) (member a x (put k d (member b y ms))) ≡ member l e (member m f more))
several-put Less k a b d x y ms = (k, a, d, x, member b y ms, refl)
several-put Equal k a b d x y ms = (a, b, d, y, ms, refl)
several-put Greater k a b d x y ms = last (slice_cmp nat_cmp k b)
  where
    last : (o : Ordering) → (l : List ℕ) × (m : List ℕ) × (e : Data) × (f : Data) × (more : Members)
        × (member a x (match_ordering o (member k d (member b y ms)) (member b d ms) (member b y (put k d ms))) ≡ member l e (member m f more))
    last Less = (a, k, x, d, member b y ms, refl)
    last Equal = (a, b, x, d, ms, refl)
    last Greater = (a, b, x, y, put k d ms, refl)

-- two keys stay two keys
alone_no_more : (ms : json.Members) (a b : List ℕ) (x y : Data) (more : Members) → alone (members_content ms (member a x (member b y more))) ≡ None
alone_no_more json.no_members a b x y more = refl
alone_no_more (json.member k j ms) a b x y more =
    let s = several-put (slice_cmp nat_cmp k a) k a b (content_of j) x y more in
    ap (λ found. alone (members_content ms found)) s.5 ∙ alone_no_more ms s.0 s.1 s.2 s.3 s.4

pub alone-other : (ms : json.Members) (k l : List ℕ) (d e : Data) → bytes_eq k l ≡ false → alone (members_content ms (put k d (member l e no_members))) ≡ None
alone-other ms k l d e other = at (slice_cmp nat_cmp k l) refl
  where
    at : (o : Ordering) → slice_cmp nat_cmp k l ≡ o
        → alone (members_content ms (match_ordering o (member k d (member l e no_members)) (member l d no_members) (member l e (member k d no_members)))) ≡ None
    at Less is = alone_no_more ms k l d e no_members
    at Equal is = absurd (true≢false (sym (ap is_eq is) ∙ is_eq-slice_cmp k l ∙ other))
    at Greater is = alone_no_more ms l k e d no_members

pub put_again : (k l : List ℕ) (d e : Data) → bytes_eq k l ≡ true → put k d (member l e no_members) ≡ member l d no_members
put_again k l d e same = at (slice_cmp nat_cmp k l) (is_eq-slice_cmp k l ∙ same)
  where
    at : (o : Ordering) → is_eq o ≡ true → match_ordering o (member k d (member l e no_members)) (member l d no_members) (member l e (member k d no_members)) ≡ member l d no_members
    at Less is = absurd (true≢false (sym is))
    at Equal is = refl
    at Greater is = absurd (true≢false (sym is))

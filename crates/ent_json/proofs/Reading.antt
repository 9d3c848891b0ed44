-- What `serde_json` reads of a text stands for itself.
use Rattle.std.proofs.Common.{◌≡◌, ℕ, List, [], Bool, true, ◌&&◌, Option, Some, None, option_map, option_and_then, refl, sym, ap, ◌∙◌}
use Rattle.std.specs.Option.{is_some}
use Rattle.json.specs.Token.{Token}
use Rattle.json.specs.Lex.{tokens}
use Rattle.json.specs.Json as json
use Rattle.json.specs.Json.{Json, value, if_last}
use Rattle.serde_json.specs.Data.{Num, Data, number, array, object, Items, item, Members, no_members, put}
use Rattle.serde_json.specs.Read.{number_of, of_json, of_items, of_members, read}
use Rattle.ent_json.specs.Content.{number_or_null, content_of, items_content, members_content}

of_number : (o : Option Num) (d : Data) → option_map number o ≡ Some d → number_or_null o ≡ d
of_number None d e = absurd (cc)
of_number (Some n) d e = cc

of_array : (o : Option Items) (is : Items) (d : Data) → ((x : Items) → o ≡ Some x → is ≡ x) → option_map array o ≡ Some d → array is ≡ d
of_array None is d same e = absurd (cc)
of_array (Some x) is d same e = ap array (same x refl) ∙ cc

of_object : (o : Option Members) (is : Members) (d : Data) → ((x : Members) → o ≡ Some x → is ≡ x) → option_map object o ≡ Some d → object is ≡ d
of_object None is d same e = absurd (cc)
of_object (Some x) is d same e = ap object (same x refl) ∙ cc

of_item : (o : Option Data) (p : Option Items) (a : Data) (is out : Items) → ((x : Data) → o ≡ Some x → a ≡ x) → ((x : Items) → p ≡ Some x → is ≡ x)
    → option_and_then (λ d. option_map (item d) p) o ≡ Some out → item a is ≡ out
of_item None p a is out first rest e = absurd (cc)
of_item (Some d) None a is out first rest e = absurd (cc)
of_item (Some d) (Some ds) a is out first rest e = let f = first d refl in let r = rest ds refl in cc

of_member : (o : Option Data) (a : Data) (more : Data → Option Members) (is : Data → Members) (out : Members) → ((x : Data) → o ≡ Some x → a ≡ x)
    → ((d : Data) (x : Members) → more d ≡ Some x → is d ≡ x)
    → option_and_then more o ≡ Some out → is a ≡ out
of_member None a more is out first rest e = absurd (cc)
of_member (Some d) a more is out first rest e = ap is (first d refl) ∙ rest d out e

mutual
  pub content_of-of_json : (j : Json) (d : Data) → of_json j ≡ Some d → content_of j ≡ d
  content_of-of_json json.null d e = cc
  content_of-of_json (json.boolean b) d e = cc
  content_of-of_json (json.number s) d e = of_number (number_of s) d e
  content_of-of_json (json.string s) d e = cc
  content_of-of_json (json.array js) d e = of_array (of_items js) (items_content js) d (λ x h. items_content-of_items js x h) e
  content_of-of_json (json.object ms) d e = of_object (of_members ms no_members) (members_content ms no_members) d (λ x h. members_content-of_members ms no_members x h) e

  pub items_content-of_items : (js : json.Items) (ds : Items) → of_items js ≡ Some ds → items_content js ≡ ds
  items_content-of_items json.no_items ds e = cc
  items_content-of_items (json.item j js) ds e = of_item (of_json j) (of_items js) (content_of j) (items_content js) ds (λ x h. content_of-of_json j x h) (λ x h. items_content-of_items js x h) e

  pub members_content-of_members : (ms : json.Members) (found out : Members) → of_members ms found ≡ Some out → members_content ms found ≡ out
  members_content-of_members json.no_members found out e = cc
  members_content-of_members (json.member k j ms) found out e =
      of_member (of_json j) (content_of j) (λ d. of_members ms (put k d found)) (λ d. members_content ms (put k d found)) out (λ x h. content_of-of_json j x h)
      (λ d x h. members_content-of_members ms (put k d found) x h) e

-- ---- whether it is read

some_object : (o : Option Members) → is_some (option_map object o) ≡ is_some o
some_object None = refl
some_object (Some x) = refl

some_member : (o p : Option Data) (more other : Data → Option Members) → is_some o ≡ is_some p
    → ((d e : Data) → is_some (more d) ≡ is_some (other e)) → is_some (option_and_then more o) ≡ is_some (option_and_then other p)
some_member None None more other e same = refl
some_member None (Some y) more other e same = absurd (cc)
some_member (Some x) None more other e same = absurd (cc)
some_member (Some x) (Some y) more other e same = same x y

-- what was found before makes no difference
some_members : (ms : json.Members) (found other : Members) → is_some (of_members ms found) ≡ is_some (of_members ms other)
some_members json.no_members found other = refl
some_members (json.member k j ms) found other =
    some_member (of_json j) (of_json j) (λ d. of_members ms (put k d found)) (λ d. of_members ms (put k d other)) refl
    (λ d e. some_members ms (put k d found) (put k e other))

some_and_more : (o : Option Data) (more : Data → Option Members) (b : Bool) → ((d : Data) → is_some (more d) ≡ b) → is_some (option_and_then more o) ≡ (is_some o && b)
some_and_more None more b same = refl
some_and_more (Some d) more b same = same d

pub is_some-members : (k : List ℕ) (j : Json) (ms : json.Members) → is_some (of_members (json.member k j ms) no_members) ≡ (is_some (of_json j) && is_some (of_members ms no_members))
is_some-members k j ms = some_and_more (of_json j) (λ d. of_members ms (put k d no_members)) _ (λ d. some_members ms (put k d no_members) no_members)

pub is_some-object : (ms : json.Members) → is_some (of_json (json.object ms)) ≡ is_some (of_members ms no_members)
is_some-object ms = some_object (of_members ms no_members)

-- ---- the whole text

whole_at : (j : Json) (o : Option Data) → of_json j ≡ o → is_some o ≡ true → of_json j ≡ Some (content_of j)
whole_at j None e h = absurd (cc)
whole_at j (Some d) e h = e ∙ ap Some (sym (content_of-of_json j d e))

abbrev last_of : Option (Json × List Token) → Option Data
last_of o = option_and_then of_json (option_and_then (λ p. if_last p.0 p.1) o)

pub read-whole : (text : List ℕ) (j : Json) → value 127 (tokens text) ≡ Some (j, []) → is_some (of_json j) ≡ true → read text ≡ Some (content_of j)
read-whole text j e h = ap last_of e ∙ whole_at j (of_json j) refl h

-- The compact text of JSON is read as that JSON.
use Rattle.std.proofs.Common.{◌≡◌, ℕ, ◌≤◌, pos, negsuc, List, [], Some, refl, sym, ap, ◌∙◌, arith, append-nil}
use Rattle.std.specs.Prelude.{option_and_then, option_map}
use Rattle.std.specs.Cmp.Lexicographic.{slice_cmp}
use Rattle.std.specs.Ordering.{nat_cmp}
use Rattle.std.specs.declared.cmp.Ordering.TheVariants.{Greater}
use Rattle.json.specs.Json as text
use Rattle.json.specs.Lex.{tokens}
use Rattle.json.specs.Tree as tree
use Rattle.json.specs.Tree.{HasNumbers, ItemsHaveNumbers, MembersHaveNumbers, json_tokens}
use Rattle.json.proofs.Printed.Decimals.{IsNumber-decimal, IsNumber-signed_decimal}
use Rattle.json.proofs.Printed.Tokens.{tokens-print}
use Rattle.json.proofs.Printed.Trees.{ArePrintable-json_tokens, value-json_tokens}
use Rattle.serde_json.specs.Data as json
use Rattle.serde_json.specs.Data.{Data, Items, Members, Num, depth, items_depth, members_depth, put}
use Rattle.serde_json.specs.Read.{max_depth, number_of, of_items, of_json, of_members, read}
use Rattle.serde_json.specs.Written.{compact_text, items_outline, members_outline, number_text, outline}
use Rattle.serde_json.proofs.Numbers.{number_of-decimal, number_of-negative}
use Rattle.serde_json.proofs.Texts.{print-outline}
use Rattle.ent_polform.specs.Plain.{AreBehind, ArePlainItems, ArePlainMembers, IsPlain, IsWholeNumber}

-- ---- numbers

number_again : (n : Num) → IsWholeNumber n → number_of (number_text n) ≡ Some n
number_again (json.unsigned n) h = number_of-decimal n h
number_again (json.negative (pos n)) h = absurd h
number_again (json.negative (negsuc n)) h = number_of-negative n h
number_again (json.float x) h = absurd h

-- ---- members, put in one after the other

-- some members, and others behind them
abbrev front : Members → Members → Members
front json.no_members ms = ms
front (json.member k d more) ms = json.member k d (front more ms)

-- this key comes behind each of these
abbrev IsLast : List ℕ → Members → Type 0
IsLast key json.no_members = Unit {0}
IsLast key (json.member k d ms) = (slice_cmp nat_cmp key k ≡ Greater) × IsLast key ms

-- and so does each of those
abbrev AreLast : Members → Members → Type 0
AreLast json.no_members found = Unit {0}
AreLast (json.member k d ms) found = IsLast k found × AreLast ms found

put_last : (k : List ℕ) (d : Data) (found : Members) → IsLast k found → put k d found ≡ front found (json.member k d json.no_members)
put_last k d json.no_members h = refl
put_last k d (json.member l e ms) h = rw h.0 (ap (json.member l e) (put_last k d ms h.1))

more_last : (key k : List ℕ) (d : Data) (found : Members) → slice_cmp nat_cmp key k ≡ Greater → IsLast key found → IsLast key (front found (json.member k d json.no_members))
more_last key k d json.no_members behind h = (behind, tt)
more_last key k d (json.member l e ms) behind h = (h.0, more_last key k d ms behind h.1)

all_last : (k : List ℕ) (d : Data) (ms found : Members) → AreBehind k ms → AreLast ms found → AreLast ms (front found (json.member k d json.no_members))
all_last k d json.no_members found behind h = tt
all_last k d (json.member l e ms) found behind h = (more_last l k d found behind.0 h.0, all_last k d ms found behind.1 h.1)

front_more : (found : Members) (k : List ℕ) (d : Data) (ms : Members) → front (front found (json.member k d json.no_members)) ms ≡ front found (json.member k d ms)
front_more json.no_members k d ms = refl
front_more (json.member l e found) k d ms = ap (json.member l e) (front_more found k d ms)

front_none : (found : Members) → front found json.no_members ≡ found
front_none json.no_members = refl
front_none (json.member l e found) = ap (json.member l e) (front_none found)

none_last : (ms : Members) → AreLast ms json.no_members
none_last json.no_members = tt
none_last (json.member k d ms) = (tt, none_last ms)

-- ---- the value of the outline

mutual
  value_again : (d : Data) → IsPlain d → of_json (outline d) ≡ Some d
  value_again json.null h = refl
  value_again (json.boolean b) h = refl
  value_again (json.number n) h = ap (option_map json.number) (number_again n h)
  value_again (json.string s) h = refl
  value_again (json.array ds) h = ap (option_map json.array) (items_again ds h)
  value_again (json.object ms) h = ap (option_map json.object) (members_again ms json.no_members h (none_last ms))

  items_again : (ds : Items) → ArePlainItems ds → of_items (items_outline ds) ≡ Some ds
  items_again json.no_items h = refl
  items_again (json.item d ds) h = rw (value_again d h.0, items_again ds h.1) refl

  members_again : (ms found : Members) → ArePlainMembers ms → AreLast ms found → of_members (members_outline ms) found ≡ Some (front found ms)
  members_again json.no_members found h last = ap Some (sym (front_none found))
  members_again (json.member k d ms) found h last =
      ap (option_and_then (λ x. of_members (members_outline ms) (put k x found))) (value_again d h.0)
      ∙ ap (of_members (members_outline ms)) (put_last k d found last.0)
      ∙ members_again ms (front found (json.member k d json.no_members)) h.2 (all_last k d ms found h.1 last.1)
      ∙ ap Some (front_more found k d ms)

mutual
  outline_depth : (d : Data) → tree.depth (outline d) ≡ depth d
  outline_depth json.null = refl
  outline_depth (json.boolean b) = refl
  outline_depth (json.number n) = refl
  outline_depth (json.string s) = refl
  outline_depth (json.array ds) = rw (items_outline_depth ds) refl
  outline_depth (json.object ms) = rw (members_outline_depth ms) refl

  items_outline_depth : (ds : Items) → tree.items_depth (items_outline ds) ≡ items_depth ds
  items_outline_depth json.no_items = refl
  items_outline_depth (json.item d ds) = rw (outline_depth d, items_outline_depth ds) refl

  members_outline_depth : (ms : Members) → tree.members_depth (members_outline ms) ≡ members_depth ms
  members_outline_depth json.no_members = refl
  members_outline_depth (json.member k d ms) = rw (outline_depth d, members_outline_depth ms) refl

mutual
  has_numbers : (d : Data) → IsPlain d → HasNumbers (outline d)
  has_numbers json.null h = tt
  has_numbers (json.boolean b) h = tt
  has_numbers (json.number (json.unsigned n)) h = IsNumber-decimal n h
  has_numbers (json.number (json.negative (pos n))) h = absurd h
  has_numbers (json.number (json.negative (negsuc n))) h = IsNumber-signed_decimal (negsuc n) h
  has_numbers (json.number (json.float x)) h = absurd h
  has_numbers (json.string s) h = tt
  has_numbers (json.array ds) h = items_have_numbers ds h
  has_numbers (json.object ms) h = members_have_numbers ms h

  items_have_numbers : (ds : Items) → ArePlainItems ds → ItemsHaveNumbers (items_outline ds)
  items_have_numbers json.no_items h = tt
  items_have_numbers (json.item d ds) h = (has_numbers d h.0, items_have_numbers ds h.1)

  members_have_numbers : (ms : Members) → ArePlainMembers ms → MembersHaveNumbers (members_outline ms)
  members_have_numbers json.no_members h = tt
  members_have_numbers (json.member k d ms) h = (has_numbers d h.0, members_have_numbers ms h.2)

-- ---- the text

text_tokens : (d : Data) → IsPlain d → tokens (compact_text d) ≡ json_tokens (outline d)
text_tokens d h = ap tokens (sym (print-outline d)) ∙ tokens-print (json_tokens (outline d)) (ArePrintable-json_tokens (outline d) (has_numbers d h))

pub text_read : (d : Data) → IsPlain d → depth d ≤ max_depth → read (compact_text d) ≡ Some d
text_read d h shallow =
    let deep : tree.depth (outline d) ≤ max_depth = omega (arith, outline_depth d) in
    ap (λ o. option_and_then of_json (option_and_then (λ p. text.if_last p.0 p.1) o))
    (ap (text.value max_depth) (text_tokens d h ∙ sym (append-nil (json_tokens (outline d)))) ∙ value-json_tokens (outline d) max_depth [] deep)
    ∙ value_again d h

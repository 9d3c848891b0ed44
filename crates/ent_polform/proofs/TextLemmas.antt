-- What is written straight into a text, part for part in the order in which it is written.
use Rattle.std.proofs.Common.{◌≡◌, List, [], ◌∷◌, ◌++◌, ◌∙◌, ◌==◌, ℕ, ℤ, pos, negsuc, ap, append_assoc, codes, false, length, map, option_map, refl, Option, Some, None, Result, Ok, Err, OnOk}
use Rattle.std.specs.Fmt.{signed_decimal}
use Rattle.json.specs.Print.{print}
use Rattle.json.specs.Token as token
use Rattle.json.specs.Token.{Token}
use Rattle.json.specs.Tree.{members_tokens}
use Rattle.serde_json.specs.Data as json
use Rattle.serde_json.specs.Data.{Data, Members, put}
use Rattle.serde_json.specs.Find.{of_integer}
use Rattle.serde_json.specs.Written.{compact_text, members_outline}
use Rattle.ent_json.proofs.TextLemmas.{printed}
use Rattle.ent_json.specs.Members.{filled_list, only_member, optional, put_optional}
use Rattle.ent_json.specs.Text.{tokens_of}
use Rattle.ent_json.specs.proofs_only.Keyed.{optional_tokens}
use Rattle.ent_json.specs.proofs_only.Text.{items_tokens_of}
use Rattle.ent_polform.specs.proofs_only.Texts.{Part, parts, parts_tokens}

-- ---- what is appended

-- what is appended in two steps is appended
pub joined : {A : Type 0} (old x y a b : List A) → x ≡ old ++ a → y ≡ x ++ b → y ≡ old ++ (a ++ b)
joined old x y a b first second = second ∙ ap (λ s. s ++ b) first ∙ append_assoc old a b

-- the same where the second step may be refused
pub ends : {A E : Type 0} (r : Result (Unit {0}) E) (old x y a b : List A) → x ≡ old ++ a → OnOk r (y ≡ x ++ b) → OnOk r (y ≡ old ++ (a ++ b))
ends (Ok u) old x y a b first second = joined old x y a b first second
ends (Err e) old x y a b first second = second

-- the text of a value that was written into an empty text
pub whole_text : (d : Data) (empty out : List Token) → empty ≡ [] → out ≡ empty ++ tokens_of d → print out ≡ compact_text d
whole_text d empty out start end = ap print (end ∙ ap (λ ts. ts ++ tokens_of d) start) ∙ printed d

-- ---- values

-- a whole number is written by its digits
pub integer_tokens : (i : ℤ) → token.number (signed_decimal i) ∷ [] ≡ tokens_of (json.number (of_integer i))
integer_tokens (pos n) = refl
integer_tokens (negsuc n) = refl

-- ---- members

-- the tokens of members, to the end of their object
abbrev members_tokens_of : Members → List Token
members_tokens_of ms = members_tokens (members_outline ms)

-- a member that may be absent is written in front of the others
optional_member : (key : List ℕ) (d : Option Data) (ms : Members) → members_tokens_of (optional key d ms) ≡ optional_tokens key d ++ members_tokens_of ms
optional_member key None ms = refl
optional_member key (Some d) ms = refl

each_part : (ps : List Part) → members_tokens_of (parts ps) ≡ parts_tokens ps
each_part [] = refl
each_part (p ∷ ps) = optional_member p.0 p.1 (parts ps) ∙ ap (λ ts. optional_tokens p.0 p.1 ++ ts) (each_part ps)

-- the tokens of an object, member for member
pub object_tokens : (ps : List Part) → tokens_of (json.object (parts ps)) ≡ (token.begin_object ∷ []) ++ parts_tokens ps
object_tokens ps = ap (λ ts. token.begin_object ∷ ts) (each_part ps)

-- ---- obligations and advice, whose keys stand in other orders

pub obligation_members : (id effect : Data) (assignments : Option Data) →
    put (codes "ObligationId") id (put (codes "FulfillOn") effect (put_optional (codes "AttributeAssignmentExpression") assignments json.no_members))
    ≡ parts ((codes "AttributeAssignmentExpression", assignments) ∷ (codes "FulfillOn", Some effect) ∷ (codes "ObligationId", Some id) ∷ [])
obligation_members id effect None = refl
obligation_members id effect (Some assignments) = refl

pub advice_members : (id effect : Data) (assignments : Option Data) →
    put (codes "AdviceId") id (put (codes "AppliesTo") effect (put_optional (codes "AttributeAssignmentExpression") assignments json.no_members))
    ≡ parts ((codes "AdviceId", Some id) ∷ (codes "AppliesTo", Some effect) ∷ (codes "AttributeAssignmentExpression", assignments) ∷ [])
advice_members id effect None = refl
advice_members id effect (Some assignments) = refl

-- ---- lists, which are left out where they have no member

-- one that has a member is written at its key
pub some_tokens : {A : Type 0} (f : A → Data) (key : List ℕ) (xs : List A) → false ≡ (length xs == 0)
    → optional_tokens key (filled_list (map f xs)) ≡ (token.key key ∷ []) ++ ((token.begin_array ∷ []) ++ items_tokens_of (map f xs))
some_tokens f key [] some = absurd cc
some_tokens f key (x ∷ xs) some = refl

-- the same in an object of its own
pub only_tokens : {A : Type 0} (f : A → Data) (key inner : List ℕ) (xs : List A) → false ≡ (length xs == 0)
    → optional_tokens key (option_map (only_member inner) (filled_list (map f xs)))
    ≡ (token.key key ∷ []) ++ ((token.begin_object ∷ []) ++ ((token.key inner ∷ []) ++ ((token.begin_array ∷ []) ++ (items_tokens_of (map f xs) ++ token.end_object ∷ []))))
only_tokens f key inner [] some = absurd cc
only_tokens f key inner (x ∷ xs) some = refl

-- The tokens of a UTF-8 text, and the JSON that they are, have keys and strings that are UTF-8.
use Rattle.std.proofs.Common.{◌≡◌, ℕ, zero, suc, ◌-◌, List, [], ◌∷◌, ◌++◌, length, take, drop, Bool, true, false, cond, ◌&&◌, ◌==◌, nat_eq, Option, Some, None, option_and_then, refl, sym, ap, subst, arith, append_assoc, IsUtf8}
use Rattle.std.specs.List.{AllByRecursion, starts_with}
use Rattle.std.proofs.lemmas.Bool.{eqb-true}
use Rattle.json.specs.Ascii as ascii
use Rattle.json.specs.Lex.{Class, Lexeme, Mode, Place, begins_colon, if_allowed, lex, lex_byte, operator_lexeme, place_token, punctuate, string_token, tokens}
use Rattle.json.specs.Lex.{class as class_of}
use Rattle.json.specs.Token.{Token}
use Rattle.json.specs.Word.{after_number, ends_word, head, is_operator, is_space, literal, number_before, word}
use Rattle.json.specs.Json as text
use Rattle.json.specs.Text.{content, plain}
use Rattle.law_restart.proofs.Utf8Strings.{after_ascii, plain_is}

-- ---- tokens

-- a key and a string are UTF-8
abbrev IsClean : Token → Type 0
IsClean (Token.key s) = IsUtf8 s
IsClean (Token.string s) = IsUtf8 s
IsClean other = Unit {0}

abbrev AreClean : List Token → Type 0
AreClean = AllByRecursion IsClean

abbrev IsCleanLexeme : Lexeme → Type 0
IsCleanLexeme (Lexeme.token t) = IsClean t
IsCleanLexeme Lexeme.comma = Unit {0}
IsCleanLexeme Lexeme.colon = Unit {0}

either : {A : Type 0} (P : A → Type 0) (b : Bool) (x y : A) → P x → P y → P (cond b x y)
either P true x y p q = p
either P false x y p q = q

number_clean : (t : List ℕ) (o : Option (List ℕ)) → IsClean (number_before t o)
number_clean t None = tt
number_clean t (Some rest) = either IsClean (ends_word rest) (Token.number (take (length t - length rest) t)) Token.bad tt tt

literal_clean : (name : List ℕ) (x : Token) (t : List ℕ) → IsClean x → IsClean (literal name x t)
literal_clean name x t h = either IsClean (starts_with nat_eq t name && ends_word (drop (length name) t)) x Token.bad h tt

word_clean : (t : List ℕ) → IsClean (word t)
unfolding word
word_clean t = by (head t == ascii.lower_t) (head t == ascii.lower_f) (head t == ascii.lower_n)
  where
    by : (a b c : Bool) → IsClean (cond a (literal ascii.true_text (Token.boolean true) t) (cond b (literal ascii.false_text (Token.boolean false) t) (cond c (literal ascii.null_text Token.null t) (number_before t (after_number t)))))
    by true b c = literal_clean ascii.true_text (Token.boolean true) t tt
    by false true c = literal_clean ascii.false_text (Token.boolean false) t tt
    by false false true = literal_clean ascii.null_text Token.null t tt
    by false false false = number_clean t (after_number t)

operator_clean : (x : ℕ) → IsCleanLexeme (operator_lexeme x)
operator_clean x = by (x == ascii.open_brace) (x == ascii.close_brace) (x == ascii.open_bracket) (x == ascii.close_bracket) (x == ascii.comma)
  where
    by : (a b c d e : Bool) → IsCleanLexeme (cond a (Lexeme.token Token.begin_object) (cond b (Lexeme.token Token.end_object) (cond c (Lexeme.token Token.begin_array) (cond d (Lexeme.token Token.end_array) (cond e Lexeme.comma Lexeme.colon)))))
    by true b c d e = tt
    by false true c d e = tt
    by false false true d e = tt
    by false false false true e = tt
    by false false false false true = tt
    by false false false false false = tt

string_clean : (o : Option (List ℕ)) → ((s : List ℕ) → o ≡ Some s → IsUtf8 s) → IsClean (string_token o)
string_clean None h = tt
string_clean (Some s) h = h s refl

byte_clean : (m : Mode) (c : Class) (x : ℕ) (xs : List ℕ) (k : Mode → List Lexeme) → (c ≡ Class.quote → IsUtf8 xs)
    → ((next : Mode) → AllByRecursion IsCleanLexeme (k next)) → AllByRecursion IsCleanLexeme (lex_byte m c x xs k)
byte_clean Mode.between Class.quote x xs k u more = (string_clean (content plain xs) (λ s h. plain_is [] xs s (u refl) h), more Mode.in_string)
byte_clean Mode.between Class.backslash x xs k u more = (tt, more Mode.in_word)
byte_clean Mode.between Class.operator x xs k u more = (operator_clean x, more Mode.between)
byte_clean Mode.between Class.space x xs k u more = more Mode.between
byte_clean Mode.between Class.other x xs k u more = (word_clean (x ∷ xs), more Mode.in_word)
byte_clean Mode.in_word Class.quote x xs k u more = more Mode.in_word
byte_clean Mode.in_word Class.backslash x xs k u more = more Mode.in_word
byte_clean Mode.in_word Class.operator x xs k u more = (operator_clean x, more Mode.between)
byte_clean Mode.in_word Class.space x xs k u more = more Mode.between
byte_clean Mode.in_word Class.other x xs k u more = more Mode.in_word
byte_clean Mode.in_string Class.quote x xs k u more = more Mode.between
byte_clean Mode.in_string Class.backslash x xs k u more = more Mode.in_escape
byte_clean Mode.in_string Class.operator x xs k u more = more Mode.in_string
byte_clean Mode.in_string Class.space x xs k u more = more Mode.in_string
byte_clean Mode.in_string Class.other x xs k u more = more Mode.in_string
byte_clean Mode.in_escape c x xs k u more = more Mode.in_string

is_quote : (x : ℕ) → class_of x ≡ Class.quote → x ≡ 34
is_quote x h = by (x == 34) (x == 92) (is_operator x) (is_space x) refl h
  where
    by : (a b c d : Bool) → (x == 34) ≡ a → cond a Class.quote (cond b Class.backslash (cond c Class.operator (cond d Class.space Class.other))) ≡ Class.quote → x ≡ 34
    by true b c d e h = eqb-true x 34 e
    by false true c d e h = absurd cc
    by false false true d e h = absurd cc
    by false false false true e h = absurd cc
    by false false false false e h = absurd cc

lexemes_clean : (front text : List ℕ) → IsUtf8 (front ++ text) → (m : Mode) → AllByRecursion IsCleanLexeme (lex m text)
unfolding lex
lexemes_clean front [] u m = tt
lexemes_clean front (x ∷ xs) u m =
    byte_clean m (class_of x) x xs (λ next. lex next xs) (λ h. let is = is_quote x h in after_ascii front x xs (omega arith) u)
    (λ next. lexemes_clean (front ++ x ∷ []) xs (subst IsUtf8 (sym (append_assoc front (x ∷ []) xs)) u) next)

allowed_clean : (b : Bool) (t : Token) (k : Place → List Token) (next : Place) → IsClean t → ((p : Place) → AreClean (k p)) → AreClean (if_allowed b t k next)
allowed_clean true t k next h more = (h, more next)
allowed_clean false t k next h more = (tt, tt)

place_clean : (p : Place) (t : Token) (b : Bool) (k : Place → List Token) → IsClean t → ((next : Place) → AreClean (k next)) → AreClean (place_token p t b k)
place_clean p Token.begin_object b k h more = allowed_clean _ _ k _ tt more
place_clean p Token.end_object b k h more = allowed_clean _ _ k _ tt more
place_clean p Token.begin_array b k h more = allowed_clean _ _ k _ tt more
place_clean p Token.end_array b k h more = allowed_clean _ _ k _ tt more
place_clean p (Token.key s) b k h more = (tt, tt)
place_clean p (Token.string s) true k h more = allowed_clean _ (Token.key s) k _ h more
place_clean p (Token.string s) false k h more = allowed_clean _ (Token.string s) k _ h more
place_clean p (Token.number s) b k h more = allowed_clean _ _ k _ tt more
place_clean p (Token.boolean c) b k h more = allowed_clean _ _ k _ tt more
place_clean p Token.null b k h more = allowed_clean _ _ k _ tt more
place_clean p Token.bad b k h more = (tt, tt)

places_clean : (ls : List Lexeme) → AllByRecursion IsCleanLexeme ls → (p : Place) → AreClean (punctuate p ls)
unfolding punctuate
places_clean [] h Place.fresh = tt
places_clean [] h Place.after_value = tt
places_clean [] h Place.after_comma = (tt, tt)
places_clean [] h Place.after_key = (tt, tt)
places_clean (Lexeme.token t ∷ ls) h p = place_clean p t (begins_colon ls) (λ next. punctuate next ls) h.0 (λ next. places_clean ls h.1 next)
places_clean (Lexeme.comma ∷ ls) h Place.fresh = (tt, tt)
places_clean (Lexeme.comma ∷ ls) h Place.after_value = places_clean ls h.1 Place.after_comma
places_clean (Lexeme.comma ∷ ls) h Place.after_comma = (tt, tt)
places_clean (Lexeme.comma ∷ ls) h Place.after_key = (tt, tt)
places_clean (Lexeme.colon ∷ ls) h Place.fresh = (tt, tt)
places_clean (Lexeme.colon ∷ ls) h Place.after_value = (tt, tt)
places_clean (Lexeme.colon ∷ ls) h Place.after_comma = (tt, tt)
places_clean (Lexeme.colon ∷ ls) h Place.after_key = places_clean ls h.1 Place.fresh

tokens_clean : (text : List ℕ) → IsUtf8 text → AreClean (tokens text)
tokens_clean text u = places_clean (lex Mode.between text) (lexemes_clean [] text u Mode.between) Place.fresh

-- ---- values

abbrev mutual
  pub IsCleanJson : text.Json → Type 0
  IsCleanJson text.null = Unit {0}
  IsCleanJson (text.boolean b) = Unit {0}
  IsCleanJson (text.number s) = Unit {0}
  IsCleanJson (text.string s) = IsUtf8 s
  IsCleanJson (text.array js) = AreCleanItems js
  IsCleanJson (text.object ms) = AreCleanMembers ms

  pub AreCleanItems : text.Items → Type 0
  AreCleanItems text.no_items = Unit {0}
  AreCleanItems (text.item j js) = IsCleanJson j × AreCleanItems js

  pub AreCleanMembers : text.Members → Type 0
  AreCleanMembers text.no_members = Unit {0}
  AreCleanMembers (text.member k j ms) = IsUtf8 k × IsCleanJson j × AreCleanMembers ms

-- what a parser finds in clean tokens is clean, and so is what follows
abbrev Finds : {A : Type 0} → (A → Type 0) → text.Parse A → Type 0
Finds {A} P f = (ts : List Token) (x : A) (rest : List Token) → AreClean ts → f ts ≡ Some (x, rest) → P x × AreClean rest

some_is : {A : Type 0} (x y : A) → Some x ≡ Some y → x ≡ y
some_is x y h = cc

mapped_clean : {A B : Type 0} (P : B → Type 0) (f : A → B) (o : Option (A × List Token)) (y : B) (rest : List Token)
    → ((x : A) → o ≡ Some (x, rest) → P (f x) × AreClean rest) → text.parse_map f o ≡ Some (y, rest) → P y × AreClean rest
mapped_clean P f (Some p) y rest good h =
    let same = some_is (f p.0, p.1) (y, rest) h in
    let both = good p.0 (ap (λ (r : List Token). Some (p.0, r)) (ap (λ q. q.1) same)) in
    (subst P (ap (λ q. q.0) same) both.0, both.1)
mapped_clean P f None y rest good h = absurd cc

-- what was found, and what follows
leaf_clean : {A : Type 0} (P : A → Type 0) (j : A) (ts : List Token) (x : A) (rest : List Token) → P j → AreClean ts → ◌≡◌ {A = Option (A × List Token)} (Some (j, ts)) (Some (x, rest)) → P x × AreClean rest
leaf_clean P j ts x rest p h is =
    let same = some_is (j, ts) (x, rest) is in
    (subst P (ap (λ q. q.0) same) p, subst AreClean (ap (λ q. q.1) same) h)

none_found : {A : Type 0} (P : A → Type 0) → Finds P (λ ts. None)
none_found P ts x rest h is = absurd cc

then_clean : {A B : Type 0} (o : Option (A × List Token)) (f : A × List Token → Option B) (y : B) → option_and_then f o ≡ Some y → (x : A) × (rest : List Token) × ((o ≡ Some (x, rest)) × (f (x, rest) ≡ Some y))
then_clean (Some p) f y h = (p.0, p.1, (refl, h))
then_clean None f y h = absurd cc

end_clean : (ts rest : List Token) → AreClean ts → text.after_end_array ts ≡ Some rest → AreClean rest
end_clean [] rest h is = absurd cc
end_clean (Token.begin_object ∷ ts) rest h is = absurd cc
end_clean (Token.end_object ∷ ts) rest h is = absurd cc
end_clean (Token.begin_array ∷ ts) rest h is = absurd cc
end_clean (Token.end_array ∷ ts) rest h is = let same : ts ≡ rest = cc in subst AreClean same h.1
end_clean (Token.key s ∷ ts) rest h is = absurd cc
end_clean (Token.string s ∷ ts) rest h is = absurd cc
end_clean (Token.number s ∷ ts) rest h is = absurd cc
end_clean (Token.boolean b ∷ ts) rest h is = absurd cc
end_clean (Token.null ∷ ts) rest h is = absurd cc
end_clean (Token.bad ∷ ts) rest h is = absurd cc

abbrev IsCleanKey : Option (List ℕ) → Type 0
IsCleanKey None = Unit {0}
IsCleanKey (Some k) = IsUtf8 k

key_clean : Finds IsCleanKey text.read_key
key_clean [] k rest h is = absurd cc
key_clean (Token.begin_object ∷ ts) k rest h is = absurd cc
key_clean (Token.end_object ∷ ts) k rest h is = leaf_clean IsCleanKey None ts k rest tt h.1 is
key_clean (Token.begin_array ∷ ts) k rest h is = absurd cc
key_clean (Token.end_array ∷ ts) k rest h is = absurd cc
key_clean (Token.key s ∷ ts) k rest h is = leaf_clean IsCleanKey (Some s) ts k rest h.0 h.1 is
key_clean (Token.string s ∷ ts) k rest h is = absurd cc
key_clean (Token.number s ∷ ts) k rest h is = absurd cc
key_clean (Token.boolean b ∷ ts) k rest h is = absurd cc
key_clean (Token.null ∷ ts) k rest h is = absurd cc
key_clean (Token.bad ∷ ts) k rest h is = absurd cc

items_clean : (f : text.Parse text.Json) → Finds IsCleanJson f → (n : ℕ) → Finds AreCleanItems (text.items f n)
unfolding text.items
items_clean f good zero ts x rest h is = absurd cc
items_clean f good (suc n) ts x rest h is = by (text.after_end_array ts) refl is (λ after js. items_clean f good n after js rest)
  where
    by : (o : Option (List Token)) → text.after_end_array ts ≡ o → text.items_step f (text.items f n) ts o ≡ Some (x, rest)
        → ((after : List Token) (js : text.Items) → AreClean after → text.items f n after ≡ Some (js, rest) → AreCleanItems js × AreClean rest) → AreCleanItems x × AreClean rest
    by (Some after) e g more = leaf_clean AreCleanItems text.no_items after x rest tt (end_clean ts after h e) g
    by None e g more =
        let one = then_clean (f ts) (λ p. text.parse_map (text.item p.0) (text.items f n p.1)) (x, rest) g in
        let first = good ts one.0 one.1 h one.2.0 in
        mapped_clean AreCleanItems (text.item one.0) (text.items f n one.1) x rest (λ js found. let others = more one.1 js first.1 found in ((first.0, others.0), others.1)) one.2.1

members_clean : (f : text.Parse text.Json) → Finds IsCleanJson f → (n : ℕ) → Finds AreCleanMembers (text.members f n)
unfolding text.members
members_clean f good zero ts x rest h is = absurd cc
members_clean f good (suc n) ts x rest h is =
    let key = then_clean (text.read_key ts) (λ p. text.members_step f (text.members f n) p.0 p.1) (x, rest) is in
    let clean = key_clean ts key.0 key.1 h key.2.0 in
    by key.0 key.1 clean.0 clean.1 key.2.1 (λ after ms. members_clean f good n after ms rest)
  where
    by : (k : Option (List ℕ)) (after : List Token) → IsCleanKey k → AreClean after → text.members_step f (text.members f n) k after ≡ Some (x, rest)
        → ((after : List Token) (ms : text.Members) → AreClean after → text.members f n after ≡ Some (ms, rest) → AreCleanMembers ms × AreClean rest) → AreCleanMembers x × AreClean rest
    by None after k g e more = leaf_clean AreCleanMembers text.no_members after x rest tt g e
    by (Some key) after k g e more =
        let one = then_clean (f after) (λ p. text.parse_map (text.member key p.0) (text.members f n p.1)) (x, rest) e in
        let first = good after one.0 one.1 g one.2.0 in
        mapped_clean AreCleanMembers (text.member key one.0) (text.members f n one.1) x rest (λ ms found. let others = more one.1 ms first.1 found in ((k, first.0, others.0), others.1)) one.2.1

with_clean : (a : text.Parse text.Items) (o : text.Parse text.Members) → Finds AreCleanItems a → Finds AreCleanMembers o → Finds IsCleanJson (text.value_with a o)
with_clean a o p q [] x rest h is = absurd cc
with_clean a o p q (Token.begin_object ∷ ts) x rest h is = mapped_clean IsCleanJson text.object (o ts) x rest (λ ms found. q ts ms rest h.1 found) is
with_clean a o p q (Token.end_object ∷ ts) x rest h is = absurd cc
with_clean a o p q (Token.begin_array ∷ ts) x rest h is = mapped_clean IsCleanJson text.array (a ts) x rest (λ js found. p ts js rest h.1 found) is
with_clean a o p q (Token.end_array ∷ ts) x rest h is = absurd cc
with_clean a o p q (Token.key s ∷ ts) x rest h is = absurd cc
with_clean a o p q (Token.string s ∷ ts) x rest h is = leaf_clean IsCleanJson (text.string s) ts x rest h.0 h.1 is
with_clean a o p q (Token.number s ∷ ts) x rest h is = leaf_clean IsCleanJson (text.number s) ts x rest tt h.1 is
with_clean a o p q (Token.boolean b ∷ ts) x rest h is = leaf_clean IsCleanJson (text.boolean b) ts x rest tt h.1 is
with_clean a o p q (Token.null ∷ ts) x rest h is = leaf_clean IsCleanJson text.null ts x rest tt h.1 is
with_clean a o p q (Token.bad ∷ ts) x rest h is = absurd cc

value_clean : (n : ℕ) → Finds IsCleanJson (text.value n)
unfolding text.value text.items text.members
value_clean zero = with_clean (λ ts. None) (λ ts. None) (none_found AreCleanItems) (none_found AreCleanMembers)
value_clean (suc n) =
    with_clean (λ ts. text.items (text.value n) (length ts) ts) (λ ts. text.members (text.value n) (length ts) ts)
    (λ ts. items_clean (text.value n) (value_clean n) (length ts) ts) (λ ts. members_clean (text.value n) (value_clean n) (length ts) ts)

last_clean : (j k : text.Json) (ts : List Token) → IsCleanJson j → text.if_last j ts ≡ Some k → IsCleanJson k
last_clean j k [] h is = let same : j ≡ k = cc in subst IsCleanJson same h
last_clean j k (t ∷ ts) h is = absurd cc

-- the whole of a text
pub parsed_clean : (n : ℕ) (line : List ℕ) (j : text.Json) → IsUtf8 line → option_and_then (λ p. text.if_last p.0 p.1) (text.value n (tokens line)) ≡ Some j → IsCleanJson j
parsed_clean n line j u h =
    let parsed = then_clean (text.value n (tokens line)) (λ p. text.if_last p.0 p.1) j h in
    let clean = value_clean n (tokens line) parsed.0 parsed.1 (tokens_clean line u) parsed.2.0 in
    last_clean parsed.0 j parsed.1 clean.0 parsed.2.1

-- What was kept of a key before an exchange tells afterwards whether it gives another.
use Rattle.std.proofs.Common.{◌≡◌, ◌≢◌, ℕ, List, [], ◌∷◌, ◌&&◌, Bool, true, false, cond, not, filter, Option, Some, None, if◌then◌else◌, refl, sym, ap, subst, ◌∙◌}
use Rattle.std.specs.Prelude.{bytes_eq}
use Rattle.std.specs.Bool.{Decides}
use Rattle.std.specs.Cmp.Lexicographic.{bytes_decides}
use Rattle.std.specs.List.{AllByRecursion}
use Rattle.std.specs.Option.{option_eq}
use Rattle.ent_values.specs.Same.{same_date, same_date_time, same_time, same_value, same_values}
use Rattle.ent_values.specs.declared.value.Value.{Value}
use Rattle.ent_values.specs.declared.value.Value.TheVariants as values
use Rattle.ent_policy.specs.Same.{same_document, same_kind}
use Rattle.ent_policy.specs.declared.document.Tree.{Tree}
use Rattle.ent_policy.specs.declared.key.DocKey.{DocKey}
use Rattle.ent_policy.specs.declared.key.Kind.{Kind}
use Rattle.ent_policy.specs.declared.key.Reference.{Reference}
use Rattle.ent_policy.proofs.Documents.{same_document-Decides}
use Rattle.ent_policy.proofs.Same.{same_kind-Decides}
use Rattle.ent_request.specs.Change.{asks_document}
use Rattle.ent_request.specs.Environment.{date_in, date_time_in, time_in}
use Rattle.ent_request.specs.Held.{looks_in}
use Rattle.ent_request.specs.SameLook.{IsSameLook}
use Rattle.ent_request.specs.Noted.{has_key}
use Rattle.ent_request.specs.Sources.{known_values}
use Rattle.ent_request.specs.declared.key.ReadKey.{ReadKey}
use Rattle.ent_request.specs.declared.key.ReadKey.TheVariants as keys
use Rattle.ent_request.proofs.Changes.{document-leaves, environment-leaves, root-leaves, values-leave}
use Rattle.ent_request.proofs.SameLooks.{same_look-Decides}
use Rattle.ent_index.specs.Asked.{asks_policy}
use Rattle.ent_cells.specs.Cell.{HasReadKeys, Kept}
use Rattle.ent_eval.specs.declared.exchange.Exchange.{Exchange}
use Rattle.ent_eval.specs.declared.exchange.Exchange.TheVariants.{Document, Row, Root, Environment}
use Rattle.ent_table.specs.declared.look.OfTwo.TheVariants.{Former, Next, Neither}
use Rattle.ent_table.specs.declared.look.Seen.{Seen}
use Rattle.ent_table.specs.proofs_only.Exchange.{IsWithin, document_in, taken, with_exchange}
use Rattle.ent_table.specs.proofs_only.Look.{AreChanged, IsSeen, asks, finds_another, gives_another, gives_other, is_another, keys_in, look_of, which}
use Rattle.ent_table.specs.State.{State}
use Rattle.ent_table.proofs.Bits.{same_test}
use Rattle.ent_table.proofs.ReadKeys.{has_filter}
use Rattle.ent_table.proofs.Replaced.{elsewhere, there_now}

-- ---- documents

abbrev same : Option Tree → Option Tree → Bool
same = option_eq same_document

decides : (a b : Option Tree) → Decides (same a b) (a ≡ b)
decides None None = (λ h. refl, λ h. refl)
decides None (Some e) = (λ h. absurd (cc), λ h. absurd (cc))
decides (Some d) None = (λ h. absurd (cc), λ h. absurd (cc))
decides (Some d) (Some e) = (λ h. ap Some ((same_document-Decides d e).0 h), λ h. (same_document-Decides d e).1 (cc))

-- where a reference finds the same, unless it found the one or finds the other, the test tells whether it finds another
document_told : (former next before now : Option Tree) → (before ≢ former → now ≢ next → before ≡ now)
    → finds_another former next (which former next before) now ≡ not (same before now)
document_told former next before now stays = by (same former before) (same next before) refl refl where
  last : (b c : Bool) → same next before ≡ false → same former before ≡ false → same next now ≡ b → same before now ≡ c → b ≡ not c
  last true true f g is js =
      let bad : same next before ≡ true = (decides next before).1 ((decides next now).0 is ∙ sym ((decides before now).0 js)) in
      absurd (cc)
  last true false f g is js = refl
  last false true f g is js = refl
  last false false f g is js =
      let alike : before ≡ now = stays (λ e. cc ((decides former before).1 (sym e))) (λ e. cc ((decides next now).1 (sym e))) in
      let bad : same before now ≡ true = (decides before now).1 alike in
      absurd (cc)

  by : (b c : Bool) → same former before ≡ b → same next before ≡ c
      → finds_another former next (if b then Former else (if c then Next else Neither)) now ≡ not (same before now)
  by true c is js = ap (λ d. not (same d now)) ((decides former before).0 is)
  by false true is js = ap (λ d. not (same d now)) ((decides next before).0 js)
  by false false is js = last (same next now) (same before now) js is refl refl

-- what is known is the same as its value is
same_known : {A : Type 0} (alike : A → A → Bool) (value_of : A → Value) → ((a b : A) → alike a b ≡ same_value (value_of a) (value_of b)) → (o p : Option A)
    → option_eq alike o p ≡ same_values (known_values value_of o) (known_values value_of p)
same_known alike value_of is None None = refl
same_known alike value_of is None (Some b) = refl
same_known alike value_of is (Some a) None = refl
same_known alike value_of is (Some a) (Some b) = is a b ∙ by (same_value (value_of a) (value_of b)) where
  by : (c : Bool) → c ≡ (c && true)
  by true = refl
  by false = refl

-- ---- whatever is exchanged

module _ (s : State) (x : Exchange) (within : IsWithin s x) where
  abbrev t : State
  t = with_exchange s x

  -- an exchange is taken back by what came out of it
  standing : document_in (taken t (taken s x)) ≡ document_in x
  standing = by x within where
    by : (x : Exchange) → IsWithin s x → document_in (taken (with_exchange s x) (taken s x)) ≡ document_in x
    by (Document number key document) h = there_now s.held.modules number key document h.0
    by (Row number row values) h = refl
    by (Root root) h = refl
    by (Environment environment) h = refl

  found_elsewhere : (r : Reference) → (looks_in s.held).document r ≢ document_in (taken s x) → (looks_in t.held).document r ≢ document_in x
      → (looks_in s.held).document r ≡ (looks_in t.held).document r
  found_elsewhere r = by x within where
    by : (x : Exchange) → IsWithin s x → (looks_in s.held).document r ≢ document_in (taken s x) → (looks_in (with_exchange s x).held).document r ≢ document_in x
        → (looks_in s.held).document r ≡ (looks_in (with_exchange s x).held).document r
    by (Document number key document) h off away = elsewhere s.held.modules number key document h.0 r off away
    by (Row number row values) h off away = refl
    by (Root root) h off away = refl
    by (Environment environment) h off away = refl

  key_told : (k : ReadKey) → gives_other t (taken s x) (look_of s x k) k ≡ gives_another s t k
  key_told keys.Root = refl
  key_told (keys.Ref r) =
      ap (λ next. finds_another (document_in (taken s x)) next (which (document_in (taken s x)) (document_in x) ((looks_in s.held).document r)) ((looks_in t.held).document r)) standing
      ∙ document_told (document_in (taken s x)) (document_in x) ((looks_in s.held).document r) ((looks_in t.held).document r) (found_elsewhere r)
  key_told (keys.Attr key) = refl
  key_told keys.CurrentDate = ap not (same_known same_date values.Date (λ a b. refl) (date_in s.held.environment) (date_in t.held.environment))
  key_told keys.CurrentTime = ap not (same_known same_time values.Time (λ a b. refl) (time_in s.held.environment) (time_in t.held.environment))
  key_told keys.CurrentDateTime =
      ap not (same_known same_date_time values.DateTime (λ a b. refl) (date_time_in s.held.environment) (date_time_in t.held.environment))

  all_told : (es : List Seen) → AllByRecursion (IsSeen s x) es → keys_in (filter (is_another t (taken s x)) es) ≡ filter (gives_another s t) (keys_in es)
  all_told [] seen = refl
  all_told (e ∷ es) seen =
      by (is_another t (taken s x) e) (gives_another s t e.key) (ap (λ l. gives_other t (taken s x) l e.key) seen.0 ∙ key_told e.key) (all_told es seen.1)
    where
      by : (b c : Bool) → b ≡ c → keys_in (filter (is_another t (taken s x)) es) ≡ filter (gives_another s t) (keys_in es)
          → keys_in (cond b (e ∷ filter (is_another t (taken s x)) es) (filter (is_another t (taken s x)) es)) ≡ cond c (e.key ∷ filter (gives_another s t) (keys_in es)) (filter (gives_another s t) (keys_in es))
      by true true is rest = ap (λ ks. e.key ∷ ks) rest
      by true false is rest = absurd (cc)
      by false true is rest = absurd (cc)
      by false false is rest = rest

-- ---- a key that doesn't ask for what is exchanged gives the same

kinds_swapped : (a b : Kind) → same_kind a b ≡ same_kind b a
kinds_swapped a b =
    same_test (same_kind a b) (same_kind b a) (λ h. (same_kind-Decides b a).1 (sym ((same_kind-Decides a b).0 h))) (λ h. (same_kind-Decides a b).1 (sym ((same_kind-Decides b a).0 h)))

bytes_swapped : (a b : List ℕ) → bytes_eq a b ≡ bytes_eq b a
bytes_swapped a b = same_test (bytes_eq a b) (bytes_eq b a) (λ h. (bytes_decides b a).1 (sym ((bytes_decides a b).0 h))) (λ h. (bytes_decides a b).1 (sym ((bytes_decides b a).0 h)))

same_asked : (key : DocKey) (k : ReadKey) → asks_document key k ≡ asks_policy key.kind key.id k
same_asked key keys.Root = refl
same_asked key (keys.Ref r) = λ i. kinds_swapped r.kind key.kind i && bytes_swapped r.id key.id i
same_asked key (keys.Attr k) = refl
same_asked key keys.CurrentDate = refl
same_asked key keys.CurrentTime = refl
same_asked key keys.CurrentDateTime = refl

leaves : (s : State) (x : Exchange) (k : ReadKey) → asks x k ≡ false → IsSameLook (looks_in s.held) (looks_in (with_exchange s x).held) k
leaves s (Document number key document) k off = document-leaves s.held number key document k (same_asked key k ∙ off)
leaves s (Row number row values) keys.Root off = values-leave s.held number row values keys.Root refl
leaves s (Row number row values) (keys.Ref r) off = values-leave s.held number row values (keys.Ref r) refl
leaves s (Row number row values) (keys.Attr key) off = values-leave s.held number row values (keys.Attr key) off
leaves s (Row number row values) keys.CurrentDate off = values-leave s.held number row values keys.CurrentDate refl
leaves s (Row number row values) keys.CurrentTime off = values-leave s.held number row values keys.CurrentTime refl
leaves s (Row number row values) keys.CurrentDateTime off = values-leave s.held number row values keys.CurrentDateTime refl
leaves s (Root root) k off = root-leaves s.held root k off
leaves s (Environment environment) k off = environment-leaves s.held environment k off

-- of the keys that cells read and that ask for what is exchanged, those are picked that give another
picked : (s : State) (x : Exchange) (cells : List Kept) (asked : List ReadKey) → HasReadKeys (asks x) cells asked → AreChanged s x cells (filter (gives_another s (with_exchange s x)) asked)
picked s x cells asked has k read = has_filter (gives_another s (with_exchange s x)) asked k ∙ by (asks x k) refl where
  first : (b c : Bool) → b ≡ true → (b && c) ≡ c
  first true c h = refl
  first false c h = absurd (cc)

  second : (b c : Bool) → c ≡ false → (b && c) ≡ c
  second true c h = refl
  second false c h = sym h

  by : (b : Bool) → asks x k ≡ b → (has_key asked k && gives_another s (with_exchange s x) k) ≡ gives_another s (with_exchange s x) k
  by true e = first (has_key asked k) (gives_another s (with_exchange s x) k) (has k e read)
  by false e = second (has_key asked k) (gives_another s (with_exchange s x) k) (ap not ((same_look-Decides (looks_in s.held) (looks_in (with_exchange s x).held) k).1 (leaves s x k e)))

-- behind an exchange, which has now what stood there, those keys give another that do so in the state
pub are_changed : (s t : State) (x back : Exchange) (es : List Seen) (cells : List Kept) → IsWithin s x → t ≡ with_exchange s x → back ≡ taken s x
    → HasReadKeys (asks x) cells (keys_in es) → AllByRecursion (IsSeen s x) es → AreChanged s x cells (keys_in (filter (is_another t back) es))
are_changed s t x back es cells within now is has seen =
    let told : keys_in (filter (is_another t back) es) ≡ filter (gives_another s (with_exchange s x)) (keys_in es) =
    (λ i. keys_in (filter (is_another (now i) (is i)) es)) ∙ all_told s x within es seen in
    subst (AreChanged s x cells) (sym told) (picked s x cells (keys_in es) has)

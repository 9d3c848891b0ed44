-- A chain of as many references as there are documents goes on without end.
use Rattle.std.proofs.Common.{◌≡◌, ◌∙◌, ◌⊎◌, inl, inr, ◌+◌, ◌-◌, ◌<◌, ◌≤◌, ◌||◌, ℕ, zero, suc, List, [], ◌∷◌, Bool, true, false, cond, Option, Some, None, ap, sym, refl, arith, length}
use Rattle.std.proofs.lemmas.Bool.{cases_lt}
use Rattle.std.specs.FinMap.{entries, find as find_key, get, get-entries, len, len-entries}
use Rattle.std.specs.List.{filter_map, list_any}
use Rattle.std.specs.Ordering.{is_eq}
use Rattle.ent_policy.specs.declared.document.Tree.{Tree}
use Rattle.ent_policy.specs.declared.key.DocKey.{DocKey}
use Rattle.ent_finder.proofs.Latest.{latest}
use Rattle.ent_finder.specs.Finding.{most_recent}
use Rattle.ent_finder.specs.Slots.{Docs, key_cmp}
use Rattle.lint_links.specs.References.{references_of}
use Rattle.lint_links.specs.Together.{IsEndless, has_chain, is_endless, leads_to}
use Rattle.lint_links.specs.declared.placed.PlacedReference.{PlacedReference}

abbrev Entry : Type 0
Entry = DocKey × Tree

-- ---- two tests, of which the second passes no more than the first

module _ {X : Type 0} (p q : X → Bool) (less : (x : X) → q x ≡ true → p x ≡ true) where
  any_less : (xs : List X) → list_any q xs ≡ true → list_any p xs ≡ true
  any_less [] h = h
  any_less (x ∷ xs) h = by (p x) (q x) refl refl (any_less xs)
    where
      by : (a b : Bool) → p x ≡ a → q x ≡ b → (list_any q xs ≡ true → list_any p xs ≡ true) → (p x || list_any p xs) ≡ true
      by true b e f rest = ap (λ c. c || list_any p xs) e
      by false true e f rest = absurd (let bad : false ≡ true = sym e ∙ less x f in cc)
      by false false e f rest = ap (λ c. c || list_any p xs) e ∙ rest (sym (ap (λ c. c || list_any q xs) f) ∙ h)

-- how many elements pass
abbrev passing : {X : Type 0} → (X → Bool) → List X → ℕ
passing t [] = 0
passing t (x ∷ xs) = cond (t x) (suc (passing t xs)) (passing t xs)

passing_most : {X : Type 0} (t : X → Bool) (xs : List X) → passing t xs ≤ length xs
passing_most t [] = omega arith
passing_most t (x ∷ xs) = by (t x) (passing_most t xs)
  where
    by : (b : Bool) → passing t xs ≤ length xs → cond b (suc (passing t xs)) (passing t xs) ≤ suc (length xs)
    by true h = omega (arith, h)
    by false h = omega (arith, h)

-- each element gets the same answer by both tests
abbrev Same : {X : Type 0} → (X → Bool) → (X → Bool) → List X → Type 0
Same p q [] = Unit {0}
Same p q (x ∷ xs) = (p x ≡ q x) × Same p q xs

module _ {X : Type 0} (p q : X → Bool) (less : (x : X) → q x ≡ true → p x ≡ true) where
  no_more : (xs : List X) → passing q xs ≤ passing p xs
  no_more [] = omega arith
  no_more (x ∷ xs) = by (p x) (q x) refl refl (no_more xs)
    where
      by : (a b : Bool) → p x ≡ a → q x ≡ b → passing q xs ≤ passing p xs → cond b (suc (passing q xs)) (passing q xs) ≤ cond a (suc (passing p xs)) (passing p xs)
      by true true e f h = omega (arith, h)
      by true false e f h = omega (arith, h)
      by false true e f h = absurd (let bad : false ≡ true = sym e ∙ less x f in cc)
      by false false e f h = h

  -- fewer pass, or each gets the same answer
  fewer_or_same : (xs : List X) → (passing q xs < passing p xs) ⊎ Same p q xs
  fewer_or_same [] = inr tt
  fewer_or_same (x ∷ xs) = by (p x) (q x) refl refl (fewer_or_same xs)
    where
      by : (a b : Bool) → p x ≡ a → q x ≡ b → (passing q xs < passing p xs) ⊎ Same p q xs
          → (cond b (suc (passing q xs)) (passing q xs) < cond a (suc (passing p xs)) (passing p xs)) ⊎ ((p x ≡ q x) × Same p q xs)
      by true true e f (inl h) = inl (omega (arith, h))
      by true true e f (inr h) = inr (e ∙ sym f, h)
      by true false e f h = let some = no_more xs in inl (omega (arith, some))
      by false true e f h = absurd (let bad : false ≡ true = sym e ∙ less x f in cc)
      by false false e f (inl h) = inl h
      by false false e f (inr h) = inr (e ∙ sym f, h)

-- ---- documents that are held

module _ (docs : Docs) where
  abbrev IsHeld : Tree → Type 0
  IsHeld document = (key : DocKey) × (get docs key ≡ Some document)

  abbrev AllHeld : List Tree → Type 0
  AllHeld [] = Unit {0}
  AllHeld (document ∷ others) = IsHeld document × AllHeld others

  -- what references find is held
  found_held : (placed : List PlacedReference) → AllHeld (filter_map (λ p. most_recent p.reference docs) placed)
  found_held [] = tt
  found_held (p ∷ ps) = by (most_recent p.reference docs) refl (found_held ps)
    where
      by : (o : Option Tree) → most_recent p.reference docs ≡ o → AllHeld (filter_map (λ p. most_recent p.reference docs) ps) → AllHeld (filter_map (λ p. most_recent p.reference docs) (p ∷ ps))
      by None e rest = rw e rest
      by (Some document) e rest = rw e (let it = latest p.reference docs document e in ((it.0, it.1.is_held), rest))

  leads_held : (document : Tree) → AllHeld (leads_to docs document)
  leads_held document = found_held (references_of document)

  same_any : (p q : Tree → Bool) → ((document : Tree) → IsHeld document → p document ≡ q document) → (ds : List Tree) → AllHeld ds → list_any p ds ≡ list_any q ds
  same_any p q each [] held = refl
  same_any p q each (d ∷ ds) held = λ i. each d held.0 i || same_any p q each ds held.1 i

  -- a chain of more references is one of fewer
  shorter : (hops : ℕ) (document : Tree) → has_chain docs (suc hops) document ≡ true → has_chain docs hops document ≡ true
  shorter zero document h = refl
  shorter (suc hops) document h = any_less (has_chain docs hops) (has_chain docs (suc hops)) (shorter hops) (leads_to docs document) h

  -- one more reference changes nothing
  abbrev Stays : ℕ → Type 0
  Stays hops = (document : Tree) → IsHeld document → has_chain docs hops document ≡ has_chain docs (suc hops) document

  stays_next : (hops : ℕ) → Stays hops → Stays (suc hops)
  stays_next hops stays document held = same_any (has_chain docs hops) (has_chain docs (suc hops)) stays (leads_to docs document) (leads_held document)

  -- so many more
  abbrev up : ℕ → ℕ → ℕ
  up zero hops = hops
  up (suc more) hops = suc (up more hops)

  up_is : (more hops : ℕ) → up more hops ≡ more + hops
  up_is zero hops = omega arith
  up_is (suc more) hops = let before = up_is more hops in omega (arith, before)

  up_to : (hops end : ℕ) → hops ≤ end → end ≡ up (end - hops) hops
  up_to hops end within = let is = up_is (end - hops) hops in omega (arith, within, is)

  stays_up : (more hops : ℕ) → Stays hops → Stays (up more hops)
  stays_up zero hops stays = stays
  stays_up (suc more) hops stays = stays_next (up more hops) (stays_up more hops stays)

  longer : (more hops : ℕ) → Stays hops → (document : Tree) → IsHeld document → has_chain docs hops document ≡ true → has_chain docs (up more hops) document ≡ true
  longer zero hops stays document held h = h
  longer (suc more) hops stays document held h = sym (stays_up more hops stays document held) ∙ longer more hops stays document held h

  lower : (more hops : ℕ) (document : Tree) → has_chain docs (up more hops) document ≡ true → has_chain docs hops document ≡ true
  lower zero hops document h = h
  lower (suc more) hops document h = lower more hops document (shorter (up more hops) document h)

  -- ---- the entries

  abbrev chains : ℕ → Entry → Bool
  chains hops e = has_chain docs hops e.1

  -- a document that is found by its key is one of the entries
  answer_same : (p q : Tree → Bool) (key : DocKey) (document : Tree) (es : List Entry) → find_key key_cmp key es ≡ Some document → Same (λ e. p e.1) (λ e. q e.1) es → p document ≡ q document
  answer_same p q key document [] is same = absurd (let bad : None ≡ Some document = is in cc)
  answer_same p q key document (e ∷ es) is same = by (is_eq (key_cmp key e.0)) is (λ h. answer_same p q key document es h same.1)
    where
      by : (b : Bool) → cond b (Some e.1) (find_key key_cmp key es) ≡ Some document → (find_key key_cmp key es ≡ Some document → p document ≡ q document) → p document ≡ q document
      by true h rest = let there : e.1 ≡ document = cc in ap p (sym there) ∙ same.0 ∙ ap q there
      by false h rest = rest h

  counted : (p : Tree → Bool) (key : DocKey) (document : Tree) (es : List Entry) → find_key key_cmp key es ≡ Some document → p document ≡ true → 1 ≤ passing (λ e. p e.1) es
  counted p key document [] is passes = absurd (let bad : None ≡ Some document = is in cc)
  counted p key document (e ∷ es) is passes = by (is_eq (key_cmp key e.0)) (p e.1) is refl (λ h. counted p key document es h passes)
    where
      by : (b c : Bool) → cond b (Some e.1) (find_key key_cmp key es) ≡ Some document → p e.1 ≡ c → (find_key key_cmp key es ≡ Some document → 1 ≤ passing (λ e. p e.1) es)
          → 1 ≤ cond c (suc (passing (λ e. p e.1) es)) (passing (λ e. p e.1) es)
      by true true h k rest = omega arith
      by true false h k rest = absurd (let there : e.1 ≡ document = cc in let bad : false ≡ true = sym k ∙ ap p there ∙ passes in cc)
      by false true h k rest = omega arith
      by false false h k rest = rest h

  stays_if : (hops : ℕ) → Same (chains hops) (chains (suc hops)) (entries docs) → Stays hops
  stays_if hops same document held = answer_same (has_chain docs hops) (has_chain docs (suc hops)) held.0 document (entries docs) (sym (get-entries docs held.0) ∙ held.1) same

  -- with each reference more fewer documents are left, until one more changes nothing
  progress : (hops : ℕ) → (passing (chains hops) (entries docs) + hops ≤ length (entries docs)) ⊎ ((at : ℕ) × (at ≤ hops) × Stays at)
  progress zero = let most = passing_most (chains zero) (entries docs) in inl (omega (arith, most))
  progress (suc hops) = by (progress hops) (fewer_or_same (chains hops) (chains (suc hops)) (λ e. shorter hops e.1) (entries docs))
    where
      by : (passing (chains hops) (entries docs) + hops ≤ length (entries docs)) ⊎ ((at : ℕ) × (at ≤ hops) × Stays at)
          → (passing (chains (suc hops)) (entries docs) < passing (chains hops) (entries docs)) ⊎ Same (chains hops) (chains (suc hops)) (entries docs)
          → (passing (chains (suc hops)) (entries docs) + suc hops ≤ length (entries docs)) ⊎ ((at : ℕ) × (at ≤ suc hops) × Stays at)
      by (inr (at, within, stays)) next = inr (at, omega (arith, within), stays)
      by (inl few) (inl less) = inl (omega (arith, few, less))
      by (inl few) (inr same) = inr (hops, omega arith, stays_if hops same)

  endless : (at end : ℕ) → at ≤ end → Stays at → (document : Tree) → IsHeld document → has_chain docs end document ≡ true → (hops : ℕ) → has_chain docs hops document ≡ true
  endless at end within stays document held h hops = by (cases_lt at hops)
    where
      here : has_chain docs at document ≡ true
      here = lower (end - at) at document (sym (ap (λ n. has_chain docs n document) (up_to at end within)) ∙ h)

      by : (at < hops) ⊎ (hops ≤ at) → has_chain docs hops document ≡ true
      by (inl more) = ap (λ n. has_chain docs n document) (up_to at hops (omega (arith, more))) ∙ longer (hops - at) at stays document held here
      by (inr less) = lower (at - hops) hops document (sym (ap (λ n. has_chain docs n document) (up_to hops at less)) ∙ here)

  pub without_end : (key : DocKey) (document : Tree) → get docs key ≡ Some document → is_endless docs document ≡ true → IsEndless docs document
  without_end key document is h = by (progress (len docs))
    where
      by : (passing (chains (len docs)) (entries docs) + len docs ≤ length (entries docs)) ⊎ ((at : ℕ) × (at ≤ len docs) × Stays at) → IsEndless docs document
      by (inl few) =
          let one : 1 ≤ passing (chains (len docs)) (entries docs) = counted (has_chain docs (len docs)) key document (entries docs) (sym (get-entries docs key) ∙ is) h in
          let all : len docs ≡ length (entries docs) = len-entries docs in
          absurd (omega (arith, few, one, all))
      by (inr (at, within, stays)) = endless at (len docs) within stays document (key, is) h

-- The claims of lines that are noted one after another.
use Rattle.std.proofs.Common.{◌≡◌, ℕ, suc, ◌<◌, ◌≤◌, ◌+◌, List, [], ◌∷◌, ◌++◌, Bool, ◌||◌, Bor, Option, Some, None, true, false, cond, get_or, length, map, drop, refl, sym, ap, ◌∙◌, arith, if◌then◌else◌}
use mathlib.Core.List.{append_assoc}
use Rattle.std.proofs.lemmas.List.{append-nil, at_drop_all, at_drop_more}
use Rattle.std.specs.List.{list_any}
use Rattle.std.specs.Ordering.{is_eq}
use Rattle.std.specs.declared.cmp.Ordering.{Ordering}
use Rattle.lint_declared.specs.Claims.{behind, same_claim, standing_behind}
use Rattle.lint_declared.specs.Lines.{fault_of, faulty_from, with_fault}
use Rattle.lint_declared.specs.contracts.claim.ClaimOrd.TheImpl as orders
use Rattle.lint_declared.specs.contracts.claim.ClaimOrd.TheImpl.Laws.{matches_eq-law}
use Rattle.lint_declared.specs.declared.attribute.DeclaredAttribute.{DeclaredAttribute}
use Rattle.lint_declared.specs.declared.claim.Claim.{Claim}
use Rattle.lint_declared.specs.declared.lines.FaultyLine.{FaultyLine}
use Rattle.lint_declared.specs.declared.lines.LineFault.{LineFault}
use Rattle.lint_declared.specs.declared.listed.ListedName.{ListedName}

abbrev pub claim_cmp : Claim → Claim → Ordering
claim_cmp = (orders.ghosts).cmp

-- what a map has behind a change at one claim
pub changed : (old new : Claim → Option ℕ) (k : Claim) (w : Option ℕ) → ((q : Claim) → new q ≡ cond (is_eq (claim_cmp k q)) w (old q))
    → (q : Claim) → new q ≡ (if same_claim k q then w else old q)
changed old new k w updates q = updates q ∙ (λ i. cond (sym (matches_eq-law k q) i) w (old q))

-- behind a claim that stands from then on
pub put_claim : (old new : Claim → Option ℕ) (n : ℕ) (said : Option (Claim × Bool)) (k : Claim) (b : Bool) → said ≡ Some (k, b) → b ≡ true
    → ((q : Claim) → new q ≡ cond (is_eq (claim_cmp k q)) (Some n) (old q)) → (q : Claim) → new q ≡ standing_behind old n said q
put_claim old new n said k b is stands updates q =
    changed old new k (Some n) updates q ∙ (λ j. standing_behind old n (sym (is ∙ ap (λ b. Some (k, b)) stands) j) q)

-- behind one that doesn't
pub drop_claim : (old new : Claim → Option ℕ) (n : ℕ) (said : Option (Claim × Bool)) (k : Claim) (b : Bool) → said ≡ Some (k, b) → b ≡ false
    → ((q : Claim) → new q ≡ cond (is_eq (claim_cmp k q)) None (old q)) → (q : Claim) → new q ≡ standing_behind old n said q
drop_claim old new n said k b is stands updates q =
    changed old new k None updates q ∙ (λ j. standing_behind old n (sym (is ∙ ap (λ b. Some (k, b)) stands) j) q)

-- a test of what references show
pub any_shown : (p : List ℕ → Bool) (xs : List (Bor (List ℕ))) → list_any (λ x. p x.now) xs ≡ list_any p (map (λ x. x.now) xs)
any_shown p [] = refl
any_shown p (x ∷ xs) = ap (λ b. p x.now || b) (any_shown p xs)

module _ (commands : List (List ℕ)) (attributes : List DeclaredAttribute) (listed : List ListedName) where
  -- what is left is put behind what was
  abbrev pub told_from : List FaultyLine → (Claim → Option ℕ) → List (Bor (List ℕ)) → ℕ → List FaultyLine
  told_from all claimed lines i = all ++ faulty_from commands attributes listed claimed (suc i) (map (λ l. l.now) (drop i lines))

  put_one : (all rest : List FaultyLine) (n : ℕ) (o : Option LineFault) → all ++ with_fault n o rest ≡ (all ++ with_fault n o []) ++ rest
  put_one all rest n None = ap (λ xs. xs ++ rest) (sym (append-nil all))
  put_one all rest n (Some e) = sym (append_assoc all (record { number = n; fault = e } ∷ []) rest)

  pub one_more_line : (all more : List FaultyLine) (before after : Claim → Option ℕ) (lines : List (Bor (List ℕ))) (i : ℕ) (d : Bor (List ℕ)) (o : Option LineFault)
      → i < length lines → o ≡ fault_of commands attributes listed before (get_or lines i d).now
      → more ≡ all ++ with_fault (i + 1) o [] → ((q : Claim) → after q ≡ behind before (i + 1) (get_or lines i d).now q)
      → told_from all before lines i ≡ told_from more after lines (i + 1)
  one_more_line all more before after lines i d o lt fault put noted =
      let line = get_or lines i d in
      let next : suc i ≡ i + 1 = omega arith in
      let rest = map (λ (l : Bor (List ℕ)). l.now) (drop (i + 1) lines) in
      let same : after ≡ behind before (i + 1) line.now = λ j. λ q. noted q j in
      at_drop_more (λ xs. all ++ faulty_from commands attributes listed before (suc i) (map (λ (l : Bor (List ℕ)). l.now) xs)) lines i d lt
      ∙ rw (← fault, next)
      (put_one all (faulty_from commands attributes listed (behind before (i + 1) line.now) (suc (i + 1)) rest) (i + 1) o
      ∙ (λ j. sym put j ++ faulty_from commands attributes listed (sym same j) (suc (i + 1)) rest))

  pub no_more_lines : (all : List FaultyLine) (before : Claim → Option ℕ) (lines : List (Bor (List ℕ))) (i : ℕ) → length lines ≤ i → told_from all before lines i ≡ all
  no_more_lines all before lines i le =
      at_drop_all (λ xs. all ++ faulty_from commands attributes listed before (suc i) (map (λ (l : Bor (List ℕ)). l.now) xs)) lines i le ∙ append-nil all

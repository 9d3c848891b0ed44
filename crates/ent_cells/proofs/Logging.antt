-- Old answers are put into a log, one after another.
use Rattle.std.proofs.Common.{◌≡◌, ℕ, ◌+◌, ◌<◌, ◌≤◌, List, [], ◌∷◌, ◌++◌, length, take, Option, Some, None, option_map, refl, sym, ap, subst, ◌∙◌, arith, slice_index_or as get_or}
use Rattle.std.specs.List.{cons_option}
use Rattle.std.proofs.lemmas.List.{length-append, take_more}
use Rattle.std.proofs.lemmas.List.Elements.{filter_map-append}
use Rattle.slab.specs.Slab.{Slab, get}
use Rattle.ent_request.specs.declared.answer.Answer.{Answer}
use Rattle.ent_log.specs.Entries.{table_before}
use Rattle.ent_log.specs.declared.entry.OldAnswer.{OldAnswer}
use Rattle.ent_log.specs.declared.log.Log.{Log}
use Rattle.ent_log.proofs.Before.{table_at-same, table_before-append}
use Rattle.ent_eval.specs.declared.who.Who.{Who}
use Rattle.ent_cells.specs.Entries.{Entry}
use Rattle.ent_cells.specs.Grid.{times}
use Rattle.ent_cells.specs.proofs_only.Logging.{Puts, gone_in, old_of}
use Rattle.ent_cells.specs.Order.{request_order}
use Rattle.ent_cells.specs.Shape.{left_after, left_of}
use Rattle.ent_cells.proofs.Among.{once_at_least}
use Rattle.ent_cells.proofs.Shapes.{times-append}

-- ---- one list after another

pub puts-none : (log : Log Who Answer) → Puts [] log log
puts-none log = record {
  from = refl;
  serial = refl;
  room = omega arith;
  kept = λ before after undoes n le k. table_at-same request_order log log refl before after undoes n k;
}

pub puts-append : (xs ys : List (OldAnswer Who Answer)) (a b c : Log Who Answer) → Puts xs a b → Puts ys b c → Puts (xs ++ ys) a c
puts-append xs ys a b c first second = record {
  from = second.from ∙ first.from;
  serial = second.serial ∙ first.serial;
  room = omega (arith, length-append xs ys, first.room, second.room);
  kept = λ before after undoes n le k.
      let mid : Who → Option Answer = table_before request_order ys after in
      let here : n ≤ b.serial = omega (arith, first.serial, le) in
      second.kept mid after (λ _. refl) n here k
      ∙ first.kept before mid (λ q. sym (table_before-append request_order xs ys after q) ∙ undoes q) n le k;
}

pub puts-as : (xs ys : List (OldAnswer Who Answer)) (a b : Log Who Answer) → xs ≡ ys → Puts xs a b → Puts ys a b
puts-as xs ys a b e puts = subst (λ os. Puts os a b) e puts

-- ---- the answers of the cells under some keys

abbrev gone_at : Option Entry → Option (OldAnswer Who Answer)
gone_at o = option_map (λ e. old_of e.kept) o

pub gone-append : (s : Slab Entry) (xs ys : List ℕ) → gone_in s (xs ++ ys) ≡ gone_in s xs ++ gone_in s ys
gone-append s xs ys = filter_map-append (λ c. gone_at (get s c)) xs ys

pub gone_more : (s : Slab Entry) (keys : List ℕ) (i : ℕ) → i < length keys
    → gone_in s (take (i + 1) keys) ≡ gone_in s (take i keys) ++ gone_in s (get_or keys i 0 ∷ [])
gone_more s keys i within = ap (gone_in s) (take_more keys i 0 within) ∙ gone-append s (take i keys) (get_or keys i 0 ∷ [])

one_length : (o : Option Entry) (os : List (OldAnswer Who Answer)) (n : ℕ) → length os ≤ n → length (cons_option (gone_at o) os) ≤ 1 + n
one_length None os n h = omega (arith, h)
one_length (Some e) os n h = omega (arith, h)

-- there are no more than there are keys
pub gone_length : (s : Slab Entry) (keys : List ℕ) → length (gone_in s keys) ≤ length keys
gone_length s [] = omega arith
gone_length s (k ∷ ks) = let h = one_length (get s k) (gone_in s ks) (length ks) (gone_length s ks) in omega (arith, h)

left_whole : (n : ℕ) (o p : Option Entry) → n ≡ 0 → p ≡ left_after n o → p ≡ o
left_whole n o p none e = e ∙ ap (λ m. left_after m o) none

-- cells that were not taken out answer as before
module _ (s t : Slab Entry) (gone : List ℕ) (cleared : (q : ℕ) → get t q ≡ left_of s gone q) where
  pub left_there : (q : ℕ) → times q gone ≡ 0 → get t q ≡ get s q
  left_there q none = left_whole (times q gone) (get s q) (get t q) none (cleared q)

  pub gone_one : (k : ℕ) → times k gone ≡ 0 → gone_in t (k ∷ []) ≡ gone_in s (k ∷ [])
  gone_one k none = ap (λ o. cons_option (gone_at o) []) (left_there k none)

  pub gone_others : (ks : List ℕ) → ((q : ℕ) → 1 ≤ times q ks → times q gone ≡ 0) → gone_in t ks ≡ gone_in s ks
  gone_others [] apart = refl
  gone_others (k ∷ ks) apart =
      let here : get t k ≡ get s k = left_there k (apart k (once_at_least k ks)) in
      let rest : gone_in t ks ≡ gone_in s ks = gone_others ks (λ q h. apart q (omega (arith, h))) in
      λ i. cons_option (gone_at (here i)) (rest i)

  -- first those under some keys, then those under others
  pub gone_then : (ks : List ℕ) → ((q : ℕ) → times q (gone ++ ks) ≤ 1) → gone_in s gone ++ gone_in t ks ≡ gone_in s (gone ++ ks)
  gone_then ks once =
      ap (λ os. gone_in s gone ++ os) (gone_others ks (λ q h. omega (arith, h, once q, times-append q gone ks)))
      ∙ sym (gone-append s gone ks)

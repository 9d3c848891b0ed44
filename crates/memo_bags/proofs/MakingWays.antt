-- Ways that are made for what was found.
use Rattle.std.proofs.Common.{◌≡◌, inl, inr, ℕ, ◌+◌, ◌<◌, List, [], ◌∷◌, ◌++◌, Option, Some, None, length, take, slice_get, refl, sym, ap, subst, ◌∙◌, arith}
use Rattle.std.specs.Prelude.{◌⊎◌}
use Rattle.memo_trie.specs.Tree.{AsksAtMost, LeadsAsBefore, Reaches, Stays, key_at, key_in, leaf_in, next_at, next_in}
use Rattle.memo_trie.specs.declared.fork.Fork.{Fork}
use Rattle.memo_trie.specs.declared.node.Node.{Node}
use Rattle.memo_trie.specs.declared.node.Node.TheVariants.{Ask, Leaf, Nothing}
use Rattle.memo_bags.specs.declared.finding.About.{About}
use Rattle.memo_bags.specs.declared.finding.Finding.{Finding}
use Rattle.memo_bags.specs.declared.ways.Standing.{Standing}
use Rattle.memo_bags.specs.declared.ways.Standing.TheVariants as standing
use Rattle.memo_bags.specs.Found.{IsAbout}
use Rattle.memo_bags.specs.Ways.{Nodes, Way, about_of, turn_of, turned, way_of}
use Rattle.memo_bags.specs.proofs_only.Led.{AsksStill, GoesFree, LeadsOn, Stands, StandsAt}
use Rattle.memo_bags.proofs.FoundAll.{taken}
use Rattle.memo_bags.proofs.Growing.{some_same}
use Rattle.ent_request.proofs.Numbering.{all_at}

-- ---- what stands at a place

pub same_about : (a : About) (f : Finding) → a.question ≡ f.question → a.place ≡ f.place → a ≡ about_of f
same_about a f question place = ap (λ q. record { question = q; place = a.place }) question ∙ ap (λ p. record { question = f.question; place = p }) place

pub stands_by : (nodes : Nodes) (place : ℕ) (f : Finding) (fork : Fork About) (s : Standing) → slice_get nodes place ≡ Some (Ask fork) → StandsAt fork f s → Stands nodes place f s
stands_by nodes place f fork standing.Nothing there stands = absurd stands
stands_by nodes place f fork standing.Free there stands = (ap key_in there ∙ ap (λ k. Some k) stands.0, ap (λ o. next_in o f.bag) there ∙ stands.1)
stands_by nodes place f fork (standing.Leads next) there stands = (ap key_in there ∙ ap (λ k. Some k) stands.0, ap (λ o. next_in o f.bag) there ∙ stands.1)
stands_by nodes place f fork standing.Other there stands = λ nothing.
    let e : Some fork.key ≡ None = ap key_in (sym there ∙ nothing) in
    absurd (cc)

-- where a question stands, something does
pub asks_here : (nodes : Nodes) (place : ℕ) (k : About) → key_at nodes place ≡ Some k → slice_get nodes place ≡ Some Nothing → ⊥
asks_here nodes place k asks nothing =
    let e : Some k ≡ None = sym asks ∙ ap key_in nothing in
    absurd (cc)

-- ---- one turn

pub as_before : (nodes : Nodes) → LeadsAsBefore nodes nodes
as_before nodes way leaf = (λ led. led, λ led. led)

pub before_then : (old mid new : Nodes) → LeadsAsBefore old mid → LeadsAsBefore mid new → LeadsAsBefore old new
before_then old mid new first second way leaf = (λ led. (second way leaf).0 ((first way leaf).0 led), λ led. (first way leaf).1 ((second way leaf).1 led))

pub asks_same : (key : About) (old new : Nodes) → ((n : ℕ) → key_at new n ≡ key_at old n) → AsksAtMost key old new
asks_same key old new same n k is = inl (sym (same n) ∙ is)

pub leads_further : (nodes : Nodes) (place : ℕ) (f : Finding) (next : ℕ) → key_at nodes place ≡ Some (about_of f) → next_at nodes place f.bag ≡ Some next → LeadsOn nodes nodes place f next
leads_further nodes place f next key is way reaches = (place, (key, (is, reaches)))

pub not_free : (old new : Nodes) (place : ℕ) (next : Option ℕ) (k : About) → key_at old place ≡ Some k → GoesFree old new place next
not_free old new place next k asks nothing = absurd (asks_here old place k asks nothing)

-- ---- many turns

turned_more : (way : Way) (found : List Finding) (f : Finding) → turned way (found ++ f ∷ []) ≡ turn_of f ∷ turned way found
turned_more way [] f = refl
turned_more way (x ∷ found) f = turned_more (turn_of x ∷ way) found f

-- a way is made for what was found so far
pub record IsMaking (old new : Nodes) (found : List Finding) (i place : ℕ) : Type 0 where
  pub leads : LeadsAsBefore old new
  pub reaches : Reaches new place (way_of (take i found))
  pub free : slice_get old 0 ≡ Some Nothing → slice_get new place ≡ Some Nothing
  pub asks : AsksStill found old new

pub making_first : (nodes : Nodes) (found : List Finding) → IsMaking nodes nodes found 0 0
making_first nodes found = record { leads = as_before nodes; reaches = refl; free = λ nothing. nothing; asks = λ questions about asks. asks }

pub asks_more : (found : List Finding) (i : ℕ) (f : Finding) (old mid new : Nodes) → slice_get found i ≡ Some f → AsksAtMost (about_of f) mid new → AsksStill found old mid → AsksStill found old new
asks_more found i f old mid new there most still questions about asks n k is = by (most n k is) where
  by : (key_at mid n ≡ Some k) ⊎ (k ≡ about_of f) → IsAbout questions k.question k.place
  by (inl before) = still questions about asks n k before
  by (inr this) = subst (λ (x : About). IsAbout questions x.question x.place) (sym this) (all_at (λ x. IsAbout questions x.question x.place) found i f about there)

free_next : (old mid new : Nodes) (place next : ℕ) → (slice_get old 0 ≡ Some Nothing → slice_get mid place ≡ Some Nothing) → GoesFree mid new place (Some next)
    → slice_get old 0 ≡ Some Nothing → slice_get new next ≡ Some Nothing
free_next old mid new place next before goes nothing =
    let there = goes (before nothing) in
    ap (slice_get new) (some_same next there.0 there.1.0) ∙ there.1.1

pub making_next : (old mid new : Nodes) (found : List Finding) (i place next : ℕ) (f : Finding) → slice_get found i ≡ Some f → IsMaking old mid found i place → LeadsOn mid new place f next
    → GoesFree mid new place (Some next) → LeadsAsBefore mid new → AsksAtMost (about_of f) mid new → IsMaking old new found (i + 1) next
making_next old mid new found i place next f there so_far on goes leads most = record {
  leads = before_then old mid new so_far.leads leads;
  reaches =
      subst (λ fs. Reaches new next (way_of fs)) (sym (taken found i f there))
      (subst (Reaches new next) (sym (turned_more [] (take i found) f)) (on (way_of (take i found)) so_far.reaches));
  free = free_next old mid new place next so_far.free goes;
  asks = asks_more found i f old mid new there most so_far.asks;
}

-- a tree that asks as before does still
pub asks_begun : (old mid new : Nodes) (found : List Finding) → Stays old mid → AsksStill found mid new → AsksStill found old new
asks_begun old mid new found stays still questions about asks = still questions about (λ n k is. asks n k (sym (stays.asks n) ∙ is))

-- the first place of a tree without places
pub begun : (old new : Nodes) → Stays old new → 0 < length new → old ≡ [] → slice_get new 0 ≡ Some Nothing
begun old new stays long none = by (slice_get new 0) refl where
  no_place : (nodes : Nodes) (n : ℕ) → nodes ≡ [] → slice_get nodes n ≡ None
  no_place [] n is = refl
  no_place (x ∷ nodes) n is = absurd (cc)

  some_there : (nodes : Nodes) → 0 < length nodes → slice_get nodes 0 ≡ None → ⊥
  some_there [] lt is = omega (arith, lt)
  some_there (x ∷ nodes) lt is = absurd (cc)

  by : (o : Option (Node About ℕ)) → slice_get new 0 ≡ o → slice_get new 0 ≡ Some Nothing
  by None is = absurd (some_there new long is)
  by (Some Nothing) is = is
  by (Some (Ask f)) is = absurd (cc (ap key_in is, stays.asks 0, ap key_in (no_place old 0 none)))
  by (Some (Leaf l)) is =
      let led = (stays.leads [] l).1 (0, (ap leaf_in is, refl)) in
      absurd (cc (led.1.0, ap leaf_in (no_place old led.0 none)))

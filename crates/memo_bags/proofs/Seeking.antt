-- Which case's way a request finds.
use Rattle.std.proofs.Common.{◌≡◌, inl, inr, ℕ, ◌<◌, List, [], ◌∷◌, Option, Some, None, length, slice_get, refl, sym, ap, subst, ◌∙◌}
use Rattle.std.specs.Prelude.{◌⊎◌}
use Rattle.memo_trie.specs.Tree.{IsOnWay, IsTree, Reaches, branch_of, key_at, key_in, leaf_at, next_at, next_in}
use Rattle.memo_trie.specs.declared.fork.Fork.{Fork}
use Rattle.memo_trie.specs.declared.node.Node.TheVariants.{Ask}
use Rattle.memo_trie.proofs.Ways.{begins_way, ends_or_asks, goes_on}
use Rattle.ent_values.specs.Bags.{Contents}
use Rattle.memo_bags.specs.declared.finding.About.{About}
use Rattle.memo_bags.specs.declared.findings.Findings.{Findings}
use Rattle.ent_request.specs.declared.question.Question.{Question}
use Rattle.ent_request.specs.declared.request.Request.{Request}
use Rattle.memo_bags.specs.declared.scene.Scene.{Scene}
use Rattle.memo_bags.specs.Found.{FindsBag, bag_for}
use Rattle.ent_request.specs.Looks.{Looks}
use Rattle.memo_bags.specs.Ways.{FindsWay, Nodes, Way}
use Rattle.memo_bags.specs.proofs_only.Led.{FindsNext, TellsEnd}
use Rattle.memo_bags.specs.proofs_only.Ready.{AreReady, Begins, KeepsReady, request_of}
use Rattle.memo_bags.proofs.FoundAll.{keeps_itself, keeps_then}
use Rattle.memo_bags.proofs.Growing.{all_map, one_place, some_same, starts_get, starts_then}

-- what a request found by fewer bags, it finds
way_more : (looks : Looks) (questions : List Question) (bags bigger : List Contents) (request : Request) → Begins bigger bags → (way : Way) → FindsWay looks questions bags request way → FindsWay looks questions bigger request way
way_more looks questions bags bigger request begins way all =
    all_map (λ t. FindsBag looks questions bags request t.key.question t.number) (λ t. FindsBag looks questions bigger request t.key.question t.number)
    (λ t finds. (finds.0, (finds.1.0, starts_get bags bigger t.number (bag_for looks request finds.0) begins finds.1.1))) way all

-- a question finds one bag
found_once : {L : Type 0} (looks : Looks) (scene : Scene L) (old new : Findings) (question n k : ℕ) → AreReady looks scene new → Begins new.bags old.bags
    → FindsBag looks scene.questions.now new.bags (request_of scene) question n → FindsBag looks scene.questions.now old.bags (request_of scene) question k → k ≡ n
found_once looks scene old new question n k ready begins now before =
    let same : before.0 ≡ now.0 = some_same before.0 now.0 (sym before.1.0 ∙ now.1.0) in
    let bag : slice_get new.bags k ≡ Some (bag_for looks (request_of scene) now.0) =
    starts_get old.bags new.bags k (bag_for looks (request_of scene) before.0) begins before.1.1 ∙ ap (λ x. Some (bag_for looks (request_of scene) x)) same in
    sym (one_place new.bags n k (bag_for looks (request_of scene) now.0) ready.are.distinct now.1.1 bag)

-- a way that the request finds leads to this place, and each way to an end that it found before goes through it
pub record IsSeeking {L : Type 0} (looks : Looks) (scene : Scene L) (old new : Findings) (nodes : Nodes) (place : ℕ) : Type 0 where
  pub keeps : KeepsReady looks scene old new
  pub led : (way : Way) × (Reaches nodes place way × FindsWay looks scene.questions.now new.bags (request_of scene) way)
  pub on : (way : Way) (end i : ℕ) → leaf_at nodes end ≡ Some i → Reaches nodes end way → FindsWay looks scene.questions.now old.bags (request_of scene) way → IsOnWay nodes place end way

pub seeking_first : {L : Type 0} (looks : Looks) (scene : Scene L) (findings : Findings) (nodes : Nodes) → AreReady looks scene findings → IsSeeking looks scene findings findings nodes 0
seeking_first looks scene findings nodes ready = record {
  keeps = keeps_itself looks scene findings ready;
  led = ([], (refl, tt));
  on = λ way end i leaf reaches found. begins_way nodes end way reaches;
}

module _ {L : Type 0} (looks : Looks) (scene : Scene L) (old mid new : Findings) (nodes : Nodes) (place : ℕ) (fork : Fork About) (there : slice_get nodes place ≡ Some (Ask fork))
    (so_far : IsSeeking looks scene old mid nodes place) (keeps : KeepsReady looks scene mid new) where
  abbrev questions : List Question
  questions = scene.questions.now

  abbrev request : Request
  request = request_of scene

  begins : Begins new.bags old.bags
  begins = starts_then old.bags mid.bags new.bags so_far.keeps.begins keeps.begins

  key : key_at nodes place ≡ Some fork.key
  key = ap key_in there

  next : (bag : ℕ) → next_at nodes place bag ≡ branch_of fork bag
  next bag = ap (λ o. next_in o bag) there

  -- each way to an end that was found before goes on by this bag
  further : (bag : ℕ) → FindsBag looks questions new.bags request fork.key.question bag → (way : Way) (end i : ℕ) → leaf_at nodes end ≡ Some i → Reaches nodes end way
      → FindsWay looks questions old.bags request way → (m : ℕ) × ((next_at nodes place bag ≡ Some m) × IsOnWay nodes m end way)
  further bag finds way end i leaf reaches found =
      goes_on nodes (λ k w. FindsBag looks questions old.bags request k.question w) place end way fork.key i bag leaf key
      (λ w before. found_once looks scene old new fork.key.question bag w keeps.ready begins finds before) found (so_far.on way end i leaf reaches found)

  pub seeking_next : (o : Option ℕ) (m : ℕ) → o ≡ Some m → FindsNext looks questions new.bags request fork o → IsSeeking looks scene old new nodes m
  seeking_next o m is finds = record {
    keeps = keeps_then looks scene old mid new so_far.keeps keeps;
    led =
        let before = so_far.led in (
          record { key = fork.key; number = finds.0 } ∷ before.0,
          ((place, (key, (next finds.0 ∙ sym finds.1.1 ∙ is, before.1.0))), (finds.1.0, way_more looks questions mid.bags new.bags request keeps.begins before.0 before.1.1)),
        );
    on = λ way end i leaf reaches found.
        let later = further finds.0 finds.1.0 way end i leaf reaches found in
        subst (λ p. IsOnWay nodes p end way) (some_same later.0 m (sym later.1.0 ∙ next finds.0 ∙ sym finds.1.1 ∙ is)) later.1.1;
  }

  pub seeking_ends : (o : Option ℕ) → o ≡ None → FindsNext looks questions new.bags request fork o → TellsEnd looks questions old.bags new.bags request nodes None
  seeking_ends o is finds way i led found =
      let later = further finds.0 finds.1.0 way led.0 i led.1.0 led.1.1 found in
      absurd (cc (later.1.0, next finds.0, finds.1.1, is))

-- no question stands at the place, so that a way ends there if one goes through it
pub seeking_all : {L : Type 0} (looks : Looks) (scene : Scene L) (old new : Findings) (nodes : Nodes) (place : ℕ) → IsSeeking looks scene old new nodes place → ((k : About) → key_at nodes place ≡ Some k → ⊥)
    → TellsEnd looks scene.questions.now old.bags new.bags (request_of scene) nodes (leaf_at nodes place)
seeking_all looks scene old new nodes place so_far asks = by (leaf_at nodes place) refl where
  here : (end : ℕ) (way : Way) → (place ≡ end) ⊎ ((k : About) × (key_at nodes place ≡ Some k)) → place ≡ end
  here end way (inl same) = same
  here end way (inr asking) = absurd (asks asking.0 asking.1)

  by : (o : Option ℕ) → leaf_at nodes place ≡ o → TellsEnd looks scene.questions.now old.bags new.bags (request_of scene) nodes o
  by (Some i) is = (so_far.led.0, ((place, (is, so_far.led.1.0)), so_far.led.1.1))
  by None is = λ way i led found.
      let same = here led.0 way (ends_or_asks nodes place led.0 way (so_far.on way led.0 i led.1.0 led.1.1 found)) in
      absurd (cc (is, ap (leaf_at nodes) same, led.1.0))

-- the next place stands behind
pub seeking_rises : {L : Type 0} (looks : Looks) (scene : Scene L) (bags : List Contents) (nodes : Nodes) (place : ℕ) (fork : Fork About) (o : Option ℕ) (m : ℕ) → IsTree nodes → slice_get nodes place ≡ Some (Ask fork)
    → o ≡ Some m → FindsNext looks scene.questions.now bags (request_of scene) fork o → (place < m) × (m < length nodes)
seeking_rises looks scene bags nodes place fork o m tree there is finds = tree.rises place finds.0 m (ap (λ n. next_in n finds.0) there ∙ sym finds.1.1 ∙ is)

use Rattle.std.proofs.Common.{◌≡◌, ℕ, ◌+◌, ◌<◌, List, length, map, drop, get_or, Bool, true, ◌||◌, Bor, refl, sym, ◌∙◌, bytes_eq, add-one, drop-cons}
use Rattle.ent_json.specs.Objects.{among}
use Rattle.ent_json.proofs.tree.is_among.Goals as goal

abbrev left : List ℕ → List (Bor (List ℕ)) → ℕ → Bool
left key ks i = among key (map (λ k. k.now) (drop i ks))

among-drop : (key : List ℕ) (ks : List (Bor (List ℕ))) (i : ℕ) (d : Bor (List ℕ)) (b : Bool) → i < length ks → b ≡ bytes_eq (get_or ks i d).now key → left key ks i ≡ (b || left key ks (i + 1))
among-drop key ks i d b h e = rw (add-one, drop-cons ks i d, e) refl

pub returns-then-is_same : goal.returns-then-is_same
returns-then-is_same c =
    let here = among-drop c.args.key.now c.args.keys.now c.loop-k.k-index _ c.is_same.result c.loop-k-test.true c.is_same.ensures in
    let whole : left c.args.key.now c.args.keys.now c.loop-k.k-index ≡ true = rw c.if-is_same.true at here in
    sym whole ∙ c.loop-k.invariant

pub loop-k-preserved : goal.loop-k-preserved
loop-k-preserved c =
    let here = among-drop c.args.key.now c.args.keys.now c.loop-k.k-index _ c.is_same.result c.loop-k-test.true c.is_same.ensures in
    let rest : left c.args.key.now c.args.keys.now c.loop-k.k-index ≡ left c.args.key.now c.args.keys.now (c.loop-k.k-index + 1) = rw c.if-is_same.false at here in
    sym rest ∙ c.loop-k.invariant

use Rattle.std.proofs.Common.{◌≡◌, ◌+◌, ◌<◌, [], ◌∷◌, ◌++◌, Some, drop, length, ap, subst, sym, ◌∙◌, arith}
use Rattle.std.proofs.lemmas.List.{drop_more}
use Rattle.std.proofs.lemmas.Result.{on_ok_weaker}
use Rattle.ent_request.specs.declared.answer.Answer.{Answer}
use Rattle.ent_walk.specs.Given.{finished}
use Rattle.ent_walk.specs.Node.{set_key}
use Rattle.ent_walk.specs.Target.{target_part}
use Rattle.memo_plan.specs.Heard.{element_came, heard}
use Rattle.memo_plan.specs.proofs_only.Entries.{child_tests, children_tests, policy_tests, set_tests, tree_tests}
use Rattle.memo_replay.proofs.Passed.{GoesNamed, element_passed, element_unmatched, named_passed, one_passed, passes_same, policy_child, set_child, set_rolls}
use Rattle.memo_replay.proofs.over.Over.+passing.Goals as goal

pub pass_child-returns-in-Set-clause-passes : goal.pass_child-returns-in-Set-clause-passes
pass_child-returns-in-Set-clause-passes g t c =
    let set = c.in-Set.set in
    on_ok_weaker c.pass_set.result
    (λ passes w path.
    passes_same c.args.self.now (child_tests c.args.hops path c.args.child.now w) (set_tests c.args.hops path set w) c.args.state.now c.pass_set.new.state
    (ap (λ x. child_tests c.args.hops path x w) c.in-Set.is ∙ set_child c.args.hops path set w)
    (passes w path set (sym c.as_slice.ensures)))
    c.pass_set.ensures.passes

pub pass_children-loop-place-preserved : goal.pass_children-loop-place-preserved
pass_children-loop-place-preserved g t c =
    let xs = c.args.children.now in
    let i = c.loop-place.place in
    let child = c.index-children-place.result in
    let below : i < length xs = omega arith in
    let first : drop i xs ≡ child ∷ drop (i + 1) xs = drop_more xs i child below ∙ ap (λ x. x ∷ drop (i + 1) xs) (sym c.index-children-place.is) in (
      λ w here cs stands.
          one_passed c.args.self.now (λ x. child_tests c.args.hops here x w) (drop i xs) (drop (i + 1) xs) child c.loop-place.state c.pass_child.new.state cs first
          (c.in_ok-pass_child.ensures.passes w here) (c.loop-place.invariant.0 w here cs stands),
      (c.pass_child.ensures.heard.0 ∙ c.loop-place.invariant.1.0, c.pass_child.ensures.heard.1 ∙ c.loop-place.invariant.1.1),
    )

pub pass_reference-returns-in-Some-clause-passes : goal.pass_reference-returns-in-Some-clause-passes
pass_reference-returns-in-Some-clause-passes g t c =
    let over = c.args.self.now in
    let tree = c.in-Some.tree in
    on_ok_weaker c.pass_tree.result
    (λ passes w path reference.
    named_passed over c.args.state.now c.document.new.state c.pass_tree.new.state (Some tree) c.args.hops path reference w (omega arith)
    (subst (λ d. GoesNamed over d c.args.state.now c.document.new.state) c.in-Some.is c.in_ok-found.ensures.named) (passes w path))
    c.pass_tree.ensures.passes

pub pass_set-returns-then-is_no_match-clause-passes : goal.pass_set-returns-then-is_no_match-clause-passes
pass_set-returns-then-is_no_match-clause-passes g t c w path set same =
    let target = heard (target_part w.looks w.request set.target) in
    let own = λ (a : Answer). heard (finished w.looks w.request [] set.given a) in
    let below = children_tests c.args.hops (path ++ set_key set.id set.version ∷ []) set.children w in
    passes_same c.args.self.now (set_tests c.args.hops path set w) (element_came target own below) c.args.state.now c.pass.new.state (set_rolls c.args.hops path set w)
    (element_unmatched c.args.self.now c.args.state.now c.pass.new.state c.in_ok-pass.field-0.now target own below
    c.in_ok-pass.ensures.next (λ h k e. sym c.if-is_no_match.true ∙ c.is_no_match.ensures h k e))

pub pass_set-returns-clause-passes : goal.pass_set-returns-clause-passes
pass_set-returns-clause-passes g t c =
    on_ok_weaker c.pass_children.result
    (λ passes w path set same.
    let target = heard (target_part w.looks w.request set.target) in
    let own = λ (a : Answer). heard (finished w.looks w.request [] set.given a) in
    let here = path ++ set_key set.id set.version ∷ [] in
    let below = children_tests c.args.hops here set.children w in
    passes_same c.args.self.now (set_tests c.args.hops path set w) (element_came target own below) c.args.state.now c.pass_children.new.state (set_rolls c.args.hops path set w)
    (element_passed c.args.self.now c.args.state.now c.pass.new.state c.given.new.state c.pass_children.new.state c.in_ok-pass.field-0.now target own below
    c.in_ok-pass.ensures.next (λ h k e. sym c.if-is_no_match.false ∙ c.is_no_match.ensures h k e) c.in_ok-given.ensures.given
    (passes_same c.args.self.now below (children_tests c.args.hops here c.args.children.now w) c.given.new.state c.pass_children.new.state
    (ap (λ xs. children_tests c.args.hops here xs w) same) (passes w here))))
    c.pass_children.ensures.passes

pub pass_tree-returns-in-Policy-clause-passes : goal.pass_tree-returns-in-Policy-clause-passes
pass_tree-returns-in-Policy-clause-passes g t c =
    let policy = c.in-Policy.policy in
    on_ok_weaker c.pass_policy.result
    (λ passes w path.
    passes_same c.args.self.now (tree_tests c.args.hops path c.args.tree.now w) (policy_tests path policy w) c.args.state.now c.pass_policy.new.state
    (ap (λ x. tree_tests c.args.hops path x w) c.in-Policy.is ∙ policy_child c.args.hops path policy w)
    (passes w path policy (cc)))
    c.pass_policy.ensures.passes

pub pass_tree-returns-in-Set-clause-passes : goal.pass_tree-returns-in-Set-clause-passes
pass_tree-returns-in-Set-clause-passes g t c =
    let set = c.in-Set.set in
    on_ok_weaker c.pass_set.result
    (λ passes w path.
    passes_same c.args.self.now (tree_tests c.args.hops path c.args.tree.now w) (set_tests c.args.hops path set w) c.args.state.now c.pass_set.new.state
    (ap (λ x. tree_tests c.args.hops path x w) c.in-Set.is ∙ set_child c.args.hops path set w)
    (passes w path set (sym c.as_slice.ensures)))
    c.pass_set.ensures.passes

use Rattle.std.proofs.Common.{◌≡◌, ℕ, ◌+◌, ◌*◌, [], ◌∙◌, ◌<◌, Bor, ap, refl, sym, map, length, length-append, append-nil, arith}
use Rattle.std.proofs.lemmas.Bool.Decides.{nat_tests}
use Rattle.std.proofs.lemmas.List.{length-map, length_push, map_push, map-append, nil_from_length}
use Rattle.std.proofs.lemmas.List.Elements.{All-nil}
use Rattle.ent_policy.specs.declared.expression.VariableDefinition.{VariableDefinition}
use Rattle.ent_policy.proofs.References.{IsStuck, parted_all, parted_not_all, parted_ordered, parted_stuck}
use Rattle.ent_policy.proofs.variables.in_order.Goals as goal

pub loop-definition-init : goal.loop-definition-init
loop-definition-init c = rw (c.new-ordered.ensures.items, c.new-stuck.ensures.items) (record {
  in_order = tt;
  known_ids = λ q. rw c.new-known.ensures.empty refl;
  parted = rw append-nil c.in_ok-pending.ensures;
  are_stuck = All-nil (IsStuck c.new-known.result);
})

pub loop-definition-preserved-in-Continue-branch-4 : goal.loop-definition-preserved-in-Continue-branch-4
loop-definition-preserved-in-Continue-branch-4 c =
    let now = λ (x : Bor VariableDefinition). x.now in
    let l = c.loop-definition in
    let before = rw (c.in-Some.ensures.items, map_push now c.pop.new.self.items c.in-Some.definition) at l.invariant in
    rw (c.in_ok-push.ensures.items, c.in_ok-append.ensures.items, c.in_ok-append.ensures.other_items, map_push now l.ordered.items c.in-Some.definition, map-append now c.pop.new.self.items l.stuck.items)
    (parted_ordered c.args.definitions.now c.requires (map now l.ordered.items) (map now c.pop.new.self.items) (map now l.stuck.items) c.in-Some.definition.now l.known c.insert.new.self c.as_str.result c.as_str.ensures
    c.in_ok-insert.ensures.updates (sym c.uses_only.ensures ∙ c.if-uses_only.true) before)

pub loop-definition-preserved : goal.loop-definition-preserved
loop-definition-preserved c =
    let now = λ (x : Bor VariableDefinition). x.now in
    let l = c.loop-definition in
    let before = rw (c.in-Some.ensures.items, map_push now c.pop.new.self.items c.in-Some.definition) at l.invariant in
    rw (c.in_ok-push-2.ensures.items, map_push now l.stuck.items c.in-Some.definition)
    (parted_stuck c.args.definitions.now (map now l.ordered.items) (map now c.pop.new.self.items) (map now l.stuck.items) c.in-Some.definition.now l.known (sym c.uses_only.ensures ∙ c.if-uses_only.false) before)

pub loop-definition-smaller-in-Continue-branch-4 : goal.loop-definition-smaller-in-Continue-branch-4
loop-definition-smaller-in-Continue-branch-4 c =
    let l = c.loop-definition in
    falls (length l.pending.items) (length l.stuck.items) (length c.pop.new.self.items) (length c.append.new.self.items) (length c.append.new.other.items)
    (ap length c.in-Some.ensures.items ∙ length_push c.pop.new.self.items c.in-Some.definition) (ap length c.in_ok-append.ensures.items ∙ length-append c.pop.new.self.items l.stuck.items) (ap length c.in_ok-append.ensures.other_items)
  where
    falls : (p s r q t : ℕ) → p ≡ r + 1 → q ≡ r + s → t ≡ 0 → (q + t) * (q + t) + q < (p + s) * (p + s) + p
    falls p s r q t e f g = rw (e, f, g) (omega arith)

pub returns-then-is_empty : goal.returns-then-is_empty
returns-then-is_empty c =
    let l = c.loop-definition in
    let none : l.pending.items ≡ [] = nil_from_length l.pending.items (omega (arith, c.in_default.ensures.cases.0, l.pending.ok)) in
    let no_stuck : l.stuck.items ≡ [] = nil_from_length l.stuck.items (grind (arith, nat_tests, l.stuck.ok)) in
    parted_all c.args.definitions.now c.requires (map (λ x. x.now) l.ordered.items) l.known (rw (none, no_stuck) at l.invariant)

pub returns : goal.returns
returns c =
    let l = c.loop-definition in
    let none : l.pending.items ≡ [] = nil_from_length l.pending.items (omega (arith, c.in_default.ensures.cases.0, l.pending.ok)) in
    parted_not_all c.args.definitions.now c.requires (map (λ x. x.now) l.ordered.items) (map (λ x. x.now) l.stuck.items) l.known (rw length-map (grind (arith, nat_tests, l.stuck.ok))) (rw none at l.invariant)

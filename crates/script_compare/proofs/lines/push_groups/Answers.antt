use Rattle.std.proofs.Common.{◌≡◌, ◌<◌, ◌+◌, ◌++◌, ◌∙◌, ℕ, List, [], ◌∷◌, length, get_or, map, take, ap, sym, append_assoc, append-nil}
use Rattle.std.specs.List.{flat_map}
use Rattle.std.proofs.lemmas.List.{map_push, take_more}
use Rattle.std.proofs.lemmas.List.Concat.{flat_map-append}
use Rattle.script_compare.specs.Gains.{group_lines}
use Rattle.script_compare.specs.proofs_only.Rows.{line_view, row_view}
use Rattle.script_compare.proofs.lines.push_groups.Goals as goal

-- one more group
groups_more : {X Y : Type 0} (f : List ℕ → List Y) (view : X → List ℕ) (all : List X) (i : ℕ) (x : X) (old now next : List Y) (bytes : List ℕ)
    → i < length all → x ≡ get_or all i x → bytes ≡ view x → now ≡ old ++ flat_map f (map view (take i all)) → next ≡ now ++ f bytes
    → next ≡ old ++ flat_map f (map view (take (i + 1) all))
groups_more f view all i x old now next bytes lt is same so_far grown =
    let before = flat_map f (map view (take i all)) in
    grown ∙ ap (λ l. l ++ f bytes) so_far ∙ append_assoc old before (f bytes)
    ∙ ap (λ l. old ++ l) (
    ap (λ b. before ++ f b) same ∙ ap (λ l. before ++ l) (sym (append-nil (f (view x))))
    ∙ sym (flat_map-append f (map view (take i all)) (view x ∷ []))
    ∙ ap (flat_map f) (sym (map_push view (take i all) x) ∙ ap (map view) (ap (λ y. take i all ++ y ∷ []) is ∙ sym (take_more all i x lt))))

pub loop-rules-preserved : goal.loop-rules-preserved
loop-rules-preserved c =
    groups_more (group_lines c.args.way (map row_view c.args.rows.now)) (λ v. v.items) c.args.groups.now c.loop-rules.rules-index c.rules-item.result
    (map line_view c.args.lines.now.items) (map line_view c.loop-rules.lines.items) (map line_view c.push_group.new.lines.items) c.as_slice.result.now
    c.loop-rules-test.true c.rules-item.is c.as_slice.ensures.value c.loop-rules.invariant c.in_ok-push_group.ensures

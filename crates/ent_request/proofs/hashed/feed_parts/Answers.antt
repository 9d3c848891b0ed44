use Rattle.std.proofs.Common.{◌≡◌, ℕ, ◌+◌, ◌<◌, List, fold, get_or, length, take, ap, sym, ◌∙◌, rules, take_all}
use Rattle.std.specs.List.{flat_map}
use Rattle.std.proofs.hash.Loops.{each_more}
use Rattle.std.proofs.lemmas.List.{get_or_default}
use Rattle.ent_policy.specs.declared.pattern.PatternPart.{PatternPart}
use Rattle.ent_request.specs.proofs_only.Hashed.{part_input}
use Rattle.ent_request.proofs.hashed.feed_parts.Goals as goal

part_more : {S : Type 0} (write : S → List ℕ → S) (s t u : S) (parts : List PatternPart) (i : ℕ) (x : PatternPart) → i < length parts → x ≡ get_or parts i x → t ≡ fold write s (flat_map part_input (take i parts)) → u ≡ fold write t (part_input x)
    → u ≡ fold write s (flat_map part_input (take (i + 1) parts))
part_more write s t u parts i x below at so_far fed = fed ∙ ap (λ r. fold write r (part_input x)) so_far ∙ sym (each_more write part_input s parts i x below at)

pub loop-part-preserved : goal.loop-part-preserved
loop-part-preserved g c =
    part_more g.H.Hasher.write c.args.state.now c.loop-part.state c.feed_part.new.state c.args.parts.now c.loop-part.part-index _ c.loop-part-test.true
    (get_or_default c.args.parts.now c.loop-part.part-index _ _ c.loop-part-test.true) c.loop-part.invariant c.feed_part.ensures

pub returns : goal.returns
returns g c = search (rules, take_all)

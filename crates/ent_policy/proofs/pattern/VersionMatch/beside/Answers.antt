use Rattle.std.proofs.Common.{◌≡◌, ◌∙◌, sym, length, min, arith}
use Rattle.std.proofs.lemmas.Slice.Zip.{zip_end}
use Rattle.ent_policy.specs.Patterns.{beside}
use Rattle.ent_policy.proofs.Patterns.{beside_at_end}
use Rattle.ent_policy.proofs.pattern.VersionMatch.beside.Goals as goal

pub returns : goal.returns
returns c =
    let ended = zip_end c.parts-parts.result.now c.numbers-numbers.result.now c.loop-part.yielded
    c.into_iter-part-iterator.result c.loop-part.part-iterator c.next.new.self _ (cc) (cc)
    c.loop-part.yielded_by c.in-None.is c.next.ensures.steps in
    let short : length c.loop-part.yielded ≡ min (length c.numbers-numbers.result.now) (length c.parts-parts.result.now) =
    omega (arith, ended) in
    c.cmp-2.ensures ∙ sym (beside_at_end c.numbers-numbers.result.now c.parts-parts.result.now (length c.loop-part.yielded) short) ∙ c.loop-part.invariant
    ∙ (λ i. beside (c.numbers-numbers.ensures.value i) (c.parts-parts.ensures.value i))

use Rattle.std.proofs.Common.{◌∙◌, sym, length}
use Rattle.std.proofs.lemmas.Slice.Zip.{zip_end}
use Rattle.ent_policy.specs.Patterns.{matches}
use Rattle.ent_policy.proofs.Patterns.{matches_at_end}
use Rattle.ent_policy.proofs.pattern.VersionMatch.matches.Goals as goal

pub returns : goal.returns
returns c =
    let ended = zip_end c.parts-parts.result.now c.numbers-numbers.result.now c.loop-part.yielded
    c.into_iter-part-iterator.result c.loop-part.part-iterator c.next.new.self _ (cc) (cc)
    c.loop-part.yielded_by c.in-None.is c.next.ensures.steps in
    sym (matches_at_end c.parts-parts.result.now c.numbers-numbers.result.now (length c.loop-part.yielded) ended) ∙ c.loop-part.invariant
    ∙ (λ i. matches (c.parts-parts.ensures.value i) (c.numbers-numbers.ensures.value i))

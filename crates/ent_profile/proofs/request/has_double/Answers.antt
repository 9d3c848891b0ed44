use Rattle.ent_profile.proofs.DoubleLemmas.{stands_once, stands_twice}
use Rattle.ent_profile.proofs.request.has_double.Goals as goal

pub returns-then-is_among : goal.returns-then-is_among
returns-then-is_among c =
    stands_twice c.loop-rest.rest.now c.first-item.result c.as_str.result.now c.is_among.result _ c.in-len1-up.len_at_least c.first-item.is c.as_str.ensures
    c.is_among.ensures c.if-is_among.true c.loop-rest.invariant

pub loop-rest-preserved : goal.loop-rest-preserved
loop-rest-preserved c =
    stands_once c.loop-rest.rest.now c.first-item.result c.as_str.result.now c.is_among.result _ c.in-len1-up.len_at_least c.first-item.is c.as_str.ensures
    c.is_among.ensures c.if-is_among.false c.loop-rest.invariant

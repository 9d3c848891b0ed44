use Rattle.script_matching.proofs.Lists.{as_many_members}
use Rattle.script_matching.proofs.fits.has_as_many.Goals as goal

pub returns-else-not-whole : goal.returns-else-not-whole
returns-else-not-whole c =
    as_many_members c.args.whole c.args.members.now.entries c.in-Some.others.now.entries _ c.len.result c.len-else-not-whole.result
    c.if-not-whole.false c.in-Some.ensures c.len.ensures.len c.len-else-not-whole.ensures.len

use Rattle.std.proofs.Common.{rules}
use Rattle.std.proofs.lemmas.Fn.{always_returns_same}
use Rattle.ent_finder.proofs.Seats.{searched}
use Rattle.ent_finder.specs.Entry.{entry_of}
use Rattle.ent_finder.specs.Slots.{key_cmp}
use Rattle.ent_finder.proofs.Totals.{key_cmp_total}
use Rattle.ent_finder.proofs.list.place.Goals as goal

-- the closure compares a slot's key with the key
pub returns : goal.returns
returns c =
    let facts = c.binary_search_by.ensures in
    let by_key = facts.position (λ s. key_cmp s.key c.args.key.now) (always_returns_same _ _ _ (λ a r f called. search rules)) in
    searched key_cmp_total entry_of c.args.slots.now c.args.key.now c.requires _ facts.bound by_key

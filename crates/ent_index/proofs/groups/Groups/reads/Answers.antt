use Rattle.std.proofs.Common.{◌≡◌, None, [], ap, sym, ◌∙◌}
use Rattle.std.specs.List.{list_any}
use Rattle.std.specs.Option.{option_copied, option_map_or}
use Rattle.slab.specs.Slab.{get}
use Rattle.ent_index.proofs.WantedOf.{nothing_read}
use Rattle.ent_index.specs.Groups.{is_wanted}
use Rattle.ent_index.proofs.groups.Groups.reads.Goals as goal

pub returns-in-None : goal.returns-in-None
returns-in-None c =
    let none : get c.args.self.now.groups c.args.group ≡ None = sym c.get.ensures ∙ ap option_copied c.in-None.is in
    sym (nothing_read c.args.person.now c.args.action.now c.args.resource.now c.args.wanted.now)
    ∙ ap (λ o. list_any (is_wanted c.args.person.now c.args.action.now c.args.resource.now (option_map_or (λ x. x.numbers) o [])) c.args.wanted.now) (sym none)

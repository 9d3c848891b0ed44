use Rattle.std.proofs.Common.{rules}
use Rattle.std.specs.Prelude.{option_copied}
use Rattle.ent_index.proofs.WantedOf.{covers_one_asking, covers_one_named}
use Rattle.ent_index.proofs.groups.Groups.add_named.Goals as goal

pub returns-in_ok-add_roll-in-Attr-clause-covers : goal.returns-in_ok-add_roll-in-Attr-clause-covers
returns-in_ok-add_roll-in-Attr-clause-covers c =
    covers_one_named c.args.self.now c.args.one.now c.args.place c.in-Attr.key (option_copied c.named-named.result) c.add_roll.new.cells c.requires (search rules) c.named-named.ensures c.in_ok-add_roll-in-Attr.ensures.all

pub returns-in_ok-add_asking-in_default-clause-covers : goal.returns-in_ok-add_asking-in_default-clause-covers
returns-in_ok-add_asking-in_default-clause-covers c = covers_one_asking c.args.self.now c.args.one.now c.add_asking-in_default.new.cells c.in_ok-add_asking-in_default.ensures.asking

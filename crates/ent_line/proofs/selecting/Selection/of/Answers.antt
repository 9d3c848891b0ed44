use Rattle.std.proofs.Common.{true, ◌&&◌, ap, bytes_eq, option_copied}
use Rattle.std.specs.Option.{option_map_or}
use Rattle.ent_line.proofs.selecting.Selection.of.Goals as goal

pub returns : goal.returns
returns g c = λ cell.
    ap (λ b. option_map_or (bytes_eq cell.0.person) (option_copied c.args.wanted.person) true
    && (option_map_or (bytes_eq cell.0.action) (option_copied c.args.wanted.action) true
    && (option_map_or (bytes_eq cell.0.resource) (option_copied c.args.wanted.resource) true && b)))
    (c.of.ensures cell.1.decision)

use Rattle.std.proofs.Common.{◌∙◌, ap, take}
use Rattle.std.proofs.lemmas.List.{take_min}
use Rattle.cli_check.proofs.meant.first.Goals as goal

pub returns : goal.returns
returns c = ap (λ n. take n c.args.warnings.now) c.min-count.ensures ∙ take_min 32 c.args.warnings.now

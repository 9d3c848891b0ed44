use Rattle.std.proofs.Common.{◌∙◌, ap, take}
use Rattle.std.proofs.lemmas.List.{take_min}
use Rattle.ent_telling.specs.Causes.{most_told}
use Rattle.ent_telling.proofs.causes.told.Goals as goal

pub returns : goal.returns
returns c = ap (λ n. take n c.args.causes.now) c.min-count.ensures ∙ take_min most_told c.args.causes.now

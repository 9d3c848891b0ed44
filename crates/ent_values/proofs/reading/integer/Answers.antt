use Rattle.std.proofs.Common.{◌∙◌}
use Rattle.ent_values.proofs.Numerals.{integer_read}
use Rattle.ent_values.proofs.reading.integer.Goals as goal

pub returns : goal.returns
returns c = c.ok.ensures.value ∙ integer_read c.args.text.now c.parse.result c.parse.ensures.value.0

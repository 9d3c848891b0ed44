use Rattle.std.proofs.Common.{◌∙◌, ap, refl}
use Rattle.clap.specs.Matches.{found_of}
use Rattle.cli_words.proofs.Rows.{argument_found}
use Rattle.cli_words.specs.Sources.{path_named}
use Rattle.cli_words.proofs.asked_states.source_at.Goals as goal

pub returns : goal.returns
returns c =
    c.named.ensures ∙ ap path_named (argument_found c.get_str.result c.unwrap_or.result _ (found_of c.args.options.now) c.args.argument.now c.unwrap_or.ensures refl c.get_str.ensures)

use Rattle.std.proofs.Common.{refl, subst, sym}
use Rattle.clap.specs.Matches.{found_of}
use Rattle.cli_words.proofs.Rows.{no_option_found, option_found}
use Rattle.cli_serve.specs.Limiting.{IsLimit}
use Rattle.cli_serve.proofs.limiting.limit_of.Goals as goal

pub returns-in_default-clause-limit : goal.returns-in_default-clause-limit
returns-in_default-clause-limit c =
    subst (λ text. IsLimit c.args.standard c.args.greatest text c.args.standard)
    (no_option_found c.get_str.result (found_of c.args.options.now) c.args.option.now c.in_default.is c.get_str.ensures) refl

pub returns-in-Some-limit_in-clause-limit : goal.returns-in-Some-limit_in-clause-limit
returns-in-Some-limit_in-clause-limit c =
    subst (λ text. IsLimit c.args.standard c.args.greatest text c.in-Some-limit_in.limit)
    (option_found c.get_str.result c.in-Some.word (found_of c.args.options.now) c.args.option.now c.in-Some.is c.get_str.ensures)
    c.in-Some-limit_in.ensures.some

pub returns-in-None-clause-wrong : goal.returns-in-None-clause-wrong
returns-in-None-clause-wrong c = record {
  given = sym (option_found c.get_str.result c.in-Some.word (found_of c.args.options.now) c.args.option.now c.in-Some.is c.get_str.ensures);
  none = c.in-None.ensures.none;
}

use Rattle.std.proofs.Common.{◌≡◌, ◌∙◌, ap, rules, tests}
use Rattle.std.specs.Prelude.{is_some, option_map}
use Rattle.std.specs.List.{find}
use Rattle.std.proofs.lemmas.Iterator.{YieldsList-from_slice}
use Rattle.std.proofs.lemmas.Iterator.Search.{find_from_yields_List}
use Rattle.ent_policy.specs.Same.{same_key}
use Rattle.lint_links.specs.declared.together.Origin.{Origin}
use Rattle.lint_links.proofs.Filing.{found_any, some_mapped}
use Rattle.lint_links.proofs.together.origin_of.Goals as goal

pub returns : goal.returns
returns c =
    let test = λ (file : Origin). same_key file.key c.args.key.now in
    let found : option_map (λ file. file.now) c.find.result ≡ find test c.args.files.now =
    find_from_yields_List test _ _ c.find.result c.find.ensures.ran (YieldsList-from_slice c.args.files.now cc) (λ x b q k. search (rules, tests)) in
    some_mapped (λ file. file.now) c.find.result ∙ ap is_some found ∙ found_any test c.args.files.now

use Rattle.std.proofs.Common.{◌++◌, List, None, Some, ap, ◌∙◌}
use Rattle.ent_request.specs.Noted.{has_key}
use Rattle.ent_request.specs.declared.key.ReadKey.{ReadKey}
use Rattle.ent_cells.proofs.ReadKeys.{both_there, plain_there}
use Rattle.ent_cells.specs.proofs_only.Asked.{asked_keys, key_of_row}
use Rattle.ent_cells.proofs.asked.keys_of_row.Goals as goal

pub returns-in_default : goal.returns-in_default
returns-in_default c =
    let q = c.args.questions.now in
    let first = c.in_ok-add_asked.ensures ∙ ap (λ (ks : List ReadKey). ks ++ asked_keys q (key_of_row c.args.row.now None)) c.new-keys.ensures in
    λ k asks asked. ap (λ ks. has_key ks k) first ∙ plain_there q k asked c.args.row.now c.in_default.is asks

pub returns : goal.returns
returns c =
    let q = c.args.questions.now in
    let row = c.args.row.now in
    let first = c.in_ok-add_asked.ensures ∙ ap (λ (ks : List ReadKey). ks ++ asked_keys q (key_of_row row None)) c.new-keys.ensures in
    let both = c.in_ok-add_asked-2.ensures ∙ ap (λ (ks : List ReadKey). ks ++ asked_keys q (key_of_row row (Some c.in_ok-issuer.issuer))) first
    ∙ ap (λ i. asked_keys q (key_of_row row None) ++ asked_keys q (key_of_row row (Some i))) c.in_ok-issuer.ensures in
    λ k asks asked. ap (λ ks. has_key ks k) both ∙ both_there q k asked row c.in-Some.issuer c.in-Some.is asks

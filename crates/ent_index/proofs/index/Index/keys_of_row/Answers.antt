use Rattle.std.proofs.Common.{◌∷◌, ◌++◌, [], List, Some, ap, if◌then◌else◌, subst, sym, ◌∙◌}
use Rattle.ent_request.specs.declared.key.ReadKey.{ReadKey}
use Rattle.ent_request.specs.declared.key.ReadKey.TheVariants.{Attr}
use Rattle.ent_index.proofs.KeyCells.{asked_have_cells}
use Rattle.ent_index.proofs.RowsAsked.{given, row_both, row_plain}
use Rattle.ent_index.specs.Asked.{asks_row}
use Rattle.ent_index.specs.Index.{IsSound}
use Rattle.ent_index.specs.proofs_only.Steps.{is_read}
use Rattle.ent_index.proofs.index.Index.keys_of_row.Goals as goal

pub returns-in_default-clause-keys : goal.returns-in_default-clause-keys
returns-in_default-clause-keys c =
    let pick : ReadKey → List ReadKey = λ k. if is_read c.args.self.now k then k ∷ [] else [] in
    c.in_ok-push_read.ensures ∙ ap (λ ks. ks ++ pick c.in_ok-key_of_row.field-0) c.new-keys.ensures ∙ ap pick c.in_ok-key_of_row.ensures
    ∙ sym (row_plain c.args.self.now c.args.row.now c.in_default.is)

pub returns-in_default-clause-read : goal.returns-in_default-clause-read
returns-in_default-clause-read c =
    asked_have_cells c.args.self.now (subst IsSound c.self.view_is c.self.invariant) (asks_row c.args.row.now) c.push_read.new.keys (returns-in_default-clause-keys c)

pub returns-clause-keys : goal.returns-clause-keys
returns-clause-keys c =
    let pick : ReadKey → List ReadKey = λ k. if is_read c.args.self.now k then k ∷ [] else [] in
    let first = c.in_ok-push_read.ensures ∙ ap (λ ks. ks ++ pick c.in_ok-key_of_row.field-0) c.new-keys.ensures ∙ ap pick c.in_ok-key_of_row.ensures in
    let second = c.in_ok-key_of_row-2.ensures ∙ ap (λ i. Attr (given c.args.row.now (Some i))) c.in_ok-issuer.ensures in
    c.in_ok-push_read-2.ensures ∙ (λ j. first j ++ pick (second j)) ∙ sym (row_both c.args.self.now c.args.row.now c.in-Some.issuer c.in-Some.is)

pub returns-clause-read : goal.returns-clause-read
returns-clause-read c =
    asked_have_cells c.args.self.now (subst IsSound c.self.view_is c.self.invariant) (asks_row c.args.row.now) c.push_read-2.new.keys (returns-clause-keys c)

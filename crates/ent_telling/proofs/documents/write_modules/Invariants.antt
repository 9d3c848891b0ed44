use Rattle.std.proofs.Common.{◌≡◌, ◌++◌, drop, map}
use Rattle.std.specs.Prelude.{is_some}
use Rattle.std.specs.List.{enumerate_from, flat_map}
use Rattle.std.specs.Option.{option_copied}
use Rattle.ent_finder.specs.Slots.{held}
use Rattle.lint_reach.specs.Reached.{has_place}
use Rattle.ent_telling.specs.Documents.{document_data, module_documents}
use Rattle.ent_telling.specs.proofs_only.Walk.{each_tokens}
use Rattle.ent_telling.proofs.documents.write_modules.Given as goal

abbrev pub invariant-loop-number : goal.invariant-loop-number
invariant-loop-number g l =
    let modules = g.P.Policies.slots l.policies in
    let told = document_data (λ p. has_place p l.reached) (is_some (option_copied l.id)) in
    l.out ++ each_tokens (flat_map (λ m. map told (module_documents (option_copied l.id) (m.0, held m.1))) (enumerate_from l.number (drop l.number modules)))
    ≡ l.fn.out ++ each_tokens (flat_map (λ m. map told (module_documents (option_copied l.id) (m.0, held m.1))) (enumerate_from 0 modules))

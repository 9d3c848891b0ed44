use Rattle.std.proofs.Common.{ap, rules, sym, ◌∙◌}
use Rattle.std.specs.FinMap.{get-empty}
use Rattle.std.specs.Option.{option_copied, option_flatten}
use Rattle.std.proofs.lemmas.List.{length-map}
use Rattle.ent_finder.proofs.Boxes.{module_beyond, module_seen}
use Rattle.ent_finder.specs.Slots.{Slots, document_at, key_cmp}
use Rattle.ent_finder.proofs.finder.PolicyFinderPolicies.document_at.Goals as goal

pub returns-in_err-store : goal.returns-in_err-store
returns-in_err-store g c =
    rw (← c.deref.ensures.value)
    (ap option_copied c.from_residual.ensures
    ∙ sym (ap (λ (m : Slots). document_at m c.args.key.now) (module_beyond _ c.deref.result.now c.args.number _ c.in_err-store.ensures.lookup.3) ∙ ap option_flatten (get-empty key_cmp c.args.key.now)))

pub returns : goal.returns
returns g c =
    rw (← c.deref.ensures.value)
    (c.document_in.ensures
    ∙ ap (λ (m : Slots). document_at m c.args.key.now) ((λ t. (goal.PolicyFinderModule-dyn g (c.as_ref.ensures.1 t)).slots (c.as_ref.ensures.1 t).1)
    ∙ module_seen _ c.deref.result.now c.args.number c.in_ok-store.store.now _ (search (rules, length-map)) c.in_ok-store.ensures.lookup.1))

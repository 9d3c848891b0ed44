use Rattle.std.proofs.Common.{◌≡◌, slice_set as set, List, is_some, map, ap, ◌∙◌}
use Rattle.std.specs.FinMap.{get, insert}
use Rattle.ent_finder.specs.Slots.{Slots, document_at, held, module_at}
use Rattle.ent_eval.specs.LooksOf.{held_by}
use Rattle.ent_eval.proofs.SlotsSwapped.{held_within, held-swapped, held-taken, there}
use Rattle.ent_evaluator.proofs.parts.EvaluatorParts.exchange_document.Goals as goal

pub returns-clause-swapped : goal.returns-clause-swapped
returns-clause-swapped g c =
    let h = held_by c.args.self.now.pdp in
    let ms = c.args.self.now.pdp.slots in
    let n = c.args.number in
    let k = c.args.key.now in
    let o = c.args.document.now in
    let within = held_within ms n c.requires.number in
    let lent = c.policies_mut.ensures.value in
    let swapped : g.P.Policies.slots c.swap_document.new.self ≡ set ms n (insert (module_at ms n) k o) = c.in_ok-swap_document.ensures.swapped ∙ (λ t. set (lent t) n (insert (module_at (lent t) n) k o)) in
    let modules = ap (λ (l : List Slots). map held l) swapped ∙ held-swapped ms n k o within in
    λ t. record h { modules = modules t }

pub returns-clause-taken : goal.returns-clause-taken
returns-clause-taken g c =
    c.in_ok-swap_document.ensures.taken
    ∙ (λ t. document_at (module_at (c.policies_mut.ensures.value t) c.args.number) c.args.key.now)
    ∙ held-taken c.args.self.now.pdp.slots c.args.number c.args.key.now (held_within c.args.self.now.pdp.slots c.args.number c.requires.number)

pub returns-clause-there : goal.returns-clause-there
returns-clause-there g c =
    let n = c.args.number in
    let k = c.args.key.now in
    let o = c.args.document.now in
    let ms = c.args.self.now.pdp.slots in
    let within = held_within ms n c.requires.number in
    let lent = c.policies_mut.ensures.value in
    let swapped : g.P.Policies.slots c.swap_document.new.self ≡ set ms n (insert (module_at ms n) k o) = c.in_ok-swap_document.ensures.swapped ∙ (λ t. set (lent t) n (insert (module_at (lent t) n) k o)) in
    ap (λ (l : List Slots). is_some (get (module_at l n) k)) swapped ∙ there ms n k o within

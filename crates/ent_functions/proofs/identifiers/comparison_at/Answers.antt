use Rattle.std.proofs.Common.{◌≡◌, ◌++◌, sym, ap, ◌∙◌}
use Rattle.ent_functions.proofs.Groups.{front, order_found, order_in_front, order_behind}
use Rattle.ent_functions.proofs.identifiers.comparison_at.Goals as goal

pub returns-in_err-name : goal.returns-in_err-name
returns-in_err-name c = c.from_residual.ensures ∙ order_in_front c.args.order c.args.id.now c.in_err-name.ensures.cases

pub returns-in_err-operation : goal.returns-in_err-operation
returns-in_err-operation c =
    let cut = c.in_ok-name.ensures.cases in
    let begins : c.args.id.now ≡ front ++ c.in_ok-name.name.now = cut.1.1 ∙ ap (λ e. front ++ e) (sym cut.2) in
    c.from_residual-in_err-operation.ensures ∙ order_behind c.args.order c.args.id.now c.in_ok-name.name.now begins (rw (← c.word.ensures) c.in_err-operation.ensures.cases)

pub returns : goal.returns
returns c =
    let cut = c.in_ok-name.ensures.cases in
    let cut2 = c.in_ok-operation.ensures.cases in
    let begins : c.args.id.now ≡ front ++ c.in_ok-name.name.now = cut.1.1 ∙ ap (λ e. front ++ e) (sym cut.2) in
    let goes : c.in_ok-name.name.now ≡ c.word.result.now ++ c.in_ok-operation.operation.now = cut2.1.1 ∙ ap (λ e. c.word.result.now ++ e) (sym cut2.2) in
    c.comparison_by_operation.ensures ∙ order_found c.args.order c.args.id.now c.in_ok-name.name.now c.in_ok-operation.operation.now begins (rw (← c.word.ensures) goes)

use Rattle.std.proofs.Common.{◌≡◌, ◌++◌, false, sym, ap, ◌∙◌}
use Rattle.std.specs.Prelude.{bytes_eq}
use Rattle.ent_functions.specs.Identifiers.{type_word_of, operation_of, id_of}
use Rattle.ent_functions.proofs.Naming.{lacks_front, past_front}
use Rattle.ent_functions.proofs.function.Function.is_named.Goals as goal

pub returns-in_default : goal.returns-in_default
unfolding id_of
returns-in_default c =
    rw (← c.prefix.ensures) (lacks_front c.prefix.result.now (type_word_of c.args.self ++ operation_of c.args.self) c.args.id.now c.in_default.ensures.cases)

pub returns-in_default-strip_prefix : goal.returns-in_default-strip_prefix
unfolding id_of
returns-in_default-strip_prefix c =
    let cut = c.in-Some.ensures.cases in
    let is : c.args.id.now ≡ c.prefix.result.now ++ c.in-Some.name.now = cut.1.1 ∙ ap (λ e. c.prefix.result.now ++ e) (sym cut.2) in
    let lacks : false ≡ bytes_eq c.in-Some.name.now (type_word_of c.args.self ++ operation_of c.args.self) = rw (← c.type_word.ensures) (lacks_front c.type_word.result.now (operation_of c.args.self) c.in-Some.name.now c.in_default-strip_prefix.ensures.cases) in
    rw (← c.prefix.ensures) (lacks ∙ past_front c.prefix.result.now c.in-Some.name.now (type_word_of c.args.self ++ operation_of c.args.self) c.args.id.now is)

pub returns : goal.returns
unfolding id_of
returns c =
    let cut = c.in-Some.ensures.cases in
    let cut2 = c.in-Some-strip_prefix.ensures.cases in
    let is : c.args.id.now ≡ c.prefix.result.now ++ c.in-Some.name.now = cut.1.1 ∙ ap (λ e. c.prefix.result.now ++ e) (sym cut.2) in
    let is2 : c.in-Some.name.now ≡ c.type_word.result.now ++ c.in-Some-strip_prefix.operation.now = cut2.1.1 ∙ ap (λ e. c.type_word.result.now ++ e) (sym cut2.2) in
    rw (← c.prefix.ensures, ← c.type_word.ensures, ← c.operation.ensures)
    (c.eq.ensures
    ∙ past_front c.type_word.result.now c.in-Some-strip_prefix.operation.now c.operation.result.now c.in-Some.name.now is2
    ∙ past_front c.prefix.result.now c.in-Some.name.now (c.type_word.result.now ++ c.operation.result.now) c.args.id.now is)

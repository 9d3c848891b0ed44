use Rattle.std.proofs.Common.{◌≡◌, true, bytes_eq, ◌++◌, ◌∷◌, []}
use Rattle.ent_values.specs.declared.value.Value.TheVariants as values
use Rattle.lint_declared.proofs.Closing.{one_more}
use Rattle.lint_declared.proofs.closed.names_of.Goals as goal

pub loop-name-preserved-in_ok-push : goal.loop-name-preserved-in_ok-push
loop-name-preserved-in_ok-push c =
    let is : bytes_eq c.in-Some.name.now.category c.args.category.now ≡ true = cc (c.as_str.ensures, c.eq.ensures, c.if-eq.true) in
    let put : c.push.new.self ≡ c.loop-name.values ++ values.Text c.in-Some.name.now.name ∷ [] = cc (c.in_ok-push.ensures.ok, c.in_ok-copy.ensures) in
    one_more c.args.category.now c.loop-name.yielded c.in-Some.name c.loop-name.values c.push.new.self is put c.loop-name.invariant

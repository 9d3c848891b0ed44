use Rattle.std.proofs.Common.{◌≡◌, ◌<◌, [], ◌∷◌, ◌++◌, true, arith, ap, subst, sym, ◌∙◌}
use Rattle.std.proofs.lemmas.Bool.{cond-true}
use Rattle.std.specs.VecDeque.{deque_capacity, deque_len}
use Rattle.ent_log.specs.Entries.{answers_of, is_in_order, entries_since, table_before}
use Rattle.ent_log.specs.declared.entry.Logged.{Logged}
use Rattle.ent_log.proofs.Serials.{in_order-push}
use Rattle.ent_log.proofs.Before.{table_before-push}
use Rattle.ent_log.proofs.log.Log.put.Goals as goal

-- the entry goes last, since there is room
pub invariant_of-self-clause-in_order : goal.invariant_of-self-clause-in_order
invariant_of-self-clause-in_order g c =
    let s = c.args.self.now in
    let e : Logged g.row.K.Denot g.row.A.Denot = record { serial = s.serial; old = c.args.old } in
    let room : deque_len s.entries < deque_capacity s.entries = omega arith in
    let pushed : c.push_back.new.self.items ≡ s.entries.items ++ e ∷ [] =
    c.push_back.ensures.items ∙ cond-true _ _ _ (c.push_back.ensures.succeeds room) in
    subst (λ es. is_in_order s.from es s.serial ≡ true) (sym pushed) (in_order-push s.from s.entries.items e s.in_order)

pub returns-clause-kept : goal.returns-clause-kept
returns-clause-kept g c = λ before after undoes n le k.
    let s = c.args.self.now in
    let e : Logged g.row.K.Denot g.row.A.Denot = record { serial = s.serial; old = c.args.old } in
    let room : deque_len s.entries < deque_capacity s.entries = omega arith in
    let pushed : c.push_back.new.self.items ≡ s.entries.items ++ e ∷ [] =
    c.push_back.ensures.items ∙ cond-true _ _ _ (c.push_back.ensures.succeeds room) in
    ap (λ es. table_before g.K.Ord.cmp (answers_of (entries_since n es)) after k) pushed
    ∙ table_before-push g.K.Ord.cmp n s.entries.items e before after undoes le k

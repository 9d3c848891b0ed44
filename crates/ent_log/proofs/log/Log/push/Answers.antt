use Rattle.std.proofs.Common.{◌≡◌, ◌≤◌, [], ◌∷◌, Option, arith, refl, subst, sym, ◌∙◌}
use Rattle.std.proofs.lemmas.Grind.{common_steps}
use Rattle.ent_log.specs.Entries.{table_before}
use Rattle.ent_log.specs.Tables.{Undoes}
use Rattle.ent_log.proofs.Before.{table_before-append}
use Rattle.ent_log.proofs.log.Log.push.Goals as goal

pub loop-one-preserved : goal.loop-one-preserved
loop-one-preserved g c = record {
  can = tt;
  ends = tt;
  all = grind (arith, common_steps);
  from = cc;
  serial = cc;
  room = grind (arith, common_steps);
  kept = λ before after undoes n le k.
      let mid : g.row.K.Denot → Option g.row.A.Denot = table_before g.K.Ord.cmp (c.in-Some.one ∷ []) after in
      let here : n ≤ c.loop-one.self.serial = omega arith in
      c.put.ensures.kept mid after (λ _. refl) n here k
      ∙ c.loop-one.invariant.kept before mid
      (λ q. sym (table_before-append g.K.Ord.cmp c.loop-one.yielded (c.in-Some.one ∷ []) after q) ∙ undoes q) n le k;
}

pub returns-clause-kept : goal.returns-clause-kept
returns-clause-kept g c = λ before after undoes n le k.
    let all : c.loop-one.yielded ≡ c.args.old = grind (arith, common_steps) in
    let here : n ≤ c.loop-one.self.serial = omega arith in
    let put_back = subst (λ os. Undoes g.K.Ord.cmp os before after) (sym all) undoes in
    c.close.ensures.kept after after (λ _. refl) n here k ∙ c.loop-one.invariant.kept before after put_back n le k

use Rattle.std.proofs.Common.{◌≡◌, ℕ, refl, rules, sym, ap, subst, take, slice_index_or, arith}
use Rattle.std.proofs.lemmas.List.{take_all}
use Rattle.ent_finder.proofs.Refusals.{refused}
use Rattle.ent_eval.specs.LooksOf.{looks_of}
use Rattle.ent_request.specs.Looks.{Looks}
use Rattle.ent_cells.specs.proofs_only.Entries.{Becomes}
use Rattle.ent_cells.specs.proofs_only.Phases.{IsPrepared, KeepsCells, made_ready}
use Rattle.ent_cells.proofs.Phased.{free_here, keeps_cells, one_step}
use Rattle.ent_cells.proofs.Tally.{counts_more, counts_none}
use Rattle.ent_cells.proofs.phases.prepare_all.Goals as goal

pub prepare-requires : goal.prepare-requires
prepare-requires g c =
    let looks : Looks = looks_of c.args.store.now.evaluator.pdp in
    let i : ℕ = c.loop-key.key-index in
    free_here (made_ready looks) c.args.store.now.cells c.loop-key.store.cells c.args.keys.now i c.loop-key-test.true (c.requires.once (slice_index_or c.args.keys.now i 0)) c.loop-key.invariant.ready c.requires.free (c.requires.there i 0 c.loop-key-test.true)

pub returns-in_err-prepare-clause-err : goal.returns-in_err-prepare-clause-err
returns-in_err-prepare-clause-err g c =
    let looks : Looks = looks_of c.args.store.now.evaluator.pdp in
    let kept : KeepsCells c.args.keys.now c.args.store.now.cells c.prepare.new.self.cells =
    subst (KeepsCells c.args.keys.now c.args.store.now.cells) (sym c.in_err-prepare.ensures.err) (keeps_cells looks c.args.store.now.cells c.loop-key.store.cells c.args.keys.now c.loop-key.key-index c.requires.free c.loop-key.invariant.ready) in
    refused c.from_residual.result kept

pub loop-key-init : goal.loop-key-init
loop-key-init g c =
    let looks : Looks = looks_of c.args.store.now.evaluator.pdp in
    record {
      ready = λ k. refl;
      counted = counts_none c.args.store.now.evaluator.pdp.evaluations;
      rest = refl;
    }

pub loop-key-preserved : goal.loop-key-preserved
loop-key-preserved g c =
    let looks : Looks = looks_of c.args.store.now.evaluator.pdp in
    let i : ℕ = c.loop-key.key-index in
    let same : looks_of c.loop-key.store.evaluator.pdp ≡ looks = ap looks_of {y = record c.args.store.now.evaluator.pdp { evaluations = c.loop-key.store.evaluator.pdp.evaluations }} c.loop-key.invariant.rest in
    let k : ℕ = slice_index_or c.args.keys.now i 0 in
    let ready : Becomes (made_ready looks) k c.loop-key.store.cells c.prepare.new.self.cells =
    subst (λ (l : Looks). Becomes (made_ready l) k c.loop-key.store.cells c.prepare.new.self.cells) same c.in_ok-prepare.ensures.ok in
    record {
      ready = one_step (made_ready looks) c.args.store.now.cells c.loop-key.store.cells c.args.keys.now i c.loop-key-test.true (c.requires.once k) c.loop-key.invariant.ready c.prepare.new.self.cells (c.requires.there i 0 c.loop-key-test.true) ready;
      counted = counts_more c.args.store.now.evaluator.pdp.evaluations c.loop-key.store.evaluator.pdp.evaluations c.prepare.new.self.evaluator.pdp.evaluations i c.loop-key.invariant.counted c.in_ok-prepare.ensures.counted;
      rest = search rules;
    }

pub returns-clause-ok : goal.returns-clause-ok
returns-clause-ok g c =
    let looks : Looks = looks_of c.args.store.now.evaluator.pdp in
    let all : take c.loop-key.key-index c.args.keys.now ≡ c.args.keys.now = take_all c.loop-key.key-index c.args.keys.now (omega (arith, c.loop-key-test.false)) in
    subst (λ ks. IsPrepared looks ks c.args.store.now.cells c.loop-key.store.cells) all c.loop-key.invariant.ready

use Rattle.std.proofs.Common.{◌≡◌, None, length, rules, tests, arith, ap, refl}
use Rattle.std.specs.Prelude.{nat_eq}
use Rattle.std.proofs.lemmas.Iterator.Splits.{YieldsList-from_slice_split}
use Rattle.std.proofs.lemmas.List.{length_push}
use Rattle.lint_links.specs.Stored.{after_lines, lines_of, stored_in, stored_of}
use Rattle.lint_links.specs.proofs_only.Refused.{IsNotDump}
use Rattle.lint_links.proofs.Reading.{all_read, ended, one_read, one_refused, passed_on, turned}
use Rattle.lint_links.proofs.state.StoredState.of.Goals as goal

pub loop-line-init : goal.loop-line-init
loop-line-init c = ap (λ s. after_lines s (lines_of c.args.text.now)) c.new-state.ensures

pub loop-line-preserved : goal.loop-line-preserved
loop-line-preserved c =
    let lines = lines_of c.args.text.now in
    let t = turned c.loop-line.yielded _ c.loop-line.yielded_by _ _ c.in-Some.line c.in-Some.is c.next.ensures.steps
    (YieldsList-from_slice_split _ (λ b. nat_eq b 10) c.args.text.now (cc) (cc) refl (λ x r q k. search (rules, tests))) in
    rw (length_push c.loop-line.yielded c.in-Some.line)
    (one_read lines (length c.loop-line.yielded) c.in-Some.line.now (stored_in c.loop-line.state) _ (stored_of c.args.text.now) t c.in_ok-read_numbered.ensures.ok c.loop-line.invariant)

pub returns-in_err-read_numbered-clause-err : goal.returns-in_err-read_numbered-clause-err
returns-in_err-read_numbered-clause-err c =
    let lines = lines_of c.args.text.now in
    let t = turned c.loop-line.yielded _ c.loop-line.yielded_by _ _ c.in-Some.line c.in-Some.is c.next.ensures.steps
    (YieldsList-from_slice_split _ (λ b. nat_eq b 10) c.args.text.now (cc) (cc) refl (λ x r q k. search (rules, tests))) in
    passed_on c.from_residual.result c.in_err-read_numbered.field-0.0 (λ e. IsNotDump e → stored_of c.args.text.now ≡ None) c.from_residual.ensures
    (λ told. one_refused lines (length c.loop-line.yielded) c.in-Some.line.now (stored_in c.loop-line.state) (stored_of c.args.text.now) t (c.in_err-read_numbered.ensures.err told) c.loop-line.invariant)

pub returns-clause-ok : goal.returns-clause-ok
returns-clause-ok c =
    let lines = lines_of c.args.text.now in
    let t = ended c.loop-line.yielded _ c.loop-line.yielded_by _ _ c.in-None.is c.next.ensures.steps
    (YieldsList-from_slice_split _ (λ b. nat_eq b 10) c.args.text.now (cc) (cc) refl (λ x r q k. search (rules, tests))) in
    all_read lines (length c.loop-line.yielded) (stored_in c.loop-line.state) (stored_of c.args.text.now) (omega (arith, t)) c.loop-line.invariant

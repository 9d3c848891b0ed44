use Rattle.std.proofs.Common.{◌∙◌, ap, refl}
use Rattle.memo_bags.proofs.Growing.{starts_itself}
use Rattle.memo_answers.proofs.Follow.{follows_asked}
use Rattle.memo_answers.proofs.Heard.{outcome_heard}
use Rattle.memo_answers.proofs.signing.Signing.evaluated.Goals as goal

pub returns-in_err-tested-clause-follows : goal.returns-in_err-tested-clause-follows
returns-in_err-tested-clause-follows g c =
    let s = c.args.self.now in
    follows_asked g.L.LookUps.looks s _ (record { same = record { held = refl; entries = refl; person = refl; action = refl; resource = refl }; request = refl; findings = refl; tests = refl })
    (starts_itself s.questions s.questions refl)

pub returns-in_err-asked-clause-follows : goal.returns-in_err-asked-clause-follows
returns-in_err-asked-clause-follows g c =
    follows_asked g.L.LookUps.looks c.args.self.now _ (record { same = record { held = refl; entries = refl; person = refl; action = refl; resource = refl }; request = refl; findings = refl; tests = refl })
    c.in_err-asked.ensures.begins

pub returns-clause-comes : goal.returns-clause-comes
returns-clause-comes g c =
    outcome_heard g.L.LookUps.looks c.args.self.now c.args.task.now c.over-walk.result c.tested.new.walk c.in_ok-tested.tested c.numbers_among.new.questions c.in_ok-asked.asked c.has_failed-failed.result
    c.over-walk.ensures.held (c.over-walk.ensures.request ∙ c.requires.request) (ap (λ n. n.questions) (c.over-walk.ensures.notes ∙ c.open-notes.ensures)) (ap (λ n. n.failed) (c.over-walk.ensures.notes ∙ c.open-notes.ensures))
    c.in_ok-tested.ensures c.in_ok-asked.ensures.asked c.has_failed-failed.ensures

pub returns-clause-follows : goal.returns-clause-follows
returns-clause-follows g c =
    follows_asked g.L.LookUps.looks c.args.self.now _ (record { same = record { held = refl; entries = refl; person = refl; action = refl; resource = refl }; request = refl; findings = refl; tests = refl })
    c.in_ok-asked.ensures.begins

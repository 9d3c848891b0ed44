use Rattle.std.proofs.Common.{refl, subst, sym}
use Rattle.ent_request.specs.Questions.{BeginsWith}
use Rattle.memo_bags.specs.declared.findings.Findings.{Findings}
use Rattle.memo_bags.specs.proofs_only.Ready.{Begins}
use Rattle.memo_answers.specs.Known.{TellsIn}
use Rattle.memo_answers.specs.declared.tests.EntryTests.{EntryTests}
use Rattle.memo_answers.proofs.Follow.{follows_tells, signing_begins, signing_ends}
use Rattle.memo_answers.proofs.way.way_of.Goals as goal

pub sign-signed-requires-clause-typed : goal.sign-signed-requires-clause-typed
sign-signed-requires-clause-typed g c = c.requires.plan.typed

pub sign-signed-requires-clause-signing : goal.sign-signed-requires-clause-signing
sign-signed-requires-clause-signing g c =
    signing_begins g.L.LookUps.looks _ c.args.questions.now c.args.findings.now c.args.tests.now c.replace.ensures.value c.replace-2.ensures.value c.replace-3.ensures.value refl c.requires.known

pub returns-clause-signed : goal.returns-clause-signed
returns-clause-signed g c = c.sign-signed.ensures.signed

pub returns-clause-known : goal.returns-clause-known
returns-clause-known g c =
    signing_ends g.L.LookUps.looks _ c.sign-signed.new.self c.sign-signed.ensures.follows
    (signing_begins g.L.LookUps.looks _ c.args.questions.now c.args.findings.now c.args.tests.now c.replace.ensures.value c.replace-2.ensures.value c.replace-3.ensures.value refl c.requires.known)

pub returns-clause-questions : goal.returns-clause-questions
returns-clause-questions g c = subst (λ qs. BeginsWith c.sign-signed.new.self.questions qs) c.replace.ensures.value c.sign-signed.ensures.follows.questions

pub returns-clause-bags : goal.returns-clause-bags
returns-clause-bags g c = subst (λ (f : Findings). Begins c.sign-signed.new.self.findings.bags f.bags) c.replace-2.ensures.value c.sign-signed.ensures.follows.bags

pub returns-clause-tells : goal.returns-clause-tells
returns-clause-tells g c = λ place n came tells.
    follows_tells g.L.LookUps.looks _ c.sign-signed.new.self c.sign-signed.ensures.follows place n came
    (subst (λ qs. TellsIn qs c.replace-3.result.list.items place n came) (sym c.replace.ensures.value)
    (subst (λ (t : EntryTests). TellsIn c.args.questions.now t.list.items place n came) (sym c.replace-3.ensures.value) tells))

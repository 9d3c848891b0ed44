-- `==` decides whether keys of documents and of look-ups, Why entries and answers are equal.
use Rattle.std.proofs.Common.{◌≡◌, ℕ, Bool, true, false, ◌&&◌, List, refl, ap, ◌∙◌, rules, Option, Some, None}
use Rattle.std.specs.Bool.{Decides}
use Rattle.std.specs.Str.{bytes_eq}
use Rattle.std.specs.Cmp.Lexicographic.{pointwise}
use Rattle.std.proofs.lemmas.Bool.Decides.{Decides-like}
use Rattle.std.proofs.lemmas.Slice.Eq.{bytes_eq-Decides, slice_eq-Decides}
use Rattle.ent_combine.specs.declared.outcome.IndKind.{IndKind}
use Rattle.ent_combine.specs.declared.outcome.IndKind.TheVariants as ind
use Rattle.ent_combine.specs.declared.outcome.Outcome.{Outcome}
use Rattle.ent_combine.specs.declared.outcome.Outcome.TheVariants as outcome
use Rattle.ent_combine.specs.contracts.outcome.IndKindPartialEq.TheImpl as inds
use Rattle.ent_combine.specs.contracts.outcome.OutcomePartialEq.TheImpl as outcomes
use Rattle.ent_functions.specs.declared.function.Function.{Function}
use Rattle.ent_functions.proofs.Same.{same_function-Decides}
use Rattle.ent_functions.specs.Same.{same_function}
use Rattle.ent_policy.specs.declared.key.DocKey.{DocKey}
use Rattle.ent_policy.specs.declared.key.Reference.{Reference}
use Rattle.ent_policy.specs.Same as documents
use Rattle.ent_policy.proofs.Same.{same_reference-Decides}
use Rattle.ent_values.proofs.Telling.{Tells, decided, decides, enum, last, list, maybe, more, struct}
use Rattle.ent_values.proofs.Values.{same_type-Decides, same_value-Decides}
use Rattle.ent_finder.specs.declared.row.AttrKey.{AttrKey}
use Rattle.ent_finder.specs.contracts.row.AttrKey as attribute
use Rattle.ent_finder.specs.contracts.row.AttrKeyPartialEq.TheImpl as attributes
use Rattle.ent_request.specs.contracts.answer.Answer as answer
use Rattle.ent_request.specs.contracts.answer.AnswerEq.TheImpl.Laws as answers
use Rattle.ent_request.specs.contracts.cause.CauseEq.TheImpl.Laws as causes
use Rattle.ent_request.specs.contracts.given.Assignment as assignment
use Rattle.ent_request.specs.contracts.given.AssignmentPartialEq.TheImpl as assignments
use Rattle.ent_request.specs.contracts.given.Given as given
use Rattle.ent_request.specs.contracts.given.GivenPartialEq.TheImpl as givens
use Rattle.ent_request.specs.declared.given.Assignment.{Assignment}
use Rattle.ent_request.specs.declared.given.Given.{Given}
use Rattle.ent_request.specs.declared.answer.Answer.{Answer}
use Rattle.ent_request.specs.declared.answer.Status.{Status}
use Rattle.ent_request.specs.declared.answer.Status.TheVariants as status
use Rattle.ent_request.specs.declared.answer.WhyEntry.{WhyEntry}
use Rattle.ent_request.specs.contracts.answer.StatusPartialEq.TheImpl as statuses
use Rattle.ent_request.specs.contracts.answer.WhyEntryPartialEq.TheImpl as entries
use Rattle.ent_request.specs.declared.cause.Cause.{Cause}
use Rattle.ent_request.specs.declared.key.ReadKey.{ReadKey}
use Rattle.ent_request.specs.contracts.key.ReadKey as key
use Rattle.ent_request.specs.contracts.key.ReadKeyEq.TheImpl.Laws as keys
use Rattle.ent_request.specs.contracts.question.QuestionEq.TheImpl.Laws as questions
use Rattle.ent_request.specs.declared.question.Question.{Question}
use Rattle.ent_request.specs.Causes.{same_cause}
use Rattle.ent_request.specs.Same.{same_answer, same_key}
use Rattle.ent_request.specs.proofs_only.Hashed.{question-tells}
use Rattle.ent_request.specs.proofs_only.Telling.{cause-tells, path-Decides}
use Rattle.ent_request.specs.Questions.{same_question}

-- two tests decide two facts
both-Decides : {P Q : Type 0} (a b : Bool) → Decides a P → Decides b Q → Decides (a && b) (P × Q)
both-Decides true b first second = (λ h. (first.0 refl, second.0 h), λ h. second.1 h.1)
both-Decides false b first second = (λ h. absurd (cc), λ h. first.1 h.0)

abbrev same_entry : WhyEntry → WhyEntry → Bool
same_entry = (entries.ghosts).eq

entry_at : (p q : List DocKey) (r s : Option (List ℕ)) → Decides (same_entry (record { path = p; rule = r }) (record { path = q; rule = s })) ((p ≡ q) × (r ≡ s))
entry_at p q None None = both-Decides (pointwise documents.same_key p q) true (path-Decides p q) (λ h. refl, λ h. refl)
entry_at p q None (Some b) = both-Decides (pointwise documents.same_key p q) false (path-Decides p q) (λ h. absurd (cc), λ h. absurd (cc))
entry_at p q (Some a) None = both-Decides (pointwise documents.same_key p q) false (path-Decides p q) (λ h. absurd (cc), λ h. absurd (cc))
entry_at p q (Some a) (Some b) = both-Decides (pointwise documents.same_key p q) (bytes_eq a b) (path-Decides p q) (λ h. ap Some ((bytes_eq-Decides a b).0 h), λ h. (bytes_eq-Decides a b).1 (cc))

entry-Decides : (a b : WhyEntry) → Decides (same_entry a b) (a ≡ b)
entry-Decides a b =
    Decides-like (same_entry a b) (λ h. ap (λ p. record { path = p; rule = a.rule }) h.0 ∙ ap (λ r. record { path = b.path; rule = r }) h.1)
    (λ e. (ap (λ (w : WhyEntry). w.path) e, ap (λ (w : WhyEntry). w.rule) e)) (entry_at a.path b.path a.rule b.rule)

why-Decides : (p q : List WhyEntry) → Decides (pointwise same_entry p q) (p ≡ q)
why-Decides p q = slice_eq-Decides entry-Decides p q (pointwise same_entry p q) refl

ind-Decides : (a b : IndKind) → Decides ((inds.ghosts).eq a b) (a ≡ b)
ind-Decides ind.P ind.P = search rules
ind-Decides ind.P ind.D = search rules
ind-Decides ind.P ind.DP = search rules
ind-Decides ind.D ind.P = search rules
ind-Decides ind.D ind.D = search rules
ind-Decides ind.D ind.DP = search rules
ind-Decides ind.DP ind.P = search rules
ind-Decides ind.DP ind.D = search rules
ind-Decides ind.DP ind.DP = search rules

outcome-Decides : (a b : Outcome) → Decides ((outcomes.ghosts).eq a b) (a ≡ b)
outcome-Decides outcome.Permit outcome.Permit = search rules
outcome-Decides outcome.Permit outcome.Deny = search rules
outcome-Decides outcome.Permit outcome.NotApplicable = search rules
outcome-Decides outcome.Permit (outcome.Ind k) = search rules
outcome-Decides outcome.Deny outcome.Permit = search rules
outcome-Decides outcome.Deny outcome.Deny = search rules
outcome-Decides outcome.Deny outcome.NotApplicable = search rules
outcome-Decides outcome.Deny (outcome.Ind k) = search rules
outcome-Decides outcome.NotApplicable outcome.Permit = search rules
outcome-Decides outcome.NotApplicable outcome.Deny = search rules
outcome-Decides outcome.NotApplicable outcome.NotApplicable = search rules
outcome-Decides outcome.NotApplicable (outcome.Ind k) = search rules
outcome-Decides (outcome.Ind j) outcome.Permit = search rules
outcome-Decides (outcome.Ind j) outcome.Deny = search rules
outcome-Decides (outcome.Ind j) outcome.NotApplicable = search rules
outcome-Decides (outcome.Ind j) (outcome.Ind k) = (λ h. ap outcome.Ind ((ind-Decides j k).0 h), λ h. (ind-Decides j k).1 (cc))

status-Decides : (a b : Status) → Decides ((statuses.ghosts).eq a b) (a ≡ b)
status-Decides status.Okay status.Okay = search rules
status-Decides status.Okay status.MissingAttribute = search rules
status-Decides status.Okay status.ProcessingError = search rules
status-Decides status.MissingAttribute status.Okay = search rules
status-Decides status.MissingAttribute status.MissingAttribute = search rules
status-Decides status.MissingAttribute status.ProcessingError = search rules
status-Decides status.ProcessingError status.Okay = search rules
status-Decides status.ProcessingError status.MissingAttribute = search rules
status-Decides status.ProcessingError status.ProcessingError = search rules

assignment-tells : (a : Assignment) → Tells (assignments.ghosts).eq a
assignment-tells =
    struct assignment.struct assignment.the_propositions
    (more (decided bytes_eq-Decides) (more (maybe (decided bytes_eq-Decides)) (more (maybe (decided bytes_eq-Decides)) (last (decided same_value-Decides)))))

given-tells : (g : Given) → Tells (givens.ghosts).eq g
given-tells = struct given.struct given.the_propositions (more (decided bytes_eq-Decides) (last (list assignment-tells)))

answer-tells : (a : Answer) → Tells same_answer a
answer-tells =
    struct answer.struct answer.the_propositions
    (more (decided outcome-Decides) (more (decided status-Decides) (more (decided why-Decides) (more (list given-tells) (last (list given-tells))))))

pub answer-Decides : (a b : Answer) → Decides (same_answer a b) (a ≡ b)
answer-Decides = decides answers.laws-law answer-tells

-- ---- keys of look-ups

attribute-tells : (k : AttrKey) → Tells (attributes.ghosts).eq k
attribute-tells =
    struct attribute.struct attribute.the_propositions
    (more (decided bytes_eq-Decides) (more (decided bytes_eq-Decides) (more (decided bytes_eq-Decides) (more (decided same_type-Decides) (last (maybe (decided bytes_eq-Decides)))))))

key-tells : (k : ReadKey) → Tells same_key k
key-tells = enum key.enum _ (last (decided same_reference-Decides), (last attribute-tells, tt))

pub key-Decides : (a b : ReadKey) → Decides (same_key a b) (a ≡ b)
key-Decides = decides keys.laws-law key-tells

-- ---- questions

pub question-Decides : (a b : Question) → Decides (same_question a b) (a ≡ b)
question-Decides = decides questions.laws-law question-tells

-- ---- causes

pub cause-Decides : (a b : Cause) → Decides (same_cause a b) (a ≡ b)
cause-Decides = decides causes.laws-law cause-tells

pub equal_references : (a b : Reference) → documents.same_reference a b ≡ true → a ≡ b
equal_references a b h = (same_reference-Decides a b).0 h

pub equal_paths : (p q : List DocKey) → pointwise documents.same_key p q ≡ true → p ≡ q
equal_paths p q h = (path-Decides p q).0 h

pub equal_functions : (f g : Function) → same_function f g ≡ true → f ≡ g
equal_functions f g h = (same_function-Decides f g).0 h

use Rattle.std.proofs.Common.{◌≡◌, ◌+◌, ◌<◌, ◌++◌, ℕ, List, [], ◌∷◌, Option, None, Some, append-nil, length, slice_index_or as get_or, take, ap, sym, ◌∙◌}
use Rattle.std.specs.Prelude.{filter_map}
use Rattle.std.specs.List.{cons_option}
use Rattle.std.proofs.lemmas.List.{take_more}
use Rattle.std.proofs.lemmas.List.Elements.{filter_map-append}
use Rattle.ent_request.specs.declared.key.ReadKey.{ReadKey}
use Rattle.ent_request.specs.declared.question.Question.{Question}
use Rattle.ent_cells.specs.proofs_only.Asked.{reference_of}
use Rattle.ent_cells.proofs.asked.references.Goals as goal
use Rattle.ent_cells.proofs.asked.references.Goals.{in-Some+in_ok-push, in_default}

one_more : (f : Question → Option ReadKey) (xs : List Question) (i : ℕ) (x : Question) (o : Option ReadKey) (old : List ReadKey) → i < length xs → x ≡ get_or xs i x → f x ≡ o → old ≡ filter_map f (take i xs)
    → old ++ cons_option o [] ≡ filter_map f (take (i + 1) xs)
one_more f xs i x o old lt at is e =
    (λ j. e j ++ cons_option (sym is j) [])
    ∙ ap (λ y. filter_map f (take i xs) ++ cons_option (f y) []) at
    ∙ sym (filter_map-append f (take i xs) (get_or xs i x ∷ []))
    ∙ ap (filter_map f) (sym (take_more xs i x lt))

pub loop-question-preserved : goal.loop-question-preserved
loop-question-preserved c =
    let f = reference_of c.args.kind c.args.id.now in
    let xs = c.args.questions.now in
    let i = c.loop-question.question-index in
    let x = c.question-item.result in
    elim c.match-branch-2.branch [
      | in-Some+in_ok-push w ↦
          w.keys-is ∙ w.in_ok-push.ensures.ok
          ∙ one_more f xs i x (Some w.in-Some.key) c.loop-question.keys c.loop-question-test.true c.question-item.is (sym c.in_ok-key.ensures ∙ w.in-Some.is) c.loop-question.invariant
      | in_default w ↦
          w.keys-is ∙ sym (append-nil c.loop-question.keys)
          ∙ one_more f xs i x None c.loop-question.keys c.loop-question-test.true c.question-item.is (sym c.in_ok-key.ensures ∙ w.in_default.is) c.loop-question.invariant
    ]

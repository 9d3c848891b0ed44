-- Edits don't lower the serial.
use Rattle.std.proofs.Common.{◌≡◌, ◌+◌, ◌≤◌, length, Bool, true, false, not, ◌||◌, Some, None, Result, Ok, Err, arith, refl, ap, subst}
use Rattle.std.specs.Prelude.{nat_le, nat_lt}
use Rattle.ent_policy.specs.Key.{key_of}
use Rattle.ent_policy.specs.Names.{is_bad_name}
use Rattle.ent_finder.specs.Slots.{document_count}
use Rattle.ent_request.specs.Environment.{of_day, of_moment}
use Rattle.ent_table.specs.Names.{has_name, list_of, with_name, without_name}
use Rattle.ent_table.specs.State.{State}
use Rattle.ent_table.specs.Step.{IsAnswered, exceeds, is_bad_row, is_last, is_module, is_reserved, is_source, module_holds, module_lacks}
use Rattle.ent_table.specs.Step.{next, step, unless, with_environment, with_policy, with_root, with_values}
use Rattle.ent_table.specs.declared.edit.Accepted.{Accepted}
use Rattle.ent_table.specs.declared.edit.Edit.{Edit}
use Rattle.ent_table.specs.declared.edit.Edit.TheVariants.{AddPolicy, ReplacePolicy, WithdrawPolicy, SetAttribute, AddName, DropName, SetRoot, SetDay, SetMoment}
use Rattle.ent_table.specs.declared.edit.EditFault.{EditFault}
use Rattle.ent_table.specs.declared.edit.EditFault.TheVariants.{NotThere, AlreadyThere, Limit, Reserved, BadValue, UnknownModule}

-- where a state is reached, that is one edit more
abbrev CountsOne : State → Result State EditFault → Type 0
CountsOne s (Ok t) = s.serial + 1 ≡ t.serial
CountsOne s (Err fault) = Unit {0}

past : (s : State) (stands : Bool) (fault : EditFault) (rest : Result State EditFault) → CountsOne s rest → CountsOne s (unless stands fault rest)
past s true fault rest h = tt
past s false fault rest h = h

-- past two tests, three or four
past_two : (s t : State) (a b : Bool) (f g : EditFault) → s.serial + 1 ≡ t.serial → CountsOne s (unless a f (unless b g (Ok t)))
past_two s t a b f g h = past s a f (unless b g (Ok t)) (past s b g (Ok t) h)

past_three : (s t : State) (a b c : Bool) (f g h : EditFault) → s.serial + 1 ≡ t.serial → CountsOne s (unless a f (unless b g (unless c h (Ok t))))
past_three s t a b c f g h e = past s a f (unless b g (unless c h (Ok t))) (past_two s t b c g h e)

past_four : (s t : State) (a b c d : Bool) (f g h i : EditFault) → s.serial + 1 ≡ t.serial
    → CountsOne s (unless a f (unless b g (unless c h (unless d i (Ok t)))))
past_four s t a b c d f g h i e = past s a f (unless b g (unless c h (unless d i (Ok t)))) (past_three s t b c d g h i e)

step_counts : (s : State) (edit : Edit) → CountsOne s (step s edit)
step_counts s (AddPolicy number d) = past_three s (next (with_policy s number (key_of d) (Some d)))
    (module_holds s number (key_of d)) (is_last s || nat_le s.limits.documents (document_count s.held.modules)) (not (is_module s number))
    AlreadyThere Limit UnknownModule refl
step_counts s (ReplacePolicy number d) = past_three s (next (with_policy s number (key_of d) (Some d)))
    (module_lacks s number (key_of d)) (is_last s) (not (is_module s number)) NotThere Limit UnknownModule refl
step_counts s (WithdrawPolicy number key) = past_four s (next (with_policy s number key None))
    (module_lacks s number key) (is_last s) (is_bad_name key.id) (not (is_module s number)) NotThere Limit BadValue UnknownModule refl
step_counts s (SetAttribute number key values) = past_four s (next (with_values s number key values))
    (is_last s || nat_lt 256 (length values)) (is_reserved key.category key.attribute) (is_bad_row key values) (not (is_source s number key.category))
    Limit Reserved BadValue UnknownModule refl
step_counts s (AddName list name) = past_three s (next (record s { names = with_name list name s.names }))
    (has_name name (list_of list s.names)) (is_last s || exceeds s list name) (is_bad_name name) AlreadyThere Limit BadValue refl
step_counts s (DropName list name) = past_two s (next (record s { names = without_name list name s.names }))
    (not (has_name name (list_of list s.names))) (is_last s) NotThere Limit refl
step_counts s (SetRoot root) = past s (is_last s) Limit (Ok (next (with_root s root))) refl
step_counts s (SetDay day) = past s (is_last s) Limit (Ok (next (with_environment s (of_day day)))) refl
step_counts s (SetMoment moment) = past s (is_last s) Limit (Ok (next (with_environment s (of_moment moment)))) refl

-- where an edit is accepted
pub serial_counts : (s t : State) (edit : Edit) → step s edit ≡ Ok t → t.serial ≡ s.serial + 1
serial_counts s t edit leads = omega (arith, subst (CountsOne s) leads (step_counts s edit))

-- whatever an edit is answered
pub serial_rises : (s t : State) (edit : Edit) (result : Result Accepted EditFault) → IsAnswered (step s edit) s t result → s.serial ≤ t.serial
serial_rises s t edit (Ok accepted) is = omega (arith, subst (CountsOne s) is.0 (step_counts s edit))
serial_rises s t edit (Err fault) is = omega (arith, ap (λ (u : State). u.serial) is.1)

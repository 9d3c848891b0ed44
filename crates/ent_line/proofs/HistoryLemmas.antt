-- Where lines lead: the state by their accepted edits, and the mark of a session by its history.
use Rattle.std.proofs.Common.{◌≡◌, ◌≢◌, ◌<◌, ◌⊎◌, ℕ, List, [], ◌∷◌, length, nat_eq, Bool, true, false, get_or, Option, Some, None, Result, Ok, Err, refl, sym, ap, subst, ◌∙◌, inl, inr}
use Rattle.std.specs.Prelude.{if◌then◌else◌, nat_lt, slice_set, option_and_then, option_map}
use Rattle.std.specs.List.{cons_option, fold}
use Rattle.std.specs.Result.{result_ok, result_unwrap_or}
use Rattle.std.proofs.lemmas.List.{get_or-set_same, get_or-set_other, length-set}
use Rattle.std.proofs.lemmas.Bool.Decides.{eqb_tells}
use Rattle.serde_json.specs.Data.{Data}
use Rattle.ent_table.specs.Doubles.{HasNoDoubles}
use Rattle.ent_table.specs.State.{State}
use Rattle.ent_table.specs.Step as table
use Rattle.ent_table.specs.declared.edit.Edit.{Edit}
use Rattle.ent_table.specs.declared.edit.EditFault.{EditFault}
use Rattle.ent_table.proofs.Doubles.{no_name_is_twice}
use Rattle.ent_report.specs.World.{Mark, World, mark_in, mark_of}
use Rattle.ent_command.specs.Asked as asked
use Rattle.ent_command.specs.Asked.{Change, Command, command_in}
use Rattle.ent_line.specs.Beside.{Beside}
use Rattle.ent_line.specs.Commands.{heard, made, requested, respond, run, settled, table_marked, told}
use Rattle.ent_command.specs.Edits.{edit_of, unread}
use Rattle.ent_line.specs.Headline.{IsLed}
use Rattle.ent_line.specs.History as session
use Rattle.ent_line.specs.History.{Lead, Matter, Seen, accepted_edit, accepted_edits, edit_in, edit_told, history, matter, matter_of, next, seen_by}
use Rattle.ent_command.specs.Asking.{asked_by}
use Rattle.ent_wire.specs.Lines.{line_limit}
use Rattle.ent_line.specs.Refusals.{refusal_of}
use Rattle.ent_line.specs.Replies as replies
use Rattle.ent_line.specs.Replies.{Answer, accepted, answered, refused, text}
use Rattle.ent_line.specs.Runs.{Run}
use Rattle.ent_line.specs.Step.{Answers, data_of}
use Rattle.ent_command.specs.declared.making.NoEdit.{NoEdit}
use Rattle.ent_command.specs.declared.making.NoEdit.TheVariants as no_edit
use Rattle.ent_wire.specs.declared.refusal.Refusal.{Refusal}
use Rattle.ent_wire.specs.declared.refusal.Refusal.TheVariants.{Document, Memory, NotJson, TooLong}
use Rattle.ent_line.proofs.CommandLemmas.{IsQuiet, answered_quiet}

-- ---- what a line leads to

-- what a session sees after a line, which may not matter to it
abbrev after : Seen → Option Matter → Seen
after s None = s
after s (Some m) = next s m

-- an accepted edit leads from one state to another, or there is none and the state stays
abbrev LeadsTo : State → Option Edit → State → Type 0
LeadsTo s None t = t ≡ s
LeadsTo s (Some edit) t = table.step s edit ≡ Ok t

-- what a line leads to is what its accepted edit leads to, and what a session sees it lead to
record Follows (i : ℕ) (w : World) (asked : Option (ℕ × Command)) (y : Answer × World) : Type 0 where
  lead : LeadsTo w.state (option_and_then (edit_told y.0) asked) y.1.state
  mark : i < length w.marks → mark_of y.1 i ≡ (after (seen_by w i) (option_and_then (matter_of i y.0) asked)).mark
  places : length y.1.marks ≡ length w.marks

-- ---- what changes nothing

quiet_edits : (asked : Option (ℕ × Command)) (a : Answer) → IsQuiet a → option_and_then (edit_told a) asked ≡ None
quiet_edits None a q = refl
quiet_edits (Some x) (refused why) q = refl
quiet_edits (Some x) (text s) q = refl
quiet_edits (Some x) (accepted n m) q = absurd q
quiet_edits (Some x) (replies.marked n) q = absurd q

quiet_matters : (i : ℕ) (asked : Option (ℕ × Command)) (a : Answer) → IsQuiet a → option_and_then (matter_of i a) asked ≡ None
quiet_matters i None a q = refl
quiet_matters i (Some x) (refused why) q = refl
quiet_matters i (Some x) (text s) q = refl
quiet_matters i (Some x) (accepted n m) q = absurd q
quiet_matters i (Some x) (replies.marked n) q = absurd q

-- what changes nothing is followed
quiet_follows : (i : ℕ) (w : World) (asked : Option (ℕ × Command)) (a : Answer) → IsQuiet a → Follows i w asked (a, w)
quiet_follows i w asked a q = record {
  lead = subst (λ o. LeadsTo w.state o w.state) (sym (quiet_edits asked a q)) refl;
  mark = λ at. sym (ap (λ m. (after (seen_by w i) m).mark) (quiet_matters i asked a q));
  places = refl;
}

-- ---- edits

settled_follows : (i : ℕ) (w : World) (x : ℕ) (c : Change) (edit : Edit) (r : Result State EditFault)
    → edit_of c ≡ Ok edit → table.step w.state edit ≡ r → Follows i w (Some (x, asked.change c)) (settled w r)
settled_follows i w x c edit (Err fault) makes leads = quiet_follows i w (Some (x, asked.change c)) (refused (refusal_of fault)) tt
settled_follows i w x c edit (Ok t) makes leads = record {
  lead = subst (λ (r : Result Edit NoEdit). LeadsTo w.state (result_ok r) t) (sym makes) leads;
  mark = λ at. sym (ap (λ (r : Result Edit NoEdit). (after (seen_by w i) (option_map session.edit (result_ok r))).mark) makes);
  places = refl;
}

-- a change is followed
made_follows : (i : ℕ) (w : World) (x : ℕ) (c : Change) (r : Result Edit NoEdit) → edit_of c ≡ r → Follows i w (Some (x, asked.change c)) (made w r)
made_follows i w x c (Ok edit) makes = settled_follows i w x c edit (table.step w.state edit) makes refl
made_follows i w x c (Err (no_edit.Faulty fault)) makes = quiet_follows i w (Some (x, asked.change c)) (refused (Document fault)) tt
made_follows i w x c (Err (no_edit.Unreadable fault)) makes =
    quiet_follows i w (Some (x, asked.change c)) (refused (refusal_of (unread w.state fault))) tt
made_follows i w x c (Err no_edit.Memory) makes = quiet_follows i w (Some (x, asked.change c)) (refused Memory) tt

-- ---- marks

mark_follows : (i : ℕ) (w : World) (x : ℕ) → Follows i w (Some (x, asked.mark)) (table_marked w x)
unfolding table_marked
mark_follows i w x = record { lead = refl; mark = by (eqb_tells x i); places = length-set w.marks x kept }
  where
    kept : Option Mark
    kept = Some (mark_in w.state)

    seen : Bool → Option Mark
    seen b = (after (seen_by w i) (if b then Some session.own_mark else None)).mark

    by : ((nat_eq x i ≡ true) × (x ≡ i)) ⊎ ((nat_eq x i ≡ false) × (x ≢ i)) → i < length w.marks → get_or (slice_set w.marks x kept) i None ≡ seen (nat_eq x i)
    by (inl (e, same)) at =
        ap (λ n. get_or (slice_set w.marks n kept) i None) same ∙ get_or-set_same w.marks i kept None at ∙ sym (ap seen e)
    by (inr (e, other)) at = get_or-set_other w.marks x i kept None (λ p. other (sym p)) ∙ sym (ap seen e)

-- ---- commands, lines and runs

run_follows : (i : ℕ) (n : Beside) (w : World) (x : ℕ) (c : Command) → Follows i w (Some (x, c)) (run n w x c)
unfolding run
run_follows i n w x (asked.change c) = made_follows i w x c (edit_of c) refl
run_follows i n w x (asked.question q) = quiet_follows i w (Some (x, asked.question q)) (answered (told n w x q)) (answered_quiet (told n w x q))
run_follows i n w x asked.mark = mark_follows i w x

requested_follows : (i : ℕ) (n : Beside) (w : World) (r : Result (ℕ × Command) Refusal) → Follows i w (result_ok r) (requested n w r)
requested_follows i n w (Ok x) = run_follows i n w x.0 x.1
requested_follows i n w (Err refusal) = quiet_follows i w None (refused refusal) tt

heard_follows : (i : ℕ) (n : Beside) (w : World) (o : Option Data) → Follows i w (option_and_then (λ d. result_ok (command_in d)) o) (heard n w o)
heard_follows i n w None = quiet_follows i w None (refused NotJson) tt
heard_follows i n w (Some d) = requested_follows i n w (command_in d)

chosen_follows : (i : ℕ) (n : Beside) (w : World) (long : Bool) (o : Option Data)
    → Follows i w (option_and_then (λ d. result_ok (command_in d)) o) (if long then (refused TooLong, w) else heard n w o)
chosen_follows i n w true o = quiet_follows i w (option_and_then (λ d. result_ok (command_in d)) o) (refused TooLong) tt
chosen_follows i n w false o = heard_follows i n w o

line_follows : (i : ℕ) (w v : World) (line : List ℕ) (a : Answer) → Answers w line a v → Follows i w (asked_by line) (a, v)
unfolding respond
line_follows i w v line a (n, inl is) = subst (Follows i w (asked_by line)) (sym is) (chosen_follows i n w (nat_lt line_limit (length line)) (data_of line))
line_follows i w v line a (n, inr (refusal, same, short)) =
    subst (Follows i w (asked_by line)) (λ j. (sym refusal j, sym same j)) (quiet_follows i w (asked_by line) (refused Memory) tt)

-- ---- runs

state_seen : (i : ℕ) (s : Seen) (a : Answer) (asked : Option (ℕ × Command)) (t : State)
    → LeadsTo s.state (option_and_then (edit_told a) asked) t → t ≡ (after s (option_and_then (matter_of i a) asked)).state
state_seen i s a None t h = h
state_seen i s (accepted n m) (Some x) t h = by (edit_in x.1) h
  where
    by : (o : Option Edit) → LeadsTo s.state o t → t ≡ (after s (option_map session.edit o)).state
    by (Some e) leads = sym (ap (λ (q : Result State EditFault). result_unwrap_or q s.state) leads)
    by None stays = stays
state_seen i s (replies.marked n) (Some x) t h = by (nat_eq x.0 i)
  where
    by : (b : Bool) → t ≡ (after s (if b then Some session.own_mark else None)).state
    by true = h
    by false = h
state_seen i s (refused why) (Some x) t h = h
state_seen i s (text told) (Some x) t h = h

fold_option : (s : Seen) (o : Option Matter) (xs : List Matter) → fold next s (cons_option o xs) ≡ fold next (after s o) xs
fold_option s None xs = refl
fold_option s (Some m) xs = refl

-- a session sees what its history leads to
pub run_seen : (i : ℕ) (w v : World) (lines : List (List ℕ)) (answers : List Answer) → i < length w.marks → Run Answers w lines answers v
    → seen_by v i ≡ fold next (seen_by w i) (history i lines answers)
run_seen i w v [] [] at end = ap (λ u. seen_by u i) end
run_seen i w v (line ∷ lines) (a ∷ answers) at (middle, first, rest) =
    let one = line_follows i w middle line a first in
    let state : middle.state ≡ (after (seen_by w i) (matter i (line, a))).state = state_seen i (seen_by w i) a (asked_by line) middle.state one.lead in
    let seen : seen_by middle i ≡ after (seen_by w i) (matter i (line, a)) = λ j. record { state = state j; mark = one.mark at j } in
    run_seen i middle v lines answers (subst (λ n. i < n) (sym one.places) at) rest
    ∙ ap (λ s. fold next s (history i lines answers)) seen
    ∙ sym (fold_option (seen_by w i) (matter i (line, a)) (history i lines answers))
run_seen i w v [] (a ∷ answers) at r = absurd r
run_seen i w v (line ∷ lines) [] at r = absurd r

one_more : (s m t : State) (o : Option Edit) (es : List Edit) → LeadsTo s o m → Lead m es t → Lead s (cons_option o es) t
one_more s m t None es same rest = subst (λ u. Lead u es t) same rest
one_more s m t (Some e) es first rest = (m, first, rest)

-- the accepted edits lead to the state
run_leads : (w v : World) (lines : List (List ℕ)) (answers : List Answer) → Run Answers w lines answers v → Lead w.state (accepted_edits lines answers) v.state
run_leads w v [] [] end = ap (λ u. u.state) end
run_leads w v (line ∷ lines) (a ∷ answers) (middle, first, rest) =
    one_more w.state middle.state v.state (accepted_edit (line, a)) (accepted_edits lines answers) (line_follows 0 w middle line a first).lead
    (run_leads middle v lines answers rest)
run_leads w v [] (a ∷ answers) r = absurd r
run_leads w v (line ∷ lines) [] r = absurd r

-- and to lists without doubles
names_kept : (s t : State) (edits : List Edit) → Lead s edits t → HasNoDoubles s.names → HasNoDoubles t.names
names_kept s t [] same h = subst (λ (u : State). HasNoDoubles u.names) (sym same) h
names_kept s t (e ∷ edits) (middle, first, rest) h = names_kept middle t edits rest (no_name_is_twice.1 s middle e h first)

pub led : (w v : World) (lines : List (List ℕ)) (answers : List Answer) → Run Answers w lines answers v → IsLed w lines answers v
led w v lines answers r = record {
  state = run_leads w v lines answers r;
  session = λ i at. run_seen i w v lines answers at r;
  names = names_kept w.state v.state (accepted_edits lines answers) (run_leads w v lines answers r);
}

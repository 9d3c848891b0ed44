-- A new service that is told the dump of a state is made anew.
use Rattle.std.proofs.Common.{◌≡◌, ℕ, ◌≤◌, ◌<◌, ◌^◌, List, [], ◌∷◌, length, Bool, true, false, Some, None, Result, Ok, Err, arith, refl, sym, ap, subst, ◌∙◌, inl, inr}
use Rattle.std.specs.Prelude.{◌==◌, ◌||◌, ◌&&◌, if◌then◌else◌, map, nat_lt, not}
use Rattle.std.specs.FinMap.{empty, get, get-empty}
use Rattle.std.specs.List.{AllByRecursion}
use Rattle.std.proofs.lemmas.Bool.{ltb-false}
use Rattle.std.proofs.lemmas.Bool.Decides.{nat_tests}
use Rattle.std.proofs.lemmas.Str.{is_utf8-from_IsUtf8}
use Rattle.std.proofs.lemmas.List.{length-map}
use Rattle.serde_json.specs.Data.{Data}
use Rattle.serde_json.specs.Written.{compact_text}
use Rattle.ent_values.specs.ReadBack.{HasFewYears}
use Rattle.ent_finder.specs.Rows.{row_cmp, source_at}
use Rattle.ent_finder.specs.Slots.{Docs, key_cmp, module_at}
use Rattle.ent_json.specs.Line.{data_of}
use Rattle.ent_table.specs.Difference.{changes}
use Rattle.ent_table.specs.State.{State, table_of}
use Rattle.ent_table.specs.Step as table
use Rattle.ent_table.specs.declared.edit.Edit.{Edit}
use Rattle.ent_table.specs.declared.edit.Edit.TheVariants.{AddPolicy, ReplacePolicy, WithdrawPolicy, SetAttribute, AddName, DropName, SetRoot, SetDay, SetMoment}
use Rattle.ent_table.specs.declared.edit.EditFault.{EditFault}
use Rattle.law_rebuild.proofs.HeldKept.{no_module, no_rows}
use Rattle.law_rebuild.proofs.Kept.{soundness_kept}
use Rattle.law_rebuild.proofs.Made.{IsMadeOf, made_anew, step_made}
use Rattle.law_rebuild.proofs.Rebuilt.{states_rebuilt}
use Rattle.law_rebuild.specs.Rebuilding.{and_then, as_added, emptied, emptied_modules, emptied_source, rebuilding, stepped}
use Rattle.law_rebuild.specs.Sound.{IsSound, IsSoundEdit}
use Rattle.ent_dump.specs.Dumped.{dumped, format_data}
use Rattle.ent_dump.specs.Edits.{edit_data}
use Rattle.ent_report.specs.World.{World}
use Rattle.ent_command.specs.Asked as asked
use Rattle.ent_command.specs.Asked.{command_in, form_of}
use Rattle.ent_line.specs.Beside.{Beside}
use Rattle.ent_line.specs.Commands.{edited, format_told, heard, made, requested, respond, run, settled, told}
use Rattle.ent_line.specs.Dumping.{format_reply, is_moment, is_version}
use Rattle.ent_command.specs.Edits.{edit_of}
use Rattle.ent_wire.specs.Lines.{line_limit}
use Rattle.ent_line.specs.Replies.{Answer, accepted, answered, refused, text}
use Rattle.ent_line.specs.Runs.{Run}
use Rattle.ent_line.specs.Step.{Answers, data_of}
use Rattle.ent_command.specs.declared.making.NoEdit.{NoEdit}
use Rattle.ent_command.specs.declared.making.NoEdit.TheVariants as no_edit
use Rattle.ent_wire.specs.declared.refusal.Refusal.{Refusal}
use Rattle.ent_wire.specs.declared.refusal.Refusal.TheVariants.{Memory, TooLong}
use Rattle.law_restart.specs.Carried.{IsRead, values_of}
use Rattle.law_restart.specs.Restart.{AreTaken, DumpsRestart, HasFewModules, IsAccepted, IsNoWant, IsRestarted, IsShortState, IsShortText, TakenDumpsRestart}
use Rattle.law_restart.proofs.Asked.{asked_of, command_asked, edit_few, read_back}
use Rattle.ent_polform.proofs.Fitting.{Fits, fits_more}
use Rattle.law_restart.proofs.FittingEdits.{IsSmall, edit_fits, format_fits, small_made}
use Rattle.law_restart.proofs.Moves.{IsSaid, Moves, line_moves, run_edits, short_heard}
use Rattle.law_restart.proofs.Texts.{texts_read_back}
use Rattle.law_restart.proofs.Utf8Data.{IsUtf8Data}
use Rattle.law_restart.proofs.Utf8Edits.{added_utf8, format_utf8}
use Rattle.law_restart.proofs.Utf8Written.{compact_utf8}

-- ---- what was read is sound

sound_edit : (e : Edit) → IsRead e → IsSoundEdit e
sound_edit (AddPolicy number document) h = h
sound_edit (ReplacePolicy number document) h = h
sound_edit (WithdrawPolicy number key) h = tt
sound_edit (SetAttribute number key values) h = tt
sound_edit (AddName list name) h = tt
sound_edit (DropName list name) h = tt
sound_edit (SetRoot root) h = tt
sound_edit (SetDay day) h = tt
sound_edit (SetMoment moment) h = tt

added_read : (e : Edit) → IsRead e → IsRead (as_added e)
added_read (AddPolicy number document) h = h
added_read (ReplacePolicy number document) h = h
added_read (WithdrawPolicy number key) h = h
added_read (SetAttribute number key values) h = h
added_read (AddName list name) h = h
added_read (DropName list name) h = h
added_read (SetRoot root) h = h
added_read (SetDay day) h = h
added_read (SetMoment moment) h = h

added_said : (e : Edit) → IsSaid e → IsSaid (as_added e)
added_said e good = record { read = added_read e good.read; utf8 = added_utf8 e good.utf8 }

-- edits that were said are read, and their lines are UTF-8
all_said : (es : List Edit) → AllByRecursion IsSaid es → AllByRecursion IsRead es × AllByRecursion (λ e. IsUtf8Data (edit_data e)) es
all_said [] h = (tt, tt)
all_said (e ∷ es) h = let more = all_said es h.1 in ((h.0.read, more.0), (h.0.utf8, more.1))

-- ---- the state of a run

-- a state that lines can lead to, from a state with the modules and limits of s and nothing else
record IsReached (s t : State) : Type 0 where
  sound : IsSound t
  made : IsMadeOf IsSaid t
  same : emptied t ≡ emptied s

nothing_made : (s : State) → IsMadeOf IsSaid (emptied s)
nothing_made s = record {
  documents = λ number key document is.
      let none : get (module_at (emptied_modules s.held.modules) number) key ≡ None = ap (λ (m : Docs). get m key) (no_module s.held.modules number) ∙ get-empty key_cmp key in
      cc;
  rows = λ number key values is.
      let none : get (source_at (map emptied_source s.held.sources) number).rows key ≡ None = ap (λ m. get m key) (no_rows s.held.sources number) ∙ get-empty row_cmp key in
      cc;
  environment = tt;
  root = λ root is. cc;
  people = tt;
  actions = tt;
  resources = tt;
}

-- at the start
start_reached : (s : State) → s ≡ emptied s → IsReached s s
start_reached s nothing = record {
  sound = subst (λ (t : State). IsSound t) (sym nothing) (soundness_kept.0 s);
  made = subst (λ (t : State). IsMadeOf IsSaid t) (sym nothing) (nothing_made s);
  same = refl;
}

moved_reached : (s t u : State) → IsReached s t → Moves t u → IsReached s u
moved_reached s t u there (inl same) = subst (IsReached s) (sym same) there
moved_reached s t u there (inr (e, good, is)) =
    let kept = soundness_kept.1 t u e there.sound (sound_edit e good.read) is in
    record { sound = kept.0; made = step_made IsSaid t u e there.made (added_said e good) is; same = kept.1 ∙ there.same }

run_reached : (s : State) (u w : World) (lines : List (List ℕ)) (answers : List Answer) → IsReached s u.state → Run Answers u lines answers w → IsReached s w.state
run_reached s u w [] [] there run = subst (λ (x : World). IsReached s x.state) (sym run) there
run_reached s u w [] (a ∷ answers) there run = absurd run
run_reached s u w (line ∷ lines) [] there run = absurd run
run_reached s u w (line ∷ lines) (a ∷ answers) there (mid, one, others) =
    run_reached s mid w lines answers (moved_reached s u.state mid.state there (line_moves u mid line a one)) others

-- ---- lines and what is read of them

-- a line is this JSON, and no longer than a line may be
record IsLineOf (d : Data) (line : List ℕ) : Type 0 where
  reads : data_of line ≡ Some d
  short : length line ≤ line_limit

-- these lines are these JSON values, one by one
abbrev AreLinesOf : List Data → List (List ℕ) → Type 0
AreLinesOf [] [] = Unit {0}
AreLinesOf (d ∷ ds) (line ∷ lines) = IsLineOf d line × AreLinesOf ds lines
AreLinesOf [] (line ∷ lines) = ⊥
AreLinesOf (d ∷ ds) [] = ⊥

-- the line of an edit is answered as the edit
line_edits : (n : Beside) (w : World) (line : List ℕ) (e : Edit) → IsLineOf (edit_data e) line → IsRead e → AllByRecursion HasFewYears (values_of e) → respond n w line ≡ edited w e
line_edits n w line e is good few =
    let asks = read_back e good few in
    short_heard n w line is.short ∙ ap (heard n w) is.reads ∙ ap (requested n w) asks.1.0 ∙ run_edits n w 0 asks.0 e asks.1.1

-- where memory isn't wanting, a line is answered by its step
no_want : (w v : World) (line : List ℕ) (a : Answer) (y : Answer × World) → IsNoWant a → ((n : Beside) → respond n w line ≡ y) → Answers w line a v → (a, v) ≡ y
no_want w v line a y plenty steps (n, inl is) = is ∙ steps n
no_want w v line a y plenty steps (n, inr (refusal, same, short)) = absurd (plenty refusal)

accepted_is : (a : Answer) (changes serial : ℕ) → a ≡ accepted changes serial → IsAccepted a
accepted_is a changes serial is = subst IsAccepted (sym is) tt

-- the lines of edits that lead to a state lead there
lines_lead : (es : List Edit) (u v : World) (t : State) (lines : List (List ℕ)) (answers : List Answer) → AllByRecursion IsRead es
    → AllByRecursion (λ e. AllByRecursion HasFewYears (values_of e)) es → AreLinesOf (map edit_data es) lines → stepped u.state es ≡ Ok t
    → Run Answers u lines answers v → AllByRecursion IsNoWant answers → AllByRecursion IsAccepted answers × (v.state ≡ t) × (v.marks ≡ u.marks)
lines_lead [] u v t [] [] good few are leads run plenty =
    let same : u.state ≡ t = cc in
    (tt, ap (λ (x : World). x.state) run ∙ same, ap (λ (x : World). x.marks) run)
lines_lead [] u v t [] (a ∷ answers) good few are leads run plenty = absurd run
lines_lead [] u v t (line ∷ lines) answers good few are leads run plenty = absurd are
lines_lead (e ∷ es) u v t [] answers good few are leads run plenty = absurd are
lines_lead (e ∷ es) u v t (line ∷ lines) [] good few are leads run plenty = absurd run
lines_lead (e ∷ es) u v t (line ∷ lines) (a ∷ answers) good few are leads (mid, one, others) plenty =
    by (table.step u.state e) refl leads (λ s mid2 rest leads2. lines_lead es mid2 v t lines answers good.1 few.1 are.1 leads2 rest plenty.1)
  where
    by : (r : Result State EditFault) → table.step u.state e ≡ r → and_then r (λ s. stepped s es) ≡ Ok t
        → ((s : State) (mid2 : World) → Run Answers mid2 lines answers v → stepped mid2.state es ≡ Ok t → AllByRecursion IsAccepted answers × (v.state ≡ t) × (v.marks ≡ mid2.marks))
        → AllByRecursion IsAccepted (a ∷ answers) × (v.state ≡ t) × (v.marks ≡ u.marks)
    by (Ok s) is leads next =
        let answer : (a, mid) ≡ (accepted (changes u.state s) s.serial, record u { state = s }) =
        no_want u mid line a _ plenty.0 (λ n. line_edits n u line e are.0 good.0 few.0 ∙ ap (settled u) is) one in
        let there : mid ≡ record u { state = s } = ap (λ y. y.1) answer in
        let rest = next s (record u { state = s }) (subst (λ (x : World). Run Answers x lines answers v) there others) leads in
        ((accepted_is a (changes u.state s) s.serial (ap (λ y. y.0) answer), rest.0), rest.1, rest.2)
    by (Err fault) is leads next = absurd cc

-- the state of a run is made of edits that were read, has the modules of the start, and is made anew by its edits
pub record IsRun (start w : World) : Type 0 where
  pub made : AllByRecursion IsRead (rebuilding w.state)
  pub utf8 : AllByRecursion (λ e. IsUtf8Data (edit_data e)) (rebuilding w.state)
  pub same : emptied w.state ≡ start.state
  pub leads : stepped start.state (rebuilding w.state) ≡ Ok (record w.state { serial = length (rebuilding w.state) })

pub after_run : (start w : World) (lines : List (List ℕ)) (answers : List Answer) → start.state ≡ emptied start.state → Run Answers start lines answers w → IsRun start w
after_run start w lines answers nothing run =
    let there = run_reached start.state start w lines answers (start_reached start.state nothing) run in
    let same : emptied w.state ≡ start.state = there.same ∙ sym nothing in
    let said = all_said (rebuilding w.state) (made_anew IsSaid w.state there.made) in record {
      made = said.0;
      utf8 = said.1;
      same = same;
      leads = ap (λ (s : State). stepped s (rebuilding w.state)) (sym same) ∙ states_rebuilt w.state there.sound;
    }

-- ---- the version

pub version_small : (version : ℕ) → is_version version ≡ true → version < 2 ^ 64
version_small version h = grind (arith, nat_tests)

pub version_told : (version : ℕ) (moment : Bool) → ((version == 2) || ((version == 1) && not moment)) ≡ true → is_version version ≡ true
version_told version moment h = by (version == 1) (version == 2) moment h
  where
    by : (one two moment : Bool) → (two || (one && not moment)) ≡ true → (one || two) ≡ true
    by true two moment h = refl
    by false true moment h = refl
    by false false moment h = absurd cc

format_asked : (version : ℕ) → command_in (format_data version) ≡ Ok (0, asked.question (asked.format (Some version)))
unfolding command_in form_of
format_asked version = refl

format_run : (n : Beside) (w : World) (version : ℕ) → is_version version ≡ true → run n w 0 (asked.question (asked.format (Some version))) ≡ (answered (Ok (format_reply version)), w)
unfolding run told format_told
format_run n w version h = rw h refl

line_formats : (n : Beside) (w : World) (line : List ℕ) (version : ℕ) → IsLineOf (format_data version) line → is_version version ≡ true → respond n w line ≡ (answered (Ok (format_reply version)), w)
line_formats n w line version is h =
    short_heard n w line is.short ∙ ap (heard n w) is.reads ∙ ap (requested n w) (format_asked version) ∙ format_run n w version h

-- ---- the texts

text_line : (d : Data) → Fits 102 d → IsUtf8Data d → length (compact_text d) ≤ line_limit → IsLineOf d (compact_text d)
text_line d fits utf8 short =
    let low = fits.shallow in
    record { reads = texts_read_back d fits.plain (omega arith) (is_utf8-from_IsUtf8 (compact_text d) (compact_utf8 d utf8)); short = short }

format_line : (version : ℕ) → version < 2 ^ 64 → length (compact_text (format_data version)) ≤ line_limit → IsLineOf (format_data version) (compact_text (format_data version))
format_line version h short = text_line (format_data version) (fits_more 2 102 (format_data version) (omega arith) (format_fits version h)) (format_utf8 version) short

text_lines : (es : List Edit) → AllByRecursion IsRead es → AllByRecursion (λ e. IsUtf8Data (edit_data e)) es → AllByRecursion IsSmall es → AllByRecursion IsShortText (map compact_text (map edit_data es))
    → AreLinesOf (map edit_data es) (map compact_text (map edit_data es))
text_lines [] good utf8 small short = tt
text_lines (e ∷ es) good utf8 small short = (text_line (edit_data e) (edit_fits e good.0 small.0) utf8.0 short.0, text_lines es good.1 utf8.1 small.1 short.1)

no_docs : Docs
no_docs = empty

pub few_modules : (w start : World) → emptied w.state ≡ start.state → HasFewModules start.state → AllByRecursion IsSmall (rebuilding w.state)
unfolding no_docs
few_modules w start same few =
    let policies : length w.state.held.modules ≡ length start.state.held.modules = sym (length-map w.state.held.modules (λ (m : Docs). no_docs)) ∙ ap (λ (s : State). length s.held.modules) same in
    let attributes : length w.state.held.sources ≡ length start.state.held.sources = sym (length-map w.state.held.sources emptied_source) ∙ ap (λ (s : State). length s.held.sources) same in
    let p = few.policies in
    let a = few.attributes in
    made_anew IsSmall w.state (small_made w.state (omega arith) (omega arith))

-- ---- the run over the dump

-- a run over a format line and lines that lead to a state
taken : (version : ℕ) (es : List Edit) (u v : World) (t : State) (line : List ℕ) (lines : List (List ℕ)) (answers : List Answer) → is_version version ≡ true
    → IsLineOf (format_data version) line → AllByRecursion IsRead es → AllByRecursion (λ e. AllByRecursion HasFewYears (values_of e)) es → AreLinesOf (map edit_data es) lines
    → stepped u.state es ≡ Ok t → Run Answers u (line ∷ lines) answers v → AllByRecursion IsNoWant answers → AreTaken version answers × (v.state ≡ t) × (v.marks ≡ u.marks)
taken version es u v t line lines [] is formats good few are leads run plenty = absurd run
taken version es u v t line lines (a ∷ answers) is formats good few are leads (mid, one, others) plenty =
    let answer : (a, mid) ≡ (answered (Ok (format_reply version)), u) = no_want u mid line a _ plenty.0 (λ n. line_formats n u line version formats is) one in
    let there : mid ≡ u = ap (λ y. y.1) answer in
    let rest = lines_lead es u v t lines answers good few are leads (subst (λ (x : World). Run Answers x lines answers v) there others) plenty.1 in
    ((ap (λ y. y.0) answer, rest.0), rest.1, rest.2)

-- a run over the dump of a state, in a version that lines have
restarted : (version : ℕ) (start w v : World) (lines : List (List ℕ)) (answers others : List Answer) → start.state ≡ emptied start.state → HasFewModules start.state → Run Answers start lines answers w
    → is_version version ≡ true → IsShortState w.state → AllByRecursion IsShortText (dumped version w.state) → Run Answers start (dumped version w.state) others v → AllByRecursion IsNoWant others
    → IsRestarted version start w v others
restarted version start w v lines answers others nothing few run is brief short again plenty =
    let known = after_run start w lines answers nothing run in
    let small = few_modules w start known.same few in
    let r = taken version (rebuilding w.state) start v (record w.state { serial = length (rebuilding w.state) }) _ _ others is
    (format_line version (version_small version is) short.0) known.made brief (text_lines (rebuilding w.state) known.made known.utf8 small short.1) known.leads again plenty in
    record { taken = r.0; state = r.1; table = ap table_of r.1; again = λ n. ap (dumped n) r.1; marks = r.2 }

pub dumps_restart : DumpsRestart
dumps_restart version start w v lines answers others nothing few run can brief short again plenty =
    restarted version start w v lines answers others nothing few run (version_told version (is_moment w.state.held.environment) can) brief short again plenty

-- ---- a run whose lines were taken

-- an answer is no refusal
abbrev IsTold : Answer → Type 0
IsTold a = (why : Refusal) → a ≡ refused why → ⊥

accepted_told : (a : Answer) → IsAccepted a → IsTold a
accepted_told a h why is = subst IsAccepted is h

text_told : (a : Answer) (reply : List ℕ) → a ≡ text reply → IsTold a
text_told a reply h why is = let clash : text reply ≡ refused why = sym h ∙ is in absurd cc

all_told : (version : ℕ) (answers : List Answer) → AreTaken version answers → AllByRecursion IsTold answers
all_told version [] h = absurd h
all_told version (a ∷ answers) h = (text_told a (compact_text (format_reply version)) h.0, others answers h.1)
  where
    others : (answers : List Answer) → AllByRecursion IsAccepted answers → AllByRecursion IsTold answers
    others [] g = tt
    others (a ∷ answers) g = (accepted_told a g.0, others answers g.1)

-- a line that isn't refused wasn't too long
told_short : (w v : World) (line : List ℕ) (a : Answer) → IsTold a → Answers w line a v → length line ≤ line_limit
unfolding respond
told_short w v line a h (n, inl is) = by (nat_lt line_limit (length line)) refl (ap (λ y. y.0) is)
  where
    by : (b : Bool) → nat_lt line_limit (length line) ≡ b → a ≡ (if b then (refused TooLong, w) else heard n w (data_of line)).0 → length line ≤ line_limit
    by true e g = absurd (h TooLong g)
    by false e g = ltb-false line_limit (length line) e
told_short w v line a h (n, inr (refusal, same, short)) = short

-- and memory wasn't wanting
run_told : (u v : World) (lines : List (List ℕ)) (answers : List Answer) → AllByRecursion IsTold answers → Run Answers u lines answers v → AllByRecursion IsShortText lines × AllByRecursion IsNoWant answers
run_told u v [] [] h run = (tt, tt)
run_told u v [] (a ∷ answers) h run = absurd run
run_told u v (line ∷ lines) [] h run = absurd run
run_told u v (line ∷ lines) (a ∷ answers) h (mid, one, others) =
    let more = run_told mid v lines answers h.1 others in
    ((told_short u mid line a h.0 one, more.0), (λ is. h.0 Memory is, more.1))

-- the line of an edit is answered by what the change that it asks for makes
line_made : (n : Beside) (w : World) (line : List ℕ) (e : Edit) → IsLineOf (edit_data e) line → IsRead e → respond n w line ≡ made w (edit_of (asked_of e))
unfolding run
line_made n w line e is good = short_heard n w line is.short ∙ ap (heard n w) is.reads ∙ ap (requested n w) (command_asked e good)

-- an edit whose line was accepted has durations of few years
accepted_few : (w v : World) (line : List ℕ) (a : Answer) (e : Edit) → IsLineOf (edit_data e) line → IsRead e → IsAccepted a → Answers w line a v → AllByRecursion HasFewYears (values_of e)
accepted_few w v line a e is good taken (n, inr (refusal, same, short)) = absurd (subst IsAccepted refusal taken)
accepted_few w v line a e is good taken (n, inl same) = by (edit_of (asked_of e)) refl (ap (λ y. y.0) (same ∙ line_made n w line e is good))
  where
    by : (r : Result Edit NoEdit) → edit_of (asked_of e) ≡ r → a ≡ (made w r).0 → AllByRecursion HasFewYears (values_of e)
    by (Ok other) makes told = edit_few e other good makes
    by (Err (no_edit.Faulty fault)) makes told = absurd (subst IsAccepted told taken)
    by (Err (no_edit.Unreadable fault)) makes told = absurd (subst IsAccepted told taken)
    by (Err no_edit.Memory) makes told = absurd (subst IsAccepted told taken)

all_few : (es : List Edit) (u v : World) (lines : List (List ℕ)) (answers : List Answer) → AllByRecursion IsRead es → AreLinesOf (map edit_data es) lines → Run Answers u lines answers v
    → AllByRecursion IsAccepted answers → AllByRecursion (λ e. AllByRecursion HasFewYears (values_of e)) es
all_few [] u v lines answers good are run taken = tt
all_few (e ∷ es) u v [] answers good are run taken = absurd are
all_few (e ∷ es) u v (line ∷ lines) [] good are run taken = absurd run
all_few (e ∷ es) u v (line ∷ lines) (a ∷ answers) good are (mid, one, others) taken =
    (accepted_few u mid line a e are.0 good.0 taken.0 one, all_few es mid v lines answers good.1 are.1 others taken.1)

taken_few : (version : ℕ) (es : List Edit) (u v : World) (line : List ℕ) (lines : List (List ℕ)) (answers : List Answer) → AllByRecursion IsRead es → AreLinesOf (map edit_data es) lines
    → Run Answers u (line ∷ lines) answers v → AreTaken version answers → AllByRecursion (λ e. AllByRecursion HasFewYears (values_of e)) es
taken_few version es u v line lines [] good are run all = absurd run
taken_few version es u v line lines (a ∷ answers) good are (mid, one, others) all = all_few es mid v lines answers good are others all.1

pub taken_dumps_restart : TakenDumpsRestart
taken_dumps_restart version start w v lines answers others nothing few run is again all =
    let fine = run_told start v (dumped version w.state) others (all_told version others all) again in
    let known = after_run start w lines answers nothing run in
    let es = rebuilding w.state in
    let brief = taken_few version es start v _ _ others known.made (text_lines es known.made known.utf8 (few_modules w start known.same few) fine.0.1) again all in
    restarted version start w v lines answers others nothing few run is brief fine.0 again fine.1

-- Which tables a service knows after a line.
use Rattle.std.proofs.Common.{◌≡◌, ◌≢◌, ◌⊎◌, ℕ, ◌+◌, ◌<◌, ◌≤◌, ◌||◌, List, [], ◌∷◌, suc, length, Bool, true, false, Option, Some, None, Result, Ok, Err, nat_eq, arith, refl, sym, ap, subst, ◌∙◌, inl, inr}
use Rattle.std.specs.Prelude.{if◌then◌else◌, nat_lt}
use Rattle.std.proofs.lemmas.Bool.{le-ltb, lt-ltb, ltb-false, ltb-true}
use Rattle.std.proofs.lemmas.Bool.Decides.{eqb_tells}
use Rattle.serde_json.specs.Data.{Data}
use Rattle.ent_table.specs.AnswerMap.{AnswerMap, answers_of}
use Rattle.ent_table.specs.State.{State}
use Rattle.ent_table.specs.Step as table
use Rattle.ent_table.specs.Tables.{IsFreshAtSerial, KeepsTables, table_at_serial}
use Rattle.ent_table.specs.declared.edit.Edit.{Edit}
use Rattle.ent_table.specs.declared.edit.EditFault.{EditFault}
use Rattle.ent_report.specs.Desk.{Desked, review_of}
use Rattle.ent_report.specs.Known.{known_of}
use Rattle.ent_report.specs.Serials.{mark_serials}
use Rattle.ent_report.specs.World.{World}
use Rattle.ent_report.proofs.Marks.{oldest_reached}
use Rattle.ent_report.proofs.Serials.{serial_counts}
use Rattle.ent_command.specs.Asked as asked
use Rattle.ent_command.specs.Asked.{Command, command_in}
use Rattle.ent_line.specs.Beside.{Beside}
use Rattle.ent_line.specs.Commands.{heard, made, requested, respond, run, settled, table_marked, told}
use Rattle.ent_command.specs.Edits.{edit_of}
use Rattle.ent_line.specs.Kept.{Remembers}
use Rattle.ent_line.specs.Fresh.{IsLeft, KnownTablesWereFresh}
use Rattle.ent_line.specs.Known.{known_after, oldest_of}
use Rattle.ent_wire.specs.Lines.{line_limit}
use Rattle.ent_line.specs.Replies as replies
use Rattle.ent_line.specs.Replies.{Answer, answered, refused}
use Rattle.ent_line.specs.Step.{AnswersAfter, Counted, at_start, data_of}
use Rattle.ent_line.specs.World.{beside_of, counted_of}
use Rattle.ent_command.specs.declared.making.NoEdit.{NoEdit}
use Rattle.ent_command.specs.declared.making.NoEdit.TheVariants as no_edit
use Rattle.ent_wire.specs.declared.refusal.Refusal.{Refusal}
use Rattle.ent_wire.specs.declared.refusal.Refusal.TheVariants.{TooLong}
use Rattle.ent_line.proofs.CommandLemmas.{IsQuiet, answered_quiet}

-- ---- a history that is known from one serial to another

module _ {X : Type 0} where
  -- what is known of a history from one serial to another
  abbrev known_in : ℕ → ℕ → (ℕ → X) → ℕ → Option X
  known_in from serial f n = if nat_lt n from || nat_lt serial n then None else Some (f n)

  before : (from serial n : ℕ) (f : ℕ → X) → n < from → known_in from serial f n ≡ None
  before from serial n f low = ap (λ b. if b || nat_lt serial n then None else Some (f n)) (lt-ltb n from low)

  behind : (from serial n : ℕ) (f : ℕ → X) → serial < n → known_in from serial f n ≡ None
  behind from serial n f high = by (nat_lt n from)
    where
      by : (b : Bool) → (if b || nat_lt serial n then None else Some (f n)) ≡ None
      by true = refl
      by false = ap (λ b. if b then None else Some (f n)) (lt-ltb serial n high)

  within : (from serial n : ℕ) (f : ℕ → X) → from ≤ n → n ≤ serial → known_in from serial f n ≡ Some (f n)
  within from serial n f low high = λ i. if le-ltb n from low i || le-ltb serial n high i then None else Some (f n)

  -- nothing is forgotten, and no edit is made
  pub kept : (from other serial later n : ℕ) (f g : ℕ → X) → other ≡ from → later ≡ serial → ((k : ℕ) → k ≤ serial → g k ≡ f k)
      → known_in other later g n ≡ known_in from serial f n
  kept from other serial later n f g same_from same_serial each =
      (λ i. known_in (same_from i) (same_serial i) g n) ∙ by (nat_lt n from) (nat_lt serial n) refl
    where
      by : (a b : Bool) → nat_lt serial n ≡ b → (if a || b then None else Some (g n)) ≡ (if a || b then None else Some (f n))
      by true b e = refl
      by false true e = refl
      by false false e = ap Some (each n (ltb-false serial n e))

  -- what is before a serial is forgotten, and no edit is made
  pub left : (from other serial later n : ℕ) (f g : ℕ → X) → from ≤ other → later ≡ serial
      → ((k : ℕ) → other ≤ k → k ≤ serial → g k ≡ f k)
      → known_in other later g n ≡ (if nat_lt n other then None else known_in from serial f n)
  left from other serial later n f g low same each =
      ap (λ s. known_in other s g n) same ∙ by (nat_lt n other) refl
    where
      at : (b : Bool) → nat_lt serial n ≡ b → other ≤ n → known_in other serial g n ≡ known_in from serial f n
      at true e le = behind other serial n g (ltb-true serial n e) ∙ sym (behind from serial n f (ltb-true serial n e))
      at false e le =
          let reached = ltb-false serial n e in
          within other serial n g le reached ∙ ap Some (each n le reached) ∙ sym (within from serial n f (omega (arith, low, le)) reached)

      by : (b : Bool) → nat_lt n other ≡ b → known_in other serial g n ≡ (if b then None else known_in from serial f n)
      by true e = before other serial n g (ltb-true n other e)
      by false e = at (nat_lt serial n) refl (ltb-false n other e)

  -- the same, and an edit is made
  pub grown : (from other serial later n : ℕ) (f g : ℕ → X) (x : X) → from ≤ other → other ≤ later → later ≡ serial + 1 → g later ≡ x
      → ((k : ℕ) → other ≤ k → k ≤ serial → g k ≡ f k)
      → known_in other later g n ≡ (if nat_eq n later then Some x else (if nat_lt n other then None else known_in from serial f n))
  grown from other serial later n f g x low reached more is each = by (eqb_tells n later)
    where
      other_one : (b : Bool) → nat_lt n other ≡ b → n ≢ later → known_in other later g n ≡ (if b then None else known_in from serial f n)
      other_one true e apart = before other later n g (ltb-true n other e)
      other_one false e apart = at (nat_lt serial n) refl
        where
          at : (b : Bool) → nat_lt serial n ≡ b → known_in other later g n ≡ known_in from serial f n
          at true h =
              behind other later n g (omega (arith, ltb-true serial n h, more, apart)) ∙ sym (behind from serial n f (ltb-true serial n h))
          at false h =
              let le = ltb-false n other e in
              let last = ltb-false serial n h in
              within other later n g le (omega (arith, last, more)) ∙ ap Some (each n le last) ∙ sym (within from serial n f (omega (arith, low, le)) last)

      by : ((nat_eq n later ≡ true) × (n ≡ later)) ⊎ ((nat_eq n later ≡ false) × (n ≢ later))
          → known_in other later g n ≡ (if nat_eq n later then Some x else (if nat_lt n other then None else known_in from serial f n))
      by (inl (e, same)) =
          ap (known_in other later g) same ∙ within other later later g reached (omega arith) ∙ ap Some is
          ∙ sym (ap (λ b. if b then Some x else (if nat_lt n other then None else known_in from serial f n)) e)
      by (inr (e, apart)) =
          other_one (nat_lt n other) refl apart
          ∙ sym (ap (λ b. if b then Some x else (if nat_lt n other then None else known_in from serial f n)) e)

-- ---- the serial after a line

-- an accepted edit counts one, and nothing else does
abbrev Serials : World → Answer × World → Type 0
Serials w (replies.accepted changes serial, v) = v.state.serial ≡ w.state.serial + 1
Serials w (replies.marked serial, v) = v.state.serial ≡ w.state.serial
Serials w (replies.refused why, v) = v.state.serial ≡ w.state.serial
Serials w (replies.text s, v) = v.state.serial ≡ w.state.serial

quiet_serial : (w : World) (a : Answer) → IsQuiet a → Serials w (a, w)
quiet_serial w (replies.accepted changes serial) q = absurd q
quiet_serial w (replies.marked serial) q = refl
quiet_serial w (replies.refused why) q = refl
quiet_serial w (replies.text s) q = refl

settled_serial : (w : World) (edit : Edit) (r : Result State EditFault) → table.step w.state edit ≡ r → Serials w (settled w r)
settled_serial w edit (Ok t) leads = serial_counts w.state t edit leads
settled_serial w edit (Err fault) leads = refl

made_serial : (w : World) (r : Result Edit NoEdit) → Serials w (made w r)
made_serial w (Ok edit) = settled_serial w edit (table.step w.state edit) refl
made_serial w (Err (no_edit.Faulty fault)) = refl
made_serial w (Err (no_edit.Unreadable fault)) = refl
made_serial w (Err no_edit.Memory) = refl

run_serial : (b : Beside) (w : World) (x : ℕ) (c : Command) → Serials w (run b w x c)
unfolding run table_marked
run_serial b w x (asked.change c) = made_serial w (edit_of c)
run_serial b w x (asked.question q) = quiet_serial w (answered (told b w x q)) (answered_quiet (told b w x q))
run_serial b w x asked.mark = refl

requested_serial : (b : Beside) (w : World) (r : Result (ℕ × Command) Refusal) → Serials w (requested b w r)
requested_serial b w (Ok x) = run_serial b w x.0 x.1
requested_serial b w (Err refusal) = refl

heard_serial : (b : Beside) (w : World) (o : Option Data) → Serials w (heard b w o)
heard_serial b w None = refl
heard_serial b w (Some d) = requested_serial b w (command_in d)

chosen_serial : (b : Beside) (w : World) (long : Bool) (o : Option Data) → Serials w (if long then (refused TooLong, w) else heard b w o)
chosen_serial b w true o = refl
chosen_serial b w false o = heard_serial b w o

answered_serial : (b : Beside) (w v : World) (line : List ℕ) (a : Answer) → AnswersAfter b w line a v → Serials w (a, v)
unfolding respond
answered_serial b w v line a (inl is) = subst (Serials w) (sym is) (chosen_serial b w (nat_lt line_limit (length line)) (data_of line))
answered_serial b w v line a (inr (refusal, same, short)) =
    subst (λ (y : Answer × World). Serials w y) (λ i. (sym refusal i, sym same i)) refl

-- ---- a line

-- what is known after a line
pub known_said : (old new : Desked) (line : List ℕ) (a : Answer)
    → AnswersAfter (beside_of old) old.world line a new.world
    → Remembers old new a → (n : ℕ)
    → known_of new n ≡ known_after new.world a (known_of old) n
known_said old new line a is remembers n =
    by a (answered_serial (beside_of old) old.world new.world line a is) remembers
  where
    stays : new.world.state.serial ≡ old.world.state.serial
        → KeepsTables (review_of old) (review_of new) → known_of new n ≡ known_of old n
    stays same keeps =
        kept old.past.from new.past.from old.world.state.serial new.world.state.serial n (table_at_serial (review_of old))
        (table_at_serial (review_of new)) keeps.from same keeps.each

    by : (a : Answer) → Serials old.world (a, new.world) → Remembers old new a
        → known_of new n ≡ known_after new.world a (known_of old) n
    by (replies.accepted changes told) more forgets =
        let t = new.world.state in
        grown old.past.from new.past.from old.world.state.serial t.serial n (table_at_serial (review_of old))
        (table_at_serial (review_of new)) (answers_of t) forgets.later
        (omega (arith, forgets.from, oldest_reached (mark_serials new.world) t.serial)) more forgets.now forgets.left
        ∙ ap (λ (m : ℕ). if nat_eq n t.serial then Some (answers_of t) else (if nat_lt n m then None else known_of old n))
        forgets.from
    by (replies.marked told) same forgets =
        left old.past.from new.past.from old.world.state.serial new.world.state.serial n (table_at_serial (review_of old))
        (table_at_serial (review_of new)) forgets.later same forgets.left
        ∙ ap (λ (m : ℕ). if nat_lt n m then None else known_of old n) forgets.from
    by (replies.refused why) same keeps = stays same keeps
    by (replies.text s) same keeps = stays same keeps

-- ---- the start

module _ {X : Type 0} where
  -- of a history that begins now the present is known
  begun_at : (from serial n : ℕ) (f : ℕ → X) (x : X) → from ≡ serial → f serial ≡ x
      → known_in from serial f n ≡ (if nat_eq n serial then Some x else None)
  begun_at from serial n f x is now = by (eqb_tells n serial)
    where
      by : ((nat_eq n serial ≡ true) × (n ≡ serial)) ⊎ ((nat_eq n serial ≡ false) × (n ≢ serial))
          → known_in from serial f n ≡ (if nat_eq n serial then Some x else None)
      by (inl (e, same)) =
          ap (known_in from serial f) same ∙ within from serial serial f (omega (arith, is)) (omega arith) ∙ ap Some now
          ∙ sym (ap (λ (b : Bool). if b then Some x else None) e)
      by (inr (e, apart)) = apart_by (nat_lt n from) refl ∙ sym (ap (λ (b : Bool). if b then Some x else None) e)
        where
          apart_by : (b : Bool) → nat_lt n from ≡ b → known_in from serial f n ≡ None
          apart_by true h = before from serial n f (ltb-true n from h)
          apart_by false h = behind from serial n f (omega (arith, ltb-false n from h, is, apart))

-- what a service begins with
pub begun : (d : Desked) (w : World) → IsFreshAtSerial (review_of d) → d.world ≡ w → d.evaluations ≡ 0
    → d.past.from ≡ w.state.serial → counted_of d ≡ at_start w
begun d w now is none from =
    (λ i. record {
      world = d.world;
      beside = record {
        count = none i;
        known = λ n. begun_at d.past.from d.world.state.serial n (table_at_serial (review_of d)) (answers_of d.world.state)
            (from ∙ sym (ap (λ (v : World). v.state.serial) is)) now i;
      };
    }) ∙ ap at_start is

-- ---- a run

after_one : (v : World) (a : Answer) (known : ℕ → Option AnswerMap) (n : ℕ) (told : AnswerMap) → known_after v a known n ≡ Some told
    → (known n ≡ Some told) ⊎ ((v.state.serial ≡ n) × (answers_of v.state ≡ told))
after_one v a known n told = by a
  where
    still : (b : Bool) → (if b then None else known n) ≡ Some told → known n ≡ Some told
    still true e = absurd cc
    still false e = e

    fresh : ((nat_eq n v.state.serial ≡ true) × (n ≡ v.state.serial)) ⊎ ((nat_eq n v.state.serial ≡ false) × (n ≢ v.state.serial))
        → (if nat_eq n v.state.serial then Some (answers_of v.state) else (if nat_lt n (oldest_of v) then None else known n)) ≡ Some told
        → (known n ≡ Some told) ⊎ ((v.state.serial ≡ n) × (answers_of v.state ≡ told))
    fresh (inl (e, same)) is =
        let present : Some (answers_of v.state) ≡ Some told =
        sym (ap (λ (b : Bool). if b then Some (answers_of v.state) else (if nat_lt n (oldest_of v) then None else known n)) e) ∙ is in
        inr (sym same, cc)
    fresh (inr (e, apart)) is =
        inl (still (nat_lt n (oldest_of v))
        (sym (ap (λ (b : Bool). if b then Some (answers_of v.state) else (if nat_lt n (oldest_of v) then None else known n)) e) ∙ is))

    by : (a : Answer) → known_after v a known n ≡ Some told → (known n ≡ Some told) ⊎ ((v.state.serial ≡ n) × (answers_of v.state ≡ told))
    by (replies.accepted changes serial) is = fresh (eqb_tells n v.state.serial) is
    by (replies.marked serial) is = inl (still (nat_lt n (oldest_of v)) is)
    by (replies.refused why) is = inl is
    by (replies.text s) is = inl is

-- what is known at the end of a run was known before it, or its lines left it
pub were_fresh : KnownTablesWereFresh
were_fresh w v [] [] n told end is = inl (ap (λ (u : Counted). u.beside.known n) (sym end) ∙ is)
were_fresh w v (line ∷ lines) (a ∷ answers) n told (middle, first, rest) is = by (were_fresh middle v lines answers n told rest is)
  where
    here : (w.beside.known n ≡ Some told) ⊎ ((middle.world.state.serial ≡ n) × (answers_of middle.world.state ≡ told))
        → (w.beside.known n ≡ Some told) ⊎ IsLeft w (line ∷ lines) (a ∷ answers) n told
    here (inl before) = inl before
    here (inr (serial, fresh)) = inr (1, middle, (middle, first, refl), serial, fresh)

    by : (middle.beside.known n ≡ Some told) ⊎ IsLeft middle lines answers n told → (w.beside.known n ≡ Some told) ⊎ IsLeft w (line ∷ lines) (a ∷ answers) n told
    by (inl there) = here (after_one middle.world a w.beside.known n told (sym (first.2 n) ∙ there))
    by (inr (k, u, run, serial, fresh)) = inr (suc k, u, (middle, first, run), serial, fresh)
were_fresh w v [] (a ∷ answers) n told run is = absurd run
were_fresh w v (line ∷ lines) [] n told run is = absurd run

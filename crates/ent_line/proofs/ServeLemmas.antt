-- A run over bytes goes on by one piece of input at a time. Nothing here depends on what the lines mean.
use Rattle.std.proofs.Common.{◌≡◌, ℕ, Bool, ◌+◌, min, List, [], ◌∷◌, ◌++◌, take, length, Option, Some, None, OnSome, Ok, Err, refl, sym, ap, subst, ◌∙◌, arith, append_assoc, append-nil, take_all, inl, inr}
use Rattle.std.proofs.lemmas.List.{take_at, take-append-le, length-take, length-append, flat_map_more}
use Rattle.std.proofs.lemmas.List.Elements.{All-append, All-nil, All-push}
use Rattle.std.proofs.lemmas.Bool.{cases_lt}
use Rattle.std.specs.Prelude.{⊤}
use Rattle.std.specs.List.{flat_map}
use Rattle.std.specs.Io.KnownBytes.{Consumes, Appends, IsAtEnd}
use Rattle.std.proofs.KnownBytes.{Consumes-nil, Consumes-trans, Appends-nil, Appends-trans}
use Rattle.ent_wire.specs.declared.fault.ServeFault.{ServeFault}
use Rattle.ent_line.specs.declared.input.InputPiece.{InputPiece}
use Rattle.ent_line.specs.declared.input.InputPiece.TheVariants.{End, Part, Line}
use Rattle.ent_wire.specs.Lines.{NoNewline, ended, line_limit, Splits}
use Rattle.ent_line.specs.proofs_only.Pieces.{AnswersLine, TakesPiece, kept_of}
use Rattle.ent_line.specs.Replies.{Answer, line_of}
use Rattle.ent_line.specs.Answering.{LongLinesAlike}
use Rattle.ent_line.specs.Runs.{Handling, Run}
use Rattle.ent_line.specs.Serving.{with_last, Ends, ServesUntil}

-- ---- what is kept of a line

take_front : (n : ℕ) (a b : List ℕ) → take n (take n a ++ b) ≡ take n (a ++ b)
take_front n a b = elim (cases_lt n (length a)) [
  | inl lt ↦ take_at (take n a) b n (omega (arith, length-take n a)) ∙ sym (take-append-le n a b (omega arith))
  | inr le ↦ ap (λ x. take n (x ++ b)) (take_all n a le)
]

kept_twice : (a b : List ℕ) → kept_of (kept_of a ++ b) ≡ kept_of (a ++ b)
kept_twice a b = take_front (line_limit + 1) a b

-- what is kept of a line is empty where the line is
kept_len : (held line : List ℕ) → held ≡ kept_of line → length held ≡ min (line_limit + 1) (length line)
kept_len held line e = ap length e ∙ length-take (line_limit + 1) line

kept_more : (held new rest bytes : List ℕ) → held ≡ kept_of rest → new ≡ kept_of (held ++ bytes) → new ≡ kept_of (rest ++ bytes)
kept_more held new rest bytes p q = q ∙ ap (λ x. kept_of (x ++ bytes)) p ∙ kept_twice rest bytes

-- ---- lines and a rest

no_rest : (lines : List (List ℕ)) (rest : List ℕ) → length rest ≡ 0 → with_last lines rest ≡ lines
no_rest lines [] h = refl
no_rest lines (b ∷ bs) h = absurd (omega arith)

some_rest : (lines : List (List ℕ)) (rest : List ℕ) → (length rest ≡ 0 → ⊥) → with_last lines rest ≡ lines ++ rest ∷ []
some_rest lines [] h = absurd (h refl)
some_rest lines (b ∷ bs) h = refl

splits_none : Splits [] [] []
splits_none = record { whole = refl; each = All-nil NoNewline; open_end = All-nil (λ b. b ≡ 10 → ⊥) }

splits_part : (text : List ℕ) (lines : List (List ℕ)) (rest bytes : List ℕ) → Splits text lines rest → NoNewline bytes → Splits (text ++ bytes) lines (rest ++ bytes)
splits_part text lines rest bytes s clean = record { whole = ap (λ x. x ++ bytes) s.whole ∙ append_assoc (flat_map ended lines) rest bytes; each = s.each; open_end = All-append (λ b. b ≡ 10 → ⊥) rest bytes s.open_end clean }

splits_line : (text : List ℕ) (lines : List (List ℕ)) (rest bytes : List ℕ) → Splits text lines rest → NoNewline bytes → Splits (text ++ ended bytes) (lines ++ (rest ++ bytes) ∷ []) []
splits_line text lines rest bytes s clean = record {
  whole = ap (λ x. x ++ ended bytes) s.whole ∙ append_assoc (flat_map ended lines) rest (ended bytes) ∙ ap (λ x. flat_map ended lines ++ x) (sym (append_assoc rest bytes (10 ∷ []))) ∙ flat_map_more ended [] lines (rest ++ bytes) ∙ sym (append-nil (flat_map ended (lines ++ (rest ++ bytes) ∷ [])));
  each = All-push NoNewline lines (rest ++ bytes) s.each (All-append (λ b. b ≡ 10 → ⊥) rest bytes s.open_end clean);
  open_end = All-nil (λ b. b ≡ 10 → ⊥);
}

-- ---- known bytes

nothing_more : (unread left next : Option (List ℕ)) (text : List ℕ) → Consumes unread left text → Consumes left next [] → Consumes unread next text
nothing_more unread left next text p q = subst (Consumes unread next) (append-nil text) (Consumes-trans unread left next text [] p q)

at_end : (unread left next : Option (List ℕ)) (text : List ℕ) → Consumes unread left text → OnSome left (IsAtEnd next) → OnSome unread (IsAtEnd next)
at_end None left next text p q = tt
at_end (Some x) None next text p q = absurd p
at_end (Some x) (Some y) next text p q = q

written_more : (wrote holds then : Option (List ℕ)) (answers : List Answer) (a : Answer) → Appends wrote holds (flat_map line_of answers) → Appends holds then (line_of a) → Appends wrote then (flat_map line_of (answers ++ a ∷ []))
written_more wrote holds then answers a p q = subst (Appends wrote then) (flat_map_more line_of [] answers a) (Appends-trans wrote holds then (flat_map line_of answers) (line_of a) p q)

-- ---- which piece it was

pub took : (left next : Option (List ℕ)) (held new : List ℕ) (x y : InputPiece) → x ≡ y → TakesPiece left next held new (Ok x) → TakesPiece left next held new (Ok y)
took left next held new x y e t = subst (λ (z : InputPiece). TakesPiece left next held new (Ok z)) e t

-- ---- runs

pub run_more : {W : Type 0} (A : Handling W) (w v u : W) (lines : List (List ℕ)) (answers : List Answer) (line : List ℕ) (a : Answer) → Run A w lines answers v → A v line a u → Run A w (lines ++ line ∷ []) (answers ++ a ∷ []) u
run_more A w v u [] [] line a r s = (u, subst (λ x. A x line a u) r s, refl)
run_more A w v u [] (b ∷ answers) line a r s = absurd r
run_more A w v u (l ∷ lines) [] line a r s = absurd r
run_more A w v u (l ∷ lines) (b ∷ answers) line a r s = (r.0, r.1, run_more A r.0 v u lines answers line a r.2 s)

-- where a call stands
abbrev pub ends : {W : Type 0} → W → W → Option (List ℕ) → Option (List ℕ) → Option (List ℕ) → Option (List ℕ) → Ends W
ends w v unread left wrote holds = record { start = w; end = v; unread = unread; left = left; wrote = wrote; holds = holds }

-- so far: what was read, of which lines and which rest, and what was answered
pub record Progress {W : Type 0} (A : Handling W) (e : Ends W) (held : List ℕ) (n : ℕ) : Type 0 where
  pub lines : List (List ℕ)
  pub rest : List ℕ
  pub answers : List Answer
  pub text : List ℕ
  pub splits : Splits text lines rest
  pub read : Consumes e.unread e.left text
  pub run : Run A e.start lines answers e.end
  pub written : Appends e.wrote e.holds (flat_map line_of answers)
  pub kept : held ≡ kept_of rest
  pub counted : n ≡ length lines

module _ {W : Type 0} (A : Handling W) where
  pub begins : (w : W) (unread wrote : Option (List ℕ)) → Progress A (ends w w unread unread wrote wrote) [] 0
  begins w unread wrote = record { lines = []; rest = []; answers = []; text = []; splits = splits_none; read = Consumes-nil unread; run = refl; written = Appends-nil wrote; kept = refl; counted = refl }

  pub after_part : (e : Ends W) (next : Option (List ℕ)) (held new : List ℕ) (n : ℕ) → Progress A e held n → TakesPiece e.left next held new (Ok Part) → Progress A (record e { left = next }) new n
  after_part e next held new n p t = record {
    lines = p.lines;
    rest = p.rest ++ t.0;
    answers = p.answers;
    text = p.text ++ t.0;
    splits = splits_part p.text p.lines p.rest t.0 p.splits t.1;
    read = Consumes-trans e.unread e.left next p.text t.0 p.read t.2;
    run = p.run;
    written = p.written;
    kept = kept_more held new p.rest t.0 p.kept t.3;
    counted = p.counted;
  }

  pub stops_at_fault : (e : Ends W) (next : Option (List ℕ)) (held new : List ℕ) (n : ℕ) (f : ServeFault) → Progress A e held n → TakesPiece e.left next held new (Err f) → ServesUntil A (record e { left = next }) (Err f)
  stops_at_fault e next held new n f p t =
      subst (λ (x : ServeFault). ServesUntil A (record e { left = next }) (Err x)) (sym t.0)
      (p.lines, p.rest, p.answers, record { text = p.text; splits = p.splits; read = nothing_more e.unread e.left next p.text p.read t.1; run = p.run; written = p.written })

  pub stops_at_end : (e : Ends W) (next : Option (List ℕ)) (held new : List ℕ) (n : ℕ) → Progress A e held n → TakesPiece e.left next held new (Ok End) → length new ≡ 0 → ServesUntil A (record e { left = next }) (Ok n)
  stops_at_end e next held new n p t none =
      let same : with_last p.lines p.rest ≡ p.lines = no_rest p.lines p.rest (omega (arith, none, kept_len new p.rest (t.2 ∙ p.kept))) in
      (p.lines, p.rest, p.answers, record { text = p.text; splits = p.splits; read = nothing_more e.unread e.left next p.text p.read t.0; run = subst (λ ls. Run A e.start ls p.answers e.end) (sym same) p.run; written = p.written }, at_end e.unread e.left next p.text p.read t.1, p.counted ∙ ap length (sym same))

module _ {W : Type 0} (A : Handling W) (long : LongLinesAlike A) where
  -- what is answered to what was kept of a line is an answer to the line
  kept_is_answered : (w v : W) (held line : List ℕ) (a : Answer) → held ≡ kept_of line → A w held a v → A w line a v
  kept_is_answered w v held line a e h = elim (cases_lt line_limit (length line)) [
    | inl lt ↦ long w v held line a (omega (arith, kept_len held line e)) lt h
    | inr le ↦ subst (λ l. A w l a v) (e ∙ take_all (line_limit + 1) line (omega arith)) h
  ]

  pub after_line : (e : Ends W) (next then : Option (List ℕ)) (u : W) (held new : List ℕ) (n : ℕ) (done : ⊤) (followed : Bool) → Progress A e held n → TakesPiece e.left next held new (Ok (Line followed)) → AnswersLine A e.end u new e.holds then (Ok done) → Progress A (record e { end = u; left = next; holds = then }) [] (n + 1)
  after_line e next then u held new n done followed p t a =
      let line = p.rest ++ t.0 in
      let said : A e.end line a.0 u = kept_is_answered e.end u new line a.0 (kept_more held new p.rest t.0 p.kept t.3) a.1 in
      record {
        lines = p.lines ++ line ∷ [];
        rest = [];
        answers = p.answers ++ a.0 ∷ [];
        text = p.text ++ ended t.0;
        splits = splits_line p.text p.lines p.rest t.0 p.splits t.1;
        read = Consumes-trans e.unread e.left next p.text (ended t.0) p.read t.2;
        run = run_more A e.start e.end u p.lines p.answers line a.0 p.run said;
        written = written_more e.wrote e.holds then p.answers a.0 p.written a.2;
        kept = refl;
        counted = omega (arith, p.counted, length-append p.lines (line ∷ []));
      }

  pub last_is_answered : (e : Ends W) (next then : Option (List ℕ)) (u : W) (held new : List ℕ) (n : ℕ) (done : ⊤) → Progress A e held n → TakesPiece e.left next held new (Ok End) → (length new ≡ 0 → ⊥) → AnswersLine A e.end u new e.holds then (Ok done) → ServesUntil A (record e { end = u; left = next; holds = then }) (Ok (n + 1))
  last_is_answered e next then u held new n done p t some a =
      let kept : new ≡ kept_of p.rest = t.2 ∙ p.kept in
      let same : with_last p.lines p.rest ≡ p.lines ++ p.rest ∷ [] = some_rest p.lines p.rest (λ z. some (omega (arith, z, kept_len new p.rest kept))) in
      let said : A e.end p.rest a.0 u = kept_is_answered e.end u new p.rest a.0 kept a.1 in (
        p.lines,
        p.rest,
        p.answers ++ a.0 ∷ [],
        record {
          text = p.text;
          splits = p.splits;
          read = nothing_more e.unread e.left next p.text p.read t.0;
          run = subst (λ ls. Run A e.start ls (p.answers ++ a.0 ∷ []) u) (sym same) (run_more A e.start e.end u p.lines p.answers p.rest a.0 p.run said);
          written = written_more e.wrote e.holds then p.answers a.0 p.written a.2;
        },
        at_end e.unread e.left next p.text p.read t.1,
        omega (arith, p.counted, ap length same, length-append p.lines (p.rest ∷ [])),
      )

  pub last_breaks : (e : Ends W) (next then : Option (List ℕ)) (u : W) (held new : List ℕ) (n : ℕ) (f : ServeFault) → Progress A e held n → TakesPiece e.left next held new (Ok End) → (length new ≡ 0 → ⊥) → AnswersLine A e.end u new e.holds then (Err f) → ServesUntil A (record e { end = u; left = next; holds = then }) (Err f)
  last_breaks e next then u held new n f p t some a =
      let kept : new ≡ kept_of p.rest = t.2 ∙ p.kept in
      let same : with_last p.lines p.rest ≡ p.lines ++ p.rest ∷ [] = some_rest p.lines p.rest (λ z. some (omega (arith, z, kept_len new p.rest kept))) in
      subst (λ (x : ServeFault). ServesUntil A (record e { end = u; left = next; holds = then }) (Err x)) (sym a.2.0) (
        p.lines,
        p.rest,
        record {
          text = p.text;
          splits = p.splits;
          read = nothing_more e.unread e.left next p.text p.read t.0;
          whole_rest = inr (at_end e.unread e.left next p.text p.read t.1);
          handled = p.lines;
          last = p.rest;
          all = sym same;
          answers = p.answers;
          answer = a.0;
          middle = e.end;
          run = p.run;
          step = kept_is_answered e.end u new p.rest a.0 kept a.1;
          front = a.2.1;
          lost = a.2.2;
          cut = a.2.3;
          written = Appends-trans e.wrote e.holds then (flat_map line_of p.answers) a.2.1 p.written a.2.4;
        },
      )

  pub line_breaks : (e : Ends W) (next then : Option (List ℕ)) (u : W) (held new : List ℕ) (n : ℕ) (f : ServeFault) (followed : Bool) → Progress A e held n → TakesPiece e.left next held new (Ok (Line followed)) → AnswersLine A e.end u new e.holds then (Err f) → ServesUntil A (record e { end = u; left = next; holds = then }) (Err f)
  line_breaks e next then u held new n f followed p t a =
      let line = p.rest ++ t.0 in
      subst (λ (x : ServeFault). ServesUntil A (record e { end = u; left = next; holds = then }) (Err x)) (sym a.2.0) (
        p.lines ++ line ∷ [],
        [],
        record {
          text = p.text ++ ended t.0;
          splits = splits_line p.text p.lines p.rest t.0 p.splits t.1;
          read = Consumes-trans e.unread e.left next p.text (ended t.0) p.read t.2;
          whole_rest = inl refl;
          handled = p.lines;
          last = line;
          all = refl;
          answers = p.answers;
          answer = a.0;
          middle = e.end;
          run = p.run;
          step = kept_is_answered e.end u new line a.0 (kept_more held new p.rest t.0 p.kept t.3) a.1;
          front = a.2.1;
          lost = a.2.2;
          cut = a.2.3;
          written = Appends-trans e.wrote e.holds then (flat_map line_of p.answers) a.2.1 p.written a.2.4;
        },
      )

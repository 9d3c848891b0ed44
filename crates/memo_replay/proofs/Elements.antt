-- An element that gives nothing itself, joined of its target and of what stands in it.
use Rattle.std.proofs.Common.{◌≡◌, List, [], ◌∷◌, ◌++◌, sym, ap, subst, ◌∙◌}
use Rattle.std.specs.Prelude.{if◌then◌else◌}
use Rattle.ent_policy.specs.declared.key.DocKey.{DocKey}
use Rattle.ent_request.specs.Part.{Part}
use Rattle.ent_request.specs.Plain.{nothing}
use Rattle.ent_request.specs.declared.answer.Answer.{Answer}
use Rattle.ent_request.specs.declared.answer.Status.{Status}
use Rattle.ent_walk.specs.Judged.{under_target}
use Rattle.ent_walk.specs.Node.{element}
use Rattle.ent_walk.specs.Target.{is_no_match}
use Rattle.ent_walk.specs.declared.target.Targeted.{Targeted}
use Rattle.ent_walk.specs.declared.target.Targeted.TheVariants as is
use Rattle.memo_plan.specs.Heard.{Came, Heard, element_came, gist_of, gives, heard, target}
use Rattle.memo_plan.proofs.Gists.{behind, element_heard, heard_after, heard_then}
use Rattle.memo_plan.specs.Plan.{nothing_given}
use Rattle.memo_replay.specs.declared.over.Over.{Over}
use Rattle.memo_replay.specs.declared.state.JoinState.{JoinState}
use Rattle.memo_replay.specs.proofs_only.Heard.{HearsNothing, joined}
use Rattle.memo_replay.specs.proofs_only.Stands.{Goes, Joins, Stands, questions_of}
use Rattle.memo_replay.proofs.Hearing.{goes_same, hears_before_nothing, hears_then, joined_none}

module _ {L : Type 0} (over : Over L) where
  -- where a target stands next, this is what it came to, and it was heard
  abbrev pub Targets : JoinState → JoinState → Targeted → Type 0
  Targets before after v = (h : Heard Targeted) (cs : List Came) → Stands over before (target h ∷ cs) → (v ≡ h.value) × Goes over before after h.gist cs

  -- where something gives stands next, it gives nothing
  abbrev pub GivesNothing : JoinState → JoinState → Type 0
  GivesNothing before after = (own : Answer → Heard Answer) (cs : List Came) → Stands over before (gives own ∷ cs) → (own ≡ nothing_given) × Stands over after cs

  module _ (key : DocKey) (t : Part Targeted) (p : Part Answer) (own : Answer → Part Answer) (children : List Came) where
    abbrev own_heard : Answer → Heard Answer
    own_heard a = heard (own a)

    -- what is heard of the element, by what its target came to
    by_target : (v : Targeted) → v ≡ t.value → heard (element key t p own) ≡ behind (gist_of t.notes) (heard_after v (heard p) own_heard)
    by_target v is = element_heard key t p own ∙ ap (λ u. behind (gist_of t.notes) (heard_after u (heard p) own_heard)) (sym is)

    abbrev Left : Targeted → List Came → List Came
    Left v cs = (if is_no_match v then [] else gives own_heard ∷ children) ++ cs

    below : (v : Targeted) (s u : JoinState) (cs : List Came) → v ≡ t.value → Goes over s u (gist_of t.notes) (Left t.value cs) → Goes over s u (gist_of t.notes) (Left v cs)
    below v s u cs is goes = subst (λ x. Goes over s u (gist_of t.notes) (Left x cs)) (sym is) goes

    abbrev Whole : JoinState → JoinState → Answer → Type 0
    Whole before after a = Joins over (element_came (heard t) own_heard children) (element key t p own) before after a

    -- where the target doesn't match
    pub element_none : (s u : JoinState) → Targets s u is.NoMatch → Whole s u nothing
    element_none s u targets cs stands =
        let came = targets (heard t) (Left t.value cs) stands in
        let same = by_target is.NoMatch came.0 in (
          sym (ap (λ (h : Heard Answer). h.value) same),
          goes_same over s u (gist_of t.notes) (gist_of (element key t p own).notes) cs
              (sym (joined_none (gist_of t.notes)) ∙ sym (ap (λ (h : Heard Answer). h.gist) same))
              (below is.NoMatch s u cs came.0 came.1),
        )

    -- where it matches
    pub element_match : (s u v w : JoinState) (a : Answer) → Targets s u is.Match → GivesNothing u v → HearsNothing u v
        → Joins over children p v w a → Whole s w a
    element_match s u v w a targets given silent joins cs stands =
        let came = targets (heard t) (Left t.value cs) stands in
        let goes = below is.Match s u cs came.0 came.1 in
        let none = given own_heard (children ++ cs) goes.1 in
        let inner = joins cs none.1 in
        let same : heard (element key t p own) ≡ record { value = p.value; gist = joined (gist_of t.notes) (joined (gist_of p.notes) (gist_of [])) } =
        by_target is.Match came.0 ∙ ap (λ o. behind (gist_of t.notes) (heard_then (heard p) o)) none.0 in (
          inner.0 ∙ sym (ap (λ (h : Heard Answer). h.value) same),
          goes_same over s w (joined (gist_of t.notes) (gist_of p.notes)) (gist_of (element key t p own).notes) cs
              (ap (joined (gist_of t.notes)) (sym (joined_none (gist_of p.notes))) ∙ sym (ap (λ (h : Heard Answer). h.gist) same)) (
                hears_then (questions_of over) (gist_of t.notes) (gist_of p.notes) s v w
                    (hears_before_nothing (questions_of over) (gist_of t.notes) s u v goes.0 silent) inner.1.0,
                inner.1.1,
              ),
        )

    -- where it is Indeterminate
    pub element_under : (status : Status) (s u v w : JoinState) (a b : Answer) → Targets s u (is.Indeterminate status) → GivesNothing u v → HearsNothing u v
        → Joins over children p v w a → b ≡ under_target status a.decision → Whole s w b
    element_under status s u v w a b targets given silent joins under cs stands =
        let came = targets (heard t) (Left t.value cs) stands in
        let goes = below (is.Indeterminate status) s u cs came.0 came.1 in
        let none = given own_heard (children ++ cs) goes.1 in
        let inner = joins cs none.1 in
        let same : heard (element key t p own) ≡ record { value = under_target status p.value.decision; gist = joined (gist_of t.notes) (gist_of p.notes) } =
        by_target (is.Indeterminate status) came.0 in (
          under ∙ ap (λ (x : Answer). under_target status x.decision) inner.0 ∙ sym (ap (λ (h : Heard Answer). h.value) same),
          goes_same over s w (joined (gist_of t.notes) (gist_of p.notes)) (gist_of (element key t p own).notes) cs
              (sym (ap (λ (h : Heard Answer). h.gist) same)) (
                hears_then (questions_of over) (gist_of t.notes) (gist_of p.notes) s v w
                    (hears_before_nothing (questions_of over) (gist_of t.notes) s u v goes.0 silent) inner.1.0,
                inner.1.1,
              ),
        )

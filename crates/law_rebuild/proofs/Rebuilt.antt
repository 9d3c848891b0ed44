-- A sound state is made anew.
use Rattle.std.proofs.Common.{◌≡◌, ℕ, ◌+◌, ◌<◌, ◌≤◌, ◌^◌, List, [], ◌++◌, length, Option, Some, None, Ok, refl, sym, ap, ◌∙◌, arith}
use Rattle.std.specs.Prelude.{map}
use Rattle.std.specs.FinMap.{empty, entries}
use Rattle.std.specs.List.{AllByRecursion}
use Rattle.std.proofs.lemmas.Bool.{lt-leb}
use Rattle.std.proofs.lemmas.List.{length-append, length-map}
use Rattle.ent_values.specs.Calendar.{Day}
use Rattle.ent_values.specs.declared.date_time.DateTime.{DateTime}
use Rattle.ent_policy.specs.Key.{key_of}
use Rattle.ent_policy.specs.declared.key.Reference.{Reference}
use Rattle.ent_finder.proofs.Totals.{key_cmp_total, row_cmp_total}
use Rattle.ent_finder.specs.Rows.{Source, source_at}
use Rattle.ent_finder.specs.Slots.{Docs, module_at}
use Rattle.ent_request.specs.declared.environment.Environment.{Environment}
use Rattle.ent_request.specs.declared.environment.Environment.TheVariants as environments
use Rattle.ent_table.specs.declared.edit.Edit.{Edit}
use Rattle.ent_table.specs.declared.edit.Edit.TheVariants.{AddName, SetDay, SetMoment, SetRoot}
use Rattle.ent_table.specs.declared.edit.List.TheVariants as which
use Rattle.ent_table.specs.Names.{Names, no_names}
use Rattle.ent_table.specs.State.{State}
use Rattle.ent_table.specs.Step.{next, step, with_environment, with_root}
use Rattle.law_rebuild.specs.Laws.{StatesAreRebuilt}
use Rattle.law_rebuild.specs.Rebuilding.{all_documents, all_names, all_rows, emptied, emptied_source, environment_edits, name_edits, rebuilding, root_edits}
use Rattle.law_rebuild.specs.Rebuilding.{stepped}
use Rattle.law_rebuild.specs.Sound.{IsSound, IsSoundRow}
use Rattle.law_rebuild.proofs.Chains.{stepped_all, stepped_one}
use Rattle.law_rebuild.proofs.Documents.{AreOwn, modules_added}
use Rattle.law_rebuild.proofs.Maps.{got_all}
use Rattle.law_rebuild.proofs.Named.{names_added}
use Rattle.law_rebuild.proofs.Placed.{each_of}
use Rattle.law_rebuild.proofs.Rowed.{AreSoundRows, sources_added}

-- below the last serial the environment and the root are set
day_passes : (s : State) (day : Day) → s.serial < 2 ^ 63 → step s (SetDay (Some day)) ≡ Ok (next (with_environment s (environments.Day day)))
day_passes s day below = rw (lt-leb (2 ^ 63) s.serial below) refl

moment_passes : (s : State) (moment : DateTime) → s.serial < 2 ^ 63 → step s (SetMoment (Some moment)) ≡ Ok
    (next (with_environment s (environments.Moment moment)))
moment_passes s moment below = rw (lt-leb (2 ^ 63) s.serial below) refl

root_passes : (s : State) (root : Option Reference) → s.serial < 2 ^ 63 → step s (SetRoot root) ≡ Ok (next (with_root s root))
root_passes s root below = rw (lt-leb (2 ^ 63) s.serial below) refl

module _ (s : State) where
  -- a state with these parts
  abbrev made : List Docs → List Source → Environment → Option Reference → Names → ℕ → State
  made modules sources environment root names n =
      record { held = record { root = root; modules = modules; sources = sources; environment = environment }; names = names; serial = n; limits = s.limits }

  -- ---- the environment and the root

  environment_added : (modules : List Docs) (sources : List Source) (environment : Environment) (names : Names) (n k : ℕ)
      → n + length (environment_edits environment) ≡ k → k ≤ 2 ^ 63
      → stepped (made modules sources environments.Empty None names n) (environment_edits environment) ≡ Ok (made modules sources environment None names k)
  environment_added modules sources environments.Empty names n k count below =
      let same : n ≡ k = omega arith in
      ap (λ j. Ok (made modules sources environments.Empty None names j)) same
  environment_added modules sources (environments.Day day) names n k count below =
      let same : n + 1 ≡ k = omega arith in
      stepped_one (made modules sources environments.Empty None names n) (made modules sources (environments.Day day) None names (n + 1))
      (SetDay (Some day)) [] _
      (day_passes (made modules sources environments.Empty None names n) day (omega arith))
      (ap (λ j. Ok (made modules sources (environments.Day day) None names j)) same)
  environment_added modules sources (environments.Moment moment) names n k count below =
      let same : n + 1 ≡ k = omega arith in
      stepped_one (made modules sources environments.Empty None names n) (made modules sources (environments.Moment moment) None names (n + 1))
      (SetMoment (Some moment)) [] _
      (moment_passes (made modules sources environments.Empty None names n) moment (omega arith))
      (ap (λ j. Ok (made modules sources (environments.Moment moment) None names j)) same)

  root_added : (modules : List Docs) (sources : List Source) (environment : Environment) (root : Option Reference) (names : Names) (n k : ℕ)
      → n + length (root_edits root) ≡ k → k ≤ 2 ^ 63
      → stepped (made modules sources environment None names n) (root_edits root) ≡ Ok (made modules sources environment root names k)
  root_added modules sources environment None names n k count below =
      let same : n ≡ k = omega arith in
      ap (λ j. Ok (made modules sources environment None names j)) same
  root_added modules sources environment (Some root) names n k count below =
      let same : n + 1 ≡ k = omega arith in
      stepped_one (made modules sources environment None names n) (made modules sources environment (Some root) names (n + 1)) (SetRoot (Some root)) [] _
      (root_passes (made modules sources environment None names n) (Some root) (omega arith))
      (ap (λ j. Ok (made modules sources environment (Some root) names j)) same)

  -- ---- what is known of a sound state's entries

  all_own : IsSound s → AllByRecursion (λ d. AreOwn (entries d)) s.held.modules
  all_own sound = each_of (λ (d : Docs). AreOwn (entries d)) empty s.held.modules (λ i.
      got_all key_cmp_total (λ key document. key_of document ≡ key) (module_at s.held.modules i) (λ key document is. (sound.documents i key document is).own))

  all_sound : IsSound s → AllByRecursion (λ c. AreSoundRows c (entries c.rows)) s.held.sources
  all_sound sound = each_of (λ (c : Source). AreSoundRows c (entries c.rows)) (record { categories = []; rows = empty }) s.held.sources (λ i.
      got_all row_cmp_total (IsSoundRow (source_at s.held.sources i)) (source_at s.held.sources i).rows (sound.rows i))

  -- ---- the names of the three lists

  names_made : (modules : List Docs) (sources : List Source) (environment : Environment) (root : Option Reference) (n k : ℕ) → IsSound s
      → n + length (all_names s.names) ≡ k → k ≤ 2 ^ 63
      → stepped (made modules sources environment root no_names n) (all_names s.names) ≡ Ok (made modules sources environment root s.names k)
  names_made modules sources environment root n k sound count below =
      let ps = s.names.people in
      let as_ = s.names.actions in
      let rs = s.names.resources in
      let bare : State = made modules sources environment root no_names n in
      let people : Names = record { people = ps; actions = []; resources = [] } in
      let actions : Names = record { people = ps; actions = as_; resources = [] } in
      let ds : List Edit = name_edits which.People ps in
      let es : List Edit = name_edits which.Actions as_ in
      let fs : List Edit = name_edits which.Resources rs in
      let n1 = n + length ps in
      let n2 = n1 + length as_ in
      let long : length (ds ++ (es ++ fs)) ≡ length ps + (length as_ + length rs) = length-append ds (es ++ fs)
      ∙ omega (
        arith,
        length-append es fs,
        length-map ps (AddName which.People),
        length-map as_ (AddName which.Actions),
        length-map rs
            (AddName which.Resources),
      ) in
      stepped_all bare (made modules sources environment root people n1) ds (es ++ fs) _
      (names_added bare which.People ps ps [] n n1 refl refl sound.people.distinct sound.people.good sound.people.most (omega arith) (omega arith))
      (stepped_all (made modules sources environment root people n1) (made modules sources environment root actions n2) es fs _
      (names_added
      (made modules sources environment root people n1) which.Actions as_ as_ [] n1 n2 refl refl
      sound.actions.distinct sound.actions.good sound.actions.most (omega arith) (omega arith))
      (names_added (made modules sources environment root actions n2) which.Resources rs rs [] n2 k refl
      (omega arith) sound.resources.distinct sound.resources.good sound.resources.most sound.cells below))

  -- ---- all of it

  pub state_rebuilt : IsSound s → stepped (emptied s) (rebuilding s) ≡ Ok (record s { serial = length (rebuilding s) })
  state_rebuilt sound =
      let modules = s.held.modules in
      let sources = s.held.sources in
      let bare = map emptied_source s.held.sources in
      let ds : List Edit = all_documents modules in
      let es : List Edit = all_rows sources in
      let fs : List Edit = environment_edits s.held.environment in
      let gs : List Edit = root_edits s.held.root in
      let hs : List Edit = all_names s.names in
      let n1 = length ds in
      let start : 0 + length ds ≡ n1 = omega arith in
      let n2 = n1 + length es in
      let n3 = n2 + length fs in
      let n4 = n3 + length gs in
      let k = length (rebuilding s) in
      let long : k ≡ n4 + length hs =
      length-append ds (es ++ (fs ++ (gs ++ hs))) ∙ omega (arith, length-append es (fs ++ (gs ++ hs)), length-append fs (gs ++ hs), length-append gs hs) in
      let below : k ≤ 2 ^ 63 = omega (arith, sound.edits, sound.serial) in
      stepped_all (emptied s) (made modules bare environments.Empty None no_names n1) ds (es ++ (fs ++ (gs ++ hs))) _
      (modules_added (emptied s) modules modules [] 0 0 n1 refl refl start (all_own sound) sound.count (omega arith))
      (stepped_all (made modules bare environments.Empty None no_names n1) (made modules sources environments.Empty None no_names n2) es (fs ++ (gs ++ hs)) _
      (sources_added (made modules bare environments.Empty None no_names n1) sources sources [] 0 n1 n2 refl refl refl (all_sound sound) (omega arith))
      (stepped_all (made modules sources environments.Empty None no_names n2) (made modules sources s.held.environment None no_names n3) fs (gs ++ hs) _
      (environment_added modules sources s.held.environment no_names n2 n3 refl (omega arith))
      (stepped_all (made modules sources s.held.environment None no_names n3) (made modules sources s.held.environment s.held.root no_names n4) gs hs _
      (root_added modules sources s.held.environment s.held.root no_names n3 n4 refl (omega arith))
      (names_made modules sources s.held.environment s.held.root n4 k sound (sym long) below))))

pub states_rebuilt : StatesAreRebuilt
states_rebuilt s sound = state_rebuilt s sound

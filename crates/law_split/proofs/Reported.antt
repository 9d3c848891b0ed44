-- What is reported of the whole, by what is reported of its parts.
use Rattle.std.proofs.Common.{◌≡◌, ℕ, zero, suc, ◌<◌, List, [], ◌∷◌, length, map, Bool, true, false, cond, Option, Some, Result, Ok, Err}
use Rattle.std.proofs.Common.{refl, sym, ap, ◌∙◌, arith}
use Rattle.std.specs.Prelude.{◌&&◌, ◌↔◌, filter, slice_get}
use Rattle.ent_table.specs.Names.{has_name}
use Rattle.ent_table.specs.State.{State, table_of}
use Rattle.ent_report.specs.Reports.{by_rule, can, can_in, faults, has_rule, is_permit_to, who, who_in}
use Rattle.ent_walk.specs.Answer.{has_cause}
use Rattle.ent_request.specs.Listed.{listed}
use Rattle.ent_request.specs.Held.{looks_in}
use Rattle.ent_report.specs.proofs_only.Permitted.{permitted}
use Rattle.ent_report.specs.declared.fault.ReportFault.TheVariants.{NotThere}
use Rattle.ent_report.specs.declared.fault.ReportFault.{ReportFault}
use Rattle.ent_report.proofs.Permits.{can_of}
use Rattle.law_split.specs.Split.{IsSplit, is_of}
use Rattle.law_split.specs.Merged.{Request, merged_cells, merged_people, merged_requests}
use Rattle.law_split.specs.Laws.{TellTheWhole}
use Rattle.law_split.proofs.Kept.{own_there}
use Rattle.law_split.proofs.Pieces.{Pieces, pieces}
use Rattle.law_split.proofs.Summed.{counts_summed}
use Rattle.law_split.proofs.Tabled.{Base, Cell, at_own, base_of, block, block_of_part, filter_flat, keyed, keyed_of, keyed_passed, map_filtered, report_merged, table_rows}

-- a report that is refused without a name
abbrev pub if_listed : {A : Type 0} → Bool → A → Result A ReportFault
if_listed b x = cond b (Ok x) (Err NotThere)

refused_alike : {A : Type 0} (b c : Bool) (x y : A) → b ≡ c → (if_listed b x ≡ Err NotThere) ↔ (if_listed c y ≡ Err NotThere)
refused_alike true true x y e = (λ r. cc, λ r. cc)
refused_alike false false x y e = (λ r. refl, λ r. refl)
refused_alike true false x y e = cc
refused_alike false true x y e = cc

module _ (part_of : List ℕ → ℕ) (whole : State) (parts : List State) (split : IsSplit part_of whole parts) where
  -- ---- all cells, and those of which a part failed

  all_cells : table_of whole ≡ merged_cells whole.names.people (map table_of parts)
  all_cells = report_merged part_of whole parts split (λ (c : Cell). c.0.person) table_of block table_rows keyed

  -- whether a part of the answer failed, by what is held
  abbrev fails : Base → Cell → Bool
  fails base c = has_cause (looks_in base.held) (listed c.0.person c.0.action c.0.resource)

  all_faults : faults whole ≡ merged_cells whole.names.people (map faults parts)
  all_faults = report_merged part_of whole parts split (λ (c : Cell). c.0.person) faults (λ base person. filter (fails base) (block base person))
      (λ s. ap (filter (fails (base_of s))) (table_rows s) ∙ filter_flat (fails (base_of s)) (block (base_of s)) s.names.people)
      (λ base person. keyed_passed (fails base) base person)

  -- ---- what a rule decides

  all_decided : (policy : List ℕ) (rule : Option (List ℕ)) → by_rule whole policy rule ≡ merged_requests whole.names.people (map (λ part. by_rule part policy rule) parts)
  all_decided policy rule =
      let p = λ (c : Cell). has_rule policy rule c.1 in
      let f : Cell → Request = λ c. (c.0.person, c.0.action, c.0.resource) in
      report_merged part_of whole parts split (λ (r : Request). r.0) (λ part. by_rule part policy rule) (λ base person. map f (filter p (block base person)))
      (λ s. map_filtered p f s) (λ base person. keyed_of (λ (r : Request). r.0) p f (λ c. refl) base person)

  -- ---- who can do something

  module _ (action resource : List ℕ) where
    abbrev known : State → Bool
    known s = has_name action s.names.actions && has_name resource s.names.resources

    abbrev people_in : State → List (List ℕ)
    people_in s = who_in action resource (table_of s)

    same_known : (number : ℕ) (part : State) → slice_get parts number ≡ Some part → known part ≡ known whole
    same_known number part e = let is = split.each number part e in λ i. has_name action (is.actions i) && has_name resource (is.resources i)

    all_people : people_in whole ≡ merged_people whole.names.people (map people_in parts)
    all_people =
        let p = is_permit_to action resource in
        let f : Cell → List ℕ = λ c. c.0.person in
        report_merged part_of whole parts split (λ (x : List ℕ). x) people_in (λ base person. map f (filter p (block base person)))
        (λ s. map_filtered p f s) (λ base person. keyed_of (λ (x : List ℕ). x) p f (λ c. refl) base person)

    -- where the first is known so is each
    abbrev IsKnown : ℕ → State → Type 0
    IsKnown n part = known part ≡ known whole

    each_told : (n : ℕ) (ps : List State) (lists : List (List (List ℕ))) → Pieces IsKnown n ps → known whole ≡ true
        → map (λ part. who part action resource) ps ≡ map Ok lists → lists ≡ map people_in ps
    each_told n [] [] h k e = refl
    each_told n [] (l ∷ lists) h k e = cc
    each_told n (p ∷ ps) [] h k e = cc
    each_told n (p ∷ ps) (l ∷ lists) h k e =
        let first : who p action resource ≡ Ok l = cc in
        let rest : map (λ part. who part action resource) ps ≡ map Ok lists = cc in
        let told : Ok (people_in p) ≡ Ok l = sym (ap (λ b. if_listed b (people_in p)) (h.0 ∙ k)) ∙ first in
        let same : l ≡ people_in p = cc in
        λ i. same i ∷ each_told (suc n) ps lists h.1 k rest i

    known_told : (n : ℕ) (ps : List State) (lists : List (List (List ℕ))) → zero < length ps → Pieces IsKnown n ps
        → map (λ part. who part action resource) ps ≡ map Ok lists → (b : Bool) → known whole ≡ b → known whole ≡ true
    known_told n ps lists some h e true k = k
    known_told n [] lists some h e false k = absurd (omega (arith, some))
    known_told n (p ∷ ps) [] some h e false k = cc
    known_told n (p ∷ ps) (l ∷ lists) some h e false k =
        let first : who p action resource ≡ Ok l = cc in
        let none : who p action resource ≡ Err NotThere = ap (λ b. if_listed b (people_in p)) (h.0 ∙ k) in
        cc

    told_people : (lists : List (List (List ℕ))) → map (λ part. who part action resource) parts ≡ map Ok lists
        → who whole action resource ≡ Ok (merged_people whole.names.people lists)
    told_people lists e =
        let h = pieces IsKnown parts same_known in
        let some : zero < length parts = omega (arith, split.placed []) in
        let k = known_told 0 parts lists some h e (known whole) refl in
        ap (λ b. if_listed b (people_in whole)) k
        ∙ ap Ok (all_people ∙ ap (merged_people whole.names.people) (sym (each_told 0 parts lists h k e)))

    told_unlisted : (number : ℕ) (part : State) → slice_get parts number ≡ Some part
        → (who whole action resource ≡ Err NotThere) ↔ (who part action resource ≡ Err NotThere)
    told_unlisted number part e = refused_alike (known whole) (known part) (people_in whole) (people_in part) (sym (same_known number part e))

  -- ---- what a person can do

  told_allowed : (person : List ℕ) (part : State) → slice_get parts (part_of person) ≡ Some part → can whole person ≡ can part person
  told_allowed person part e =
      let is = split.each (part_of person) part e in
      let there : has_name person whole.names.people ≡ has_name person part.names.people =
      sym (ap (has_name person) is.people ∙ own_there (is_of part_of (part_of person)) person (at_own part_of person) whole.names.people) in
      let same : can_in person (table_of whole) ≡ can_in person (table_of part) =
      sym (can_of person (table_of whole)) ∙ ap permitted (block_of_part part_of whole parts split person part e) ∙ can_of person (table_of part) in
      λ i. if_listed (there i) (same i)

  pub told_by_parts : TellTheWhole part_of whole parts
  told_by_parts = record {
    block = block_of_part part_of whole parts split;
    cells = all_cells;
    failed = all_faults;
    counted = counts_summed part_of whole parts split;
    allowed = told_allowed;
    people = told_people;
    unlisted = told_unlisted;
    decided = all_decided;
  }

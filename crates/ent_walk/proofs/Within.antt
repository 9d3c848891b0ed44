-- What is noted within a policy, a set or a rule.
use Rattle.std.proofs.Common.{◌≡◌, ℕ, ◌-◌, true, List, [], ◌∷◌, ◌++◌, length, map, take, refl, sym, ap, ◌∙◌, append_assoc, Option, Some, None, arith}
use Rattle.std.specs.Prelude.{option_map}
use Rattle.std.proofs.Math.Seq.{take-append_seam}
use Rattle.std.proofs.lemmas.List.{length-append}
use Rattle.std.specs.Option.{option_or}
use Rattle.ent_policy.specs.declared.key.DocKey.{DocKey}
use Rattle.ent_request.specs.declared.cause.Cause.{Cause}
use Rattle.ent_trace.specs.declared.causes.Causes.{Causes}
use Rattle.ent_walk.specs.declared.walk.Walk.{Walk}
use Rattle.ent_request.specs.declared.request.Request.{Request}
use Rattle.ent_trace.specs.proofs_only.Met.{Met, with_failing, with_passed}
use Rattle.ent_request.specs.Looks.{Looks}
use Rattle.ent_request.specs.Note.{Note, asks, cause_of_rule, cause_within, fails, note_of_rule, note_within}
use Rattle.ent_request.specs.Note.{passed}
use Rattle.ent_request.specs.Part.{Part, within}
use Rattle.ent_walk.specs.proofs_only.Comes.{Adds, Comes, Keeps, in_walk}
use Rattle.ent_trace.specs.proofs_only.Noted.{Notes, entering, in_rule, leaving, noting, rule_in, with_failure, with_note}
use Rattle.ent_walk.proofs.Parts.{came_from, keeps_on}

-- ---- policies and sets

abbrev into : DocKey → Causes → Causes
into key k = record k { path = k.path ++ key ∷ [] }

abbrev out : Causes → Causes
out k = record k { path = take (length k.path - 1) k.path }

without_last : {A : Type 0} (xs : List A) (x : A) → take (length (xs ++ x ∷ []) - 1) (xs ++ x ∷ []) ≡ xs
without_last xs x =
    let long = length-append xs (x ∷ []) in
    let one : length (xs ++ x ∷ []) - 1 ≡ length xs = omega (arith, long) in
    ap (λ n. take n (xs ++ x ∷ [])) one ∙ take-append_seam xs (x ∷ [])

failed_within : (add : Met → Cause → Met) (key : DocKey) (o : Option Causes) (c : Cause)
    → with_failure add (option_map (into key) o) c ≡ option_map (into key) (with_failure add o (cause_within key c))
failed_within add key None c = refl
failed_within add key (Some k) c =
    ap (λ path. Some (record k { path = k.path ++ key ∷ []; told = add k.told (record c { path = path; rule = option_or c.rule k.rule }) })) (append_assoc k.path (key ∷ []) c.path)

noted_within : (n : Notes) (key : DocKey) (x : Note) → with_note (entering n key) x ≡ entering (with_note n (note_within key x)) key
noted_within n key (asks q) = refl
noted_within n key (fails c) = ap (λ o. record n { causes = o; failed = true }) (failed_within with_failing key n.causes c)
noted_within n key (passed c) = ap (λ o. record n { causes = o; failed = true }) (failed_within with_passed key n.causes c)

out_again : (key : DocKey) (o : Option Causes) → option_map out (option_map (into key) o) ≡ o
out_again key None = refl
out_again key (Some k) = ap (λ path. Some (record k { path = path })) (without_last k.path key)

-- what is noted between going into a policy or a set and out of it is noted within that
pub noting_within : (n : Notes) (key : DocKey) (ns : List Note) → leaving (noting (entering n key) ns) ≡ noting n (map (note_within key) ns)
noting_within n key [] = ap (λ o. record n { causes = o }) (out_again key n.causes)
noting_within n key (x ∷ ns) = ap (λ m. leaving (noting m ns)) (noted_within n key x) ∙ noting_within (with_note n (note_within key x)) key ns

-- ---- rules

abbrev of : Option (List ℕ) → Causes → Causes
of rule k = record k { rule = rule }

failed_of : (add : Met → Cause → Met) (id : List ℕ) (o : Option Causes) (c : Cause)
    → with_failure add (option_map (of (Some id)) o) c ≡ option_map (of (Some id)) (with_failure add o (cause_of_rule id c))
failed_of add id None c = refl
failed_of add id (Some k) c = ap (λ rule. Some (record k { rule = Some id; told = add k.told (record c { path = k.path ++ c.path; rule = rule }) })) (at c.rule) where
  at : (r : Option (List ℕ)) → option_or r (Some id) ≡ option_or (option_or r (Some id)) k.rule
  at None = refl
  at (Some other) = refl

noted_of : (n : Notes) (id : List ℕ) (x : Note) → with_note (in_rule n (Some id)) x ≡ in_rule (with_note n (note_of_rule id x)) (Some id)
noted_of n id (asks q) = refl
noted_of n id (fails c) = ap (λ o. record n { causes = o; failed = true }) (failed_of with_failing id n.causes c)
noted_of n id (passed c) = ap (λ o. record n { causes = o; failed = true }) (failed_of with_passed id n.causes c)

failure_same : (n : Notes) (add : Met → Cause → Met) (c : Cause)
    → rule_in (record n { causes = with_failure add n.causes c; failed = true }) ≡ rule_in n
failure_same n add c = at n.causes where
  at : (o : Option Causes)
      → rule_in (record n { causes = with_failure add o c; failed = true }) ≡ rule_in (record n { causes = o })
  at None = refl
  at (Some k) = refl

rule_same : (n : Notes) (x : Note) → rule_in (with_note n x) ≡ rule_in n
rule_same n (asks q) = refl
rule_same n (fails c) = failure_same n with_failing c
rule_same n (passed c) = failure_same n with_passed c

back : (id : List ℕ) (n : Notes) → in_rule (in_rule n (Some id)) (rule_in n) ≡ n
back id n = ap (λ o. record n { causes = o }) (at n.causes) where
  at : (o : Option Causes) → option_map (of (rule_in (record n { causes = o }))) (option_map (of (Some id)) o) ≡ o
  at None = refl
  at (Some k) = refl

-- what is noted between going into a rule and out of it is noted of that
pub noting_of : (n : Notes) (id : List ℕ) (ns : List Note) → in_rule (noting (in_rule n (Some id)) ns) (rule_in n) ≡ noting n (map (note_of_rule id) ns)
noting_of n id [] = back id n
noting_of n id (x ∷ ns) =
    ap (λ m. in_rule (noting m ns) (rule_in n)) (noted_of n id x) ∙ ap (in_rule (noting (in_rule (with_note n (note_of_rule id x)) (Some id)) ns)) (sym (rule_same n (note_of_rule id x)))
    ∙ noting_of (with_note n (note_of_rule id x)) id ns

-- ---- parts

-- what came of a part within a policy or a set came of that part within it
pub came_within : {A L : Type 0} (looks : L → Looks) (key : DocKey) (part : Looks → Request → Part A) (before inside after last : Walk L) (came : A)
    → inside.notes ≡ entering before.notes key → Keeps before inside → Comes (in_walk looks inside part) inside after came → last.notes ≡ leaving after.notes → Keeps after last
    → Comes (within key (in_walk looks before part)) before last came
came_within looks key part before inside after last came entered first comes left second =
    let here : Comes (in_walk looks before part) inside after came = came_from looks part before inside after came first comes in
    record {
      value = here.value;
      notes = left ∙ ap leaving (here.notes ∙ ap (λ n. noting n (in_walk looks before part).notes) entered) ∙ noting_within before.notes key (in_walk looks before part).notes;
      keeps = keeps_on before inside last first (keeps_on inside after last here.keeps second);
    }

-- what was noted within a rule was noted of that
pub adds_of_rule : {L : Type 0} (id : List ℕ) (ns : List Note) (before inside after last : Walk L) (outer : Option (List ℕ)) → inside.notes ≡ in_rule before.notes (Some id) → Keeps before inside
    → Adds ns inside after → outer ≡ rule_in before.notes → last.notes ≡ in_rule after.notes outer → Keeps after last → Adds (map (note_of_rule id) ns) before last
adds_of_rule id ns before inside after last outer entered first added outer-is left second = record {
  notes = left ∙ ap (in_rule after.notes) outer-is ∙ ap (λ n. in_rule n (rule_in before.notes)) (added.notes ∙ ap (λ n. noting n ns) entered) ∙ noting_of before.notes id ns;
  keeps = keeps_on before inside last first (keeps_on inside after last added.keeps second);
}

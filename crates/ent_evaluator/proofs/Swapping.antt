-- What is remembered stays so over an exchange.
use Rattle.std.proofs.Common.{◌≡◌, ◌≢◌, ℕ, Bool, true, false, List, Result, Ok, Err, refl, sym, ap, subst}
use Rattle.std.specs.Prelude.{OnErr, OnOk}
use Rattle.std.specs.Cmp.Lexicographic.{bytes_decides}
use Rattle.std.proofs.lemmas.Bool.{and_parts}
use Rattle.ent_values.specs.declared.value.Value.{Value}
use Rattle.ent_finder.specs.Looking.{names_row}
use Rattle.ent_finder.specs.declared.row.AttrKey.{AttrKey}
use Rattle.ent_finder.specs.declared.row.RowKey.{RowKey}
use Rattle.ent_request.specs.Change.{other_values}
use Rattle.ent_request.specs.Held.{Held, looks_in}
use Rattle.ent_request.specs.declared.key.ReadKey.TheVariants as keys
use Rattle.ent_request.proofs.Changes.{values-leave}
use Rattle.ent_evaluator.specs.Held.{DifferAtMost, HaveSameValues}
use Rattle.ent_eval.specs.LooksOf.{held_by, looks_of}
use Rattle.ent_evaluator.specs.declared.parts.EvaluatorParts.{EvaluatorParts}
use Rattle.ent_evaluator.specs.proofs_only.Parts.{OnlySlots}

-- a key of another name doesn't name a row
other_name : (key : AttrKey) (row : RowKey) → key.entity ≢ row.entity → names_row key row ≡ false
other_name key row h = by (names_row key row) refl where
  by : (b : Bool) → names_row key row ≡ b → b ≡ false
  by true e = absurd (h ((bytes_decides key.entity row.entity).0 (and_parts _ _ (and_parts _ _ e).1).0))
  by false e = refl

-- with other values in a row all gives the same but keys of its name
other_row : (held : Held) (number : ℕ) (row : RowKey) (values : List Value)
    → DifferAtMost row.entity (looks_in held) (looks_in (other_values held number row values))
other_row held number row values = record {
  documents = record { root = refl; documents = λ r. refl; date = refl; time = refl; date_time = refl };
  values = λ key h. sym (values-leave held number row values (keys.Attr key) (other_name key row h));
}

-- where all is the same no name differs
no_other : (name : List ℕ) (held : Held) → DifferAtMost name (looks_in held) (looks_in held)
no_other name held = record {
  documents = record { root = refl; documents = λ r. refl; date = refl; time = refl; date_time = refl };
  values = λ key h. refl;
}

module _ {A P E : Type 0} (old new : EvaluatorParts A P) where
  -- an exchange of a row, made or refused, leaves all but keys of its name
  pub row_leaves : (number : ℕ) (row : RowKey) (values : List Value) (r : Result (Unit {0}) E)
      → OnOk r (held_by new.pdp ≡ other_values (held_by old.pdp) number row values) → OnErr r (held_by new.pdp ≡ held_by old.pdp)
      → DifferAtMost row.entity (looks_of old.pdp) (looks_of new.pdp)
  row_leaves number row values (Ok done) made stays =
      subst (λ (h : Held). DifferAtMost row.entity (looks_of old.pdp) (looks_in h)) (sym made)
      (other_row (held_by old.pdp) number row values)
  row_leaves number row values (Err fault) made stays =
      subst (λ (h : Held). DifferAtMost row.entity (looks_of old.pdp) (looks_in h)) (sym stays)
      (no_other row.entity (held_by old.pdp))

module _ {A P : Type 0} (old new : EvaluatorParts A P) where
  -- where only modules of documents have changed each key names the same values
  pub slots_leave : OnlySlots old new → HaveSameValues (looks_of old.pdp) (looks_of new.pdp)
  slots_leave rest key = ap (λ (v : EvaluatorParts A P). (looks_of v.pdp).values key) rest

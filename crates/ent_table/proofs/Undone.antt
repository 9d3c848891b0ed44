-- An exchange that is taken back.
use Rattle.std.proofs.Common.{◌≡◌, ◌<◌, List, length, refl, ap, subst, ◌∙◌}
use Rattle.ent_finder.specs.Rows.{Source}
use Rattle.ent_eval.specs.declared.exchange.Exchange.{Exchange}
use Rattle.ent_eval.specs.declared.exchange.Exchange.TheVariants.{Document, Row, Root, Environment}
use Rattle.ent_table.specs.declared.review_parts.ReviewParts.{ReviewParts}
use Rattle.ent_table.specs.proofs_only.Exchange.{IsMade, IsWithin, OnlyHeld, taken, with_exchange}
use Rattle.ent_table.specs.Fresh.{point_of, state_of}
use Rattle.ent_table.specs.State.{State}
use Rattle.ent_table.proofs.Exchanges.{undone}
use Rattle.ent_eval.proofs.RowsSwapped.{all_filled, filled_within}
use Rattle.ent_table.proofs.Rows.{values_undone}

pub exchange-undone : (s : State) (ss : List Source) (x : Exchange) → s.held.sources ≡ all_filled ss → IsWithin s x → with_exchange (with_exchange s x) (taken s x) ≡ s
exchange-undone s ss (Document number key document) are h = undone s number key document h.0
exchange-undone s ss (Row number key values) are h = values_undone s ss number key values are (filled_within ss number (within h.0)) where
  within : number < length s.held.sources → number < length (all_filled ss)
  within l = subst (λ n. number < n) (ap length are) l
exchange-undone s ss (Root root) are h = refl
exchange-undone s ss (Environment environment) are h = refl

module _ {E A P D : Type 0} where
  -- of two changes each left all but what is held
  pub held_twice : (old between new : ReviewParts E A P D) → OnlyHeld old between → OnlyHeld between new → OnlyHeld old new
  held_twice old between new one two =
      two
      ∙ ap (λ (v : ReviewParts E A P D). record v {
        table = record v.table { cells = record v.table.cells { evaluator = new.table.cells.evaluator } };
      }) one

module _ {E A P D : Type 0} where
  -- where what was exchanged is exchanged with what stood there, the state is as before both
  pub taken_back : (old between new : ReviewParts E A P D) (x back : Exchange) → IsWithin (state_of old) x → state_of between ≡ with_exchange (state_of old) x → back ≡ taken (state_of old) x
      → state_of new ≡ with_exchange (state_of between) back → state_of new ≡ state_of old
  taken_back old between new x back h there is again =
      again ∙ (λ i. with_exchange (there i) (is i)) ∙ exchange-undone (state_of old) (point_of old).sources x refl h

  pub made_back : (before now new : ReviewParts E A P D) (back : Exchange) → IsMade before now back → state_of new ≡ with_exchange (state_of now) back
      → state_of new ≡ state_of before
  made_back before now new back made again = taken_back before now new made.0 back made.1 made.2 made.3 again

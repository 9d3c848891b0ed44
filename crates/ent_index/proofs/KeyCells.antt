-- Each key of an index has a cell.
use Rattle.std.proofs.Common.{◌≡◌, ℕ, List, [], ◌∷◌, Bool, true, false, Option, Some, None, is_some, refl, sym, ap, subst, ◌∙◌}
use Rattle.std.specs.FinMap.{contains_key-keys, get, keys}
use Rattle.std.specs.List.{All, filter, list_any}
use Rattle.std.specs.Cmp.{eq_by_cmp_equiv}
use Rattle.std.specs.Ordering.{eq_by_cmp, is_eq, nat_cmp}
use Rattle.std.proofs.lemmas.Bool.{or_left}
use Rattle.std.proofs.lemmas.List.Elements.{All-filter}
use Rattle.std.proofs.lemmas.Map.Views.{All-from_any}
use Rattle.ent_request.specs.Noted.{read_cmp}
use Rattle.ent_request.specs.declared.key.ReadKey.{ReadKey}
use Rattle.ent_index.specs.Cells.{CellSet, in_order, no_cells}
use Rattle.ent_index.specs.Index.{HasCell, IsSound, ReadIndex, has_in}
use Rattle.ent_index.proofs.Views.{cell_itself, has_cell-none, read_cmp-total, same_cells}

module _ (index : ReadIndex) (sound : IsSound index) (k : ReadKey) where
  -- the cells of a key that stands in the index aren't none
  among : (s : CellSet) → get index k ≡ Some s → (cs : List ℕ) → in_order s ≡ cs → HasCell index k
  among s at [] none =
      absurd (sound k (at ∙ ap Some (same_cells s no_cells (λ c. contains_key-keys s c ∙ ap (list_any (λ cell. is_eq (nat_cmp c cell))) none ∙ sym (has_cell-none c)))))
  among s at (c ∷ cs) is = (
    c,
    ap (λ o. has_in o c) at ∙ contains_key-keys s c ∙ ap (list_any (λ cell. is_eq (nat_cmp c cell))) is
        ∙ or_left (is_eq (nat_cmp c c)) (list_any (λ cell. is_eq (nat_cmp c cell)) cs) (cell_itself c c refl),
  )

  key_has_cell : list_any (eq_by_cmp read_cmp k) (keys index) ≡ true → HasCell index k
  key_has_cell there = by (get index k) refl (contains_key-keys index k ∙ there)
    where
      by : (o : Option CellSet) → get index k ≡ o → is_some (get index k) ≡ true → HasCell index k
      by None at some = absurd (let bad : false ≡ true = sym (ap is_some at) ∙ some in cc)
      by (Some s) at some = among s at (in_order s) refl

-- of keys that were asked for
pub asked_have_cells : (index : ReadIndex) → IsSound index → (p : ReadKey → Bool) → (ks : List ReadKey) → ks ≡ filter p (keys index) → All (HasCell index) ks
asked_have_cells index sound p ks are = subst (All (HasCell index)) (sym are)
    (All-filter p (HasCell index) (keys index) (All-from_any (eq_by_cmp_equiv read_cmp-total) (HasCell index) (keys index) (λ k there. key_has_cell index sound k there)))

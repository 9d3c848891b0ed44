-- A log that stays what it is.
use Rattle.std.proofs.Common.{◌≡◌, ◌≤◌, sym, ap, subst, ◌∙◌, le_refl}
use Rattle.ent_log.specs.Tables.{IsSameLog, room_of}
use Rattle.ent_log.specs.declared.log.Log.{Log}

module _ {K A : Type 0} where
  pub same_log : (old new : Log K A) → new ≡ old → IsSameLog old new
  same_log old new e = record { from = ap (λ l. l.from) e; serial = ap (λ l. l.serial) e; entries = ap (λ l. l.entries.items) e }

  pub as_much_room : (old new : Log K A) → new ≡ old → room_of old ≤ room_of new
  as_much_room old new e = subst (λ (l : Log K A). room_of l ≤ room_of new) e (le_refl (room_of new))

  -- it is the same but for its room between two equations
  pub log_between : (old mid later new : Log K A) → mid ≡ old → IsSameLog mid later → new ≡ later → IsSameLog old new
  log_between old mid later new before same after = record {
    from = ap (λ l. l.from) after ∙ same.from ∙ ap (λ l. l.from) before;
    serial = ap (λ l. l.serial) after ∙ same.serial ∙ ap (λ l. l.serial) before;
    entries = ap (λ l. l.entries.items) after ∙ same.entries ∙ ap (λ l. l.entries.items) before;
  }

  pub room_between : (old mid later new : Log K A) → mid ≡ old → room_of mid ≤ room_of later → new ≡ later → room_of old ≤ room_of new
  room_between old mid later new before grows after =
      subst (λ (l : Log K A). room_of l ≤ room_of new) before (subst (λ (l : Log K A). room_of mid ≤ room_of l) (sym after) grows)

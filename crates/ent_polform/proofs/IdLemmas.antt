-- A document that is read has an id.
use Rattle.std.proofs.Common.{◌≡◌, ℕ, List, Bool, true, false, if◌then◌else◌, Option, Some, None, Result, Ok, Err, bytes_eq, codes, refl}
use Rattle.serde_json.specs.Data.{Data}
use Rattle.ent_policy.specs.declared.fault.DocFault.{DocFault}
use Rattle.ent_policy.specs.declared.fault.DocFault.TheVariants as fault
use Rattle.ent_policy.specs.declared.raw.RawDocument.{RawDocument}
use Rattle.ent_policy.specs.declared.raw.RawDocument.TheVariants as raw
use Rattle.ent_json.specs.Objects.{one_member, text_at}
use Rattle.ent_polform.specs.Form.{child_of, has_policy_keys, has_set_keys, id_named, id_of, policy_of, raw_named, raw_of, set_by}
use Rattle.ent_polform.specs.Objects.{◌>>=◌}
use Rattle.ent_polform.specs.Reading.{formed, has_form, part}

formed_part : {A B : Type 0} (b : Bool) (o : Option A) (more : A → Result B DocFault) (x : B) → formed b (part o >>= more) ≡ Ok x → has_form (formed b (part o)) ≡ true
formed_part true (Some a) more x h = refl
formed_part true None more x h = absurd cc
formed_part false o more x h = absurd cc

then_read : {A B : Type 0} (r : Result A DocFault) (more : A → Result B DocFault) (x : B) → (r >>= more) ≡ Ok x → (a : A) × (r ≡ Ok a)
then_read (Ok a) more x h = (a, refl)
then_read (Err e) more x h = absurd cc

named_read : (key : List ℕ) (d : Data) (x : RawDocument) → raw_named child_of key d ≡ Ok x → has_form (id_named key d) ≡ true
unfolding raw_named id_named policy_of set_by
named_read key d x h = at (bytes_eq key (codes "Policy")) (bytes_eq key (codes "PolicySet")) h
  where
    at : (p s : Bool) → (if p then (policy_of d >>= λ y. Ok (raw.Policy y)) else (if s then (set_by child_of d >>= λ y. Ok (raw.Set y)) else Err fault.Form)) ≡ Ok x
        → has_form (if p then formed (has_policy_keys d) (part (text_at (codes "PolicyId") d))
        else (if s then formed (has_set_keys d) (part (text_at (codes "PolicySetId") d)) else Err fault.Form)) ≡ true
    at true s h = let r = then_read (policy_of d) (λ y. Ok (raw.Policy y)) x h in formed_part (has_policy_keys d) (text_at (codes "PolicyId") d) _ r.0 r.1
    at false true h = let r = then_read (set_by child_of d) (λ y. Ok (raw.Set y)) x h in formed_part (has_set_keys d) (text_at (codes "PolicySetId") d) _ r.0 r.1
    at false false h = absurd cc

pub id_read : (d : Data) (x : RawDocument) → raw_of d ≡ Ok x → has_form (id_of d) ≡ true
unfolding raw_of id_of
id_read d x h = at (one_member d) h
  where
    at : (o : Option (List ℕ × Data)) → (part o >>= λ m. raw_named child_of m.0 m.1) ≡ Ok x → has_form (part o >>= λ m. id_named m.0 m.1) ≡ true
    at None h = absurd cc
    at (Some m) h = named_read m.0 m.1 x h

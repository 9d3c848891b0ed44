-- Parts of a target of which some are seen.
use Rattle.std.proofs.Common.{◌≡◌, ℕ, ◌+◌, ◌<◌, Bool, true, false, List, [], ◌∷◌, ◌++◌, length, get_or, refl, sym, ap, ◌∙◌, Some, None}
use Rattle.std.specs.Prelude.{find, if◌then◌else◌, unwrap_or}
use Rattle.ent_walk.specs.declared.target.Targeted.{Targeted}
use Rattle.ent_walk.specs.declared.target.Targeted.TheVariants as is
use Rattle.ent_trace.specs.proofs_only.Noted.{Notes, noting}
use Rattle.ent_request.specs.Part.{Part}
use Rattle.ent_walk.specs.Target.{first_indeterminate, is_indeterminate, is_match, is_no_match}
use Rattle.ent_walk.specs.proofs_only.Target.{unless_indeterminate}
use Rattle.ent_walk.proofs.Going.{IsGoing, goes_on, values_to, values_to-next}

-- none of the first i parts stops, and `so_far` is the first of them that is Indeterminate
pub record IsSoFar {X : Type 0} (stop : Targeted → Bool) (otherwise : Targeted) (part : X → Part Targeted) (xs : List X) (i : ℕ) (so_far : Targeted) (start now : Notes) : Type 0 where
  pub going : IsGoing stop part xs i start now
  pub first : so_far ≡ first_indeterminate (values_to part xs i) otherwise

-- what neither is Indeterminate nor stops
abbrev pub IsOther : (Targeted → Bool) → Targeted → Type 0
IsOther stop otherwise = (t : Targeted) → stop t ≡ false → is_indeterminate t ≡ false → t ≡ otherwise

unless_found : (first t otherwise : Targeted) → is_indeterminate first ≡ true → unless_indeterminate first t ≡ first
unless_found is.Match t otherwise h = absurd (cc)
unless_found is.NoMatch t otherwise h = absurd (cc)
unless_found (is.Indeterminate status) t otherwise h = refl

unless_other : (otherwise t : Targeted) → is_indeterminate otherwise ≡ false → unless_indeterminate otherwise t ≡ t
unless_other is.Match t h = refl
unless_other is.NoMatch t h = refl
unless_other (is.Indeterminate status) t h = absurd (cc)

one_first : (b : Bool) (stop : Targeted → Bool) (otherwise t : Targeted) → IsOther stop otherwise → stop t ≡ false → is_indeterminate t ≡ b → unwrap_or (if b then Some t else None) otherwise ≡ t
one_first true stop otherwise t other not is = refl
one_first false stop otherwise t other not is = sym (other t not is)

first-more : (stop : Targeted → Bool) (otherwise : Targeted) → IsOther stop otherwise → is_indeterminate otherwise ≡ false → (ts : List Targeted) (t : Targeted) → stop t ≡ false
    → first_indeterminate (ts ++ t ∷ []) otherwise ≡ unless_indeterminate (first_indeterminate ts otherwise) t
first-more stop otherwise other plain [] t not = one_first (is_indeterminate t) stop otherwise t other not refl ∙ sym (unless_other otherwise t plain)
first-more stop otherwise other plain (s ∷ ts) t not = more_at (is_indeterminate s) s ts t refl (first-more stop otherwise other plain ts t not) where
  more_at : (b : Bool) (s : Targeted) (ts : List Targeted) (t : Targeted) → is_indeterminate s ≡ b → first_indeterminate (ts ++ t ∷ []) otherwise ≡ unless_indeterminate (first_indeterminate ts otherwise) t
      → unwrap_or (if b then Some s else find is_indeterminate (ts ++ t ∷ [])) otherwise ≡ unless_indeterminate (unwrap_or (if b then Some s else find is_indeterminate ts) otherwise) t
  more_at true s ts t is later = sym (unless_found s t otherwise is)
  more_at false s ts t is later = later

module _ {X : Type 0} (stop : Targeted → Bool) (otherwise : Targeted) (part : X → Part Targeted) (xs : List X) where
  pub next_so_far : IsOther stop otherwise → is_indeterminate otherwise ≡ false → (i : ℕ) (x : X) (so_far t next : Targeted) (start now later : Notes) → i < length xs → x ≡ get_or xs i x
      → IsSoFar stop otherwise part xs i so_far start now → t ≡ (part x).value → later ≡ noting now (part x).notes → stop t ≡ false → next ≡ unless_indeterminate so_far t
      → IsSoFar stop otherwise part xs (i + 1) next start later
  next_so_far other plain i x so_far t next start now later h at was t-is later-is not next-is =
      let not_here : stop (part x).value ≡ false = ap stop (sym t-is) ∙ not in
      record {
        going = goes_on stop part xs i x start now later h at was.going not_here later-is;
        first = next-is ∙ rw (was.first, t-is) (sym (ap (λ ts. first_indeterminate ts otherwise) (values_to-next part xs i x h at) ∙ first-more stop otherwise other plain (values_to part xs i) (part x).value not_here));
      }

-- the same where a part is what the list inside it comes to
pub next_inner : {X Y : Type 0} (stop : Targeted → Bool) (otherwise : Targeted) (inner : List Y → Part Targeted) (list : X → List Y) (xs : List X) → IsOther stop otherwise → is_indeterminate otherwise ≡ false
    → (i : ℕ) (x : X) (ys : List Y) (so_far t next : Targeted) (start now later : Notes) → i < length xs → x ≡ get_or xs i x → IsSoFar stop otherwise (λ x. inner (list x)) xs i so_far start now
    → ys ≡ list x → t ≡ (inner ys).value → later ≡ noting now (inner ys).notes → stop t ≡ false → next ≡ unless_indeterminate so_far t → IsSoFar stop otherwise (λ x. inner (list x)) xs (i + 1) next start later
next_inner stop otherwise inner list xs other plain i x ys so_far t next start now later h at was ys-is t-is later-is not next-is =
    next_so_far stop otherwise (λ x. inner (list x)) xs other plain i x so_far t next start now later h at was (t-is ∙ ap (λ zs. (inner zs).value) ys-is) (later-is ∙ ap (λ zs. noting now (inner zs).notes) ys-is) not next-is

pub other_than_no_match : IsOther is_no_match is.Match
other_than_no_match is.Match not plain = refl
other_than_no_match is.NoMatch not plain = absurd (cc)
other_than_no_match (is.Indeterminate status) not plain = absurd (cc)

pub other_than_match : IsOther is_match is.NoMatch
other_than_match is.Match not plain = absurd (cc)
other_than_match is.NoMatch not plain = refl
other_than_match (is.Indeterminate status) not plain = absurd (cc)

pub isn't_no_match : (t : Targeted) → (t ≡ is.NoMatch → ⊥) → is_no_match t ≡ false
isn't_no_match is.Match not = refl
isn't_no_match is.NoMatch not = absurd (not refl)
isn't_no_match (is.Indeterminate status) not = refl

pub isn't_match : (t : Targeted) → (t ≡ is.Match → ⊥) → is_match t ≡ false
isn't_match is.Match not = absurd (not refl)
isn't_match is.NoMatch not = refl
isn't_match (is.Indeterminate status) not = refl

-- What a pattern accepts.
use Rattle.std.proofs.Common.{◌≡◌, ◌==◌, [], ◌∷◌, ◌++◌, map, refl}
use Rattle.std.proofs.lemmas.Bool.{and_parts}
use Rattle.std.proofs.lemmas.Bool.Decides.{Decides-eqb}
use Rattle.ent_policy.specs.Patterns.{matches, AnyAcceptsOneNumber, MoreAcceptsWhatGoesOn, NumbersAcceptThemselves}
use Rattle.ent_policy.specs.declared.pattern.PatternPart.TheVariants.{More, Number}

pub numbers_accept_themselves : NumbersAcceptThemselves
numbers_accept_themselves [] [] = (λ h. refl, λ h. refl)
numbers_accept_themselves [] (n ∷ version) = (λ h. absurd cc, λ h. absurd cc)
numbers_accept_themselves (m ∷ numbers) [] = (λ h. absurd cc, λ h. absurd cc)
numbers_accept_themselves (m ∷ numbers) (n ∷ version) = (
  λ h.
      let p = and_parts (m == n) (matches (map Number numbers) version) h in
      let first : m ≡ n = (Decides-eqb m n).0 p.0 in
      let others : version ≡ numbers = (numbers_accept_themselves numbers version).0 p.1 in
      cc,
  λ h.
      let first : m ≡ n = cc in
      let others : version ≡ numbers = cc in
      rw ((Decides-eqb m n).1 first, (numbers_accept_themselves numbers version).1 others) refl,
)

pub any_accepts_one_number : AnyAcceptsOneNumber
any_accepts_one_number [] after rest n = refl
any_accepts_one_number (m ∷ before) after rest n =
    rw ((Decides-eqb m m).1 refl) (any_accepts_one_number before after rest n)

pub more_accepts_what_goes_on : MoreAcceptsWhatGoesOn
more_accepts_what_goes_on [] [] = (λ h. absurd cc, λ (n, after, h). absurd cc)
more_accepts_what_goes_on [] (n ∷ version) = (λ h. (n, version, refl), λ h. refl)
more_accepts_what_goes_on (m ∷ before) [] = (λ h. absurd cc, λ (n, after, h). absurd cc)
more_accepts_what_goes_on (m ∷ before) (n ∷ version) = (
  λ h.
      let p = and_parts (m == n) (matches (map Number before ++ More ∷ []) version) h in
      let first : m ≡ n = (Decides-eqb m n).0 p.0 in
      let others = (more_accepts_what_goes_on before version).0 p.1 in
      (others.0, others.1, cc (others.2)),
  λ (k, after, h).
      let first : m ≡ n = cc in
      let others : version ≡ before ++ k ∷ after = cc in
      rw ((Decides-eqb m n).1 first, (more_accepts_what_goes_on before version).1 (k, after, others)) refl,
)

-- A thread gains what it doesn't know yet, opener by opener.
use Rattle.std.proofs.Common.{◌≡◌, ◌≢◌, ◌⊎◌, inl, inr, ⊎_elim, ℕ, ◌+◌, ◌<◌, ◌≤◌, List, length, Option, Some, None, refl, sym, ap, ◌∙◌, arith}
use Rattle.std.specs.Prelude.{◌==◌, Bool, true, false, is_some, if◌then◌else◌}
use Rattle.std.proofs.lemmas.Bool.{cases_eq, cases_lt, both_ways, cond-true, cond-false, eq-eqb, ne_eqb}
use Rattle.std.proofs.lemmas.Option.{slice_get_past}
use Rattle.aero_leads.specs.Kept.{is_below}
use Rattle.aero_leads.specs.Seen.{seen_at, seen_or_not}
use Rattle.aero_leads.specs.Steps.{gains}
use Rattle.aero_leads.proofs.Leasts.{gains_none}

pub below_is_some : (r : Option ℕ) (n : ℕ) → is_below r n ≡ true → is_some r ≡ true
below_is_some None n h = h
below_is_some (Some p) n h = refl

gains_keeps : (r : Option ℕ) (c : Bool) (n : ℕ) → is_some r ≡ true → is_some (gains r c n) ≡ true
gains_keeps None c n h = let z : false ≡ true = h in cc
gains_keeps (Some p) c n h = refl

-- what is there gains nothing
gains_had : (r : Option ℕ) (c : Bool) (n : ℕ) → (c ≡ true → is_some r ≡ true) → r ≡ gains r c n
gains_had (Some p) c n h = refl
gains_had None false n h = refl
gains_had None true n h = let z : false ≡ true = h refl in cc

-- From the openers before `at` on to those before `next`. A row and what is known of it: at first, before, and after.
module _ (first before after : ℕ → Option ℕ) (known_first known_before known_after theirs taken : ℕ → Bool) (at next n : ℕ)
    (gained : (w : ℕ) → w < at → before w ≡ gains (first w) (taken w) n)
    (rest : (w : ℕ) → at ≤ w → before w ≡ first w)
    (known : (w : ℕ) → at ≤ w → known_before w ≡ known_first w)
    (gain : (w : ℕ) → after w ≡ gains (before w) (if at == w then taken w else false) n)
    (others : (w : ℕ) → w ≢ at → known_after w ≡ known_before w)
    (later : at + 1 ≤ next) where
  other : (w : ℕ) → w ≢ at → after w ≡ before w
  other w ne = gain w ∙ ap (λ c. gains (before w) c n) (cond-false (at == w) _ _ (ne_eqb at w (λ e. ne (sym e)))) ∙ gains_none (before w) n

  pub gained_next : ((w : ℕ) → at + 1 ≤ w → w < next → theirs w ≡ true → known_after w ≡ true) → ((w : ℕ) → taken w ≡ true → theirs w ≡ true) → ((w : ℕ) → known_first w ≡ true → is_some (first w) ≡ true)
      → (w : ℕ) → w < next → after w ≡ gains (first w) (taken w) n
  gained_next passed led so w less = go (cases_lt w at) (cases_eq w at)
    where
      go : (w < at) ⊎ (at ≤ w) → (w ≡ at) ⊎ (w ≢ at) → after w ≡ gains (first w) (taken w) n
      go (inl h) _ = other w (λ e. omega (arith, e, h)) ∙ gained w h
      go (inr h) (inl e) = gain w ∙ ap (λ c. gains (before w) c n) (cond-true (at == w) _ _ (eq-eqb at w (sym e))) ∙ ap (λ r. gains r (taken w) n) (rest w h)
      go (inr h) (inr ne) =
          other w ne ∙ rest w h
          ∙ gains_had (first w) (taken w) n (λ k. so w (sym (others w ne ∙ known w h) ∙ passed w (omega (arith, h, ne)) less (led w k)))

  pub rest_next : (w : ℕ) → next ≤ w → after w ≡ first w
  rest_next w h = other w (λ e. omega (arith, e, h, later)) ∙ rest w (omega (arith, h, later))

  pub known_next : (w : ℕ) → next ≤ w → known_after w ≡ known_first w
  known_next w h = others w (λ e. omega (arith, e, h, later)) ∙ known w (omega (arith, h, later))

  pub so_next : ((w : ℕ) → known_before w ≡ true → is_some (before w) ≡ true) → (known_after at ≡ true → is_some (after at) ≡ true) → (w : ℕ) → known_after w ≡ true → is_some (after w) ≡ true
  so_next so here w h = ⊎_elim (λ e. ap (λ u. is_some (after u)) e ∙ here (sym (ap known_after e) ∙ h)) (λ ne. ap is_some (other w ne) ∙ so w (sym (others w ne) ∙ h)) (cases_eq w at)

  pub whole_next : ((w : ℕ) → is_some (before w) ≡ true → known_before w ≡ true) → (is_some (after at) ≡ true → known_after at ≡ true) → (w : ℕ) → is_some (after w) ≡ true → known_after w ≡ true
  whole_next whole here w h = ⊎_elim (λ e. ap known_after e ∙ here (sym (ap (λ u. is_some (after u)) e) ∙ h)) (λ ne. others w ne ∙ whole w (sym (ap is_some (other w ne)) ∙ h)) (cases_eq w at)

-- behind all openers nothing is taken
pub gained_all : (first now : ℕ → Option ℕ) (theirs : List Bool) (taken : ℕ → Bool) (at n : ℕ) → length theirs ≤ at
    → ((w : ℕ) → w < at → now w ≡ gains (first w) (taken w) n)
    → ((w : ℕ) → at ≤ w → now w ≡ first w)
    → ((w : ℕ) → taken w ≡ true → seen_at theirs w ≡ true)
    → (w : ℕ) → now w ≡ gains (first w) (taken w) n
gained_all first now theirs taken at n all gained rest led w = go (cases_lt w at)
  where
    none : at ≤ w → taken w ≡ true → is_some (first w) ≡ true
    none h k = absurd (both_ways (seen_at theirs w) (ap seen_or_not (slice_get_past theirs w (omega (arith, all, h)))) (led w k))

    go : (w < at) ⊎ (at ≤ w) → now w ≡ gains (first w) (taken w) n
    go (inl h) = gained w h
    go (inr h) = rest w h ∙ gains_had (first w) (taken w) n (none h)

-- The least place of a row, as it is gone through.
use Rattle.std.proofs.Common.{◌≡◌, ℕ, ◌+◌, ◌≤◌, min, Bool, true, false, take, List, Option, Some, None, inl, inr, refl, sym, ap, ◌∙◌, arith}
use Rattle.std.specs.Prelude.{◌==◌, if◌then◌else◌, slice_get}
use Rattle.std.proofs.lemmas.Bool.{cases_lt, cond-true, cond-false, eq-eqb}
use Rattle.std.proofs.lemmas.Option.{same_Some}
use Rattle.aero_leads.specs.declared.row.Lead.{Lead}
use Rattle.aero_leads.specs.Kept.{least_in}
use Rattle.aero_leads.specs.Leasts.{IsLeastOf}
use Rattle.aero_leads.specs.Steps.{lesser}
use Rattle.aero_leads.proofs.Leasts.{least_next}

module _ (old new : ℕ → Option ℕ) (opener place : ℕ) (step : (w : ℕ) → new w ≡ (if opener == w then lesser (old w) (Some place) else old w)) where
  -- what the row has for a thread is what it had, or this, or the lesser of both
  new_at : (w q n : ℕ) → new w ≡ Some q → n ≤ place → ((r : ℕ) → old w ≡ Some r → n ≤ r) → n ≤ q
  new_at w q n at here there = go (opener == w) refl (old w) refl
    where
      go : (b : Bool) → (opener == w) ≡ b → (r : Option ℕ) → old w ≡ r → n ≤ q
      go true e None was =
          let same = same_Some place q (sym (step w ∙ cond-true (opener == w) _ _ e ∙ ap (λ o. lesser o (Some place)) was) ∙ at) in omega arith
      go true e (Some r) was =
          let same = same_Some (min r place) q (sym (step w ∙ cond-true (opener == w) _ _ e ∙ ap (λ o. lesser o (Some place)) was) ∙ at) in omega (arith, same, there r was)
      go false e None was = absurd (let none : None ≡ Some q = sym (step w ∙ cond-false (opener == w) _ _ e ∙ was) ∙ at in cc)
      go false e (Some r) was =
          let same = same_Some r q (sym (step w ∙ cond-false (opener == w) _ _ e ∙ was) ∙ at) in omega (arith, same, there r was)

  -- it is there
  placed : (least : ℕ) → ((r : ℕ) → old opener ≡ Some r → place ≤ r) → least ≡ place → (w : ℕ) × (new w ≡ Some least)
  placed least le same = (opener, step opener ∙ cond-true (opener == opener) _ _ (eq-eqb opener opener refl) ∙ go (old opener) refl)
    where
      go : (r : Option ℕ) → old opener ≡ r → lesser r (Some place) ≡ Some least
      go None was = ap Some (sym same)
      go (Some r) was = ap Some (let less = le r was in omega (arith, less, same))

  stays : (w p : ℕ) → old w ≡ Some p → p ≤ place → new w ≡ Some p
  stays w p was le = step w ∙ go (opener == w)
    where
      go : (b : Bool) → (if b then lesser (old w) (Some place) else old w) ≡ Some p
      go true = ap (λ o. lesser o (Some place)) was ∙ ap Some (omega (arith, le))
      go false = was

  least_with : (least : Option ℕ) (now : ℕ) → Some now ≡ lesser least (Some place) → IsLeastOf old least → IsLeastOf new (Some now)
  least_with None now is none =
      let same = same_Some now place is in
      (placed now (λ r was. absurd (let e : None ≡ Some r = sym (none opener) ∙ was in cc)) same, λ w q at. new_at w q now at (omega arith) (λ r was. absurd (let e : None ≡ Some r = sym (none w) ∙ was in cc)))
  least_with (Some p) now is ((w, there), le) =
      let same = same_Some now (min p place) is in (
        elim (cases_lt place p) [
          | inl less ↦ placed now (λ r was. omega (arith, le opener r was)) (omega arith)
          | inr more ↦ (w, stays w p there more ∙ ap Some (omega arith))
        ],
        λ v q at. new_at v q now at (omega arith) (λ r was. omega (arith, le v r was, same)),
      )

pub least_of_next : (ls : List Lead) (i : ℕ) (l : Lead) (least : Option ℕ) (now : ℕ) → slice_get ls i ≡ Some l → Some now ≡ lesser least (Some l.place) → IsLeastOf (least_in (take i ls)) least → IsLeastOf (least_in (take (i + 1) ls)) (Some now)
least_of_next ls i l least now at is so_far =
    least_with (least_in (take i ls)) (least_in (take (i + 1) ls)) l.opener l.place (λ w. least_next ls i l w at) least now is so_far

-- A clock's pairs are determined by its numbers.
use Rattle.std.proofs.Common.{◌≡◌, ◌≢◌, ⊎_elim, ℕ, zero, suc, ◌<◌, List, [], ◌∷◌, Some, refl, sym, ap, ap₂, ◌∙◌, arith}
use Rattle.std.specs.Prelude.{slice_get}
use Rattle.std.proofs.lemmas.Bool.{cases_eq, cases_lt}
use Rattle.std.proofs.lemmas.Option.{same_Some}
use Rattle.aero_clock.specs.declared.clock.Clock.{Clock}
use Rattle.aero_clock.specs.Pairs.{number_in, IsRising, HasNoZero}
use Rattle.aero_clock.specs.Numbers.{number_at, Lists}
use Rattle.aero_clock.proofs.Lists.{rising_tail, number_first, number_later, number_none, number_some, number_found}

-- no pair is for a lesser thread than the first
from_first : (p : ℕ × ℕ) (ps : List (ℕ × ℕ)) (t : ℕ) → IsRising (p ∷ ps) → t < p.0 → number_in (p ∷ ps) t ≡ 0
from_first p ps t rising less = number_none (p ∷ ps) t other
  where
    other : (i : ℕ) (r : ℕ × ℕ) → slice_get (p ∷ ps) i ≡ Some r → r.0 ≢ t
    other zero r at e = let f : p.0 ≡ r.0 = ap (λ (a : ℕ × ℕ). a.0) (same_Some p r at) in omega (arith, less, e, f)
    other (suc i) r at e = let f : p.0 < r.0 = rising 0 (suc i) p r (omega arith) refl at in omega (arith, less, e, f)

-- nor for the first's behind it
behind_first : (p : ℕ × ℕ) (ps : List (ℕ × ℕ)) (t : ℕ) → IsRising (p ∷ ps) → p.0 ≡ t → number_in ps t ≡ 0
behind_first p ps t rising same = number_none ps t (λ i r at e. let f : p.0 < r.0 = rising 0 (suc i) p r (omega arith) refl at in omega (arith, same, e, f))

pub same_pairs : (ps qs : List (ℕ × ℕ)) → IsRising ps → HasNoZero ps → IsRising qs → HasNoZero qs → ((t : ℕ) → number_in ps t ≡ number_in qs t) → ps ≡ qs
same_pairs [] [] rp np rq nq same = refl
same_pairs [] (q ∷ qs) rp np rq nq same = absurd (omega (arith, same q.0, number_first q qs q.0 refl, nq 0 q refl))
same_pairs (p ∷ ps) [] rp np rq nq same = absurd (omega (arith, same p.0, number_first p ps p.0 refl, np 0 p refl))
same_pairs (p ∷ ps) (q ∷ qs) rp np rq nq same =
    ap₂ (λ (a : ℕ × ℕ) (rs : List (ℕ × ℕ)). a ∷ rs) (ap₂ (λ (a b : ℕ). (a, b)) first number)
    (same_pairs ps qs (rising_tail p ps rp) (λ i r at. np (suc i) r at) (rising_tail q qs rq) (λ i r at. nq (suc i) r at) rest)
  where
    first : p.0 ≡ q.0
    first = ⊎_elim
        (λ (l : p.0 < q.0). absurd (omega (arith, same p.0, number_first p ps p.0 refl, np 0 p refl, from_first q qs p.0 rq l)))
        (λ ge. ⊎_elim
        (λ (l : q.0 < p.0). absurd (omega (arith, same q.0, number_first q qs q.0 refl, nq 0 q refl, from_first p ps q.0 rp l)))
        (λ le. omega (arith, ge, le))
        (cases_lt q.0 p.0))
        (cases_lt p.0 q.0)

    number : p.1 ≡ q.1
    number = sym (number_first p ps p.0 refl) ∙ same p.0 ∙ number_first q qs p.0 (sym first)

    rest : (t : ℕ) → number_in ps t ≡ number_in qs t
    rest t = ⊎_elim
        (λ (e : p.0 ≡ t). behind_first p ps t rp e ∙ sym (behind_first q qs t rq (sym first ∙ e)))
        (λ ne. sym (number_later p ps t ne) ∙ same t ∙ number_later q qs t (λ e. ne (first ∙ e)))
        (cases_eq p.0 t)

-- the pairs that a clock lends are those that it keeps
pub lent : (ps : List (ℕ × ℕ)) (clock : Clock) → Lists ps clock → ps ≡ clock.pairs.items
lent ps clock lists = same_pairs ps clock.pairs.items lists.rising (λ i p at. (lists.numbers i p at).0) clock.rising clock.nonzero number
  where
    number : (t : ℕ) → number_in ps t ≡ number_at clock t
    number t = ⊎_elim
        (λ (some : 0 < number_at clock t). let r = lists.all t some in number_some ps r.0 (t, number_at clock t) lists.rising r.1)
        (λ none. ⊎_elim
        (λ (some : 0 < number_in ps t). let r = number_found ps t some in let l : number_in ps t ≡ number_at clock t = (lists.numbers r.0 (t, number_in ps t) r.1).1 in l)
        (λ zero. omega (arith, none, zero))
        (cases_lt 0 (number_in ps t)))
        (cases_lt 0 (number_at clock t))

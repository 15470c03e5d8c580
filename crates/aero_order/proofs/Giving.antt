-- What is waited for no longer, a target at a time.
use Rattle.std.proofs.Common.{◌≡◌, ◌≢◌, ℕ, ◌+◌, ◌-◌, ◌<◌, ◌≤◌, ◌==◌, ◌&&◌, Bool, cond, List, [], length, take, get_or, inl, inr, refl, sym, ap, arith}
use Rattle.std.specs.Prelude.{count_by, Contains}
use Rattle.std.proofs.lemmas.Bool.{cases_Bool, eq-eqb}
use Rattle.std.proofs.lemmas.List.Sums.{count_by_more_no, count_by_more_yes, sum_by-take-le}
use Rattle.aero_order.specs.Waiting.{one_if, times, Waits, numbers_of}
use Rattle.aero_order.proofs.Progress.{waits_less}

pub count_more : {X : Type 0} (p : X → Bool) (xs : List X) (i : ℕ) (d : X) → i < length xs → count_by p (take (i + 1) xs) ≡ count_by p (take i xs) + one_if (p (get_or xs i d))
count_more p xs i d l = elim (cases_Bool (p (get_or xs i d))) [
  | inl t ↦ (let one : one_if (p (get_or xs i d)) ≡ 1 = ap one_if t in omega (arith, count_by_more_yes p xs i d l t))
  | inr f ↦ (let none : one_if (p (get_or xs i d)) ≡ 0 = ap one_if f in omega (arith, count_by_more_no p xs i d l f))
]

pub count_front : {X : Type 0} (p : X → Bool) (xs : List X) (i : ℕ) → count_by p (take i xs) ≤ count_by p xs
count_front p xs i = sum_by-take-le (λ x. cond {A = ℕ} (p x) 1 0) xs i

-- the edges to the front of the targets are due no longer
abbrev pub Gives : List ℕ → List ℕ → List ℕ → (ℕ → ℕ) → List ℕ → (ℕ → ℕ) → Type 0
Gives targets front waiting held fewer more =
    (order : List ℕ) (due : ℕ → ℕ)
    → Waits (length waiting) order due (numbers_of waiting) held
    → ((v : ℕ) → times v targets ≤ due v)
    → ((v : ℕ) → 0 < times v targets → ¬ Contains order v)
    → Waits (length waiting) order (λ v. due v - times v front) (numbers_of fewer) more

-- one target more
pub gives_more : (targets : List ℕ) (i t : ℕ) (waiting : List ℕ) (held : ℕ → ℕ) (fewer : List ℕ) (more : ℕ → ℕ) (fewest : List ℕ) (most : ℕ → ℕ) → i < length targets → t ≡ get_or targets i t → t < length waiting → ((w : ℕ) → w ≢ t → get_or fewest w 0 ≡ get_or fewer w 0) → (0 < get_or fewer t 0 → get_or fewest t 0 + 1 ≡ get_or fewer t 0) → ((w : ℕ) → most w ≡ one_if ((get_or fewest t 0 == 0) && (t == w)) + more w) → Gives targets (take i targets) waiting held fewer more → Gives targets (take (i + 1) targets) waiting held fewest most
gives_more targets i t waiting held fewer more fewest most l is within others less holds g order due w enough new =
    waits_less (length waiting) [] order t (λ v. due v - times v (take i targets)) (λ v. due v - times v (take (i + 1) targets)) (numbers_of fewer) (numbers_of fewest) more most before within absent some step others (less (omega (arith, some, before.counts t within))) holds
  where
    before : Waits (length waiting) order (λ v. due v - times v (take i targets)) (numbers_of fewer) more
    before = g order due w enough new

    split : (v : ℕ) → times v (take (i + 1) targets) ≡ times v (take i targets) + one_if (t == v)
    split v =
        let here : one_if (get_or targets i t == v) ≡ one_if (t == v) = ap (λ u. one_if (u == v)) (sym is) in
        omega (arith, count_more (λ u. u == v) targets i t l)

    at_t : times t (take (i + 1) targets) ≡ times t (take i targets) + 1
    at_t = let one : one_if (t == t) ≡ 1 = ap one_if (eq-eqb t t refl) in omega (arith, split t)

    some : 0 < due t - times t (take i targets)
    some = omega (arith, at_t, count_front (λ u. u == t) targets (i + 1), enough t)

    absent : ¬ Contains order t
    absent = new t (omega (arith, at_t, count_front (λ u. u == t) targets (i + 1)))

    step : (v : ℕ) → due v - times v (take i targets) ≡ one_if (t == v) + (due v - times v (take (i + 1) targets))
    step v = omega (arith, split v, count_front (λ u. u == v) targets (i + 1), enough v)

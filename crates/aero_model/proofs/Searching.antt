-- The least number that has a property, where the property can be decided.
use Rattle.std.proofs.Common.{◌⊎◌, ℕ, zero, suc, ◌<◌, inl, inr, subst, arith}
use Rattle.std.proofs.lemmas.Bool.{cases_eq}

-- the property holds, or it doesn't
abbrev pub Decided : Type 0 → Type 0
Decided P = P ⊎ ¬ P

module _ (P : ℕ → Type 0) where
  -- the least number below n that has the property
  pub record Least (n : ℕ) : Type 0 where
    pub number : ℕ
    pub below : number < n
    pub has : P number
    pub least : (m : ℕ) → m < number → ¬ P m

  abbrev pub NoneBelow : ℕ → Type 0
  NoneBelow n = (m : ℕ) → m < n → ¬ P m

  pub search_below : (n : ℕ) → ((m : ℕ) → m < n → Decided (P m)) → Least n ⊎ NoneBelow n
  search_below zero d = inr (λ m l h. omega arith)
  search_below (suc n) d = go (search_below n (λ m l. d m (omega arith))) (d n (omega arith))
    where
      go : Least n ⊎ NoneBelow n → Decided (P n) → Least (suc n) ⊎ NoneBelow (suc n)
      go (inl f) here = let l = f.below in inl record { number = f.number; below = omega arith; has = f.has; least = f.least }
      go (inr none) (inl h) = inl record { number = n; below = omega arith; has = h; least = none }
      go (inr none) (inr not_here) = inr (λ m l h. elim (cases_eq m n) [ inl e ↦ not_here (subst P e h) | inr d ↦ none m (omega arith) h ])

pub decided_both : (P Q : Type 0) → Decided P → Decided Q → Decided (P × Q)
decided_both P Q (inl p) (inl q) = inl (p, q)
decided_both P Q (inr p) _ = inr (λ h. p h.0)
decided_both P Q (inl p) (inr q) = inr (λ h. q h.1)

pub decided_not : (P : Type 0) → Decided P → Decided (¬ P)
decided_not P (inl p) = inr (λ h. h p)
decided_not P (inr p) = inl p

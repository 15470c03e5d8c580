-- The numbers that are free at first.
use Rattle.std.proofs.Common.{◌≡◌, ℕ, ◌+◌, ◌==◌, ◌&&◌, true, [], inl, inr, refl, sym, ◌∙◌, ap, subst, arith}
use Rattle.std.proofs.lemmas.Bool.{cases_eq, cases_lt, lt-ltb, le-ltb, eq-eqb, ne_eqb}
use Rattle.aero_order.specs.Waiting.{one_if, is_due}

pub due_none : (w n : ℕ) → one_if (is_due 0 [] w n) ≡ 0
due_none w n = ap (λ b. one_if (b && (true && (n == 0)))) (le-ltb w 0 (omega arith))

module _ (v : ℕ) (waits held more : ℕ → ℕ) (before : (w : ℕ) → held w ≡ one_if (is_due v [] w (waits w))) where
  -- the test of a number other than v
  elsewhere : (w : ℕ) → (v ≡ w → ⊥) → one_if (is_due (v + 1) [] w (waits w)) ≡ one_if (is_due v [] w (waits w))
  elsewhere w d = ap (λ b. one_if (b && (true && (waits w == 0)))) (elim (cases_lt w v) [
    | inl l ↦ lt-ltb w (v + 1) (omega arith) ∙ sym (lt-ltb w v l)
    | inr le ↦ le-ltb w (v + 1) (omega arith) ∙ sym (le-ltb w v le)
  ])

  old_at : one_if (is_due v [] v (waits v)) ≡ 0
  old_at = ap (λ b. one_if (b && (true && (waits v == 0)))) (le-ltb v v (omega arith))

  pub due_more : waits v ≡ 0 → ((w : ℕ) → more w ≡ one_if (v == w) + held w) → (w : ℕ) → more w ≡ one_if (is_due (v + 1) [] w (waits w))
  due_more z pushed w = elim (cases_eq v w) [
    | inl e ↦ subst (λ u. more u ≡ one_if (is_due (v + 1) [] u (waits u))) e here
    | inr d ↦ (let none : one_if (v == w) ≡ 0 = ap one_if (ne_eqb v w d) in omega (arith, pushed w, before w, elsewhere w d))
  ]
    where
      here : more v ≡ one_if (is_due (v + 1) [] v (waits v))
      here =
          let now : one_if (is_due (v + 1) [] v (waits v)) ≡ 1 =
          ap (λ b. one_if (b && (true && (waits v == 0)))) (lt-ltb v (v + 1) (omega arith)) ∙ ap (λ b. one_if (true && (true && b))) (eq-eqb (waits v) 0 z) in
          let one : one_if (v == v) ≡ 1 = ap one_if (eq-eqb v v refl) in
          omega (arith, pushed v, before v, old_at)

  pub due_same : (waits v ≡ 0 → ⊥) → (w : ℕ) → held w ≡ one_if (is_due (v + 1) [] w (waits w))
  due_same some w = elim (cases_eq v w) [
    | inl e ↦ subst (λ u. held u ≡ one_if (is_due (v + 1) [] u (waits u))) e here
    | inr d ↦ before w ∙ sym (elsewhere w d)
  ]
    where
      here : held v ≡ one_if (is_due (v + 1) [] v (waits v))
      here =
          let now : one_if (is_due (v + 1) [] v (waits v)) ≡ 0 =
          ap (λ b. one_if (b && (true && (waits v == 0)))) (lt-ltb v (v + 1) (omega arith)) ∙ ap (λ b. one_if (true && (true && b))) (ne_eqb (waits v) 0 some) in
          omega (arith, before v, old_at)

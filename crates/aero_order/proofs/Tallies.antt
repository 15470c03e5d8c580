-- Counts by a number, an item at a time: how many edges lead to each number or from it, and their sums.
use Rattle.std.proofs.Common.{◌≡◌, ℕ, ◌+◌, ◌<◌, ◌≤◌, ◌==◌, ◌&&◌, Bool, true, false, List, [], length, take, get_or, set, inl, inr, sym, ◌∙◌, ap, subst, arith}
use Rattle.std.specs.Prelude.{sum, count_by}
use Rattle.std.proofs.lemmas.Bool.{cases_eq, cases_lt, eq-eqb, ne_eqb}
use Rattle.std.proofs.lemmas.List.{get_or-set_same, get_or-set_other, length-take-le}
use Rattle.std.proofs.lemmas.List.Sums.{count_by-le-length, sum_by_more, sum_by_more_le}
use Rattle.aero_order.specs.Waiting.{Pair, one_if, is_missing}
use Rattle.aero_order.proofs.Giving.{count_more}

-- where the test for a number is whether an edge has it
pub record IsTally (key : Pair → ℕ) (test : ℕ → Pair → Bool) : Type 0 where
  pub hit : (v : ℕ) (e : Pair) → key e ≡ v → test v e ≡ true
  pub miss : (v : ℕ) (e : Pair) → (key e ≡ v → ⊥) → test v e ≡ false

pub tally_of_missing : IsTally (λ e. e.1) (is_missing [])
tally_of_missing = record { hit = λ v e q. ap (λ b. b && true) (eq-eqb e.1 v q); miss = λ v e d. ap (λ b. b && true) (ne_eqb e.1 v d) }

pub tally_of_from : IsTally (λ e. e.0) (λ u e. e.0 == u)
tally_of_from = record { hit = λ u e q. eq-eqb e.0 u q; miss = λ u e d. ne_eqb e.0 u d }

module _ (key : Pair → ℕ) (test : ℕ → Pair → Bool) (is : IsTally key test) (edges : List Pair) (i : ℕ) (l : i < length edges) where
  abbrev at : ℕ
  at = key (get_or edges i (0, 0))

  pub tally_below : (v : ℕ) → count_by (test v) (take i edges) ≤ i
  tally_below v = omega (arith, count_by-le-length (test v) (take i edges), length-take-le i edges)

  pub tally_more : (count : ℕ) (items : List ℕ) (now : ℕ) → length items ≡ count → at < count → now ≡ get_or items at 0 → ((v : ℕ) → v < count → get_or items v 0 ≡ count_by (test v) (take i edges)) → (v : ℕ) → v < count → get_or (set items at (now + 1)) v 0 ≡ count_by (test v) (take (i + 1) edges)
  tally_more count items now len within read before v m = elim (cases_eq at v) [
    | inl e ↦
        let one : one_if (test v (get_or edges i (0, 0))) ≡ 1 = ap one_if (is.hit v (get_or edges i (0, 0)) e) in
        let here : get_or (set items at (now + 1)) v 0 ≡ now + 1 = subst (λ u. get_or (set items at (now + 1)) u 0 ≡ now + 1) e (get_or-set_same items at (now + 1) 0 (omega arith)) in
        let old : now ≡ get_or items v 0 = read ∙ ap (λ u. get_or items u 0) e in
        omega (arith, before v m, count_more (test v) edges i (0, 0) l)
    | inr d ↦
        let none : one_if (test v (get_or edges i (0, 0))) ≡ 0 = ap one_if (is.miss v (get_or edges i (0, 0)) d) in
        omega (arith, before v m, count_more (test v) edges i (0, 0) l, get_or-set_other items at v (now + 1) 0 (λ q. d (sym q)))
  ]

-- sums of the fronts of a list
module _ (counts sums : List ℕ) (u total now : ℕ) (l : u < length counts) (same : length sums ≡ length counts) (so_far : total ≡ sum (take u counts)) (read : now ≡ get_or sums u 0) (left : (v : ℕ) → u ≤ v → get_or sums v 0 ≡ get_or counts v 0) where
  pub sum_fits : total + now ≤ sum counts
  sum_fits = omega (arith, so_far, read, left u (omega arith), sum_by_more_le (λ n. n) counts u 0 l)

  pub sum_next : total + now ≡ sum (take (u + 1) counts)
  sum_next = omega (arith, so_far, read, left u (omega arith), sum_by_more (λ n. n) counts u 0 l)

  below : (v : ℕ) → v < u + 1 → (u ≡ v → ⊥) → v < u
  below v m d = elim (cases_lt v u) [ inl k ↦ k | inr k ↦ absurd (d (omega (arith, m, k))) ]

  pub sums_done : ((v : ℕ) → v < u → get_or sums v 0 ≡ sum (take (v + 1) counts)) → (v : ℕ) → v < u + 1 → get_or (set sums u (total + now)) v 0 ≡ sum (take (v + 1) counts)
  sums_done done v m = elim (cases_eq u v) [
    | inl e ↦ subst (λ w. get_or (set sums u (total + now)) w 0 ≡ sum (take (w + 1) counts)) e (get_or-set_same sums u (total + now) 0 (omega (arith, l, same)) ∙ sum_next)
    | inr d ↦ get_or-set_other sums u v (total + now) 0 (λ q. d (sym q)) ∙ done v (below v m d)
  ]

  pub sums_left : (v : ℕ) → u + 1 ≤ v → get_or (set sums u (total + now)) v 0 ≡ get_or counts v 0
  sums_left v m = get_or-set_other sums u v (total + now) 0 (λ q. omega (arith, m, q)) ∙ left v (omega (arith, m))

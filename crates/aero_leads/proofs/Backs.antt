-- Which open block closes a cycle through one that ends.
use Rattle.std.proofs.Common.{◌≡◌, ◌⊎◌, inl, inr, ⊎_elim, ℕ, ◌+◌, ◌<◌, ◌≤◌, add-one, take, List, Option, Some, None, sym, ap, subst, ◌∙◌, arith}
use Rattle.std.specs.Prelude.{◌==◌, ◌&&◌, min, not, is_some, Bool, true, false, slice_get}
use Rattle.std.specs.List.{list_any}
use Rattle.std.proofs.lemmas.Bool.{cases_lt, both_ways, eqb-true, eq-eqb, ne_eqb, or_cases, and_from, and_parts, not_from_true, not_from_false}
use Rattle.aero_leads.specs.declared.led.Led.{Led}
use Rattle.aero_leads.specs.declared.thread.Thread.{Thread}
use Rattle.aero_leads.specs.Steps.{lesser}
use Rattle.aero_leads.specs.Kept.{rows_in, IsBack, IsLeastBack}
use Rattle.aero_leads.specs.Listed.{followers, is_listed, AreListed}
use Rattle.aero_leads.proofs.ThreadSteps.{any_take_next}

-- the least of these that passes a test, if one does
abbrev pub LeastPassing : (ℕ → Bool) → List ℕ → Option ℕ → Type 0
LeastPassing test us None = (u : ℕ) → list_any (λ x. x == u) us ≡ true → test u ≡ false
LeastPassing test us (Some v) = (test v ≡ true) × ((u : ℕ) → list_any (λ x. x == u) us ≡ true → test u ≡ true → v ≤ u)

module _ (test : ℕ → Bool) (us : List ℕ) (i u : ℕ) (at : slice_get us i ≡ Some u) where
  one_more : (v : ℕ) → list_any (λ x. x == v) (take (i + 1) us) ≡ true → (list_any (λ x. x == v) (take i us) ≡ true) ⊎ (u == v ≡ true)
  one_more v h = or_cases _ _ (sym (ap (λ j. list_any (λ x. x == v) (take j us)) (add-one i) ∙ any_take_next (λ x. x == v) us i u at) ∙ h)

  pub passing_still : (o : Option ℕ) → test u ≡ false → LeastPassing test (take i us) o → LeastPassing test (take (i + 1) us) o
  passing_still None fails h = λ v there. ⊎_elim (λ k. h v k) (λ e. ap test (sym (eqb-true u v e)) ∙ fails) (one_more v there)
  passing_still (Some m) fails (passes, least) = (
    passes,
    λ v there ok. ⊎_elim (λ k. least v k ok) (λ e. absurd (both_ways (test v) (ap test (sym (eqb-true u v e)) ∙ fails) ok)) (one_more v there),
  )

  pub passing_next : (o : Option ℕ) → test u ≡ true → LeastPassing test (take i us) o → LeastPassing test (take (i + 1) us) (lesser o (Some u))
  passing_next None passes h = (
    passes,
    λ v there ok. ⊎_elim (λ k. absurd (both_ways (test v) (h v k) ok)) (λ e. let same = eqb-true u v e in omega (arith, same)) (one_more v there),
  )
  passing_next (Some m) passes (was, least) = go (cases_lt u m)
    where
      either_way : (n : ℕ) → n ≤ m → n ≤ u → (v : ℕ) → list_any (λ x. x == v) (take (i + 1) us) ≡ true → test v ≡ true → n ≤ v
      either_way n a b v there ok = ⊎_elim (λ k. omega (arith, least v k ok, a)) (λ e. let same = eqb-true u v e in omega (arith, same, b)) (one_more v there)

      go : (u < m) ⊎ (m ≤ u) → LeastPassing test (take (i + 1) us) (Some (min m u))
      go (inl less) = subst (λ n. LeastPassing test (take (i + 1) us) (Some n)) (omega (arith, less)) (passes, either_way u (omega (arith, less)) (omega arith))
      go (inr le) = subst (λ n. LeastPassing test (take (i + 1) us) (Some n)) (omega (arith, le)) (was, either_way m (omega arith) le)

abbrev pub is_back : List Thread → ℕ → ℕ → Bool
is_back threads t u = not (u == t) && (is_some (rows_in threads t u) && is_some (rows_in threads u t))

-- and the least thread back, which is listed with the block that leads to it
module _ (threads : List Thread) (led : Led) (t : ℕ) (listed : AreListed threads led) where
  back_passes : (u : ℕ) → IsBack (rows_in threads) t u → is_back threads t u ≡ true
  back_passes u b = and_from _ _ (not_from_false (u == t) (ne_eqb u t b.other)) (and_from _ _ b.into b.back)

  back_listed : (u : ℕ) → IsBack (rows_in threads) t u → is_listed led t u ≡ true
  back_listed u b = listed u t (λ e. b.other (sym e)) b.back

  pub is_least_back : (o : Option ℕ) → LeastPassing (is_back threads t) (followers led t) o → IsLeastBack (rows_in threads) t o
  is_least_back None h = λ u b. both_ways _ (h u (back_listed u b)) (back_passes u b)
  is_least_back (Some v) (passes, least) =
      let p = and_parts (not (v == t)) _ passes in
      let q = and_parts (is_some (rows_in threads t v)) _ p.1 in (
        record { other = λ e. both_ways _ (not_from_true (v == t) (eq-eqb v t e)) p.0; into = q.0; back = q.1 },
        λ u b. least u (back_listed u b) (back_passes u b),
      )

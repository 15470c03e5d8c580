-- The order has every number exactly where it is as long as there are numbers.
use Rattle.std.proofs.Common.{◌≡◌, ◌≢◌, ◌⊎◌, ℕ, zero, suc, ◌<◌, ◌≤◌, List, [], ◌∷◌, ◌++◌, length, get_or, Some, inl, inr, sym, ◌∙◌, ap, subst, append_assoc, append-nil, arith}
use Rattle.std.specs.Prelude.{Contains}
use Rattle.std.proofs.lemmas.Bool.{cases_Bool, cases_eq, both_ways}
use Rattle.std.proofs.lemmas.List.{length_push}
use Rattle.std.proofs.lemmas.Option.{slice_get-get_or}
use Rattle.aero_model.specs.declared.numbered.Numbered.{Numbered}
use Rattle.aero_model.specs.Blocks.{transaction}
use Rattle.aero_model.specs.Serial.{Stands, IsComplete}
use Rattle.aero_model.specs.Shape.{IsWellFormed}
use Rattle.aero_model.proofs.Distinct.{few}
use Rattle.aero_model.proofs.Ready.{first_of_place}
use Rattle.aero_order.specs.TransactionNumbers.{AreFirsts, AreEdges}
use Rattle.aero_order.specs.Order.{GoesOnWith, IsOrder}
use Rattle.aero_order.specs.Waiting.{Pair, is_in}
use Rattle.aero_order.proofs.Counts.{in_from, from_in}
use Rattle.aero_order.proofs.Progress.{Follows, follows_nil, follows_next, once_push, below_push}
use Rattle.aero_order.proofs.ByNumbers.{places_of, number_at, stands_from, contains_from}

module _ (count : ℕ) (edges : List Pair) where
  follows_grown : (order more : List ℕ) → Follows count edges order → GoesOnWith count edges order more → Follows count edges (order ++ more)
  follows_grown order [] f g = subst (Follows count edges) (sym (append-nil order)) f
  follows_grown order (v ∷ more) f g = subst (Follows count edges) (append_assoc order (v ∷ []) more) (follows_grown (order ++ v ∷ []) more (follows_next count edges order v f g.0) g.1)

  pub follows_order : (order : List ℕ) → IsOrder count edges order → Follows count edges order
  follows_order order g = follows_grown [] order (follows_nil count edges) g

  -- as many as there are: each
  pub each_there : (order : List ℕ) → IsOrder count edges order → length order ≡ count → (v : ℕ) → v < count → Contains order v
  each_there order g long v l = elim (cases_Bool (is_in order v)) [
    | inl i ↦ from_in order v i
    | inr out ↦
        let f = follows_order order g in
        let new : ¬ Contains order v = λ c. both_ways (is_in order v) out (in_from order v c) in
        let most = few count (order ++ v ∷ []) (once_push order v new f.once) (below_push count order v l f.below) in
        absurd (omega (arith, most, length_push order v, long))
  ]

-- a list without w
without : ℕ → List ℕ → List ℕ
without w [] = []
without w (x ∷ xs) = elim (cases_eq x w) [ inl e ↦ without w xs | inr d ↦ x ∷ without w xs ]

without_le : (w : ℕ) (xs : List ℕ) → length (without w xs) ≤ length xs
unfolding without
without_le w [] = omega arith
without_le w (x ∷ xs) = go (cases_eq x w) (without_le w xs)
  where
    go : (c : (x ≡ w) ⊎ (x ≡ w → ⊥)) → length (without w xs) ≤ length xs → length (elim c as (λ _. List ℕ) [ inl e ↦ without w xs | inr d ↦ x ∷ without w xs ]) ≤ suc (length xs)
    go (inl e) rest = omega arith
    go (inr d) rest = omega arith

without_less : (w : ℕ) (xs : List ℕ) → Contains xs w → length (without w xs) < length xs
unfolding without
without_less w [] (k, l, e) = absurd (omega arith)
without_less w (x ∷ xs) c = go (cases_eq x w) (without_le w xs) (without_less w xs) c
  where
    go : (b : (x ≡ w) ⊎ (x ≡ w → ⊥)) → length (without w xs) ≤ length xs → (Contains xs w → length (without w xs) < length xs) → Contains (x ∷ xs) w → length (elim b as (λ _. List ℕ) [ inl e ↦ without w xs | inr d ↦ x ∷ without w xs ]) < suc (length xs)
    go (inl e) le rest c = omega arith
    go (inr d) le rest (zero, l, e) = absurd (d e)
    go (inr d) le rest (suc k, l, e) = omega (arith, rest (k, omega arith, e))

without_keeps : (w v : ℕ) (xs : List ℕ) → v ≢ w → Contains xs v → Contains (without w xs) v
unfolding without
without_keeps w v [] other (k, l, e) = absurd (omega arith)
without_keeps w v (x ∷ xs) other c = go (cases_eq x w) (without_keeps w v xs other) c
  where
    go : (b : (x ≡ w) ⊎ (x ≡ w → ⊥)) → (Contains xs v → Contains (without w xs) v) → Contains (x ∷ xs) v → Contains (elim b as (λ _. List ℕ) [ inl e ↦ without w xs | inr d ↦ x ∷ without w xs ]) v
    go (inl e') rest (zero, l, e) = absurd (other (sym e ∙ e'))
    go (inl e') rest (suc k, l, e) = rest (k, omega arith, e)
    go (inr d) rest (zero, l, e) = (zero, omega arith, e)
    go (inr d) rest (suc k, l, e) = let r = rest (k, omega arith, e) in (suc r.0, omega (arith, r.1), r.2)

-- what has each number below n has n elements at least
pub many : (n : ℕ) (xs : List ℕ) → ((v : ℕ) → v < n → Contains xs v) → n ≤ length xs
many zero xs h = omega arith
many (suc n) xs h =
    let rest = many n (without n xs) (λ v l. without_keeps n v xs (λ e. omega (arith, e)) (h v (omega arith))) in
    omega (arith, rest, without_less n xs (h n (omega arith)))

module _ (trace : List Numbered) (ok : IsWellFormed trace) (firsts : List ℕ) (are : AreFirsts trace firsts) (edges : List Pair) (leads : AreEdges trace firsts edges) (order : List ℕ) (g : IsOrder (length firsts) edges order) where
  abbrev places : List ℕ
  places = places_of trace ok firsts are edges leads order

  follows : Follows (length firsts) edges order
  follows = follows_order (length firsts) edges order g

  pub complete_by_length : length order ≡ length firsts → IsComplete trace places
  complete_by_length long n l =
      let f = first_of_place trace n l in
      let v = number_at trace ok firsts are edges leads f.place f.first in
      let c = each_there (length firsts) edges order g long v.0 v.1 in
      let s = stands_from trace ok firsts are edges leads order v.0 c in
      subst (Stands trace places) (ap (transaction trace) v.2 ∙ f.of) s

  pub length_by_complete : IsComplete trace places → length order ≡ length firsts
  length_by_complete complete =
      let within : (v : ℕ) → Contains order v → v < length firsts = λ v c. (follows.below c.0 v (slice_get-get_or order c.0 v c.1 ∙ ap Some c.2)) in
      let all : (v : ℕ) → v < length firsts → Contains order v = λ v l. contains_from trace ok firsts are edges leads order within v l (complete (get_or firsts v 0) ((are.places v (get_or firsts v 0) (slice_get-get_or firsts v 0 l)).within)) in
      omega (arith, many (length firsts) order all, few (length firsts) order follows.once follows.below)

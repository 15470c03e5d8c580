-- The levels before the first round, and how many places are not reached.
use Rattle.std.proofs.Common.{◌≡◌, ℕ, zero, suc, ◌<◌, ◌≤◌, ◌==◌, List, [], ◌∷◌, length, get_or, Option, Some, None, inl, inr, refl, sym, ◌∙◌, ap, arith}
use Rattle.std.specs.Prelude.{slice_get, IsSome}
use Rattle.std.specs.List.{All}
use Rattle.std.proofs.lemmas.Bool.{cases_lt, eq-eqb, eqb-true, cond-true, false≢true}
use Rattle.std.proofs.lemmas.Option.{slice_get-get_or, cond_some, slice_get_within}
use Rattle.aero_model.specs.declared.numbered.Numbered.{Numbered}
use Rattle.aero_model.specs.Blocks.{transaction}
use Rattle.aero_witness.specs.declared.reached.Reached.{Reached}
use Rattle.aero_witness.specs.Parts.{IsFirst, AreFirstsTo}
use Rattle.aero_witness.specs.Reached.{reached_at, AreStarts, IsClosed, AreAtMost}
use Rattle.aero_witness.specs.Levels.{AreLevels}
use Rattle.aero_witness.specs.Search.{unreached}
use Rattle.aero_witness.proofs.Nests.{one_first, same_by_first}
use Rattle.aero_witness.proofs.Walked.{reached_within, some_is, some_from}

abbrev at_once : Reached
at_once = record { level = 0; enters = 0; from = 0 }

module _ (trace : List Numbered) (firsts : List ℕ) (firsts_are : AreFirstsTo trace (length trace) firsts) where
  -- a first place is none after the event
  pub first_within : (i f : ℕ) → slice_get firsts i ≡ Some f → f < length firsts
  first_within i f at =
      let is = firsts_are.at i f at in
      let l = slice_get_within firsts i f at in
      elim (cases_lt i f) [ inl later ↦ absurd (is.none i later refl) | inr le ↦ omega arith ]

  pub all_within : All (λ f. f < length firsts) firsts
  all_within = λ k d l. first_within k (get_or firsts k d) (slice_get-get_or firsts k d l)

  module _ (begin first : ℕ) (first_at : slice_get firsts begin ≡ Some first) (reached : List (Option Reached)) (starts : AreStarts firsts first (length firsts) reached) where
    is_first : (k : ℕ) → k < length trace → IsFirst trace (transaction trace k) (get_or firsts k 0)
    is_first k l = let e = firsts_are.each in firsts_are.at k (get_or firsts k 0) (slice_get-get_or firsts k 0 (omega arith))

    of_begin : IsFirst trace (transaction trace begin) first
    of_begin = firsts_are.at begin first first_at

    within : (k : ℕ) (r : Reached) → reached_at reached k ≡ Some r → k < length firsts
    within k r at = let l = reached_within reached k r at in let e = starts.each in omega arith

    zero_level : (k : ℕ) (r : Reached) → reached_at reached k ≡ Some r → (get_or firsts k 0 ≡ first) × (r.level ≡ 0)
    zero_level k r at =
        let h = cond_some (get_or firsts k 0 == first) at_once r (sym (starts.at k (within k r at)) ∙ at) in
        (eqb-true (get_or firsts k 0) first h.0, ap (λ (q : Reached). q.level) (sym h.1))

    pub start_levels : AreLevels trace (transaction trace begin) reached 0
    start_levels =
        let firsts_each = firsts_are.each in
        record {
          each = starts.each ∙ firsts_are.each;
          start = λ i l e.
              (let one = one_first trace (transaction trace i) (transaction trace begin) (get_or firsts i 0) first (is_first i l) of_begin e in
              let here : i < length firsts = omega arith in
              (at_once, starts.at i here ∙ cond-true (get_or firsts i 0 == first) (Some at_once) None (eq-eqb (get_or firsts i 0) first one), refl));
          at_start = λ k r at z. (let l = within k r at in same_by_first trace (transaction trace k) (transaction trace begin) (get_or firsts k 0) first (is_first k (omega arith)) of_begin (zero_level k r at).0);
          sound = λ k r at pos. (let z = (zero_level k r at).1 in absurd (omega arith));
          leads = λ i j k r at less c is f. absurd (omega arith);
          no_return = λ i j r at pos less e c. absurd (omega arith);
        }

    pub start_most : AreAtMost 0 reached
    start_most k r at = let z = (zero_level k r at).1 in omega arith

    pub start_closed : IsClosed trace reached
    start_closed j k v f some =
        let r = some_is (reached_at reached j) some in
        let l = within j r.0 r.1 in
        let firsts_each = firsts_are.each in
        let of = same_by_first trace (transaction trace j) (transaction trace begin) (get_or firsts j 0) first (is_first j (omega arith)) of_begin (zero_level j r.0 r.1).0 in
        let s = start_levels.start k v.leaves (sym v.one ∙ of) in
        some_from (reached_at reached k) s.0 s.1

pub unreached_at_most : (xs : List (Option Reached)) → unreached xs ≤ length xs
unreached_at_most [] = omega arith
unreached_at_most (None ∷ xs) = omega (arith, unreached_at_most xs)
unreached_at_most (Some r ∷ xs) = omega (arith, unreached_at_most xs)

abbrev Stays : List (Option Reached) → List (Option Reached) → Type 0
Stays xs ys = (k : ℕ) (r : Reached) → reached_at xs k ≡ Some r → reached_at ys k ≡ Some r

never_more : (xs ys : List (Option Reached)) → length ys ≡ length xs → Stays xs ys → unreached ys ≤ unreached xs
never_more [] [] e stays = omega arith
never_more [] (y ∷ ys) e stays = absurd (omega arith)
never_more (x ∷ xs) [] e stays = absurd (omega arith)
never_more (None ∷ xs) (None ∷ ys) e stays = omega (arith, never_more xs ys (omega arith) (λ k r at. stays (suc k) r at))
never_more (None ∷ xs) (Some q ∷ ys) e stays = omega (arith, never_more xs ys (omega arith) (λ k r at. stays (suc k) r at))
never_more (Some p ∷ xs) (Some q ∷ ys) e stays = omega (arith, never_more xs ys (omega arith) (λ k r at. stays (suc k) r at))
never_more (Some p ∷ xs) (None ∷ ys) e stays = let none : None ≡ Some p = stays 0 p refl in absurd (cc)

pub fewer_left : (xs ys : List (Option Reached)) (k : ℕ) → length ys ≡ length xs → Stays xs ys → k < length xs → reached_at xs k ≡ None → IsSome (reached_at ys k) → unreached ys < unreached xs
fewer_left [] ys k e stays l none some = absurd (omega arith)
fewer_left (x ∷ xs) [] k e stays l none some = absurd (omega arith)
fewer_left (None ∷ xs) (Some q ∷ ys) zero e stays l none some = omega (arith, never_more xs ys (omega arith) (λ k r at. stays (suc k) r at))
fewer_left (None ∷ xs) (None ∷ ys) zero e stays l none some = absurd (false≢true some)
fewer_left (Some p ∷ xs) (y ∷ ys) zero e stays l none some = absurd (cc)
fewer_left (None ∷ xs) (None ∷ ys) (suc k) e stays l none some = omega (arith, fewer_left xs ys k (omega arith) (λ k r at. stays (suc k) r at) (omega arith) none some)
fewer_left (None ∷ xs) (Some q ∷ ys) (suc k) e stays l none some = omega (arith, fewer_left xs ys k (omega arith) (λ k r at. stays (suc k) r at) (omega arith) none some)
fewer_left (Some p ∷ xs) (Some q ∷ ys) (suc k) e stays l none some = omega (arith, fewer_left xs ys k (omega arith) (λ k r at. stays (suc k) r at) (omega arith) none some)
fewer_left (Some p ∷ xs) (None ∷ ys) (suc k) e stays l none some = let none : None ≡ Some p = stays 0 p refl in absurd (cc)

pub one_reached : (xs : List (Option Reached)) (k : ℕ) (r : Reached) → reached_at xs k ≡ Some r → unreached xs < length xs
one_reached [] k r at = absurd (cc)
one_reached (None ∷ xs) zero r at = absurd (cc)
one_reached (Some q ∷ xs) zero r at = omega (arith, unreached_at_most xs)
one_reached (None ∷ xs) (suc k) r at = omega (arith, one_reached xs k r at)
one_reached (Some q ∷ xs) (suc k) r at = omega (arith, one_reached xs k r at)

-- Whether a transaction has ended, by what is open at the end.
use Rattle.std.proofs.Common.{◌≡◌, ℕ, ◌<◌, ◌==◌, ◌&&◌, nat_lt, not, true, List, Option, Some, option_map, inl, inr, refl, sym, ◌∙◌, ap, subst, arith}
use Rattle.std.specs.Prelude.{slice_get}
use Rattle.std.proofs.lemmas.Bool.{cases_Bool, and_parts, and_from, not_from_true, both_ways, ltb-true, lt-ltb, eqb-true, eq-eqb, not_from_false}
use Rattle.std.proofs.lemmas.Option.{same_Some}
use Rattle.aero_model.specs.declared.numbered.Numbered.{Numbered}
use Rattle.aero_model.specs.Blocks.{depth, blocks, Transaction, transaction, HasEnded, Block, Unary}
use Rattle.aero_model.proofs.Places.{in_block}
use Rattle.aero_model.proofs.Ends.{ended_or_open, open_not_ended}
use Rattle.aero_witness.specs.declared.transactions.Nest.{Nest}
use Rattle.aero_witness.specs.Parts.{nest_at, ended_test, IsFirst, AreNests}
use Rattle.aero_witness.proofs.Nests.{one_first, same_by_first}

thread_of : (o : Option Numbered) (e : Numbered) (t : ℕ) → option_map (λ (x : Numbered). x.thread) o ≡ Some t → o ≡ Some e → e.thread ≡ t
thread_of o e t h at = same_Some e.thread t (sym (ap (option_map (λ (x : Numbered). x.thread)) at) ∙ h)

module _ (trace : List Numbered) (n : ℕ) (table : List Nest) (nests : AreNests trace n table) (place : ℕ) (within : place < n) (t f : ℕ) (thread : option_map (λ (e : Numbered). e.thread) (slice_get trace place) ≡ Some t) (first : IsFirst trace (transaction trace place) f) where
  pub ended_from : ended_test table t f ≡ true → HasEnded trace n (transaction trace place)
  ended_from test = go (transaction trace place) refl
    where
      go : (x : Transaction) → transaction trace place ≡ x → HasEnded trace n (transaction trace place)
      go (Unary p) e = subst (HasEnded trace n) (sym e) tt
      go (Block u k) e =
          let h = in_block trace place u k e in
          let here : u ≡ t = sym h.thread ∙ thread_of (slice_get trace place) h.event t thread h.event_at in
          elim (ended_or_open trace u place n k h within) [
            | inl ended ↦ subst (HasEnded trace n) (sym e) ended
            | inr o ↦
                let deep : 0 < depth trace t n = subst (λ w. 0 < depth trace w n) here o.0 in
                let number : blocks trace t n ≡ k = subst (λ w. blocks trace w n ≡ k) here o.1 in
                let is : Block t (blocks trace t n) ≡ transaction trace place = ap (Block t) number ∙ ap (λ w. Block w k) (sym here) ∙ sym e in
                let same = one_first trace (Block t (blocks trace t n)) (transaction trace place) (nest_at table t).first f (nests.firsts t deep) first is in
                let is_deep : nat_lt 0 (nest_at table t).depth ≡ true = lt-ltb 0 (nest_at table t).depth (omega (arith, nests.depths t)) in
                let both = and_from (nat_lt 0 (nest_at table t).depth) ((nest_at table t).first == f) is_deep (eq-eqb (nest_at table t).first f same) in
                absurd (both_ways (not (nat_lt 0 (nest_at table t).depth && ((nest_at table t).first == f))) (not_from_true (nat_lt 0 (nest_at table t).depth && ((nest_at table t).first == f)) both) test)
          ]

  pub ended_to : HasEnded trace n (transaction trace place) → ended_test table t f ≡ true
  ended_to ended =
      elim (cases_Bool (nat_lt 0 (nest_at table t).depth && ((nest_at table t).first == f))) [
        | inr shut ↦ not_from_false (nat_lt 0 (nest_at table t).depth && ((nest_at table t).first == f)) shut
        | inl both ↦
            let p = and_parts (nat_lt 0 (nest_at table t).depth) ((nest_at table t).first == f) both in
            let deep : 0 < depth trace t n = (let d = ltb-true 0 (nest_at table t).depth p.0 in omega (arith, nests.depths t)) in
            let is = same_by_first trace (Block t (blocks trace t n)) (transaction trace place) (nest_at table t).first f (nests.firsts t deep) first (eqb-true (nest_at table t).first f p.1) in
            absurd (open_not_ended trace t n deep (subst (HasEnded trace n) (sym is) ended))
      ]

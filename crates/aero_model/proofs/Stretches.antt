-- The events of a thread's transaction are a stretch of the thread's events.
use Rattle.std.proofs.Common.{◌≡◌, ◌≢◌, ◌⊎◌, ℕ, zero, suc, ◌<◌, ◌≤◌, Bool, true, false, List, Option, Some, None, inl, inr, refl, sym, ◌∙◌, ap, subst, arith}
use Rattle.std.specs.Prelude.{slice_get}
use Rattle.std.proofs.lemmas.Bool.{cases_eq, cases_lt}
use Rattle.aero_model.specs.declared.numbered.Numbered.{Numbered}
use Rattle.aero_model.specs.Blocks.{depth, blocks, Transaction, Block, Unary, transaction}
use Rattle.aero_model.proofs.Ends.{deep_in, ended_or_open, in_before_end}
use Rattle.aero_model.proofs.Places.{IsIn, in_block, in_unary, block_from}

module _ (trace : List Numbered) where
  -- behind an event of a block, up to a later one of it, the block is open
  pub open_between : (t k i p j : ℕ) → IsIn trace i t k → IsIn trace j t k → i < p → p ≤ j → (0 < depth trace t p) × (blocks trace t p ≡ k)
  open_between t k i p j a b l le = elim (ended_or_open trace t i p k a l) [
    | inl ended ↦ absurd (omega (arith, in_before_end trace t j ended.0 k b ended.2 ended.3, ended.1, le))
    | inr deep ↦ deep
  ]

  -- an event between two of one transaction, of the same thread, is of it too
  pub between : (i p j : ℕ) (e f : Numbered) → transaction trace i ≡ transaction trace j → i < p → p < j → slice_get trace i ≡ Some e → slice_get trace p ≡ Some f → f.thread ≡ e.thread → transaction trace p ≡ transaction trace i
  between i p j e f one l m at_i at_p same = go (transaction trace i) refl
    where
      go : (x : Transaction) → transaction trace i ≡ x → transaction trace p ≡ transaction trace i
      go (Unary q) is = absurd (omega (arith, in_unary trace i q is, in_unary trace j q (sym one ∙ is), l, m))
      go (Block t k) is =
          let a = in_block trace i t k is in
          let b = in_block trace j t k (sym one ∙ is) in
          let here = open_between t k i p j a b l (omega (arith, m)) in
          let next = open_between t k i (suc p) j a b (omega (arith, l)) m in
          let own : e.thread ≡ t = ap (λ (x : Numbered). x.thread) (event_is at_i a.event_at) ∙ a.thread in
          block_from trace p t (blocks trace t (suc p)) (deep_in trace t p f at_p (same ∙ own) here.0) ∙ ap (Block t) next.1 ∙ sym is
        where
          event_is : {x y : Numbered} → slice_get trace i ≡ Some x → slice_get trace i ≡ Some y → x ≡ y
          event_is p q = cc

  -- two transactions of one thread don't lie within each other: what comes first once comes first always
  pub stays_before : (p p' q q' : ℕ) (e e' f f' : Numbered) → transaction trace p ≡ transaction trace p' → transaction trace q ≡ transaction trace q' → transaction trace p ≢ transaction trace q
      → slice_get trace p ≡ Some e → slice_get trace p' ≡ Some e' → slice_get trace q ≡ Some f → slice_get trace q' ≡ Some f' → e'.thread ≡ e.thread → f.thread ≡ e.thread → f'.thread ≡ e.thread → p < q → p' < q'
  stays_before p p' q q' e e' f f' one_p one_q apart at_p at_p' at_q at_q' se sf sf' l = elim (cases_lt p' q') [
    | inl yet ↦ yet
    | inr le ↦ elim (cases_lt q p') [
      | inl within ↦ absurd (apart (sym (between p q p' e f one_p l within at_p at_q sf)))
      | inr past ↦ elim (cases_eq p' q') [
        | inl same ↦ absurd (apart (one_p ∙ ap (transaction trace) same ∙ sym one_q))
        | inr differ ↦ elim (cases_eq p' q) [
          | inl same ↦ absurd (apart (one_p ∙ ap (transaction trace) same))
          | inr d ↦ absurd (apart (one_p ∙ between q' p' q f' e' (sym one_q) (omega (arith, le, differ)) (omega (arith, past, d)) at_q' at_p' (se ∙ sym sf') ∙ sym one_q))
        ]
      ]
    ]
  ]

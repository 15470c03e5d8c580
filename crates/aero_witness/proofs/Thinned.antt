-- What is kept where whole transactions are left out has their transactions, ends, conflicts and telling cycles.
use Rattle.std.proofs.Common.{◌≡◌, ℕ, suc, ◌<◌, ◌≤◌, ◌||◌, ◌==◌, nat_lt, true, List, length, Some, inl, inr, refl, sym, ◌∙◌, ap, subst, le_refl, arith}
use Rattle.std.specs.Prelude.{slice_get}
use Rattle.std.proofs.lemmas.Bool.{cases_eq, cases_lt, and_parts}
use Rattle.std.proofs.lemmas.Option.{slice_get_within}
use Rattle.aero_model.specs.declared.numbered.Numbered.{Numbered}
use Rattle.aero_model.specs.Blocks.{is_begin, is_end, by_thread, depth, closes, blocks, Transaction, Block, Unary, transaction, HasEnded}
use Rattle.aero_model.proofs.Places.{IsIn, in_block, in_unary, block_from}
use Rattle.aero_model.proofs.Depths.{closing_at, opening_at}
use Rattle.aero_model.proofs.Ends.{IsBy, is_by, deep_in}
use Rattle.aero_model.proofs.Begins.{BeginOf, begin_of, begin_inside, blocks_rise}
use Rattle.aero_witness.specs.Thinned.{IsThinned}
use Rattle.aero_witness.proofs.Thinning.{IsCut, place_at, one_index, one_place, earlier_index, later_place, depth_kept, opens_kept, closes_kept}

-- the end of a block is an event in it
module _ (trace : List Numbered) (t n : ℕ) (closing : closes trace t n ≡ true) where
  end : IsBy t is_end (slice_get trace n)
  end = is_by t is_end (slice_get trace n) (and_parts (by_thread t is_end (slice_get trace n)) (depth trace t n == 1) closing).0

  closing_within : n < length trace
  closing_within = let e = end in slice_get_within trace n e.event e.at

  end_inside : transaction trace n ≡ Block t (blocks trace t n)
  end_inside =
      let e = end in
      let s = closing_at trace t n closing in
      let before = s.before in
      block_from trace n t (blocks trace t (suc n)) (deep_in trace t n e.event e.at e.thread (omega arith)) ∙ ap (Block t) s.number

module _ (trace kept : List Numbered) (places : List ℕ) (thin : IsThinned trace kept places) where
  abbrev At : ℕ → ℕ → Type 0
  At i p = slice_get places i ≡ Some p

  -- a place in a block, here and there
  in_kept : (i p t k : ℕ) → At i p → IsIn trace p t k → IsIn kept i t (blocks kept t (suc i))
  in_kept i p t k at h = record {
    event = h.event;
    event_at = thin.event i p at ∙ h.event_at;
    thread = h.thread;
    inside = subst (λ d. (is_begin (h.event).what || nat_lt 0 d) ≡ true) (sym (depth_kept trace kept places thin i p at t h.event h.event_at h.thread)) h.inside;
    number = refl;
  }

  in_trace : (i p t k : ℕ) → At i p → IsIn kept i t k → IsIn trace p t (blocks trace t (suc p))
  in_trace i p t k at h =
      let here = sym (thin.event i p at) ∙ h.event_at in
      record {
        event = h.event;
        event_at = here;
        thread = h.thread;
        inside = subst (λ d. (is_begin (h.event).what || nat_lt 0 d) ≡ true) (depth_kept trace kept places thin i p at t h.event here h.thread) h.inside;
        number = refl;
      }

  -- where the thread has begun no block in between in the trace, it has begun none in what is kept
  same_number : (t i j p q : ℕ) → At i p → At j q → i ≤ j → blocks trace t (suc p) ≡ blocks trace t (suc q) → blocks kept t (suc i) ≡ blocks kept t (suc j)
  same_number t i j p q a b le e = elim (cases_eq (blocks kept t (suc i)) (blocks kept t (suc j))) [
    | inl same ↦ same
    | inr other ↦
        let rise = blocks_rise kept t (suc i) (suc j) (omega arith) in
        absurd (no_begin rise (begin_of kept t (suc j) (blocks kept t (suc j)) (omega arith) (le_refl (blocks kept t (suc j)))) other)
  ]
    where
      no_begin : blocks kept t (suc i) ≤ blocks kept t (suc j) → BeginOf kept t (suc j) (blocks kept t (suc j)) → (blocks kept t (suc i) ≡ blocks kept t (suc j) → ⊥) → ⊥
      no_begin rise g other = elim (cases_lt i g.place) [
        | inr le' ↦ (let number = g.number in let more = blocks_rise kept t (suc g.place) (suc i) (omega arith) in other (omega arith))
        | inl later ↦
            let l = slice_get_within places j q b in
            let before = g.before in
            let some = place_at places g.place (omega arith) in
            let after = thin.rise i g.place p some.0 later a some.1 in
            let upto = later_place trace kept places thin g.place j some.0 q some.1 b (omega arith) in
            let opening = opening_at trace t some.0 (sym (opens_kept trace kept places thin g.place some.0 some.1 t) ∙ (g.opening).opens) in
            omega (arith, opening.number, blocks_rise trace t (suc p) some.0 after, blocks_rise trace t (suc some.0) (suc q) (omega arith))
      ]

  -- and the other way round, where the later event is in a block
  same_back : (t i j p q : ℕ) → At i p → At j q → i ≤ j → transaction trace q ≡ Block t (blocks trace t (suc q)) → blocks kept t (suc i) ≡ blocks kept t (suc j) → blocks trace t (suc p) ≡ blocks trace t (suc q)
  same_back t i j p q a b le inside e = elim (cases_eq (blocks trace t (suc p)) (blocks trace t (suc q))) [
    | inl same ↦ same
    | inr other ↦
        let le' = later_place trace kept places thin i j p q a b le in
        let rise = blocks_rise trace t (suc p) (suc q) (omega arith) in
        absurd (no_begin rise (begin_of trace t (suc q) (blocks trace t (suc q)) (omega arith) (le_refl (blocks trace t (suc q)))) other)
  ]
    where
      no_begin : blocks trace t (suc p) ≤ blocks trace t (suc q) → BeginOf trace t (suc q) (blocks trace t (suc q)) → (blocks trace t (suc p) ≡ blocks trace t (suc q) → ⊥) → ⊥
      no_begin rise g other = elim (cases_lt p g.place) [
        | inr le' ↦ (let number = g.number in let more = blocks_rise trace t (suc g.place) (suc p) (omega arith) in other (omega arith))
        | inl later ↦
            let l = thin.within j q b in
            let before = g.before in
            let among = thin.whole q g.place (j, b) (omega arith) (inside ∙ sym (begin_inside trace t (suc q) (blocks trace t (suc q)) g)) in
            let after = earlier_index trace kept places thin i among.0 p g.place a among.1 later in
            let upto = up_to among.0 g.place among.1 (omega arith) in
            let opening = opening_at kept t among.0 (opens_kept trace kept places thin among.0 g.place among.1 t ∙ (g.opening).opens) in
            omega (arith, opening.number, blocks_rise kept t (suc i) among.0 after, blocks_rise kept t (suc among.0) (suc j) (omega arith))
      ]
        where
          up_to : (k r : ℕ) → At k r → r ≤ q → k ≤ j
          up_to k r c le = elim (cases_eq r q) [
            | inl same ↦ omega (arith, one_index trace kept places thin k j r q c b same)
            | inr less ↦ omega (arith, earlier_index trace kept places thin k j r q c b (omega arith))
          ]

  -- in either order
  numbers_kept : (t i j p q : ℕ) → At i p → At j q → blocks trace t (suc p) ≡ blocks trace t (suc q) → blocks kept t (suc i) ≡ blocks kept t (suc j)
  numbers_kept t i j p q a b e = elim (cases_lt j i) [
    | inl l ↦ sym (same_number t j i q p b a (omega arith) (sym e))
    | inr le ↦ same_number t i j p q a b le e
  ]

  numbers_back : (t i j p q : ℕ) → At i p → At j q → transaction trace p ≡ Block t (blocks trace t (suc p)) → transaction trace q ≡ Block t (blocks trace t (suc q)) → blocks kept t (suc i) ≡ blocks kept t (suc j) → blocks trace t (suc p) ≡ blocks trace t (suc q)
  numbers_back t i j p q a b inside inside' e = elim (cases_lt j i) [
    | inl l ↦ sym (same_back t j i q p b a (omega arith) inside (sym e))
    | inr le ↦ same_back t i j p q a b le inside' e
  ]

  -- one transaction here and there
  pub one_kept : (i j p q : ℕ) → At i p → At j q → transaction trace p ≡ transaction trace q → transaction kept i ≡ transaction kept j
  one_kept i j p q a b e = go (transaction trace q) e refl
    where
      go : (x : Transaction) → transaction trace p ≡ x → transaction trace q ≡ x → transaction kept i ≡ transaction kept j
      go (Unary r) ep eq = ap (transaction kept) (one_index trace kept places thin i j p q a b (omega (arith, in_unary trace p r ep, in_unary trace q r eq)))
      go (Block t k) ep eq =
          let f = in_block trace p t k ep in
          let g = in_block trace q t k eq in
          block_from kept i t (blocks kept t (suc i)) (in_kept i p t k a f)
          ∙ ap (Block t) (numbers_kept t i j p q a b (f.number ∙ sym g.number))
          ∙ sym (block_from kept j t (blocks kept t (suc j)) (in_kept j q t k b g))

  pub one_back : (i j p q : ℕ) → At i p → At j q → transaction kept i ≡ transaction kept j → transaction trace p ≡ transaction trace q
  one_back i j p q a b e = go (transaction kept j) e refl
    where
      go : (x : Transaction) → transaction kept i ≡ x → transaction kept j ≡ x → transaction trace p ≡ transaction trace q
      go (Unary r) ei ej = ap (transaction trace) (one_place trace kept places thin i j p q a b (omega (arith, in_unary kept i r ei, in_unary kept j r ej)))
      go (Block t k) ei ej =
          let f = in_block kept i t k ei in
          let g = in_block kept j t k ej in
          let inside = block_from trace p t (blocks trace t (suc p)) (in_trace i p t k a f) in
          let inside' = block_from trace q t (blocks trace t (suc q)) (in_trace j q t k b g) in
          inside ∙ ap (Block t) (numbers_back t i j p q a b inside inside' (f.number ∙ sym g.number)) ∙ sym inside'

  module _ (n m : ℕ) (cut : IsCut places n m) where
    -- it has ended here and there
    pub ended_kept : (i p : ℕ) → At i p → HasEnded trace n (transaction trace p) → HasEnded kept m (transaction kept i)
    ended_kept i p a ended = go (transaction trace p) refl ended
      where
        go : (x : Transaction) → transaction trace p ≡ x → HasEnded trace n x → HasEnded kept m (transaction kept i)
        go (Unary r) e h = subst (HasEnded kept m) (sym (unary_kept r e)) tt
          where
            unary_kept : (r : ℕ) → transaction trace p ≡ Unary r → transaction kept i ≡ Unary i
            unary_kept r e = as_unary (transaction kept i) refl
              where
                as_unary : (y : Transaction) → transaction kept i ≡ y → transaction kept i ≡ Unary i
                as_unary (Unary s) f = f ∙ ap Unary (in_unary kept i s f)
                as_unary (Block u l) f =
                    let g = block_from trace p u (blocks trace u (suc p)) (in_trace i p u l a (in_block kept i u l f)) in
                    absurd (let z : Unary r ≡ Block u (blocks trace u (suc p)) = sym e ∙ g in cc)
        go (Block t k) e (q, l, c, number) =
            let inside = end_inside trace t q c ∙ ap (Block t) number in
            let within = closing_within trace t q c in
            let among = thin.whole p q (i, a) within (e ∙ sym inside) in
            let j = among.0 in
            let below = below_cut j q among.1 l in
            let closing = closes_kept trace kept places thin j q among.1 t ∙ c in
            let one = one_kept i j p q a among.1 (e ∙ sym inside) in
            subst (HasEnded kept m) (sym (one ∙ end_inside kept t j closing)) (j, below, closing, refl)
          where
            below_cut : (j q : ℕ) → At j q → q < n → j < m
            below_cut j q at l = elim (cases_lt j m) [ inl less ↦ less | inr le ↦ absurd (omega (arith, cut.above j q at le)) ]

    pub ended_back : (i p : ℕ) → At i p → HasEnded kept m (transaction kept i) → HasEnded trace n (transaction trace p)
    ended_back i p a ended = go (transaction kept i) refl ended
      where
        go : (x : Transaction) → transaction kept i ≡ x → HasEnded kept m x → HasEnded trace n (transaction trace p)
        go (Unary r) e h = subst (HasEnded trace n) (sym (unary_trace r e)) tt
          where
            unary_trace : (r : ℕ) → transaction kept i ≡ Unary r → transaction trace p ≡ Unary p
            unary_trace r e = as_unary (transaction trace p) refl
              where
                as_unary : (y : Transaction) → transaction trace p ≡ y → transaction trace p ≡ Unary p
                as_unary (Unary s) f = f ∙ ap Unary (in_unary trace p s f)
                as_unary (Block u l) f =
                    let g = block_from kept i u (blocks kept u (suc i)) (in_kept i p u l a (in_block trace p u l f)) in
                    absurd (let z : Unary r ≡ Block u (blocks kept u (suc i)) = sym e ∙ g in cc)
        go (Block t k) e (j, l, c, number) =
            let inside = end_inside kept t j c ∙ ap (Block t) number in
            let within = closing_within kept t j c in
            let each = thin.each in
            let some = place_at places j (omega arith) in
            let q = some.0 in
            let closing = sym (closes_kept trace kept places thin j q some.1 t) ∙ c in
            let one = one_back i j p q a some.1 (e ∙ sym inside) in
            subst (HasEnded trace n) (sym (one ∙ end_inside trace t q closing)) (q, cut.below j q some.1 l, closing, refl)

  -- all places are those of the trace
  pub all_cut : IsCut places (length trace) (length kept)
  all_cut = record {
    below = λ j p a l. thin.within j p a;
    above = λ j p a le. (let each = thin.each in let l = slice_get_within places j p a in absurd (omega arith));
    within = (let each = thin.each in omega arith);
  }

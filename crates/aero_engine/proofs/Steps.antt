-- Clocks after an event that is not an outermost end.
use Rattle.std.proofs.Common.{◌≡◌, ◌≢◌, ℕ, suc, ◌+◌, ◌<◌, ◌≤◌, ◌⊎◌, inl, inr, ⊎_elim, List, Option, Some, None, refl, sym, ap, ◌∙◌, subst, arith}
use Rattle.std.specs.Prelude.{Bool, true, false, ◌==◌, if◌then◌else◌, slice_get, Contains}
use Rattle.std.proofs.lemmas.Bool.{cases_lt, cases_eq, cases_Bool, eq-eqb, ne_eqb}
use Rattle.std.proofs.lemmas.Option.{same_Some}
use Rattle.aero_model.specs.declared.numbered.Numbered.{Numbered}
use Rattle.aero_model.specs.Blocks.{opens, closes, blocks, Block, transaction}
use Rattle.aero_model.specs.Graph.{Conflict, same_thread}
use Rattle.aero_model.proofs.Reach.{stay, on, reach_from_within}
use Rattle.aero_model.proofs.Places.{in_block}
use Rattle.aero_model.proofs.Depths.{opening_at, blocks_stay}
use Rattle.aero_model.proofs.Ends.{begin_in}
use Rattle.aero_model.proofs.Begins.{begin_of, begin_inside}
use Rattle.aero_model.proofs.Next.{reach_before, reach_last}
use Rattle.aero_model.proofs.Walks.{Reaches}
use Rattle.aero_engine.specs.declared.slot.Slot.{Slot}
use Rattle.aero_engine.specs.Slots.{of_slot, last_event}
use Rattle.aero_engine.specs.Clocks.{Clock, IsSound, MissesNothing, AreSound, MissNothing, greatest, raised, new_clock, new_clocks}
use Rattle.aero_engine.proofs.LastEvents.{is_last, last_new, last_kept}
use Rattle.aero_engine.proofs.Taken.{Stand}
use Rattle.aero_engine.proofs.Counts.{sound_reaches, sound_from, complete_counts, complete_from, reaches_on, reaches_more, own_reaches, reaches_begun, greatest_above, greatest_least}

-- what the actor's clock counts after its event
module _ (trace : List Numbered) (n t : ℕ) (M : Clock) where
  clock_if : (b : Bool) → opens trace t n ≡ b → new_clock trace n t M ≡ (if b then raised t M else M)
  clock_if b h = ap (λ c. if c then raised t M else M) h

  raised_if : (u : ℕ) (b : Bool) → (u == t) ≡ b → raised t M u ≡ (if b then M u + 1 else M u)
  raised_if u b h = ap (λ c. if c then M u + 1 else M u) h

  -- it is the old one, but for an outermost begin
  clock_same : opens trace t n ≡ false → (u : ℕ) → new_clock trace n t M u ≡ M u
  clock_same h u = ap (λ (K : Clock). K u) (clock_if false h)

  clock_other : (u : ℕ) → u ≢ t → new_clock trace n t M u ≡ M u
  clock_other u h =
      ⊎_elim
      (λ o. ap (λ (K : Clock). K u) (clock_if true o) ∙ raised_if u false (ne_eqb u t h))
      (λ o. clock_same o u)
      (cases_Bool (opens trace t n))

  clock_begun : opens trace t n ≡ true → new_clock trace n t M t ≡ M t + 1
  clock_begun h = ap (λ (K : Clock). K t) (clock_if true h) ∙ raised_if t true (eq-eqb t t refl)

  pub clock_above : (u : ℕ) → M u ≤ new_clock trace n t M u
  clock_above u =
      ⊎_elim
      (λ h. ⊎_elim
      (λ o. subst (λ v. M v ≤ new_clock trace n t M v) (sym h) (omega (arith, clock_begun o)))
      (λ o. omega (arith, clock_same o u))
      (cases_Bool (opens trace t n)))
      (λ h. omega (arith, clock_other u h))
      (cases_eq u t)

  -- a number that the new clock counts and the old one does not is the begun block's
  clock_cases : (u k : ℕ) → k ≤ new_clock trace n t M u → (k ≤ M u) ⊎ ((u ≡ t) × (opens trace t n ≡ true) × (k ≡ M u + 1))
  clock_cases u k le = ⊎_elim (λ l. inl (omega arith)) (λ l. more_than l (cases_eq u t) (cases_Bool (opens trace t n))) (cases_lt k (suc (M u)))
    where
      more_than : suc (M u) ≤ k → (u ≡ t) ⊎ (u ≢ t) → (opens trace t n ≡ true) ⊎ (opens trace t n ≡ false) → (k ≤ M u) ⊎ ((u ≡ t) × (opens trace t n ≡ true) × (k ≡ M u + 1))
      more_than l (inl h) (inl o) =
          let le' = subst (λ v. k ≤ new_clock trace n t M v) h le in
          let top = subst (λ v. suc (M v) ≤ k) h l in
          let number : k ≡ M t + 1 = omega (arith, clock_begun o) in
          inr (h, o, subst (λ v. k ≡ M v + 1) (sym h) number)
      more_than l h (inr o) = absurd (omega (arith, clock_same o u))
      more_than l (inr h) (inl o) = absurd (omega (arith, clock_other u h))

-- a slot's clock after event e, whose thread's clock was K
pub clock_kept : (trace : List Numbered) (n : ℕ) (e : Numbered) (clocks : Slot → Clock) (K : Clock) (s : Slot) → of_slot s e ≡ false → clocks s ≡ new_clocks trace n e clocks K s
clock_kept trace n e clocks K s h = sym (ap (λ b. if b then new_clock trace n e.thread K else clocks s) h)

pub clock_replaced : (trace : List Numbered) (n : ℕ) (e : Numbered) (clocks : Slot → Clock) (K : Clock) (s : Slot) → of_slot s e ≡ true → new_clock trace n e.thread K ≡ new_clocks trace n e clocks K s
clock_replaced trace n e clocks K s h = sym (ap (λ b. if b then new_clock trace n e.thread K else clocks s) h)

module _ (trace : List Numbered) (n : ℕ) (e : Numbered) (at : slice_get trace n ≡ Some e) (clocks : Slot → Clock) (ss : List Slot) (st : Stand trace n e ss) where
  abbrev M : Clock
  M = greatest clocks ss

  -- a slot whose clock counts a block has a last event
  pub counted : AreSound trace n clocks → (s : Slot) (u k : ℕ) → 0 < k → k ≤ clocks s u → (q : ℕ) × (last_event trace n s ≡ Some q)
  counted sound s u k pos le = go (last_event trace n s) refl
    where
      go : (o : Option ℕ) → last_event trace n s ≡ o → (q : ℕ) × (last_event trace n s ≡ Some q)
      go None h = absurd (omega (arith, sound.at_none s u h))
      go (Some q) h = (q, h)

  -- a block that the greatest of the clocks counts reaches the last event of a slot
  taken : AreSound trace n clocks → (u k : ℕ) → 0 < k → k ≤ M u → (s : Slot) × (q : ℕ) × Contains ss s × (last_event trace n s ≡ Some q) × Reaches trace n (Block u k) q
  taken sound u k pos le =
      let g = greatest_least clocks ss u k pos le in
      let q = counted sound g.0 u k pos g.2 in
      (g.0, q.0, g.1, q.1, sound_reaches trace n (clocks g.0) q.0 (sound.at_last g.0 q.0 q.1) u k pos g.2)

  sound_own : AreSound trace n clocks → M e.thread ≤ blocks trace e.thread n
  sound_own sound = ⊎_elim (λ pos. let r = taken sound e.thread (M e.thread) pos (omega arith) in reaches_begun trace n e.thread (M e.thread) r.1 r.4) (λ z. omega arith) (cases_lt 0 (M e.thread))

  -- the new clock is sound for the event
  pub sound_new : AreSound trace n clocks → IsSound trace (suc n) (new_clock trace n e.thread M) n
  sound_new sound = sound_from trace (suc n) (new_clock trace n e.thread M) n (λ u k pos le. ⊎_elim (old u k pos) (λ h. begun u k pos h.0 h.1 h.2) (clock_cases trace n e.thread M u k le))
    where
      old : (u k : ℕ) → 0 < k → k ≤ M u → Reaches trace (suc n) (Block u k) n
      old u k pos le =
          let r = taken sound u k pos le in
          let c = (st.each r.0 r.1 r.2 r.3).0 in
          reaches_on trace (suc n) (Block u k) r.1 n (reaches_more trace n (Block u k) r.1 r.4) (on r.1 n (stay (omega (arith, c.earlier))) c (omega arith))

      begun : (u k : ℕ) → 0 < k → u ≡ e.thread → opens trace e.thread n ≡ true → k ≡ M u + 1 → Reaches trace (suc n) (Block u k) n
      begun u k pos same o number =
          let here = subst (λ v. k ≡ M v + 1) same number in
          let up = opening_at trace e.thread n o in
          let le : k ≤ blocks trace e.thread (suc n) = omega (arith, sound_own sound, up.number) in
          subst (λ v. Reaches trace (suc n) (Block v k) n) (sym same) (own_reaches trace (suc n) e.thread k n e pos le (omega arith) at refl)

  -- the greatest of the clocks counts each block that reaches what conflicts with the event
  complete_taken : MissNothing trace n clocks → (u k p : ℕ) → Reaches trace n (Block u k) p → Conflict trace p n → k ≤ M u
  complete_taken complete u k p r c =
      let f = st.all p c in
      omega (arith, complete_counts trace n (clocks f.slot) f.place (complete.at_last f.slot f.place f.last) u k (reaches_on trace n (Block u k) p f.place r f.reach), greatest_above clocks f.slot ss u f.among)

  complete_own : MissNothing trace n clocks → blocks trace e.thread n ≤ M e.thread
  complete_own complete = ⊎_elim begun (λ z. omega arith) (cases_lt 0 (blocks trace e.thread n))
    where
      begun : 0 < blocks trace e.thread n → blocks trace e.thread n ≤ M e.thread
      begun pos =
          let b = begin_of trace e.thread n (blocks trace e.thread n) pos (omega arith) in
          let g = begin_in trace e.thread b.place b.opening in
          complete_taken complete e.thread (blocks trace e.thread n) b.place
          (record { from = b.place; inside = begin_inside trace e.thread n (blocks trace e.thread n) b; reach = stay b.before })
          (record { earlier = b.before; first = g.event; first_at = g.event_at; second = e; second_at = at; conflict = same_thread g.thread })

  -- the new clock counts the actor's own blocks
  pub complete_begun : MissNothing trace n clocks → blocks trace e.thread (suc n) ≤ new_clock trace n e.thread M e.thread
  complete_begun complete =
      ⊎_elim
      (λ o. let up = opening_at trace e.thread n o in omega (arith, complete_own complete, up.number, clock_begun trace n e.thread M o))
      (λ o. omega (arith, complete_own complete, blocks_stay trace e.thread n o, clock_same trace n e.thread M o e.thread))
      (cases_Bool (opens trace e.thread n))

  -- where the slots' clocks were sound, they are sound after the event
  pub sound_after : AreSound trace n clocks → AreSound trace (suc n) (new_clocks trace n e clocks M)
  sound_after sound = record {
    at_last = λ s q h. ⊎_elim (at_new s q h) (at_old s q h) (cases_Bool (of_slot s e));
    at_none = λ s u h. ⊎_elim (none_new s u h) (none_old s u h) (cases_Bool (of_slot s e));
  }
    where
      at_new : (s : Slot) (q : ℕ) → last_event trace (suc n) s ≡ Some q → of_slot s e ≡ true → IsSound trace (suc n) (new_clocks trace n e clocks M s) q
      at_new s q h b =
          let place = same_Some n q (sym (last_new (of_slot s) trace n e at b) ∙ h) in
          subst (λ K. IsSound trace (suc n) K q) (clock_replaced trace n e clocks M s b) (subst (IsSound trace (suc n) (new_clock trace n e.thread M)) place (sound_new sound))

      at_old : (s : Slot) (q : ℕ) → last_event trace (suc n) s ≡ Some q → of_slot s e ≡ false → IsSound trace (suc n) (new_clocks trace n e clocks M s) q
      at_old s q h b =
          let old = sound.at_last s q (sym (last_kept (of_slot s) trace n e at b) ∙ h) in
          subst (λ K. IsSound trace (suc n) K q) (clock_kept trace n e clocks M s b) (sound_from trace (suc n) (clocks s) q (λ u k pos le. reaches_more trace n (Block u k) q (sound_reaches trace n (clocks s) q old u k pos le)))

      none_new : (s : Slot) (u : ℕ) → last_event trace (suc n) s ≡ None → of_slot s e ≡ true → new_clocks trace n e clocks M s u ≡ 0
      none_new s u h b = let new = last_new (of_slot s) trace n e at b in cc

      none_old : (s : Slot) (u : ℕ) → last_event trace (suc n) s ≡ None → of_slot s e ≡ false → new_clocks trace n e clocks M s u ≡ 0
      none_old s u h b = ap (λ (K : Clock). K u) (sym (clock_kept trace n e clocks M s b)) ∙ sound.at_none s u (sym (last_kept (of_slot s) trace n e at b) ∙ h)

  module _ (quiet : (t : ℕ) → closes trace t n ≡ false) where
    -- the new clock is complete for the event
    pub complete_new : MissNothing trace n clocks → MissesNothing trace (suc n) (new_clock trace n e.thread M) n
    complete_new complete = complete_from trace (suc n) (new_clock trace n e.thread M) n (λ u k r. ⊎_elim (of_old u k r) (λ l. of_new u k r (omega (arith, reach_from_within trace (suc n) r.from n r.reach))) (cases_lt r.from n))
      where
        of_old : (u k : ℕ) (r : Reaches trace (suc n) (Block u k) n) → r.from < n → k ≤ new_clock trace n e.thread M u
        of_old u k r l =
            let p = reach_last trace n quiet r.from n r.reach l refl in
            omega (arith, complete_taken complete u k p.0 (record { from = r.from; inside = r.inside; reach = p.1 }) p.2, clock_above trace n e.thread M u)

        of_new : (u k : ℕ) (r : Reaches trace (suc n) (Block u k) n) → r.from ≡ n → k ≤ new_clock trace n e.thread M u
        of_new u k r place =
            let b = in_block trace n u k (ap (transaction trace) (sym place) ∙ r.inside) in
            let same : e.thread ≡ u = ap (λ (a : Numbered). a.thread) (same_Some e b.event (sym at ∙ b.event_at)) ∙ b.thread in
            subst (λ v. k ≤ new_clock trace n e.thread M v) same (omega (arith, complete_begun complete, subst (λ v. blocks trace v (suc n) ≡ k) (sym same) b.number))

    -- where the slots' clocks were complete, they are complete after the event
    pub complete_after : MissNothing trace n clocks → MissNothing trace (suc n) (new_clocks trace n e clocks M)
    complete_after complete = record { at_last = λ s q h. ⊎_elim (at_new s q h) (at_old s q h) (cases_Bool (of_slot s e)) }
      where
        at_new : (s : Slot) (q : ℕ) → last_event trace (suc n) s ≡ Some q → of_slot s e ≡ true → MissesNothing trace (suc n) (new_clocks trace n e clocks M s) q
        at_new s q h b =
            let place = same_Some n q (sym (last_new (of_slot s) trace n e at b) ∙ h) in
            subst (λ K. MissesNothing trace (suc n) K q) (clock_replaced trace n e clocks M s b) (subst (MissesNothing trace (suc n) (new_clock trace n e.thread M)) place (complete_new complete))

        at_old : (s : Slot) (q : ℕ) → last_event trace (suc n) s ≡ Some q → of_slot s e ≡ false → MissesNothing trace (suc n) (new_clocks trace n e clocks M s) q
        at_old s q h b =
            let last = sym (last_kept (of_slot s) trace n e at b) ∙ h in
            let below = (is_last (of_slot s) trace n q last).below in
            subst (λ K. MissesNothing trace (suc n) K q) (clock_kept trace n e clocks M s b)
            (complete_from trace (suc n) (clocks s) q (λ u k r. complete_counts trace n (clocks s) q (complete.at_last s q last) u k (record { from = r.from; inside = r.inside; reach = reach_before trace n quiet r.from q r.reach below })))

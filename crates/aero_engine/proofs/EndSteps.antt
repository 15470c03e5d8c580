-- Clocks after an outermost end.
use Rattle.std.proofs.Common.{◌≡◌, ℕ, suc, ◌<◌, ◌≤◌, ◌⊎◌, inl, inr, ⊎_elim, List, Some, None, sym, ap, ◌∙◌, subst, arith, max}
use Rattle.std.specs.Prelude.{Bool, true, false, ◌==◌, nat_le, if◌then◌else◌, slice_get}
use Rattle.std.proofs.lemmas.Bool.{cases_lt, cases_Bool, leb-true, le-leb, lt-leb, and_parts}
use Rattle.std.proofs.lemmas.Option.{same_Some}
use Rattle.aero_model.specs.declared.numbered.Numbered.{Numbered}
use Rattle.aero_model.specs.Blocks.{is_end, depth, closes, blocks, Transaction, Block, transaction, HasEnded}
use Rattle.aero_model.specs.Shape.{IsWellFormed}
use Rattle.aero_model.proofs.Reach.{Reach, stay, back, reach_trans, reach_within, reach_from_within}
use Rattle.aero_model.proofs.Places.{in_block}
use Rattle.aero_model.proofs.Depths.{closing_at}
use Rattle.aero_model.proofs.Locks.{release_is}
use Rattle.aero_model.proofs.Ends.{is_by, Begun}
use Rattle.aero_model.proofs.Begins.{open_number}
use Rattle.aero_model.proofs.Next.{closed, start, start_in, last_in, closed_ended, ToClosed, Closing, reach_closing, reach_from_closing}
use Rattle.aero_model.proofs.Walks.{Reaches}
use Rattle.aero_engine.specs.declared.slot.Slot.{Slot}
use Rattle.aero_engine.specs.declared.slot.Slot.TheVariants.{OfThread, LastWrite, LastRead, LastRelease}
use Rattle.aero_engine.specs.Slots.{is_read_of, of_slot, last_event}
use Rattle.aero_engine.specs.Clocks.{Clock, AreSound, MissNothing, end_clock, end_clocks}
use Rattle.aero_engine.proofs.LastEvents.{read_is, write_is, of_thread, is_last, last_new, last_kept}
use Rattle.aero_engine.proofs.Sources.{Latest, latest, reach_latest, latest_open, acted_by_block}
use Rattle.aero_engine.proofs.Counts.{sound_reaches, sound_from, complete_counts, complete_from, reaches_more}

-- thread t's block ends at place n
module _ (trace : List Numbered) (ok : IsWellFormed trace) (n t : ℕ) (closing : closes trace t n ≡ true) where
  abbrev pub block : Transaction
  block = closed trace n t ok closing

  pub was_open : 0 < depth trace t n
  was_open = let c = closing_at trace t n closing in omega (arith, c.before)

  pub block_number : 0 < blocks trace t n
  block_number = open_number trace t n was_open

  -- the last event before it is of the block
  pub last : Latest trace n t
  last = latest trace ok n t (acted_by_block trace n t block_number)

  pub last_inside : transaction trace last.place ≡ block
  last_inside = latest_open trace n t last was_open

  -- what reaches the block reaches that event
  pub into_from : (x : Transaction) (i : ℕ) → transaction trace i ≡ x → ToClosed trace n t ok closing i → Reaches trace n x last.place
  into_from x i h (b, inside, r) =
      let g = in_block trace b t (blocks trace t n) inside in
      record { from = i; inside = h; reach = reach_trans trace n i b last.place r (reach_latest trace n t last b g.event (reach_within trace n i b r) g.event_at g.thread) }

  -- an old place of the transaction will do
  old_place : (x : Transaction) (j : ℕ) → Reaches trace (suc n) x j → (i : ℕ) × (i < n) × (transaction trace i ≡ x) × Reach trace (suc n) i j
  old_place x j r = ⊎_elim (λ l. (r.from, l, r.inside, r.reach)) at_end (cases_lt r.from n)
    where
      s : Begun trace t n
      s = start trace n t ok closing

      at_end : n ≤ r.from → (i : ℕ) × (i < n) × (transaction trace i ≡ x) × Reach trace (suc n) i j
      at_end le =
          let place : r.from ≡ n = omega (arith, reach_from_within trace (suc n) r.from j r.reach) in
          let of_last = last_in trace n t ok closing in
          let of_start = start_in trace n t ok closing in
          let l = s.before in
          let to_end : Reach trace (suc n) s.place n = back s.place n (stay (omega arith)) (of_start ∙ sym of_last) (subst (HasEnded trace (suc n)) (sym of_start) (closed_ended trace n t ok closing)) (omega arith) in
          (s.place, l, of_start ∙ sym of_last ∙ ap (transaction trace) (sym place) ∙ r.inside, reach_trans trace (suc n) s.place n j to_end (subst (λ i. Reach trace (suc n) i j) place r.reach))

  -- what reaches the end reached the block
  pub reaches_to_end : (x : Transaction) → Reaches trace (suc n) x n → Reaches trace n x last.place
  reaches_to_end x r = let i = old_place x n r in go i.0 i.2 (reach_closing trace n t ok closing i.0 n i.3 i.1)
    where
      go : (i : ℕ) → transaction trace i ≡ x → Closing trace n t ok closing i n → Reaches trace n x last.place
      go i h (inl p) = absurd (omega (arith, p.0))
      go i h (inr p) = into_from x i h p.0

  -- what reaches an old place reached it, or reached the block, and the block reached the place
  pub reaches_after : (x : Transaction) (j : ℕ) → j < n → Reaches trace (suc n) x j → Reaches trace n x j ⊎ (Reaches trace n x last.place × Reaches trace n block j)
  reaches_after x j l r = let i = old_place x j r in go i.0 i.2 (reach_closing trace n t ok closing i.0 j i.3 i.1)
    where
      go : (i : ℕ) → transaction trace i ≡ x → Closing trace n t ok closing i j → Reaches trace n x j ⊎ (Reaches trace n x last.place × Reaches trace n block j)
      go i h (inl p) = inl (record { from = i; inside = h; reach = p.1 })
      go i h (inr (to, inl inside)) = inr (into_from x i h to, record { from = j; inside = inside; reach = stay l })
      go i h (inr (to, inr w)) = inr (into_from x i h to, w)

  -- and the other way round
  pub reaches_end : (x : Transaction) → Reaches trace n x last.place → Reaches trace (suc n) x n
  reaches_end x r = record { from = r.from; inside = r.inside; reach = reach_from_closing trace n t ok closing r.from n (inr ((last.place, last_inside, r.reach), inl (last_in trace n t ok closing))) (omega arith) }

  pub reaches_through : (x : Transaction) (j : ℕ) → Reaches trace n x last.place → Reaches trace n block j → Reaches trace (suc n) x j
  reaches_through x j r w =
      let l = reach_within trace n w.from j w.reach in
      record { from = r.from; inside = r.inside; reach = reach_from_closing trace n t ok closing r.from j (inr ((last.place, last_inside, r.reach), inr w)) (omega arith) }

-- the clock joined with C where it counts the block
module _ (C : Clock) (t b : ℕ) (K : Clock) (u : ℕ) where
  end_clock_if : (c : Bool) → nat_le b (K t) ≡ c → end_clock C t b K u ≡ (if c then max (K u) (C u) else K u)
  end_clock_if c h = ap (λ d. if d then max (K u) (C u) else K u) h

  end_clock_above : K u ≤ end_clock C t b K u
  end_clock_above = ⊎_elim (λ h. omega (arith, end_clock_if true h)) (λ h. omega (arith, end_clock_if false h)) (cases_Bool (nat_le b (K t)))

  end_clock_joined : b ≤ K t → C u ≤ end_clock C t b K u
  end_clock_joined h = omega (arith, end_clock_if true (le-leb b (K t) h))

  end_clock_cases : (k : ℕ) → k ≤ end_clock C t b K u → (k ≤ K u) ⊎ ((b ≤ K t) × (k ≤ C u))
  end_clock_cases k le =
      ⊎_elim
      (λ h. ⊎_elim (λ l. inl (omega arith)) (λ l. inr (leb-true b (K t) h, omega (arith, end_clock_if true h))) (cases_lt k (suc (K u))))
      (λ h. inl (omega (arith, end_clock_if false h)))
      (cases_Bool (nat_le b (K t)))

  end_clock_same : K t < b → end_clock C t b K u ≡ K u
  end_clock_same h = end_clock_if false (lt-leb b (K t) h)

-- an end is the last event of its thread alone
end_slot : (s : Slot) (e : Numbered) → is_end e.what ≡ true → of_slot s e ≡ true → s ≡ OfThread e.thread
end_slot (OfThread t) e h b = ⊎_elim (λ k. ap OfThread (sym k)) (λ k. let z = ap is_end k in cc) (of_thread t e b)
end_slot (LastWrite x) e h b = let z = ap is_end (write_is x e.what b) in cc
end_slot (LastRead x t) e h b = let z = ap is_end (read_is x e.what (and_parts (e.thread == t) (is_read_of x e.what) b).1) in cc
end_slot (LastRelease l) e h b = let z = ap is_end (release_is l e.what b) in cc

-- event e ends its thread's block
module _ (trace : List Numbered) (ok : IsWellFormed trace) (n : ℕ) (e : Numbered) (at : slice_get trace n ≡ Some e) (closing : closes trace e.thread n ≡ true) (clocks : Slot → Clock) where
  is_an_end : is_end e.what ≡ true
  is_an_end =
      let f = is_by e.thread is_end (slice_get trace n) (and_parts _ _ closing).0 in
      ap (λ (a : Numbered). is_end a.what) (same_Some e f.event (sym at ∙ f.at)) ∙ f.passes

  abbrev C : Clock
  C = clocks (OfThread e.thread)

  abbrev b : ℕ
  b = blocks trace e.thread n

  abbrev l : Latest trace n e.thread
  l = last trace ok n e.thread closing

  -- where the slots' clocks were sound, they are sound after the end
  pub sound_after_end : AreSound trace n clocks → AreSound trace (suc n) (end_clocks trace n e.thread clocks)
  sound_after_end sound = record { at_last = λ s q h. sound_from trace (suc n) (end_clocks trace n e.thread clocks s) q (λ u k pos le. ⊎_elim (at_new s q h u k pos le) (at_old s q h u k pos le) (cases_Bool (of_slot s e))); at_none = at_none }
    where
      own_sound : (u k : ℕ) → 0 < k → k ≤ C u → Reaches trace n (Block u k) l.place
      own_sound = sound_reaches trace n C l.place (sound.at_last (OfThread e.thread) l.place l.last)

      at_new : (s : Slot) (q : ℕ) → last_event trace (suc n) s ≡ Some q → (u k : ℕ) → 0 < k → k ≤ end_clocks trace n e.thread clocks s u → of_slot s e ≡ true → Reaches trace (suc n) (Block u k) q
      at_new s q h u k pos le own =
          let same = end_slot s e is_an_end own in
          let place = same_Some n q (sym (last_new (of_slot s) trace n e at own) ∙ h) in
          let counted : k ≤ C u = ⊎_elim (λ m. subst (λ r. k ≤ clocks r u) same m) (λ m. m.1) (end_clock_cases C e.thread b (clocks s) u k le) in
          subst (Reaches trace (suc n) (Block u k)) place (reaches_end trace ok n e.thread closing (Block u k) (own_sound u k pos counted))

      at_old : (s : Slot) (q : ℕ) → last_event trace (suc n) s ≡ Some q → (u k : ℕ) → 0 < k → k ≤ end_clocks trace n e.thread clocks s u → of_slot s e ≡ false → Reaches trace (suc n) (Block u k) q
      at_old s q h u k pos le other =
          let old = sound_reaches trace n (clocks s) q (sound.at_last s q (sym (last_kept (of_slot s) trace n e at other) ∙ h)) in
          ⊎_elim
          (λ m. reaches_more trace n (Block u k) q (old u k pos m))
          (λ m. reaches_through trace ok n e.thread closing (Block u k) q (own_sound u k pos m.1) (old e.thread b (block_number trace ok n e.thread closing) m.0))
          (end_clock_cases C e.thread b (clocks s) u k le)

      at_none : (s : Slot) (u : ℕ) → last_event trace (suc n) s ≡ None → end_clocks trace n e.thread clocks s u ≡ 0
      at_none s u h =
          ⊎_elim
          (λ own. let new = last_new (of_slot s) trace n e at own in cc)
          (λ other.
          let old = sym (last_kept (of_slot s) trace n e at other) ∙ h in
          end_clock_same C e.thread b (clocks s) u (omega (arith, sound.at_none s e.thread old, block_number trace ok n e.thread closing)) ∙ sound.at_none s u old)
          (cases_Bool (of_slot s e))

  -- where the slots' clocks were complete, they are complete after the end
  pub complete_after_end : MissNothing trace n clocks → MissNothing trace (suc n) (end_clocks trace n e.thread clocks)
  complete_after_end complete = record { at_last = λ s q h. complete_from trace (suc n) (end_clocks trace n e.thread clocks s) q (λ u k r. ⊎_elim (at_new s q h u k r) (at_old s q h u k r) (cases_Bool (of_slot s e))) }
    where
      own_complete : (u k : ℕ) → Reaches trace n (Block u k) l.place → k ≤ C u
      own_complete = complete_counts trace n C l.place (complete.at_last (OfThread e.thread) l.place l.last)

      at_new : (s : Slot) (q : ℕ) → last_event trace (suc n) s ≡ Some q → (u k : ℕ) → Reaches trace (suc n) (Block u k) q → of_slot s e ≡ true → k ≤ end_clocks trace n e.thread clocks s u
      at_new s q h u k r own =
          let same = end_slot s e is_an_end own in
          let place = same_Some q n (sym h ∙ last_new (of_slot s) trace n e at own) in
          let counted = own_complete u k (reaches_to_end trace ok n e.thread closing (Block u k) (subst (Reaches trace (suc n) (Block u k)) place r)) in
          omega (arith, subst (λ z. k ≤ clocks z u) (sym same) counted, end_clock_above C e.thread b (clocks s) u)

      at_old : (s : Slot) (q : ℕ) → last_event trace (suc n) s ≡ Some q → (u k : ℕ) → Reaches trace (suc n) (Block u k) q → of_slot s e ≡ false → k ≤ end_clocks trace n e.thread clocks s u
      at_old s q h u k r other = ⊎_elim direct through (reaches_after trace ok n e.thread closing (Block u k) q (is_last (of_slot s) trace n q last_old).below r)
        where
          last_old : last_event trace n s ≡ Some q
          last_old = sym (last_kept (of_slot s) trace n e at other) ∙ h

          old : (v m : ℕ) → Reaches trace n (Block v m) q → m ≤ clocks s v
          old = complete_counts trace n (clocks s) q (complete.at_last s q last_old)

          direct : Reaches trace n (Block u k) q → k ≤ end_clocks trace n e.thread clocks s u
          direct r = omega (arith, old u k r, end_clock_above C e.thread b (clocks s) u)

          through : Reaches trace n (Block u k) l.place × Reaches trace n (block trace ok n e.thread closing) q → k ≤ end_clocks trace n e.thread clocks s u
          through p = omega (arith, own_complete u k p.0, end_clock_joined C e.thread b (clocks s) u (old e.thread b p.1))

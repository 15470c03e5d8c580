-- The judgement of an event that is not an outermost end.
use Rattle.std.proofs.Common.{◌≡◌, ℕ, suc, ◌<◌, ◌≤◌, ◌⊎◌, inl, inr, ⊎_elim, List, Some, refl, sym, ap, ◌∙◌, subst, arith}
use Rattle.std.specs.Prelude.{false, slice_get}
use Rattle.std.proofs.lemmas.Bool.{cases_lt}
use Rattle.std.proofs.lemmas.Option.{same_Some}
use Rattle.aero_model.specs.declared.numbered.Numbered.{Numbered}
use Rattle.aero_model.specs.Blocks.{depth, closes, blocks, Transaction, Block, Unary, transaction}
use Rattle.aero_model.specs.Graph.{Conflict}
use Rattle.aero_model.specs.Shape.{IsWellFormed}
use Rattle.aero_model.proofs.Reach.{Reach, stay, on, reach_trans, reach_within, reach_from_within, reach_more}
use Rattle.aero_model.proofs.Places.{IsIn, in_block, in_unary, block_from}
use Rattle.aero_model.proofs.Depths.{AtOpening}
use Rattle.aero_model.proofs.Ends.{in_cases, deep_in}
use Rattle.aero_model.proofs.Begins.{blocks_rise, open_number}
use Rattle.aero_model.proofs.Next.{reach_from_last, reach_before, reach_last}
use Rattle.aero_model.proofs.Walks.{Returns}
use Rattle.aero_engine.specs.declared.slot.Slot.{Slot}
use Rattle.aero_engine.specs.declared.slot.Slot.TheVariants.{OfThread}
use Rattle.aero_engine.specs.Slots.{last_event}
use Rattle.aero_engine.specs.Clocks.{Clock, AreSound, MissNothing}
use Rattle.aero_engine.specs.Judgement.{IsJudged}
use Rattle.aero_engine.proofs.Sources.{latest, latest_open, acted_by_block}
use Rattle.aero_engine.proofs.Taken.{IsForeign, Found, Stand}
use Rattle.aero_engine.proofs.Counts.{sound_reaches, complete_counts}
use Rattle.aero_engine.proofs.Steps.{counted}

module _ (trace : List Numbered) (n : ℕ) (e : Numbered) (at : slice_get trace n ≡ Some e) where
  abbrev pub own_block : Transaction
  own_block = Block e.thread (blocks trace e.thread n)

  -- the event is in its thread's open block
  pub in_open : 0 < depth trace e.thread n → transaction trace n ≡ own_block
  in_open d =
      let inside = deep_in trace e.thread n e at refl d in
      let number : blocks trace e.thread n ≡ blocks trace e.thread (suc n) =
      ⊎_elim (λ o. absurd (omega (arith, o.before))) (λ c. c.1) (in_cases trace e.thread n (blocks trace e.thread (suc n)) inside) in
      block_from trace n e.thread (blocks trace e.thread (suc n)) inside ∙ ap (Block e.thread) (sym number)

  -- a transaction of the event and of an earlier one is that block
  pub old_of_event : (x : Transaction) (i : ℕ) → i < n → transaction trace i ≡ x → transaction trace n ≡ x → (0 < depth trace e.thread n) × (x ≡ own_block)
  old_of_event (Unary p) i l old new = absurd (omega (arith, in_unary trace i p old, in_unary trace n p new))
  old_of_event (Block u k) i l old new = subst (λ v. (0 < depth trace v n) × (Block u k ≡ Block v (blocks trace v n))) (sym same) (go (in_cases trace u n k b))
    where
      a : IsIn trace i u k
      a = in_block trace i u k old

      b : IsIn trace n u k
      b = in_block trace n u k new

      same : e.thread ≡ u
      same = ap (λ (c : Numbered). c.thread) (same_Some e b.event (sym at ∙ b.event_at)) ∙ b.thread

      go : AtOpening trace u n ⊎ ((0 < depth trace u n) × (blocks trace u n ≡ k)) → (0 < depth trace u n) × (Block u k ≡ Block u (blocks trace u n))
      go (inl o) = absurd (omega (arith, a.number, b.number, o.number, blocks_rise trace u (suc i) n l))
      go (inr c) = (c.0, ap (Block u) (sym c.1))

module _ (trace : List Numbered) (ok : IsWellFormed trace) (n : ℕ) (e : Numbered) (at : slice_get trace n ≡ Some e) (clocks : Slot → Clock) (ss : List Slot) (st : Stand trace n e ss) where
  -- sound clocks judge only where the open block reaches out of itself and back
  pub returns_from_judged : AreSound trace n clocks → IsJudged trace n e.thread clocks ss → Returns trace (suc n) (own_block trace n e at)
  returns_from_judged sound j =
      let q = counted trace n e at clocks ss st sound j.slot e.thread (blocks trace e.thread n) (open_number trace e.thread n j.is_open) j.counted in
      let c = st.each j.slot q.0 j.among q.1 in
      let r = sound_reaches trace n (clocks j.slot) q.0 (sound.at_last j.slot q.0 q.1) e.thread (blocks trace e.thread n) (open_number trace e.thread n j.is_open) j.counted in
      let f : IsForeign trace q.0 e.thread = ⊎_elim (λ h. absurd (j.other h)) (λ f. f) c.1 in
      record {
        from = r.from;
        outside = q.0;
        to = n;
        from_in = r.inside;
        outside_in = λ h. let b = in_block trace q.0 e.thread (blocks trace e.thread n) h in f.other (ap (λ (a : Numbered). a.thread) (same_Some f.event b.event (sym f.event_at ∙ b.event_at)) ∙ b.thread);
        to_in = in_open trace n e at j.is_open;
        out = reach_more trace n (suc n) r.from q.0 (omega arith) r.reach;
        home = let conflict = c.0 in on q.0 n (stay (omega (arith, conflict.earlier))) conflict (omega arith);
      }

  -- the latest event of the thread is not another's
  own_is_own : (q : ℕ) → 0 < depth trace e.thread n → last_event trace n (OfThread e.thread) ≡ Some q → IsForeign trace q e.thread → ⊥
  own_is_own q d h f =
      let k = latest trace ok n e.thread (acted_by_block trace n e.thread (open_number trace e.thread n d)) in
      let place = same_Some k.place q (sym k.last ∙ h) in
      f.other (ap (λ (a : Numbered). a.thread) (same_Some f.event k.event (sym f.event_at ∙ ap (slice_get trace) (sym place) ∙ k.event_at)) ∙ k.thread)

  -- where nothing returned before, complete clocks judge wherever something returns now
  pub judged_from_returns : MissNothing trace n clocks → ((t : ℕ) → closes trace t n ≡ false) → ((x : Transaction) → Returns trace n x → ⊥) → (x : Transaction) → Returns trace (suc n) x → (x ≡ own_block trace n e at) × IsJudged trace n e.thread clocks ss
  judged_from_returns complete quiet none x c = ⊎_elim (λ l. absurd (old_home c.to c.to_in (reach_before trace n quiet c.outside c.to c.home l))) at_end (cases_lt c.to n)
    where
      outside_below : c.outside < n
      outside_below =
          ⊎_elim
          (λ l. l)
          (λ le.
          let place : c.outside ≡ n = omega (arith, reach_within trace (suc n) c.from c.outside c.out) in
          absurd (c.outside_in (ap (transaction trace) (place ∙ sym (reach_from_last trace n quiet c.outside c.to c.home place)) ∙ c.to_in)))
          (cases_lt c.outside n)

      out : Reach trace n c.from c.outside
      out = reach_before trace n quiet c.from c.outside c.out outside_below

      -- an old way home
      old_home : (j : ℕ) → transaction trace j ≡ x → Reach trace n c.outside j → ⊥
      old_home j h home = none x (record { from = c.from; outside = c.outside; to = j; from_in = c.from_in; outside_in = c.outside_in; to_in = h; out = out; home = home })

      at_end : n ≤ c.to → (x ≡ own_block trace n e at) × IsJudged trace n e.thread clocks ss
      at_end le = (o.1, ⊎_elim of_own of_other (st.each f.slot f.place f.among f.last).1)
        where
          place : c.to ≡ n
          place = omega (arith, reach_within trace (suc n) c.outside c.to c.home)

          p : (p : ℕ) × Reach trace n c.outside p × Conflict trace p n
          p = reach_last trace n quiet c.outside c.to c.home outside_below place

          f : Found trace n ss p.0
          f = st.all p.0 p.2

          home : Reach trace n c.outside f.place
          home = reach_trans trace n c.outside p.0 f.place p.1 f.reach

          o : (0 < depth trace e.thread n) × (x ≡ own_block trace n e at)
          o = old_of_event trace n e at x c.from (reach_from_within trace n c.from c.outside out) c.from_in (ap (transaction trace) (sym place) ∙ c.to_in)

          of_own : f.slot ≡ OfThread e.thread → IsJudged trace n e.thread clocks ss
          of_own same =
              let k = latest trace ok n e.thread (acted_by_block trace n e.thread (open_number trace e.thread n o.0)) in
              let last = subst (λ s. last_event trace n s ≡ Some f.place) same f.last in
              let here = same_Some f.place k.place (sym last ∙ k.last) in
              absurd (old_home f.place (ap (transaction trace) here ∙ latest_open trace n e.thread k o.0 ∙ sym o.1) home)

          of_other : IsForeign trace f.place e.thread → IsJudged trace n e.thread clocks ss
          of_other g = record {
            is_open = o.0;
            slot = f.slot;
            among = f.among;
            other = λ same. own_is_own f.place o.0 (subst (λ s. last_event trace n s ≡ Some f.place) same f.last) g;
            counted = complete_counts trace n (clocks f.slot) f.place (complete.at_last f.slot f.place f.last) e.thread (blocks trace e.thread n) (record { from = c.from; inside = c.from_in ∙ o.1; reach = reach_trans trace n c.from c.outside f.place out home });
          }

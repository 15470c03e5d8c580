-- The clock of a thread just after the begin of its open block.
use Rattle.std.proofs.Common.{◌≡◌, ◌↔◌, ◌⊎◌, inl, inr, ℕ, suc, ◌<◌, ◌≤◌, ⊎_elim, List, Some, refl, sym, ◌∙◌, arith}
use Rattle.std.specs.Prelude.{true, slice_get}
use Rattle.std.proofs.lemmas.Bool.{cases_lt}
use Rattle.aero_model.specs.declared.numbered.Numbered.{Numbered}
use Rattle.aero_model.specs.Blocks.{depth, opens, blocks, Block}
use Rattle.aero_model.specs.Graph.{same_thread}
use Rattle.aero_model.proofs.Reach.{Reach, reach_trans, reach_from_within}
use Rattle.aero_model.proofs.Places.{in_block}
use Rattle.aero_model.proofs.Depths.{opening_at, step, AtOpening, AtClosing, AtOther}
use Rattle.aero_model.proofs.Ends.{begin_in}
use Rattle.aero_model.proofs.Begins.{blocks_rise, open_number}
use Rattle.aero_model.proofs.Walks.{Reaches}
use Rattle.aero_engine.specs.declared.slot.Slot.{Slot}
use Rattle.aero_engine.specs.Clocks.{Clock, IsSound, MissesNothing, AreSound, MissNothing, IsBeginClock, greatest, new_clock}
use Rattle.aero_engine.proofs.Sources.{reach_later}
use Rattle.aero_engine.proofs.Taken.{Stand}
use Rattle.aero_engine.proofs.Counts.{sound_reaches, sound_from, complete_counts, reaches_on, reaches_more}
use Rattle.aero_engine.proofs.Steps.{sound_new, complete_begun}

-- what the block reaches, its begin reaches
begin_reaches : (trace : List Numbered) (n t : ℕ) (K : Clock) (b : IsBeginClock trace n t K) (q : ℕ) → Reaches trace n (Block t (blocks trace t n)) q → Reach trace n b.place q
begin_reaches trace n t K b q r =
    let g = in_block trace r.from t (blocks trace t n) r.inside in
    let o = opening_at trace t b.place b.begun in
    let f = begin_in trace t b.place o in
    let below = reach_from_within trace n r.from q r.reach in
    let le : b.place ≤ r.from =
    ⊎_elim
    (λ k. absurd (omega (arith, g.number, b.number, o.number, blocks_rise trace t (suc r.from) b.place k)))
    (λ k. k)
    (cases_lt r.from b.place)
    in
    reach_trans trace n b.place r.from q
    (reach_later trace n b.place r.from f.event g.event le below f.event_at g.event_at (λ _. same_thread (f.thread ∙ sym g.thread)))
    r.reach

-- a clock is at least the begin clock in every place exactly where it counts the block
pub begin_clock_at_most : (trace : List Numbered) (n t : ℕ) (K L : Clock) (q : ℕ) → IsBeginClock trace n t K → IsSound trace n L q → MissesNothing trace n L q → ((u : ℕ) → K u ≤ L u) ↔ (blocks trace t n ≤ L t)
begin_clock_at_most trace n t K L q b sound complete = (λ h. omega (arith, b.counts, h t), at_most)
  where
    at_most : blocks trace t n ≤ L t → (u : ℕ) → K u ≤ L u
    at_most counted u =
        let r = begin_reaches trace n t K b q (sound_reaches trace n L q sound t (blocks trace t n) (open_number trace t n b.is_open) counted) in
        ⊎_elim
        (λ pos. complete_counts trace n L q complete u (K u) (reaches_on trace n (Block u (K u)) b.place q (sound_reaches trace n K b.place b.sound u (K u) pos (omega arith)) r))
        (λ z. omega arith)
        (cases_lt 0 (K u))

-- the actor's clock after an outermost begin is the begin clock
pub begin_clock_new : (trace : List Numbered) (n : ℕ) (e : Numbered) (at : slice_get trace n ≡ Some e) (clocks : Slot → Clock) (ss : List Slot) → Stand trace n e ss → AreSound trace n clocks → MissNothing trace n clocks → opens trace e.thread n ≡ true → IsBeginClock trace (suc n) e.thread (new_clock trace n e.thread (greatest clocks ss))
begin_clock_new trace n e at clocks ss st sound complete o =
    let up = opening_at trace e.thread n o in
    record {
      is_open = omega (arith, up.after);
      place = n;
      below = omega arith;
      begun = o;
      number = refl;
      sound = sound_new trace n e at clocks ss st sound;
      counts = complete_begun trace n e at clocks ss st complete;
    }

-- it stays so while the block is open
pub begin_clock_kept : (trace : List Numbered) (n t : ℕ) (K : Clock) → IsBeginClock trace n t K → 0 < depth trace t (suc n) → IsBeginClock trace (suc n) t K
begin_clock_kept trace n t K b still = go (step trace t n)
  where
    kept : blocks trace t (suc n) ≡ blocks trace t n → IsBeginClock trace (suc n) t K
    kept same =
        record {
          is_open = still;
          place = b.place;
          below = omega (arith, b.below);
          begun = b.begun;
          number = b.number ∙ sym same;
          sound = sound_from trace (suc n) K b.place (λ u k pos le. reaches_more trace n (Block u k) b.place (sound_reaches trace n K b.place b.sound u k pos le));
          counts = omega (arith, b.counts);
        }

    go : AtOpening trace t n ⊎ (AtClosing trace t n ⊎ AtOther trace t n) → IsBeginClock trace (suc n) t K
    go (inl s) = absurd (omega (arith, b.is_open))
    go (inr (inl s)) = absurd (omega arith)
    go (inr (inr s)) = kept s.number

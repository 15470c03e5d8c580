-- The judgement of an outermost end.
use Rattle.std.proofs.Common.{◌≡◌, ◌≢◌, ℕ, suc, ◌<◌, ◌⊎◌, inl, inr, ⊎_elim, List, sym, ap, ◌∙◌, subst, arith}
use Rattle.std.specs.Prelude.{Bool, true, slice_get}
use Rattle.std.proofs.lemmas.Bool.{cases_eq, and_parts}
use Rattle.std.proofs.lemmas.Option.{same_Some}
use Rattle.aero_model.specs.declared.numbered.Numbered.{Numbered}
use Rattle.aero_model.specs.declared.numbered.What.{What}
use Rattle.aero_model.specs.Blocks.{is_begin, is_end, by_thread, depth, closes, blocks, Transaction, Block, Unary, transaction, IsOpen}
use Rattle.aero_model.specs.Graph.{BeginsCycle}
use Rattle.aero_model.specs.Shape.{IsWellFormed}
use Rattle.aero_model.proofs.Reach.{Reach, stay, reach_trans, reach_within, reach_from_within, reach_more}
use Rattle.aero_model.proofs.Places.{in_block}
use Rattle.aero_model.proofs.Depths.{AtOpening, AtClosing, AtOther, step, closing_at}
use Rattle.aero_model.proofs.Ends.{is_by, open_deep}
use Rattle.aero_model.proofs.Begins.{open_number}
use Rattle.aero_model.proofs.Next.{not_last, Closing, reach_closing, closed_reaches, reach_from_closing}
use Rattle.aero_model.proofs.Walks.{Reaches, Returns, begins_from_returns}
use Rattle.aero_model.proofs.Cycles.{begins_open}
use Rattle.aero_engine.specs.declared.slot.Slot.{Slot}
use Rattle.aero_engine.specs.declared.slot.Slot.TheVariants.{OfThread}
use Rattle.aero_engine.specs.Clocks.{Clock, AreSound, MissNothing}
use Rattle.aero_engine.specs.Judgement.{IsJudgedAtEnd}
use Rattle.aero_engine.proofs.Sources.{Latest, latest, reach_latest, latest_open, acted_by_block}
use Rattle.aero_engine.proofs.Counts.{sound_reaches, complete_counts, reaches_on}
use Rattle.aero_engine.proofs.EndSteps.{block, block_number, last, last_inside, into_from}

-- the end of one thread's block leaves another thread's depth and number of blocks
still_before : (trace : List Numbered) (n t u : ℕ) → closes trace t n ≡ true → u ≢ t → 0 < depth trace u (suc n) → (0 < depth trace u n) × (blocks trace u (suc n) ≡ blocks trace u n)
still_before trace n t u closing other d = go (step trace u n)
  where
    -- the event is of thread t
    not_by : (test : What → Bool) → by_thread u test (slice_get trace n) ≡ true → ⊥
    not_by test h =
        let f = is_by t is_end (slice_get trace n) (and_parts _ _ closing).0 in
        let g = is_by u test (slice_get trace n) h in
        other (sym g.thread ∙ ap (λ (a : Numbered). a.thread) (same_Some g.event f.event (sym g.at ∙ f.at)) ∙ f.thread)

    go : AtOpening trace u n ⊎ (AtClosing trace u n ⊎ AtOther trace u n) → (0 < depth trace u n) × (blocks trace u (suc n) ≡ blocks trace u n)
    go (inl s) = absurd (not_by is_begin (and_parts _ _ s.opens).0)
    go (inr (inl s)) = absurd (omega arith)
    go (inr (inr s)) = (⊎_elim (λ z. absurd (omega (arith, s.outside z))) (λ z. omega arith) (cases_eq (depth trace u n) 0), s.number)

module _ (trace : List Numbered) (ok : IsWellFormed trace) (n t : ℕ) (closing : closes trace t n ≡ true) where
  abbrev l : Latest trace n t
  l = last trace ok n t closing

  abbrev ended : Transaction
  ended = block trace ok n t closing

  -- where x returned by no old way, it reached the block that ends, and that block reached x
  ways : (x : Transaction) → (Returns trace n x → ⊥) → x ≢ ended → (c : Returns trace (suc n) x) → Reaches trace n x l.place × Reaches trace n ended c.to
  ways x none apart c = go (reach_closing trace n t ok closing c.from c.outside c.out from_below)
    where
      from_below : c.from < n
      from_below = not_last trace n t ok closing c.from (λ h. apart (sym c.from_in ∙ h)) (reach_from_within trace (suc n) c.from c.outside c.out)

      to_outside : transaction trace c.to ≢ ended
      to_outside h = apart (sym c.to_in ∙ h)

      home : Closing trace n t ok closing c.outside c.to → Reach trace n c.from c.outside → Reaches trace n x l.place × Reaches trace n ended c.to
      home (inl (less, q)) p = absurd (none (record { from = c.from; outside = c.outside; to = c.to; from_in = c.from_in; outside_in = c.outside_in; to_in = c.to_in; out = p; home = q }))
      home (inr (to, inl inside)) p = absurd (to_outside inside)
      home (inr ((b, inside, q), inr w)) p = (into_from trace ok n t closing x c.from c.from_in (b, inside, reach_trans trace n c.from c.outside b p q), w)

      go : Closing trace n t ok closing c.from c.outside → Reaches trace n x l.place × Reaches trace n ended c.to
      go (inl (less, p)) = home (reach_closing trace n t ok closing c.outside c.to c.home less) p
      go (inr (to, inl inside)) = (into_from trace ok n t closing x c.from c.from_in to, closed_reaches trace n t ok closing c.outside c.to inside c.home to_outside)
      go (inr (to, inr w)) =
          let on_to = reach_trans trace (suc n) w.from c.outside c.to (reach_more trace n (suc n) w.from c.outside (omega arith) w.reach) c.home in
          (into_from trace ok n t closing x c.from c.from_in to, closed_reaches trace n t ok closing w.from c.to w.inside on_to to_outside)

  module _ (clocks : Slot → Clock) where
    -- where nothing returned before, complete clocks judge wherever something returns now
    pub judged_from_returns_at_end : MissNothing trace n clocks → ((x : Transaction) → BeginsCycle trace n x → ⊥) → (x : Transaction) → Returns trace (suc n) x → (u : ℕ) × (x ≡ Block u (blocks trace u n)) × IsJudgedAtEnd trace n t clocks u
    judged_from_returns_at_end complete none x c = go x c (begins_open trace n ok none x (begins_from_returns trace (suc n) x c))
      where
        go : (x : Transaction) → Returns trace (suc n) x → IsOpen trace (suc n) x → (u : ℕ) × (x ≡ Block u (blocks trace u n)) × IsJudgedAtEnd trace n t clocks u
        go (Unary p) c o = absurd (o.1 tt)
        go (Block u k) c o =
            let d = open_deep trace (suc n) u k o in
            let after = (closing_at trace t n closing).after in
            let other : u ≢ t = λ h. absurd (omega (arith, d.0, ap (λ v. depth trace v (suc n)) h)) in
            let s = still_before trace n t u closing other d.0 in
            let number : k ≡ blocks trace u n = sym d.1 ∙ s.1 in
            let w = ways (Block u k) (λ r. none (Block u k) (begins_from_returns trace n (Block u k) r)) (λ h. other (let same : u ≡ t = cc in same)) c in
            let v = latest trace ok n u (acted_by_block trace n u (open_number trace u n s.0)) in
            let g = in_block trace c.to u k c.to_in in
            let back = w.1 in
            let to_latest = reach_latest trace n u v c.to g.event (reach_within trace n back.from c.to back.reach) g.event_at g.thread in (
              u,
              ap (Block u) number,
              record {
                other = other;
                is_open = s.0;
                taken = complete_counts trace n (clocks (OfThread t)) l.place (complete.at_last (OfThread t) l.place l.last) u (blocks trace u n) (subst (λ m. Reaches trace n (Block u m) l.place) number w.0);
                given = complete_counts trace n (clocks (OfThread u)) v.place (complete.at_last (OfThread u) v.place v.last) t (blocks trace t n) (reaches_on trace n ended c.to v.place back to_latest);
              },
            )

    -- sound clocks judge only where the open block reaches out of itself and back
    pub returns_from_judged_at_end : AreSound trace n clocks → (u : ℕ) → IsJudgedAtEnd trace n t clocks u → Returns trace (suc n) (Block u (blocks trace u n))
    returns_from_judged_at_end sound u j =
        let v = latest trace ok n u (acted_by_block trace n u (open_number trace u n j.is_open)) in
        let into = sound_reaches trace n (clocks (OfThread t)) l.place (sound.at_last (OfThread t) l.place l.last) u (blocks trace u n) (open_number trace u n j.is_open) j.taken in
        let back = sound_reaches trace n (clocks (OfThread u)) v.place (sound.at_last (OfThread u) v.place v.last) t (blocks trace t n) (block_number trace ok n t closing) j.given in
        let inside = last_inside trace ok n t closing in
        record {
          from = into.from;
          outside = l.place;
          to = v.place;
          from_in = into.inside;
          outside_in = λ h. j.other (let e = sym inside ∙ h in let same : u ≡ t = cc in same);
          to_in = latest_open trace n u v j.is_open;
          out = reach_more trace n (suc n) into.from l.place (omega arith) into.reach;
          home = reach_from_closing trace n t ok closing l.place v.place (inr ((l.place, inside, stay (let k = l in k.below)), inr back)) (omega (arith, reach_within trace n back.from v.place back.reach));
        }

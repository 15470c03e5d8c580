-- What the rows name is what the clocks name, and so what is to be told.
use Rattle.std.proofs.Common.{◌≡◌, ◌≢◌, ◌↔◌, ℕ, ◌<◌, ◌≤◌, ◌⊎◌, ⊎_elim, List, Option, Some, None, refl, sym, ap, ◌∙◌, subst, arith}
use Rattle.std.specs.Prelude.{true, false, is_some, slice_get, Contains}
use Rattle.std.proofs.lemmas.Option.{same_Some, slice_get_within}
use Rattle.aero_model.specs.declared.numbered.Numbered.{Numbered}
use Rattle.aero_model.specs.Blocks.{depth, closes, blocks, Transaction, Block}
use Rattle.aero_model.specs.Cycle.{HasTellingCycle}
use Rattle.aero_model.specs.Graph.{Conflict}
use Rattle.aero_model.specs.Shape.{IsWellFormed}
use Rattle.aero_model.proofs.Reach.{Reach}
use Rattle.aero_model.proofs.Places.{in_block}
use Rattle.aero_model.proofs.Depths.{closing_at}
use Rattle.aero_model.proofs.Begins.{open_number}
use Rattle.aero_model.proofs.Walks.{Reaches, leads_from_reaches}
use Rattle.aero_model.proofs.Telling.{none_returns}
use Rattle.aero_engine.specs.declared.slot.Slot.{Slot}
use Rattle.aero_engine.specs.declared.slot.Slot.TheVariants.{OfThread}
use Rattle.aero_engine.specs.Slots.{of_slot, last_event}
use Rattle.aero_engine.specs.Clocks.{Clock, AreSound, MissNothing, Clocked}
use Rattle.aero_engine.specs.Judgement.{IsJudged, IsJudgedAtEnd, IsTold}
use Rattle.aero_engine.specs.Judgement as clocks_say
use Rattle.aero_engine.proofs.LastEvents.{last_covers}
use Rattle.aero_engine.proofs.Sources.{latest, latest_open, acted_by_block}
use Rattle.aero_engine.proofs.Taken.{IsForeign, Found, Stand, stand}
use Rattle.aero_engine.proofs.Counts.{sound_reaches, complete_counts, reaches_on}
use Rattle.aero_engine.proofs.EveryRun.{takes_some, clocks_of_front}
use Rattle.aero_engine.proofs.Rules.{named_told, named_told_at_end, clocked_sound, clocked_complete}
use Rattle.aero_leads.specs.Leads.{Rows, is_led, AreFirst}
use Rattle.aero_leads.specs.Marks.{Mark, TakesMarks}
use Rattle.aero_leads.specs.Steps.{led_by, LeadsBack, IsClosedAtEnd}
use Rattle.aero_leads.specs.Steps as rows_say
use Rattle.aero_leads.proofs.FirstPlaces.{thread_chain, first_some, first_of, led_reaches, reaches_led}
use Rattle.aero_leads.proofs.Marked.{ReachesOwn, ReachesMark, ReachesPassed, Stood, IsTaken, taken_place, last_place, stood}
use Rattle.aero_leads.proofs.EventRows.{led_mark, mark_led}

module _ (trace : List Numbered) (ok : IsWellFormed trace) (n : ℕ) (rows : Rows) (first : AreFirst trace n rows) (clocks : Slot → Clock) (sound : AreSound trace n clocks) (complete : MissNothing trace n clocks) where
  -- a slot whose clock counts an open block has a last event, to which the block leads
  pub counted_last : (s : Slot) (w : ℕ) → 0 < depth trace w n → blocks trace w n ≤ clocks s w → (q : ℕ) × (last_event trace n s ≡ Some q) × Reaches trace n (Block w (blocks trace w n)) q
  counted_last s w d le = go (last_event trace n s) refl
    where
      go : (o : Option ℕ) → last_event trace n s ≡ o → (q : ℕ) × (last_event trace n s ≡ Some q) × Reaches trace n (Block w (blocks trace w n)) q
      go None h = absurd (omega (arith, le, sound.at_none s w h, open_number trace w n d))
      go (Some q) h = (q, h, sound_reaches trace n (clocks s) q (sound.at_last s q h) w (blocks trace w n) (open_number trace w n d) le)

  pub last_counted : (s : Slot) (w q : ℕ) → last_event trace n s ≡ Some q → Reaches trace n (Block w (blocks trace w n)) q → blocks trace w n ≤ clocks s w
  last_counted s w q h r = complete_counts trace n (clocks s) q (complete.at_last s q h) w (blocks trace w n) r

  -- a thread's clock counts an open block exactly where the thread's row has it
  counted_some : (o w : ℕ) → 0 < depth trace w n → blocks trace w n ≤ clocks (OfThread o) w → is_some (rows o w) ≡ true
  counted_some o w d le =
      let q = counted_last (OfThread o) w d le in
      first_some trace n (Block w (blocks trace w n)) o (rows o w) (first.is_open o w d) q.0 (last_place trace n o q.0 q.1) q.2

  some_counted : (o w : ℕ) → 0 < depth trace w n → is_some (rows o w) ≡ true → blocks trace w n ≤ clocks (OfThread o) w
  some_counted o w d h =
      let x = Block w (blocks trace w n) in
      let p = first_of trace n x o (rows o w) (first.is_open o w d) h in
      let i = p.1 in
      let q = last_covers (of_slot (OfThread o)) trace n p.0 i.event i.event_at i.of_thread i.below in
      last_counted (OfThread o) w q.0 q.1 (reaches_on trace n x p.0 q.0 p.2 (thread_chain trace ok n o p.0 q.0 i (last_place trace n o q.0 q.1) q.2))

  -- an event that ends no block
  module _ (e : Numbered) (none : ¬ HasTellingCycle trace n) (ss : List Slot) (slots : Stand trace n e ss) (ms : List Mark) (st : Stood trace n e ms) where
    abbrev t : ℕ
    t = e.thread

    abbrev x : Transaction
    x = Block t (blocks trace t n)

    -- the open block doesn't lead to another thread's event that leads back to its own
    no_home : 0 < depth trace t n → (q p : ℕ) (f : Numbered) → Reaches trace n x q → slice_get trace q ≡ Some f → f.thread ≢ t → last_event trace n (OfThread t) ≡ Some p → Reach trace n q p → ⊥
    no_home d q p f r at_q other last home =
        let k = latest trace ok n t (acted_by_block trace n t (open_number trace t n d)) in
        let place : k.place ≡ p = same_Some k.place p (sym k.last ∙ last) in
        none_returns trace n none x (record {
          from = r.from;
          outside = q;
          to = k.place;
          from_in = r.inside;
          outside_in = λ h. let b = in_block trace q t (blocks trace t n) h in other (ap (λ (a : Numbered). a.thread) (same_Some f b.event (sym at_q ∙ b.event_at)) ∙ b.thread);
          to_in = latest_open trace n t k d;
          out = r.reach;
          home = subst (Reach trace n q) (sym place) home;
        })

    judged_closed : IsJudged trace n t clocks ss → LeadsBack trace n t rows ms
    judged_closed j = (j.is_open, ⊎_elim of_own (⊎_elim of_mark of_passed) (st.all q.0 c.0))
      where
        q : (q : ℕ) × (last_event trace n j.slot ≡ Some q) × Reaches trace n x q
        q = counted_last j.slot t j.is_open j.counted

        c : Conflict trace q.0 n × ((j.slot ≡ OfThread t) ⊎ IsForeign trace q.0 t)
        c = slots.each j.slot q.0 j.among q.1

        f : IsForeign trace q.0 t
        f = ⊎_elim (λ h. absurd (j.other h)) (λ g. g) c.1

        of_own : ReachesOwn trace n e q.0 → led_by rows t ms ≡ true
        of_own w = absurd (no_home j.is_open q.0 w.place f.event q.2 f.event_at f.other w.last w.reach)

        of_mark : ReachesMark trace n ms q.0 → led_by rows t ms ≡ true
        of_mark w =
            let m = w.it in
            mark_led rows t m ms w.among
            (reaches_led trace n x m.thread (rows m.thread t) (first.is_open m.thread t j.is_open) m.place (taken_place trace n e m (st.each m w.among)) (reaches_on trace n x q.0 m.place q.2 w.reach))

        of_passed : ReachesPassed trace n q.0 → led_by rows t ms ≡ true
        of_passed w = absurd (w.passed t j.is_open (leads_from_reaches trace n x w.place (reaches_on trace n x q.0 w.place q.2 w.reach)))

    closed_judged : LeadsBack trace n t rows ms → IsJudged trace n t clocks ss
    closed_judged (d, h) = record {
      is_open = d;
      slot = f.slot;
      among = f.among;
      other = λ same. no_home d m.place f.place taken.event r taken.event_at (λ k. taken.apart (sym taken.thread ∙ k)) (subst (λ s. last_event trace n s ≡ Some f.place) same f.last) f.reach;
      counted = last_counted f.slot t f.place f.last (reaches_on trace n x m.place f.place r f.reach);
    }
      where
        l : (m : Mark) × Contains ms m × (is_led (rows m.thread t) m.place ≡ true)
        l = led_mark rows t ms h

        m : Mark
        m = l.0

        taken : IsTaken trace n e m
        taken = st.each m l.1

        r : Reaches trace n x m.place
        r = led_reaches trace n x m.thread ok (rows m.thread t) (first.is_open m.thread t d) m.place (taken_place trace n e m taken) l.2

        f : Found trace n ss m.place
        f = slots.all m.place taken.conflict

    pub rows_clocks : (u : Option ℕ) → rows_say.IsNamed trace n t rows ms u → clocks_say.IsNamed trace n t clocks ss u
    rows_clocks None h = λ j. h (judged_closed j)
    rows_clocks (Some u) (same, h) = (same, closed_judged h)

    pub clocks_rows : (u : Option ℕ) → clocks_say.IsNamed trace n t clocks ss u → rows_say.IsNamed trace n t rows ms u
    clocks_rows None h = λ j. h (closed_judged j)
    clocks_rows (Some u) (same, h) = (same, judged_closed h)

  -- an outermost end
  module _ (t : ℕ) (closing : closes trace t n ≡ true) where
    was_open : 0 < depth trace t n
    was_open = let c = closing_at trace t n closing in omega (arith, c.before)

    judged_closed_at_end : (u : ℕ) → IsJudgedAtEnd trace n t clocks u → IsClosedAtEnd trace n t rows u
    judged_closed_at_end u j = record { other = j.other; is_open = j.is_open; into = counted_some t u j.is_open j.taken; back = counted_some u t was_open j.given }

    closed_judged_at_end : (u : ℕ) → IsClosedAtEnd trace n t rows u → IsJudgedAtEnd trace n t clocks u
    closed_judged_at_end u j = record { other = j.other; is_open = j.is_open; taken = some_counted t u j.is_open j.into; given = some_counted u t was_open j.back }

    pub rows_clocks_at_end : (u : Option ℕ) → rows_say.IsNamedAtEnd trace n t rows u → clocks_say.IsNamedAtEnd trace n t clocks u
    rows_clocks_at_end None h = λ u j. h u (judged_closed_at_end u j)
    rows_clocks_at_end (Some u) (j, least) = (closed_judged_at_end u j, λ v k. least v (judged_closed_at_end v k))

    pub clocks_rows_at_end : (u : Option ℕ) → clocks_say.IsNamedAtEnd trace n t clocks u → rows_say.IsNamedAtEnd trace n t rows u
    clocks_rows_at_end None h = λ u j. h u (closed_judged_at_end u j)
    clocks_rows_at_end (Some u) (j, least) = (judged_closed_at_end u j, λ v k. least v (closed_judged_at_end v k))

module _ (trace : List Numbered) (ok : IsWellFormed trace) (n : ℕ) (e : Numbered) (at : slice_get trace n ≡ Some e) (rows : Rows) (first : AreFirst trace n rows) (none : ¬ HasTellingCycle trace n) where
  run : (clocks : Slot → Clock) × Clocked trace n clocks
  run = clocks_of_front trace n (let l = slice_get_within trace n e at in omega arith)

  sound : AreSound trace n run.0
  sound = clocked_sound trace ok n run.0 run.1

  complete : MissNothing trace n run.0
  complete = clocked_complete trace ok n run.0 run.1

  pub rows_tell : (ms : List Mark) → TakesMarks trace n e ms → closes trace e.thread n ≡ false → (u : Option ℕ) → rows_say.IsNamed trace n e.thread rows ms u ↔ IsTold trace n u
  rows_tell ms takes no_end u =
      let s = takes_some trace n e in
      let slots = stand trace ok n e at s.0 s.1 in
      let st = stood trace ok n e at ms takes in
      let told = named_told trace ok n e at run.0 s.0 s.1 no_end sound complete none u in
      (λ h. told.0 (rows_clocks trace ok n rows first run.0 sound complete e none s.0 slots ms st u h), λ h. clocks_rows trace ok n rows first run.0 sound complete e none s.0 slots ms st u (told.1 h))

  pub rows_tell_at_end : closes trace e.thread n ≡ true → (u : Option ℕ) → rows_say.IsNamedAtEnd trace n e.thread rows u ↔ IsTold trace n u
  rows_tell_at_end closing u =
      let told = named_told_at_end trace ok n e at run.0 closing sound complete none u in
      (λ h. told.0 (rows_clocks_at_end trace ok n rows first run.0 sound complete e.thread closing u h), λ h. clocks_rows_at_end trace ok n rows first run.0 sound complete e.thread closing u (told.1 h))

-- What a read, a write, an acquire, a release and a join take.
use Rattle.std.proofs.Common.{◌≡◌, ◌≢◌, ℕ, List, [], ◌∷◌, ◌++◌, length, refl, sym, ap, ◌∙◌}
use Rattle.std.specs.Prelude.{◌&&◌, ◌||◌, not, true, false}
use Rattle.std.proofs.lemmas.Bool.{ne_eqb}
use Rattle.std.proofs.lemmas.List.{append-nil}
use Rattle.aero_model.specs.declared.numbered.Numbered.{Numbered}
use Rattle.aero_model.specs.declared.numbered.What.TheVariants.{Read, Write, Acquire, Release, Join}
use Rattle.aero_engine.specs.declared.slot.Slot.TheVariants.{LastWrite, LastRelease}
use Rattle.aero_engine.specs.Events.{event}
use Rattle.aero_engine.proofs.LongerTraces.{no_end, no_begin}
use Rattle.aero_engine.proofs.OneMore.{acted_place}
use Rattle.aero_leads.specs.declared.last.Last.{Last}
use Rattle.aero_leads.specs.Leads.{Rows}
use Rattle.aero_leads.specs.Marks.{mark}
use Rattle.aero_leads.specs.Marks as takes
use Rattle.aero_leads.specs.Steps.{led_by}
use Rattle.aero_leads.specs.Kept.{last, is_below, leads_to_any}
use Rattle.aero_leads.specs.States.{State, IsStateOf}
use Rattle.aero_leads.proofs.Lasts.{mark_at, marks_of, led_marks, if_other, are_reads}
use Rattle.aero_leads.proofs.StateSteps as steps
use Rattle.aero_leads.proofs.Placed.{below_now, led_at_last, acted_last}
use Rattle.aero_leads.proofs.Moving.{IsTaken}

one_mark : (rows : Rows) (t w : ℕ) (l : Last) → leads_to_any rows t w (l ∷ []) ≡ led_by rows w (mark_at t l.thread l.count)
one_mark rows t w l = led_marks rows t w (l ∷ []) ∙ ap (led_by rows w) (append-nil (mark_at t l.thread l.count))

pub taken_read : (old : State) (t x : ℕ) (h : List Numbered) → IsStateOf old h → IsTaken old h (event t (Read x)) (old.write x ∷ [])
taken_read old t x h stands =
    let l = old.write x in
    record {
      marks = mark_at t l.thread l.count;
      takes = takes.read x (mark_at t l.thread l.count) refl (if_other old h (event t (Read x)) stands t (LastWrite x) l (stands.write x));
      same = λ w. one_mark old.rows t w l;
      ends = no_end h t (Read x) refl;
      begins = no_begin h t (Read x) refl;
    }

pub taken_write : (old : State) (t x : ℕ) (h : List Numbered) → IsStateOf old h → IsTaken old h (event t (Write x)) (old.write x ∷ old.reads x)
taken_write old t x h stands =
    let l = old.write x in
    record {
      marks = marks_of t (l ∷ old.reads x);
      takes = takes.write x (mark_at t l.thread l.count) (marks_of t (old.reads x)) refl (if_other old h (event t (Write x)) stands t (LastWrite x) l (stands.write x)) (are_reads old h (event t (Write x)) stands t x (old.reads x) (stands.reads x));
      same = λ w. led_marks old.rows t w (l ∷ old.reads x);
      ends = no_end h t (Write x) refl;
      begins = no_begin h t (Write x) refl;
    }

pub taken_acquire : (old : State) (t l : ℕ) (h : List Numbered) → IsStateOf old h → IsTaken old h (event t (Acquire l)) (old.release l ∷ [])
taken_acquire old t l h stands =
    let r = old.release l in
    record {
      marks = mark_at t r.thread r.count;
      takes = takes.acquire l (mark_at t r.thread r.count) refl (if_other old h (event t (Acquire l)) stands t (LastRelease l) r (stands.release l));
      same = λ w. one_mark old.rows t w r;
      ends = no_end h t (Acquire l) refl;
      begins = no_begin h t (Acquire l) refl;
    }

pub taken_release : (old : State) (t l : ℕ) (h : List Numbered) → IsTaken old h (event t (Release l)) []
taken_release old t l h = record {
  marks = [];
  takes = takes.plain refl;
  same = λ w. refl;
  ends = no_end h t (Release l) refl;
  begins = no_begin h t (Release l) refl;
}

pub taken_join : (old : State) (t u : ℕ) → u ≢ t → old.acted u ≡ true → (h : List Numbered) → IsStateOf old h → IsTaken old h (event t (Join u)) (last u old.now ∷ [])
taken_join old t u ne acted h stands =
    let e = event t (Join u) in
    let more = h ++ e ∷ [] in
    let first = steps.first old h e stands in
    let a = acted_place h e u (sym (stands.acted u) ∙ acted) in
    let q = acted_last more (length h) u a in
    record {
      marks = mark u q.0 ∷ [];
      takes = takes.join u q.0 refl a q.1;
      same = λ w.
          ap (λ b. (not b && is_below (old.rows u w) old.now) || false) (ne_eqb u t ne)
          ∙ ap (λ m. is_below (old.rows u w) m || false) stands.now
          ∙ ap (λ b. b || false) (below_now more (length h) old.rows first u w ∙ sym (led_at_last more (length h) old.rows first u w q.0 q.1));
      ends = no_end h t (Join u) refl;
      begins = no_begin h t (Join u) refl;
    }

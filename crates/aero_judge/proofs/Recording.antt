-- What is recorded of events as they are given is a trail of the trace that is judged.
use Rattle.std.proofs.Common.{◌≡◌, ℕ, zero, suc, ◌<◌, ◌≤◌, ◌==◌, ◌&&◌, nat_lt, Bool, true, false, if◌then◌else◌, List, [], ◌∷◌, length, map, take, Option, Some, None, option_map, refl, sym, ◌∙◌, ap, subst, arith}
use Rattle.std.specs.Prelude.{slice_get}
use Rattle.std.proofs.lemmas.Bool.{eq-eqb}
use Rattle.std.proofs.lemmas.List.{length-map}
use Rattle.std.proofs.lemmas.Option.{slice_get-map, slice_get_within, same_Some}
use Rattle.aero_model.specs.declared.numbered.Numbered.{Numbered}
use Rattle.aero_model.specs.declared.numbered.What.{What}
use Rattle.aero_model.specs.declared.numbered.What.TheVariants.{Read, Write, Acquire, Release, Fork, Join, Begin, End, Exempt}
use Rattle.aero_model.specs.Blocks.{is_begin, is_end, by_thread, depth}
use Rattle.aero_model.specs.Cycle.{HasTellingCycle}
use Rattle.aero_model.specs.Exempt.{Marked, judged, IsBare, IsJudgedWhat, IsJudgedAs}
use Rattle.aero_model.specs.Named.{Named}
use Rattle.aero_model.proofs.Exempt.{judged_at, judged_length, read_at, read_marked}
use Rattle.aero_model.proofs.Stability.{Agree, depth_same}
use Rattle.aero_model.proofs.WellFormed.{slice_get-take, length-take_at}
use Rattle.aero_shape.specs.declared.admission.Admitted.TheVariants.{Plain, OuterBegin, OuterEnd, IdleJoin}
use Rattle.aero_shape.specs.Admission.{admitted_as, deed_as}
use Rattle.aero_witness.specs.Trail.{is_deed, IsRecorded, IsTrail}
use Rattle.aero_engine.specs.Given.{Given}
use Rattle.aero_verdict.specs.Standing.{names_of, marked_in, judged_in, AreGiven, IsGiven}
use Rattle.aero_model.specs.Shape.{IsWellFormed}
use Rattle.aero_judge.specs.Recorded.{inner_what, recorded_what, recorded, AreJudgedAs}
use Rattle.aero_model.specs.Terms.{Rules}
use Rattle.aero_verdict.proofs.Steps.{judged_as}

-- the operation as it is recorded, beside the one as it is judged, of a thread with so many open blocks
record IsRecordedWhat (judged r : What) (deep : ℕ) : Type 0 where
  deed : is_deed judged ≡ true → r ≡ judged
  none : is_deed judged ≡ false → is_deed r ≡ false
  begins : is_begin r ≡ (is_begin judged && (deep == 0))
  ends : is_end r ≡ (is_end judged && (deep == 1))

module _ (before : List Numbered) (deep : ℕ) where
  opening : (b : Bool) (w : What) → is_begin (recorded_what (if b then OuterBegin else Plain true) (Begin None)) ≡ b
  opening true w = refl
  opening false w = refl

  record Bare (r : What) (begins ends : Bool) : Type 0 where
    no_deed : is_deed r ≡ false
    begin_is : is_begin r ≡ begins
    end_is : is_end r ≡ ends

  -- a begin as it was read, or an end
  data IsBound : What → Type 0 where
    a_begin : (label : Option ℕ) → IsBound (Begin label)
    an_end : IsBound End
    exempt : IsBound Exempt

  inner_bound : (w : What) → IsBound w → Bare (inner_what w) false false
  inner_bound _ (a_begin label) = record { no_deed = refl; begin_is = refl; end_is = refl }
  inner_bound _ an_end = record { no_deed = refl; begin_is = refl; end_is = refl }
  inner_bound _ exempt = record { no_deed = refl; begin_is = refl; end_is = refl }

  at_begin : (b : Bool) (w : What) → IsBound w → Bare (recorded_what (if b then OuterBegin else Plain true) w) b false
  at_begin true w bound = record { no_deed = refl; begin_is = refl; end_is = refl }
  at_begin false w bound = inner_bound w bound

  at_end : (b c : Bool) (w : What) → IsBound w → Bare (recorded_what (if b then OuterEnd else Plain c) w) false b
  at_end true c w bound = record { no_deed = refl; begin_is = refl; end_is = refl }
  at_end false c w bound = inner_bound w bound

  bare : (w judged : What) → IsBound w → IsBound judged → IsRecordedWhat judged (recorded_what (deed_as before deep judged) w) deep
  bare w _ bound (a_begin label) =
      let h = at_begin (deep == 0) w bound in
      record { deed = λ d. absurd (cc); none = λ d. h.no_deed; begins = h.begin_is; ends = h.end_is }
  bare w _ bound an_end =
      let h = at_end (deep == 1) (nat_lt 0 deep) w bound in
      record { deed = λ d. absurd (cc); none = λ d. h.no_deed; begins = h.begin_is; ends = h.end_is }
  bare w _ bound exempt =
      let h = inner_bound w bound in
      record { deed = λ d. absurd (cc); none = λ d. h.no_deed; begins = h.begin_is; ends = h.end_is }

  bound_of : (w : What) → is_deed w ≡ false → IsBound w
  bound_of (Begin label) d = a_begin label
  bound_of End d = an_end
  bound_of Exempt d = exempt
  bound_of (Read x) d = absurd (cc)
  bound_of (Write x) d = absurd (cc)
  bound_of (Acquire x) d = absurd (cc)
  bound_of (Release x) d = absurd (cc)
  bound_of (Fork x) d = absurd (cc)
  bound_of (Join x) d = absurd (cc)

  join_kept : (b c : Bool) (u : ℕ) → recorded_what (if b then Plain c else IdleJoin) (Join u) ≡ Join u
  join_kept true c u = refl
  join_kept false c u = refl

  kept_deed : (w : What) → is_deed w ≡ true → recorded_what (deed_as before deep w) w ≡ w
  kept_deed (Read x) d = refl
  kept_deed (Write x) d = refl
  kept_deed (Acquire x) d = refl
  kept_deed (Release x) d = refl
  kept_deed (Fork x) d = refl
  kept_deed (Join u) d = join_kept _ _ u
  kept_deed (Begin label) d = absurd (cc)
  kept_deed End d = absurd (cc)
  kept_deed Exempt d = absurd (cc)

  no_bound : (w : What) → is_deed w ≡ true → (is_begin w ≡ false) × (is_end w ≡ false)
  no_bound (Read x) d = (refl, refl)
  no_bound (Write x) d = (refl, refl)
  no_bound (Acquire x) d = (refl, refl)
  no_bound (Release x) d = (refl, refl)
  no_bound (Fork x) d = (refl, refl)
  no_bound (Join u) d = (refl, refl)
  no_bound (Begin label) d = absurd (cc)
  no_bound End d = absurd (cc)
  no_bound Exempt d = absurd (cc)

  a_deed : (w : What) → is_deed w ≡ true → IsRecordedWhat w (recorded_what (deed_as before deep w) w) deep
  a_deed w d =
      let same = kept_deed w d in
      let none = no_bound w d in
      record {
        deed = λ e. same;
        none = λ e. absurd (cc);
        begins = ap is_begin same ∙ none.0 ∙ sym (ap (λ b. b && (deep == 0)) none.0);
        ends = ap is_end same ∙ none.1 ∙ sym (ap (λ b. b && (deep == 1)) none.1);
      }

  -- what the operation that was read is judged as
  judged_bare : (w judged : What) → IsBound w → IsJudgedWhat w judged → IsBare judged
  judged_bare _ judged (a_begin label) is = is
  judged_bare _ judged an_end is = is
  judged_bare _ judged exempt is = is

  bound_bare : (judged : What) → IsBare judged → IsBound judged
  bound_bare (Begin None) is = a_begin None
  bound_bare (Begin (Some label)) is = absurd is
  bound_bare End is = an_end
  bound_bare Exempt is = exempt
  bound_bare (Read x) is = absurd is
  bound_bare (Write x) is = absurd is
  bound_bare (Acquire x) is = absurd is
  bound_bare (Release x) is = absurd is
  bound_bare (Fork x) is = absurd is
  bound_bare (Join x) is = absurd is

  judged_deed : (w judged : What) → is_deed w ≡ true → IsJudgedWhat w judged → judged ≡ w
  judged_deed (Read x) judged d is = is
  judged_deed (Write x) judged d is = is
  judged_deed (Acquire x) judged d is = is
  judged_deed (Release x) judged d is = is
  judged_deed (Fork x) judged d is = is
  judged_deed (Join u) judged d is = is
  judged_deed (Begin label) judged d is = absurd (cc)
  judged_deed End judged d is = absurd (cc)
  judged_deed Exempt judged d is = absurd (cc)

  by_deed : (b : Bool) (w judged : What) → is_deed w ≡ b → IsJudgedWhat w judged → IsRecordedWhat judged (recorded_what (deed_as before deep judged) w) deep
  by_deed true w judged d is =
      subst (λ v. IsRecordedWhat v (recorded_what (deed_as before deep v) w) deep) (sym (judged_deed w judged d is)) (a_deed w d)
  by_deed false w judged d is = bare w judged (bound_of w d) (bound_bare judged (judged_bare w judged (bound_of w d) is))

-- the operation as it is recorded, beside the one that was read
pub record IsReadAs (w r : What) : Type 0 where
  pub deed : is_deed w ≡ true → r ≡ w
  pub none : is_deed w ≡ false → is_deed r ≡ false

bare_deed : (w : What) → IsBare w → is_deed w ≡ false
bare_deed (Begin None) is = refl
bare_deed (Begin (Some label)) is = absurd is
bare_deed End is = refl
bare_deed Exempt is = refl
bare_deed (Read x) is = absurd is
bare_deed (Write x) is = absurd is
bare_deed (Acquire x) is = absurd is
bare_deed (Release x) is = absurd is
bare_deed (Fork x) is = absurd is
bare_deed (Join x) is = absurd is

read_as_judged : (before : List Numbered) (deep : ℕ) (w judged r : What) → IsJudgedWhat w judged → IsRecordedWhat judged r deep → IsReadAs w r
read_as_judged before deep w judged r is rec = record {
  deed = λ d. (let same = judged_deed before deep w judged d is in rec.deed (ap is_deed same ∙ d) ∙ same);
  none = λ d. rec.none (bare_deed judged (judged_bare before deep w judged (bound_of before deep w d) is));
}

-- what is recorded of events that are judged so is a trail
module _ (given : List Given) (h : List Numbered) (are : AreJudgedAs given h) where
  recorded_as : (i : ℕ) (e : Numbered) (g : Given) → slice_get given i ≡ Some g → slice_get h i ≡ Some e → IsRecorded h i e (recorded g)
  recorded_as i e g given_at at =
      let less = slice_get_within h i e at in
      let judges = are.judged i g e given_at at in
      let deep = depth (take i h) e.thread (length (take i h)) in
      let w = g.event.what in
      let what : IsRecordedWhat e.what (recorded g).what deep =
      subst (λ a. IsRecordedWhat e.what (recorded_what a w) deep) (sym (are.admitted i g e given_at at)) (by_deed (take i h) deep (is_deed w) w e.what refl judges.what) in
      let short : length (take i h) ≡ i = length-take_at h i (omega (arith, less)) in
      let deep_is : deep ≡ depth h e.thread i =
      ap (depth (take i h) e.thread) short ∙ depth_same (take i h) h e.thread i (record { same = λ j l. slice_get-take h i j l }) in
      let own = eq-eqb e.thread e.thread refl in
      record {
        thread = sym judges.thread;
        deed = what.deed;
        none = what.none;
        begins = what.begins ∙ ap (λ d. is_begin e.what && (d == 0)) deep_is ∙ sym (ap (λ o. by_thread e.thread is_begin o && (depth h e.thread i == 0)) at ∙ ap (λ b. (b && is_begin e.what) && (depth h e.thread i == 0)) own);
        ends = what.ends ∙ ap (λ d. is_end e.what && (d == 1)) deep_is ∙ sym (ap (λ o. by_thread e.thread is_end o && (depth h e.thread i == 1)) at ∙ ap (λ b. (b && is_end e.what) && (depth h e.thread i == 1)) own);
      }

  pub given_at : (i : ℕ) (r : Numbered) → slice_get (map recorded given) i ≡ Some r → (g : Given) × (slice_get given i ≡ Some g) × (recorded g ≡ r)
  given_at i r at = go (slice_get given i) refl
    where
      go : (o : Option Given) → slice_get given i ≡ o → (g : Given) × (slice_get given i ≡ Some g) × (recorded g ≡ r)
      go None here = absurd (let a = sym at ∙ slice_get-map recorded given i ∙ ap (option_map recorded) here in cc)
      go (Some g) here = (g, here, same_Some (recorded g) r (sym (ap (option_map recorded) here) ∙ sym (slice_get-map recorded given i) ∙ at))

  pub trail_of : IsTrail h (map recorded given)
  trail_of = record {
    each = length-map given recorded ∙ sym are.count;
    at = λ i e r here there. (let g = given_at i r there in subst (IsRecorded h i e) g.2 (recorded_as i e g.0 g.1 here));
  }

-- the first n events
module _ (rules : Rules) (events : List (ℕ × Named)) (n : ℕ) (within : n ≤ length events) (given : List Given) (are : AreGiven rules events n given) where
  abbrev marked : List Marked
  marked = marked_in rules events

  abbrev trace : List Numbered
  trace = judged_in rules events

  pub long : length trace ≡ length events
  long = judged_length marked ∙ length-map (names_of events) _ ∙ length-map events (λ e. e.1)

  pub front_agrees : Agree n (take n trace) trace
  front_agrees = record { same = λ i l. slice_get-take trace n i l }

  module _ (i : ℕ) (e r : Numbered) (g : Given) (less : i < n) (at : slice_get trace i ≡ Some e) (is : IsGiven rules events i g) (r_is : recorded g ≡ r) where
    record Read_ : Type 0 where
      m : Marked
      here : slice_get marked i ≡ Some m
      judged_is : judged (take i marked) m ≡ e
      event_is : m.event ≡ g.event

    read_of : (o : Option Marked) → slice_get marked i ≡ o → Read_
    read_of None here = absurd (let a = sym at ∙ judged_at marked i ∙ ap (option_map (judged (take i marked))) here in cc)
    read_of (Some m) here = record {
      m = m;
      here = here;
      judged_is = same_Some (judged (take i marked) m) e (sym (ap (option_map (judged (take i marked))) here) ∙ sym (judged_at marked i) ∙ at);
      event_is = same_Some m.event g.event (sym (ap (option_map (λ (x : Marked). x.event)) here) ∙ sym (read_at marked i) ∙ ap (λ t. slice_get t i) (read_marked rules.labels (names_of events)) ∙ is.event_is);
    }

    judged_here : IsJudgedAs g.event e
    judged_here =
        let read = read_of (slice_get marked i) refl in
        let w = g.event.what in
        record {
          thread = sym (ap (λ (x : Numbered). x.thread) read.judged_is) ∙ ap (λ (x : Numbered). x.thread) read.event_is;
          what = subst (λ (x : Numbered). IsJudgedWhat w x.what) read.judged_is (subst (λ (x : Numbered). IsJudgedWhat x.what (judged (take i marked) read.m).what) read.event_is (judged_as (take i marked) read.m.event.thread read.m.exempt read.m.event.what));
        }

    admitted_here : g.admitted ≡ admitted_as (take i trace) e
    admitted_here = sym (same_Some (admitted_as (take i trace) e) g.admitted (sym (ap (option_map (admitted_as (take i trace))) at) ∙ is.admitted_is))

    read_here : IsReadAs g.event.what r.what
    read_here =
        let read = read_of (slice_get marked i) refl in
        let deep = depth (take i trace) e.thread (length (take i trace)) in
        let w = g.event.what in
        let judges : IsJudgedWhat w e.what =
        subst (λ (x : Numbered). IsJudgedWhat w x.what) read.judged_is (subst (λ (x : Numbered). IsJudgedWhat x.what (judged (take i marked) read.m).what) read.event_is (judged_as (take i marked) read.m.event.thread read.m.exempt read.m.event.what)) in
        let what_is : recorded_what (deed_as (take i trace) deep e.what) w ≡ r.what =
        ap (λ a. recorded_what a w) (sym admitted_here) ∙ ap (λ (x : Numbered). x.what) r_is in
        let h : IsRecordedWhat e.what r.what deep =
        subst (λ v. IsRecordedWhat e.what v deep) what_is (by_deed (take i trace) deep (is_deed w) w e.what refl judges) in
        read_as_judged (take i trace) deep w e.what r.what judges h

    recorded_here : IsRecorded (take n trace) i e r
    recorded_here =
        let read = read_of (slice_get marked i) refl in
        let deep = depth (take i trace) e.thread (length (take i trace)) in
        let w = g.event.what in
        let judges : IsJudgedWhat w e.what =
        subst (λ (x : Numbered). IsJudgedWhat w x.what) read.judged_is (subst (λ (x : Numbered). IsJudgedWhat x.what (judged (take i marked) read.m).what) read.event_is (judged_as (take i marked) read.m.event.thread read.m.exempt read.m.event.what)) in
        let what_is : recorded_what (deed_as (take i trace) deep e.what) w ≡ r.what =
        ap (λ a. recorded_what a w) (sym admitted_here) ∙ ap (λ (x : Numbered). x.what) r_is in
        let h : IsRecordedWhat e.what r.what deep =
        subst (λ v. IsRecordedWhat e.what v deep) what_is (by_deed (take i trace) deep (is_deed w) w e.what refl judges) in
        let short : length (take i trace) ≡ i = length-take_at trace i (omega (arith, less, within, long)) in
        let deep_is : deep ≡ depth (take n trace) e.thread i =
        ap (depth (take i trace) e.thread) short ∙ depth_same (take i trace) (take n trace) e.thread i (record { same = λ j l. slice_get-take trace i j l ∙ sym (slice_get-take trace n j (omega (arith, l, less))) }) in
        let front_at : slice_get (take n trace) i ≡ Some e = slice_get-take trace n i less ∙ at in
        let own = eq-eqb e.thread e.thread refl in
        record {
          thread = sym (ap (λ (x : Numbered). x.thread) r_is) ∙ sym (ap (λ (x : Numbered). x.thread) read.event_is) ∙ ap (λ (x : Numbered). x.thread) read.judged_is;
          deed = h.deed;
          none = h.none;
          begins = h.begins ∙ ap (λ d. is_begin e.what && (d == 0)) deep_is ∙ sym (ap (λ o. by_thread e.thread is_begin o && (depth (take n trace) e.thread i == 0)) front_at ∙ ap (λ b. (b && is_begin e.what) && (depth (take n trace) e.thread i == 0)) own);
          ends = h.ends ∙ ap (λ d. is_end e.what && (d == 1)) deep_is ∙ sym (ap (λ o. by_thread e.thread is_end o && (depth (take n trace) e.thread i == 1)) front_at ∙ ap (λ b. (b && is_end e.what) && (depth (take n trace) e.thread i == 1)) own);
        }

  given_of : (i : ℕ) (r : Numbered) (o : Option Given) → slice_get given i ≡ o → slice_get (map recorded given) i ≡ Some r → (g : Given) × (slice_get given i ≡ Some g) × (recorded g ≡ r)
  given_of i r None here at = absurd (let a = sym at ∙ slice_get-map recorded given i ∙ ap (option_map recorded) here in cc)
  given_of i r (Some g) here at = (g, here, same_Some (recorded g) r (sym (ap (option_map recorded) here) ∙ sym (slice_get-map recorded given i) ∙ at))

  pub trail : IsTrail (take n trace) (map recorded given)
  trail = record {
    each = length-map given recorded ∙ are.count ∙ sym (length-take_at trace n (omega (arith, within, long)));
    at = λ i e r here there.
        (let g = given_of i r (slice_get given i) refl there in
        let less : i < n = (let l = slice_get_within given i g.0 g.1 in omega (arith, l, are.count)) in
        recorded_here i e r g.0 less (sym (slice_get-take trace n i less) ∙ here) (are.each i g.0 g.1) g.2);
  }

  -- what was read of an event, and what is recorded
  pub read_as : (i : ℕ) (g : Given) → i < n → slice_get given i ≡ Some g → IsReadAs g.event.what (recorded g).what
  read_as i g less at = go (slice_get trace i) refl
    where
      go : (o : Option Numbered) → slice_get trace i ≡ o → IsReadAs g.event.what (recorded g).what
      go None none = absurd (let is = (are.each i g at).admitted_is in let none_here = ap (option_map (admitted_as (take i trace))) none in cc)
      go (Some e) here = read_here i e (recorded g) g less here (are.each i g at) refl

  take_take : {X : Type 0} (xs : List X) (i m : ℕ) → i ≤ m → take i (take m xs) ≡ take i xs
  take_take xs zero m le = refl
  take_take [] (suc i) zero le = refl
  take_take [] (suc i) (suc m) le = refl
  take_take (x ∷ xs) (suc i) zero le = absurd (omega arith)
  take_take (x ∷ xs) (suc i) (suc m) le = ap (λ ys. x ∷ ys) (take_take xs i m (omega arith))

  -- they are judged as the front of the trace
  pub are_judged : IsWellFormed (take n trace) → ((m : ℕ) → m < n → ¬ HasTellingCycle (take n trace) m) → AreJudgedAs given (take n trace)
  are_judged well untold = record {
    count = length-take_at trace n (omega (arith, within, long)) ∙ sym are.count;
    judged = λ i g e here there.
        (let less : i < n = (let l = slice_get_within given i g here in omega (arith, l, are.count)) in
        judged_here i e (recorded g) g less (sym (slice_get-take trace n i less) ∙ there) (are.each i g here) refl);
    admitted = λ i g e here there.
        (let less : i < n = (let l = slice_get_within given i g here in omega (arith, l, are.count)) in
        admitted_here i e (recorded g) g less (sym (slice_get-take trace n i less) ∙ there) (are.each i g here) refl ∙ ap (λ before. admitted_as before e) (sym (take_take trace i n (omega arith))));
    well_formed = well;
    untold = λ m l. untold m (omega (arith, l, length-take_at trace n (omega (arith, within, long))));
  }

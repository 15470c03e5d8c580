-- Once all sources are back, what was told is what a run tells.
use Rattle.std.proofs.Common.{◌≡◌, ℕ, zero, suc, ◌+◌, ◌<◌, ◌⊎◌, List, [], ◌∷◌, ◌++◌, map, length, slice_get, Option, Some, None, refl, sym, ◌∙◌, ap, ap₂, subst, append_assoc, inl, inr, arith}
use Rattle.std.specs.Prelude.{option_map}
use Rattle.std.proofs.lemmas.List.{append-nil, length-map, length_push}
use Rattle.std.proofs.lemmas.Option.{slice_get-map, slice_get_within}
use Rattle.aero_model.specs.CallCounts.{Seen}
use Rattle.aero_report.specs.declared.form.Form.{Form}
use Rattle.aero_telling.specs.declared.cause.Cause.{Cause}
use Rattle.aero_telling.specs.declared.cause.Cause.TheVariants.{Memory, Write}
use Rattle.aero_telling.specs.declared.told.Told.{Told}
use Rattle.aero_telling.specs.Founds.{Found, IsFoundAt, IsWritten, Took, WasTold, lines_of_all, no_text, sighted, whose}
use Rattle.aero_telling.specs.Labels.{AreLabelsOf}
use Rattle.aero_telling.proofs.Tellings.{slice_get_some, the_some}
use Rattle.aero_intake.specs.Source.{Sight}
use Rattle.aero_intake.specs.declared.source.SourceOf.{SourceOf}
use Rattle.aero_lanes.specs.declared.seat.Seat.{Seat}
use Rattle.aero_lanes.specs.declared.seat.Seat.TheVariants.{Waiting, Running, Done, Empty}
use Rattle.aero_lanes.specs.Seats.{FitsSeat, AreSeated, AreBack, BackSoFar, GivesBack, IsBack, IsFoundBy}
use Rattle.aero_lanes.specs.Tellings.{StopsSo, IsWrittenSo}
use Rattle.aero_model.specs.Terms.{Terms}

-- what a seat gives back has the source's name, and its reader was made for the same
back_named : {R : Type 0} (known : R → Sight) (terms : Terms) (before : SourceOf R) (seat : Seat R) (source : SourceOf R) → FitsSeat known terms before seat →
    IsBack known before seat source → whose (sighted known source) ≡ whose (sighted known before)
back_named known terms before (Waiting s) source fits is = is
back_named known terms before (Running handle) source fits is = is
back_named {R} known terms before (Done end) source fits is = ap (λ (s : SourceOf R). whose (sighted known s)) is ∙ fits.whose_is
back_named known terms before Empty source fits is = is

module _ {R : Type 0} (known : R → Sight) (terms : Terms) (form : Form) (origin : List (SourceOf R)) (all : List (Seat R)) (back : List (SourceOf R))
    (seated : AreSeated known terms origin all) (are_back : AreBack known origin all back) where
  back_at : (k : ℕ) (before : SourceOf R) → slice_get origin k ≡ Some before → (seat : Seat R) × (slice_get all k ≡ Some seat) × (source : SourceOf R) × (slice_get back k ≡ Some source) × IsBack known before seat source
  back_at k before at =
      let within = slice_get_within origin k before at in
      let seat = slice_get_some all k (omega (arith, within, seated.count)) in
      let is = are_back.each k before seat.0 at seat.1 in
      (seat.0, seat.1, is.0, is.1, is.2)

  sighted_at : (sources : List (SourceOf R)) (k : ℕ) (s : SourceOf R) → slice_get sources k ≡ Some s → slice_get (map (sighted known) sources) k ≡ Some (sighted known s)
  sighted_at sources k s at = slice_get-map (sighted known) sources k ∙ ap (option_map (sighted known)) at

  -- what a lane found was found of the source that came back
  found_at : (place : ℕ) (f : Found) → IsFoundBy known terms origin all place f → IsFoundAt terms (map (sighted known) origin) (map (sighted known) back) place f
  found_at place f is =
      let b = are_back.each place is.before (Done is.end) is.was is.is in
      record {
        before = sighted known is.before;
        after = sighted known is.end.source;
        was = sighted_at origin place is.before is.was;
        is = sighted_at back place b.0 b.1 ∙ ap (λ (s : SourceOf R). Some (sighted known s)) b.2;
        found_of = is.found_of;
      }

  names_back : map whose (map (sighted known) back) ≡ map whose (map (sighted known) origin)
  names_back = names_of back origin are_back.count (λ k source before at_back at.
      let here = back_at k before at in
      let same : here.2 ≡ source = the_some here.2 source (sym here.3 ∙ at_back) in
      subst (λ (s : SourceOf R). whose (sighted known s) ≡ whose (sighted known before)) same (back_named known terms before here.0 here.2 (seated.fits k before here.0 at here.1) here.4))
    where
      names_of : (xs ys : List (SourceOf R)) → length xs ≡ length ys →
          ((k : ℕ) (x y : SourceOf R) → slice_get xs k ≡ Some x → slice_get ys k ≡ Some y → whose (sighted known x) ≡ whose (sighted known y)) →
          map whose (map (sighted known) xs) ≡ map whose (map (sighted known) ys)
      names_of [] [] count same = refl
      names_of [] (y ∷ ys) count same = cc (count)
      names_of (x ∷ xs) [] count same = cc (count)
      names_of (x ∷ xs) (y ∷ ys) count same =
          let rest : length xs ≡ length ys = omega (arith, count) in
          ap₂ (λ z zs. z ∷ zs) (same zero x y refl refl) (names_of xs ys rest (λ k a b at_a at_b. same (suc k) a b at_a at_b))

  written_of : (founds : List Found) (before after : Seen) (cause : Option Cause) → IsWrittenSo known terms form origin all founds before after cause →
      IsWritten terms form no_text (map (sighted known) origin) (map (sighted known) back) founds before after cause
  written_of founds before after None is = (
    is.0 ∙ sym (length-map origin (sighted known)),
    subst (λ text. Took before after text) (sym (append-nil (lines_of_all form founds))) is.1,
  )
  written_of founds before after (Some Memory) is = is
  written_of founds before after (Some Write) is = record {
    text = is.text;
    next = inl (is.next.0, found_at (length founds) is.next.0 is.next.1, is.next.2);
    written = is.written;
    part = is.part;
    went = is.went;
    faults = is.faults;
  }

  pub was_told : (before after : Seen) (a : Told) (cause : Option Cause) → StopsSo known terms form origin before after all a cause →
      WasTold terms form (map (sighted known) origin) (map (sighted known) back) before after a.endings.items a.notables.items a.counts cause
  was_told before after a cause st = record {
    founds = st.founds;
    found = λ place f at. found_at place f (st.found place f at);
    names = names_back;
    ended = st.endings;
    notable = st.notables;
    counted = st.counts;
    written = written_of st.founds before after cause st.written;
  }

  pub were_labels : (before after : Seen) (a : Told) (cause : Option Cause) → StopsSo known terms form origin before after all a cause →
      AreLabelsOf terms (map (sighted known) origin) (map (sighted known) back) a.endings.items a.begun
  were_labels before after a cause st = record {
    founds = st.founds;
    found = λ place f at. found_at place f (st.found place f at);
    ended = st.endings;
    begun_are = st.begun;
  }

-- Taking the sources back, one after the other

get_behind : {A : Type 0} (front : List A) (x : A) (rest : List A) → slice_get (front ++ x ∷ rest) (length front) ≡ Some x
get_behind [] x rest = refl
get_behind (y ∷ front) x rest = get_behind front x rest

get_push_last : {A : Type 0} (xs : List A) (x : A) → slice_get (xs ++ x ∷ []) (length xs) ≡ Some x
get_push_last xs x = get_behind xs x []

get_push_first : {A : Type 0} (xs : List A) (x : A) (k : ℕ) (y : A) → slice_get xs k ≡ Some y → slice_get (xs ++ x ∷ []) k ≡ Some y
get_push_first [] x k y at = cc (at)
get_push_first (z ∷ xs) x zero y at = at
get_push_first (z ∷ xs) x (suc k) y at = get_push_first xs x k y at

module _ {R : Type 0} (known : R → Sight) (terms : Terms) (origin : List (SourceOf R)) (all : List (Seat R)) (back : List (SourceOf R)) (seat : Seat R) (rest : List (Seat R))
    (given : Option (SourceOf R)) (seated : AreSeated known terms origin all) (gives : (before : SourceOf R) → FitsSeat known terms before seat → GivesBack known before seat given)
    (so_far : BackSoFar known origin all back (seat ∷ rest)) where
  here : slice_get all (length back) ≡ Some seat
  here = subst (λ n. slice_get all n ≡ Some seat) so_far.count
      (subst (λ (xs : List (Seat R)). slice_get xs (length so_far.front) ≡ Some seat) (sym so_far.whole) (get_behind so_far.front seat rest))

  before_here : (before : SourceOf R) × (slice_get origin (length back) ≡ Some before)
  before_here =
      let within = slice_get_within all (length back) seat here in
      slice_get_some origin (length back) (omega (arith, within, seated.count))

  given_back : GivesBack known before_here.0 seat given
  given_back = gives before_here.0 (seated.fits (length back) before_here.0 seat before_here.1 here)

  pub none_back : given ≡ None → ⊥
  none_back is = subst (λ (o : Option (SourceOf R)). GivesBack known before_here.0 seat o) is given_back

  pub one_back : (source : SourceOf R) → given ≡ Some source → BackSoFar known origin all (back ++ source ∷ []) rest
  one_back source is = record {
    each = λ k before at_seat below at at_all. elim (nat_cases k (length back) (omega (arith, below, length_push back source))) [
      | inl less ↦ let was = so_far.each k before at_seat less at at_all in (was.0, get_push_first back source k was.0 was.1, was.2)
      | inr same ↦
          let is_seat : seat ≡ at_seat = the_some seat at_seat (sym here ∙ subst (λ n. slice_get all n ≡ Some at_seat) same at_all) in
          let is_before : before_here.0 ≡ before = the_some before_here.0 before (sym before_here.1 ∙ subst (λ n. slice_get origin n ≡ Some before) same at) in
          let gave : IsBack known before_here.0 seat source = subst (λ (o : Option (SourceOf R)). GivesBack known before_here.0 seat o) is given_back in (
            source,
            subst (λ n. slice_get (back ++ source ∷ []) n ≡ Some source) (sym same) (get_push_last back source),
            subst (λ (b : SourceOf R). IsBack known b at_seat source) is_before (subst (λ (x : Seat R). IsBack known before_here.0 x source) is_seat gave),
          )
    ];
    front = so_far.front ++ seat ∷ [];
    whole = so_far.whole ∙ sym (append_assoc so_far.front (seat ∷ []) rest);
    count = length_push so_far.front seat ∙ (ap (λ n. n + 1) so_far.count ∙ sym (length_push back source));
  }
    where
      nat_cases : (k n : ℕ) → k < n + 1 → (k < n) ⊎ (k ≡ n)
      nat_cases k n less = grind (arith, less)

pub nothing_back : {R : Type 0} (known : R → Sight) (origin : List (SourceOf R)) (all : List (Seat R)) → BackSoFar known origin all [] all
nothing_back known origin all = record { each = λ k before seat below at at_all. absurd (omega (arith, below)); front = []; whole = refl; count = refl }

pub all_are_back : {R : Type 0} (known : R → Sight) (terms : Terms) (origin : List (SourceOf R)) (all : List (Seat R)) (back : List (SourceOf R)) →
    AreSeated known terms origin all → BackSoFar known origin all back [] → AreBack known origin all back
all_are_back {R} known terms origin all back seated so_far =
    let whole : length all ≡ length back = ap length so_far.whole ∙ (ap length (append-nil so_far.front) ∙ so_far.count) in
    record {
      each = λ k before seat at at_all. let within = slice_get_within all k seat at_all in so_far.each k before seat (omega (arith, within, whole)) at at_all;
      count = sym whole ∙ seated.count;
    }

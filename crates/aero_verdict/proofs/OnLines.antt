-- The event on a line.
use Rattle.std.proofs.Common.{◌≡◌, ◌≢◌, ℕ, zero, suc, ◌+◌, ◌-◌, ◌<◌, ◌≤◌, ◌==◌, ◌⊎◌, min, true, false, List, [], ◌∷◌, ◌++◌, length, map, take, drop, get_or, Option, Some, None, option_map, inl, inr, refl, sym, ◌∙◌, ap, subst, arith, add-one}
use Rattle.std.specs.Prelude.{find, is_some, slice_get, All}
use Rattle.std.specs.Option.{option_or}
use Rattle.std.proofs.lemmas.Bool.{cases_eq, cases_lt, eq-eqb, ne_eqb, cond-true, cond-false}
use Rattle.std.proofs.lemmas.List.{append-nil, drop_all, map-append}
use Rattle.std.proofs.lemmas.List.Folds.{find-append}
use Rattle.aero_model.specs.Named.{Named}
use Rattle.aero_grammar.specs.Reading.{Reading, after_lines, whole_reading, LinesRise, IsReading}
use Rattle.aero_verdict.specs.Actors.{is_on, named_on}
use Rattle.aero_verdict.specs.Parts.{AreBefore, greatest_number}
use Rattle.aero_verdict.proofs.Readings.{after_faulty, begins_with, passed_on, start, here}
use Rattle.aero_verdict.proofs.Steps.{take_pushed, front_and_rest}

abbrev Events : Type 0
Events = List (ℕ × Named)

-- one event after others that are not on the line
module _ (line i : ℕ) (events : Events) (item : ℕ × Named) (at : slice_get events i ≡ Some item) (none : find (is_on line) (take i events) ≡ None) where
  front_next : take (i + 1) events ≡ take i events ++ item ∷ []
  front_next = ap (λ k. take k events) (add-one i) ∙ take_pushed events i item at

  front_found : (o : Option (ℕ × Named)) → find (is_on line) (item ∷ []) ≡ o → find (is_on line) (take (i + 1) events) ≡ o
  front_found o e = ap (find (is_on line)) front_next ∙ find-append (is_on line) (take i events) (item ∷ []) ∙ ap (λ x. option_or x (find (is_on line) (item ∷ []))) none ∙ e

  pub found_here : item.0 ≡ line → find (is_on line) events ≡ Some item
  found_here e =
      ap (find (is_on line)) (sym (front_and_rest events (i + 1)))
      ∙ find-append (is_on line) (take (i + 1) events) (drop (i + 1) events)
      ∙ ap (λ x. option_or x (find (is_on line) (drop (i + 1) events))) (front_found (Some item) (cond-true (item.0 == line) _ _ (eq-eqb item.0 line e)))

  pub not_here : item.0 ≢ line → find (is_on line) (take (i + 1) events) ≡ None
  not_here d = front_found None (cond-false (item.0 == line) _ _ (ne_eqb item.0 line d))

-- lists of events
none_found : (line : ℕ) (es : Events) → All (λ e. e.0 ≢ line) es → find (is_on line) es ≡ None
none_found line [] h = refl
none_found line (e ∷ es) h = cond-false (e.0 == line) _ _ (ne_eqb e.0 line (h zero e (omega arith))) ∙ none_found line es (λ i d l. h (suc i) d (omega arith))

above : (n : ℕ) (es : Events) → LinesRise n es → All (λ e. n < e.0) es
above n [] rise i d l = absurd (omega arith)
above n (e ∷ es) rise zero d l = rise.0
above n (e ∷ es) rise (suc i) d l = omega (arith, rise.0, above e.0 es rise.1 i d (omega arith))

all_map : (total line : ℕ) (es : Events) → All (λ e. total + e.0 ≢ line) es → All (λ e. e.0 ≢ line) (map (after_lines total) es)
all_map total line [] h i d l = absurd (omega arith)
all_map total line (e ∷ es) h zero d l = h zero e (omega arith)
all_map total line (e ∷ es) h (suc i) d l = all_map total line es (λ j x m. h (suc j) x (omega arith)) i d (omega arith)

none_after : (total line : ℕ) (es : Events) → All (λ e. total + e.0 ≢ line) es → find (is_on line) (map (after_lines total) es) ≡ None
none_after total line es h = none_found line (map (after_lines total) es) (all_map total line es h)

same_event : (total rest line : ℕ) (es : Events) → total + rest ≡ line → named_on line (map (after_lines total) es) ≡ named_on rest es
same_event total rest line [] e = refl
same_event total rest line (x ∷ xs) e = elim (cases_eq x.0 rest) [
  | inl q ↦
      ap (option_map (λ (d : ℕ × Named). d.1)) (cond-true (total + x.0 == line) _ _ (eq-eqb (total + x.0) line (omega arith)))
      ∙ sym (ap (option_map (λ (d : ℕ × Named). d.1)) (cond-true (x.0 == rest) _ _ (eq-eqb x.0 rest q)))
  | inr d ↦
      ap (option_map (λ (d : ℕ × Named). d.1)) (cond-false (total + x.0 == line) _ _ (ne_eqb (total + x.0) line (λ q. d (omega (arith, q, e)))))
      ∙ same_event total rest line xs e
      ∙ sym (ap (option_map (λ (d : ℕ × Named). d.1)) (cond-false (x.0 == rest) _ _ (ne_eqb x.0 rest d)))
]

-- the event in a part
module _ (p : Reading) (reading : IsReading p) (before line : ℕ) where
  pub named_within : before < line → named_on (line - before) p.events ≡ named_on line (map (after_lines before) p.events)
  named_within l = sym (same_event before (line - before) line p.events (omega arith))

  pub none_within : (before < line → p.lines < line - before) → None ≡ named_on line (map (after_lines before) p.events)
  none_within out = sym (ap (option_map (λ (d : ℕ × Named). d.1)) (none_after before line p.events (λ i d l. other i d l (cases_lt before line))))
    where
      other : (i : ℕ) (d : ℕ × Named) (l : i < length p.events) → (before < line) ⊎ (line ≤ before) → before + (get_or p.events i d).0 ≢ line
      other i d l (inl less) e = omega (arith, reading.within i d l, out less, e, less)
      other i d l (inr le) e = omega (arith, above 0 p.events reading.rising i d l, e, le)

  pub named_told : (total : ℕ) → before ≡ min total greatest_number → line ≤ greatest_number → named_on line (map (after_lines before) p.events) ≡ named_on line (map (after_lines total) p.events)
  named_told total told small = elim (cases_lt greatest_number total) [
    | inl beyond ↦
        sym (none_within (λ l. absurd (omega (arith, told, l, small, beyond))))
        ∙ sym (ap (option_map (λ (d : ℕ × Named). d.1)) (none_after total line p.events (λ i d l e. omega (arith, above 0 p.events reading.rising i d l, e, small, beyond))))
    | inr le ↦ (let same : before ≡ total = omega arith in ap (λ n. named_on line (map (after_lines n) p.events)) same)
  ]

-- the first k parts have no fault and no event on the line
pub record NoneYet (parts : List Reading) (k before line : ℕ) : Type 0 where
  pub events : Events
  pub total : ℕ
  pub parts_before : AreBefore parts (drop k parts) events total
  pub before_is : before ≡ min total greatest_number
  pub none : find (is_on line) events ≡ None

pub none_at_first : (parts : List Reading) (line : ℕ) → NoneYet parts 0 0 line
none_at_first parts line = record { events = []; total = 0; parts_before = start parts; before_is = omega arith; none = refl }

named_after : (line : ℕ) (xs ys : Events) → find (is_on line) xs ≡ None → named_on line (xs ++ ys) ≡ named_on line ys
named_after line xs ys none = ap (option_map (λ (d : ℕ × Named). d.1)) (find-append (is_on line) xs ys ∙ ap (λ o. option_or o (find (is_on line) ys)) none)

named_first : (line : ℕ) (xs ys : Events) → is_some (named_on line xs) ≡ true → named_on line (xs ++ ys) ≡ named_on line xs
named_first line xs ys some = ap (option_map (λ (d : ℕ × Named). d.1)) (find-append (is_on line) xs ys) ∙ go (find (is_on line) xs) some
  where
    go : (o : Option (ℕ × Named)) → is_some (option_map (λ (d : ℕ × Named). d.1) o) ≡ true → option_map (λ (d : ℕ × Named). d.1) (option_or o (find (is_on line) ys)) ≡ option_map (λ (d : ℕ × Named). d.1) o
    go None some = absurd (cc)
    go (Some x) some = refl

not_named : (o : Option (ℕ × Named)) → None ≡ option_map (λ (d : ℕ × Named). d.1) o → o ≡ None
not_named None h = refl
not_named (Some x) h = absurd (cc)

module _ (parts : List Reading) (k before line : ℕ) (small : line ≤ greatest_number) (yet : NoneYet parts k before line) where
  module _ (p : Reading) (at : slice_get parts k ≡ Some p) (reading : IsReading p) where
    before_here : AreBefore parts (p ∷ drop (k + 1) parts) yet.events yet.total
    before_here = here parts k p p at refl yet.events yet.total yet.parts_before

    told : named_on line (map (after_lines before) p.events) ≡ named_on line (map (after_lines yet.total) p.events)
    told = named_told p reading before line yet.total yet.before_is small

    later : Events
    later = (begins_with p (whole_reading (drop (k + 1) parts))).0

    whole : (whole_reading parts).events ≡ yet.events ++ (map (after_lines yet.total) p.events ++ map (after_lines yet.total) later)
    unfolding later
    whole =
        before_here.events_are
        ∙ ap (λ es. yet.events ++ map (after_lines yet.total) es) (begins_with p (whole_reading (drop (k + 1) parts))).1
        ∙ ap (λ es. yet.events ++ es) (map-append (after_lines yet.total) p.events (begins_with p (whole_reading (drop (k + 1) parts))).0)

    pub found_in : is_some (named_on line (map (after_lines before) p.events)) ≡ true → named_on line (map (after_lines before) p.events) ≡ named_on line (whole_reading parts).events
    found_in some =
        told
        ∙ sym (named_first line (map (after_lines yet.total) p.events) (map (after_lines yet.total) later) (ap is_some (sym told) ∙ some))
        ∙ sym (named_after line yet.events (map (after_lines yet.total) p.events ++ map (after_lines yet.total) later) yet.none)
        ∙ ap (named_on line) (sym whole)

    module _ (missing : None ≡ named_on line (map (after_lines before) p.events)) where
      none_there : find (is_on line) (map (after_lines yet.total) p.events) ≡ None
      none_there = not_named (find (is_on line) (map (after_lines yet.total) p.events)) (missing ∙ told)

      none_through : find (is_on line) (yet.events ++ map (after_lines yet.total) p.events) ≡ None
      none_through = find-append (is_on line) yet.events (map (after_lines yet.total) p.events) ∙ ap (λ o. option_or o (find (is_on line) (map (after_lines yet.total) p.events))) yet.none ∙ none_there

      pub none_where_faulty : is_some p.fault ≡ true → None ≡ named_on line (whole_reading parts).events
      none_where_faulty faulty =
          sym (ap (named_on line) (before_here.events_are ∙ ap (λ (r : Reading). yet.events ++ map (after_lines yet.total) r.events) (after_faulty p (whole_reading (drop (k + 1) parts)) faulty))
          ∙ ap (option_map (λ (d : ℕ × Named). d.1)) none_through)

      pub none_still : is_some p.fault ≡ false → (new : ℕ) → new ≡ min (before + p.lines) greatest_number → NoneYet parts (k + 1) new line
      none_still faultless new new_is = record {
        events = yet.events ++ map (after_lines yet.total) p.events;
        total = yet.total + p.lines;
        parts_before = passed_on parts (drop (k + 1) parts) p yet.events yet.total before_here (not_some p.fault faultless);
        before_is = omega (arith, new_is, yet.before_is);
        none = none_through;
      }
        where
          not_some : {A : Type 0} (o : Option A) → is_some o ≡ false → o ≡ None
          not_some None h = refl
          not_some (Some x) h = absurd (cc)

  pub none_at_all : length parts ≤ k → None ≡ named_on line (whole_reading parts).events
  none_at_all all =
      let done : AreBefore parts [] yet.events yet.total = subst (λ r. AreBefore parts r yet.events yet.total) (drop_all k parts all) yet.parts_before in
      sym (ap (named_on line) (done.events_are ∙ append-nil yet.events) ∙ ap (option_map (λ (d : ℕ × Named). d.1)) yet.none)

-- of a place that is told, or of none
pub told_none : {A : Type 0} (o : Option A) → None ≡ option_map Some o → None ≡ o
told_none None h = refl
told_none (Some x) h = absurd (cc)

pub told_some : {A : Type 0} (o x : Option A) → Some x ≡ option_map Some o → is_some o ≡ true
told_some None x h = absurd (cc)
told_some (Some y) x h = refl

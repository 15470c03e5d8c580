-- What is judged where an open block is no transaction any more: the same, except that the begins and ends of its thread are exempt from there on.
use Rattle.std.proofs.Common.{◌≡◌, ◌≢◌, ◌⊎◌, ℕ, zero, suc, ◌+◌, ◌-◌, ◌<◌, ◌≤◌, ◌==◌, ◌&&◌, ◌||◌, nat_lt, Bool, true, false, not, if◌then◌else◌, List, [], ◌∷◌, length, take, Option, Some, None, inl, inr, refl, sym, ◌∙◌, ap, ap₂, subst, arith, le_refl}
use Rattle.std.specs.Prelude.{nat_le, option_map, slice_get}
use Rattle.std.proofs.lemmas.Bool.{cases_Bool, cases_eq, cases_lt, cond-true, cond-false, and_from, and_left, and_right, and_parts, or_left, or_right, eq-eqb, ne_eqb, eqb-true, leb-true, le-leb, lt-ltb, both_ways}
use Rattle.std.proofs.lemmas.Option.{same_Some, slice_get_within}
use Rattle.aero_model.specs.declared.numbered.Numbered.{Numbered}
use Rattle.aero_model.specs.declared.numbered.What.{What}
use Rattle.aero_model.specs.declared.numbered.What.TheVariants.{Read, Write, Acquire, Release, Fork, Join, Begin, End, Exempt}
use Rattle.aero_model.specs.Blocks.{is_begin, is_end, by_thread, blocks, depth, Block}
use Rattle.aero_model.specs.BlockCounts.{count_below}
use Rattle.aero_model.specs.Cycle.{HasTellingCycle}
use Rattle.aero_model.specs.Exempt.{Marked, read_events, nest, is_marked, is_latest_exempt, ends_exempt, judged_what, judged, judged_trace}
use Rattle.aero_model.specs.Excused.{excused_event, excused_after, excused_open, IsOpenBlockAt}
use Rattle.aero_model.specs.Graph.{LeadsTo}
use Rattle.aero_model.proofs.Depths.{opening_at}
use Rattle.aero_model.proofs.Exempt.{ends_is, judged_at, judged_depth_at, judged_length, read_at}
use Rattle.aero_model.proofs.OpenCount.{none_counted}
use Rattle.aero_model.proofs.Unblocked.{IsUnblocked, alone_at, deed_alone, is_excused, leads_same_as, stays_clean}

-- the events, place by place

after_at : (t from k : ℕ) (h : List Marked) (i : ℕ) → slice_get (excused_after t from k h) i ≡ option_map (excused_event t from (k + i)) (slice_get h i)
after_at t from k [] i = refl
after_at t from k (m ∷ more) zero = let here : k ≡ k + 0 = omega arith in ap (λ n. Some (excused_event t from n m)) here
after_at t from k (m ∷ more) (suc i) = let next : suc k + i ≡ k + suc i = omega arith in after_at t from (suc k) more i ∙ ap (λ n. option_map (excused_event t from n) (slice_get more i)) next

excused_at : (t from : ℕ) (h : List Marked) (i : ℕ) → slice_get (excused_open t from h) i ≡ option_map (excused_event t from i) (slice_get h i)
excused_at t from h i = let next : 0 + i ≡ i = omega arith in after_at t from 0 h i ∙ ap (λ n. option_map (excused_event t from n) (slice_get h i)) next

read_after : (t from k : ℕ) (h : List Marked) → read_events (excused_after t from k h) ≡ read_events h
read_after t from k [] = refl
read_after t from k (m ∷ more) = ap (λ l. m.event ∷ l) (read_after t from (suc k) more)

length_after : (t from k : ℕ) (h : List Marked) → length (excused_after t from k h) ≡ length h
length_after t from k [] = refl
length_after t from k (m ∷ more) = ap suc (length_after t from (suc k) more)

or_nothing : (b : Bool) → (b || false) ≡ b
or_nothing true = refl
or_nothing false = refl

not_not : (b : Bool) → not b ≡ false → b ≡ true
not_not true is = refl
not_not false is = absurd (cc)

none_below : (f : ℕ → Bool) (m : ℕ) → ((k : ℕ) → k < m → f k ≡ false) → count_below f m ≡ 0
none_below f zero none = refl
none_below f (suc m) none = cond-false (f m) (count_below f m + 1) (count_below f m) (none m (omega arith)) ∙ none_below f m (λ k l. none k (omega (arith, l)))

module _ (h : List Marked) (t from : ℕ) (opened : IsOpenBlockAt (judged_trace h) t from) where
  abbrev new : List Marked
  new = excused_open t from h

  nest_is : (u i : ℕ) → nest new u i ≡ nest h u i
  nest_is u i = ap (λ l. depth l u i) (read_after t from 0 h)

  -- a begin that isn't excused keeps its mark
  mark_stays : (u i : ℕ) → (u ≡ t → from ≤ i → ⊥) → (o : Option Marked) → by_thread u is_begin (option_map (λ m. m.event) o) ≡ true → is_marked (option_map (excused_event t from i) o) ≡ is_marked o
  mark_stays u i other None begins = refl
  mark_stays u i other (Some m) begins =
      let own : m.event.thread ≡ u = eqb-true m.event.thread u (and_parts (m.event.thread == u) (is_begin m.event.what) begins).0 in
      let free : ((m.event.thread == t) && nat_le from i) ≡ false = elim (cases_Bool ((m.event.thread == t) && nat_le from i)) [
        | inl so ↦ (let parts = and_parts (m.event.thread == t) (nat_le from i) so in absurd (other (sym own ∙ eqb-true m.event.thread t parts.0) (leb-true from i parts.1)))
        | inr not_so ↦ not_so
      ] in
      ap (λ b. m.exempt || b) free ∙ or_nothing m.exempt

  latest_stays_at : (u k i : ℕ) → (u ≡ t → from < i → ⊥) → is_latest_exempt new u k i ≡ is_latest_exempt h u k i
  latest_stays_at u k zero other = refl
  latest_stays_at u k (suc i) other =
      let test : (by_thread u is_begin (slice_get (read_events new) i) && (nest new u i == k)) ≡ (by_thread u is_begin (slice_get (read_events h) i) && (nest h u i == k)) =
      ap₂ (λ l d. by_thread u is_begin (slice_get l i) && (d == k)) (read_after t from 0 h) (nest_is u i) in
      ap (λ b. if b then is_marked (slice_get new i) else is_latest_exempt new u k i) test
      ∙ ap (λ r. if by_thread u is_begin (slice_get (read_events h) i) && (nest h u i == k) then is_marked (slice_get new i) else r) (latest_stays_at u k i (λ e l. other e (omega (arith, l))))
      ∙ go (cases_Bool (by_thread u is_begin (slice_get (read_events h) i) && (nest h u i == k)))
    where
      go : ((by_thread u is_begin (slice_get (read_events h) i) && (nest h u i == k)) ≡ true) ⊎ ((by_thread u is_begin (slice_get (read_events h) i) && (nest h u i == k)) ≡ false) →
          (if by_thread u is_begin (slice_get (read_events h) i) && (nest h u i == k) then is_marked (slice_get new i) else is_latest_exempt h u k i)
          ≡ (if by_thread u is_begin (slice_get (read_events h) i) && (nest h u i == k) then is_marked (slice_get h i) else is_latest_exempt h u k i)
      go (inr not_so) =
          cond-false (by_thread u is_begin (slice_get (read_events h) i) && (nest h u i == k)) (is_marked (slice_get new i)) (is_latest_exempt h u k i) not_so
          ∙ sym (cond-false (by_thread u is_begin (slice_get (read_events h) i) && (nest h u i == k)) (is_marked (slice_get h i)) (is_latest_exempt h u k i) not_so)
      go (inl so) =
          let begins = (and_parts (by_thread u is_begin (slice_get (read_events h) i)) (nest h u i == k) so).0 in
          let begins_there : by_thread u is_begin (option_map (λ m. m.event) (slice_get h i)) ≡ true = ap (by_thread u is_begin) (sym (read_at h i)) ∙ begins in
          ap (λ o. if by_thread u is_begin (slice_get (read_events h) i) && (nest h u i == k) then is_marked o else is_latest_exempt h u k i) (excused_at t from h i)
          ∙ ap (λ b. if by_thread u is_begin (slice_get (read_events h) i) && (nest h u i == k) then b else is_latest_exempt h u k i)
          (mark_stays u i (λ e l. other e (omega (arith, l))) (slice_get h i) begins_there)

  -- how many blocks, exempt ones, are open around the block
  abbrev around : ℕ
  around = nest h t from

  -- what is known of the open blocks of the thread behind its begin: those around it are exempt, and it and those within it are exempt now
  record Levels (i : ℕ) : Type 0 where
    outer : (k : ℕ) → k < around → is_latest_exempt h t k i ≡ true
    above : around ≤ nest h t i
    inner : (k : ℕ) → around ≤ k → k < nest h t i → is_latest_exempt new t k i ≡ true

  at_first : Levels from
  at_first = record {
    outer = λ k l. not_not (is_latest_exempt h t k from)
        (none_counted (judged_trace h) (λ k. not (is_latest_exempt h t k from)) around (sym (judged_depth_at h t from) ∙ (opening_at (judged_trace h) t from opened.begins).before) k l);
    above = le_refl around;
    inner = λ k le l. absurd (omega (arith, le, l));
  }

  -- behind the begin the block is one of the open ones
  deeper : (i : ℕ) → from < i → i ≤ length h → ((k : ℕ) → k < around → is_latest_exempt h t k i ≡ true) → around < nest h t i
  deeper i behind within outer = elim (cases_lt around (nest h t i)) [
    | inl l ↦ l
    | inr le ↦
        let none : count_below (λ k. not (is_latest_exempt h t k i)) (nest h t i) ≡ 0 = none_below (λ k. not (is_latest_exempt h t k i)) (nest h t i) (λ k l. ap not (outer k (omega (arith, l, le)))) in
        let long = judged_length h in
        absurd (omega (arith, opened.stays i behind (omega (arith, within, long)), judged_depth_at h t i, none))
  ]

  module _ (i : ℕ) (behind : from ≤ i) (within : suc i ≤ length h) (was : Levels i) where
    abbrev begins : Bool
    begins = by_thread t is_begin (slice_get (read_events h) i)

    outer : (k : ℕ) → k < around → is_latest_exempt h t k (suc i) ≡ true
    outer k l =
        let above = was.above in
        cond-false (begins && (nest h t i == k)) (is_marked (slice_get h i)) (is_latest_exempt h t k i) (and_right begins (nest h t i == k) (ne_eqb (nest h t i) k (λ e. omega (arith, e, above, l))))
        ∙ was.outer k l

    -- a begin of the thread is exempt now
    excused_here : (o : Option Marked) → by_thread t is_begin (option_map (λ m. m.event) o) ≡ true → is_marked (option_map (excused_event t from i) o) ≡ true
    excused_here None so = absurd (cc)
    excused_here (Some m) so =
        or_right m.exempt ((m.event.thread == t) && nat_le from i)
        (and_from (m.event.thread == t) (nat_le from i) (and_parts (m.event.thread == t) (is_begin m.event.what) so).0 (le-leb from i behind))

    nest_next : nest h t (suc i) ≡ (if begins then nest h t i + 1 else if by_thread t is_end (slice_get (read_events h) i) then nest h t i - 1 else nest h t i)
    nest_next = refl

    not_deeper : begins ≡ false → nest h t (suc i) ≤ nest h t i
    not_deeper none = go (by_thread t is_end (slice_get (read_events h) i)) refl
      where
        go : (b : Bool) → by_thread t is_end (slice_get (read_events h) i) ≡ b → nest h t (suc i) ≤ nest h t i
        go true ends =
            let less : nest h t (suc i) ≡ nest h t i - 1 = cond-false begins (nest h t i + 1) (if by_thread t is_end (slice_get (read_events h) i) then nest h t i - 1 else nest h t i) none ∙ cond-true (by_thread t is_end (slice_get (read_events h) i)) (nest h t i - 1) (nest h t i) ends in
            omega (arith, less)
        go false ends =
            let same : nest h t (suc i) ≡ nest h t i = cond-false begins (nest h t i + 1) (if by_thread t is_end (slice_get (read_events h) i) then nest h t i - 1 else nest h t i) none ∙ cond-false (by_thread t is_end (slice_get (read_events h) i)) (nest h t i - 1) (nest h t i) ends in
            omega (arith, same)

    latest_next : (k : ℕ) → is_latest_exempt new t k (suc i) ≡ (if begins && (nest h t i == k) then is_marked (slice_get new i) else is_latest_exempt new t k i)
    latest_next k = ap₂ (λ l d. if by_thread t is_begin (slice_get l i) && (d == k) then is_marked (slice_get new i) else is_latest_exempt new t k i) (read_after t from 0 h) (nest_is t i)

    here : (k : ℕ) → begins ≡ true → is_marked (slice_get new i) ≡ true
    here k so = ap is_marked (excused_at t from h i) ∙ excused_here (slice_get h i) (ap (by_thread t is_begin) (sym (read_at h i)) ∙ so)

    inner : (k : ℕ) → around ≤ k → k < nest h t (suc i) → is_latest_exempt new t k (suc i) ≡ true
    inner k le l = latest_next k ∙ go (cases_Bool begins) (cases_eq (nest h t i) k)
      where
        go : (begins ≡ true) ⊎ (begins ≡ false) → (nest h t i ≡ k) ⊎ (nest h t i ≡ k → ⊥) → (if begins && (nest h t i == k) then is_marked (slice_get new i) else is_latest_exempt new t k i) ≡ true
        go (inl so) (inl e) =
            cond-true (begins && (nest h t i == k)) (is_marked (slice_get new i)) (is_latest_exempt new t k i) (and_from begins (nest h t i == k) so (eq-eqb (nest h t i) k e)) ∙ here k so
        go (inl so) (inr d) =
            let more : nest h t (suc i) ≡ nest h t i + 1 = cond-true begins (nest h t i + 1) (if by_thread t is_end (slice_get (read_events h) i) then nest h t i - 1 else nest h t i) so in
            cond-false (begins && (nest h t i == k)) (is_marked (slice_get new i)) (is_latest_exempt new t k i) (and_right begins (nest h t i == k) (ne_eqb (nest h t i) k d))
            ∙ was.inner k le (omega (arith, l, more, d))
        go (inr not_so) c =
            cond-false (begins && (nest h t i == k)) (is_marked (slice_get new i)) (is_latest_exempt new t k i) (and_left begins (nest h t i == k) not_so)
            ∙ was.inner k le (omega (arith, l, not_deeper not_so))

    next : Levels (suc i)
    next = record { outer = outer; above = (let l = deeper (suc i) (omega (arith, behind)) within outer in omega (arith, l)); inner = inner }

  levels : (i : ℕ) → from ≤ i → i ≤ length h → Levels i
  levels zero behind within = let e : from ≡ 0 = omega (arith, behind) in subst Levels e at_first
  levels (suc i) behind within = elim (cases_eq from (suc i)) [
    | inl e ↦ subst Levels e at_first
    | inr d ↦ (let before : from ≤ i = omega (arith, behind, d) in next i before within (levels i before (omega (arith, within))))
  ]

  -- what is judged at a place

  module _ (i : ℕ) (m : Marked) (at : slice_get h i ≡ Some m) where
    abbrev u : ℕ
    u = m.event.thread

    new_at : slice_get new i ≡ Some (excused_event t from i m)
    new_at = excused_at t from h i ∙ ap (option_map (excused_event t from i)) at

    ends_new : m.event.what ≡ End → ends_exempt (take i new) u ≡ (nat_lt 0 (nest h u i) && is_latest_exempt new u (nest h u i - 1) i)
    ends_new what = ends_is new u i (excused_event t from i m) new_at (eq-eqb u u refl) what ∙ ap (λ d. nat_lt 0 d && is_latest_exempt new u (d - 1) i) (nest_is u i)

    -- the block's begin is no end
    not_first : m.event.what ≡ End → u ≡ t → from ≡ i → ⊥
    not_first what own e =
        let begins : by_thread t is_begin (slice_get (judged_trace h) i) ≡ true =
        subst (λ n. by_thread t is_begin (slice_get (judged_trace h) n) ≡ true) e (and_parts (by_thread t is_begin (slice_get (judged_trace h) from)) (depth (judged_trace h) t from == 0) opened.begins).0 in
        let there : by_thread t is_begin (Some (judged (take i h) m)) ≡ true = ap (by_thread t is_begin) (sym (judged_at h i ∙ ap (option_map (judged (take i h))) at)) ∙ begins in
        let so : is_begin (judged_what (take i h) u m.exempt m.event.what) ≡ true = (and_parts (u == t) (is_begin (judged (take i h) m).what) there).1 in
        no_begin (ends_exempt (take i h) u) (ap (λ w. is_begin (judged_what (take i h) u m.exempt w)) (sym what) ∙ so)
      where
        no_begin : (b : Bool) → is_begin (if b then Exempt else End) ≡ true → ⊥
        no_begin true so = cc
        no_begin false so = cc

    excused_end : m.event.what ≡ End → u ≡ t → from ≤ i → ends_exempt (take i new) u ≡ true
    excused_end what own behind =
        let within = slice_get_within h i m at in
        let l : from < i = elim (cases_eq from i) [ inl e ↦ absurd (not_first what own e) | inr d ↦ omega (arith, behind, d) ] in
        let is = levels i behind (omega (arith, within)) in
        let deep = deeper i l (omega (arith, within)) is.outer in
        ends_new what ∙ subst (λ v. (nat_lt 0 (nest h v i) && is_latest_exempt new v (nest h v i - 1) i) ≡ true) (sym own)
        (and_from (nat_lt 0 (nest h t i)) (is_latest_exempt new t (nest h t i - 1) i) (lt-ltb 0 (nest h t i) (omega (arith, deep))) (is.inner (nest h t i - 1) (omega (arith, deep)) (omega (arith, deep))))

    other_end : m.event.what ≡ End → (u ≡ t → from ≤ i → ⊥) → ends_exempt (take i new) u ≡ ends_exempt (take i h) u
    other_end what other =
        ends_new what ∙ ap (λ b. nat_lt 0 (nest h u i) && b) (latest_stays_at u (nest h u i - 1) i (λ e l. other e (omega (arith, l))))
        ∙ sym (ends_is h u i m at (eq-eqb u u refl) what)

    what_of : (w : What) → m.event.what ≡ w → (x : Bool) → is_excused t from i m.event ≡ x →
        judged_what (take i new) u (m.exempt || x) w ≡ (if x then deed_alone (judged_what (take i h) u m.exempt w) else judged_what (take i h) u m.exempt w)
    what_of (Begin label) what true is = ap (λ b. if b then Exempt else Begin None) (or_right m.exempt true refl) ∙ go m.exempt
      where
        go : (b : Bool) → Exempt ≡ deed_alone (if b then Exempt else Begin None)
        go true = refl
        go false = refl
    what_of (Begin label) what false is = ap (λ b. if b then Exempt else Begin None) (or_nothing m.exempt)
    what_of End what true is =
        let parts = and_parts (u == t) (nat_le from i) is in
        ap (λ b. if b then Exempt else End) (excused_end what (eqb-true u t parts.0) (leb-true from i parts.1)) ∙ go (ends_exempt (take i h) u)
      where
        go : (b : Bool) → Exempt ≡ deed_alone (if b then Exempt else End)
        go true = refl
        go false = refl
    what_of End what false is = ap (λ b. if b then Exempt else End) (other_end what (λ own behind. both_ways (is_excused t from i m.event) is (and_from (u == t) (nat_le from i) (eq-eqb u t own) (le-leb from i behind))))
    what_of (Read y) what true is = refl
    what_of (Read y) what false is = refl
    what_of (Write y) what true is = refl
    what_of (Write y) what false is = refl
    what_of (Acquire y) what true is = refl
    what_of (Acquire y) what false is = refl
    what_of (Release y) what true is = refl
    what_of (Release y) what false is = refl
    what_of (Fork y) what true is = refl
    what_of (Fork y) what false is = refl
    what_of (Join y) what true is = refl
    what_of (Join y) what false is = refl
    what_of Exempt what true is = refl
    what_of Exempt what false is = refl

    judged_alone : judged (take i new) (excused_event t from i m) ≡ alone_at t from i (judged (take i h) m)
    judged_alone = ap (λ w. record { thread = u; what = w }) (what_of m.event.what refl (is_excused t from i m.event) refl)

  is_unblocked : IsUnblocked (judged_trace h) (judged_trace new) t from
  is_unblocked i = judged_at new i ∙ ap (option_map (judged (take i new))) (excused_at t from h i) ∙ go (slice_get h i) refl ∙ ap (option_map (alone_at t from i)) (sym (judged_at h i))
    where
      go : (o : Option Marked) → slice_get h i ≡ o → option_map (judged (take i new)) (option_map (excused_event t from i) o) ≡ option_map (alone_at t from i) (option_map (judged (take i h)) o)
      go None at = refl
      go (Some m) at = ap Some (judged_alone i m at)

  all_of_it : length h ≤ length (judged_trace h)
  all_of_it = let long = judged_length h in omega (arith, long)

  pub excused_clean : ¬ HasTellingCycle (judged_trace h) (length h) → ¬ HasTellingCycle (judged_trace new) (length h)
  excused_clean none = stays_clean (judged_trace h) (judged_trace new) t from is_unblocked opened (length h) all_of_it none

  pub excused_leads : (v j : ℕ) → v ≢ t →
      (LeadsTo (judged_trace h) (length h) (Block v (blocks (judged_trace h) v (length h))) j → LeadsTo (judged_trace new) (length h) (Block v (blocks (judged_trace new) v (length h))) j)
      × (LeadsTo (judged_trace new) (length h) (Block v (blocks (judged_trace new) v (length h))) j → LeadsTo (judged_trace h) (length h) (Block v (blocks (judged_trace h) v (length h))) j)
  excused_leads v j differ = leads_same_as (judged_trace h) (judged_trace new) t from is_unblocked opened (length h) all_of_it v differ j

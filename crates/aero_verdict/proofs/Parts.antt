-- The parts of a trace, one after the other.
use Rattle.std.proofs.Common.{◌≡◌, ℕ, suc, ◌+◌, ◌-◌, ◌<◌, ◌≤◌, ◌^◌, nat_le, nat_lt, min, Bool, true, false, List, [], ◌∷◌, ◌++◌, length, map, drop, Some, None, option_map, inl, sym, ◌∙◌, ap, ap₂, subst, refl, arith, add-one, length-append}
use Rattle.std.specs.Prelude.{slice_get, is_some, All, if◌then◌else◌}
use Rattle.std.proofs.lemmas.Bool.{cond-true, cond-false, lt-ltb, le-ltb}
use Rattle.std.proofs.lemmas.List.{append_assoc, append-nil, drop_all, take_all, map-append, length-map}
use Rattle.std.proofs.lemmas.List.Elements.{filter-append, All-nil, All-append, All-map, All-same}
use Rattle.aero_model.specs.declared.verdict.LineFault.{LineFault}
use Rattle.aero_model.specs.declared.verdict.LineFault.TheVariants.{TooManyLines}
use Rattle.aero_model.specs.declared.verdict.Verdict.{Verdict}
use Rattle.aero_model.specs.Ended.{ends_at_end}
use Rattle.aero_model.specs.Named.{Named}
use Rattle.aero_model.specs.Shape.{IsLawful}
use Rattle.aero_model.specs.Cycle.{HasTellingCycle}
use Rattle.aero_model.specs.Numbering.{tables_of}
use Rattle.aero_model.specs.BlockCounts.{count_below, is_outer_begin, is_outer_end}
use Rattle.aero_grammar.specs.Reading.{Reading, after_lines, whole_reading, IsReading, fault_within}
use Rattle.aero_engine.specs.Given.{Words}
use Rattle.aero_verdict.specs.declared.checker.Checker.{Checker}
use Rattle.aero_verdict.specs.declared.checker.Stop.{Stop}
use Rattle.aero_verdict.specs.declared.checker.Stop.TheVariants.{Refused, Closed}
use Rattle.aero_verdict.specs.Ending.{GoesBehind, StandsBehind, ends_behind}
use Rattle.aero_verdict.specs.Standing.{StandsFor, KeepsFirst, HasNamedActor, CanBeTold, names_of, up_to, AreNext, StopsIn, TellsStop}
use Rattle.aero_verdict.specs.declared.known.Exemptions.{Exemptions}
use Rattle.aero_verdict.specs.Known.{AreMarked}
use Rattle.aero_verdict.specs.Parts.{AreBefore, greatest_number, Stands, KeepsAt, NamesAll, ComesNext, ClosesEarly}
use Rattle.aero_verdict.specs.Verdict.{counted_events, own_events, faulty_line, with_ends, events_of, read_trace, checked_trace, IsClean, IsVerdict, IsMalformed, IsFaultless}
use Rattle.aero_model.specs.Terms.{Rules}
use Rattle.aero_verdict.proofs.Ending.{so_far, last_ends, last_later, counted_is, counted_faulty, with_append, with_later, with_none, without_any, some_ended}
use Rattle.aero_verdict.proofs.Readings.{after_faulty, begins_with, passed_on, rising_within, all_up_to, up_to_shorter, up_to_after, fault_told, goes_on, trace_length, start, here}
use Rattle.aero_verdict.proofs.Stops.{verdict_at, keeps_at}
use Rattle.aero_verdict.proofs.ThreadNames.{can_be_told}

-- nothing is wrong with the events, where all of them were admitted
pub clean_here : {E : Type 0} (words : Words E) (rules : Rules) (parts : List Reading) (checker : Checker E) → StandsFor words rules checker (counted_events parts rules) → checker.shape.admitted ≡ length (checked_trace parts rules) →
    IsClean parts rules (length (checked_trace parts rules))
clean_here words rules parts checker stands all =
    record {
      lawful = subst (IsLawful rules.limits (read_trace parts rules)) all stands.counts.lawful;
      no_cycle = subst (λ n. ¬ HasTellingCycle (checked_trace parts rules) n) all stands.untold;
    }

module _ (rules : Rules) (parts rest : List Reading) (p : Reading) (events : List (ℕ × Named)) (total : ℕ) (before : AreBefore parts (p ∷ rest) events total) (reading : IsReading p) (most : ℕ) (most_is : most ≡ rules.limits.lines - total) where
  -- the events so far that count, and those of this part
  abbrev own_front : List (ℕ × Named)
  own_front = up_to rules.limits.lines events

  abbrev own_more : List (ℕ × Named)
  own_more = up_to most p.events

  -- and with the ends between them
  abbrev front : List (ℕ × Named)
  front = with_ends rules [] own_front

  abbrev more : List (ℕ × Named)
  more = with_ends rules (names_of front) own_more

  counted_here : up_to rules.limits.lines (map (after_lines total) p.events) ≡ map (after_lines total) own_more
  counted_here = up_to_after total rules.limits.lines 0 p.events reading.rising ∙ ap (λ k. map (after_lines total) (up_to k p.events)) (sym most_is)

  counted_with : up_to rules.limits.lines (events ++ map (after_lines total) p.events) ≡ own_front ++ map (after_lines total) own_more
  counted_with = filter-append (λ e. nat_le e.0 rules.limits.lines) events (map (after_lines total) p.events) ∙ ap (λ es. own_front ++ es) counted_here

  ended_with : with_ends rules [] (up_to rules.limits.lines (events ++ map (after_lines total) p.events)) ≡ front ++ map (after_lines total) more
  ended_with =
      ap (with_ends rules []) counted_with
      ∙ with_append rules [] own_front (map (after_lines total) own_more)
      ∙ ap (λ es. front ++ es) (with_later rules total (names_of front) own_more)

  pub few_more : length own_more ≤ most
  few_more = let few = rising_within 0 most p.events reading.rising (omega arith) in omega (arith, few)

  no_more_than_lines : length own_more ≤ p.lines
  no_more_than_lines =
      let few = rising_within 0 p.lines p.events reading.rising (omega arith) in
      let all = ap length (all_up_to p.lines p.events reading.within) in
      let shorter = up_to_shorter most p.events in
      omega (arith, few, all, shorter)

  module _ {E : Type 0} (words : Words E) (checker : Checker E) (lines : ℕ) (k : ℕ) (count_is : checker.shape.admitted ≡ length front) (kept : (later : List (ℕ × Named)) → StandsFor words rules checker (front ++ later)) (lines_are : lines ≡ min total greatest_number) (block : List (List ℕ)) (flags : Exemptions) (marked : AreMarked rules.labels block flags) where
    -- where an event counts, the lines before it can be told
    lines_told : 0 < length more → total ≡ lines
    lines_told some =
        let own : 0 < length own_more = some_ended rules (names_of front) own_more some in
        let few : length own_more ≤ most = few_more in
        let small : rules.limits.lines ≤ 4000000000 = let below = rules.limits.most_lines in omega (arith, below) in
        omega (arith, own, few, most_is, lines_are, small)

    next_here : (later : List (ℕ × Named)) → AreNext words rules checker (front ++ (map (after_lines total) more ++ later)) block flags lines more
    next_here later = (
      kept (map (after_lines total) more ++ later),
      λ i less. goes_on front later more total checker.shape.admitted count_is i less ∙ ap (λ n. option_map (after_lines n) (slice_get more i)) (lines_told (omega (arith, less))),
      inl marked,
    )

    pub behind_here : (rules.end ≡ false → length front + length own_more < 2 ^ 32) → GoesBehind words rules checker front block flags own_more
    behind_here short = record { stands = record { count_is = count_is; kept = kept }; marked = marked; few = short }

    -- the events of the whole
    later_events : List (ℕ × Named)
    later_events = map (after_lines total) (begins_with p (whole_reading rest)).0

    own_later : List (ℕ × Named)
    own_later = up_to rules.limits.lines later_events

    own_whole : own_events parts rules ≡ own_front ++ (map (after_lines total) own_more ++ own_later)
    unfolding later_events own_later
    own_whole =
        ap (up_to rules.limits.lines) (before.events_are ∙ ap (λ es. events ++ map (after_lines total) es) (begins_with p (whole_reading rest)).1)
        ∙ filter-append (λ e. nat_le e.0 rules.limits.lines) events (map (after_lines total) (p.events ++ (begins_with p (whole_reading rest)).0))
        ∙ ap (λ es. own_front ++ es) (
        ap (up_to rules.limits.lines) (map-append (after_lines total) p.events (begins_with p (whole_reading rest)).0)
        ∙ filter-append (λ e. nat_le e.0 rules.limits.lines) (map (after_lines total) p.events) (map (after_lines total) (begins_with p (whole_reading rest)).0)
        ∙ ap (λ es. es ++ up_to rules.limits.lines (map (after_lines total) (begins_with p (whole_reading rest)).0)) counted_here
        )

    -- those behind this part, with their ends
    tail : List (ℕ × Named)
    tail = with_ends rules (names_of front ++ names_of (with_ends rules (names_of front) (map (after_lines total) own_more))) own_later

    so_far_whole : so_far parts rules ≡ front ++ (map (after_lines total) more ++ tail)
    unfolding tail
    so_far_whole =
        ap (with_ends rules []) own_whole
        ∙ with_append rules [] own_front (map (after_lines total) own_more ++ own_later)
        ∙ ap (λ es. front ++ es) (
        with_append rules (names_of front) (map (after_lines total) own_more) own_later
        ∙ ap (λ es. es ++ with_ends rules (names_of front ++ names_of (with_ends rules (names_of front) (map (after_lines total) own_more))) own_later) (with_later rules total (names_of front) own_more)
        )

    counted_whole : counted_events parts rules ≡ front ++ (map (after_lines total) more ++ (tail ++ last_ends parts rules))
    counted_whole =
        counted_is parts rules
        ∙ ap (λ es. es ++ last_ends parts rules) so_far_whole
        ∙ append_assoc front (map (after_lines total) more ++ tail) (last_ends parts rules)
        ∙ ap (λ es. front ++ es) (append_assoc (map (after_lines total) more) tail (last_ends parts rules))

    next_whole : AreNext words rules checker (counted_events parts rules) block flags lines more
    next_whole = subst (λ all. AreNext words rules checker all block flags lines more) (sym counted_whole) (next_here (tail ++ last_ends parts rules))

    so_many_so_far : length front + length more ≤ length (so_far parts rules)
    so_many_so_far =
        let long = ap (λ (es : List (ℕ × Named)). length es) so_far_whole in
        let first = length-append front (map (after_lines total) more ++ tail) in
        let second = length-append (map (after_lines total) more) tail in
        let same = length-map more (after_lines total) in
        omega (arith, long, first, second, same)

    early_here : (new : Checker E) (line : ℕ) (stop : Stop) → StopsIn words rules new (counted_events parts rules) checker.shape.admitted lines more line stop → (verdict : Verdict) → TellsStop new line stop verdict → ClosesEarly parts rules verdict
    early_here new line (Refused fault) stops verdict tells = subst (ClosesEarly parts rules) (sym tells.1) tt
    early_here new line (Closed t) stops verdict tells =
        let many = so_many_so_far in
        let within = stops.within in
        subst (ClosesEarly parts rules) (sym tells.2) (checker.shape.admitted + stops.index, stops.stops.2.0, omega (arith, many, within, count_is))

    -- what stops in this part is told
    pub stopped : (new : Checker E) (line : ℕ) (stop : Stop) → ((all : List (ℕ × Named)) → AreNext words rules checker all block flags lines more → StopsIn words rules new all checker.shape.admitted lines more line stop) →
        (verdict : Verdict) → TellsStop new line stop verdict → IsVerdict parts rules verdict × KeepsAt words.keeps rules parts new verdict × ClosesEarly parts rules verdict
    stopped new line stop stops verdict tells =
        let here = stops (counted_events parts rules) next_whole in (
          verdict_at words rules parts new checker.shape.admitted lines more line stop here verdict tells,
          keeps_at words rules parts new checker.shape.admitted lines more line stop here verdict tells,
          early_here new line stop here verdict tells,
        )

    -- and where that is a cycle, its thread has a name
    pub stopped_named : All HasNamedActor front → All HasNamedActor more → (new : Checker E) (line : ℕ) (stop : Stop) → ((all : List (ℕ × Named)) → AreNext words rules checker all block flags lines more → StopsIn words rules new all checker.shape.admitted lines more line stop) →
        CanBeTold new stop
    stopped_named before_named here_named new line stop stops =
        can_be_told words rules new (front ++ (map (after_lines total) more ++ []))
        (All-append HasNamedActor front (map (after_lines total) more ++ []) before_named (All-append HasNamedActor (map (after_lines total) more) [] (All-map HasNamedActor (after_lines total) more here_named) (All-nil HasNamedActor)))
        checker.shape.admitted lines more line stop (stops (front ++ (map (after_lines total) more ++ [])) (next_here []))

    module _ (new : Checker E) (counted : new.shape.admitted ≡ checker.shape.admitted + length more) (kept_on : (all : List (ℕ × Named)) → AreNext words rules checker all block flags lines more → StandsFor words rules new all) where
      stands_whole : StandsFor words rules new (counted_events parts rules)
      stands_whole = kept_on (counted_events parts rules) next_whole

      -- where this part has a fault, its line is malformed
      pub malformed : (line : ℕ) (fault : LineFault) → p.fault ≡ Some (line, fault) → (told : ℕ × LineFault) →
          ((all_lines : ℕ) → fault_within rules.limits.lines all_lines (Some (min (lines + line) greatest_number, fault)) ≡ Some told) → IsMalformed parts rules told.0 told.1
      malformed line fault is told tells =
          let faulty : is_some p.fault ≡ true = ap is_some is in
          let only : (whole_reading parts).events ≡ events ++ map (after_lines total) p.events = before.events_are ∙ ap (λ r. events ++ map (after_lines total) r.events) (after_faulty p (whole_reading rest) faulty) in
          let small : rules.limits.lines ≤ 4000000000 = let below = rules.limits.most_lines in omega (arith, below) in
          let same : min (total + line) greatest_number ≡ min (lines + line) greatest_number = omega arith in
          let cause : faulty_line parts rules ≡ Some told =
          ap (fault_within rules.limits.lines (whole_reading parts).lines) (
          before.fault_is
          ∙ ap (λ r. option_map (after_lines total) r.fault) (after_faulty p (whole_reading rest) faulty)
          ∙ ap (option_map (after_lines total)) is
          )
          ∙ fault_told rules.limits.lines (whole_reading parts).lines (total + line) fault small
          ∙ ap (λ k. fault_within rules.limits.lines (whole_reading parts).lines (Some (k, fault))) same
          ∙ tells (whole_reading parts).lines in
          let whole : counted_events parts rules ≡ front ++ map (after_lines total) more =
          counted_faulty parts rules (ap is_some cause) ∙ ap (λ es. with_ends rules [] (up_to rules.limits.lines es)) only ∙ ended_with in
          let len : new.shape.admitted ≡ length (checked_trace parts rules) =
          counted
          ∙ ap₂ (λ a b. a + b) count_is (sym (length-map more (after_lines total)))
          ∙ sym (length-append front (map (after_lines total) more))
          ∙ ap length (sym whole)
          ∙ sym (trace_length rules parts) in
          record { clean = clean_here words rules parts new stands_whole len; cause = cause }

      -- this part is one of those before, where it has no fault
      passed : p.fault ≡ None → AreBefore parts rest (events ++ map (after_lines total) p.events) (total + p.lines)
      passed = passed_on parts rest p events total before

      within_here : All (λ e. e.0 ≤ total) events → All (λ e. e.0 ≤ total + p.lines) (events ++ map (after_lines total) p.events)
      within_here before_within =
          All-append (λ e. e.0 ≤ total + p.lines) events (map (after_lines total) p.events)
          (λ i d less. omega (arith, before_within i d less))
          (All-map (λ e. e.0 ≤ total + p.lines) (after_lines total) p.events (λ i d less. omega (arith, reading.within i d less)))

      pub stands_after : All (λ e. e.0 ≤ total) events → All HasNamedActor front → All HasNamedActor more → length own_front ≤ total → length own_front ≤ rules.limits.lines → p.fault ≡ None → rest ≡ drop (k + 1) parts →
          (lines_after : ℕ) → lines_after ≡ min (lines + p.lines) greatest_number → Stands words rules parts (k + 1) lines_after new
      stands_after before_within before_named here_named few few_enough none rest_is lines_after after_is =
          let len : length (up_to rules.limits.lines (events ++ map (after_lines total) p.events)) ≡ length own_front + length own_more =
          ap length counted_with ∙ length-append own_front (map (after_lines total) own_more) ∙ ap (λ b. length own_front + b) (length-map own_more (after_lines total)) in
          let all_len : length (with_ends rules [] (up_to rules.limits.lines (events ++ map (after_lines total) p.events))) ≡ length front + length more =
          ap length ended_with ∙ length-append front (map (after_lines total) more) ∙ ap (λ b. length front + b) (length-map more (after_lines total)) in
          let by_lines : length own_more ≤ p.lines = no_more_than_lines in
          let by_limit : length own_more ≤ most = few_more in
          record {
            events = events ++ map (after_lines total) p.events;
            total = total + p.lines;
            before = subst (λ r. AreBefore parts r (events ++ map (after_lines total) p.events) (total + p.lines)) rest_is (passed none);
            lines_are = omega (arith, after_is, lines_are);
            count_is = counted ∙ ap (λ a. a + length more) count_is ∙ sym all_len;
            few = omega (arith, len, few, by_lines);
            within = within_here before_within;
            few_enough = omega (arith, len, few, few_enough, by_limit, most_is);
            actors =
                All-same HasNamedActor (with_ends rules [] (up_to rules.limits.lines (events ++ map (after_lines total) p.events))) (front ++ map (after_lines total) more) ended_with
                (All-append HasNamedActor front (map (after_lines total) more) before_named (All-map HasNamedActor (after_lines total) more here_named));
            kept = λ later.
                subst (StandsFor words rules new) (sym (append_assoc front (map (after_lines total) more) later) ∙ ap (λ es. es ++ later) (sym ended_with)) (kept_on (front ++ (map (after_lines total) more ++ later)) (next_here later));
          }

pub nothing_yet : {E : Type 0} (words : Words E) (rules : Rules) (parts : List Reading) (checker : Checker E) → checker.shape.admitted ≡ 0 → ((events : List (ℕ × Named)) → StandsFor words rules checker events) → Stands words rules parts 0 0 checker
nothing_yet words rules parts checker none kept =
    record {
      events = [];
      total = 0;
      before = start parts;
      lines_are = omega arith;
      count_is = none ∙ ap length (sym (with_none rules []));
      few = omega arith;
      within = All-nil (λ e. e.0 ≤ 0);
      few_enough = omega arith;
      actors = All-same HasNamedActor (with_ends rules [] []) [] (with_none rules []) (All-nil HasNamedActor);
      kept = λ later. kept (with_ends rules [] [] ++ later);
    }

-- after all parts

module _ {E : Type 0} (words : Words E) (rules : Rules) (parts : List Reading) (k lines : ℕ) (checker : Checker E) (stands : Stands words rules parts k lines checker) (all : length parts ≤ k) where
  before_none : AreBefore parts [] stands.events stands.total
  before_none = subst (λ r. AreBefore parts r stands.events stands.total) (drop_all k parts all) stands.before

  events_are : (whole_reading parts).events ≡ stands.events
  events_are = before_none.events_are ∙ append-nil stands.events

  lines_whole : (whole_reading parts).lines ≡ stands.total
  lines_whole = let n = before_none.lines_are in omega (arith, n)

  -- the events that count, but for the ends at the end
  abbrev pub fed : List (ℕ × Named)
  fed = with_ends rules [] (up_to rules.limits.lines stands.events)

  pub fed_are : so_far parts rules ≡ fed
  fed_are = ap (λ es. with_ends rules [] (up_to rules.limits.lines es)) events_are

  pub counted_are : counted_events parts rules ≡ fed ++ last_ends parts rules
  counted_are = counted_is parts rules ∙ ap (λ es. es ++ last_ends parts rules) fed_are

  pub stands_behind : StandsBehind words rules checker fed
  stands_behind = record { count_is = stands.count_is; kept = stands.kept }

  -- it stands for all events that count, and has admitted those but for the ends at the end
  pub at_end : StandsFor words rules checker (counted_events parts rules)
  at_end = subst (StandsFor words rules checker) (sym counted_are) (stands.kept (last_ends parts rules))

  malformed_is : faulty_line parts rules ≡ (if nat_lt rules.limits.lines (stands.total + 0) then Some (suc rules.limits.lines, TooManyLines) else None)
  malformed_is = ap₂ (λ n f. fault_within rules.limits.lines n f) before_none.lines_are before_none.fault_is

  pub too_many : rules.limits.lines < lines → IsMalformed parts rules (rules.limits.lines + 1) TooManyLines
  too_many more =
      let cause : faulty_line parts rules ≡ Some (rules.limits.lines + 1, TooManyLines) =
      malformed_is
      ∙ cond-true (nat_lt rules.limits.lines (stands.total + 0)) _ _ (lt-ltb rules.limits.lines (stands.total + 0) (omega (arith, stands.lines_are)))
      ∙ ap (λ n. Some (n, TooManyLines)) (sym (add-one rules.limits.lines)) in
      let admitted : checker.shape.admitted ≡ length (checked_trace parts rules) =
      stands.count_is ∙ ap length (sym (counted_faulty parts rules (ap is_some cause) ∙ fed_are)) ∙ sym (trace_length rules parts) in
      record { clean = clean_here words rules parts checker at_end admitted; cause = cause }

  module _ (few : lines ≤ rules.limits.lines) where
    pub lines_here : (whole_reading parts).lines ≡ lines
    lines_here =
        let small : rules.limits.lines ≤ 4000000000 = let below = rules.limits.most_lines in omega (arith, below) in
        omega (arith, lines_whole, stands.lines_are, few, small)

    pub no_fault : faulty_line parts rules ≡ None
    no_fault =
        let small : rules.limits.lines ≤ 4000000000 = let below = rules.limits.most_lines in omega (arith, below) in
        malformed_is ∙ cond-false (nat_lt rules.limits.lines (stands.total + 0)) _ _ (le-ltb rules.limits.lines (stands.total + 0) (omega (arith, stands.lines_are, small)))

    -- the ends at the end
    pub last_are : last_ends parts rules ≡ map (after_lines lines) (ends_behind rules fed)
    last_are = go rules.end (is_some (faulty_line parts rules)) (ap is_some no_fault)
      where
        go : (b faulty : Bool) → faulty ≡ false →
            (if b then (if faulty then [] else ends_at_end (names_of (so_far parts rules)) (suc (whole_reading parts).lines)) else []) ≡ map (after_lines lines) (if b then ends_at_end (names_of fed) 1 else [])
        go true true none = absurd (cc)
        go true false none =
            ap₂ (λ es n. ends_at_end (names_of es) (suc n)) fed_are lines_here ∙ ap (ends_at_end (names_of fed)) (sym (add-one lines)) ∙ last_later lines (names_of fed)
        go false faulty none = refl

    pub counted_ended : counted_events parts rules ≡ fed ++ map (after_lines lines) (ends_behind rules fed)
    counted_ended = counted_are ∙ ap (λ es. fed ++ es) last_are

-- where all events that count were admitted

module _ {E : Type 0} (words : Words E) (rules : Rules) (parts : List Reading) (checker : Checker E) (at_end : StandsFor words rules checker (counted_events parts rules)) (counted : checker.shape.admitted ≡ length (counted_events parts rules)) where
  admitted_are : checker.shape.admitted ≡ length (checked_trace parts rules)
  admitted_are = counted ∙ sym (trace_length rules parts)

  -- the names are those of all events that count
  pub names_all : All HasNamedActor (counted_events parts rules) → NamesAll rules parts checker.numbering
  names_all actors = record {
    names_are = at_end.counts.names_are ∙ ap tables_of (take_all checker.shape.admitted (events_of parts rules) (let long = length-map (counted_events parts rules) (λ (e : ℕ × Named). e.1) in omega (arith, admitted_are, trace_length rules parts, long)));
    actors = actors;
  }

  -- the engine keeps all events that count
  pub keeps_all : KeepsFirst words.keeps rules (counted_events parts rules) (length (counted_events parts rules)) checker.engine
  keeps_all = subst (λ n. KeepsFirst words.keeps rules (counted_events parts rules) n checker.engine) counted at_end.engine_keeps

  begun_whole : checker.blocks.begun ≡ count_below (is_outer_begin (checked_trace parts rules)) (length (checked_trace parts rules))
  begun_whole = at_end.counts.begun_are ∙ ap (count_below (is_outer_begin (checked_trace parts rules))) admitted_are

  ended_whole : checker.blocks.ended ≡ count_below (is_outer_end (checked_trace parts rules)) (length (checked_trace parts rules))
  ended_whole = at_end.counts.ended_are ∙ ap (count_below (is_outer_end (checked_trace parts rules))) admitted_are

  -- the engine stands for all events that count
  pub stands_for_all : words.stands checker.engine (checked_trace parts rules)
  stands_for_all = subst (words.stands checker.engine) (take_all checker.shape.admitted (checked_trace parts rules) (omega (arith, admitted_are))) at_end.engine_stands

  pub faultless : faulty_line parts rules ≡ None → IsFaultless parts rules checker.shape.admitted checker.blocks.begun (checker.blocks.begun - checker.blocks.ended)
  faultless none =
      record {
        clean = clean_here words rules parts checker at_end admitted_are;
        no_fault = none;
        events_are = admitted_are;
        blocks_are = begun_whole;
        open_are = ap₂ (λ b e. b - e) begun_whole ended_whole;
      }

-- the next part

module _ {E : Type 0} (words : Words E) (rules : Rules) (parts : List Reading) (k lines : ℕ) (checker : Checker E) (part : Reading) (next : ComesNext words rules parts k lines checker part) (p : Reading) (view : p ≡ part) (reading : IsReading p) (most : ℕ) (most_is : most ≡ rules.limits.lines - lines) (es : List (ℕ × Named)) (es_are : es ≡ p.events) (block : List (List ℕ)) (flags : Exemptions) (marked : AreMarked rules.labels block flags) where
  abbrev stands : Stands words rules parts k lines checker
  stands = next.so_far

  before_here : AreBefore parts (p ∷ drop (k + 1) parts) stands.events stands.total
  before_here = here parts k p part next.part_is view stands.events stands.total stands.before

  most_here : most ≡ rules.limits.lines - stands.total
  most_here = let small : rules.limits.lines ≤ 4000000000 = let below = rules.limits.most_lines in omega (arith, below) in omega (arith, most_is, stands.lines_are, small)

  few_here : rules.end ≡ false → length (with_ends rules [] (up_to rules.limits.lines stands.events)) + length (up_to most p.events) < 2 ^ 32
  few_here none =
      let same = ap (λ (es : List (ℕ × Named)). length es) (without_any rules [] (up_to rules.limits.lines stands.events) none) in
      let small : rules.limits.lines ≤ 4000000000 = let below = rules.limits.most_lines in omega (arith, below) in
      let few = few_more rules parts (drop (k + 1) parts) p stands.events stands.total before_here reading most most_here in
      omega (arith, same, small, few, stands.few_enough, most_is)

  -- the events so far with the ends between them
  abbrev pub so_far_here : List (ℕ × Named)
  so_far_here = with_ends rules [] (up_to rules.limits.lines stands.events)

  abbrev pub ended_here : List (ℕ × Named)
  ended_here = with_ends rules (names_of so_far_here) (up_to most es)

  own_same : up_to most es ≡ up_to most p.events
  own_same = ap (up_to most) es_are

  pub part_behind : GoesBehind words rules checker so_far_here block flags (up_to most es)
  part_behind =
      subst (GoesBehind words rules checker so_far_here block flags) (sym own_same)
      (behind_here rules parts (drop (k + 1) parts) p stands.events stands.total before_here reading most most_here words checker lines k stands.count_is stands.kept stands.lines_are block flags marked few_here)

  pub lines_fit : lines + most < 2 ^ 32
  lines_fit = let small : rules.limits.lines ≤ 4000000000 = let below = rules.limits.most_lines in omega (arith, below) in omega (arith, most_is, small, stands.lines_are)

  pub part_stopped : (new : Checker E) (line : ℕ) (stop : Stop) → ((all : List (ℕ × Named)) → AreNext words rules checker all block flags lines ended_here → StopsIn words rules new all checker.shape.admitted lines ended_here line stop) →
      (verdict : Verdict) → TellsStop new line stop verdict → IsVerdict parts rules verdict × KeepsAt words.keeps rules parts new verdict × ClosesEarly parts rules verdict
  part_stopped new line stop stops =
      stopped rules parts (drop (k + 1) parts) p stands.events stands.total before_here reading most most_here words checker lines k stands.count_is stands.kept stands.lines_are block flags marked new line stop
      (subst (λ xs. (all : List (ℕ × Named)) → AreNext words rules checker all block flags lines (with_ends rules (names_of so_far_here) xs) → StopsIn words rules new all checker.shape.admitted lines (with_ends rules (names_of so_far_here) xs) line stop) own_same stops)

  named_here : All HasNamedActor ended_here → All HasNamedActor (with_ends rules (names_of so_far_here) (up_to most p.events))
  named_here named = subst (λ xs. All HasNamedActor (with_ends rules (names_of so_far_here) xs)) own_same named

  pub part_can_be_told : All HasNamedActor ended_here → (new : Checker E) (line : ℕ) (stop : Stop) → ((all : List (ℕ × Named)) → AreNext words rules checker all block flags lines ended_here → StopsIn words rules new all checker.shape.admitted lines ended_here line stop) →
      CanBeTold new stop
  part_can_be_told named new line stop stops =
      stopped_named rules parts (drop (k + 1) parts) p stands.events stands.total before_here reading most most_here words checker lines k stands.count_is stands.kept stands.lines_are block flags marked stands.actors (named_here named) new line stop
      (subst (λ xs. (all : List (ℕ × Named)) → AreNext words rules checker all block flags lines (with_ends rules (names_of so_far_here) xs) → StopsIn words rules new all checker.shape.admitted lines (with_ends rules (names_of so_far_here) xs) line stop) own_same stops)

  module _ (new : Checker E) (counted : new.shape.admitted ≡ checker.shape.admitted + length ended_here) (kept_on : (all : List (ℕ × Named)) → AreNext words rules checker all block flags lines ended_here → StandsFor words rules new all) where
    counted_on : new.shape.admitted ≡ checker.shape.admitted + length (with_ends rules (names_of so_far_here) (up_to most p.events))
    counted_on = counted ∙ ap (λ xs. checker.shape.admitted + length (with_ends rules (names_of so_far_here) xs)) own_same

    kept_here : (all : List (ℕ × Named)) → AreNext words rules checker all block flags lines (with_ends rules (names_of so_far_here) (up_to most p.events)) → StandsFor words rules new all
    kept_here = subst (λ xs. (all : List (ℕ × Named)) → AreNext words rules checker all block flags lines (with_ends rules (names_of so_far_here) xs) → StandsFor words rules new all) own_same kept_on

    pub part_malformed : (line : ℕ) (fault : LineFault) → p.fault ≡ Some (line, fault) → (told : ℕ × LineFault) →
        ((all_lines : ℕ) → fault_within rules.limits.lines all_lines (Some (min (lines + line) greatest_number, fault)) ≡ Some told) → IsMalformed parts rules told.0 told.1
    part_malformed =
        malformed rules parts (drop (k + 1) parts) p stands.events stands.total before_here reading most most_here words checker lines k stands.count_is stands.kept stands.lines_are block flags marked new counted_on kept_here

    pub part_passed : All HasNamedActor ended_here → p.fault ≡ None → Stands words rules parts (k + 1) (min (lines + part.lines) greatest_number) new
    part_passed named none =
        stands_after rules parts (drop (k + 1) parts) p stands.events stands.total before_here reading most most_here words checker lines k stands.count_is stands.kept stands.lines_are block flags marked new counted_on kept_here
        stands.within stands.actors (named_here named) stands.few stands.few_enough none refl (min (lines + part.lines) greatest_number) (ap (λ (r : Reading). min (lines + r.lines) greatest_number) (sym view))

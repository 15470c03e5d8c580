-- A monitor that is fed one part more.
use Rattle.std.proofs.Common.{◌≡◌, ◌⊎◌, if◌then◌else◌, inl, inr, ℕ, zero, suc, Bool, Result, Ok, Err, ◌+◌, ◌-◌, ◌<◌, ◌≤◌, nat_le, nat_lt, min, true, false, List, [], ◌∷◌, ◌++◌, length, map, drop, Option, Some, None, option_map, sym, ◌∙◌, ap, ap₂, subst, arith, refl, add-zero, add-one, length-append}
use Rattle.std.specs.Prelude.{is_some, slice_get, All, IfSome, IfOk, OnErr}
use Rattle.std.specs.declared.alloc.AllocError.{AllocError}
use Rattle.std.proofs.lemmas.Bool.{cases_lt, cond-true, cond-false, lt-ltb, lt-leb}
use Rattle.std.proofs.lemmas.List.{append_assoc, append-nil, drop_all, length-map}
use Rattle.std.proofs.lemmas.List.Elements.{All-append, All-map, All-nil, All-same, filter-append}
use Rattle.aero_model.specs.declared.limits.Limits.{Limits}
use Rattle.aero_model.specs.declared.verdict.LineFault.{LineFault}
use Rattle.aero_model.specs.declared.verdict.LineFault.TheVariants.{TooManyLines}
use Rattle.aero_model.specs.declared.verdict.Verdict.{Verdict}
use Rattle.aero_model.specs.declared.verdict.Verdict.TheVariants.{Serializable, Pending, Violation, Malformed, IllFormed}
use Rattle.aero_model.specs.Ended.{ends_at_end}
use Rattle.aero_model.specs.Exempt.{Listed}
use Rattle.aero_model.specs.Named.{Named}
use Rattle.aero_model.specs.Verdicts.{HasOwnFault}
use Rattle.aero_model.proofs.Telling.{telling_more}
use Rattle.aero_grammar.specs.Reading.{Reading, IsReading, after_lines, whole_reading, fault_within}
use Rattle.aero_engine.specs.Given.{Words}
use Rattle.aero_verdict.specs.declared.checker.Checker.{Checker}
use Rattle.aero_verdict.specs.declared.monitor.State.{State}
use Rattle.aero_verdict.specs.declared.monitor.State.TheVariants.{Undecided, Decided, Spent}
use Rattle.aero_verdict.specs.declared.checker.Stop.{Stop}
use Rattle.aero_verdict.specs.Ending.{HasEnded, StandsBehind, ends_behind}
use Rattle.aero_verdict.specs.Standing.{CanBeTold, HasNamedActor, KeepsFirst, StandsFor, StopsIn, TellsStop, names_of, up_to}
use Rattle.aero_verdict.specs.Fed.{IsCertain, IsOpen, told_line}
use Rattle.aero_verdict.specs.Monitored.{FedSo, certain_of, TellsFed}
use Rattle.aero_verdict.specs.Ordered.{is_faultless}
use Rattle.aero_verdict.specs.Parts.{greatest_number, Stands, KeepsAt, ClosesEarly, ComesNext, IsPartExpected, TellsPart}
use Rattle.aero_verdict.specs.Verdict.{counted_events, own_events, faulty_line, with_ends, checked_trace, IsVerdict, IsMalformed, IsFaultless}
use Rattle.aero_model.specs.Terms.{Rules, ruled}
use Rattle.aero_verdict.proofs.OneVerdict.{one_verdict}
use Rattle.aero_verdict.proofs.Admitting.{ends_named_behind, events_behind}
use Rattle.aero_verdict.proofs.Ending.{counted_faulty, last_ones}
use Rattle.aero_verdict.proofs.Parts.{at_end, clean_here, counted_ended, faultless, keeps_all, lines_here, names_all, no_fault, stands_behind, stands_for_all, too_many}
use Rattle.aero_verdict.proofs.Readings.{slice_get_behind, trace_length}
use Rattle.aero_verdict.proofs.Staying.{cycle_stays, certain_more}
use Rattle.aero_verdict.proofs.Stops.{keeps_at, verdict_at}
use Rattle.aero_verdict.proofs.ThreadNames.{at_place as at_each, can_be_told, was}

-- where there are two lines too many, whatever comes after them

-- no event after so many lines counts
none_after : (limit total : ℕ) → limit < total → (es : List (ℕ × Named)) → up_to limit (map (after_lines total) es) ≡ []
none_after limit total more [] = refl
none_after limit total more (e ∷ es) =
    cond-false (nat_le (total + e.0) limit) _ _ (lt-leb (total + e.0) limit (omega (arith, more))) ∙ none_after limit total more es

-- no line of its own is malformed that stands before the one that is too many
beyond : (limit total lines : ℕ) (f : Option (ℕ × LineFault)) → limit + 1 < total → fault_within limit (total + lines) (option_map (after_lines total) f) ≡ Some (suc limit, TooManyLines)
beyond limit total lines None more = cond-true (nat_lt limit (total + lines)) _ _ (lt-ltb limit (total + lines) (omega (arith, more)))
beyond limit total lines (Some f) more = cond-false (nat_le (total + f.0) (suc limit)) _ _ (lt-leb (total + f.0) (suc limit) (omega (arith, more)))

module _ {E : Type 0} (words : Words E) (rules : Rules) (parts : List Reading) (k lines : ℕ) (checker : Checker E) (here : Stands words rules parts k lines checker) (more : rules.limits.lines + 1 < lines) where
  abbrev most : ℕ
  most = rules.limits.lines

  far : most + 1 < here.total
  far = omega (arith, more, here.lines_are)

  own : own_events parts rules ≡ up_to most here.events
  own =
      ap (up_to most) here.before.events_are
      ∙ filter-append (λ e. nat_le e.0 most) here.events (map (after_lines here.total) (whole_reading (drop k parts)).events)
      ∙ ap (λ es. up_to most here.events ++ es) (none_after most here.total (omega (arith, far)) (whole_reading (drop k parts)).events)
      ∙ append-nil (up_to most here.events)

  cause : faulty_line parts rules ≡ Some (most + 1, TooManyLines)
  cause =
      ap₂ (λ n f. fault_within most n f) here.before.lines_are here.before.fault_is
      ∙ beyond most here.total (whole_reading (drop k parts)).lines (whole_reading (drop k parts)).fault far
      ∙ ap (λ n. Some (n, TooManyLines)) (sym (add-one most))

  counted : counted_events parts rules ≡ with_ends rules [] (up_to most here.events)
  counted = counted_faulty parts rules (ap is_some cause) ∙ ap (with_ends rules []) own

  admitted : checker.shape.admitted ≡ length (checked_trace parts rules)
  admitted = here.count_is ∙ ap length (sym counted) ∙ sym (trace_length rules parts)

  stands_here : StandsFor words rules checker (counted_events parts rules)
  stands_here = subst (StandsFor words rules checker) (append-nil (with_ends rules [] (up_to most here.events)) ∙ sym counted) (here.kept [])

  pub too_many_anyway : IsMalformed parts rules (most + 1) TooManyLines
  too_many_anyway = record { clean = clean_here words rules parts checker stands_here admitted; cause = cause }

-- the next part

module _ (fed : List Reading) (part : Reading) where
  at_place : (rest : List Reading) → slice_get (fed ++ part ∷ rest) (length fed) ≡ Some part
  at_place rest = ap (slice_get (fed ++ part ∷ rest)) (sym (add-zero (length fed))) ∙ slice_get_behind fed (part ∷ rest) 0

  with_next : (rest : List Reading) → fed ++ part ∷ rest ≡ (fed ++ part ∷ []) ++ rest
  with_next rest = sym (append_assoc fed (part ∷ []) rest)

  one_longer : length fed + 1 ≡ length (fed ++ part ∷ [])
  one_longer = let long : length (fed ++ part ∷ []) ≡ length fed + 1 = length-append fed (part ∷ []) in omega (arith, long)

  module _ {E : Type 0} (words : Words E) (rules : Rules) (lines : ℕ) (checker : Checker E) (so : FedSo words rules fed lines checker Undecided) where
    pub next_fed : (rest : List Reading) → ComesNext words rules (fed ++ part ∷ rest) (length fed) lines checker part
    next_fed rest = record { so_far = so (part ∷ rest); part_is = at_place rest }

    pub next_expected : IsPartExpected words rules lines checker part
    next_expected = (fed ++ part ∷ [], length fed, next_fed [])

  -- nothing is wrong with it
  pub fed_on : {E : Type 0} (words : Words E) (rules : Rules) (after : ℕ) (new : Checker E) →
      ((rest : List Reading) → Stands words rules (fed ++ part ∷ rest) (length fed + 1) after new) → FedSo words rules (fed ++ part ∷ []) after new Undecided
  fed_on words rules after new each = λ rest.
      subst (λ ps. Stands words rules ps (length (fed ++ part ∷ [])) after new) (with_next rest)
      (subst (λ n. Stands words rules (fed ++ part ∷ rest) n after new) one_longer (each rest))

  -- something is
  pub fed_certain : {E : Type 0} (words : Words E) (rules : Rules) (lines : ℕ) (new : Checker E) (verdict : Verdict) →
      ((rest : List Reading) → IsVerdict (fed ++ part ∷ rest) rules verdict × KeepsAt words.keeps rules (fed ++ part ∷ rest) new verdict × ClosesEarly (fed ++ part ∷ rest) rules verdict) →
      HasOwnFault verdict → is_faultless verdict ≡ false → FedSo words rules (fed ++ part ∷ []) lines new (Decided verdict)
  fed_certain words rules lines new verdict each own wrong = (
    record {
      is_verdict = λ rest. subst (λ ps. IsVerdict ps rules verdict) (with_next rest) (each rest).0;
      own_fault = own;
      wrong = wrong;
      explained =
          cycle_stays words.keeps rules (fed ++ part ∷ []) new verdict (each []).1 (each []).2;
    },
    λ rest. subst (λ ps. KeepsAt words.keeps rules ps new verdict) (with_next rest) (each rest).1,
  )

pub own_too_many : (line : ℕ) → HasOwnFault (Malformed line TooManyLines)
own_too_many line = λ e. absurd (cc)

-- there are too many lines with it, and so with whatever comes
pub fed_too_many : {E : Type 0} (words : Words E) (rules : Rules) (fed : List Reading) (lines : ℕ) (checker : Checker E) → FedSo words rules fed lines checker Undecided → rules.limits.lines + 1 < lines →
    FedSo words rules fed lines checker (Decided (Malformed (rules.limits.lines + 1) TooManyLines))
fed_too_many words rules fed lines checker so more = (
  record {
    is_verdict = λ rest. too_many_anyway words rules (fed ++ rest) (length fed) lines checker (so rest) more;
    own_fault = own_too_many (rules.limits.lines + 1);
    wrong = refl;
    explained = λ rest cycle. (λ e. e, λ e. e);
  },
  λ rest. tt,
)

-- a verdict that is certain stays so, and memory that was refused stays refused
pub stays_fed : {E : Type 0} (words : Words E) (rules : Rules) (fed more : List Reading) (lines : ℕ) (checker : Checker E) (state : State) → (state ≡ Undecided → ⊥) → FedSo words rules fed lines checker state →
    FedSo words rules (fed ++ more) lines checker state
stays_fed words rules fed more lines checker Undecided not so = absurd (not refl)
stays_fed words rules fed more lines checker (Decided verdict) not so = (
  certain_more fed more rules verdict so.0,
  λ rest. subst (λ ps. KeepsAt words.keeps rules ps checker verdict) (sym (append_assoc fed more rest)) (so.1 (more ++ rest)),
)
stays_fed words rules fed more lines checker Spent not so = tt

-- at the end

module _ {E : Type 0} (words : Words E) (rules : Rules) (fed : List Reading) (lines : ℕ) (checker : Checker E) (so : FedSo words rules fed lines checker Undecided) where
  pub all_fed : Stands words rules fed (length fed) lines checker
  all_fed = subst (λ ps. Stands words rules ps (length fed) lines checker) (append-nil fed) (so [])

  pub too_many_at_end : rules.limits.lines < lines → IsMalformed fed rules (rules.limits.lines + 1) TooManyLines
  too_many_at_end more = too_many words rules fed (length fed) lines checker all_fed (omega arith) more

  -- the events for which it stands, without the ends at the end
  abbrev pub fed_events : List (ℕ × Named)
  fed_events = with_ends rules [] (up_to rules.limits.lines all_fed.events)

  pub behind_at_end : StandsBehind words rules checker fed_events
  behind_at_end = stands_behind words rules fed (length fed) lines checker all_fed (omega arith)

  module _ (few : lines ≤ rules.limits.lines) where
    whole_at_end : fed_events ++ (map (after_lines lines) (ends_behind rules fed_events) ++ []) ≡ counted_events fed rules
    whole_at_end =
        ap (λ es. fed_events ++ es) (append-nil (map (after_lines lines) (ends_behind rules fed_events))) ∙ sym (counted_ended words rules fed (length fed) lines checker all_fed (omega arith) few)

    actors_at_end : All HasNamedActor (counted_events fed rules)
    actors_at_end =
        All-same HasNamedActor (counted_events fed rules) (fed_events ++ map (after_lines lines) (ends_behind rules fed_events)) (counted_ended words rules fed (length fed) lines checker all_fed (omega arith) few)
        (All-append HasNamedActor fed_events (map (after_lines lines) (ends_behind rules fed_events)) all_fed.actors
        (All-map HasNamedActor (after_lines lines) (ends_behind rules fed_events) (ends_named_behind rules fed_events (events_behind words rules checker fed_events behind_at_end))))

    many_at_end : length (counted_events fed rules) ≡ length fed_events + length (ends_behind rules fed_events)
    many_at_end =
        ap length (counted_ended words rules fed (length fed) lines checker all_fed (omega arith) few)
        ∙ length-append fed_events (map (after_lines lines) (ends_behind rules fed_events))
        ∙ ap (λ n. length fed_events + n) (length-map (ends_behind rules fed_events) (after_lines lines))

    -- where they were admitted, nothing is wrong
    module _ (final : Checker E) (ended : HasEnded words rules checker final lines fed_events None) where
      stands_ended : StandsFor words rules final (counted_events fed rules)
      stands_ended = subst (StandsFor words rules final) whole_at_end (ended.1 [])

      counted_all : final.shape.admitted ≡ length (counted_events fed rules)
      counted_all = let count = ended.0 in let first = all_fed.count_is in omega (arith, many_at_end, count, first)

      pub faultless_ended : IsFaultless fed rules final.shape.admitted final.blocks.begun (final.blocks.begun - final.blocks.ended)
      faultless_ended = faultless words rules fed final stands_ended counted_all (no_fault words rules fed (length fed) lines checker all_fed (omega arith) few)

      pub tells_ended : (verdict : Verdict) → IsVerdict fed rules verdict → HasOwnFault verdict → is_faultless verdict ≡ true → TellsFed words rules fed final verdict
      tells_ended verdict is own right = record {
        on = record { is_verdict = is; own_fault = own };
        stands_for = λ _. stands_for_all words rules fed final stands_ended counted_all;
        names = λ _. names_all words rules fed final stands_ended counted_all actors_at_end;
        keeps_at = where_right verdict right (keeps_all words rules fed final stands_ended counted_all);
      }
        where
          where_right : (verdict : Verdict) → is_faultless verdict ≡ true → KeepsFirst words.keeps rules (counted_events fed rules) (length (counted_events fed rules)) final.engine → KeepsAt words.keeps rules fed final verdict
          where_right (Serializable events blocks) right keeps = keeps
          where_right (Pending events blocks pending) right keeps = keeps
          where_right (Violation line thread begun) right keeps = absurd (cc)
          where_right (Malformed line fault) right keeps = tt
          where_right (IllFormed line fault) right keeps = tt

    -- where one of them stops, that is told
    module _ (final : Checker E) (line : ℕ) (stop : Stop) (ended : HasEnded words rules checker final lines fed_events (Some (line, stop))) where
      stops_ended : StopsIn words rules final (counted_events fed rules) checker.shape.admitted lines (ends_behind rules fed_events) line stop
      stops_ended = subst (λ all. StopsIn words rules final all checker.shape.admitted lines (ends_behind rules fed_events) line stop) whole_at_end (ended [])

      pub can_be_told_ended : CanBeTold final stop
      can_be_told_ended = can_be_told words rules final (counted_events fed rules) actors_at_end checker.shape.admitted lines (ends_behind rules fed_events) line stop stops_ended

      pub tells_stopped : (verdict : Verdict) → TellsStop final line stop verdict → HasOwnFault verdict → is_faultless verdict ≡ false → TellsFed words rules fed final verdict
      tells_stopped verdict tells own wrong = record {
        on = record { is_verdict = verdict_at words rules fed final checker.shape.admitted lines (ends_behind rules fed_events) line stop stops_ended verdict tells; own_fault = own };
        stands_for = λ right. absurd (cc);
        names = λ right. absurd (cc);
        keeps_at = keeps_at words rules fed final checker.shape.admitted lines (ends_behind rules fed_events) line stop stops_ended verdict tells;
      }

      pub told_stopped : (r : Result Verdict AllocError) → IfOk r (TellsStop final line stop) → IfOk r HasOwnFault → IfOk r (λ verdict. is_faultless verdict ≡ false) → IfOk r (TellsFed words rules fed final)
      told_stopped (Ok verdict) tells owned wrong = tells_stopped verdict tells owned wrong
      told_stopped (Err e) tells owned wrong = tt

-- where memory is refused at the end, blocks end there

pub on_err_more : {T E : Type 0} (r : Result T E) (P Q : Type 0) → (P → Q) → OnErr r P → OnErr r Q
on_err_more (Ok x) P Q more p = tt
on_err_more (Err e) P Q more p = more p

pub on_err_any : {T E : Type 0} (r : Result T E) (P : Type 0) → P → OnErr r P
on_err_any (Ok x) P p = tt
on_err_any (Err e) P p = p

-- what is told of exactly these parts

pub tells_certain : {E : Type 0} (words : Words E) (rules : Rules) (fed : List Reading) (lines : ℕ) (checker : Checker E) (verdict : Verdict) → FedSo words rules fed lines checker (Decided verdict) →
    TellsFed words rules fed checker verdict
tells_certain words rules fed lines checker verdict (is, keeps) =
    record {
      on = record { is_verdict = subst (λ ps. IsVerdict ps rules verdict) (append-nil fed) (is.is_verdict []); own_fault = is.own_fault };
      stands_for = λ right. absurd (let wrong = is.wrong in cc);
      names = λ right. absurd (let wrong = is.wrong in cc);
      keeps_at = subst (λ ps. KeepsAt words.keeps rules ps checker verdict) (append-nil fed) (keeps []);
    }

-- as far as a verdict is certain
pub tells_so_far : {E : Type 0} (words : Words E) (rules : Rules) (fed : List Reading) (lines : ℕ) (checker : Checker E) (state : State) → FedSo words rules fed lines checker state →
    IfSome (certain_of state) (TellsFed words rules fed checker)
tells_so_far words rules fed lines checker Undecided so = tt
tells_so_far words rules fed lines checker (Decided verdict) so = tells_certain words rules fed lines checker verdict so
tells_so_far words rules fed lines checker Spent so = tt

pub tells_too_many : {E : Type 0} (words : Words E) (rules : Rules) (fed : List Reading) (lines : ℕ) (checker : Checker E) → FedSo words rules fed lines checker Undecided → rules.limits.lines < lines →
    TellsFed words rules fed checker (Malformed (rules.limits.lines + 1) TooManyLines)
tells_too_many words rules fed lines checker so more =
    record {
      on = record { is_verdict = too_many_at_end words rules fed lines checker so more; own_fault = own_too_many (rules.limits.lines + 1) };
      stands_for = λ right. absurd (cc);
      names = λ right. absurd (cc);
      keeps_at = tt;
    }

-- what the next part says

pub wrong_part : {E : Type 0} (words : Words E) (rules : Rules) (fed : List Reading) (part : Reading) (lines : ℕ) (checker new : Checker E) (told : Option Verdict) (verdict : Verdict) → told ≡ Some verdict →
    ((parts : List Reading) (k : ℕ) → ComesNext words rules parts k lines checker part → TellsPart words rules parts k lines new part told) → IfSome told HasOwnFault → IfSome told (λ v. is_faultless v ≡ false) →
    FedSo words rules fed lines checker Undecided → FedSo words rules (fed ++ part ∷ []) lines new (Decided verdict)
wrong_part words rules fed part lines checker new told verdict is tells own wrong so =
    fed_certain fed part words rules lines new verdict
    (λ rest. subst (TellsPart words rules (fed ++ part ∷ rest) (length fed) lines new part) is (tells (fed ++ part ∷ rest) (length fed) (next_fed fed part words rules lines checker so rest)))
    (subst (λ o. IfSome o HasOwnFault) is own)
    (subst (λ o. IfSome o (λ v. is_faultless v ≡ false)) is wrong)

pub right_part : {E : Type 0} (words : Words E) (rules : Rules) (fed : List Reading) (part : Reading) (lines : ℕ) (checker new : Checker E) (told : Option Verdict) (after : ℕ) → told ≡ None →
    ((parts : List Reading) (k : ℕ) → ComesNext words rules parts k lines checker part → TellsPart words rules parts k lines new part told) → min (lines + part.lines) greatest_number ≡ after →
    FedSo words rules fed lines checker Undecided → FedSo words rules (fed ++ part ∷ []) after new Undecided
right_part words rules fed part lines checker new told after is tells lines_are so =
    fed_on fed part words rules after new
    (λ rest. subst (λ n. Stands words rules (fed ++ part ∷ rest) (length fed + 1) n new) lines_are
    (subst (TellsPart words rules (fed ++ part ∷ rest) (length fed) lines new part) is (tells (fed ++ part ∷ rest) (length fed) (next_fed fed part words rules lines checker so rest))))

-- blocks end as the rules say
pub ends_so : {E : Type 0} (words : Words E) (rules : Rules) (fed : List Reading) (lines : ℕ) (checker : Checker E) → FedSo words rules fed lines checker Undecided → checker.ends ≡ rules.end
ends_so words rules fed lines checker so = ((so []).kept []).counts.ends

-- it stands in the monitor's fields, with the labels that contracts see
pub fed_part : {E : Type 0} (words : Words E) (limits : Limits) (end : Bool) (before after except : Listed) (parts more : List Reading) (part : Reading) (lines : ℕ) (checker : Checker E) (state : State) (lines_after : ℕ) (new : Checker E) (state_after : State) →
    state ≡ Undecided → before ≡ except → after ≡ before → more ≡ parts ++ part ∷ [] → FedSo words (ruled limits before end) parts lines checker state →
    ((fed : List Reading) → FedSo words (ruled limits except checker.ends) fed lines checker Undecided → FedSo words (ruled limits except checker.ends) (fed ++ part ∷ []) lines_after new state_after) →
    FedSo words (ruled limits after end) more lines_after new state_after
fed_part words limits end before after except parts more part lines checker state lines_after new state_after undecided same kept more_are so judged =
    let so_here : FedSo words (ruled limits except end) parts lines checker Undecided = subst (λ ls. FedSo words (ruled limits ls end) parts lines checker Undecided) same (subst (FedSo words (ruled limits before end) parts lines checker) undecided so) in
    let ends : checker.ends ≡ end = ends_so words (ruled limits except end) parts lines checker so_here in
    subst (λ ps. FedSo words (ruled limits after end) ps lines_after new state_after) (sym more_are)
    (subst (λ ls. FedSo words (ruled limits ls end) (parts ++ part ∷ []) lines_after new state_after) (sym (kept ∙ same))
    (subst (λ b. FedSo words (ruled limits except b) (parts ++ part ∷ []) lines_after new state_after) ends
    (judged parts (subst (λ b. FedSo words (ruled limits except b) parts lines checker Undecided) (sym ends) so_here))))

pub expected_part : {E : Type 0} (words : Words E) (limits : Limits) (end : Bool) (before except : Listed) (parts : List Reading) (part : Reading) (lines : ℕ) (checker : Checker E) (state : State) →
    state ≡ Undecided → before ≡ except → FedSo words (ruled limits before end) parts lines checker state → IsPartExpected words (ruled limits except checker.ends) lines checker part
expected_part words limits end before except parts part lines checker state undecided same so =
    let so_here : FedSo words (ruled limits except end) parts lines checker Undecided = subst (λ ls. FedSo words (ruled limits ls end) parts lines checker Undecided) same (subst (FedSo words (ruled limits before end) parts lines checker) undecided so) in
    let ends : checker.ends ≡ end = ends_so words (ruled limits except end) parts lines checker so_here in
    next_expected parts part words (ruled limits except checker.ends) lines checker (subst (λ b. FedSo words (ruled limits except b) parts lines checker Undecided) (sym ends) so_here)

-- where a verdict was certain it is so with the part
pub stays_part : {E : Type 0} (words : Words E) (limits : Limits) (end : Bool) (before after : Listed) (parts more : List Reading) (part : Reading) (lines : ℕ) (checker : Checker E) (state : State) →
    (state ≡ Undecided → ⊥) → after ≡ before → more ≡ parts ++ part ∷ [] → FedSo words (ruled limits before end) parts lines checker state → FedSo words (ruled limits after end) more lines checker state
stays_part words limits end before after parts more part lines checker state not kept more_are so =
    subst (λ ps. FedSo words (ruled limits after end) ps lines checker state) (sym more_are)
    (subst (λ ls. FedSo words (ruled limits ls end) (parts ++ part ∷ []) lines checker state) (sym kept) (stays_fed words (ruled limits before end) parts (part ∷ []) lines checker state not so))

pub certain_so : {E : Type 0} (words : Words E) (rules : Rules) (fed : List Reading) (lines : ℕ) (checker : Checker E) (state : State) → FedSo words rules fed lines checker state → IfSome (certain_of state) (IsCertain fed rules)
certain_so words rules fed lines checker Undecided so = tt
certain_so words rules fed lines checker (Decided verdict) so = so.0
certain_so words rules fed lines checker Spent so = tt

-- where nothing is certain nothing is wrong

module _ {E : Type 0} (words : Words E) (rules : Rules) (fed : List Reading) (lines : ℕ) (checker : Checker E) (so : FedSo words rules fed lines checker Undecided) (few : lines ≤ rules.limits.lines) where
  abbrev counted_so : List (ℕ × Named)
  counted_so = counted_events fed rules

  abbrev ended_so : List (ℕ × Named)
  ended_so = map (after_lines lines) (ends_behind rules (fed_events words rules fed lines checker so))

  stands_so : StandsFor words rules checker counted_so
  stands_so = at_end words rules fed (length fed) lines checker (all_fed words rules fed lines checker so) (omega arith)

  many_so : checker.shape.admitted ≡ length (fed_events words rules fed lines checker so)
  many_so = (all_fed words rules fed lines checker so).count_is

  -- the ends at the end stand on the line after the last
  late : All (λ (e : ℕ × Named). (rules.end ≡ true) × (e.0 ≡ suc (whole_reading fed).lines)) ended_so
  late =
      All-map (λ (e : ℕ × Named). (rules.end ≡ true) × (e.0 ≡ suc (whole_reading fed).lines)) (after_lines lines) (ends_behind rules (fed_events words rules fed lines checker so)) (go rules.end)
    where
      line_is : lines + 1 ≡ suc (whole_reading fed).lines
      line_is = let same = lines_here words rules fed (length fed) lines checker (all_fed words rules fed lines checker so) (omega arith) few in omega (arith, same)

      go : (b : Bool) → All (λ (e : ℕ × Named). (b ≡ true) × (lines + e.0 ≡ suc (whole_reading fed).lines)) (if b then ends_at_end (names_of (fed_events words rules fed lines checker so)) 1 else [])
      go true = last_ones (λ (e : ℕ × Named). (true ≡ true) × (lines + e.0 ≡ suc (whole_reading fed).lines)) 1 (names_of (fed_events words rules fed lines checker so)) (λ name there. (refl, line_is))
      go false = All-nil (λ (e : ℕ × Named). (false ≡ true) × (lines + e.0 ≡ suc (whole_reading fed).lines))

  -- so does an event behind those that were admitted
  late_at : (place line : ℕ) → checker.shape.admitted ≤ place → option_map (λ (e : ℕ × Named). e.0) (slice_get counted_so place) ≡ Some line → (rules.end ≡ true) × (Some line ≡ Some (suc (whole_reading fed).lines))
  late_at place line behind on =
      let front = fed_events words rules fed lines checker so in
      let e = was (λ (x : ℕ × Named). x.0) (slice_get counted_so place) line on in
      let sum : place ≡ length front + (place - length front) = omega (arith, behind, many_so) in
      let at : slice_get ended_so (place - length front) ≡ Some e.value =
      sym (slice_get_behind front ended_so (place - length front)) ∙ ap (slice_get (front ++ ended_so)) (sym sum)
      ∙ ap (λ es. slice_get es place) (sym (counted_ended words rules fed (length fed) lines checker (all_fed words rules fed lines checker so) (omega arith) few)) ∙ e.here in
      let told = at_each (λ (x : ℕ × Named). (rules.end ≡ true) × (x.0 ≡ suc (whole_reading fed).lines)) ended_so (place - length front) e.value late at in
      (told.0, ap Some (sym e.gives ∙ told.1))

  open_few : (verdict : Verdict) → IsVerdict fed rules verdict → (is_faultless verdict ≡ true) ⊎ ((verdict ≡ Malformed (rules.limits.lines + 1) TooManyLines) ⊎ ((rules.end ≡ true) × (told_line verdict ≡ Some (suc (whole_reading fed).lines))))
  open_few (Serializable events blocks) is = inl refl
  open_few (Pending events blocks pending) is = inl refl
  open_few (Malformed line fault) is =
      absurd (let none = no_fault words rules fed (length fed) lines checker (all_fed words rules fed lines checker so) (omega arith) few in let some = is.cause in cc)
  open_few (Violation line thread begun) is =
      let behind : checker.shape.admitted ≤ is.place = elim (cases_lt is.place checker.shape.admitted) [
        | inl less ↦ absurd (stands_so.untold (telling_more (checked_trace fed rules) (suc is.place) checker.shape.admitted (omega (arith, less)) is.closing.closed))
        | inr le ↦ le
      ] in
      inr (inr (late_at is.place line behind is.line_of))
  open_few (IllFormed line fault) is =
      let behind : checker.shape.admitted ≤ is.place = elim (cases_lt is.place checker.shape.admitted) [
        | inl less ↦ absurd (let none = stands_so.counts.lawful is.place less in let some = is.cause in cc)
        | inr le ↦ le
      ] in
      inr (inr (late_at is.place line behind is.line_of))

pub open_so : {E : Type 0} (words : Words E) (rules : Rules) (fed : List Reading) (lines : ℕ) (checker : Checker E) → FedSo words rules fed lines checker Undecided → IsOpen fed rules
open_so words rules fed lines checker so verdict told =
    elim (cases_lt rules.limits.lines lines) [
      | inl more ↦ inr (inl (one_verdict fed rules verdict (Malformed (rules.limits.lines + 1) TooManyLines) told (too_many_at_end words rules fed lines checker so more)))
      | inr few ↦ open_few words rules fed lines checker so few verdict told
    ]

pub open_told : {E : Type 0} (words : Words E) (rules : Rules) (fed : List Reading) (lines : ℕ) (checker : Checker E) (state : State) (result : Result Bool AllocError) → IfOk result (λ b. b ≡ false → state ≡ Undecided) →
    FedSo words rules fed lines checker state → IfOk result (λ b. b ≡ false → IsOpen fed rules)
open_told words rules fed lines checker state (Ok b) undecided so = λ no. open_so words rules fed lines checker (subst (FedSo words rules fed lines checker) (undecided no) so)
open_told words rules fed lines checker state (Err e) undecided so = tt

-- and there is one line too many at most
lines_so : {E : Type 0} (words : Words E) (rules : Rules) (fed : List Reading) (lines : ℕ) (checker : Checker E) → FedSo words rules fed lines checker Undecided → lines ≤ rules.limits.lines + 1 → rules.limits.lines ≤ 4000000000 →
    (whole_reading fed).lines ≤ rules.limits.lines + 1
lines_so words rules fed lines checker so few bounded =
    let all = all_fed words rules fed lines checker so in
    let lines_are = all.lines_are in
    let total : (whole_reading fed).lines ≡ all.total + 0 = all.before.lines_are ∙ ap (λ ps. all.total + (whole_reading ps).lines) (drop_all (length fed) fed (omega arith)) in
    omega (arith, total, lines_are, few, bounded)

pub lines_told : {E : Type 0} (words : Words E) (rules : Rules) (fed : List Reading) (lines : ℕ) (checker : Checker E) (state : State) (result : Result Bool AllocError) → IfOk result (λ b. b ≡ false → state ≡ Undecided) →
    FedSo words rules fed lines checker state → (state ≡ Undecided → lines ≤ rules.limits.lines + 1) → rules.limits.lines ≤ 4000000000 → IfOk result (λ b. b ≡ false → (whole_reading fed).lines ≤ rules.limits.lines + 1)
lines_told words rules fed lines checker state (Ok b) undecided so few bounded = λ no.
    lines_so words rules fed lines checker (subst (FedSo words rules fed lines checker) (undecided no) so) (few (undecided no)) bounded
lines_told words rules fed lines checker state (Err e) undecided so few bounded = tt

-- the parts that were fed are readings
one_only : {X : Type 0} (P : X → Type 0) (x : X) → P x → All P (x ∷ [])
one_only P x here zero d less = here
one_only P x here (suc k) d less = absurd (omega (arith, less))

pub readings_more : (parts more : List Reading) (part : Reading) → more ≡ parts ++ part ∷ [] → All IsReading parts → IsReading part → All IsReading more
readings_more parts more part is all here = subst (All IsReading) (sym is) (All-append IsReading parts (part ∷ []) all (one_only IsReading part here))

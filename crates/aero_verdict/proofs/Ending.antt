-- Events in which blocks that are open end before their thread is joined, and at the end.
use Rattle.std.proofs.Common.{◌≡◌, ℕ, zero, suc, ◌+◌, ◌<◌, Bool, true, false, if◌then◌else◌, List, [], ◌∷◌, ◌++◌, length, map, flat_map, replicate, refl, sym, ◌∙◌, ap, ap₂, arith, append_assoc, append-nil}
use Rattle.std.specs.Prelude.{bytes_eq, is_some, All}
use Rattle.std.specs.List.{list_any}
use Rattle.std.proofs.lemmas.Bool.{or_left, or_right}
use Rattle.std.proofs.lemmas.Slice.Eq.{bytes_eq-Decides}
use Rattle.std.proofs.lemmas.List.{map-append}
use Rattle.std.proofs.lemmas.List.Elements.{All-append, All-cons, All-nil, All-replicate}
use Rattle.aero_model.specs.Ended.{all_ended, end_of, ended_after, ends_at_end, ends_before, ends_of, joins_another, open_of, target_of, without_lines}
use Rattle.aero_model.specs.Named.{Named}
use Rattle.aero_model.specs.Numbering.{tables_of}
use Rattle.aero_model.specs.Terms.{Rules}
use Rattle.aero_model.proofs.Ended.{ends_without}
use Rattle.aero_grammar.specs.Reading.{Reading, after_lines, events_within, malformed_line, whole_reading}
use Rattle.aero_verdict.specs.Verdict.{counted_events, faulty_line, own_events, with_ends}

-- one list behind another

names_with : (before : List Named) (ends : List (ℕ × Named)) (e : ℕ × Named) (rest : List (ℕ × Named)) →
    (before ++ without_lines ends ++ e.1 ∷ []) ++ without_lines rest ≡ before ++ without_lines (ends ++ e ∷ rest)
names_with before ends e rest =
    append_assoc (before ++ without_lines ends) (e.1 ∷ []) (without_lines rest)
    ∙ append_assoc before (without_lines ends) (e.1 ∷ without_lines rest)
    ∙ ap (λ es. before ++ es) (sym (map-append (λ x. x.1) ends (e ∷ rest)))

pub ended_append : (before : List Named) (xs ys : List (ℕ × Named)) → ended_after before (xs ++ ys) ≡ ended_after before xs ++ ended_after (before ++ without_lines (ended_after before xs)) ys
ended_append before [] ys = ap (λ es. ended_after es ys) (sym (append-nil before))
ended_append before (e ∷ xs) ys =
    let ends = ends_before before e in
    let next = before ++ without_lines ends ++ e.1 ∷ [] in
    ap (λ es. ends ++ e ∷ es) (ended_append next xs ys)
    ∙ sym (append_assoc ends (e ∷ ended_after next xs) (ended_after (next ++ without_lines (ended_after next xs)) ys))
    ∙ ap (λ es. (ends ++ e ∷ ended_after next xs) ++ ended_after es ys) (names_with before ends e (ended_after next xs))

-- the lines are counted on

many_later : (n k line : ℕ) (e : Named) → replicate k (n + line, e) ≡ map (after_lines n) (replicate k (line, e))
many_later n zero line e = refl
many_later n (suc k) line e = ap (λ es. (n + line, e) ∷ es) (many_later n k line e)

ends_later : (n : ℕ) (before : List Named) (e : ℕ × Named) → ends_before before (after_lines n e) ≡ map (after_lines n) (ends_before before e)
ends_later n before e = go (joins_another e.1)
  where
    go : (b : Bool) → (if b then ends_of before (n + e.0) (target_of e.1) else []) ≡ map (after_lines n) (if b then ends_of before e.0 (target_of e.1) else [])
    go true = many_later n (open_of before (target_of e.1)) e.0 (end_of (target_of e.1))
    go false = refl

pub ended_later : (n : ℕ) (before : List Named) (es : List (ℕ × Named)) → ended_after before (map (after_lines n) es) ≡ map (after_lines n) (ended_after before es)
ended_later n before [] = refl
ended_later n before (e ∷ es) =
    let next = λ (ends : List Named). before ++ ends ++ e.1 ∷ [] in
    let names : without_lines (ends_before before (after_lines n e)) ≡ without_lines (ends_before before e) = ends_without before (after_lines n e) ∙ sym (ends_without before e) in
    ap₂ (λ ends rest. ends ++ after_lines n e ∷ rest) (ends_later n before e)
    (ap (λ ends. ended_after (next ends) (map (after_lines n) es)) names ∙ ended_later n (next (without_lines (ends_before before e))) es)
    ∙ sym (map-append (after_lines n) (ends_before before e) (e ∷ ended_after (next (without_lines (ends_before before e))) es))

-- an end on a later line for each open block
pub last_later : (n : ℕ) (events : List Named) → ends_at_end events (n + 1) ≡ map (after_lines n) (ends_at_end events 1)
last_later n events = go (tables_of events).threads
  where
    go : (names : List (List ℕ)) → flat_map (ends_of events (n + 1)) names ≡ map (after_lines n) (flat_map (ends_of events 1) names)
    go [] = refl
    go (name ∷ names) =
        ap₂ (λ es fs. es ++ fs) (many_later n (open_of events name) 1 (end_of name)) (go names)
        ∙ sym (map-append (after_lines n) (ends_of events 1 name) (flat_map (ends_of events 1) names))

-- all of them are ends, on one line
pub last_ones : (P : ℕ × Named → Type 0) (line : ℕ) (events : List Named) → ((name : List ℕ) → list_any (bytes_eq name) (tables_of events).threads ≡ true → P (line, end_of name)) → All P (ends_at_end events line)
last_ones P line events each = go (tables_of events).threads (λ name there. there)
  where
    go : (names : List (List ℕ)) → ((name : List ℕ) → list_any (bytes_eq name) names ≡ true → list_any (bytes_eq name) (tables_of events).threads ≡ true) → All P (flat_map (ends_of events line) names)
    go [] among = All-nil P
    go (name ∷ names) among =
        All-append P (ends_of events line name) (flat_map (ends_of events line) names)
        (All-replicate P (open_of events name) (line, end_of name) (each name (among name (or_left (bytes_eq name name) (list_any (bytes_eq name) names) ((bytes_eq-Decides name name).1 refl)))))
        (go names (λ other there. among other (or_right (bytes_eq other name) (list_any (bytes_eq other) names) there)))

-- the ends before an event stand on its line
pub ended_on : (P : ℕ → Type 0) (before : List Named) (es : List (ℕ × Named)) → All (λ e. P e.0) es → All (λ e. P e.0) (ended_after before es)
ended_on P before [] all = All-nil (λ (e : ℕ × Named). P e.0)
ended_on P before (e ∷ es) all =
    let here : P e.0 = all zero e (omega arith) in
    All-append (λ (x : ℕ × Named). P x.0) (ends_before before e) (e ∷ ended_after (before ++ without_lines (ends_before before e) ++ e.1 ∷ []) es)
    (go here (joins_another e.1))
    (All-cons (λ (x : ℕ × Named). P x.0) e (ended_after (before ++ without_lines (ends_before before e) ++ e.1 ∷ []) es) here
    (ended_on P (before ++ without_lines (ends_before before e) ++ e.1 ∷ []) es (λ k d less. all (suc k) d (omega (arith, less)))))
  where
    go : P e.0 → (b : Bool) → All (λ (x : ℕ × Named). P x.0) (if b then ends_of before e.0 (target_of e.1) else [])
    go here true = All-replicate (λ (x : ℕ × Named). P x.0) (open_of before (target_of e.1)) (e.0, end_of (target_of e.1)) here
    go here false = All-nil (λ (x : ℕ × Named). P x.0)

-- where the rules say so

pub with_append : (rules : Rules) (before : List Named) (xs ys : List (ℕ × Named)) → with_ends rules before (xs ++ ys) ≡ with_ends rules before xs ++ with_ends rules (before ++ without_lines (with_ends rules before xs)) ys
with_append rules before xs ys = go rules.end
  where
    go : (b : Bool) → (if b then ended_after before (xs ++ ys) else xs ++ ys) ≡
        (if b then ended_after before xs else xs) ++ (if b then ended_after (before ++ without_lines (if b then ended_after before xs else xs)) ys else ys)
    go true = ended_append before xs ys
    go false = refl

pub with_later : (rules : Rules) (n : ℕ) (before : List Named) (es : List (ℕ × Named)) → with_ends rules before (map (after_lines n) es) ≡ map (after_lines n) (with_ends rules before es)
with_later rules n before es = go rules.end
  where
    go : (b : Bool) → (if b then ended_after before (map (after_lines n) es) else map (after_lines n) es) ≡ map (after_lines n) (if b then ended_after before es else es)
    go true = ended_later n before es
    go false = refl

pub with_on : (P : ℕ → Type 0) (rules : Rules) (before : List Named) (es : List (ℕ × Named)) → All (λ e. P e.0) es → All (λ e. P e.0) (with_ends rules before es)
with_on P rules before es all = go rules.end
  where
    go : (b : Bool) → All (λ e. P e.0) (if b then ended_after before es else es)
    go true = ended_on P before es all
    go false = all

pub with_none : (rules : Rules) (before : List Named) → with_ends rules before [] ≡ []
with_none rules before = go rules.end
  where
    go : (b : Bool) → (if b then ended_after before [] else []) ≡ []
    go true = refl
    go false = refl

-- where there is none of the events, there is no end between them
pub some_ended : (rules : Rules) (before : List Named) (es : List (ℕ × Named)) → 0 < length (with_ends rules before es) → 0 < length es
some_ended rules before [] some = let none = ap (λ (xs : List (ℕ × Named)). length xs) (with_none rules before) in omega (arith, some, none)
some_ended rules before (e ∷ es) some = omega arith

pub without_any : (rules : Rules) (before : List Named) (es : List (ℕ × Named)) → rules.end ≡ false → with_ends rules before es ≡ es
without_any rules before es none = ap (λ b. if b then ended_after before es else es) none

pub with_all : (rules : Rules) (before : List Named) (es : List (ℕ × Named)) → rules.end ≡ true → with_ends rules before es ≡ ended_after before es
with_all rules before es some = ap (λ b. if b then ended_after before es else es) some

-- the events that count: those with the ends before joins, and the ends at the end

abbrev pub so_far : List Reading → Rules → List (ℕ × Named)
so_far parts rules = with_ends rules [] (own_events parts rules)

abbrev pub last_ends : List Reading → Rules → List (ℕ × Named)
last_ends parts rules =
    if rules.end then
    (if is_some (faulty_line parts rules) then [] else ends_at_end (without_lines (so_far parts rules)) (suc (whole_reading parts).lines))
    else []

pub counted_is : (parts : List Reading) (rules : Rules) → counted_events parts rules ≡ so_far parts rules ++ last_ends parts rules
counted_is parts rules = go rules.end (is_some (faulty_line parts rules))
  where
    own : List (ℕ × Named)
    own = own_events parts rules

    line : ℕ
    line = suc (whole_reading parts).lines

    go : (b faulty : Bool) → (if b then (if faulty then ended_after [] own else all_ended own line) else own) ≡
        (if b then ended_after [] own else own) ++ (if b then (if faulty then [] else ends_at_end (without_lines (if b then ended_after [] own else own)) line) else [])
    go true true = sym (append-nil (ended_after [] own))
    go true false = refl
    go false faulty = sym (append-nil own)

pub none_last : (parts : List Reading) (rules : Rules) → is_some (faulty_line parts rules) ≡ true → last_ends parts rules ≡ []
none_last parts rules faulty = go rules.end
  where
    go : (b : Bool) → (if b then (if is_some (faulty_line parts rules) then [] else ends_at_end (without_lines (so_far parts rules)) (suc (whole_reading parts).lines)) else []) ≡ []
    go true = ap (λ c. if c then [] else ends_at_end (without_lines (so_far parts rules)) (suc (whole_reading parts).lines)) faulty
    go false = refl

-- what says the same has the same events that count
pub counted_same : (rules : Rules) (parts others : List Reading) → whole_reading parts ≡ whole_reading others → counted_events parts rules ≡ counted_events others rules
counted_same rules parts others same =
    ap (λ (r : Reading).
    if rules.end then
    (if is_some (malformed_line rules.limits.lines r) then ended_after [] (events_within rules.limits.lines r) else all_ended (events_within rules.limits.lines r) (suc r.lines))
    else events_within rules.limits.lines r) same

pub counted_faulty : (parts : List Reading) (rules : Rules) → is_some (faulty_line parts rules) ≡ true → counted_events parts rules ≡ so_far parts rules
counted_faulty parts rules faulty = counted_is parts rules ∙ ap (λ es. so_far parts rules ++ es) (none_last parts rules faulty) ∙ append-nil (so_far parts rules)

-- so have parts that say the same up to a line that is malformed, or one too many
pub counted_same_front : (rules : Rules) (parts others : List Reading) → own_events parts rules ≡ own_events others rules → faulty_line parts rules ≡ faulty_line others rules → is_some (faulty_line parts rules) ≡ true → counted_events parts rules ≡ counted_events others rules
counted_same_front rules parts others same same_fault faulty =
    counted_faulty parts rules faulty ∙ ap (with_ends rules []) same ∙ sym (counted_faulty others rules (sym (ap is_some same_fault) ∙ faulty))

-- no part has no event that counts
pub none_counted : (rules : Rules) → counted_events [] rules ≡ []
none_counted rules = go rules.end (is_some (faulty_line [] rules))
  where
    go : (b faulty : Bool) → (if b then (if faulty then ended_after [] (own_events [] rules) else all_ended (own_events [] rules) 1) else own_events [] rules) ≡ []
    go true true = refl
    go true false = refl
    go false faulty = refl

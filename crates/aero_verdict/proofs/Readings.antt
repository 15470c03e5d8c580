-- Texts one after the other: their events that count, and their lines.
use Rattle.std.proofs.Common.{◌≡◌, ℕ, zero, suc, ◌+◌, ◌-◌, ◌<◌, ◌≤◌, nat_le, min, Bool, true, false, List, [], ◌∷◌, ◌++◌, length, map, drop, Option, Some, None, option_map, inl, inr, refl, sym, ◌∙◌, ap, ap₂, subst, arith, add-one, zero-add, add_assoc}
use Rattle.std.specs.Prelude.{slice_get, is_some, All}
use Rattle.std.proofs.lemmas.Bool.{cond-true, cond-false, cond_both, cases_lt, cases_Bool, le-leb, lt-leb}
use Rattle.std.proofs.lemmas.List.{append_assoc, append-nil, map-append, length-map}
use Rattle.std.proofs.lemmas.Option.{slice_get-map, slice_get_within, get_or_from_slice_get}
use Rattle.std.proofs.Math.Seq.{drop-cons}
use Rattle.aero_model.specs.declared.verdict.LineFault.{LineFault}
use Rattle.aero_model.specs.Exempt.{marked, marked_trace}
use Rattle.aero_model.specs.Named.{Named}
use Rattle.aero_model.specs.Numbering.{tables_of, numbered}
use Rattle.aero_model.proofs.Exempt.{judged_length}
use Rattle.aero_grammar.specs.Reading.{Reading, after_lines, followed_by, whole_reading, LinesRise, fault_within}
use Rattle.aero_verdict.specs.Standing.{up_to, GoesOn}
use Rattle.aero_verdict.specs.Parts.{AreBefore, greatest_number}
use Rattle.aero_verdict.specs.Verdict.{counted_events, events_of, read_trace, checked_trace}
use Rattle.aero_model.specs.Terms.{Rules}

-- a list ends before the places at which it has nothing
pub none_past : {X : Type 0} (xs : List X) (i : ℕ) → slice_get xs i ≡ None → length xs ≤ i
none_past [] i none = omega arith
none_past (x ∷ xs) zero none = absurd (cc)
none_past (x ∷ xs) (suc i) none = let h = none_past xs i none in omega (arith, h)

-- one part, and those after it

pub after_faulty : (p r : Reading) → is_some p.fault ≡ true → followed_by p r ≡ p
after_faulty p r faulty = cond-true (is_some p.fault) _ _ faulty

abbrev pub joined : Reading → Reading → Reading
joined p r = record { events = p.events ++ map (after_lines p.lines) r.events; lines = p.lines + r.lines; fault = option_map (after_lines p.lines) r.fault }

pub after_faultless : (p r : Reading) → is_some p.fault ≡ false → followed_by p r ≡ joined p r
after_faultless p r faultless = cond-false (is_some p.fault) _ _ faultless

pub begins_with : (p r : Reading) → (more : List (ℕ × Named)) × ((followed_by p r).events ≡ p.events ++ more)
begins_with p r = go (is_some p.fault) refl
  where
    go : (b : Bool) → is_some p.fault ≡ b → (more : List (ℕ × Named)) × ((followed_by p r).events ≡ p.events ++ more)
    go true e = ([], ap (λ x. x.events) (after_faulty p r e) ∙ sym (append-nil p.events))
    go false e = (map (after_lines p.lines) r.events, ap (λ x. x.events) (after_faultless p r e))

-- lines and names of events that are counted on

pub slice_get_behind : {A : Type 0} (xs ys : List A) (i : ℕ) → slice_get (xs ++ ys) (length xs + i) ≡ slice_get ys i
slice_get_behind [] ys i = ap (slice_get ys) (zero-add i)
slice_get_behind (x ∷ xs) ys i =
    let more : length (x ∷ xs) + i ≡ suc (length xs + i) = omega arith in
    ap (slice_get (x ∷ (xs ++ ys))) more ∙ slice_get_behind xs ys i

pub slice_get_front : {A : Type 0} (xs ys : List A) (i : ℕ) → i < length xs → slice_get (xs ++ ys) i ≡ slice_get xs i
slice_get_front [] ys i less = absurd (omega arith)
slice_get_front (x ∷ xs) ys zero less = refl
slice_get_front (x ∷ xs) ys (suc i) less = slice_get_front xs ys i (omega arith)

pub after_again : {A : Type 0} (m n : ℕ) (xs : List (ℕ × A)) → map (after_lines m) (map (after_lines n) xs) ≡ map (after_lines (m + n)) xs
after_again m n [] = refl
after_again m n (x ∷ xs) = λ i. (sym (add_assoc m n x.0) i, x.1) ∷ after_again m n xs i

pub after_none : {A : Type 0} (xs : List (ℕ × A)) → map (after_lines 0) xs ≡ xs
after_none [] = refl
after_none (x ∷ xs) = λ i. (zero-add x.0 i, x.1) ∷ after_none xs i

pub fault_again : (m n : ℕ) (f : Option (ℕ × LineFault)) → option_map (after_lines m) (option_map (after_lines n) f) ≡ option_map (after_lines (m + n)) f
fault_again m n None = refl
fault_again m n (Some f) = λ i. Some (sym (add_assoc m n f.0) i, f.1)

pub fault_after_none : (f : Option (ℕ × LineFault)) → option_map (after_lines 0) f ≡ f
fault_after_none None = refl
fault_after_none (Some f) = λ i. Some (zero-add f.0 i, f.1)

-- a text has no more events than lines

pub LinesRise-weaker : (m n : ℕ) (es : List (ℕ × Named)) → m ≤ n → LinesRise n es → LinesRise m es
LinesRise-weaker m n [] le rise = tt
LinesRise-weaker m n (e ∷ es) le rise = (omega (arith, le, rise.0), rise.1)

pub rising_within : (n most : ℕ) (es : List (ℕ × Named)) → LinesRise n es → n ≤ most → n + length (up_to most es) ≤ most
rising_within n most [] rise le = omega arith
rising_within n most (e ∷ es) rise le =
    elim (cases_lt most e.0) [
      | inl beyond ↦
          let same = ap length (cond-false (nat_le e.0 most) (e ∷ up_to most es) (up_to most es) (lt-leb e.0 most beyond)) in
          let later = rising_within n most es (LinesRise-weaker n e.0 es (omega (arith, rise.0)) rise.1) le in
          omega (arith, same, later)
      | inr within ↦
          let same = ap length (cond-true (nat_le e.0 most) (e ∷ up_to most es) (up_to most es) (le-leb e.0 most within)) in
          let later = rising_within e.0 most es rise.1 within in
          omega (arith, same, later, rise.0)
    ]

pub all_up_to : (most : ℕ) (es : List (ℕ × Named)) → All (λ e. e.0 ≤ most) es → up_to most es ≡ es
all_up_to most [] within = refl
all_up_to most (e ∷ es) within =
    let here : e.0 ≤ most = within 0 e (omega arith) in
    cond-true (nat_le e.0 most) _ _ (le-leb e.0 most here) ∙ ap (λ xs. e ∷ xs) (all_up_to most es (λ i d less. within (suc i) d (omega arith)))

pub up_to_shorter : (most : ℕ) (es : List (ℕ × Named)) → length (up_to most es) ≤ length es
up_to_shorter most [] = omega arith
up_to_shorter most (e ∷ es) =
    let later = up_to_shorter most es in
    cond_both (nat_le e.0 most) (e ∷ up_to most es) (up_to most es) (λ xs. length xs ≤ length (e ∷ es)) (λ _. omega arith) (λ _. omega arith)

-- the lines that count, of a text after others

pub same_test : (total line limit : ℕ) → 0 < line → nat_le (total + line) limit ≡ nat_le line (limit - total)
same_test total line limit some =
    elim (cases_lt limit (total + line)) [
      | inl beyond ↦ lt-leb (total + line) limit beyond ∙ sym (lt-leb line (limit - total) (omega arith))
      | inr within ↦ le-leb (total + line) limit within ∙ sym (le-leb line (limit - total) (omega arith))
    ]

pub up_to_after : (total limit n : ℕ) (es : List (ℕ × Named)) → LinesRise n es → up_to limit (map (after_lines total) es) ≡ map (after_lines total) (up_to (limit - total) es)
up_to_after total limit n [] rise = refl
up_to_after total limit n (e ∷ es) rise =
    let later = up_to_after total limit e.0 es rise.1 in
    let test : nat_le (total + e.0) limit ≡ nat_le e.0 (limit - total) = same_test total e.0 limit (omega (arith, rise.0)) in
    elim (cases_Bool (nat_le e.0 (limit - total))) [
      | inl yes_here ↦
          cond-true (nat_le (total + e.0) limit) _ _ (test ∙ yes_here)
          ∙ ap (λ xs. after_lines total e ∷ xs) later
          ∙ sym (ap (map (after_lines total)) (cond-true (nat_le e.0 (limit - total)) (e ∷ up_to (limit - total) es) (up_to (limit - total) es) yes_here))
      | inr not_here ↦
          cond-false (nat_le (total + e.0) limit) _ _ (test ∙ not_here)
          ∙ later
          ∙ sym (ap (map (after_lines total)) (cond-false (nat_le e.0 (limit - total)) (e ∷ up_to (limit - total) es) (up_to (limit - total) es) not_here))
    ]

-- the line of a fault, where it is told up to the greatest number alone
pub fault_told : (limit lines line : ℕ) (fault : LineFault) → limit ≤ 4000000000 → fault_within limit lines (Some (line, fault)) ≡ fault_within limit lines (Some (min line greatest_number, fault))
fault_told limit lines line fault le =
    elim (cases_lt greatest_number line) [
      | inl beyond ↦
          cond-false (nat_le line (suc limit)) _ _ (lt-leb line (suc limit) (omega arith))
          ∙ sym (cond-false (nat_le (min line greatest_number) (suc limit)) _ _ (lt-leb (min line greatest_number) (suc limit) (omega arith)))
      | inr within ↦ let same : line ≡ min line greatest_number = omega arith in ap (λ k. fault_within limit lines (Some (k, fault))) same
    ]

-- events that come next
pub goes_on : (front later more : List (ℕ × Named)) (before n : ℕ) → n ≡ length front → GoesOn (front ++ (map (after_lines before) more ++ later)) n before more
goes_on front later more before n n_is i less =
    ap (λ k. slice_get (front ++ (map (after_lines before) more ++ later)) (k + i)) n_is
    ∙ slice_get_behind front (map (after_lines before) more ++ later) i
    ∙ slice_get_front (map (after_lines before) more) later i (omega (arith, less, length-map more (after_lines before)))
    ∙ slice_get-map (after_lines before) more i

-- the texts not yet read

pub start : (parts : List Reading) → AreBefore parts parts [] 0
start parts =
    record {
      events_are = sym (after_none (whole_reading parts).events);
      lines_are = sym (zero-add (whole_reading parts).lines);
      fault_is = sym (fault_after_none (whole_reading parts).fault);
    }

pub rest_at : (parts : List Reading) (k : ℕ) (p : Reading) → slice_get parts k ≡ Some p → drop k parts ≡ p ∷ drop (k + 1) parts
rest_at parts k p at =
    drop-cons parts k p (slice_get_within parts k p at) ∙ ap₂ (λ x m. x ∷ drop m parts) (get_or_from_slice_get parts k p p at) (sym (add-one k))

-- the next part is the one at place k
pub here : (parts : List Reading) (k : ℕ) (p part : Reading) → slice_get parts k ≡ Some part → p ≡ part →
    (events : List (ℕ × Named)) (lines : ℕ) → AreBefore parts (drop k parts) events lines → AreBefore parts (p ∷ drop (k + 1) parts) events lines
here parts k p part at same events lines before =
    let P : List Reading → Type 0 = λ rest. AreBefore parts rest events lines in
    subst P (rest_at parts k part at ∙ ap (λ x. x ∷ drop (k + 1) parts) (sym same)) before

-- a part without a fault is one of those before
pub passed_on : (parts rest : List Reading) (p : Reading) (events : List (ℕ × Named)) (total : ℕ) → AreBefore parts (p ∷ rest) events total → p.fault ≡ None → AreBefore parts rest (events ++ map (after_lines total) p.events) (total + p.lines)
passed_on parts rest p events total before none =
    let faultless : is_some p.fault ≡ false = ap is_some none in
    let same = after_faultless p (whole_reading rest) faultless in
    record {
      events_are =
          before.events_are
          ∙ ap (λ r. events ++ map (after_lines total) r.events) same
          ∙ ap (λ es. events ++ es) (map-append (after_lines total) p.events (map (after_lines p.lines) (whole_reading rest).events) ∙ ap (λ es. map (after_lines total) p.events ++ es) (after_again total p.lines (whole_reading rest).events))
          ∙ sym (append_assoc events (map (after_lines total) p.events) (map (after_lines (total + p.lines)) (whole_reading rest).events));
      lines_are = before.lines_are ∙ ap (λ r. total + r.lines) same ∙ sym (add_assoc total p.lines (whole_reading rest).lines);
      fault_is = before.fault_is ∙ ap (λ r. option_map (after_lines total) r.fault) same ∙ fault_again total p.lines (whole_reading rest).fault;
    }

-- so many events count
pub trace_length : (rules : Rules) (parts : List Reading) → length (checked_trace parts rules) ≡ length (counted_events parts rules)
trace_length rules parts =
    judged_length (marked_trace rules.labels (events_of parts rules))
    ∙ length-map (events_of parts rules) (marked rules.labels (tables_of (events_of parts rules)))
    ∙ length-map (counted_events parts rules) (λ e. e.1)

-- and no more are read
pub read_length : (rules : Rules) (parts : List Reading) → length (read_trace parts rules) ≡ length (checked_trace parts rules)
read_length rules parts =
    length-map (events_of parts rules) (numbered (tables_of (events_of parts rules)))
    ∙ length-map (counted_events parts rules) (λ e. e.1)
    ∙ sym (trace_length rules parts)

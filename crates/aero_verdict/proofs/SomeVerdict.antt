-- Each list of parts has a verdict: the clocks of the events decide whether there is a telling cycle.
use Rattle.std.proofs.Common.{◌≡◌, ◌≢◌, ◌⊎◌, ℕ, zero, suc, ◌+◌, ◌<◌, ◌≤◌, true, false, List, [], ◌∷◌, length, take, drop, Option, Some, None, option_map, inl, inr, refl, sym, ◌∙◌, ap, subst, le_refl, arith}
use Rattle.std.specs.Prelude.{slice_get, is_some, Contains}
use Rattle.std.proofs.lemmas.Bool.{cases_Bool, cases_eq, cases_lt}
use Rattle.std.proofs.lemmas.Option.{same_Some}
use Rattle.aero_model.specs.declared.numbered.Numbered.{Numbered}
use Rattle.aero_model.specs.declared.verdict.LineFault.{LineFault}
use Rattle.aero_model.specs.declared.verdict.ShapeFault.{ShapeFault}
use Rattle.aero_model.specs.declared.verdict.Verdict.{Verdict}
use Rattle.aero_model.specs.declared.verdict.Verdict.TheVariants.{Serializable, Pending, Violation, Malformed, IllFormed}
use Rattle.aero_model.specs.BlockCounts.{block_count, open_count}
use Rattle.aero_model.specs.Blocks.{Block, blocks, closes, depth}
use Rattle.aero_model.specs.Cycle.{HasTellingCycle, IsClosing, IsOpener}
use Rattle.aero_model.specs.Exempt.{Marked, judged, marked, marked_trace}
use Rattle.aero_model.specs.Named.{Named}
use Rattle.aero_model.specs.Numbering.{number_of, tables_of}
use Rattle.aero_model.specs.Shape.{IsWellFormed, IsLawful, fault_at}
use Rattle.aero_model.proofs.Begins.{begin_of, begin_inside}
use Rattle.aero_model.proofs.Elements.{none_in, here, there, first_or_rest}
use Rattle.aero_model.proofs.Ends.{begun, begin_in}
use Rattle.aero_model.proofs.Exempt.{judged_at}
use Rattle.aero_model.proofs.Lawful.{lawful_well_formed}
use Rattle.aero_model.proofs.Searching.{Decided, search_below}
use Rattle.aero_model.proofs.Telling.{event_at, telling_back, closing_front, opener_front}
use Rattle.aero_engine.specs.declared.slot.Slot.{Slot}
use Rattle.aero_engine.specs.declared.slot.Slot.TheVariants.{OfThread, LastWrite, LastRead, LastRelease}
use Rattle.aero_engine.specs.Clocks.{Clock}
use Rattle.aero_engine.specs.Judgement.{IsJudged, IsJudgedAtEnd, Passed, start, event, end}
use Rattle.aero_engine.specs.Takes.{Takes}
use Rattle.aero_engine.proofs.EveryRun.{takes_some}
use Rattle.aero_engine.proofs.Rules.{passed_none, passed_told, passed_told_at_end}
use Rattle.aero_grammar.specs.Reading.{Reading}
use Rattle.aero_verdict.specs.Verdict.{IsVerdict, IsClean, IsOnLine, counted_events, events_of, faulty_line, read_trace, checked_trace}
use Rattle.aero_model.specs.Terms.{Rules}
use Rattle.aero_verdict.proofs.Judged.{judged_well}
use Rattle.aero_verdict.proofs.Openers.{opener_number}
use Rattle.aero_verdict.proofs.Readings.{trace_length}
use Rattle.aero_verdict.proofs.Steps.{front_and_rest}
use Rattle.aero_verdict.proofs.ThreadNames.{was, was_at, in_all}

-- whether a slot is the thread's own
is_own : (s : Slot) (t : ℕ) → (s ≡ OfThread t) ⊎ (s ≢ OfThread t)
is_own (OfThread u) t = elim (cases_eq u t) [ inl e ↦ inl (ap OfThread e) | inr d ↦ inr (λ e. d (cc)) ]
is_own (LastWrite x) t = inr (λ e. cc)
is_own (LastRead x u) t = inr (λ e. cc)
is_own (LastRelease l) t = inr (λ e. cc)

-- whether one of the slots but the thread's own counts so many of its blocks
abbrev Counting : ℕ → ℕ → (Slot → Clock) → List Slot → Type 0
Counting t k clocks ss = (s : Slot) × Contains ss s × (s ≢ OfThread t) × (k ≤ clocks s t)

counting_first : (t k : ℕ) (clocks : Slot → Clock) (s r : Slot) (ss : List Slot) → Contains (r ∷ ss) s → (s ≢ OfThread t) → (k ≤ clocks s t) → ((r ≢ OfThread t) × (k ≤ clocks r t)) ⊎ Counting t k clocks ss
counting_first t k clocks s r ss among other counted = elim (first_or_rest r ss among) [
  | inl same ↦ inl (λ own. other (same ∙ own), subst (λ q. k ≤ clocks q t) same counted)
  | inr later ↦ inr (s, later, other, counted)
]

is_counting : (t k : ℕ) (clocks : Slot → Clock) (ss : List Slot) → Decided (Counting t k clocks ss)
is_counting t k clocks [] = inr (λ h. none_in h.1)
is_counting t k clocks (r ∷ ss) = go (is_own r t) (cases_lt (clocks r t) k) (is_counting t k clocks ss)
  where
    go : (r ≡ OfThread t) ⊎ (r ≢ OfThread t) → (clocks r t < k) ⊎ (k ≤ clocks r t) → Decided (Counting t k clocks ss) → Decided (Counting t k clocks (r ∷ ss))
    go _ _ (inl (s, among, other, counted)) = inl (s, there r ss among, other, counted)
    go (inr other) (inr counted) (inr none) = inl (r, here ss, other, counted)
    go (inl own) _ (inr none) = inr (λ h. elim (counting_first t k clocks h.0 r ss h.1 h.2 h.3) [ inl first ↦ first.0 own | inr later ↦ none later ])
    go (inr other) (inl less) (inr none) = inr (λ h. elim (counting_first t k clocks h.0 r ss h.1 h.2 h.3) [ inl first ↦ omega (arith, first.1, less) | inr later ↦ none later ])

is_judged : (trace : List Numbered) (n t : ℕ) (clocks : Slot → Clock) (ss : List Slot) → Decided (IsJudged trace n t clocks ss)
is_judged trace n t clocks ss = go (cases_lt 0 (depth trace t n)) (is_counting t (blocks trace t n) clocks ss)
  where
    go : (0 < depth trace t n) ⊎ (depth trace t n ≤ 0) → Decided (Counting t (blocks trace t n) clocks ss) → Decided (IsJudged trace n t clocks ss)
    go (inr shut) _ = inr (λ h. omega (arith, h.is_open, shut))
    go (inl deep) (inl (s, among, other, counted)) = inl record { is_open = deep; slot = s; among = among; other = other; counted = counted }
    go (inl deep) (inr none) = inr (λ h. none (h.slot, h.among, h.other, h.counted))

is_judged_at_end : (trace : List Numbered) (n t : ℕ) (clocks : Slot → Clock) (u : ℕ) → Decided (IsJudgedAtEnd trace n t clocks u)
is_judged_at_end trace n t clocks u = go (cases_eq u t) (cases_lt 0 (depth trace u n)) (cases_lt (clocks (OfThread t) u) (blocks trace u n)) (cases_lt (clocks (OfThread u) t) (blocks trace t n))
  where
    go : (u ≡ t) ⊎ (u ≡ t → ⊥) → (0 < depth trace u n) ⊎ (depth trace u n ≤ 0) → (clocks (OfThread t) u < blocks trace u n) ⊎ (blocks trace u n ≤ clocks (OfThread t) u) → (clocks (OfThread u) t < blocks trace t n) ⊎ (blocks trace t n ≤ clocks (OfThread u) t) →
        Decided (IsJudgedAtEnd trace n t clocks u)
    go (inl same) _ _ _ = inr (λ h. h.other same)
    go (inr other) (inr shut) _ _ = inr (λ h. omega (arith, h.is_open, shut))
    go (inr other) (inl deep) (inl less) _ = inr (λ h. omega (arith, h.taken, less))
    go (inr other) (inl deep) (inr taken) (inl less) = inr (λ h. omega (arith, h.given, less))
    go (inr other) (inl deep) (inr taken) (inr given) = inl record { other = other; is_open = deep; taken = taken; given = given }

-- a number above that of each thread
pub above : (xs : List Numbered) → (m : ℕ) × ((i : ℕ) (e : Numbered) → slice_get xs i ≡ Some e → e.thread < m)
above [] = (0, λ i e h. cc)
above (x ∷ xs) = let b = above xs in (suc (x.thread + b.0), below b)
  where
    below : (b : (m : ℕ) × ((i : ℕ) (e : Numbered) → slice_get xs i ≡ Some e → e.thread < m)) (i : ℕ) (e : Numbered) → slice_get (x ∷ xs) i ≡ Some e → e.thread < suc (x.thread + b.0)
    below b zero e h = let q : x.thread ≡ e.thread = ap (λ (c : Numbered). c.thread) (same_Some x e h) in omega arith
    below b (suc i) e h = omega (arith, b.1 i e h)

-- a thread in a block is below it
open_below : (trace : List Numbered) (n u : ℕ) → 0 < depth trace u n → u < (above trace).0
open_below trace n u deep =
    let b = begun trace u n deep in
    let inside = begin_in trace u b.place b.opening in
    subst (λ v. v < (above trace).0) inside.thread ((above trace).1 b.place inside.event inside.event_at)

-- with an event before place n a telling cycle closes, and its opener is a block of thread t
record Closes (trace : List Numbered) (n : ℕ) : Type 0 where
  pub place : ℕ
  pub before : place < n
  pub closing : IsClosing trace place
  pub t : ℕ
  pub number : ℕ
  pub opener : IsOpener trace (suc place) t number

abbrev Runs : List Numbered → ℕ → Type 0
Runs trace n = (clocks : Slot → Clock) × Passed trace n clocks

module _ (trace : List Numbered) (ok : IsWellFormed trace) where
  at_access : (n : ℕ) (e : Numbered) (clocks : Slot → Clock) → Passed trace n clocks → slice_get trace n ≡ Some e → closes trace e.thread n ≡ false → Runs trace (suc n) ⊎ Closes trace (suc n)
  at_access n e clocks run at no_end = go (takes_some trace n e)
    where
      go : (ss : List Slot) × Takes trace n e ss → Runs trace (suc n) ⊎ Closes trace (suc n)
      go (ss, takes) = elim (is_judged trace n e.thread clocks ss) [
        | inl is ↦
            let told = (passed_told trace ok n e at clocks run ss takes no_end (Some e.thread)).0 (refl, is) in
            inr record { place = n; before = omega arith; closing = told.0; t = e.thread; number = blocks trace e.thread n; opener = told.1 }
        | inr none ↦ inl (_, event n e ss clocks run at no_end takes none)
      ]

  at_end : (n : ℕ) (e : Numbered) (clocks : Slot → Clock) → Passed trace n clocks → slice_get trace n ≡ Some e → closes trace e.thread n ≡ true → Runs trace (suc n) ⊎ Closes trace (suc n)
  at_end n e clocks run at closing = elim (search_below (IsJudgedAtEnd trace n e.thread clocks) (above trace).0 (λ u less. is_judged_at_end trace n e.thread clocks u)) [
    | inl found ↦
        let least : (v : ℕ) → IsJudgedAtEnd trace n e.thread clocks v → found.number ≤ v = λ v is. elim (cases_lt v found.number) [ inl less ↦ absurd (found.least v less is) | inr le ↦ le ] in
        let told = (passed_told_at_end trace ok n e at clocks run closing (Some found.number)).0 (found.has, least) in
        inr record { place = n; before = omega arith; closing = told.0; t = found.number; number = blocks trace found.number n; opener = told.1 }
    | inr none ↦ inl (_, end n e clocks run at closing (λ u is. none u (open_below trace n u is.is_open) is))
  ]

  -- no telling cycle closes with the first n events, or one does
  run_of : (n : ℕ) → n ≤ length trace → Runs trace n ⊎ Closes trace n
  run_of zero le = inl (_, start)
  run_of (suc n) le = go (run_of n (omega (arith, le))) (event_at trace n (omega (arith, le)))
    where
      go : Runs trace n ⊎ Closes trace n → (e : Numbered) × (slice_get trace n ≡ Some e) → Runs trace (suc n) ⊎ Closes trace (suc n)
      go (inr c) _ = inr record { place = c.place; before = omega (arith, c.before); closing = c.closing; t = c.t; number = c.number; opener = c.opener }
      go (inl (clocks, run)) (e, at) = elim (cases_Bool (closes trace e.thread n)) [ inl closing ↦ at_end n e clocks run at closing | inr no_end ↦ at_access n e clocks run at no_end ]

-- there is an item at each place
item_at : {X : Type 0} (xs : List X) (i : ℕ) → i < length xs → (x : X) × (slice_get xs i ≡ Some x)
item_at [] i l = absurd (omega (arith, l))
item_at (x ∷ xs) zero l = (x, refl)
item_at (x ∷ xs) (suc i) l = item_at xs i (omega (arith, l))

take_length : {X : Type 0} (xs : List X) (n : ℕ) → n ≤ length xs → length (take n xs) ≡ n
take_length xs zero le = refl
take_length [] (suc n) le = absurd (omega (arith, le))
take_length (x ∷ xs) (suc n) le = ap suc (take_length xs n (omega (arith, le)))

module _ (parts : List Reading) (rules : Rules) where
  abbrev trace : List Numbered
  trace = checked_trace parts rules

  abbrev named : List Named
  named = events_of parts rules

  abbrev all : List Marked
  all = marked_trace rules.labels named

  abbrev Lawful : ℕ → Type 0
  Lawful n = IsLawful rules.limits (read_trace parts rules) n

  well : (n : ℕ) → Lawful n → IsWellFormed (take n trace)
  well n lawful = judged_well rules.labels named n (lawful_well_formed rules.limits (read_trace parts rules) n lawful)

  -- each event stands on a line
  line_at : (n : ℕ) → n < length trace → (line : ℕ) × IsOnLine parts rules n line
  line_at n less =
      let item = item_at (counted_events parts rules) n (omega (arith, trace_length rules parts, less)) in
      (item.0.0, ap (option_map (λ (e : ℕ × Named). e.0)) item.1)

  -- the thread of an event has a name
  pub name_at : (n : ℕ) (e : Numbered) → slice_get trace n ≡ Some e → (name : List ℕ) × (slice_get (tables_of named).threads e.thread ≡ Some name)
  name_at n e at =
      let mark = was (judged (take n all)) (slice_get all n) e (sym (judged_at all n) ∙ at) in
      let event = was_at (marked rules.labels (tables_of named)) named n mark.value mark.here in
      let number : number_of (tables_of named).threads event.value.thread ≡ e.thread =
      ap (λ (x : Marked). x.event.thread) event.gives ∙ ap (λ (x : Numbered). x.thread) mark.gives in
      (event.value.thread, ap (slice_get (tables_of named).threads) (sym number) ∙ in_all named n event.value event.here)

  -- where a telling cycle closes first
  violation : (n : ℕ) → n ≤ length trace → Lawful n → Closes (take n trace) n → (v : Verdict) × IsVerdict parts rules v
  violation n le lawful c =
      let front = take n trace in
      let long : suc c.place ≤ length front = omega (arith, take_length trace n le, c.before) in
      let closing : IsClosing trace c.place = subst (λ es. IsClosing es c.place) (front_and_rest trace n) (closing_front front (drop n trace) c.place long c.closing) in
      let opener : IsOpener trace (suc c.place) c.t c.number = subst (λ es. IsOpener es (suc c.place) c.t c.number) (front_and_rest trace n) (opener_front front (drop n trace) (suc c.place) c.t c.number long c.opener) in
      let first : Lawful (suc c.place) = λ i less. lawful i (omega (arith, less, c.before)) in
      let latest = opener_number trace c.place c.t c.number (well (suc c.place) first) closing opener in
      let b = begin_of trace c.t (suc c.place) (blocks trace c.t (suc c.place)) latest.0 (le_refl (blocks trace c.t (suc c.place))) in
      let inside = begin_in trace c.t b.place b.opening in
      let name = name_at b.place inside.event inside.event_at in
      let line = line_at c.place (omega (arith, c.before, le)) in
      let begun_line = line_at b.place (omega (arith, b.before, c.before, le)) in (
        Violation line.0 name.0 begun_line.0,
        record {
          place = c.place;
          lawful = first;
          closing = closing;
          line_of = line.1;
          t = c.t;
          number = c.number;
          opener = opener;
          name = subst (λ t. slice_get (tables_of named).threads t ≡ Some name.0) inside.thread name.1;
          begins = record {
            place = b.place;
            outermost = b.opening.opens;
            block = begin_inside trace c.t (suc c.place) (blocks trace c.t (suc c.place)) b ∙ ap (Block c.t) latest.1;
            line_of = begun_line.1;
          };
        },
      )

  clean : (n : ℕ) → n ≤ length trace → (lawful : Lawful n) → Runs (take n trace) n → IsClean parts rules n
  clean n le lawful (clocks, run) =
      let front = take n trace in
      record {
        lawful = lawful;
        no_cycle = λ c. passed_none front (well n lawful) n clocks run (telling_back front (drop n trace) n (omega (arith, take_length trace n le)) (subst (λ es. HasTellingCycle es n) (sym (front_and_rest trace n)) c));
      }

  -- where an event is ill-formed
  ill_formed : (n : ℕ) → n < length trace → (fault : ShapeFault) → fault_at rules.limits (read_trace parts rules) n ≡ Some fault → IsClean parts rules n → (v : Verdict) × IsVerdict parts rules v
  ill_formed n less fault cause is =
      let line = line_at n less in
      (IllFormed line.0 fault, record { place = n; clean = is; cause = cause; line_of = line.1 })

  -- and where none is
  faultless : IsClean parts rules (length trace) → (v : Verdict) × IsVerdict parts rules v
  faultless is = go (faulty_line parts rules) refl (open_count trace) refl
    where
      go : (o : Option (ℕ × LineFault)) → faulty_line parts rules ≡ o → (k : ℕ) → open_count trace ≡ k → (v : Verdict) × IsVerdict parts rules v
      go (Some (line, fault)) has k are = (Malformed line fault, record { clean = is; cause = has })
      go None has zero are = (Serializable (length trace) (block_count trace), record { clean = is; no_fault = has; events_are = refl; blocks_are = refl; open_are = sym are })
      go None has (suc k) are = (Pending (length trace) (block_count trace) (suc k), (omega arith, record { clean = is; no_fault = has; events_are = refl; blocks_are = refl; open_are = sym are }))

  abbrev IsFaulty : ℕ → Type 0
  IsFaulty n = is_some (fault_at rules.limits (read_trace parts rules) n) ≡ true

  fault_of : (n : ℕ) → IsFaulty n → (fault : ShapeFault) × (fault_at rules.limits (read_trace parts rules) n ≡ Some fault)
  fault_of n is = go (fault_at rules.limits (read_trace parts rules) n) refl is
    where
      go : (o : Option ShapeFault) → fault_at rules.limits (read_trace parts rules) n ≡ o → is_some o ≡ true → (fault : ShapeFault) × (fault_at rules.limits (read_trace parts rules) n ≡ Some fault)
      go None same some = absurd (cc)
      go (Some fault) same some = (fault, same)

  no_fault_of : (n : ℕ) → ¬ IsFaulty n → fault_at rules.limits (read_trace parts rules) n ≡ None
  no_fault_of n none = go (fault_at rules.limits (read_trace parts rules) n) refl
    where
      go : (o : Option ShapeFault) → fault_at rules.limits (read_trace parts rules) n ≡ o → fault_at rules.limits (read_trace parts rules) n ≡ None
      go None same = same
      go (Some fault) same = absurd (none (ap is_some same))

  pub some_verdict : (v : Verdict) × IsVerdict parts rules v
  some_verdict = elim (search_below IsFaulty (length trace) (λ n less. decided n)) [
    | inl first ↦
        let le : first.number ≤ length trace = omega (arith, first.below) in
        let lawful : Lawful first.number = λ i less. no_fault_of i (first.least i less) in
        let fault = fault_of first.number first.has in
        elim (run_of (take first.number trace) (well first.number lawful) first.number (omega (arith, take_length trace first.number le))) [
          | inl runs ↦ ill_formed first.number first.below fault.0 fault.1 (clean first.number le lawful runs)
          | inr c ↦ violation first.number le lawful c
        ]
    | inr none ↦
        let lawful : Lawful (length trace) = λ i less. no_fault_of i (none i less) in
        elim (run_of (take (length trace) trace) (well (length trace) lawful) (length trace) (omega (arith, take_length trace (length trace) (le_refl (length trace))))) [
          | inl runs ↦ faultless (clean (length trace) (le_refl (length trace)) lawful runs)
          | inr c ↦ violation (length trace) (le_refl (length trace)) lawful c
        ]
  ]
    where
      decided : (n : ℕ) → Decided (IsFaulty n)
      decided n = elim (cases_Bool (is_some (fault_at rules.limits (read_trace parts rules) n))) [ inl some ↦ inl some | inr none ↦ inr (λ is. absurd (cc)) ]

-- What a record of a violating trace tells of its cycles.
use Rattle.std.proofs.Common.{◌≡◌, ℕ, zero, suc, ◌<◌, ◌≤◌, ◌^◌, ◌==◌, true, false, List, [], ◌∷◌, ◌++◌, ◌-◌, length, map, take, Some, option_map, inl, inr, refl, sym, ◌∙◌, ap, subst, arith}
use Rattle.std.specs.Prelude.{slice_get, flat_map, unwrap_or, All, Bool, Vec, if◌then◌else◌}
use Rattle.std.specs.Global.{Global}
use Rattle.std.specs.List.{AllZip}
use Rattle.std.proofs.lemmas.Bool.{and_parts, cases_lt, cases_eq, eq-eqb, ne_eqb, cond-true, cond-false}
use Rattle.std.proofs.lemmas.List.{length-map}
use Rattle.std.proofs.lemmas.Option.{slice_get_within, slice_get-map}
use Rattle.aero_model.specs.declared.event.Op.{Op}
use Rattle.aero_model.specs.declared.event.Op.TheVariants as op
use Rattle.aero_model.specs.declared.numbered.Numbered.{Numbered}
use Rattle.aero_model.specs.declared.numbered.What.TheVariants.{End, Exempt}
use Rattle.aero_model.specs.declared.verdict.CycleStep.{CycleStep}
use Rattle.aero_model.specs.declared.verdict.CycleTransaction.{CycleTransaction}
use Rattle.aero_model.specs.Blocks.{Transaction, Block, transaction, blocks, by_thread, depth, is_begin, opens, IsOpen}
use Rattle.aero_model.specs.Exempt.{Marked, ends_exempt, judged, judged_what, marked, marked_trace}
use Rattle.aero_model.specs.Graph as graph
use Rattle.aero_model.specs.Graph.{IsVisit, GoesOn, IsTelling, BeginsCycle}
use Rattle.aero_model.specs.Cycle.{HasTellingCycle, IsClosing}
use Rattle.aero_model.specs.Shape.{IsWellFormed}
use Rattle.aero_model.specs.declared.verdict.Verdict.{Verdict}
use Rattle.aero_model.specs.declared.verdict.Verdict.TheVariants.{Serializable, Pending, Violation, Malformed, IllFormed}
use Rattle.aero_model.specs.Named.{Named}
use Rattle.aero_model.proofs.Cycles.{begins_open}
use Rattle.aero_model.proofs.Depths.{opening_at}
use Rattle.aero_model.proofs.Exempt.{judged_at}
use Rattle.aero_model.proofs.Telling.{telling_from_begins}
use Rattle.aero_model.proofs.Walks.{begins_same}
use Rattle.aero_model.proofs.Stability.{Agree, agree_back}
use Rattle.aero_grammar.specs.Reading.{Reading, IsReading}
use Rattle.aero_model.specs.Numbering.{Tables, tables_of, what_of}
use Rattle.aero_witness.specs.declared.visit.Visit.{Visit}
use Rattle.aero_witness.specs.Parts.{AreFirstsTo}
use Rattle.aero_witness.specs.Telling.{visit_of, visits_of, IsTellingCycle, IsShortest}
use Rattle.aero_witness.specs.Thinned.{IsAmong, IsThinned, IsEnough, IsPlaced}
use Rattle.aero_witness.specs.Trail.{IsTrail}
use Rattle.aero_witness.proofs.Led.{led_inside}
use Rattle.aero_witness.proofs.Nests.{opening_first}
use Rattle.aero_witness.proofs.Starting.{first_within}
use Rattle.aero_witness.proofs.Thinning.{one_index, one_place}
use Rattle.aero_witness.proofs.ThinnedShortest.{begins_kept, shortest_trace}
use Rattle.aero_witness.proofs.Trail.{transaction_recorded, ended_back}
use Rattle.aero_engine.specs.Given.{words_of}
use Rattle.aero_verdict.specs.declared.checker.Checker.{Checker}
use Rattle.aero_verdict.specs.declared.numbering.Numbering.{Numbering}
use Rattle.aero_judge.specs.declared.recorder.Recorder.{Recorder}
use Rattle.aero_verdict.specs.Explained.{has_cycle, visit_places, round_places, IsCycleStep, IsCycleTransaction, IsExplained}
use Rattle.aero_verdict.specs.Standing.{AreGiven}
use Rattle.aero_verdict.specs.Parts.{KeepsAt}
use Rattle.aero_judge.specs.Recorded.{recorded, HasRecordedAs, HasRecorded, StandsForLeads}
use Rattle.aero_verdict.specs.Monitored.{TellsFed}
use Rattle.aero_judge.specs.Records.{IsRecordOf, round_of, AreShown, CanBeShown, IsEventAt, IsStepAt, IsTransactionOf}
use Rattle.aero_verdict.specs.Verdict.{counted_events, events_of, checked_trace, IsOnLine, IsViolation}
use Rattle.aero_model.specs.Terms.{Rules}
use Rattle.aero_verdict.proofs.Rounds.{round_within, enters_within}
use Rattle.aero_judge.proofs.Keeping as keeping
use Rattle.aero_judge.proofs.Keeping.{at_line, label_is}
use Rattle.aero_judge.proofs.Rising.{begins_alone}

-- so are the places at which these visits come in
visits_within : (n : ℕ) (vs : List Visit) → All (λ (v : graph.Visit). v.enters < n) (visits_of vs) → All (λ (v : Visit). v.enters < n) vs
visits_within n [] all k d l = absurd (omega (arith, l))
visits_within n (v ∷ vs) all zero d l = all 0 (visit_of v) (omega arith)
visits_within n (v ∷ vs) all (suc k) d l = visits_within n vs (λ j x less. all (suc j) x (omega (arith, less))) k d (omega (arith, l))

-- what holds of three lists, place by place
zip_through : {X Y Z : Type 0} (A : X → Y → Type 0) (R : X → Z → Type 0) (S : Y → Z → Type 0) → ((x : X) (y : Y) (z : Z) → A x y → R x z → S y z) → (xs : List X) (ys : List Y) (zs : List Z) → AllZip A xs ys → AllZip R xs zs → AllZip S ys zs
zip_through A R S thus [] [] zs a r = empty zs r
  where
    empty : (zs : List _) → AllZip R [] zs → AllZip S [] zs
    empty [] r = tt
    empty (z ∷ zs) r = absurd r
zip_through A R S thus [] (y ∷ ys) zs a r = absurd a
zip_through A R S thus (x ∷ xs) [] zs a r = absurd a
zip_through A R S thus (x ∷ xs) (y ∷ ys) [] a r = absurd r
zip_through A R S thus (x ∷ xs) (y ∷ ys) (z ∷ zs) a r = (thus x y z a.0 r.0, zip_through A R S thus xs ys zs a.1 r.1)

zip_joined : {X Y : Type 0} (A : X → Y → Type 0) (xs vs : List X) (ys ws : List Y) → AllZip A xs ys → AllZip A vs ws → AllZip A (xs ++ vs) (ys ++ ws)
zip_joined A [] vs [] ws a b = b
zip_joined A [] vs (y ∷ ys) ws a b = absurd a
zip_joined A (x ∷ xs) vs [] ws a b = absurd a
zip_joined A (x ∷ xs) vs (y ∷ ys) ws a b = (a.0, zip_joined A xs vs ys ws a.1 b)

-- the places of a cycle of what is kept, and those in the trace
module _ (trace kept : List Numbered) (places : List ℕ) (thin : IsThinned trace kept places) where
  abbrev Stands : ℕ → ℕ → Type 0
  Stands i p = slice_get places i ≡ Some p

  visit_stands : (v w : graph.Visit) → IsPlaced places v w → AllZip Stands (visit_places v) (visit_places w)
  visit_stands v w at = elim (cases_eq v.enters v.leaves) [
    | inl same ↦
        let same' = one_place trace kept places thin v.enters v.leaves w.enters w.leaves at.enters at.leaves same in
        subst (λ xs. AllZip Stands xs (visit_places w)) (sym (cond-true (v.enters == v.leaves) _ _ (eq-eqb v.enters v.leaves same)))
        (subst (AllZip Stands (v.enters ∷ [])) (sym (cond-true (w.enters == w.leaves) _ _ (eq-eqb w.enters w.leaves same'))) (at.enters, tt))
    | inr other ↦
        let other' : w.enters ≡ w.leaves → ⊥ = λ e. other (one_index trace kept places thin v.enters v.leaves w.enters w.leaves at.enters at.leaves e) in
        subst (λ xs. AllZip Stands xs (visit_places w)) (sym (cond-false (v.enters == v.leaves) _ _ (ne_eqb v.enters v.leaves other)))
        (subst (AllZip Stands (v.enters ∷ v.leaves ∷ [])) (sym (cond-false (w.enters == w.leaves) _ _ (ne_eqb w.enters w.leaves other'))) (at.enters, (at.leaves, tt)))
  ]

  walk_stands : (vs ws : List graph.Visit) → AllZip (IsPlaced places) vs ws → AllZip Stands (flat_map visit_places vs) (flat_map visit_places ws)
  walk_stands [] [] ats = tt
  walk_stands [] (w ∷ ws) ats = absurd ats
  walk_stands (v ∷ vs) [] ats = absurd ats
  walk_stands (v ∷ vs) (w ∷ ws) ats = zip_joined Stands (visit_places v) (flat_map visit_places vs) (visit_places w) (flat_map visit_places ws) (visit_stands v w ats.0) (walk_stands vs ws ats.1)

  round_stands : (v w : graph.Visit) (vs ws : List graph.Visit) → IsPlaced places v w → AllZip (IsPlaced places) vs ws → AllZip Stands (round_places v vs) (round_places w ws)
  round_stands v w vs ws at ats =
      (at.leaves, zip_joined Stands (flat_map visit_places vs) (v.enters ∷ []) (flat_map visit_places ws) (w.enters ∷ []) (walk_stands vs ws ats) (at.enters, tt))

-- where a block begins, a begin was read
begin_read : (T : Tables) (before : List Marked) (t : ℕ) (exempt : Bool) (o : Op) (target : List ℕ) → is_begin (judged_what before t exempt (what_of T o target)) ≡ true → o ≡ op.Begin
begin_read T before t exempt op.Begin target is = refl
begin_read T before t exempt op.End target is = absurd (of_end (ends_exempt before t) is)
  where
    of_end : (b : Bool) → is_begin (if b then Exempt else End) ≡ true → ⊥
    of_end true is = cc
    of_end false is = cc
begin_read T before t exempt op.Read target is = absurd (cc)
begin_read T before t exempt op.Write target is = absurd (cc)
begin_read T before t exempt op.Acquire target is = absurd (cc)
begin_read T before t exempt op.Release target is = absurd (cc)
begin_read T before t exempt op.Fork target is = absurd (cc)
begin_read T before t exempt op.Join target is = absurd (cc)

begin_named : (parts : List Reading) (rules : Rules) (t q : ℕ) → opens (checked_trace parts rules) t q ≡ true → (e : ℕ × Named) → slice_get (counted_events parts rules) q ≡ Some e → e.1.op ≡ op.Begin
begin_named parts rules t q opened e here =
    let names : List Named = events_of parts rules in
    let T : Tables = tables_of names in
    let all : List Marked = marked_trace rules.labels names in
    let m : Marked = marked rules.labels T e.1 in
    let at : slice_get (checked_trace parts rules) q ≡ Some (judged (take q all) m) =
    judged_at all q ∙ ap (option_map (judged (take q all))) (slice_get-map (marked rules.labels T) names q ∙ ap (option_map (marked rules.labels T)) (slice_get-map (λ (x : ℕ × Named). x.1) (counted_events parts rules) q ∙ ap (option_map (λ (x : ℕ × Named). x.1)) here)) in
    let begins : by_thread t is_begin (slice_get (checked_trace parts rules) q) ≡ true = (and_parts (by_thread t is_begin (slice_get (checked_trace parts rules) q)) (depth (checked_trace parts rules) t q == 0) opened).0 in
    begin_read T (take q all) m.event.thread m.exempt e.1.op (unwrap_or e.1.target [])
    (and_parts (m.event.thread == t) (is_begin (judged (take q all) m).what) (ap (by_thread t is_begin) (sym at) ∙ begins)).1

module _ (parts : List Reading) (rules : Rules) (numbering : Numbering) (recorder : Recorder) (line : ℕ) (thread : List ℕ) (begun : ℕ) (r : IsRecordOf parts rules numbering recorder line thread begun) where
  abbrev counted : List (ℕ × Named)
  counted = counted_events parts rules

  abbrev checked : List Numbered
  checked = checked_trace parts rules

  abbrev n : ℕ
  n = suc r.violation.place

  abbrev front : List Numbered
  front = take n checked

  -- what was given, as it would be recorded, and what is recorded of it
  abbrev told : List Numbered
  told = map recorded r.upto.given

  abbrev taken : List Numbered
  taken = recorder.events.items

  abbrev places : List ℕ
  places = recorder.places.items

  abbrev lines : List ℕ
  lines = recorder.lines.items

  -- what is known of each record, here up to the closing event
  agrees : Agree n front checked
  agrees = keeping.agrees parts rules numbering recorder n r.upto

  well : IsWellFormed front
  well = keeping.well parts rules numbering recorder n r.upto

  untold : (m : ℕ) → m < n → HasTellingCycle front m → ⊥
  untold = keeping.untold parts rules numbering recorder n r.upto

  has : HasRecordedAs recorder r.upto.given front
  has = keeping.has parts rules numbering recorder n r.upto

  enough : IsEnough told taken places
  enough = keeping.enough parts rules numbering recorder n r.upto

  thin : IsThinned told taken places
  thin = keeping.thin parts rules numbering recorder n r.upto

  told_long : length told ≡ n
  told_long = keeping.told_long parts rules numbering recorder n r.upto

  lines_long : length lines ≡ length taken
  lines_long = keeping.lines_long parts rules numbering recorder n r.upto

  pub few_events : length taken < 2 ^ 32
  few_events = keeping.few_events parts rules numbering recorder n r.upto

  pub few_lines : length lines < 2 ^ 32
  few_lines = keeping.few_lines parts rules numbering recorder n r.upto

  trail : IsTrail front told
  trail = keeping.trail parts rules numbering recorder n r.upto

  same_transaction : (i : ℕ) → i < n → transaction told i ≡ transaction checked i
  same_transaction = keeping.same_transaction parts rules numbering recorder n r.upto

  there : (first : graph.Visit) (rest : List graph.Visit) → IsTelling checked n first rest → IsTelling told (length told) first rest
  there = keeping.there parts rules numbering recorder n r.upto

  here : (first : graph.Visit) (rest : List graph.Visit) → IsTelling told (length told) first rest → IsTelling checked n first rest
  here = keeping.here parts rules numbering recorder n r.upto

  abbrev HasPlace : ℕ → ℕ → Type 0
  HasPlace i p = slice_get places i ≡ Some p

  at_within : (i p : ℕ) → HasPlace i p → p < n
  at_within = keeping.at_within parts rules numbering recorder n r.upto

  stood : (i : ℕ) → i < length taken → (p : ℕ) × HasPlace i p
  stood = keeping.stood parts rules numbering recorder n r.upto

  line_at : (i p l : ℕ) → HasPlace i p → slice_get lines i ≡ Some l → IsOnLine parts rules p l
  line_at = keeping.line_at parts rules numbering recorder n r.upto

  line_there : (i p l : ℕ) → HasPlace i p → IsOnLine parts rules p l → slice_get lines i ≡ Some l
  line_there = keeping.line_there parts rules numbering recorder n r.upto

  pub are_shown : AreShown numbering recorder
  are_shown = keeping.are_shown parts rules numbering recorder n r.upto

  event_is : (i p : ℕ) (event : Named) → HasPlace i p → IsEventAt numbering recorder i event → option_map (λ (e : ℕ × Named). e.1) (slice_get counted p) ≡ Some event
  event_is = keeping.event_is parts rules numbering recorder n r.upto

  -- the place at which the opener's block begins
  abbrev q : ℕ
  q = r.violation.begins.place

  abbrev block : Transaction
  block = Block r.violation.t r.violation.number

  q_within : q < n
  q_within =
      let c = r.violation.opener.begins in
      let first = opening_first checked r.violation.t q (opening_at checked r.violation.t q r.violation.begins.outermost) in
      let same : Block r.violation.t (blocks checked r.violation.t (suc q)) ≡ block = sym first.at ∙ r.violation.begins.block in
      let less = c.2.visit.enters in
      elim (cases_lt (c.0).enters q) [
        | inl before ↦ absurd (first.none (c.0).enters before (c.3 ∙ sym same))
        | inr from ↦ omega (arith, less, from)
      ]

  -- it is open still
  open_front : IsOpen front n block
  open_front =
      begins_open front r.violation.place well (λ x w. untold r.violation.place (omega arith) (telling_from_begins front r.violation.place x w)) block
      (begins_same n checked front (agree_back n front checked agrees) n (omega arith) block r.violation.opener.begins)

  q_block : transaction told q ≡ block
  q_block = same_transaction q q_within ∙ r.violation.begins.block

  open_here : IsOpen told n block
  open_here =
      let o = open_front in
      ((o.0.0, o.0.1, transaction_recorded front told trail o.0.0 ∙ o.0.2), λ ended. o.1 (ended_back front told trail n block ended))

  open_told : IsOpen told (length told) (transaction told q)
  open_told = subst (IsOpen told (length told)) (sym q_block) (subst (λ m. IsOpen told m block) (sym told_long) open_here)

  q_among : IsAmong places q
  q_among =
      let less : q < length told = (let l = told_long in let w = q_within in omega arith) in
      enough.led q less (led_inside told (length told) q less open_told)

  pub begun_there : (place : ℕ) × (slice_get lines place ≡ Some begun)
  begun_there = (q_among.0, line_there q_among.0 q begun q_among.1 r.violation.begins.line_of)

  abbrev all : All IsReading parts
  all = r.upto.readings

  -- the closing event is the last one that is recorded
  latest : IsAmong places r.violation.place
  latest = has.latest r.violation.place r.upto.are_given.count

  pub some_event : 0 < length taken
  some_event = let each = thin.each in let l = slice_get_within places latest.0 r.violation.place latest.1 in omega (arith, each, l)

  last_place : HasPlace (length taken - 1) r.violation.place
  last_place =
      let each = thin.each in
      let i = latest.0 in
      let l = slice_get_within places i r.violation.place latest.1 in
      elim (cases_eq (suc i) (length taken)) [
        | inl end ↦ subst (λ k. HasPlace k r.violation.place) (let e : i ≡ length taken - 1 = omega (arith, end) in e) latest.1
        | inr more ↦
            let next = stood (suc i) (omega (arith, l, each, more)) in
            let after = thin.rise i (suc i) r.violation.place next.0 (omega arith) latest.1 next.1 in
            let below = at_within (suc i) next.0 next.1 in
            absurd (omega (arith, after, below))
      ]

  pub closing_is : (event : Named) → IsEventAt numbering recorder (length taken - 1) event → option_map (λ (e : ℕ × Named). e.1) (slice_get counted r.violation.place) ≡ Some event
  closing_is event is = event_is (length taken - 1) r.violation.place event last_place is

  module _ (begin : ℕ) (begin_at : slice_get lines begin ≡ Some begun) where
    pub begin_within : begin < length taken
    begin_within = let l = lines_long in let w = slice_get_within lines begin begun begin_at in omega (arith, l, w)

    begin_stands : HasPlace begin q
    begin_stands =
        let p = stood begin begin_within in
        let a = at_line (slice_get counted p.0) begun (line_at begin p.0 begun p.1 begin_at) in
        let b = at_line (slice_get counted q) begun r.violation.begins.line_of in
        p.1 ∙ ap Some (begins_alone parts rules all p.0 q (begun, a.event) (begun, b.event) a.here b.here refl (begin_named parts rules r.violation.t q r.violation.begins.outermost (begun, b.event) b.here))

    pub begins : BeginsCycle taken (length taken) (transaction taken begin)
    begins =
        let c = r.violation.opener.begins in
        begins_kept told taken places thin enough.led begin q begin_stands open_told (c.0, c.1, there c.0 c.1 c.2, same_transaction (c.0).enters c.2.visit.enters ∙ c.3 ∙ sym q_block)

    module _ (firsts : List ℕ) (are : AreFirstsTo taken (length taken) firsts) where
      pub can_be : CanBeShown numbering recorder firsts
      can_be = record { shown = are_shown; each = are.each; within = λ i f at. (let less = first_within taken firsts are i f at in let each = are.each in omega (arith, less, each)) }

      step_is : (i p : ℕ) (step : CycleStep) → HasPlace i p → IsStepAt numbering recorder firsts i step → IsCycleStep parts rules p step
      step_is i p step at is =
          let f = is.first in
          let f_less : f < length taken = (let l = lines_long in let w = slice_get_within lines f step.first is.first_line in omega (arith, l, w)) in
          let first = keeping.first_stands parts rules numbering recorder n r.upto i p f at f_less (are.at i f is.first_at) in
          record {
            line = line_at i p step.line at is.line;
            event = event_is i p step.event at is.event;
            first = first.place;
            is_first = first.is_first;
            first_line = line_at f first.place step.first first.stands is.first_line;
          }

      module _ (visits : List Visit) (shortest : IsShortest taken (transaction taken begin) visits) where
        pub round_is_within : All (λ place. place < length taken) (round_of visits)
        round_is_within = go visits shortest.telling
          where
            go : (vs : List Visit) → IsTellingCycle taken vs → All (λ place. place < length taken) (round_of vs)
            go [] telling = absurd telling
            go (v ∷ vs) telling = round_within taken (length taken) (visit_of v) (visits_of vs) telling

        pub enter_within : All (λ (v : Visit). v.enters < length taken) visits
        enter_within = visits_within (length taken) visits (go visits shortest.telling)
          where
            go : (vs : List Visit) → IsTellingCycle taken vs → All (λ (v : graph.Visit). v.enters < length taken) (visits_of vs)
            go [] telling = absurd telling
            go (v ∷ vs) telling = enters_within taken (length taken) (visit_of v) (visits_of vs) telling

        transactions_are : (vs ws : List Visit) (ts : List CycleTransaction) → AllZip (IsPlaced places) (visits_of vs) (visits_of ws) → AllZip (IsTransactionOf numbering recorder) vs ts → AllZip (IsCycleTransaction parts rules n) (visits_of ws) ts
        transactions_are [] [] [] ats zip = tt
        transactions_are [] [] (t ∷ ts) ats zip = absurd zip
        transactions_are [] (w ∷ ws) ts ats zip = absurd ats
        transactions_are (v ∷ vs) [] ts ats zip = absurd ats
        transactions_are (v ∷ vs) (w ∷ ws) [] ats zip = absurd zip
        transactions_are (v ∷ vs) (w ∷ ws) (t ∷ ts) ats zip = (keeping.transaction_is parts rules numbering recorder n r.upto v (visit_of w) t ats.0 zip.0, transactions_are vs ws ts ats.1 zip.1)

        pub explained : (round : List ℕ) (steps : Vec CycleStep Global) (transactions : Vec CycleTransaction Global) (opener closing : Named) → round ≡ round_of visits → AllZip (IsStepAt numbering recorder firsts) round steps.items
            → AllZip (IsTransactionOf numbering recorder) visits transactions.items → IsEventAt numbering recorder begin opener → IsEventAt numbering recorder (length taken - 1) closing
            → IsExplained parts rules line thread begun (record { label = opener.target; steps = steps; transactions = transactions; closing = closing })
        explained round steps transactions opener closing are_places zip through opens_it closes_it =
            let moved = shortest_trace told taken places thin enough.led begin q begin_stands open_told visits shortest in
            go visits moved.0 moved.1 moved.2 (subst (λ ps. AllZip (IsStepAt numbering recorder firsts) ps steps.items) are_places zip) through
          where
            go : (vs ws : List Visit) → AllZip (IsPlaced places) (visits_of vs) (visits_of ws) → IsShortest told (transaction told q) ws → AllZip (IsStepAt numbering recorder firsts) (round_of vs) steps.items
                → AllZip (IsTransactionOf numbering recorder) vs transactions.items → IsExplained parts rules line thread begun (record { label = opener.target; steps = steps; transactions = transactions; closing = closing })
            go vs [] ats short zipped through = absurd short.telling
            go [] (w ∷ ws) ats short zipped through = absurd ats
            go (v ∷ vs) (w ∷ ws) ats short zipped through =
                let telling = here (visit_of w) (visits_of ws) short.telling in
                record {
                  violation = r.violation;
                  label = label_is (slice_get counted q) opener (event_is begin q opener begin_stands opens_it);
                  first = visit_of w;
                  rest = visits_of ws;
                  telling = telling;
                  begins = sym (same_transaction w.enters telling.visit.enters) ∙ short.begins ∙ q_block;
                  fewest = λ other more tells from.
                      (let few = short.fewest other more (there other more tells) (same_transaction other.enters tells.visit.enters ∙ from ∙ sym q_block) in
                      let l = length-map ws visit_of in
                      omega (arith, few, l));
                  steps_are = zip_through HasPlace (IsStepAt numbering recorder firsts) (IsCycleStep parts rules) (λ i p step at is. step_is i p step at is) (round_of (v ∷ vs)) (round_of (w ∷ ws)) steps.items
                      (round_stands told taken places thin (visit_of v) (visit_of w) (visits_of vs) (visits_of ws) ats.0 ats.1) zipped;
                  transactions_are = transactions_are (v ∷ vs) (w ∷ ws) transactions.items ats through;
                  closing_is = closing_is closing closes_it;
                }

-- two events with which a cycle closes first are one
one_closing : (trace : List Numbered) (a b : ℕ) → IsClosing trace a → IsClosing trace b → a ≡ b
one_closing trace a b first second = elim (cases_lt a b) [
  | inl less ↦ absurd (second.before (suc a) (omega (arith, less)) first.closed)
  | inr le ↦ elim (cases_lt b a) [
    | inl more ↦ absurd (first.before (suc b) (omega (arith, more)) second.closed)
    | inr ge ↦ omega (arith, le, ge)
  ]
]

-- what a recorder keeps at a violation
pub record_of : (parts : List Reading) (rules : Rules) (checker : Checker Recorder) (line : ℕ) (thread : List ℕ) (begun : ℕ) → All IsReading parts → rules.limits.lines ≤ 4000000000
    → IsViolation parts rules line thread begun → KeepsAt HasRecorded rules parts checker (Violation line thread begun) → IsRecordOf parts rules checker.numbering checker.engine line thread begun
record_of parts rules checker line thread begun all most violation (place, closing, on_line, keeps, names) =
    let counted = counted_events parts rules in
    let same : place ≡ violation.place = one_closing (checked_trace parts rules) place violation.place closing violation.closing in
    let at = at_line (slice_get counted violation.place) line violation.line_of in
    let less = slice_get_within counted violation.place (line, at.event) at.here in
    record {
      violation = violation;
      upto = record {
        readings = all;
        within = omega (arith, less);
        lawful = violation.lawful;
        untold = λ m l. violation.closing.before m (omega (arith, l));
        given = keeps.given;
        are_given = subst (λ m. AreGiven rules counted (suc m) keeps.given) same keeps.are_given;
        kept = keeps.kept;
        names_are = names ∙ ap (λ m. tables_of (take (suc m) (events_of parts rules))) same;
      };
    }

-- so a monitor that was fed these parts tells it
pub told_record : (parts : List Reading) (rules : Rules) (checker : Checker Recorder) (numbering : Numbering) (recorder : Recorder) (verdict : Verdict) (line : ℕ) (thread : List ℕ) (begun : ℕ)
    → numbering ≡ checker.numbering → recorder ≡ checker.engine → All IsReading parts → rules.limits.lines ≤ 4000000000 → TellsFed (words_of StandsForLeads HasRecorded) rules parts checker verdict
    → verdict ≡ Violation line thread begun → IsRecordOf parts rules numbering recorder line thread begun
told_record parts rules checker numbering recorder verdict line thread begun same_names same_engine all most tells is =
    let here = subst (TellsFed (words_of StandsForLeads HasRecorded) rules parts checker) is tells in
    subst (λ m. IsRecordOf parts rules m recorder line thread begun) (sym same_names)
    (subst (λ e. IsRecordOf parts rules checker.numbering e line thread begun) (sym same_engine) (record_of parts rules checker line thread begun all most here.on.is_verdict here.keeps_at))

-- a cycle goes with violations alone
pub no_cycle : (verdict : Verdict) → ((line : ℕ) (thread : List ℕ) (begun : ℕ) → verdict ≡ Violation line thread begun → ⊥) → has_cycle true verdict ≡ false
no_cycle (Serializable events blocks) is = refl
no_cycle (Pending events blocks pending) is = refl
no_cycle (Violation line thread begun) is = absurd (is line thread begun refl)
no_cycle (Malformed line fault) is = refl
no_cycle (IllFormed line fault) is = refl

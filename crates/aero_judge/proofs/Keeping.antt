-- What a record of the first events of a trace tells of them.
use Rattle.std.proofs.Common.{◌≡◌, ℕ, zero, suc, ◌<◌, ◌≤◌, ◌^◌, ◌==◌, true, false, List, length, map, take, Option, Some, None, option_map, inl, inr, refl, sym, ◌∙◌, ap, subst, arith}
use Rattle.std.specs.Prelude.{◌≢◌, slice_get}
use Rattle.std.proofs.lemmas.Bool.{and_parts, or_left, both_ways}
use Rattle.std.proofs.lemmas.List.{length-map}
use Rattle.std.proofs.lemmas.Option.{slice_get-map, slice_get_within, same_Some}
use Rattle.aero_model.specs.declared.numbered.Numbered.{Numbered}
use Rattle.aero_model.specs.declared.numbered.What.{What}
use Rattle.aero_model.specs.declared.numbered.What.TheVariants.{Read, Write, Acquire, Release, Fork, Join, Begin, End, Exempt}
use Rattle.aero_model.specs.declared.verdict.CycleTransaction.{CycleTransaction}
use Rattle.aero_model.specs.Blocks.{is_begin, by_thread, depth, Transaction, Block, Unary, transaction, blocks, HasEnded}
use Rattle.aero_model.specs.Graph as graph
use Rattle.aero_model.specs.Graph.{IsTelling}
use Rattle.aero_model.specs.Cycle.{HasTellingCycle}
use Rattle.aero_model.specs.Shape.{IsWellFormed}
use Rattle.aero_model.specs.Named.{Named}
use Rattle.aero_model.proofs.Begins.{begin_of, begin_inside, in_number}
use Rattle.aero_model.proofs.Ends.{is_by, in_cases}
use Rattle.aero_model.proofs.Lawful.{lawful_well_formed}
use Rattle.aero_model.proofs.Places.{in_block, in_unary, block_from}
use Rattle.aero_model.proofs.Telling.{telling_from_begins, begins_from_telling}
use Rattle.aero_model.proofs.Walks.{begins_same}
use Rattle.aero_model.proofs.Stability.{Agree, agree_back, transaction_same, ended_same}
use Rattle.aero_model.proofs.TellingCycles.{telling_same}
use Rattle.aero_grammar.specs.Reading.{Reading}
use Rattle.aero_witness.specs.declared.visit.Visit.{Visit}
use Rattle.aero_witness.specs.Parts.{IsFirst}
use Rattle.aero_witness.specs.Telling.{visit_of}
use Rattle.aero_witness.specs.Thinned.{IsThinned, IsEnough, IsPlaced}
use Rattle.aero_witness.specs.Trail.{IsTrail}
use Rattle.aero_witness.proofs.Thinned as thinned
use Rattle.aero_witness.proofs.Thinned.{one_kept, one_back, all_cut}
use Rattle.aero_witness.proofs.Thinning.{place_at, earlier_index}
use Rattle.aero_witness.proofs.Trail.{transaction_recorded, telling_back, telling_on, ended_back, ended_recorded}
use Rattle.aero_engine.specs.Given.{Given}
use Rattle.aero_verdict.specs.declared.numbering.Numbering.{Numbering}
use Rattle.aero_judge.specs.declared.recorder.Recorder.{Recorder}
use Rattle.aero_verdict.specs.Explained.{IsFirstOf, IsLastOf, IsEnd, IsExtent, IsCycleTransaction}
use Rattle.aero_judge.specs.Recorded.{recorded, IsSaidOf, AreJudgedAs, AreNoted, HasRecordedAs}
use Rattle.aero_verdict.specs.Limited.{names_in}
use Rattle.aero_judge.specs.Shown.{shown, CanShow}
use Rattle.aero_judge.specs.Records.{IsRecordTo, AreShown, IsEventAt, end_line, extent_of, IsTransactionOf}
use Rattle.aero_judge.specs.Spans.{IsEndOf}
use Rattle.aero_verdict.specs.Verdict.{counted_events, events_of, read_trace, checked_trace, IsOnLine}
use Rattle.aero_model.specs.Terms.{Rules}
use Rattle.aero_verdict.proofs.Judged.{judged_well}
use Rattle.aero_verdict.proofs.Readings.{none_past}
use Rattle.aero_judge.proofs.Recording as recording
use Rattle.aero_judge.proofs.Showing.{given_shown}

-- what stands on a line
pub record At (o : Option (ℕ × Named)) (line : ℕ) : Type 0 where
  pub event : Named
  pub here : o ≡ Some (line, event)

pub at_line : (o : Option (ℕ × Named)) (line : ℕ) → option_map (λ e. e.0) o ≡ Some line → At o line
at_line None line is = absurd (cc)
at_line (Some e) line is = record { event = e.1; here = ap (λ l. Some (l, e.1)) (same_Some e.0 line is) }

pub label_is : (o : Option (ℕ × Named)) (e : Named) → option_map (λ (p : ℕ × Named). p.1) o ≡ Some e → option_map (λ (p : ℕ × Named). p.1.target) o ≡ Some e.target
label_is None e is = absurd (cc)
label_is (Some p) e is = ap (option_map (λ (d : Named). d.target)) is

pub thread_is : (o : Option (ℕ × Named)) (e : Named) → option_map (λ (p : ℕ × Named). p.1) o ≡ Some e → option_map (λ (p : ℕ × Named). p.1.thread) o ≡ Some e.thread
thread_is None e is = absurd (cc)
thread_is (Some p) e is = ap (option_map (λ (d : Named). d.thread)) is

-- a begin is in a block
begins_block : (trace : List Numbered) (p : ℕ) (e : Numbered) → slice_get trace p ≡ Some e → is_begin e.what ≡ true → transaction trace p ≢ Unary p
begins_block trace p e at begins single =
    let t = e.thread in
    let number = blocks trace t (suc p) in
    let block : transaction trace p ≡ Block t number =
    block_from trace p t number (record { event = e; event_at = at; thread = refl; inside = or_left (is_begin e.what) _ begins; number = refl }) in
    let both : Unary p ≡ Block t number = sym single ∙ block in
    cc

-- an event that is no begin, and the first one of its transaction, is all of that
alone : (trace : List Numbered) (p : ℕ) (e : Numbered) → slice_get trace p ≡ Some e → is_begin e.what ≡ false → ((m : ℕ) → m < p → transaction trace m ≢ transaction trace p) → transaction trace p ≡ Unary p
alone trace p e at other none = go (transaction trace p) refl
  where
    go : (x : Transaction) → transaction trace p ≡ x → transaction trace p ≡ Unary p
    go (Unary r) is = is ∙ ap Unary (in_unary trace p r is)
    go (Block t k) is =
        let h = in_block trace p t k is in
        elim (in_cases trace t p k h) [
          | inl opening ↦
              let by = is_by t is_begin (slice_get trace p) (and_parts (by_thread t is_begin (slice_get trace p)) (depth trace t p == 0) opening.opens).0 in
              let same = same_Some by.event e (sym by.at ∙ at) in
              absurd (both_ways (is_begin e.what) other (ap (λ (x : Numbered). is_begin x.what) (sym same) ∙ by.passes))
          | inr inside ↦
              let begin = begin_of trace t p k (in_number trace t p k h) (omega (arith, inside.1)) in
              absurd (none begin.place begin.before (begin_inside trace t p k begin ∙ sym is))
        ]

-- there are no more places than events
module _ (trace kept : List Numbered) (places : List ℕ) (thin : IsThinned trace kept places) where
  no_earlier : (i p : ℕ) → slice_get places i ≡ Some p → i ≤ p
  no_earlier zero p at = omega arith
  no_earlier (suc i) p at =
      let l = slice_get_within places (suc i) p at in
      let before = place_at places i (omega arith) in
      omega (arith, no_earlier i before.0 before.1, thin.rise i (suc i) before.0 p (omega arith) before.1 at)

  pub few_places : length places ≤ length trace
  few_places = go (length places) refl
    where
      go : (k : ℕ) → length places ≡ k → k ≤ length trace
      go zero e = omega arith
      go (suc k) e = let last = place_at places k (omega arith) in omega (arith, no_earlier k last.0 last.1, thin.within k last.0 last.1)

module _ (parts : List Reading) (rules : Rules) (numbering : Numbering) (recorder : Recorder) (n : ℕ) (r : IsRecordTo parts rules numbering recorder n) where
  abbrev counted : List (ℕ × Named)
  counted = counted_events parts rules

  abbrev checked : List Numbered
  checked = checked_trace parts rules

  abbrev front : List Numbered
  front = take n checked

  -- what was given, as it would be recorded, and what is recorded of it
  abbrev told : List Numbered
  told = map recorded r.given

  abbrev taken : List Numbered
  taken = recorder.events.items

  abbrev places : List ℕ
  places = recorder.places.items

  abbrev lines : List ℕ
  lines = recorder.lines.items

  pub agrees : Agree n front checked
  agrees = recording.front_agrees rules counted n r.within r.given r.are_given

  pub well : IsWellFormed front
  well = judged_well rules.labels (events_of parts rules) n (lawful_well_formed rules.limits (read_trace parts rules) n r.lawful)

  pub untold : (m : ℕ) → m < n → HasTellingCycle front m → ⊥
  untold m l c =
      let x = transaction front (c.0).enters in
      r.untold m l (telling_from_begins checked m x (begins_same n front checked agrees m (omega (arith, l)) x (begins_from_telling front m c)))

  judged : AreJudgedAs r.given front
  judged = recording.are_judged rules counted n r.within r.given r.are_given well untold

  pub has : HasRecordedAs recorder r.given front
  has = r.kept front judged

  pub enough : IsEnough told taken places
  enough = has.enough

  pub thin : IsThinned told taken places
  thin = enough.thinned

  noted : AreNoted recorder r.given
  noted = has.noted

  pub told_long : length told ≡ n
  told_long = length-map r.given _ ∙ r.are_given.count

  pub lines_long : length lines ≡ length taken
  lines_long = noted.lines ∙ thin.each

  pub few_events : length taken < 2 ^ 32
  few_events = let l = length-map r.given recorded in let f = noted.few in let count = noted.count in let each = thin.each in omega (arith, l, f, count, each, few_places told taken places thin)

  pub few_lines : length lines < 2 ^ 32
  few_lines = let l = lines_long in let f = few_events in omega (arith, l, f)

  pub trail : IsTrail front told
  trail = recording.trail rules counted n r.within r.given r.are_given

  pub same_transaction : (i : ℕ) → i < n → transaction told i ≡ transaction checked i
  same_transaction i less = transaction_recorded front told trail i ∙ transaction_same n front checked agrees i less

  pub there : (first : graph.Visit) (rest : List graph.Visit) → IsTelling checked n first rest → IsTelling told (length told) first rest
  there first rest telling =
      subst (λ m. IsTelling told m first rest) (sym told_long) (telling_on front told trail n first rest (telling_same n checked front (agree_back n front checked agrees) n (omega arith) first rest telling))

  pub here : (first : graph.Visit) (rest : List graph.Visit) → IsTelling told (length told) first rest → IsTelling checked n first rest
  here first rest telling =
      telling_same n front checked agrees n (omega arith) first rest (telling_back front told trail n first rest (subst (λ m. IsTelling told m first rest) told_long telling))

  abbrev HasPlace : ℕ → ℕ → Type 0
  HasPlace i p = slice_get places i ≡ Some p

  pub at_within : (i p : ℕ) → HasPlace i p → p < n
  at_within i p at = let l = told_long in omega (arith, l, thin.within i p at)

  -- each recorded event has its place
  pub stood : (i : ℕ) → i < length taken → (p : ℕ) × HasPlace i p
  stood i less = place_at places i (let each = thin.each in omega arith)

  -- what was given of the event at a place, and its event
  record GivenAt (p : ℕ) : Type 0 where
    g : Given
    at : slice_get r.given p ≡ Some g
    event : ℕ × Named
    pub here : slice_get counted p ≡ Some event

  given_at : (p : ℕ) → p < n → GivenAt p
  given_at p less = go (slice_get r.given p) refl
    where
      with_event : (g : Given) → slice_get r.given p ≡ Some g → (o : Option (ℕ × Named)) → slice_get counted p ≡ o → GivenAt p
      with_event g some None none = absurd (let past = none_past counted p none in let w = r.within in omega (arith, less, past, w))
      with_event g some (Some e) here = record { g = g; at = some; event = e; here = here }

      go : (o : Option Given) → slice_get r.given p ≡ o → GivenAt p
      go None none = absurd (let long = r.are_given.count in let past = none_past r.given p none in omega (arith, less, long, past))
      go (Some g) some = with_event g some (slice_get counted p) refl

  -- the lines that were recorded
  pub line_at : (i p l : ℕ) → HasPlace i p → slice_get lines i ≡ Some l → IsOnLine parts rules p l
  line_at i p l at line_here =
      let given = given_at p (at_within i p at) in
      let note = noted.each i p given.g at given.at in
      (r.are_given.each p given.g given.at).line_is ∙ sym note.line ∙ line_here

  pub line_there : (i p l : ℕ) → HasPlace i p → IsOnLine parts rules p l → slice_get lines i ≡ Some l
  line_there i p l at on =
      let given = given_at p (at_within i p at) in
      let note = noted.each i p given.g at given.at in
      note.line ∙ sym (r.are_given.each p given.g given.at).line_is ∙ on

  -- it is shown as it was read
  shown_at : (i p : ℕ) (x : Numbered) (code : ℕ) → HasPlace i p → slice_get taken i ≡ Some x → slice_get recorder.said.items i ≡ Some code →
      (option_map (λ (e : ℕ × Named). e.1) (slice_get counted p) ≡ Some (shown (names_in numbering) recorder.labels.names x code)) × CanShow (names_in numbering) recorder.labels.names x code
  shown_at i p x code at taken_here said =
      let less = at_within i p at in
      let given = given_at p less in
      let note = noted.each i p given.g at given.at in
      let same : recorded given.g ≡ x =
      same_Some (recorded given.g) x (sym (ap (option_map recorded) given.at) ∙ sym (slice_get-map recorded r.given p) ∙ sym (thin.event i p at) ∙ taken_here) in
      let is_said = subst (IsSaidOf recorder.labels.names given.g) (same_Some note.code code (sym note.code_at ∙ said)) note.said in
      let both = given_shown rules counted n r.within r.given r.are_given recorder.labels.names p given.g given.event code less given.at given.here is_said in
      let shows = subst (λ t. (shown t recorder.labels.names (recorded given.g) code ≡ given.event.1) × CanShow t recorder.labels.names (recorded given.g) code) (sym r.names_are) both in
      let now = subst (λ y. (shown (names_in numbering) recorder.labels.names y code ≡ given.event.1) × CanShow (names_in numbering) recorder.labels.names y code) same shows in
      (ap (option_map (λ (e : ℕ × Named). e.1)) given.here ∙ ap Some (sym now.0), now.1)

  pub are_shown : AreShown numbering recorder
  are_shown =
      record {
        lines_each = lines_long;
        said_each = noted.said ∙ thin.each;
        can = λ i x code at said. (let p = stood i (slice_get_within taken i x at) in (shown_at i p.0 x code p.1 at said).1);
      }

  pub event_is : (i p : ℕ) (event : Named) → HasPlace i p → IsEventAt numbering recorder i event → option_map (λ (e : ℕ × Named). e.1) (slice_get counted p) ≡ Some event
  event_is i p event at is = (shown_at i p is.e is.code at is.at is.said).0 ∙ ap Some (sym is.is)

  -- the first event of a transaction among what is recorded is the first one in the trace
  pub record FirstStands (p f : ℕ) : Type 0 where
    pub place : ℕ
    pub stands : HasPlace f place
    pub is_first : IsFirstOf checked p place

  pub first_stands : (i p f : ℕ) → HasPlace i p → f < length taken → IsFirst taken (transaction taken i) f → FirstStands p f
  first_stands i p f at f_less here_first =
      let first = stood f f_less in
      let pf = first.0 in
      let p_less = at_within i p at in
      let pf_less = at_within f pf first.1 in
      record {
        place = pf;
        stands = first.1;
        is_first = record {
          one = sym (same_transaction pf pf_less) ∙ one_back told taken places thin f i pf p first.1 at here_first.at ∙ same_transaction p p_less;
          none = λ m less same.
              (let m_less : m < n = omega (arith, less, pf_less) in
              let inside : transaction told p ≡ transaction told m = same_transaction p p_less ∙ sym same ∙ sym (same_transaction m m_less) in
              let long = told_long in
              let among = thin.whole p m (i, at) (omega arith) inside in
              here_first.none among.0 (earlier_index told taken places thin among.0 f m pf among.1 first.1 less) (one_kept told taken places thin among.0 i m p among.1 at (sym inside)));
        };
      }

  -- a transaction that has ended in what was given has in the trace
  pub told_ended : (p : ℕ) → p < n → HasEnded told (length told) (transaction told p) → HasEnded checked n (transaction checked p)
  told_ended p less ended =
      let x = transaction told p in
      let in_front : HasEnded front n x = ended_back front told trail n x (subst (λ m. HasEnded told m x) told_long ended) in
      subst (HasEnded checked n) (same_transaction p less) (ended_same n front checked agrees n x (omega arith) in_front)

  -- a transaction that is kept has ended among what is recorded where it has in the trace, with the same event
  module _ (i p : ℕ) (at : HasPlace i p) where
    p_within : p < n
    p_within = at_within i p at

    pub ended_there : HasEnded taken (length taken) (transaction taken i) → HasEnded checked n (transaction checked p)
    ended_there ended = told_ended p p_within (thinned.ended_back told taken places thin (length told) (length taken) (all_cut told taken places thin) i p at ended)

    pub ended_here : HasEnded checked n (transaction checked p) → HasEnded taken (length taken) (transaction taken i)
    ended_here ended =
        let x = transaction told p in
        let in_front : HasEnded front n x =
        ended_same n checked front (agree_back n front checked agrees) n x (omega arith) (subst (HasEnded checked n) (sym (same_transaction p p_within)) ended) in
        let in_told : HasEnded told (length told) x = subst (λ m. HasEnded told m x) (sym told_long) (ended_recorded front told trail n x in_front) in
        thinned.ended_kept told taken places thin (length told) (length taken) (all_cut told taken places thin) i p at in_told

    last_stands : (last q : ℕ) → IsLastOf taken (length taken) i last → HasPlace last q → IsLastOf checked n p q
    last_stands last q is q_at =
        let q_less = at_within last q q_at in
        record {
          within = q_less;
          one = sym (same_transaction q q_less) ∙ one_back told taken places thin last i q p q_at at is.one ∙ same_transaction p p_within;
          none = λ m later less same.
              (let inside : transaction told p ≡ transaction told m = same_transaction p p_within ∙ sym same ∙ sym (same_transaction m less) in
              let long = told_long in
              let among = thin.whole p m (i, at) (omega (arith, long, less)) inside in
              let each = thin.each in
              let w = slice_get_within places among.0 m among.1 in
              is.none among.0 (earlier_index told taken places thin last among.0 q m q_at among.1 later) (omega (arith, each, w)) (one_kept told taken places thin among.0 i m p among.1 at (sym inside)));
        }

    -- its end, as it is told from its first event
    end_is : (f : ℕ) → IsFirstOf checked p f → (last : Option ℕ) → IsEndOf taken i last → IsEnd parts rules n f (end_line lines last)
    end_is f first None going = λ ended. going (ended_here (subst (HasEnded checked n) first.one ended))
    end_is f first (Some last) (ended, is) =
        let last_less : last < length lines = (let w = is.within in let long = lines_long in omega (arith, w, long)) in
        let line_here = place_at lines last last_less in
        let q = stood last is.within in
        let there = last_stands last q.0 is q.1 in
        subst (IsEnd parts rules n f) (sym line_here.1) (
          subst (HasEnded checked n) (sym first.one) (ended_there ended),
          (
            q.0,
            record { within = there.within; one = there.one ∙ sym first.one; none = λ m later less same. there.none m later less (same ∙ first.one) },
            line_at last q.0 line_here.0 q.1 line_here.1,
          ),
        )

  -- whether it is a block
  module _ (p f pf : ℕ) (first : IsFirstOf checked p pf) (stands : HasPlace f pf) (x : Numbered) (here : slice_get taken f ≡ Some x) where
    pf_within : pf < n
    pf_within = at_within f pf stands

    pub told_here : slice_get told pf ≡ Some x
    told_here = sym (thin.event f pf stands) ∙ here

    no_begin : is_begin x.what ≡ false → transaction checked pf ≡ Unary pf
    no_begin other =
        sym (same_transaction pf pf_within)
        ∙ alone told pf x told_here other (λ m less same.
        (let m_less : m < n = (let w = pf_within in omega (arith, less, w)) in
        first.none m less (sym (same_transaction m m_less) ∙ same ∙ same_transaction pf pf_within ∙ first.one)))

    a_block : is_begin x.what ≡ true → transaction checked pf ≢ Unary pf
    a_block begins one = begins_block told pf x told_here begins (same_transaction pf pf_within ∙ one)

    extent_is : (label : Option (List ℕ)) (end : Option ℕ) → option_map (λ (e : ℕ × Named). e.1.target) (slice_get counted pf) ≡ Some label → IsEnd parts rules n pf end → IsExtent parts rules n pf (extent_of x.what label end)
    extent_is label end labelled ends = go x.what refl
      where
        go : (w : What) → x.what ≡ w → IsExtent parts rules n pf (extent_of w label end)
        go (Begin unlabelled) is = (a_block (ap is_begin is), labelled, ends)
        go (Read y) is = no_begin (ap is_begin is)
        go (Write y) is = no_begin (ap is_begin is)
        go (Acquire l) is = no_begin (ap is_begin is)
        go (Release l) is = no_begin (ap is_begin is)
        go (Fork u) is = no_begin (ap is_begin is)
        go (Join u) is = no_begin (ap is_begin is)
        go End is = no_begin (ap is_begin is)
        go Exempt is = no_begin (ap is_begin is)

  pub transaction_is : (v : Visit) (w : graph.Visit) (t : CycleTransaction) → IsPlaced places (visit_of v) w → IsTransactionOf numbering recorder v t → IsCycleTransaction parts rules n w t
  transaction_is v w t placed (span, of, is) =
      let f = span.first in
      let f_less : f < length taken = (let l = lines_long in let less = slice_get_within lines f t.first is.first_line in omega (arith, l, less)) in
      let first = first_stands v.enters w.enters f placed.enters f_less of.first in
      let pf = first.place in
      let said = event_is f pf is.event first.stands is.event_is in
      record {
        first = pf;
        is_first = first.is_first;
        first_line = line_at f pf t.first first.stands is.first_line;
        thread = thread_is (slice_get counted pf) is.event said ∙ ap Some is.thread;
        extent = subst (IsExtent parts rules n pf) (sym is.extent)
            (extent_is w.enters f pf first.is_first first.stands is.event_is.e is.event_is.at is.event.target (end_line lines span.last) (label_is (slice_get counted pf) is.event said)
            (end_is v.enters w.enters placed.enters pf first.is_first span.last of.last));
      }

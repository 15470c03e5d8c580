-- One more event of a list: why it is ill-formed, or what it leaves behind.
use Rattle.std.proofs.Common.{◌≡◌, ◌≢◌, ℕ, zero, suc, ◌+◌, ◌^◌, ◌<◌, ◌≤◌, ◌==◌, ◌&&◌, Bool, true, false, if◌then◌else◌, List, [], ◌∷◌, ◌++◌, length, take, drop, Option, Some, None, refl, sym, ◌∙◌, ap, ap₂, subst, arith, add-one, below_more, length-append}
use Rattle.std.specs.Prelude.{slice_get, option_and_then, option_map, Result, Ok, Err, OnOk}
use Rattle.std.specs.Result.{is_err}
use Rattle.std.specs.Option.{option_or, option_map_or}
use Rattle.std.proofs.lemmas.Bool.{eq-eqb, eqb-true, cond_both, cond-true, cond-false, and_parts, and_right, true≢false}
use Rattle.std.proofs.lemmas.Option.{slice_get-map, slice_get_within, same_Some}
use Rattle.aero_model.specs.declared.numbered.Numbered.{Numbered}
use Rattle.aero_model.specs.declared.numbered.What.{What}
use Rattle.aero_model.specs.declared.numbered.What.TheVariants.{Read, Write, Acquire, Release, Fork, Join, Begin, End, Exempt}
use Rattle.aero_model.specs.declared.verdict.ShapeFault.{ShapeFault}
use Rattle.aero_model.specs.declared.verdict.ShapeFault.TheVariants.{Memory, TooManyThreads, TooManyNames, ThreadJoined, LockHeldByOther, LockNotHeld, ForkSelf, ForkStarted, JoinSelf, EndWithoutBegin}
use Rattle.aero_model.specs.Blocks.{depth, is_begin, is_end, by_thread, opens, closes, blocks, Block, transaction}
use Rattle.aero_model.specs.Cycle.{HasTellingCycle, IsOpener}
use Rattle.aero_grammar.specs.Words.{IsEvent}
use Rattle.aero_model.specs.Exempt.{label_of, Marked, read_events, ends_exempt, judged_what, judged as judged_event, judged_trace, marked, IsBare, IsJudgedWhat, IsJudgedAs}
use Rattle.aero_model.specs.Named.{Named, HasItsTarget}
use Rattle.aero_model.specs.Numbering.{Tables, tables_of, numbered}
use Rattle.aero_model.specs.Shape.{shape_fault, limit_fault, fault_at, IsLawful, IsWellFormed}
use Rattle.aero_model.specs.BlockCounts.{count_below, is_outer_begin, is_outer_end}
use Rattle.aero_model.proofs.Ends.{begin_in}
use Rattle.aero_model.proofs.Exempt.{judged_pushed, judged_length, judged_taken, judged_at, judged_well_formed, judged_fits}
use Rattle.aero_model.proofs.Depths.{opening_at}
use Rattle.aero_model.proofs.Places.{block_from}
use Rattle.aero_model.proofs.Stability.{depth_same, agree_front, blocks_same}
use Rattle.aero_model.proofs.Telling.{closing_front, opener_front, telling_back}
use Rattle.aero_model.proofs.WellFormed.{slice_get-take}
use Rattle.aero_shape.specs.declared.admission.Admitted.{Admitted}
use Rattle.aero_shape.specs.Admission.{admitted_as, TellsEvent}
use Rattle.aero_shape.specs.Standing as shapes
use Rattle.aero_shape.specs.States as states
use Rattle.aero_engine.specs.Judgement.{IsTold}
use Rattle.aero_engine.specs.Events.{event}
use Rattle.aero_engine.specs.Given.{begins_block, ends_block, Given, Words}
use Rattle.aero_engine.specs.Judging.{ComesAfter, IsAdmitted, Tells}
use Rattle.aero_engine.proofs.Judging.{begins_as, ends_as}
use Rattle.aero_verdict.specs.declared.checker.Checker.{Checker}
use Rattle.aero_verdict.specs.declared.numbering.Numbering.{Numbering}
use Rattle.aero_verdict.specs.declared.blocks.Blocks.{Blocks}
use Rattle.aero_verdict.specs.Begun.{begin_line, CountsBlock}
use Rattle.aero_verdict.specs.Standing.{names_of, trace_in, marked_in, judged_in, LastBegins, IsGiven, KeepsFirst, Counts, StandsFor, IsNext, Refuses, Judged}
use Rattle.aero_verdict.specs.Limited.{names_in, IsLimited, NumbersEvent, RefusesEvent}
use Rattle.aero_model.specs.Terms.{Rules}
use Rattle.aero_names.specs.Additions.{with_event, numbered_after}
use Rattle.aero_verdict.proofs.Givens.{keeps_more}
use Rattle.aero_verdict.proofs.Judged.{read_so_far}
use Rattle.aero_names.proofs.Fronts.{Extends, tables_pushed, tables_extended, numbered_kept}

-- the front of a list with its next element, and what comes after it
pub take_pushed : {A : Type 0} (xs : List A) (n : ℕ) (x : A) → slice_get xs n ≡ Some x → take (suc n) xs ≡ take n xs ++ x ∷ []
take_pushed [] n x at = absurd (cc)
take_pushed (y ∷ ys) zero x at = ap (λ z. z ∷ []) (same_Some y x at)
take_pushed (y ∷ ys) (suc n) x at = ap (λ zs. y ∷ zs) (take_pushed ys n x at)

pub front_and_rest : {A : Type 0} (xs : List A) (n : ℕ) → take n xs ++ drop n xs ≡ xs
front_and_rest xs zero = refl
front_and_rest [] (suc n) = refl
front_and_rest (x ∷ xs) (suc n) = ap (λ ys. x ∷ ys) (front_and_rest xs n)

and_true : (b : Bool) → (b && true) ≡ b
and_true true = refl
and_true false = refl

tells_fault : (before : List Marked) (m : Marked) (fault : ShapeFault) → TellsEvent before m (Err fault) → fault ≢ Memory → shape_fault (read_events before) m.event ≡ Some fault
tells_fault before m Memory tells not_memory = absurd (not_memory refl)
tells_fault before m TooManyThreads tells not_memory = tells
tells_fault before m TooManyNames tells not_memory = tells
tells_fault before m ThreadJoined tells not_memory = tells
tells_fault before m LockHeldByOther tells not_memory = tells
tells_fault before m LockNotHeld tells not_memory = tells
tells_fault before m ForkSelf tells not_memory = tells
tells_fault before m ForkStarted tells not_memory = tells
tells_fault before m JoinSelf tells not_memory = tells
tells_fault before m EndWithoutBegin tells not_memory = tells

opens_here : (w : What) (t d : ℕ) → (by_thread t is_begin (Some (event t w)) && (d == 0)) ≡ (is_begin w && (d == 0))
opens_here w t d = ap (λ b. (b && is_begin w) && (d == 0)) (eq-eqb t t refl)

closes_here : (w : What) (t d : ℕ) → (by_thread t is_end (Some (event t w)) && (d == 1)) ≡ (is_end w && (d == 1))
closes_here w t d = ap (λ b. (b && is_end w) && (d == 1)) (eq-eqb t t refl)

-- how an operation is judged
pub judged_as : (before : List Marked) (t : ℕ) (exempt : Bool) (w : What) → IsJudgedWhat w (judged_what before t exempt w)
judged_as before t true (Begin label) = tt
judged_as before t false (Begin label) = tt
judged_as before t exempt End = cond_both (ends_exempt before t) Exempt End IsBare (λ _. tt) (λ _. tt)
judged_as before t exempt Exempt = tt
judged_as before t exempt (Read x) = refl
judged_as before t exempt (Write x) = refl
judged_as before t exempt (Acquire l) = refl
judged_as before t exempt (Release l) = refl
judged_as before t exempt (Fork u) = refl
judged_as before t exempt (Join u) = refl

module _ {E : Type 0} (words : Words E) (rules : Rules) (events : List (ℕ × Named)) (checker : Checker E) (line : ℕ) (e : Named) (exempt : Bool) (has : HasItsTarget e.op e.target) (next : IsNext words rules checker events (line, e) exempt) where
  abbrev n : ℕ
  n = checker.shape.admitted

  abbrev names : Tables
  names = names_in checker.numbering

  abbrev named : List Named
  named = names_of events

  abbrev read : List Numbered
  read = trace_in events

  abbrev all : List Marked
  all = marked_in rules events

  -- the events as they are judged
  abbrev trace : List Numbered
  trace = judged_in rules events

  abbrev front : List Marked
  front = take n all

  abbrev x : Numbered
  x = numbered_after names e

  abbrev kept : Counts rules checker events
  kept = next.0.counts

  named_at : slice_get named n ≡ Some e
  named_at = slice_get-map (λ (p : ℕ × Named). p.1) events n ∙ ap (option_map (λ (p : ℕ × Named). p.1)) next.1

  tables_next : tables_of (take (suc n) named) ≡ with_event names e
  tables_next = ap tables_of (take_pushed named n e named_at) ∙ tables_pushed (take n named) e ∙ ap (λ t. with_event t e) (sym kept.names_are)

  extends : Extends (with_event names e) (tables_of named)
  extends =
      subst (λ t. Extends t (tables_of named)) tables_next
      (subst (λ es. Extends (tables_of (take (suc n) named)) (tables_of es)) (front_and_rest named (suc n)) (tables_extended (take (suc n) named) (drop (suc n) named)))

  x_at : slice_get read n ≡ Some x
  x_at =
      slice_get-map (numbered (tables_of named)) named n
      ∙ ap (option_map (numbered (tables_of named))) named_at
      ∙ ap Some (numbered_kept names (tables_of named) e has extends)

  fault_here : fault_at rules.limits read n ≡ option_or (limit_fault rules.limits x) (shape_fault (take n read) x)
  fault_here = ap (option_and_then (λ y. option_or (limit_fault rules.limits y) (shape_fault (take n read) y))) x_at

  pub refused_by_limit : (fault : ShapeFault) → RefusesEvent checker.numbering e fault → Refuses rules checker events fault
  refused_by_limit fault refuses = λ not_memory. fault_here ∙ ap (λ o. option_or o (shape_fault (take n read) x)) (refuses rules.limits kept.limited not_memory)

  -- the events so far, as they are read and as they are judged
  read_front : read_events front ≡ take n read
  read_front = read_so_far rules.labels named n

  judged_so_far : take n trace ≡ judged_trace front
  judged_so_far = judged_taken all n

  so_many : n ≡ length front
  so_many = kept.shape_stands.admitted

  as_many : length (take n trace) ≡ n
  as_many = ap length judged_so_far ∙ judged_length front ∙ sym so_many

  marked_at : slice_get all n ≡ Some (record { event = x; exempt = exempt })
  marked_at =
      slice_get-map (marked rules.labels (tables_of named)) named n
      ∙ ap (option_map (marked rules.labels (tables_of named))) named_at
      ∙ ap₂ (λ (y : Numbered) (b : Bool). Some (record { event = y; exempt = b })) (numbered_kept names (tables_of named) e has extends) (sym next.2)

  module _ (numbering : Numbering) (r : Numbered) (h : NumbersEvent checker.numbering numbering e r) where
    abbrev mark : Marked
    mark = record { event = r; exempt = exempt }

    -- the event as it is judged
    abbrev m : Numbered
    m = judged_event front mark

    no_limit : limit_fault rules.limits x ≡ None
    no_limit = ap (limit_fault rules.limits) (sym h.numbered_is) ∙ (h.within rules.limits kept.limited).1

    fault_by_shape : fault_at rules.limits read n ≡ shape_fault (read_events front) r
    fault_by_shape =
        fault_here ∙ ap (λ o. option_or o (shape_fault (take n read) x)) no_limit ∙ ap₂ shape_fault (sym read_front) (sym h.numbered_is)

    pub refused_by_shape : (fault : ShapeFault) → TellsEvent front mark (Err fault) → Refuses rules checker events fault
    refused_by_shape fault tells = λ not_memory. fault_by_shape ∙ tells_fault front mark fault tells not_memory

    mark_at : slice_get all n ≡ Some mark
    mark_at = marked_at ∙ ap (λ (y : Numbered). Some (record { event = y; exempt = exempt })) (sym h.numbered_is)

    m_at : slice_get trace n ≡ Some m
    m_at = judged_at all n ∙ ap (option_map (judged_event front)) mark_at

    depth_here : depth trace m.thread n ≡ depth (take n trace) m.thread (length (take n trace))
    depth_here =
        sym (depth_same (take n trace) trace m.thread n (record { same = λ i less. slice_get-take trace n i less }))
        ∙ ap (depth (take n trace) m.thread) (sym as_many)

    abbrev deep : ℕ
    deep = depth (take n trace) m.thread (length (take n trace))

    begins_here : is_outer_begin trace n ≡ begins_block (admitted_as (take n trace) m)
    begins_here =
        ap (λ o. option_map_or (λ y. opens trace y.thread n) o false) m_at
        ∙ ap₂ (λ o d. by_thread m.thread is_begin o && (d == 0)) m_at depth_here
        ∙ opens_here m.what m.thread deep
        ∙ sym (begins_as (take n trace) deep m.what)

    ends_here : is_outer_end trace n ≡ ends_block (admitted_as (take n trace) m)
    ends_here =
        ap (λ o. option_map_or (λ y. closes trace y.thread n) o false) m_at
        ∙ ap₂ (λ o d. by_thread m.thread is_end o && (d == 1)) m_at depth_here
        ∙ closes_here m.what m.thread deep
        ∙ sym (ends_as (take n trace) deep m.what)

    module _ (admitted : Admitted) (tells : TellsEvent front mark (Ok admitted)) (shape : states.Tables) (stands : shapes.StandsFor shape (front ++ mark ∷ [])) where
      pub count_next : shape.admitted ≡ n + 1
      count_next = let old = kept.shape_stands.admitted in let new = stands.admitted in omega (arith, old, new, length-append front (mark ∷ []))

      -- what it is admitted as
      kind : admitted ≡ admitted_as (take n trace) m
      kind = tells.1 ∙ ap (λ es. admitted_as es m) (sym judged_so_far)

      opens_is : (t : ℕ) → opens trace t n ≡ (begins_block admitted && (m.thread == t))
      opens_is t =
          ap₂ (λ o d. by_thread t is_begin o && (d == 0)) m_at refl
          ∙ opens_by t (m.thread == t) refl
        where
          opens_by : (t : ℕ) (b : Bool) → (m.thread == t) ≡ b → (((m.thread == t) && is_begin m.what) && (depth trace t n == 0)) ≡ (begins_block admitted && (m.thread == t))
          opens_by t true same =
              let one : m.thread ≡ t = eqb-true m.thread t same in
              ap (λ b. (b && is_begin m.what) && (depth trace t n == 0)) same
              ∙ ap (λ d. is_begin m.what && (d == 0)) (ap (λ u. depth trace u n) (sym one) ∙ depth_here)
              ∙ sym (begins_as (take n trace) deep m.what)
              ∙ ap begins_block (sym kind)
              ∙ sym (and_true (begins_block admitted))
              ∙ ap (λ b. begins_block admitted && b) (sym same)
          opens_by t false other =
              ap (λ b. (b && is_begin m.what) && (depth trace t n == 0)) other ∙ sym (and_right (begins_block admitted) (m.thread == t) other)

      module _ (counted : Blocks) (counts : CountsBlock checker.blocks counted admitted m.thread line) where
        begins_inside : (t : ℕ) → opens trace t n ≡ true → transaction trace n ≡ Block t (blocks trace t (suc n))
        begins_inside t here = block_from trace n t (blocks trace t (suc n)) (begin_in trace t n (opening_at trace t n here))

        -- the begin of a block, and the latest of each other thread
        begins_on : (t : ℕ) → 0 < blocks trace t (suc n) → LastBegins rules events (suc n) t (begin_line counted t)
        begins_on t some = go (opens trace t n) refl
          where
            go : (b : Bool) → opens trace t n ≡ b → LastBegins rules events (suc n) t (begin_line counted t)
            go true here =
                let by_it = and_parts (begins_block admitted) (m.thread == t) (sym (opens_is t) ∙ here) in
                let one : m.thread ≡ t = eqb-true m.thread t by_it.1 in
                let opening = begins_inside t here in
                let told : begin_line counted t ≡ line = counts.begin_line t ∙ cond-true (begins_block admitted && (m.thread == t)) line (begin_line checker.blocks t) (sym (opens_is t) ∙ here) in
                record {
                  place = n;
                  before = omega arith;
                  outermost = here;
                  block = opening;
                  line_of = ap (option_map (λ (p : ℕ × Named). p.0)) next.1 ∙ ap Some (sym told);
                }
            go false other =
                let same : blocks trace t (suc n) ≡ blocks trace t n = cond-false (opens trace t n) (blocks trace t n + 1) (blocks trace t n) other in
                let told : begin_line counted t ≡ begin_line checker.blocks t = counts.begin_line t ∙ cond-false (begins_block admitted && (m.thread == t)) line (begin_line checker.blocks t) (sym (opens_is t) ∙ other) in
                let old = kept.lines_are t (omega (arith, some, same)) in
                record {
                  place = old.place;
                  before = omega (arith, old.before);
                  outermost = old.outermost;
                  block = old.block ∙ ap (Block t) (sym same);
                  line_of = old.line_of ∙ ap Some (sym told);
                }

        pub counts_next : (new : Checker E) → new.ends ≡ checker.ends → new.numbering ≡ numbering → new.shape ≡ shape → new.blocks ≡ counted → Counts rules new events
        counts_next new same_ends same_numbering same_shape same_blocks =
            let count : new.shape.admitted ≡ suc n = ap (λ (s : states.Tables). s.admitted) same_shape ∙ count_next ∙ add-one n in
            record {
              ends = same_ends ∙ kept.ends;
              limited = subst (IsLimited rules.limits) (sym same_numbering) (h.within rules.limits kept.limited).0;
              names_are = ap names_in same_numbering ∙ h.names_are ∙ sym tables_next ∙ ap (λ k. tables_of (take k named)) (sym count);
              shape_stands = subst (λ s. shapes.StandsFor s (take new.shape.admitted all)) (sym same_shape) (subst (shapes.StandsFor shape) (sym (take_pushed all n mark mark_at) ∙ ap (λ k. take k all) (sym count)) stands);
              begun_are =
                  ap (λ (b : Blocks). b.begun) same_blocks
                  ∙ counts.begun
                  ∙ ap₂ (λ o b. if o then b + 1 else b) (ap begins_block kind ∙ sym begins_here) kept.begun_are
                  ∙ ap (count_below (is_outer_begin trace)) (sym count);
              ended_are =
                  ap (λ (b : Blocks). b.ended) same_blocks
                  ∙ counts.ended
                  ∙ ap₂ (λ o b. if o then b + 1 else b) (ap ends_block kind ∙ sym ends_here) kept.ended_are
                  ∙ ap (count_below (is_outer_end trace)) (sym count);
              lines_are = λ t.
                  subst (λ (b : Blocks). 0 < blocks trace t new.shape.admitted → LastBegins rules events new.shape.admitted t (begin_line b t)) (sym same_blocks)
                  (subst (λ k. 0 < blocks trace t k → LastBegins rules events k t (begin_line counted t)) (sym count) (begins_on t));
              lawful = subst (IsLawful rules.limits read) (sym (count ∙ sym (add-one n))) (below_more (λ i. fault_at rules.limits read i ≡ None) n kept.lawful (fault_by_shape ∙ tells.0));
            }

      -- the event comes after those for which the engine stands
      pub comes_after : ComesAfter (words.stands checker.engine) (take n trace) m admitted
      comes_after =
          record {
            standing = next.0.engine_stands;
            well_formed =
                subst IsWellFormed (judged_pushed front mark ∙ ap (λ es. es ++ m ∷ []) (sym judged_so_far))
                (judged_well_formed (front ++ mark ∷ []) stands.well_formed);
            in_shape = subst (λ es. shape_fault es m ≡ None) (sym judged_so_far) (judged_fits front mark tells.0);
            kind = kind;
          }

      pub is_judged_as : IsJudgedAs r m
      is_judged_as = record { thread = refl; what = judged_as front r.thread exempt r.what }

      pub short_enough : length events < 2 ^ 32 → IsAdmitted (words.stands checker.engine) r admitted
      short_enough short =
          let within = slice_get_within events n (line, e) next.1 in
          (take n trace, m, is_judged_as, omega (arith, within, as_many, short), comes_after)

      taken : take (suc n) trace ≡ take n trace ++ m ∷ []
      taken = take_pushed trace n m m_at

      whole : (take n trace ++ m ∷ []) ++ drop (suc n) trace ≡ trace
      whole = ap (λ es. es ++ drop (suc n) trace) (sym taken) ∙ front_and_rest trace (suc n)

      -- what is told of the first events is so of the whole
      pub told_whole : (t : ℕ) → IsTold (take n trace ++ m ∷ []) (length (take n trace)) (Some t) → IsTold trace n (Some t)
      told_whole t told =
          let many : length (take n trace) ≡ n = as_many in
          let longer = length-append (take n trace) (m ∷ []) in
          let there : IsTold (take n trace ++ m ∷ []) n (Some t) = subst (λ k. IsTold (take n trace ++ m ∷ []) k (Some t)) many told in
          let agree = agree_front (suc n) (take n trace ++ m ∷ []) (drop (suc n) trace) (omega (arith, many, longer)) in
          let number : blocks (take n trace ++ m ∷ []) t n ≡ blocks ((take n trace ++ m ∷ []) ++ drop (suc n) trace) t n =
          blocks_same (suc n) (take n trace ++ m ∷ []) ((take n trace ++ m ∷ []) ++ drop (suc n) trace) agree t n (omega arith) in
          subst (λ es. IsTold es n (Some t)) whole (
            closing_front (take n trace ++ m ∷ []) (drop (suc n) trace) n (omega (arith, many, longer)) there.0,
            subst (IsOpener ((take n trace ++ m ∷ []) ++ drop (suc n) trace) (suc n) t) number
                (opener_front (take n trace ++ m ∷ []) (drop (suc n) trace) (suc n) t (blocks (take n trace ++ m ∷ []) t n) (omega (arith, many, longer)) there.1),
          )

      untold_whole : ¬ HasTellingCycle (take n trace ++ m ∷ []) (suc (length (take n trace))) → ¬ HasTellingCycle trace (suc n)
      untold_whole none = λ cycle.
          let many : length (take n trace) ≡ n = as_many in
          let longer = length-append (take n trace) (m ∷ []) in
          let front : HasTellingCycle ((take n trace ++ m ∷ []) ++ drop (suc n) trace) (suc n) = subst (λ es. HasTellingCycle es (suc n)) (sym whole) cycle in
          none (subst (λ k. HasTellingCycle (take n trace ++ m ∷ []) (suc k)) (sym many) (telling_back (take n trace ++ m ∷ []) (drop (suc n) trace) (suc n) (omega (arith, many, longer)) front))

      -- it is what the engine is given, who keeps it with those before
      abbrev given : Given
      given = record { line = line; event = r; admitted = admitted; label = label_of e.op e.target }

      is_given : IsEvent e → IsGiven rules events n given
      is_given named = record {
        line_is = ap (option_map (λ (p : ℕ × Named). p.0)) next.1;
        event_is = x_at ∙ ap Some (sym h.numbered_is);
        label_is = ap (option_map (λ (p : ℕ × Named). label_of p.1.op p.1.target)) next.1;
        named = λ other at. subst (λ (p : ℕ × Named). IsEvent p.1) (same_Some (line, e) other (sym next.1 ∙ at)) named;
        admitted_is = ap (option_map (admitted_as (take n trace))) m_at ∙ ap Some (sym kind);
      }

      keeps_next : IsEvent e → (engine : E) → ((gs : List Given) → words.keeps checker.engine gs → words.keeps engine (gs ++ given ∷ [])) → KeepsFirst words.keeps rules events (suc n) engine
      keeps_next named engine kept_on = keeps_more rules events words.keeps n checker.engine engine given next.0.engine_keeps (is_given named) kept_on

      pub judged : IsEvent e → (counted : Blocks) → CountsBlock checker.blocks counted admitted m.thread line → (told : Option ℕ) → (new : Checker E) → new.ends ≡ checker.ends → new.numbering ≡ numbering → new.shape ≡ shape → new.blocks ≡ counted →
          Tells (words.stands new.engine) (take n trace ++ m ∷ []) (length (take n trace)) told →
          ((gs : List Given) → words.keeps checker.engine gs → words.keeps new.engine (gs ++ given ∷ [])) → Judged words rules new events n told
      judged named counted counts None new same_ends same_numbering same_shape same_blocks tells_new kept_on =
          let count : new.shape.admitted ≡ suc n = ap (λ (s : states.Tables). s.admitted) same_shape ∙ count_next ∙ add-one n in
          record {
            counts = counts_next counted counts new same_ends same_numbering same_shape same_blocks;
            untold = subst (λ k. ¬ HasTellingCycle trace k) (sym count) (untold_whole tells_new.told);
            engine_stands = subst (words.stands new.engine) (sym taken ∙ ap (λ k. take k trace) (sym count)) (tells_new.stands refl);
            engine_keeps = subst (λ k. KeepsFirst words.keeps rules events k new.engine) (sym count) (keeps_next named new.engine kept_on);
          }
      judged named counted counts (Some t) new same_ends same_numbering same_shape same_blocks tells_new kept_on =
          (counts_next counted counts new same_ends same_numbering same_shape same_blocks, told_whole t tells_new.told, keeps_next named new.engine kept_on)

count_below_most : (test : ℕ → Bool) (n : ℕ) → count_below test n ≤ n
count_below_most test zero = omega arith
count_below_most test (suc n) =
    let before = count_below_most test n in
    cond_both (test n) (count_below test n + 1) (count_below test n) (λ k. k ≤ suc n) (λ e. omega arith) (λ e. omega arith)

-- numbers that fit, where the list is short
pub few_events : {E : Type 0} (words : Words E) (rules : Rules) (events : List (ℕ × Named)) (checker : Checker E) (e : ℕ × Named) (exempt : Bool) → IsNext words rules checker events e exempt → length events < 2 ^ 32 → checker.shape.admitted + 1 < 2 ^ 32
few_events words rules events checker e exempt next short = let within = slice_get_within events checker.shape.admitted e next.1 in omega arith

pub few_begun : {E : Type 0} (words : Words E) (rules : Rules) (events : List (ℕ × Named)) (checker : Checker E) → StandsFor words rules checker events → checker.blocks.begun ≤ checker.shape.admitted
few_begun words rules events checker stands = let most = count_below_most (is_outer_begin (judged_in rules events)) checker.shape.admitted in omega (arith, stands.counts.begun_are, most)

pub few_ended : {E : Type 0} (words : Words E) (rules : Rules) (events : List (ℕ × Named)) (checker : Checker E) → StandsFor words rules checker events → checker.blocks.ended ≤ checker.shape.admitted
few_ended words rules events checker stands = let most = count_below_most (is_outer_end (judged_in rules events)) checker.shape.admitted in omega (arith, stands.counts.ended_are, most)

-- what holds where there is a value
pub on_ok_here : {T E : Type 0} (r : Result T E) (P : Type 0) → is_err r ≡ false → OnOk r P → P
on_ok_here (Ok x) P some p = p
on_ok_here (Err e) P some p = absurd (true≢false some)

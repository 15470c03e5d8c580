-- What says the same has the same verdicts, serial orders, telling cycles and open blocks.
use Rattle.std.proofs.Common.{◌≡◌, ◌≢◌, ℕ, suc, ◌+◌, true, List, [], ◌∷◌, Option, Some, None, refl, sym, ◌∙◌, ap, subst, arith}
use Rattle.std.proofs.lemmas.List.{append-nil}
use Rattle.std.specs.Prelude.{◌≤◌, map, option_map, slice_get, length, take}
use Rattle.aero_model.specs.declared.numbered.Numbered.{Numbered}
use Rattle.aero_model.specs.declared.verdict.LineFault.{LineFault}
use Rattle.aero_model.specs.declared.verdict.ShapeFault.{ShapeFault}
use Rattle.aero_model.specs.declared.verdict.Cycle.{Cycle}
use Rattle.aero_model.specs.declared.verdict.CycleStep.{CycleStep}
use Rattle.aero_model.specs.declared.verdict.CycleTransaction.{CycleTransaction}
use Rattle.aero_model.specs.declared.verdict.Extent.{Extent}
use Rattle.aero_model.specs.declared.verdict.Extent.TheVariants as extents
use Rattle.aero_model.specs.declared.verdict.OpenBlock.{OpenBlock}
use Rattle.aero_model.specs.declared.verdict.Step.{Step}
use Rattle.aero_model.specs.declared.verdict.Verdict.{Verdict}
use Rattle.aero_model.specs.declared.verdict.Verdict.TheVariants.{Serializable, Pending, Violation, Malformed, IllFormed}
use Rattle.aero_model.specs.Blocks.{Block, Unary, opens, transaction, HasEnded}
use Rattle.aero_model.specs.Cycle.{HasTellingCycle, IsClosing, IsOpener}
use Rattle.aero_model.specs.Exempt.{judged_trace, marked_trace}
use Rattle.aero_model.specs.Graph.{Visit, IsTelling}
use Rattle.aero_model.specs.Named.{Named}
use Rattle.aero_model.specs.Numbering.{tables_of, trace_of}
use Rattle.aero_model.specs.Serial.{IsSerialOrder}
use Rattle.aero_model.specs.Shape.{IsLawful, fault_at}
use Rattle.aero_model.specs.BlockCounts.{block_count, open_count}
use Rattle.aero_grammar.specs.Reading.{Reading, whole_reading}
use Rattle.aero_judge.proofs.Zipped.{zip_as}
use Rattle.aero_verdict.specs.Explained.{round_places, IsFirstOf, IsLastOf, IsEnd, IsExtent, IsCycleStep, IsCycleTransaction, IsExplained, IsCycleOf}
use Rattle.aero_judge.specs.Opened.{AreOpenings, IsOpenBlock, AreOpenBlocks}
use Rattle.aero_verdict.specs.Ordered.{step_at, AreStepsInOrder}
use Rattle.aero_verdict.specs.Verdict.{counted_events, faulty_line, IsVerdict, IsViolation, IsIllFormed, IsMalformed, IsFaultless, IsClean, BeginsOnLine}
use Rattle.aero_model.specs.Terms.{Rules}

-- one part alone
pub one_read : (r : Reading) → whole_reading (r ∷ []) ≡ r
one_read r = go r.events r.lines r.fault
  where
    go : (events : List (ℕ × Named)) (lines : ℕ) (fault : Option (ℕ × LineFault)) →
        whole_reading (record { events = events; lines = lines; fault = fault } ∷ []) ≡ record { events = events; lines = lines; fault = fault }
    go events lines None =
        let none : lines + 0 ≡ lines = omega arith in
        ap (λ es. record { events = es; lines = lines + 0; fault = None }) (append-nil events)
        ∙ ap (λ n. record { events = events; lines = n; fault = None }) none
    go events lines (Some f) = refl

-- a verdict, the serial order and the events of a cycle speak of parts through the events that count and the malformed line
module _ (rules : Rules) (parts others : List Reading)
    (same : counted_events parts rules ≡ counted_events others rules) (same_fault : faulty_line parts rules ≡ faulty_line others rules) where
  abbrev counted : List Reading → List (ℕ × Named)
  counted rs = counted_events rs rules

  abbrev named : List (ℕ × Named) → List Named
  named es = map (λ e. e.1) es

  abbrev read : List (ℕ × Named) → List Numbered
  read es = trace_of (named es)

  abbrev trace : List (ℕ × Named) → List Numbered
  trace es = judged_trace (marked_trace rules.labels (named es))

  on_line : (n line : ℕ) → option_map (λ e. e.0) (slice_get (counted parts) n) ≡ Some line → option_map (λ e. e.0) (slice_get (counted others) n) ≡ Some line
  on_line n line is = subst (λ es. option_map (λ e. e.0) (slice_get es n) ≡ Some line) same is

  lawful : (n : ℕ) → IsLawful rules.limits (read (counted parts)) n → IsLawful rules.limits (read (counted others)) n
  lawful n is = subst (λ es. IsLawful rules.limits (read es) n) same is

  clean : (n : ℕ) → IsClean parts rules n → IsClean others rules n
  clean n is = record {
    lawful = lawful n is.lawful;
    no_cycle = subst (λ es. ¬ HasTellingCycle (trace es) n) same is.no_cycle;
  }

  clean_all : IsClean parts rules (length (trace (counted parts))) → IsClean others rules (length (trace (counted others)))
  clean_all is = subst (λ es. IsClean others rules (length (trace es))) same (clean _ is)

  begins : (t number line : ℕ) → BeginsOnLine parts rules t number line → BeginsOnLine others rules t number line
  begins t number line is = record {
    place = is.place;
    outermost = subst (λ es. opens (trace es) t is.place ≡ true) same is.outermost;
    block = subst (λ es. transaction (trace es) is.place ≡ Block t number) same is.block;
    line_of = on_line is.place line is.line_of;
  }

  violation : (line : ℕ) (thread : List ℕ) (begun : ℕ) → IsViolation parts rules line thread begun → IsViolation others rules line thread begun
  violation line thread begun is = record {
    place = is.place;
    lawful = lawful (suc is.place) is.lawful;
    closing = subst (λ es. IsClosing (trace es) is.place) same is.closing;
    line_of = on_line is.place line is.line_of;
    t = is.t;
    number = is.number;
    opener = subst (λ es. IsOpener (trace es) (suc is.place) is.t is.number) same is.opener;
    name = subst (λ es. slice_get (tables_of (named es)).threads is.t ≡ Some thread) same is.name;
    begins = begins is.t is.number begun is.begins;
  }

  ill_formed : (line : ℕ) (fault : ShapeFault) → IsIllFormed parts rules line fault → IsIllFormed others rules line fault
  ill_formed line fault is = record {
    place = is.place;
    clean = clean is.place is.clean;
    cause = subst (λ es. fault_at rules.limits (read es) is.place ≡ Some fault) same is.cause;
    line_of = on_line is.place line is.line_of;
  }

  malformed : (line : ℕ) (fault : LineFault) → IsMalformed parts rules line fault → IsMalformed others rules line fault
  malformed line fault is = record {
    clean = clean_all is.clean;
    cause = sym same_fault ∙ is.cause;
  }

  faultless : (events blocks pending : ℕ) → IsFaultless parts rules events blocks pending → IsFaultless others rules events blocks pending
  faultless events blocks pending is = record {
    clean = clean_all is.clean;
    no_fault = sym same_fault ∙ is.no_fault;
    events_are = subst (λ es. events ≡ length (trace es)) same is.events_are;
    blocks_are = subst (λ es. blocks ≡ block_count (trace es)) same is.blocks_are;
    open_are = subst (λ es. pending ≡ open_count (trace es)) same is.open_are;
  }

  pub same_verdict : (verdict : Verdict) → IsVerdict parts rules verdict → IsVerdict others rules verdict
  same_verdict (Serializable events blocks) is = faultless events blocks 0 is
  same_verdict (Pending events blocks pending) is = (is.0, faultless events blocks pending is.1)
  same_verdict (Violation line thread begun) is = violation line thread begun is
  same_verdict (Malformed line fault) is = malformed line fault is
  same_verdict (IllFormed line fault) is = ill_formed line fault is

  pub same_order : (steps : List Step) → AreStepsInOrder parts rules steps → AreStepsInOrder others rules steps
  same_order steps is = (
    is.0,
    subst (λ es. IsSerialOrder (trace es) is.0) same is.1,
    subst (λ es. steps ≡ map (step_at es) is.0) same is.2,
  )

  cycle_step : (place : ℕ) (step : CycleStep) → IsCycleStep parts rules place step → IsCycleStep others rules place step
  cycle_step place step is = record {
    line = on_line place step.line is.line;
    event = subst (λ es. option_map (λ e. e.1) (slice_get es place) ≡ Some step.event) same is.event;
    first = is.first;
    is_first = subst (λ es. IsFirstOf (trace es) place is.first) same is.is_first;
    first_line = on_line is.first step.first is.first_line;
  }

  end_same : (n first : ℕ) (end : Option ℕ) → IsEnd parts rules n first end → IsEnd others rules n first end
  end_same n first None is = subst (λ es. ¬ HasEnded (trace es) n (transaction (trace es) first)) same is
  end_same n first (Some line) (ended, (last, is, on)) =
      (subst (λ es. HasEnded (trace es) n (transaction (trace es) first)) same ended, (last, subst (λ es. IsLastOf (trace es) n first last) same is, on_line last line on))

  extent_same : (n first : ℕ) (extent : Extent) → IsExtent parts rules n first extent → IsExtent others rules n first extent
  extent_same n first extents.Alone is = subst (λ es. transaction (trace es) first ≡ Unary first) same is
  extent_same n first (extents.Block label end) (block, labelled, ends) = (
    subst (λ es. transaction (trace es) first ≢ Unary first) same block,
    subst (λ es. option_map (λ e. e.1.target) (slice_get es first) ≡ Some label) same labelled,
    end_same n first end ends,
  )

  transaction_same : (n : ℕ) (v : Visit) (t : CycleTransaction) → IsCycleTransaction parts rules n v t → IsCycleTransaction others rules n v t
  transaction_same n v t is = record {
    first = is.first;
    is_first = subst (λ es. IsFirstOf (trace es) v.enters is.first) same is.is_first;
    first_line = on_line is.first t.first is.first_line;
    thread = subst (λ es. option_map (λ e. e.1.thread) (slice_get es is.first) ≡ Some t.thread) same is.thread;
    extent = extent_same n is.first t.extent is.extent;
  }

  explained : (line : ℕ) (thread : List ℕ) (begun : ℕ) (cycle : Cycle) → IsExplained parts rules line thread begun cycle →
      IsExplained others rules line thread begun cycle
  unfolding violation begins
  explained line thread begun cycle is =
      let v = is.violation in
      record {
        violation = violation line thread begun v;
        label = subst (λ es. option_map (λ e. e.1.target) (slice_get es v.begins.place) ≡ Some cycle.label) same is.label;
        first = is.first;
        rest = is.rest;
        telling = subst (λ es. IsTelling (trace es) (suc v.place) is.first is.rest) same is.telling;
        begins = subst (λ es. transaction (trace es) is.first.enters ≡ Block v.t v.number) same is.begins;
        fewest = subst (λ es. (other : Visit) (more : List Visit) → IsTelling (trace es) (suc v.place) other more →
            transaction (trace es) other.enters ≡ Block v.t v.number → length is.rest ≤ length more) same is.fewest;
        steps_are = zip_as (IsCycleStep parts rules) (IsCycleStep others rules) cycle_step (round_places is.first is.rest) cycle.steps.items is.steps_are;
        transactions_are = zip_as (IsCycleTransaction parts rules (suc v.place)) (IsCycleTransaction others rules (suc v.place)) (transaction_same (suc v.place)) (is.first ∷ is.rest) cycle.transactions.items is.transactions_are;
        closing_is = subst (λ es. option_map (λ e. e.1) (slice_get es v.place) ≡ Some cycle.closing) same is.closing_is;
      }

  pub same_cycle : (verdict : Verdict) (cycle : Cycle) → IsCycleOf parts rules verdict cycle → IsCycleOf others rules verdict cycle
  same_cycle (Serializable events blocks) cycle is = absurd is
  same_cycle (Pending events blocks pending) cycle is = absurd is
  same_cycle (Violation line thread begun) cycle is = explained line thread begun cycle is
  same_cycle (Malformed line fault) cycle is = absurd is
  same_cycle (IllFormed line fault) cycle is = absurd is

  open_block : (place : ℕ) (block : OpenBlock) → IsOpenBlock parts rules place block → IsOpenBlock others rules place block
  open_block place block is = record {
    line = on_line place block.line is.line;
    thread = subst (λ es. option_map (λ e. e.1.thread) (slice_get es place) ≡ Some block.thread) same is.thread;
    label = subst (λ es. option_map (λ e. e.1.target) (slice_get es place) ≡ Some block.label) same is.label;
  }

  pub same_blocks : (blocks : List OpenBlock) → AreOpenBlocks parts rules blocks → AreOpenBlocks others rules blocks
  same_blocks blocks is = record {
    places = is.places;
    are = subst (λ es. AreOpenings (trace es) is.places) same is.are;
    told = zip_as (IsOpenBlock parts rules) (IsOpenBlock others rules) open_block (take 64 is.places) blocks is.told;
  }

-- Where blocks that are open end, the trace leaves none open, and no cycle is hidden by one.
use Rattle.std.proofs.Common.{◌≡◌, ℕ, zero, suc, ◌+◌, nat_lt, not, Bool, true, false, if◌then◌else◌, List, [], length, map, Some, None, inl, inr, refl, sym, ◌∙◌, ap, subst, arith}
use Rattle.std.specs.Prelude.{slice_get, is_some}
use Rattle.std.proofs.lemmas.Bool.{cases_lt, cond-true, cond-false}
use Rattle.std.proofs.lemmas.List.{take_all}
use Rattle.aero_model.specs.declared.numbered.Numbered.{Numbered}
use Rattle.aero_model.specs.declared.verdict.Verdict.{Verdict}
use Rattle.aero_model.specs.declared.verdict.Verdict.TheVariants.{Serializable, Pending, Violation, Malformed, IllFormed}
use Rattle.aero_model.specs.BlockCounts.{count_below, open_count}
use Rattle.aero_model.specs.Blocks.{depth}
use Rattle.aero_model.specs.Cycle.{HasTellingCycle, IsSerializable}
use Rattle.aero_model.specs.Ended.{all_ended, ended_after, open_of, without_lines}
use Rattle.aero_model.specs.Exempt.{Marked, is_latest_exempt, judged_trace, marked_trace}
use Rattle.aero_model.specs.Named.{Named}
use Rattle.aero_model.specs.Numbering.{tables_of, trace_of}
use Rattle.aero_model.specs.Shape.{IsWellFormed}
use Rattle.aero_model.specs.Terms.{Rules}
use Rattle.aero_model.proofs.Ended.{ended_acyclic, none_open}
use Rattle.aero_model.proofs.Ends.{begun, begin_in}
use Rattle.aero_model.proofs.Exempt.{judged_depth, judged_length}
use Rattle.aero_model.proofs.Lawful.{lawful_well_formed}
use Rattle.aero_model.proofs.OpenCount.{open_threads}
use Rattle.aero_grammar.specs.Reading.{Reading, whole_reading}
use Rattle.aero_verdict.specs.Laws.{HidesNothing, without_ends}
use Rattle.aero_verdict.specs.Verdict.{IsClean, IsVerdict, checked_trace, counted_events, events_of, faulty_line, own_events, read_trace}
use Rattle.aero_verdict.proofs.Chunks.{open_by_number}
use Rattle.aero_verdict.proofs.Readings.{read_length, trace_length}
use Rattle.aero_verdict.proofs.SomeVerdict.{above, name_at}

none_below : (test : ℕ → Bool) (m : ℕ) → ((u : ℕ) → test u ≡ false) → count_below test m ≡ 0
none_below test zero none = refl
none_below test (suc m) none = cond-false (test m) (count_below test m + 1) (count_below test m) (none m) ∙ none_below test m none

module _ (parts : List Reading) (rules : Rules) (ends : rules.end ≡ true) (no_fault : faulty_line parts rules ≡ None) where
  abbrev own : List (ℕ × Named)
  own = own_events parts rules

  abbrev after_last : ℕ
  after_last = suc (whole_reading parts).lines

  abbrev trace : List Numbered
  trace = checked_trace parts rules

  abbrev named : List Named
  named = events_of parts rules

  abbrev all : List Marked
  all = marked_trace rules.labels named

  counted_are : counted_events parts rules ≡ all_ended own after_last
  counted_are =
      cond-true rules.end (if is_some (faulty_line parts rules) then ended_after [] own else all_ended own after_last) own ends
      ∙ cond-false (is_some (faulty_line parts rules)) (ended_after [] own) (all_ended own after_last) (ap is_some no_fault)

  named_are : named ≡ without_lines (all_ended own after_last)
  named_are = ap (λ es. map (λ e. e.1) es) counted_are

  none_of : (t : ℕ) (name : List ℕ) → slice_get (tables_of named).threads t ≡ Some name → depth trace t (length trace) ≡ 0
  none_of t name at =
      ap (depth trace t) (judged_length all)
      ∙ judged_depth all t
      ∙ ap (count_below (λ k. not (is_latest_exempt all t k (length all))))
      (open_by_number rules.labels named (tables_of named).threads refl t name at ∙ ap (λ es. open_of es name) named_are ∙ none_open own after_last name)

  none_deep : (t : ℕ) → depth trace t (length trace) ≡ 0
  none_deep t = elim (cases_lt 0 (depth trace t (length trace))) [
    | inr shut ↦ omega (arith, shut)
    | inl deep ↦
        let b = begun trace t (length trace) deep in
        let inside = begin_in trace t b.place b.opening in
        let name = name_at parts rules b.place inside.event inside.event_at in
        none_of t name.0 (subst (λ u. slice_get (tables_of named).threads u ≡ Some name.0) inside.thread name.1)
  ]

  pub none_left_open : open_count trace ≡ 0
  none_left_open =
      let most = above trace in
      open_threads trace most.0 most.1 ∙ none_below (λ u. nat_lt 0 (depth trace u (length trace))) most.0 (λ u. ap (nat_lt 0) (none_deep u))

  pub acyclic_without : IsClean parts rules (length trace) → IsSerializable (checked_trace parts (without_ends rules)) (length (checked_trace parts (without_ends rules)))
  acyclic_without clean =
      let read = read_trace parts rules in
      let well : IsWellFormed read = subst IsWellFormed (take_all (length trace) read (omega (arith, read_length rules parts))) (lawful_well_formed rules.limits read (length trace) clean.lawful) in
      let well_ended : IsWellFormed (trace_of (without_lines (all_ended own after_last))) = subst (λ es. IsWellFormed (trace_of es)) named_are well in
      let none : ¬ HasTellingCycle trace (length (counted_events parts rules)) = subst (λ n. ¬ HasTellingCycle trace n) (trace_length rules parts) clean.no_cycle in
      let none_ended : ¬ HasTellingCycle (judged_trace (marked_trace rules.labels (without_lines (all_ended own after_last)))) (length (all_ended own after_last)) =
      subst (λ es. ¬ HasTellingCycle (judged_trace (marked_trace rules.labels (without_lines es))) (length es)) counted_are none in
      subst (λ n. IsSerializable (checked_trace parts (without_ends rules)) n) (sym (trace_length (without_ends rules) parts)) (ended_acyclic rules.labels own after_last well_ended none_ended)

pub hides_nothing : (parts : List Reading) (rules : Rules) (verdict : Verdict) → rules.end ≡ true → IsVerdict parts rules verdict → HidesNothing parts rules verdict
hides_nothing parts rules (Serializable events blocks) ends v = acyclic_without parts rules ends v.no_fault v.clean
hides_nothing parts rules (Pending events blocks pending) ends v = omega (arith, v.0, v.1.open_are, none_left_open parts rules ends v.1.no_fault)
hides_nothing parts rules (Violation line thread begun) ends v = tt
hides_nothing parts rules (Malformed line fault) ends v = tt
hides_nothing parts rules (IllFormed line fault) ends v = tt

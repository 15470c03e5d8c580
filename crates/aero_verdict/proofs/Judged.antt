-- The front of a trace, as it is read and as it is judged.
use Rattle.std.proofs.Common.{◌≡◌, ℕ, List, take, sym, ◌∙◌, ap, subst}
use Rattle.aero_model.specs.Exempt.{Listed, Marked, read_events, judged_trace, marked_trace}
use Rattle.aero_model.specs.Named.{Named}
use Rattle.aero_model.specs.Numbering.{trace_of}
use Rattle.aero_model.specs.Shape.{IsWellFormed}
use Rattle.aero_model.proofs.Exempt.{judged_taken, judged_well_formed, read_taken, read_marked}

module _ (labels : Listed) (events : List Named) (n : ℕ) where
  abbrev all : List Marked
  all = marked_trace labels events

  pub read_so_far : read_events (take n all) ≡ take n (trace_of events)
  read_so_far = sym (read_taken all n) ∙ ap (take n) (read_marked labels events)

  -- what is well-formed as it is read is so as it is judged
  pub judged_well : IsWellFormed (take n (trace_of events)) → IsWellFormed (take n (judged_trace all))
  judged_well well = subst IsWellFormed (sym (judged_taken all n)) (judged_well_formed (take n all) (subst IsWellFormed (sym read_so_far) well))

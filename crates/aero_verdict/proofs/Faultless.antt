-- What a verdict says where nothing is wrong.
use Rattle.std.proofs.Common.{◌≡◌, refl, ℕ, true, List, length, sym, ap, subst, arith}
use Rattle.std.proofs.lemmas.List.{take_all}
use Rattle.aero_model.specs.declared.verdict.Verdict.{Verdict}
use Rattle.aero_model.specs.declared.verdict.Verdict.TheVariants.{Serializable, Pending, Violation, Malformed, IllFormed}
use Rattle.aero_model.specs.Shape.{IsWellFormed}
use Rattle.aero_model.specs.Cycle.{IsSerializable}
use Rattle.aero_model.proofs.Lawful.{lawful_well_formed}
use Rattle.aero_model.proofs.OpenCount.{all_ended}
use Rattle.aero_model.proofs.Telling.{serializable_where_ended}
use Rattle.aero_grammar.specs.Reading.{Reading}
use Rattle.aero_verdict.specs.Ordered.{is_faultless, has_order}
use Rattle.aero_verdict.specs.Verdict.{events_of, read_trace, checked_trace, IsClean, IsVerdict}
use Rattle.aero_model.specs.Terms.{Rules}
use Rattle.aero_verdict.proofs.Judged.{judged_well}
use Rattle.aero_verdict.proofs.OneVerdict.{one_verdict}

module _ (parts : List Reading) (rules : Rules) where
  clean_of : (v : Verdict) → IsVerdict parts rules v → is_faultless v ≡ true → IsClean parts rules (length (checked_trace parts rules))
  clean_of (Serializable e b) is good = is.clean
  clean_of (Pending e b p) is good = is.1.clean
  clean_of (Violation l t b) is good = absurd (cc)
  clean_of (Malformed l f) is good = absurd (cc)
  clean_of (IllFormed l f) is good = absurd (cc)

  pub well_formed_of : (v : Verdict) → IsVerdict parts rules v → is_faultless v ≡ true → IsWellFormed (checked_trace parts rules)
  well_formed_of v is good =
      let n = length (checked_trace parts rules) in
      subst IsWellFormed (take_all n (checked_trace parts rules) (omega arith))
      (judged_well rules.labels (events_of parts rules) n (lawful_well_formed rules.limits (read_trace parts rules) n (clean_of v is good).lawful))

  -- every verdict is faultless or none is
  pub same_faultless : (v w : Verdict) → IsVerdict parts rules v → IsVerdict parts rules w → is_faultless v ≡ is_faultless w
  same_faultless v w first second = ap is_faultless (one_verdict parts rules v w first second)

  pub no_cycle_of : (events blocks : ℕ) → IsVerdict parts rules (Serializable events blocks) → IsSerializable (checked_trace parts rules) (length (checked_trace parts rules))
  no_cycle_of events blocks v =
      let trace = checked_trace parts rules in serializable_where_ended trace (length trace) (all_ended trace (sym v.open_are)) v.clean.no_cycle

  -- where an order goes with a verdict, nothing is wrong, and there is no cycle
  pub right_where_ordered : (v : Verdict) → has_order true v ≡ true → is_faultless v ≡ true
  right_where_ordered (Serializable e b) order = refl
  right_where_ordered (Pending e b p) order = absurd (cc)
  right_where_ordered (Violation l t b) order = absurd (cc)
  right_where_ordered (Malformed l f) order = absurd (cc)
  right_where_ordered (IllFormed l f) order = absurd (cc)

  pub no_cycle_where_ordered : (v : Verdict) → IsVerdict parts rules v → has_order true v ≡ true → IsSerializable (checked_trace parts rules) (length (checked_trace parts rules))
  no_cycle_where_ordered (Serializable e b) is order = no_cycle_of e b is
  no_cycle_where_ordered (Pending e b p) is order = absurd (cc)
  no_cycle_where_ordered (Violation l t b) is order = absurd (cc)
  no_cycle_where_ordered (Malformed l f) is order = absurd (cc)
  no_cycle_where_ordered (IllFormed l f) is order = absurd (cc)

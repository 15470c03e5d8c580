-- The labels of a block that was read are in its table.
use Rattle.std.proofs.Common.{ℕ, List, get_or, Some, None}
use Rattle.std.specs.Prelude.{All}
use Rattle.std.proofs.lemmas.Option.{slice_get-get_or}
use Rattle.aero_model.specs.declared.numbered.Numbered.{Numbered}
use Rattle.aero_model.specs.declared.numbered.What.{What}
use Rattle.aero_model.specs.declared.numbered.What.TheVariants.{Read, Write, Acquire, Release, Fork, Join, Begin, End, Exempt}
use Rattle.aero_model.specs.Numbering.{Tables}
use Rattle.aero_grammar.specs.Tabled.{IsTabled}
use Rattle.aero_verdict.specs.Known.{HasLabel}
use Rattle.aero_verdict.specs.Spots.{HasTarget}
use Rattle.aero_verdict.proofs.BlockEvents.{target_within}

module _ (tables : Tables) (labels : List (List ℕ)) where
  has_label : (w : What) → HasTarget tables labels w → HasLabel labels w
  has_label (Begin (Some label)) has = has
  has_label (Begin None) has = tt
  has_label End has = tt
  has_label Exempt has = tt
  has_label (Read x) has = tt
  has_label (Write x) has = tt
  has_label (Acquire l) has = tt
  has_label (Release l) has = tt
  has_label (Fork u) has = tt
  has_label (Join u) has = tt

  pub labels_known : (events : List (ℕ × Numbered)) → IsTabled tables labels events → All (λ e. HasLabel labels e.1.what) events
  labels_known events tabled = λ k d within.
      let e = get_or events k d in
      has_label e.1.what (target_within tables labels events tabled k e (slice_get-get_or events k d within))

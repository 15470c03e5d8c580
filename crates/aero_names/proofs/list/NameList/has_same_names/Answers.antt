use Rattle.std.proofs.Common.{sym, ◌∙◌, ap₂}
use Rattle.std.proofs.lemmas.Bool.{both_ways}
use Rattle.aero_names.specs.Ends.{names_from}
use Rattle.aero_names.proofs.Cuts.{same_cut}
use Rattle.aero_names.proofs.list.NameList.has_same_names.Goals as goal

pub returns-then-are_same_ends : goal.returns-then-are_same_ends
returns-then-are_same_ends c =
    let ends = sym c.deref.ensures.value ∙ (c.are_same_ends.ensures.0 c.if-are_same_ends.true ∙ c.deref-2.ensures.value) in (
      λ yes.
          let texts = sym c.deref-then-are_same_ends.ensures.value ∙ (c.are_same_bytes.ensures.0 yes ∙ c.deref-then-are_same_ends-2.ensures.value) in
          sym c.self.view_is ∙ (ap₂ (λ t es. names_from t 0 es) texts ends ∙ c.other.view_is),
      λ same.
          let is = same_cut 0 _ _ _ _ c.self.invariant.rising c.other.invariant.rising (c.self.view_is ∙ (same ∙ sym c.other.view_is)) in
          c.are_same_bytes.ensures.1 (c.deref-then-are_same_ends.ensures.value ∙ (is.texts_are ∙ sym c.deref-then-are_same_ends-2.ensures.value)),
    )

pub returns-else-are_same_ends : goal.returns-else-are_same_ends
returns-else-are_same_ends c = (
  λ yes. absurd (both_ways _ c.if-are_same_ends.false yes),
  λ same.
      let is = same_cut 0 _ _ _ _ c.self.invariant.rising c.other.invariant.rising (c.self.view_is ∙ (same ∙ sym c.other.view_is)) in
      c.are_same_ends.ensures.1 (c.deref.ensures.value ∙ (is.ends_are ∙ sym c.deref-2.ensures.value)),
)

-- Flags that are joined, place by place.
use Rattle.std.proofs.Common.{◌≡◌, ◌≤◌, ◌<◌, ◌+◌, ◌⊎◌, ℕ, zero, suc, Bool, true, false, ◌||◌, List, [], ◌∷◌, length, refl, sym, ◌∙◌, ap, ap₂, subst, inl, inr, arith}
use Rattle.std.specs.List.{slice_set}
use Rattle.std.proofs.lemmas.Bool.{cases_eq, or_right}
use Rattle.aero_intake.specs.Begun.{noted_at}
use Rattle.aero_intake.proofs.Surveyed.{or_nothing, set_elsewhere, set_length, set_there}

-- the flags before this place are joined with the others, and those behind it are as they were
pub record IsJoinedTo (had other now : List Bool) (place : ℕ) : Type 0 where
  pub count : length now ≡ length had
  pub before : (p : ℕ) → p < place → noted_at now p ≡ (noted_at had p || noted_at other p)
  pub behind : (p : ℕ) → place ≤ p → noted_at now p ≡ noted_at had p

pub nothing_joined : (had other : List Bool) → IsJoinedTo had other had 0
nothing_joined had other = record { count = refl; before = λ p below. absurd (omega (arith, below)); behind = λ p above. refl }

pub joined_set : (had other now : List Bool) (place : ℕ) → place < length now → noted_at other place ≡ true → IsJoinedTo had other now place →
    IsJoinedTo had other (slice_set now place true) (place + 1)
joined_set had other now place within there is = record {
  count = set_length now place ∙ is.count;
  before = λ p below. elim (cases_eq p place) [
    | inl same ↦
        ap (noted_at (slice_set now place true)) same
        ∙ (set_there now place within ∙ sym (ap₂ (λ a b. noted_at had a || b) same (ap (noted_at other) same ∙ there) ∙ or_right (noted_at had place) true refl))
    | inr other_place ↦ set_elsewhere now place p other_place ∙ is.before p (omega (arith, below, other_place))
  ];
  behind = λ p above. set_elsewhere now place p (λ e. omega (arith, above, e)) ∙ is.behind p (omega (arith, above));
}

pub joined_same : (had other now : List Bool) (place : ℕ) → noted_at other place ≡ false → IsJoinedTo had other now place → IsJoinedTo had other now (place + 1)
joined_same had other now place none is = record {
  count = is.count;
  before = λ p below. elim (cases_eq p place) [
    | inl same ↦
        is.behind p (omega (arith, same))
        ∙ (sym (or_nothing (noted_at had p)) ∙ ap (λ b. noted_at had p || b) (sym (ap (noted_at other) same ∙ none)))
    | inr other_place ↦ is.before p (omega (arith, below, other_place))
  ];
  behind = λ p above. is.behind p (omega (arith, above));
}

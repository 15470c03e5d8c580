-- All places of a round are within the events.
use Rattle.std.proofs.Common.{ℕ, zero, suc, ◌<◌, ◌==◌, List, [], ◌∷◌, ◌++◌, inl, inr, sym, subst, arith}
use Rattle.std.specs.Prelude.{flat_map, All}
use Rattle.std.proofs.lemmas.Bool.{cases_eq, eq-eqb, ne_eqb, cond-true, cond-false}
use Rattle.std.proofs.lemmas.List.Elements.{All-append, All-nil}
use Rattle.aero_model.specs.declared.numbered.Numbered.{Numbered}
use Rattle.aero_model.specs.Graph as graph
use Rattle.aero_model.specs.Graph.{IsVisit, GoesOn, IsTelling}
use Rattle.aero_verdict.specs.Explained.{visit_places, round_places}

-- all places of a walk are within
single : (n place : ℕ) → place < n → All (λ p. p < n) (place ∷ [])
single n place less zero d l = less
single n place less (suc k) d l = absurd (omega (arith, l))

visit_within : (trace : List Numbered) (n : ℕ) (v : graph.Visit) → IsVisit trace n v → All (λ p. p < n) (visit_places v)
visit_within trace n v is = elim (cases_eq v.enters v.leaves) [
  | inl same ↦ subst (All (λ p. p < n)) (sym (cond-true (v.enters == v.leaves) _ _ (eq-eqb v.enters v.leaves same))) (single n v.enters is.enters)
  | inr other ↦
      subst (All (λ p. p < n)) (sym (cond-false (v.enters == v.leaves) _ _ (ne_eqb v.enters v.leaves other)))
      (All-append (λ p. p < n) (v.enters ∷ []) (v.leaves ∷ []) (single n v.enters is.enters) (single n v.leaves is.leaves))
]

walk_within : (trace : List Numbered) (n : ℕ) (v : graph.Visit) (vs : List graph.Visit) → GoesOn trace n v vs → All (λ p. p < n) (flat_map visit_places vs)
walk_within trace n v [] goes = All-nil (λ p. p < n)
walk_within trace n v (w ∷ ws) goes =
    All-append (λ p. p < n) (visit_places w) (flat_map visit_places ws) (visit_within trace n w goes.1) (walk_within trace n w ws goes.3)

pub round_within : (trace : List Numbered) (n : ℕ) (first : graph.Visit) (rest : List graph.Visit) → IsTelling trace n first rest → All (λ p. p < n) (round_places first rest)
round_within trace n first rest telling =
    All-append (λ p. p < n) (first.leaves ∷ []) (flat_map visit_places rest ++ first.enters ∷ []) (single n first.leaves telling.visit.leaves)
    (All-append (λ p. p < n) (flat_map visit_places rest) (first.enters ∷ []) (walk_within trace n first rest telling.walk) (single n first.enters telling.visit.enters))

-- so are those at which its visits come in
pub enters_within : (trace : List Numbered) (n : ℕ) (first : graph.Visit) (rest : List graph.Visit) → IsTelling trace n first rest → All (λ (v : graph.Visit). v.enters < n) (first ∷ rest)
enters_within trace n first rest telling = all first rest telling.visit.enters telling.walk
  where
    all : (v : graph.Visit) (vs : List graph.Visit) → v.enters < n → GoesOn trace n v vs → All (λ (x : graph.Visit). x.enters < n) (v ∷ vs)
    all v vs less goes zero d l = less
    all v [] less goes (suc k) d l = absurd (omega (arith, l))
    all v (w ∷ ws) less goes (suc k) d l = all w ws (goes.1).enters goes.3 k d (omega (arith, l))

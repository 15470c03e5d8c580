-- Lists of visits that are telling cycles, and the shortest of them.
use Rattle.std.specs.Prelude.{◌≡◌, ◌≤◌, suc, List, [], ◌∷◌, length, map}
use Rattle.aero_model.specs.declared.numbered.Numbered.{Numbered}
use Rattle.aero_model.specs.Blocks.{Transaction, transaction}
use Rattle.aero_model.specs.Graph as graph
use Rattle.aero_witness.specs.declared.visit.Visit.{Visit}

abbrev pub visit_of : Visit → graph.Visit
visit_of v = record { enters = v.enters; leaves = v.leaves }

abbrev pub visits_of : List Visit → List graph.Visit
visits_of vs = map visit_of vs

-- the visits are a telling cycle of all events
abbrev pub IsTellingCycle : List Numbered → List Visit → Type 0
IsTellingCycle trace [] = ⊥
IsTellingCycle trace (v ∷ vs) = graph.IsTelling trace (length trace) (visit_of v) (visits_of vs)

-- the first of the visits is in the transaction
abbrev pub BeginsIn : List Numbered → Transaction → List Visit → Type 0
BeginsIn trace x [] = ⊥
BeginsIn trace x (v ∷ vs) = transaction trace v.enters ≡ x

-- A telling cycle of all events whose first visit is in the transaction. No such cycle has fewer visits.
pub record IsShortest (trace : List Numbered) (x : Transaction) (visits : List Visit) : Type 0 where
  pub telling : IsTellingCycle trace visits
  pub begins : BeginsIn trace x visits
  pub fewest :
      (first : graph.Visit) (rest : List graph.Visit)
      → graph.IsTelling trace (length trace) first rest
      → transaction trace first.enters ≡ x
      → length visits ≤ suc (length rest)

-- a shortest one from the transaction in which these visits begin
abbrev pub IsShortestLike : List Numbered → List Visit → List Visit → Type 0
IsShortestLike trace [] shortest = ⊥
IsShortestLike trace (v ∷ vs) shortest = IsShortest trace (transaction trace v.enters) shortest

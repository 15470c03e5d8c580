-- A telling cycle, visit by visit.
use Rattle.std.specs.Prelude.{◌≢◌, List, [], ◌∷◌, length}
use Rattle.aero_model.specs.declared.numbered.Numbered.{Numbered}
use Rattle.aero_model.specs.Blocks.{transaction}
use Rattle.aero_model.specs.Graph as graph

-- a walk goes on from the first of them to the second, which is of another transaction
pub record Follows (trace : List Numbered) (v w : graph.Visit) : Type 0 where
  pub conflict : graph.Conflict trace v.leaves w.enters
  pub is : graph.IsVisit trace (length trace) w
  pub forward : graph.IsForward trace (length trace) w
  pub apart : transaction trace v.enters ≢ transaction trace w.enters

-- from the visit v so with each of these
abbrev pub AreFollowing : List Numbered → graph.Visit → List graph.Visit → Type 0
AreFollowing trace v [] = Unit {0}
AreFollowing trace v (w ∷ ws) = Follows trace v w × AreFollowing trace w ws

-- Where a search is, and what a round of it tells.
use Rattle.std.specs.Prelude.{◌≡◌, ℕ, suc, ◌+◌, ◌<◌, ◌≤◌, true, List, [], ◌∷◌, length, Option, Some, None, IsSome}
use Rattle.aero_model.specs.declared.numbered.Numbered.{Numbered}
use Rattle.aero_model.specs.Blocks.{transaction}
use Rattle.aero_model.specs.Graph.{Conflict}
use Rattle.aero_witness.specs.declared.kinds.Kind.{Kind}
use Rattle.aero_witness.specs.declared.buckets.Arrival.{Arrival}
use Rattle.aero_witness.specs.declared.left.Left.{Left}
use Rattle.aero_witness.specs.declared.basis.Basis.{Basis}
use Rattle.aero_witness.specs.declared.reached.Reached.{Reached}
use Rattle.aero_witness.specs.declared.rounds.Search.{Search}
use Rattle.aero_witness.specs.Kinds.{outside}
use Rattle.aero_witness.specs.Buckets.{head_at, IsBucket, AreOrigins}
use Rattle.aero_witness.specs.Left.{bucket_of}
use Rattle.aero_witness.specs.Levels.{AreLevels}
use Rattle.aero_witness.specs.Reached.{is_noted, reached_at, IsFront, IsClosed, IsSwept, AreAtMost}

-- how many places are not reached
abbrev pub unreached : List (Option Reached) → ℕ
unreached [] = 0
unreached (None ∷ xs) = suc (unreached xs)
unreached (Some r ∷ xs) = unreached xs

-- by each kind what isn't left is reached, or is at the origin
pub record IsLeft (trace : List Numbered) (firsts : List ℕ) (first : ℕ) (reached : List (Option Reached)) (left : Left) : Type 0 where
  pub buckets : (k : Kind) → IsBucket trace (outside trace firsts first) k (bucket_of left k)
  pub origins : (k : Kind) → AreOrigins trace firsts first k (bucket_of left k)
  pub taken : (k : Kind) (m j : ℕ) → head_at (bucket_of left k).heads.items m ≤ j → outside trace firsts first k j ≡ Some m → IsSome (reached_at reached j)

module _ (trace : List Numbered) (basis : Basis) where
  -- the search is at its level, whose places are its front
  pub record IsAt (search : Search) : Type 0 where
    pub levels : AreLevels trace (transaction trace basis.begin) search.walks.reached.items search.level
    pub closed : IsClosed trace search.walks.reached.items
    pub most : AreAtMost search.level search.walks.reached.items
    pub front : IsFront search.level search.walks.reached.items search.walks.front.items
    pub left : IsLeft trace basis.transactions.firsts.items basis.first search.walks.reached.items search.left
    pub room : search.level + unreached search.walks.reached.items < length trace

  -- all to which the level leads is reached, and nothing else
  pub record IsAdvanced (old new : Search) : Type 0 where
    pub level : new.level ≡ old.level + 1
    pub swept : IsSwept trace old.level old.walks.reached.items new.walks.reached.items
    pub front : IsFront new.level new.walks.reached.items new.walks.front.items
    pub left : IsLeft trace basis.transactions.firsts.items basis.first new.walks.reached.items new.left

  -- a walk comes back to the transaction
  pub record IsEnd (search : Search) (arrival : Arrival) : Type 0 where
    pub levels : AreLevels trace (transaction trace basis.begin) search.walks.reached.items search.level
    pub some : 0 < search.level
    pub out : is_noted search.walks.reached.items search.level arrival.from ≡ true
    pub back : transaction trace arrival.enters ≡ transaction trace basis.begin
    pub closes : Conflict trace arrival.from arrival.enters

  -- one does, or further places are reached
  abbrev pub IsRound : Search → Search → Option Arrival → Type 0
  IsRound old new (Some arrival) = IsEnd new arrival
  IsRound old new None = IsAt new × (unreached new.walks.reached.items < unreached old.walks.reached.items)

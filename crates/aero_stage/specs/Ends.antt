-- What contracts see of a Poster and of a Taker, and what an end knows of a moment of a call.
use Rattle.std.specs.Prelude.{◌≡◌, ℕ, ◌+◌, Bool, false, List, [], ◌∷◌, length, count_by, All}
use Rattle.atomic_table.specs.Seated.{TableId}
use Rattle.atomic_table.specs.declared.badge.Badge.{Badge}
use Rattle.crossbeam_channel.specs.declared.flavors.array.Key.{Key}
use Rattle.crossbeam_channel.specs.Claims.{Pass}
use Rattle.aero_stage.specs.declared.job.Job.{Job}
use Rattle.aero_stage.specs.declared.job.Slip.{Slip}
use Rattle.aero_stage.specs.declared.job.Hand.{Hand}
use Rattle.aero_stage.specs.declared.job.Desk.{Desk}
use Rattle.aero_stage.specs.declared.job.View.{View}
use Rattle.aero_stage.specs.declared.job.Slip.TheVariants.{Work}
use Rattle.aero_stage.specs.Lists.{IsSubsequence}
use Rattle.aero_stage.specs.Rule.{Queued, AreHandsOf, in_hands, no_desk, no_hand}

-- which call of `stage` an end comes from
pub record Mark : Type 0 where
  pub table : TableId
  pub key : Badge (Key Slip)

-- the mark of a pass
abbrev pub mark_of : Pass Slip View → Mark
mark_of pass = record { table = pass.table_id; key = pass.me.0.of }

-- a Poster: which call made it, how many jobs and stops the queue may hold, and what it knows
pub record Posting : Type 0 where
  pub stage : Mark
  pub capacity : ℕ
  pub desk : Desk

-- a Taker: which call made it, what it has taken, and whether it is over
pub record Taking : Type 0 where
  pub stage : Mark
  pub hand : Hand
  pub over : Bool

-- The queue was full at a moment, as far as the Poster knows.
abbrev pub WasFull : Posting → Type 0
WasFull p = (slips : List Slip) × (length slips ≡ p.capacity) × Queued p.desk slips

-- The queue was empty at a moment, as far as the Poster knows.
abbrev pub WasEmpty : Posting → Type 0
WasEmpty p = Queued p.desk []

-- The job was the front of the queue at a moment, as far as the Poster knows.
abbrev pub WasFront : Posting → Job → Type 0
WasFront p job = (slips : List Slip) × Queued p.desk (Work job ∷ slips)

-- Nothing that was posted is in the queue. What was taken back and the hand of each Taker that rejoined are parts of what was posted, in its order,
-- and once no Taker is out they have together each job as often as it was posted.
pub record IsSettled (p : Posting) : Type 0 where
  pub each : p.desk.takers ≡ 0 → (test : Job → Bool) → count_by test p.desk.back + in_hands test p.desk.kept ≡ count_by test p.desk.posted
  pub back : IsSubsequence p.desk.back p.desk.posted
  pub hands : AreHandsOf p.desk.posted p.desk.posted p.desk.kept

-- a Taker that has taken nothing
abbrev pub new_taker : Mark → Taking
new_taker stage = record { stage = stage; hand = no_hand; over = false }

-- the ends of a new queue
pub record IsStage (capacity takers : ℕ) (p : Posting) (ts : List Taking) : Type 0 where
  pub capacity_is : p.capacity ≡ capacity
  pub desk_is : p.desk ≡ record no_desk { takers = takers }
  pub count : length ts ≡ takers
  pub new : All (λ t. t ≡ new_taker p.stage) ts

-- The changes of the queue as steps of the schedule of questions, jobs and answers, of which aero_pieces says what every schedule keeps: the queue,
-- the hands and what was taken back have jobs in the order in which they were posted, and together each as often as it was posted.
use Rattle.std.specs.Prelude.{◌≡◌, ℕ, suc, ◌<◌, ⊤, List, [], ◌∷◌, ◌++◌, map, length, replicate, slice_get, slice_set, Some}
use mathlib.Core.Option.{some}
use lib.ListN.{get_elem?}
use Rattle.aero_pieces.specs.Schedule.{World, Post, Take, Back, Happens, start}
use Rattle.aero_stage.specs.declared.job.Job.{Job}
use Rattle.aero_stage.specs.declared.job.Slip.{Slip}
use Rattle.aero_stage.specs.declared.job.Slip.TheVariants.{Work, Stop}
use Rattle.aero_stage.specs.declared.job.View.{View}
use Rattle.aero_stage.specs.declared.job.View.TheVariants.{Posts, Takes, Spent}
use Rattle.aero_stage.specs.Rule.{Staged, jobs_of, no_desk, no_hand, Posted, Taken, TakenBack, joined, IsPoster, IsTaker}

-- the schedule has jobs by their numbers
abbrev pub numbers_of : List Job → List ℕ
numbers_of jobs = map (λ job. job.number) jobs

-- The world has what an end knows. A Taker's hand is that of the worker with the port of its pass.
abbrev pub HasEnd : World → ℕ → View → Type 0
HasEnd w port (Posts d) = (w.posted ≡ numbers_of d.posted) × (w.back ≡ numbers_of d.back)
HasEnd w port (Takes h) = slice_get w.hands port ≡ Some (numbers_of h.jobs)
HasEnd w port Spent = ⊤

-- The world has the jobs of the queue, and what each end knows.
pub record HasStage (slips : List Slip) (views : List View) (w : World) : Type 0 where
  pub queue : w.queue ≡ numbers_of (jobs_of slips)
  pub ends : (port : ℕ) (v : View) → get_elem? views port ≡ some v → HasEnd w port v

-- the window is the most questions that are open, and the room the most slips in the queue
module _ (window room : ℕ) (w : World) where
  -- a job that joins the queue is posted. A stop is no step
  abbrev pub Joins : Slip → World → Type 0
  Joins (Work job) x = Happens window room w (Post job.number) x
  Joins Stop x = x ≡ w

  -- a job that a Taker takes goes into its hand
  abbrev pub LeavesTo : ℕ → Slip → World → Type 0
  LeavesTo port (Work job) x = Happens window room w (Take port) x
  LeavesTo port Stop x = x ≡ w

  -- a job that the Poster takes goes back
  abbrev pub LeavesBack : Slip → World → Type 0
  LeavesBack (Work job) x = Happens window room w Back x
  LeavesBack Stop x = x ≡ w

  -- Each change that the ends make leads to a world that has the queue and the ends after it.
  pub record AreSteps (slips : List Slip) (views : List View) : Type 0 where
    pub post : (port : ℕ) (v : View) (slip : Slip) (u : View) → get_elem? views port ≡ some v → IsPoster v → length slips < room → Posted room v slip u →
        (x : World) × Joins slip x × HasStage (slips ++ slip ∷ []) (slice_set views port u) x
    pub take : (port : ℕ) (v : View) (slip : Slip) (rest : List Slip) (u : View) → get_elem? views port ≡ some v → IsTaker v → slips ≡ slip ∷ rest →
        Taken v slip u →
        (x : World) × LeavesTo port slip x × HasStage rest (slice_set views port u) x
    pub take_back : (port : ℕ) (v : View) (slip : Slip) (rest : List Slip) (u : View) → get_elem? views port ≡ some v → IsPoster v → slips ≡ slip ∷ rest →
        TakenBack v slip u →
        (x : World) × LeavesBack slip x × HasStage rest (slice_set views port u) x
    pub rejoin : (port : ℕ) (v : View) (other : ℕ) (u : View) → get_elem? views port ≡ some v → IsPoster v →
        HasStage slips (slice_set (slice_set views port (joined v u)) other Spent) w

-- over every world that has a queue under its rule
abbrev pub ChangesAreSteps : Type 0
ChangesAreSteps = (window room : ℕ) (w : World) (slips : List Slip) (views : List View) → Staged slips views → HasStage slips views w →
    AreSteps window room w slips views

-- The worker with the port of the Poster's pass never takes anything.
abbrev pub OpensAsStart : Type 0
OpensAsStart = (takers : ℕ) → HasStage [] (Posts (record no_desk { takers = takers }) ∷ replicate takers (Takes no_hand)) (start (suc takers))

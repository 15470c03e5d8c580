-- The rule of the queue, which each change of it keeps: what was posted is what is gone from the queue and then what the queue holds, and what is
-- gone is in the hands. Each end holds a pass, and the view of the pass is what that end knows. `IsTake`, and `WasFull`, `WasEmpty` and `WasFront` of
-- Ends, say what one Taker or the Poster knows of a moment of a call: there is some queue that agrees with its own view. Two Takers could each claim
-- what contradicts the other's claim, and no such clause excludes it: only the channel does, since it has one queue, and each change of that keeps
-- `Staged` with the views of all passes at once.
use Rattle.std.specs.Prelude.{◌≡◌, ℕ, ◌+◌, ◌-◌, ◌≤◌, min, Bool, List, [], ◌∷◌, ◌++◌, length, count_by}
use mathlib.Core.Option.{some}
use lib.ListN.{get_elem?}
use Rattle.aero_stage.specs.declared.job.Job.{Job}
use Rattle.aero_stage.specs.declared.job.Slip.{Slip}
use Rattle.aero_stage.specs.declared.job.Slip.TheVariants.{Work, Stop}
use Rattle.aero_stage.specs.declared.job.Hand.{Hand}
use Rattle.aero_stage.specs.declared.job.Desk.{Desk}
use Rattle.aero_stage.specs.declared.job.View.{View}
use Rattle.aero_stage.specs.declared.job.View.TheVariants.{Posts, Takes, Spent}
use Rattle.aero_stage.specs.Lists.{IsSubsequence, Begins}

-- the jobs of a queue, oldest first
abbrev pub jobs_of : List Slip → List Job
jobs_of [] = []
jobs_of (Work job ∷ slips) = job ∷ jobs_of slips
jobs_of (Stop ∷ slips) = jobs_of slips

-- how many stops a queue holds
abbrev pub stops_of : List Slip → ℕ
stops_of [] = 0
stops_of (Work job ∷ slips) = stops_of slips
stops_of (Stop ∷ slips) = 1 + stops_of slips

-- how many jobs of the hands pass the test
abbrev pub in_hands : (Job → Bool) → List Hand → ℕ
in_hands test [] = 0
in_hands test (h ∷ hs) = count_by test h.jobs + in_hands test hs

-- f of each view, added up
abbrev pub total : (View → ℕ) → List View → ℕ
total f [] = 0
total f (v ∷ vs) = f v + total f vs

-- how many jobs that the pass has taken, or keeps, pass the test
abbrev pub held : (Job → Bool) → View → ℕ
held test (Posts d) = count_by test d.back + in_hands test d.kept
held test (Takes h) = count_by test h.jobs
held test Spent = 0

-- 1 for the pass of a Taker
abbrev pub taker_count : View → ℕ
taker_count (Posts d) = 0
taker_count (Takes h) = 1
taker_count Spent = 0

-- the hand is a part of what is gone from the queue, and had seen a beginning of what is posted
abbrev pub IsHandOf : List Job → List Job → Hand → Type 0
IsHandOf posted gone h = IsSubsequence h.jobs gone × Begins h.seen posted

-- each of these is such a hand
abbrev pub AreHandsOf : List Job → List Job → List Hand → Type 0
AreHandsOf posted gone [] = Unit {0}
AreHandsOf posted gone (h ∷ hs) = IsHandOf posted gone h × AreHandsOf posted gone hs

-- The desk is right at a moment at which these jobs are gone from the queue and the queue holds these slips: no more jobs and stops than the bounds
-- of the desk.
pub record IsMoment (d : Desk) (gone : List Job) (slips : List Slip) : Type 0 where
  pub order : d.posted ≡ gone ++ jobs_of slips
  pub jobs : length (jobs_of slips) ≤ d.bound
  pub stops : stops_of slips ≤ d.stops
  pub back : IsSubsequence d.back gone
  pub hands : AreHandsOf d.posted gone d.kept

-- What one view has to do with the queue, where these jobs were posted, these are gone and the queue holds these slips. The seat is the port of the
-- Poster's pass, and the port that of the pass with this view: so there is one Poster. The Poster knows what was posted, and how many Takers are out.
abbrev pub Fits : ℕ → List Job → List Job → List Slip → ℕ → ℕ → View → Type 0
Fits seat posted gone slips out port (Posts d) = (port ≡ seat) × (d.posted ≡ posted) × (d.takers ≡ out) × IsMoment d gone slips
Fits seat posted gone slips out port (Takes h) = IsHandOf posted gone h
Fits seat posted gone slips out port Spent = Unit {0}

-- The rule itself: of the slips in the queue and of all views. The seat is the port of the Poster's pass, and so many Takers are out. Each job is
-- held as often as it is gone.
pub record Staged (slips : List Slip) (views : List View) : Type 0 where
  pub seat : ℕ
  pub posted : List Job
  pub gone : List Job
  pub out : ℕ
  pub order : posted ≡ gone ++ jobs_of slips
  pub counted : total taker_count views ≡ out
  pub each : (test : Job → Bool) → total (held test) views ≡ count_by test gone
  pub fits : (port : ℕ) (v : View) → get_elem? views port ≡ some v → Fits seat posted gone slips out port v

-- nothing was posted
abbrev pub no_desk : Desk
no_desk = record { posted = []; back = []; kept = []; bound = 0; stops = 0; takers = 0 }

-- nothing was taken
abbrev pub no_hand : Hand
no_hand = record { jobs = []; seen = [] }

-- what the Poster knows by its pass
abbrev pub desk_of : View → Desk
desk_of (Posts d) = d
desk_of (Takes h) = no_desk
desk_of Spent = no_desk

-- what a Taker knows by its pass
abbrev pub hand_of : View → Hand
hand_of (Posts d) = no_hand
hand_of (Takes h) = h
hand_of Spent = no_hand

-- after a post. The queue holds one job more at most, and never more than its capacity
abbrev pub with_post : ℕ → Desk → Job → Desk
with_post capacity d job = record d { posted = d.posted ++ job ∷ []; bound = min (d.bound + 1) capacity }

-- after a stop
abbrev pub with_stop : Desk → Desk
with_stop d = record d { stops = d.stops + 1 }

-- after a job was taken back
abbrev pub with_back : Desk → Job → Desk
with_back d job = record d { back = d.back ++ job ∷ []; bound = d.bound - 1 }

-- after a Taker was made
abbrev pub with_taker : Desk → Desk
with_taker d = record d { takers = d.takers + 1 }

-- after a Taker has rejoined: its hand is kept
abbrev pub with_hand : Desk → Hand → Desk
with_hand d h = record d { kept = d.kept ++ h ∷ []; takers = d.takers - 1 }

-- once no Taker is out, what the Poster took back and the hands that it keeps have each job as often as it is gone
abbrev pub KeepsAllGone : Desk → List Job → Type 0
KeepsAllGone d gone = d.takers ≡ 0 → (test : Job → Bool) → count_by test d.back + in_hands test d.kept ≡ count_by test gone

-- the queue at a moment, as the Poster knows it
abbrev pub Queued : Desk → List Slip → Type 0
Queued d slips = (gone : List Job) × IsMoment d gone slips × KeepsAllGone d gone

-- what the Poster knows after it has added a slip
abbrev pub Posted : ℕ → View → Slip → View → Type 0
Posted capacity v (Work job) w = w ≡ Posts (with_post capacity (desk_of v) job)
Posted capacity v Stop w = w ≡ Posts (with_stop (desk_of v))

-- what it knows after it has taken one, and of the queue that this one was the front of
abbrev pub TakenBack : View → Slip → View → Type 0
TakenBack v (Work job) w = (w ≡ Posts (with_back (desk_of v) job)) × ((slips : List Slip) × Queued (desk_of v) (Work job ∷ slips))
TakenBack v Stop w = w ≡ v

-- The job was the front of the queue: all that was posted before it was gone, and the hand h is a part of that. The hand w has the job too, and had
-- seen all that was posted by then.
pub record IsTake (h : Hand) (job : Job) (w : Hand) : Type 0 where
  pub gone : List Job
  pub rest : List Job
  pub jobs : w.jobs ≡ h.jobs ++ job ∷ []
  pub seen : w.seen ≡ gone ++ job ∷ rest
  pub before : IsSubsequence h.jobs gone
  pub later : Begins h.seen w.seen

-- what a Taker knows after it has taken a slip
abbrev pub Taken : View → Slip → View → Type 0
Taken v (Work job) w = (h : Hand) × (w ≡ Takes h) × IsTake (hand_of v) job h
Taken v Stop w = w ≡ v

-- the Poster's view once it has a Taker's pass back
abbrev pub joined : View → View → View
joined v w = Posts (with_hand (desk_of v) (hand_of w))

-- the pass is the Poster's, or a Taker's
abbrev pub IsPoster : View → Type 0
IsPoster v = v ≡ Posts (desk_of v)

abbrev pub IsTaker : View → Type 0
IsTaker v = v ≡ Takes (hand_of v)

-- What workers reply and give back.
use Rattle.std.specs.Prelude.{◌≡◌, ℕ, List, [], ◌∷◌, ◌⊎◌, map, Vec}
use Rattle.std.specs.Global.{Global}
use Rattle.std.specs.Arc.{arc_value}
use Rattle.aero_stage.specs.declared.job.Job.{Job}
use Rattle.aero_stage.specs.declared.job.Hand.{Hand}
use Rattle.aero_stage.specs.Ends.{Taking}
use Rattle.aero_worker.specs.declared.reply.Reply.{Reply}
use Rattle.aero_worker.specs.declared.reply.Reply.TheVariants.{Done, Missed}
use Rattle.aero_worker.specs.declared.shift.Shift.{Shift}

abbrev pub number_of : Job → ℕ
number_of job = job.number

-- an answer of the job's question, or the job's number
abbrev pub IsReplyTo : Job → Reply → Type 0
IsReplyTo job (Done answer) = answer.question ≡ arc_value job.question
IsReplyTo job (Missed number) = number ≡ job.number

-- the Taker is of the same stage, and the numbers are those of the jobs that it took, in order
abbrev pub IsShiftOf : Taking → Shift → Type 0
IsShiftOf taker shift = (shift.taker.stage ≡ taker.stage) × (shift.numbers.items ≡ map number_of shift.taker.hand.jobs)

abbrev pub lists_of : List (Vec ℕ Global) → List (List ℕ)
lists_of lists = map (λ list. list.items) lists

-- the lists are the numbers of the hands, in order, where some hands without a job may have none
abbrev pub Tells : List (List ℕ) → List Hand → Type 0
Tells lists [] = lists ≡ []
Tells lists (h ∷ hs) = ((h.jobs ≡ []) × Tells lists hs) ⊎ ((rest : List (List ℕ)) × (lists ≡ map number_of h.jobs ∷ rest) × Tells rest hs)

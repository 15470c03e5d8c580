-- What holds over any calls of a gatherer.
use Rattle.std.specs.Prelude.{◌≡◌, ℕ, ◌+◌, ◌<◌, List, [], ◌∷◌, ◌++◌, map, length, Option, Some, None}
use Rattle.std.specs.List.{AllZip}
use Rattle.aero_pieces.specs.declared.question.Question.{Question}
use Rattle.aero_pieces.specs.declared.answer.Value.{Value}
use Rattle.aero_pieces.specs.Values.{IsValueOf}
use Rattle.aero_pieces.specs.Schedule.{World, Step, Ask, Answers, Miss, Settle, Happens}
use Rattle.aero_gather.specs.declared.gather.Accepted.{Accepted}
use Rattle.aero_gather.specs.Gathered.{Gathered, Accepts, Settles, nothing_gathered, with_asked, with_missed}

-- A call that may change a gatherer, with what it was given and what it answered
pub data Call : Type 0 where
  Asks : (question : Question) → Call
  Takes : (question : Question) (value : Value) (accepted : Accepted) → Call
  Misses : (ticket : ℕ) → Call
  Gives : (given : Option Value) → Call

-- the call changes the old gatherer into the new one. An answer always has the value of its question
abbrev pub Does : Gathered → Call → Gathered → Type 0
Does old (Asks q) new = (length old.entries < old.window) × (new ≡ with_asked old q)
Does old (Takes q v accepted) new = IsValueOf q v × Accepts q v old new accepted
Does old (Misses ticket) new = new ≡ with_missed old ticket
Does old (Gives given) new = Settles old old.entries new given

-- the calls, one after the other
abbrev pub AllDo : Gathered → List Call → Gathered → Type 0
AllDo old [] new = new ≡ old
AllDo old (call ∷ more) new = (next : Gathered) × Does old call next × AllDo next more new

-- the questions that were asked, in order
abbrev pub asked_in : List Call → List Question
asked_in [] = []
asked_in (Asks q ∷ more) = q ∷ asked_in more
asked_in (Takes q v accepted ∷ more) = asked_in more
asked_in (Misses ticket ∷ more) = asked_in more
asked_in (Gives given ∷ more) = asked_in more

-- the values that were given, in order
abbrev pub given_in : List Call → List Value
given_in [] = []
given_in (Asks q ∷ more) = given_in more
given_in (Takes q v accepted ∷ more) = given_in more
given_in (Misses ticket ∷ more) = given_in more
given_in (Gives None ∷ more) = given_in more
given_in (Gives (Some v) ∷ more) = v ∷ given_in more

-- The given values are those of the first questions asked, in order, and the rest of the questions are open.
pub record AreInOrder (calls : List Call) (g : Gathered) : Type 0 where
  pub first : List Question
  pub rest : asked_in calls ≡ first ++ map (λ e. e.question) g.entries
  pub given : AllZip IsValueOf first (given_in calls)

abbrev pub GivesInOrder : Type 0
GivesInOrder = (window : ℕ) (calls : List Call) (g : Gathered) → AllDo (nothing_gathered window) calls g → AreInOrder calls g

-- The world has the gatherer's open questions, and was given the values of all others that the gatherer counts as asked.
pub record IsSeenBy (g : Gathered) (w : World) : Type 0 where
  pub entries : w.entries ≡ g.entries
  pub given : length w.given + length g.entries ≡ g.tally.asked

-- the step that the call is
abbrev pub IsStepOf : Call → Step → Type 0
IsStepOf (Asks q) step = step ≡ Ask q
IsStepOf (Takes q v accepted) step = step ≡ Answers q v
IsStepOf (Misses ticket) step = step ≡ Miss ticket
IsStepOf (Gives given) step = (v : Value) × (step ≡ Settle v)

-- the call is a step of the schedule, from this world
pub record StepsOn (room : ℕ) (old new : Gathered) (call : Call) (w : World) : Type 0 where
  pub step : Step
  pub next : World
  pub is_step : IsStepOf call step
  pub happens : Happens old.window room w step next
  pub seen : IsSeenBy new next

abbrev pub CallsAreSteps : Type 0
CallsAreSteps = (room : ℕ) (old new : Gathered) (call : Call) (w : World) → Does old call new → IsSeenBy old w → StepsOn room old new call w

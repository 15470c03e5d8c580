-- What may happen to questions, answers and jobs, in any order.
use Rattle.std.specs.Prelude.{◌≡◌, ℕ, ◌-◌, ◌<◌, nat_lt, nat_le, Bool, true, false, if◌then◌else◌, List, [], ◌∷◌, ◌++◌, length, replicate, slice_get}
use Rattle.std.specs.Prelude.{slice_set, Option, Some, None, is_none, unwrap_or, MatchOption, ⊤, ◌⊎◌}
use Rattle.aero_pieces.specs.declared.question.Question.{Question}
use Rattle.aero_pieces.specs.declared.answer.Value.{Value}
use Rattle.aero_pieces.specs.Values.{IsValueOf}

-- An open question, the value that was kept for it, and whether it was noted that no answer is to be awaited
pub record Entry : Type 0 where
  pub question : Question
  pub value : Option Value
  pub missed : Bool

-- The entries are the open questions, the oldest first. Jobs go by their numbers. hands has a list for each worker
pub record World : Type 0 where
  pub asked : List Question
  pub entries : List Entry
  pub given : List Value
  pub posted : List ℕ
  pub queue : List ℕ
  pub hands : List (List ℕ)
  pub back : List ℕ

-- with so many workers, before anything happens
abbrev pub start : ℕ → World
start workers = record { asked = []; entries = []; given = []; posted = []; queue = []; hands = replicate workers []; back = [] }

-- What may happen next. An answer that is lost doesn't come, one that is repeated comes again, and a forged one has a question that wasn't asked.
pub data Step : Type 0 where
  Ask : (question : Question) → Step
  Post : (job : ℕ) → Step
  Take : (worker : ℕ) → Step
  Back : Step
  Answers : (question : Question) (value : Value) → Step
  Miss : (ticket : ℕ) → Step
  Settle : (worked_out : Value) → Step

abbrev pub fresh : Question → Entry
fresh q = record { question = q; value = None; missed = false }

-- the entries with one more question, just asked
abbrev pub with_question : List Entry → Question → List Entry
with_question entries q = entries ++ fresh q ∷ []

-- the entry has this question, and no value
abbrev pub IsWaiting : Question → Entry → Type 0
IsWaiting q e = (e.question ≡ q) × (e.value ≡ None)

-- no entry at the first n places waits for the question
abbrev pub NoneWaits : Question → List Entry → ℕ → Type 0
NoneWaits q entries n = (i : ℕ) (e : Entry) → i < n → slice_get entries i ≡ Some e → ¬ IsWaiting q e

-- the oldest entry that waits for the question keeps the value
pub record Keeps (q : Question) (v : Value) (old new : List Entry) : Type 0 where
  pub place : ℕ
  pub entry : Entry
  pub at_place : slice_get old place ≡ Some entry
  pub waits : IsWaiting q entry
  pub oldest : NoneWaits q old place
  pub kept : new ≡ slice_set old place (record entry { value = Some v })

-- where none waits, nothing changes
abbrev pub TakesAnswer : Question → Value → List Entry → List Entry → Type 0
TakesAnswer q v old new = Keeps q v old new ⊎ (NoneWaits q old (length old) × (new ≡ old))

abbrev pub noted : List Entry → ℕ → Option Entry → List Entry
noted entries place None = entries
noted entries place (Some e) = if is_none e.value then slice_set entries place (record e { missed = true }) else entries

-- the entries once it is noted that no answer comes for the ticket, where so many questions were settled before
abbrev pub with_note : ℕ → ℕ → List Entry → List Entry
with_note gone ticket entries = if nat_le gone ticket then noted entries (ticket - gone) (slice_get entries (ticket - gone)) else entries

-- the value given for the oldest open question: the kept one, or else the one that was worked out
abbrev pub settled_value : Entry → Value → Value
settled_value e worked_out = unwrap_or e.value worked_out

-- what was worked out for an entry is used only where no value was kept, and is then a value of the question
abbrev pub IsWorkedOut : Entry → Value → Type 0
IsWorkedOut e v = MatchOption e.value (IsValueOf e.question v) (λ _. ⊤)

-- the oldest open question leaves, and its value is given
abbrev pub after_settling : World → Value → List Entry → World
after_settling w v [] = w
after_settling w v (e ∷ more) = record w { entries = more; given = w.given ++ settled_value e v ∷ [] }

abbrev pub MaySettle : List Entry → Value → Type 0
MaySettle [] v = ⊤
MaySettle (e ∷ more) v = IsWorkedOut e v

-- the front of the queue goes into the worker's hand, or back
abbrev pub taken_by : World → ℕ → List ℕ → Option (List ℕ) → World
taken_by w n (k ∷ more) (Some hand) = record w { queue = more; hands = slice_set w.hands n (hand ++ k ∷ []) }
taken_by w n _ _ = w

abbrev pub taken_back : World → List ℕ → World
taken_back w [] = w
taken_back w (k ∷ more) = record w { queue = more; back = w.back ++ k ∷ [] }

-- the window is the most questions that are open, and the room the most jobs in the queue
module _ (window room : ℕ) where
  -- from the old world the step leads to the new one. What can't happen changes nothing
  abbrev pub Happens : World → Step → World → Type 0
  Happens w (Ask q) v =
      v ≡ (if nat_lt (length w.entries) window then record w { asked = w.asked ++ q ∷ []; entries = with_question w.entries q } else w)
  Happens w (Post k) v =
      v ≡ (if nat_lt (length w.queue) room then record w { posted = w.posted ++ k ∷ []; queue = w.queue ++ k ∷ [] } else w)
  Happens w (Take n) v = v ≡ taken_by w n w.queue (slice_get w.hands n)
  Happens w Back v = v ≡ taken_back w w.queue
  Happens w (Answers q a) v = IsValueOf q a × (entries : List Entry) × TakesAnswer q a w.entries entries × (v ≡ record w { entries = entries })
  Happens w (Miss k) v = v ≡ record w { entries = with_note (length w.given) k w.entries }
  Happens w (Settle a) v = MaySettle w.entries a × (v ≡ after_settling w a w.entries)

  -- a whole schedule leads from the old world to the new one
  abbrev pub Runs : World → List Step → World → Type 0
  Runs w [] v = v ≡ w
  Runs w (e ∷ more) v = (next : World) × Happens w e next × Runs next more v

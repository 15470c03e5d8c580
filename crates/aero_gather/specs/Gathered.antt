-- What a gatherer knows: how many questions may be open, those that are, the oldest first, and counts.
use Rattle.std.specs.Prelude.{◌≤◌, All, IfSome, ◌≡◌, ℕ, ◌+◌, ◌-◌, Bool, true, false, is_some, if◌then◌else◌, List, [], ◌∷◌, length, slice_get, Option, Some}
use Rattle.std.specs.Prelude.{None, count_by, is_none}
use Rattle.aero_pieces.specs.declared.question.Question.{Question}
use Rattle.aero_pieces.specs.declared.answer.Value.{Value}
use Rattle.aero_pieces.specs.Values.{IsValueOf}
use Rattle.aero_pieces.specs.Schedule.{Entry, IsWaiting, NoneWaits, Keeps, with_question, with_note, settled_value, IsWorkedOut}
use Rattle.aero_gather.specs.declared.gather.Accepted.{Accepted}
use Rattle.aero_gather.specs.declared.gather.Accepted.TheVariants as accepted
use Rattle.aero_gather.specs.declared.gather.Oldest.{Oldest}
use Rattle.aero_gather.specs.declared.gather.Oldest.TheVariants as oldest
use Rattle.aero_gather.specs.declared.gather.Tally.{Tally}

pub record Gathered : Type 0 where
  pub window : ℕ
  pub entries : List Entry
  pub tally : Tally

-- No more are open than may be, each kept value is one of its question, and of what was asked each has an answer that was kept, was worked
-- out here, or is open without one.
pub record IsGathered (g : Gathered) : Type 0 where
  pub room : length g.entries ≤ g.window
  pub open_were_asked : length g.entries ≤ g.tally.asked
  pub counts : g.tally.asked ≡ g.tally.kept + g.tally.done_here + count_by (λ e. is_none e.value) g.entries
  pub values : All (λ e. IfSome e.value (IsValueOf e.question)) g.entries

-- nothing is open, and nothing was asked
abbrev pub nothing_gathered : ℕ → Gathered
nothing_gathered window = record { window = window; entries = []; tally = record { asked = 0; kept = 0; done_here = 0 } }

-- after a question was asked
abbrev pub with_asked : Gathered → Question → Gathered
with_asked g q = record { window = g.window; entries = with_question g.entries q; tally = record g.tally { asked = g.tally.asked + 1 } }

-- the entry at the place waits for the question, and no older one does
pub record IsOldestWaiting (q : Question) (entries : List Entry) (place : ℕ) : Type 0 where
  pub entry : Entry
  pub at_place : slice_get entries place ≡ Some entry
  pub waits : IsWaiting q entry
  pub oldest : NoneWaits q entries place

-- some entry has the question
abbrev pub IsOpenQuestion : Question → List Entry → Type 0
IsOpenQuestion q entries = (i : ℕ) × (e : Entry) × (slice_get entries i ≡ Some e) × (e.question ≡ q)

-- what becomes of an answer with this question and value, and of the gatherer: only what is kept changes anything
abbrev pub Accepts : Question → Value → Gathered → Gathered → Accepted → Type 0
Accepts q v old new accepted.Kept =
    Keeps q v old.entries new.entries × (new ≡ record { window = old.window; entries = new.entries; tally = record old.tally { kept = old.tally.kept + 1 } })
Accepts q v old new accepted.Repeated = IsOpenQuestion q old.entries × NoneWaits q old.entries (length old.entries) × (new ≡ old)
Accepts q v old new accepted.Stranger = (¬ IsOpenQuestion q old.entries) × (new ≡ old)

-- after it was noted that no answer is to be awaited for the ticket. As many questions were settled as were asked and aren't open
abbrev pub with_missed : Gathered → ℕ → Gathered
with_missed g ticket = record g { entries = with_note (g.tally.asked - length g.entries) ticket g.entries }

-- The question with the ticket is open, has no value, and wasn't noted as missed. As many were settled as were asked and aren't open.
pub record IsAwaited (g : Gathered) (ticket : ℕ) : Type 0 where
  pub entry : Entry
  pub was_asked : g.tally.asked - length g.entries ≤ ticket
  pub at_place : slice_get g.entries (ticket - (g.tally.asked - length g.entries)) ≡ Some entry
  pub no_value : entry.value ≡ None
  pub not_missed : entry.missed ≡ false

abbrev pub state_of : Option Value → Bool → Oldest
state_of (Some v) missed = oldest.Kept
state_of None true = oldest.Missed
state_of None false = oldest.Awaited

-- what is known of the oldest open question
abbrev pub oldest_of : List Entry → Oldest
oldest_of [] = oldest.Nothing
oldest_of (e ∷ more) = state_of e.value e.missed

-- the oldest open question leaves, and its value is given: the kept one, or else one that is worked out here
abbrev pub Settles : Gathered → List Entry → Gathered → Option Value → Type 0
Settles old [] new given = (given ≡ None) × (new ≡ old)
Settles old (e ∷ more) new given =
    (v : Value) × IsWorkedOut e v × (given ≡ Some (settled_value e v))
    × (new ≡ record {
      window = old.window;
      entries = more;
      tally = record old.tally { done_here = if is_some e.value then old.tally.done_here else old.tally.done_here + 1 };
    })

-- what is given is a value of the oldest open question, where one is open
abbrev pub GivesKnown : List Entry → Option Value → Type 0
GivesKnown [] given = given ≡ None
GivesKnown (e ∷ more) given = (v : Value) × IsValueOf e.question v × (given ≡ Some v)

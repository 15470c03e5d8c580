-- The questions that are open, as contracts see them: whatever the helpers reply, those of each kind stay in their order until they are given back.
use Rattle.std.specs.Prelude.{◌≡◌, ℕ, ◌+◌, ◌*◌, List, [], ◌∷◌, ◌++◌, map, length, Option, Some, None}
use Rattle.aero_pieces.specs.declared.question.Question.{Question}
use Rattle.aero_pieces.specs.declared.question.Question.TheVariants.{Parse, Check}
use Rattle.aero_pieces.specs.declared.answer.Value.{Value}
use Rattle.aero_pieces.specs.Values.{IsValueOf}
use Rattle.aero_pieces.specs.Schedule.{Entry}
use Rattle.aero_gather.specs.Gathered.{Gathered}
use Rattle.aero_batch.specs.declared.kind.Kind.{Kind}
use Rattle.aero_batch.specs.declared.kind.Kind.TheVariants as kinds
use Rattle.aero_intake.specs.Stories.{trace_of, chunks_asked, checks_asked}

-- the open questions on chunks and those on verdicts, the oldest first, and how many were asked
pub record Inquired : Type 0 where
  pub chunks : List Question
  pub verdicts : List Question
  pub asked : ℕ

abbrev pub questions_of : Gathered → List Question
questions_of g = map (λ e. e.question) g.entries

abbrev pub nothing_asked : Inquired
nothing_asked = record { chunks = []; verdicts = []; asked = 0 }

-- all that are open
abbrev pub all_open : Inquired → List Question
all_open i = i.verdicts ++ i.chunks

abbrev pub open_count : Inquired → ℕ
open_count i = length i.verdicts + length i.chunks

-- those of one kind
abbrev pub open_of : Kind → Inquired → List Question
open_of kinds.Parse i = i.chunks
open_of kinds.Check i = i.verdicts

-- the same with these of one kind
abbrev pub with_open : Kind → Inquired → List Question → Inquired
with_open kinds.Parse i qs = record i { chunks = qs }
with_open kinds.Check i qs = record i { verdicts = qs }

-- a question of the kind is asked
abbrev pub with_question : Kind → Inquired → Question → Inquired
with_question kinds.Parse i q = record { chunks = i.chunks ++ q ∷ []; verdicts = i.verdicts; asked = i.asked + 1 }
with_question kinds.Check i q = record { chunks = i.chunks; verdicts = i.verdicts ++ q ∷ []; asked = i.asked + 1 }

-- No question on a verdict is among those on chunks, and none on a chunk among those on verdicts.
pub record AreApart (i : Inquired) : Type 0 where
  pub no_checks : (s : ℕ) → checks_asked s i.chunks ≡ []
  pub no_chunks : (s : ℕ) → chunks_asked s i.verdicts ≡ []

-- The first of the questions leaves, and its value is given with the number of its trace: `left` says what stands once these are left.
abbrev pub Gives : List Question → (List Question → Inquired) → Inquired → Option (ℕ × Value) → Type 0
Gives [] left new given = (given ≡ None) × (new ≡ left [])
Gives (q ∷ rest) left new given = (v : Value) × IsValueOf q v × (given ≡ Some (trace_of q, v)) × (new ≡ left rest)

-- The oldest open question leaves the gatherer, and one of its values is given.
abbrev pub SettlesKnown : Gathered → List Entry → Gathered → Option Value → Type 0
SettlesKnown old [] new given = (given ≡ None) × (new ≡ old)
SettlesKnown old (e ∷ more) new given =
    (v : Value) × IsValueOf e.question v × (given ≡ Some v) × (new.entries ≡ more) × (new.tally.asked ≡ old.tally.asked) × (new.window ≡ old.window)

-- The same, where its value is given with the number of its trace, and so many are left.
abbrev pub TakesFront : Gathered → List Entry → Gathered → Option (ℕ × Value) → Type 0
TakesFront old [] new given = (given ≡ None) × (new ≡ old)
TakesFront old (e ∷ more) new given =
    (v : Value) × IsValueOf e.question v × (given ≡ Some (trace_of e.question, v)) × (new.entries ≡ more) × (new.tally.asked ≡ old.tally.asked)
    × (new.window ≡ old.window)

-- The questions stay open, as many as there were, and no more are asked.
pub record StaysOpen (old new : Gathered) : Type 0 where
  pub questions : questions_of new ≡ questions_of old
  pub count : length new.entries ≡ length old.entries
  pub asked : new.tally.asked ≡ old.tally.asked
  pub window : new.window ≡ old.window

abbrev pub kind_of : Question → Kind
kind_of (Parse trace number bytes) = kinds.Parse
kind_of (Check trace parts limits labels end order explain) = kinds.Check

-- The number of a job tells the kind of its question, and its ticket among those of its kind.
abbrev pub job_number : Kind → ℕ → ℕ
job_number kinds.Parse ticket = ticket * 2
job_number kinds.Check ticket = ticket * 2 + 1

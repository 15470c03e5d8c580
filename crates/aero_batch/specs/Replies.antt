-- What replies do to the open questions.
use Rattle.std.specs.Prelude.{◌≡◌, ◌↔◌, ◌⊎◌, ◌+◌, IsTrue, ℕ, Bool}
use Rattle.aero_gather.specs.Gathered.{Gathered, Accepts, IsAwaited, oldest_of, with_missed}
use Rattle.aero_gather.specs.declared.gather.Oldest.TheVariants as oldest
use Rattle.aero_gather.specs.declared.gather.Accepted.{Accepted}
use Rattle.aero_gather.specs.declared.gather.Accepted.TheVariants.{Kept}
use Rattle.aero_worker.specs.declared.reply.Reply.{Reply}
use Rattle.aero_worker.specs.declared.reply.Reply.TheVariants.{Done, Missed}
use Rattle.aero_batch.specs.declared.kind.Kind.{Kind}
use Rattle.aero_batch.specs.declared.kind.Kind.TheVariants as kinds
use Rattle.aero_batch.specs.declared.gathers.Gathers.{Gathers}
use Rattle.aero_batch.specs.Inquiries.{Inquired, StaysOpen, kind_of, job_number, questions_of}

-- the gatherer of a kind
abbrev pub of_kind : Kind → Gathers → Gathered
of_kind kinds.Parse g = g.chunks
of_kind kinds.Check g = g.verdicts

-- the same with this one for a kind
abbrev pub with_kind : Kind → Gathers → Gathered → Gathers
with_kind kinds.Parse g gatherer = record g { chunks = gatherer }
with_kind kinds.Check g gatherer = record g { verdicts = gatherer }

-- the open questions of both, and how many were asked
abbrev pub inquired : Gathers → Inquired
inquired g = record { chunks = questions_of g.chunks; verdicts = questions_of g.verdicts; asked = g.chunks.tally.asked + g.verdicts.tally.asked }

-- All questions stay open, and no more are asked.
pub record AllStay (old new : Gathers) : Type 0 where
  pub chunks : StaysOpen old.chunks new.chunks
  pub verdicts : StaysOpen old.verdicts new.verdicts

-- The gatherer of one kind is changed so, and the other one isn't.
pub record ChangesOne (kind : Kind) (old new : Gathers) (changes : Gathered → Gathered → Type 0) : Type 0 where
  pub changed : changes (of_kind kind old) (of_kind kind new)
  pub chunks : kind ≡ kinds.Check → new.chunks ≡ old.chunks
  pub verdicts : kind ≡ kinds.Parse → new.verdicts ≡ old.verdicts

-- The question of the job with this number, if it is open and has no answer, is noted as missed.
abbrev pub Misses : ℕ → Gathers → Gathers → Type 0
Misses number old new =
    (kind : Kind) × (ticket : ℕ) × (number ≡ job_number kind ticket) × ChangesOne kind old new (λ a b. b ≡ with_missed a ticket)

-- What a reply does, and whether it is of use: an answer is accepted by the gatherer of its question's kind, and is of use
-- where it is kept, and a question that has none is noted as missed, which is of use where it is news.
abbrev pub Heeds : Reply → Gathers → Gathers → Bool → Type 0
Heeds (Done answer) old new is_of_use =
    (accepted : Accepted) × ChangesOne (kind_of answer.question) old new (λ a b. Accepts answer.question answer.value a b accepted)
    × (IsTrue is_of_use ↔ (accepted ≡ Kept))
Heeds (Missed number) old new is_of_use =
    (kind : Kind) × (ticket : ℕ) × (number ≡ job_number kind ticket) × ChangesOne kind old new (λ a b. b ≡ with_missed a ticket)
    × (IsTrue is_of_use ↔ IsAwaited (of_kind kind old) ticket)

-- A question of the kind is open, and the oldest has an answer, or none is to be awaited.
abbrev pub IsAnswered : Kind → Gathers → Type 0
IsAnswered kind g = (oldest_of (of_kind kind g).entries ≡ oldest.Kept) ⊎ (oldest_of (of_kind kind g).entries ≡ oldest.Missed)

-- The first and the last events of transactions.
use Rattle.std.specs.Prelude.{◌≡◌, ◌≢◌, ◌<◌, ℕ, List, length, slice_get, slice_index_or, Option, Some, None}
use Rattle.aero_model.specs.declared.numbered.Numbered.{Numbered}
use Rattle.aero_model.specs.Blocks.{transaction, HasEnded}
use Rattle.aero_witness.specs.declared.visit.Visit.{Visit}
use Rattle.aero_witness.specs.Parts.{IsFirst}
use Rattle.aero_judge.specs.declared.spans.Span.{Span}
use Rattle.aero_verdict.specs.Explained.{IsLastOf}

-- of the first n events, the one at place last is the last one with this first place
pub record IsLastWith (firsts : List ℕ) (n first last : ℕ) : Type 0 where
  pub within : last < n
  pub at : slice_get firsts last ≡ Some first
  pub none : (m : ℕ) → last < m → m < n → slice_get firsts m ≢ Some first

-- for each first place of the first n events the last one with it
pub record AreLastsTo (firsts : List ℕ) (n : ℕ) (lasts : List ℕ) : Type 0 where
  pub each : length lasts ≡ length firsts
  pub at : (i first : ℕ) → i < n → slice_get firsts i ≡ Some first → IsLastWith firsts n first (slice_index_or lasts first 0)

abbrev pub AreLasts : List ℕ → List ℕ → Type 0
AreLasts firsts lasts = AreLastsTo firsts (length firsts) lasts

-- the last place of the transaction of the event at this place, if it has ended
abbrev pub IsEndOf : List Numbered → ℕ → Option ℕ → Type 0
IsEndOf events place None = ¬ HasEnded events (length events) (transaction events place)
IsEndOf events place (Some last) = HasEnded events (length events) (transaction events place) × IsLastOf events (length events) place last

-- the span of the transaction of the event at this place
pub record IsSpan (events : List Numbered) (place : ℕ) (span : Span) : Type 0 where
  pub first : IsFirst events (transaction events place) span.first
  pub last : IsEndOf events place span.last

abbrev pub IsSpanOf : List Numbered → Visit → Span → Type 0
IsSpanOf events v span = IsSpan events v.enters span

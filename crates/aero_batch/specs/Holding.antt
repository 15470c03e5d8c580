-- What holds of a run between two steps.
use Rattle.std.specs.Prelude.{◌≡◌, true, ℕ, ◌+◌, ◌*◌, ◌<◌, ◌≤◌, ◌^◌, List, [], ◌++◌, map, length, slice_get, Option, Some, None, vec_len, vec_capacity}
use Rattle.std.specs.List.{concat}
use Rattle.aero_model.specs.declared.verdict.Ending.{Ending}
use Rattle.aero_model.specs.declared.verdict.Ending.TheVariants as endings
use Rattle.aero_model.specs.CallCounts.{Seen}
use Rattle.aero_model.specs.Verdicts.{no_counts, total}
use Rattle.aero_report.specs.declared.form.Form.{Form}
use Rattle.aero_batch.specs.declared.underway.Underway.{Underway}
use Rattle.aero_telling.specs.declared.told.Told.{Told}
use Rattle.aero_telling.specs.Labels.{AreBegunAmong, HasFlagsFor, HasNoneBegun}
use Rattle.aero_telling.specs.Founds.{Sighted, whose, Found, Took, ending_of, counts_of_all, lines_of_all, notable}
use Rattle.aero_intake.specs.Intake.{IsTaken, HasCome}
use Rattle.aero_intake.specs.Source.{WasRead}
use Rattle.aero_batch.specs.Inquiries.{AreApart, all_open, open_count}
use Rattle.aero_batch.specs.Steps.{IsStart}
use Rattle.aero_intake.specs.Stories.{Story, AreEnough, BeginAlike, AreTracked}
use Rattle.aero_judge.specs.Finding.{IsFinding}
use Rattle.aero_model.specs.Terms.{Terms}

-- of a source that was not read yet
abbrev pub nothing_known : Story
nothing_known = record { pieces = []; chunks = []; ending = None }

-- The source at place s has ended, and this is its story.
pub record HasEnded (terms : Terms) (old now : List Sighted) (s : ℕ) (story : Story) : Type 0 where
  pub before : Sighted
  pub after : Sighted
  pub ending : Ending
  pub was : slice_get old s ≡ Some before
  pub is : slice_get now s ≡ Some after
  pub ended : story.ending ≡ Some ending
  pub read : WasRead before.reader after.reader terms.rules.limits.bytes (concat story.pieces) ending

-- These bytes have come from the source at place s, and it has ended so, if it has.
abbrev pub HasComeFrom : Terms → List Sighted → List Sighted → ℕ → List ℕ → Option Ending → Type 0
HasComeFrom terms old now s bytes ending =
    (before after : Sighted) → slice_get old s ≡ Some before → slice_get now s ≡ Some after →
    HasCome before.reader after.reader terms.rules.limits.bytes bytes ending

-- The open questions on chunks and on verdicts stand apart. Each source has a story: it has ended, is being read, or was not read yet. What
-- is known of each fits its story. Of the chunks that the source that is being read was cut into, enough were asked about, and where some
-- of it was passed over those decide. If it is read no further, some of it was passed over, and the terms ask for that. The pieces that were
-- cut or passed over and what is held have come from it, and its reading has ended so, if it has.
pub record Holds (terms : Terms) (old now : List Sighted) (p : Underway) (tale : ℕ → Story) : Type 0 where
  pub apart : AreApart p.inquiry
  pub tracked : AreTracked terms (all_open p.inquiry) tale p.tracks.items
  pub ended : (s : ℕ) → s < p.read → HasEnded terms old now s (tale s)
  pub cut : List (List ℕ)
  pub taken : IsTaken p.intake (tale p.read).pieces cut
  pub enough : AreEnough terms (tale p.read).chunks cut
  pub passed : p.intake.passed ≡ true → BeginAlike terms (tale p.read).chunks cut
  pub stopped : p.ended ≡ Some endings.Stopped → (terms.stop ≡ true) × (p.intake.passed ≡ true)
  pub come : HasComeFrom terms old now p.read (concat (tale p.read).pieces ++ p.intake.held) p.ended
  pub asked : p.chunks ≡ length (tale p.read).chunks
  pub not_ended : (tale p.read).ending ≡ None
  pub later : (s : ℕ) → p.read < s → (tale s ≡ nothing_known) × (slice_get now s ≡ slice_get old s)

-- The numbers of a run over so many sources: there is always room for one more question's number, since a source has at most 2^46 + 2
-- questions on its chunks and one on its verdict.
pub record Counted (terms : Terms) (sources : ℕ) (p : Underway) : Type 0 where
  pub tracks : length p.tracks.items ≡ sources
  pub few_sources : sources ≤ 65536
  pub read : p.read ≤ sources
  pub checked : p.checked ≤ p.read
  pub open_few : open_count p.inquiry ≤ 64
  pub within : p.intake.count ≤ terms.rules.limits.bytes + 1
  pub few_bytes : terms.rules.limits.bytes ≤ 2 ^ 46
  pub chunks : p.chunks + length p.intake.held ≤ p.intake.count
  pub asked : p.inquiry.asked ≤ p.read * 70368744177666 + p.chunks + p.checked

-- what is told of a source fits its story
pub record Tells (terms : Terms) (old : List Sighted) (s : ℕ) (story : Story) (found : Found) : Type 0 where
  pub before : Sighted
  pub was : slice_get old s ≡ Some before
  pub name : found.name ≡ before.name
  pub bytes : found.bytes ≡ concat story.pieces
  pub ending : story.ending ≡ Some found.ending
  pub finding : ∥ IsFinding found.bytes found.ending terms found.finding ∥₁

-- The first sources were told, as many as there are founds, and nothing else was written.
pub record AreTold (terms : Terms) (form : Form) (old : List Sighted) (before after : Seen) (p : Underway) (told : Told) (tale : ℕ → Story)
    (founds : List Found) : Type 0 where
  pub tells : (s : ℕ) (found : Found) → slice_get founds s ≡ Some found → Tells terms old s (tale s) found
  pub few : length founds ≤ p.checked
  pub took : Took before after (lines_of_all form founds)
  pub endings : told.endings.items ≡ map ending_of founds
  pub notables : told.notables.items ≡ map notable founds
  pub counts : told.counts ≡ counts_of_all founds
  pub begun : AreBegunAmong terms founds told.begun
  pub flags : HasFlagsFor terms.rules.labels.labels told.begun
  pub total_is : total told.counts ≡ length founds
  pub room : vec_capacity told.endings ≡ length old
  pub notables_room : vec_capacity told.notables ≡ length old

-- between two steps
pub record Stands (terms : Terms) (form : Form) (old now : List Sighted) (before after : Seen) (p : Underway) (told : Told) : Type 0 where
  pub tale : ℕ → Story
  pub founds : List Found
  pub holds : Holds terms old now p tale
  pub are_told : AreTold terms form old before after p told tale founds
  pub counted : Counted terms (length old) p
  pub names : map whose now ≡ map whose old

-- The numbers of a run, and of what was told in it, over so many sources.
pub record HasNumbers (terms : Terms) (sources : ℕ) (p : Underway) (told : Told) : Type 0 where
  pub counted : Counted terms sources p
  pub told_few : vec_len told.endings ≤ p.checked
  pub total_is : total told.counts ≡ vec_len told.endings
  pub room : vec_capacity told.endings ≡ sources
  pub as_many : vec_len told.notables ≡ vec_len told.endings
  pub notables_room : vec_capacity told.notables ≡ sources

-- before the first step
pub record IsBegun (terms : Terms) (sources : ℕ) (p : Underway) (told : Told) : Type 0 where
  pub start : IsStart terms sources p
  pub few : sources ≤ 65536
  pub few_bytes : terms.rules.limits.bytes ≤ 2 ^ 46
  pub endings : told.endings.items ≡ []
  pub notables : told.notables.items ≡ []
  pub counts : told.counts ≡ no_counts
  pub begun : HasNoneBegun told.begun
  pub flags : HasFlagsFor terms.rules.labels.labels told.begun
  pub room : vec_capacity told.endings ≡ sources
  pub notables_room : vec_capacity told.notables ≡ sources

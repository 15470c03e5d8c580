-- What is told of the sources whose lanes have ended.
use Rattle.std.specs.Prelude.{◌≡◌, ℕ, ◌+◌, ◌<◌, ◌≤◌, Bool, true, false, List, [], ◌++◌, map, length, take, slice_get, vec_len, vec_capacity, Option, Some, None}
use Rattle.std.specs.Prelude.{Result, Ok, Err}
use Rattle.std.specs.Io.KnownBytes.{Appends}
use Rattle.aero_intake.specs.declared.found.Found as model
use Rattle.aero_model.specs.CallCounts.{Seen}
use Rattle.aero_report.specs.declared.form.Form.{Form}
use Rattle.aero_model.specs.Verdicts.{no_counts, total}
use Rattle.aero_report.specs.Forms.{source_line_in}
use Rattle.aero_telling.specs.declared.cause.Cause.{Cause}
use Rattle.aero_telling.specs.declared.cause.Cause.TheVariants.{Memory, Write}
use Rattle.aero_telling.specs.declared.told.Told.{Told}
use Rattle.aero_telling.specs.Founds.{Found, Took, ending_of, notable, lines_of_all, counts_of_all}
use Rattle.aero_telling.specs.Labels.{AreBegunAmong, HasFlagsFor, HasNoneBegun}
use Rattle.aero_telling.specs.Telling.{TellsFound}
use Rattle.aero_intake.specs.Source.{Sight}
use Rattle.aero_intake.specs.declared.source.SourceOf.{SourceOf}
use Rattle.aero_lanes.specs.declared.seat.Seat.{Seat}
use Rattle.aero_lanes.specs.declared.seat.Seat.TheVariants.{Done}
use Rattle.aero_lanes.specs.Seats.{AreSeated, IsFoundBy}
use Rattle.aero_model.specs.Terms.{Terms}

-- The first sources were told, as many as there are founds, and nothing else was written.
pub record AreToldSo {R : Type 0} (known : R → Sight) (terms : Terms) (form : Form) (origin : List (SourceOf R)) (before after : Seen)
    (seats : List (Seat R)) (told : Told) (founds : List Found) : Type 0 where
  pub found : (place : ℕ) (found : Found) → slice_get founds place ≡ Some found → IsFoundBy known terms origin seats place found
  pub took : Took before after (lines_of_all form founds)
  pub endings : told.endings.items ≡ map ending_of founds
  pub notables : told.notables.items ≡ map notable founds
  pub counts : told.counts ≡ counts_of_all founds
  pub begun : AreBegunAmong terms founds told.begun
  pub flags : HasFlagsFor terms.rules.labels.labels told.begun

-- The numbers of what was told over so many sources.
pub record HasNumbersOf (sources : ℕ) (told : Told) : Type 0 where
  pub few : vec_len told.endings ≤ sources
  pub few_sources : sources ≤ 65536
  pub total_is : total told.counts ≡ vec_len told.endings
  pub room : vec_capacity told.endings ≡ sources
  pub as_many : vec_len told.notables ≡ vec_len told.endings
  pub notables_room : vec_capacity told.notables ≡ sources

-- before anything is told of so many sources, and of these labels
pub record IsBegunSo (labels : List (List ℕ)) (sources : ℕ) (told : Told) : Type 0 where
  pub endings : told.endings.items ≡ []
  pub notables : told.notables.items ≡ []
  pub counts : told.counts ≡ no_counts
  pub room : vec_capacity told.endings ≡ sources
  pub notables_room : vec_capacity told.notables ≡ sources
  pub begun : HasNoneBegun told.begun
  pub flags : HasFlagsFor labels told.begun

-- between two steps
pub record StandsSo {R : Type 0} (known : R → Sight) (terms : Terms) (form : Form) (origin : List (SourceOf R)) (before after : Seen)
    (seats : List (Seat R)) (told : Told) : Type 0 where
  pub seated : AreSeated known terms origin seats
  pub founds : List Found
  pub told_so : AreToldSo known terms form origin before after seats told founds

-- the text that comes after those of the founds
abbrev pub IsTextAfter : {R : Type 0} → (R → Sight) → Terms → Form → List (SourceOf R) → List (Seat R) → List Found → List ℕ → Type 0
IsTextAfter known terms form origin seats founds text =
    (found : Found) × IsFoundBy known terms origin seats (length founds) found × (text ≡ source_line_in form found.name found.finding)

-- a part of the next text was written, and then a write failed
pub record WasCutSo {R : Type 0} (known : R → Sight) (terms : Terms) (form : Form) (origin : List (SourceOf R)) (seats : List (Seat R)) (founds : List Found)
    (before after : Seen) : Type 0 where
  pub text : List ℕ
  pub next : IsTextAfter known terms form origin seats founds text
  pub written : ℕ
  pub part : written < length text
  pub went : Appends before.bytes after.bytes (lines_of_all form founds ++ take written text)
  pub faults : after.faults ≡ before.faults + 1

abbrev pub IsWrittenSo : {R : Type 0} → (R → Sight) → Terms → Form → List (SourceOf R) → List (Seat R) → List Found → Seen → Seen → Option Cause → Type 0
IsWrittenSo known terms form origin seats founds before after None = (length founds ≡ length origin) × Took before after (lines_of_all form founds)
IsWrittenSo known terms form origin seats founds before after (Some Memory) = Took before after (lines_of_all form founds)
IsWrittenSo known terms form origin seats founds before after (Some Write) = WasCutSo known terms form origin seats founds before after

-- where the telling stops
pub record StopsSo {R : Type 0} (known : R → Sight) (terms : Terms) (form : Form) (origin : List (SourceOf R)) (before after : Seen)
    (seats : List (Seat R)) (told : Told) (cause : Option Cause) : Type 0 where
  pub seated : AreSeated known terms origin seats
  pub founds : List Found
  pub found : (place : ℕ) (found : Found) → slice_get founds place ≡ Some found → IsFoundBy known terms origin seats place found
  pub endings : told.endings.items ≡ map ending_of founds
  pub notables : told.notables.items ≡ map notable founds
  pub counts : told.counts ≡ counts_of_all founds
  pub begun : AreBegunAmong terms founds told.begun
  pub written : IsWrittenSo known terms form origin seats founds before after cause

-- what is told of a source whose lane has ended: where nothing was found memory was refused
abbrev pub TellsEnd : Form → List ℕ → Option model.Found → Seen → Seen → Told → Told → Result Bool Cause → Type 0
TellsEnd form name (Some found) before after old new result = TellsFound form name found before after old new result
TellsEnd form name None before after old new (Err Memory) = Took before after [] × (new ≡ old)
TellsEnd form name None before after old new (Err Write) = ⊥
TellsEnd form name None before after old new (Ok told) = ⊥

abbrev pub TellsSeat : {R : Type 0} → Form → Seat R → Seen → Seen → Told → Told → Result Bool Cause → Type 0
TellsSeat form (Done end) before after old new result = TellsEnd form end.source.name.items end.found before after old new result
TellsSeat form seat before after old new (Ok true) = ⊥
TellsSeat form seat before after old new (Ok false) = (after ≡ before) × (new ≡ old)
TellsSeat form seat before after old new (Err cause) = ⊥

-- the same of the next seat, if there is one
abbrev pub TellsNextSeat : {R : Type 0} → Form → Option (Seat R) → Seen → Seen → Told → Told → Result Bool Cause → Type 0
TellsNextSeat form (Some seat) before after old new result = TellsSeat form seat before after old new result
TellsNextSeat form None before after old new (Ok true) = ⊥
TellsNextSeat form None before after old new (Ok false) = (after ≡ before) × (new ≡ old)
TellsNextSeat form None before after old new (Err cause) = ⊥

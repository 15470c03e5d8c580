-- What goes out on standard output and standard error.
use Rattle.std.specs.Prelude.{◌≡◌, ◌+◌, ◌<◌, ◌⊎◌, ℕ, List, length, take, Option, if◌then◌else◌, is_some}
use Rattle.std.specs.Io.KnownBytes.{Appends, Keeps}
use Rattle.std.specs.declared.io.ErrorKind.{ErrorKind}
use Rattle.aero_model.specs.declared.counting.Counting.{Counting}
use Rattle.aero_model.specs.CallCounts.{Seen, inner_of, seen_by}
use Rattle.aero_telling.specs.Founds.{Took}
use Rattle.aero_program.specs.declared.lasting.Lasting.{Lasting}
use Rattle.aero_program.specs.declared.output.Output.{Output}
use Rattle.aero_program.specs.declared.retrying.Retrying.{Retrying}
use Rattle.aero_program.specs.Faults.{kept_by}
use Rattle.aero_program.specs.Retries.{tried_by}

abbrev pub writer_of : {W : Type 0} → Output W → Counting (Lasting (Retrying W))
writer_of output = output.writer

-- what is written to within
abbrev pub written_by : {W : Type 0} → Lasting (Retrying W) → W
written_by writer = tried_by (kept_by writer)

abbrev pub stream_of : {W : Type 0} → Output W → W
stream_of output = written_by (inner_of (writer_of output))

-- how many flushes have failed
abbrev pub unflushed_of : {W : Type 0} → Output W → ℕ
unflushed_of output = output.unflushed.number

-- standard output at a moment: what is seen of its writer, and how many flushes have failed
pub record Shown : Type 0 where
  pub writer : Seen
  pub unflushed : ℕ

-- `known` is the type's own word for the bytes that a writer holds
abbrev pub shown_by : {W : Type 0} → (W → Option (List ℕ)) → Output W → Shown
shown_by known output = record { writer = seen_by (λ w. known (written_by w)) (writer_of output); unflushed = unflushed_of output }

-- a front of the text went out that is not all of it, and then a write failed
pub record WasCut (before after : Seen) (text : List ℕ) : Type 0 where
  pub written : ℕ
  pub part : written < length text
  pub went : Appends before.bytes after.bytes (take written text)
  pub faults : after.faults ≡ before.faults + 1

-- the text went out, as far as a write didn't fail
abbrev pub IsTold : Seen → Seen → List ℕ → Type 0
IsTold before after text = Took before after text ⊎ WasCut before after text

-- a flush, which failed with this kind or didn't, changed nothing else
pub record WasFlushed (before after : Shown) (fault : Option ErrorKind) : Type 0 where
  pub bytes : Keeps before.writer.bytes after.writer.bytes
  pub faults : after.writer.faults ≡ before.writer.faults
  pub unflushed : after.unflushed ≡ before.unflushed + (if is_some fault then 1 else 0)

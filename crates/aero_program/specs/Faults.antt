-- How the first call of a writer that failed did.
use Rattle.std.specs.Prelude.{ℕ, List, Option, Some, None, Result, Ok, Err, if◌then◌else◌}
use Rattle.std.specs.declared.io.ErrorKind.{ErrorKind}
use Rattle.std.specs.declared.io.ErrorKind.TheVariants.{WriteZero}
use Rattle.aero_model.specs.CallCounts.{moves_nothing}
use Rattle.aero_program.specs.declared.lasting.Lasting.{Lasting}

-- the writer within
abbrev pub kept_by : {W : Type 0} → Lasting W → W
kept_by writer = writer.inner

-- how the first call that failed did
abbrev pub first_of : {W : Type 0} → Lasting W → Option ErrorKind
first_of writer = writer.first

-- how a call failed, if it did; `kind` is the kind of an error
abbrev pub fault_of : {T E : Type 0} → (E → ErrorKind) → Result T E → Option ErrorKind
fault_of kind (Ok value) = None
fault_of kind (Err error) = Some (kind error)

-- how a write failed, if it did; one that took nothing of at least one byte has failed too
abbrev pub write_fault_of : {E : Type 0} → (E → ErrorKind) → Result ℕ E → List ℕ → Option ErrorKind
write_fault_of kind result buffer = if moves_nothing result buffer then Some WriteZero else fault_of kind result

-- the first of two failures, of which the second comes later
abbrev pub first_fault : Option ErrorKind → Option ErrorKind → Option ErrorKind
first_fault (Some kind) later = Some kind
first_fault None later = later

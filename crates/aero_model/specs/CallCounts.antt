-- What contracts see of a counting reader or writer: what it hands its calls to, and two numbers.
use Rattle.std.specs.Prelude.{ℕ, ◌==◌, ◌&&◌, nat_lt, Bool, false, List, length, Option, Result, Ok, Err}
use Rattle.aero_model.specs.declared.counting.Counting.{Counting}

abbrev pub inner_of : {T : Type 0} → Counting T → T
inner_of c = c.inner

-- how many reads and writes have failed, writes that took nothing of at least one byte among them
abbrev pub faults_of : {T : Type 0} → Counting T → ℕ
faults_of c = c.faults.number

-- how many reads that asked for at least one byte gave 0
abbrev pub ends_of : {T : Type 0} → Counting T → ℕ
ends_of c = c.ends.number

-- whether a call with this buffer moved no byte, though there was one to move
abbrev pub moves_nothing : {E : Type 0} → Result ℕ E → List ℕ → Bool
moves_nothing (Ok n) buffer = (n == 0) && nat_lt 0 (length buffer)
moves_nothing (Err e) buffer = false

-- what contracts see of a counting reader or writer at a moment: the bytes that it has left or that it holds, where they are known, and the two numbers
pub record Seen : Type 0 where
  pub bytes : Option (List ℕ)
  pub faults : ℕ
  pub ends : ℕ

-- `known` is the type's own word for these bytes
abbrev pub seen_by : {T : Type 0} → (T → Option (List ℕ)) → Counting T → Seen
seen_by known c = record { bytes = known (inner_of c); faults = faults_of c; ends = ends_of c }

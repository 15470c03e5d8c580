-- What a call did to the trace that a monitor holds.
use Rattle.std.specs.Prelude.{◌≡◌, ◌≢◌, ◌⊎◌, ◌<◌, ◌^◌, ℕ, Bool, true, false, List, [], take, length, Option, Some, None, is_some, IfSome, if◌then◌else◌}
use Rattle.aero_model.specs.Lines.{EndsLine}
use Rattle.aero_model.specs.declared.limits.Limits.{Limits}
use Rattle.aero_model.specs.Exempt.{Listed}
use Rattle.aero_model.specs.declared.verdict.Cycle.{Cycle}
use Rattle.aero_model.specs.declared.verdict.Verdict.{Verdict}
use Rattle.aero_model.specs.declared.verdict.Finding.TheVariants.{Judged}
use Rattle.aero_report.specs.Texts.{cycle_lines, source_line}
use Rattle.aero_feed.specs.Feeding.{Feeding, IsTextVerdict, IsCertainOf, IsOpenText, ShowsText}
use Rattle.aero_c.specs.declared.numbers.Numbers.{Numbers}
use Rattle.aero_c.specs.Numbers.{numbers_of}
use Rattle.aero_c.specs.Statuses.{done, unheld, in_use, no_memory, short, no_name, many_labels}
use Rattle.aero_c.specs.Labels.{AreLabels, AreTooMany, IsListOf}

-- A call that leaves the trace where it is: it was done, or memory is or was refused, and stays so. The rules stay the same.
pub record Answered (was now : Feeding) (status : ℕ) (did : Type 0) : Type 0 where
  pub told : (status ≡ done) ⊎ (status ≡ no_memory)
  pub does : status ≡ done → did
  pub rules : now.rules ≡ was.rules
  pub explains : now.explains ≡ was.explains
  pub spent : status ≡ no_memory → now.is_spent ≡ true
  pub was_unspent : status ≡ done → was.is_spent ≡ false
  pub stays_spent : was.is_spent ≡ true → now.is_spent ≡ true

-- there is one, and it has the property
abbrev pub Holds : Option Feeding → (Feeding → Type 0) → Type 0
Holds None P = ⊥
Holds (Some trace) P = P trace

-- where there is no trace a status says so
abbrev pub Answers : Option Feeding → Option Feeding → ℕ → (Feeding → Feeding → Type 0) → Type 0
Answers None new status Did = (status ≡ unheld) × (new ≡ None)
Answers (Some was) new status Did = Holds new (λ now. Answered was now status (Did was now))

-- the limits of a source, and those of a long one
pub record AreLimitsOf (is_long : Bool) (limits : Limits) : Type 0 where
  pub bytes : limits.bytes ≡ (if is_long then 2 ^ 46 else 2 ^ 30)
  pub lines : limits.lines ≡ (if is_long then 4000000000 else 2 ^ 28)
  pub threads : limits.threads ≡ 2 ^ 16
  pub names : limits.names ≡ 2 ^ 26

-- nothing was fed yet, under these limits and with these labels, a violation is to be shown or not, and blocks that are open end or don't
pub record IsBegun (trace : Feeding) (is_long explains ends : Bool) (labels : Listed) : Type 0 where
  pub text : trace.text ≡ []
  pub limits : AreLimitsOf is_long trace.rules.limits
  pub labelled : trace.rules.labels ≡ labels
  pub explained : trace.explains ≡ explains
  pub ended : trace.rules.end ≡ ends
  pub certain : trace.certain ≡ None
  pub unspent : trace.is_spent ≡ false

-- A trace is begun; where memory was refused the monitor has none, as before.
pub record Begun (new : Option Feeding) (status : ℕ) (is_long explains ends : Bool) (labels : Listed) : Type 0 where
  pub told : (status ≡ done) ⊎ (status ≡ no_memory)
  pub begun : status ≡ done → Holds new (λ trace. IsBegun trace is_long explains ends labels)
  pub refused : status ≡ no_memory → new ≡ None

-- a trace is begun where the monitor has none
abbrev pub Begins : Option Feeding → Option Feeding → ℕ → (is_long explains ends : Bool) → Listed → Type 0
Begins None new status is_long explains ends labels = Begun new status is_long explains ends labels
Begins (Some was) new status is_long explains ends labels = (status ≡ in_use) × (new ≡ Some was)

-- why labels are refused: one is no name, or has no byte 10 behind it; or there are too many; or memory is refused
abbrev pub IsRefusal : List ℕ → ℕ → Type 0
IsRefusal text status = ((status ≡ no_name) × (AreLabels text → ⊥)) ⊎ ((status ≡ many_labels) × AreTooMany text) ⊎ (status ≡ no_memory)

-- A trace is begun where there is none and the labels aren't refused. Where it isn't, the monitor has what it had.
pub record BeginsLabelled (old new : Option Feeding) (status : ℕ) (is_long is_only explains ends : Bool) (text : List ℕ) : Type 0 where
  pub told : (status ≡ done) ⊎ ((status ≡ in_use) × (is_some old ≡ true)) ⊎ IsRefusal text status
  pub begun : status ≡ done → (old ≡ None) × ((listed : Listed) × IsListOf listed is_only text × Holds new (λ trace. IsBegun trace is_long explains ends listed))
  pub kept : status ≢ done → new ≡ old

-- it is told whether the verdict is certain, whatever bytes come: 1 where it is, and else 0
pub record IsAsked (was now : Feeding) (answer : ℕ) : Type 0 where
  pub text : now.text ≡ was.text
  pub told : answer ≡ (if is_some now.certain then 1 else 0)
  pub certain : IfSome now.certain (IsCertainOf now.text now.rules)
  pub going_on : answer ≡ 0 → EndsLine now.text → IsOpenText now.text now.rules

-- A verdict is told as numbers. What its line in the report has behind the source's name stands at the front of the buffer, or has more
-- bytes than the buffer, or memory was refused.
pub record Tells (verdict : Verdict) (status : ℕ) (numbers : Numbers) (buffer : List ℕ) (size : ℕ) : Type 0 where
  pub told : (status ≡ done) ⊎ (status ≡ short) ⊎ (status ≡ no_memory)
  pub in_numbers : numbers ≡ numbers_of verdict
  pub written : status ≡ done → take size buffer ≡ source_line [] (Judged verdict)
  pub counted : status ≡ done → size ≡ length (source_line [] (Judged verdict))
  pub needed : status ≡ short → size ≡ length (source_line [] (Judged verdict))
  pub no_room : status ≡ short → length buffer < size

-- this is the verdict on the trace, and it is told
pub record Concluded (trace : Feeding) (verdict : Verdict) (status : ℕ) (numbers : Numbers) (buffer : List ℕ) (size : ℕ) : Type 0 where
  pub is_verdict : IsTextVerdict trace.text trace.rules verdict
  pub was_unspent : trace.is_spent ≡ false
  pub tells : Tells verdict status numbers buffer size

-- memory is or was refused, or the verdict is told
abbrev pub Concludes : Feeding → ℕ → Numbers → List ℕ → ℕ → Type 0
Concludes trace status numbers buffer size = (status ≡ no_memory) ⊎ ((verdict : Verdict) × Concluded trace verdict status numbers buffer size)

-- the trace is judged and let go
abbrev pub Judges : Option Feeding → ℕ → Numbers → List ℕ → ℕ → Type 0
Judges None status numbers buffer size = status ≡ unheld
Judges (Some trace) status numbers buffer size = Concludes trace status numbers buffer size

-- the lines that show a violation, if one is shown
abbrev pub lines_shown : Option Cycle → List ℕ
lines_shown None = []
lines_shown (Some cycle) = cycle_lines cycle

-- What shows the violation that is certain by now is told, if one is and is to be shown: its lines stand at the front of the buffer, or have more
-- bytes than the buffer.
pub record Shown (was now : Feeding) (status : ℕ) (buffer : List ℕ) (size : ℕ) (cycle : Option Cycle) : Type 0 where
  pub text : now.text ≡ was.text
  pub rules : now.rules ≡ was.rules
  pub explains : now.explains ≡ was.explains
  pub was_unspent : was.is_spent ≡ false
  pub certain : IfSome now.certain (IsCertainOf now.text now.rules)
  pub going_on : now.certain ≡ None → EndsLine now.text → IsOpenText now.text now.rules
  pub shows : ShowsText now.explains now.certain now.text now.rules cycle
  pub told : (status ≡ done) ⊎ (status ≡ short)
  pub counted : size ≡ length (lines_shown cycle)
  pub written : status ≡ done → take size buffer ≡ lines_shown cycle
  pub no_room : status ≡ short → length buffer < size

-- memory is or was refused, and stays so
pub record Refused (was now : Feeding) (status : ℕ) : Type 0 where
  pub told : status ≡ no_memory
  pub rules : now.rules ≡ was.rules
  pub explains : now.explains ≡ was.explains
  pub spent : now.is_spent ≡ true

abbrev pub Shows : Feeding → Feeding → ℕ → List ℕ → ℕ → Type 0
Shows was now status buffer size = Refused was now status ⊎ ((cycle : Option Cycle) × Shown was now status buffer size cycle)

-- the same of the trace that a monitor holds, which stays
abbrev pub ShowsHeld : Option Feeding → Option Feeding → ℕ → List ℕ → ℕ → Type 0
ShowsHeld None new status buffer size = (status ≡ unheld) × (new ≡ None)
ShowsHeld (Some was) new status buffer size = Holds new (λ now. Shows was now status buffer size)

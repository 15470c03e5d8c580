-- What a line says. A line comes without the byte 10 that ends it.
use Rattle.std.specs.Prelude.{◌≡◌, ℕ, ◌-◌, ◌==◌, nat_lt, Bool, false, not, ◌&&◌, ◌||◌, if◌then◌else◌, List, length, take, drop, slice_index, bytes_eq, codes, Option, Some, None, Result, Ok, Err, ◌<◌, ◌⊎◌}
use Rattle.std.specs.List.{list_any, list_all, prefix_len, suffix_len, before_first, after_first}
use Rattle.std.specs.Str.Lines.{strip_carriage_return}
use Rattle.aero_model.specs.declared.event.Op.{Op}
use Rattle.aero_model.specs.declared.event.Op.TheVariants.{Read, Write, Acquire, Release, Fork, Join, Begin, End}
use Rattle.aero_model.specs.declared.verdict.LineFault.{LineFault}
use Rattle.aero_model.specs.declared.verdict.LineFault.TheVariants.{TooLong, BadByte, NoOperation, EmptyThread, UnknownOperation, BadParenthesis, MissingTarget, NameTooLong, Memory}
use Rattle.aero_model.specs.Exempt.{label_of}
use Rattle.aero_model.specs.Lines.{is_line_end, is_too_long}
use Rattle.aero_model.specs.Named.{Named, stands_alone}
use Rattle.aero_model.specs.Names.{is_bad_byte, most_name_bytes, most_inline_bytes}

-- a line has no event, or one event, or a fault
pub data Meaning : Type 0 where
  Blank : Meaning
  Means : Named → Meaning
  Faulty : LineFault → Meaning

-- `|`, `(`, and a space or a tab
abbrev pub is_bar : ℕ → Bool
is_bar b = b == 124

abbrev pub is_parenthesis : ℕ → Bool
is_parenthesis b = b == 40

abbrev pub is_blank : ℕ → Bool
is_blank b = (b == 32) || (b == 9)

-- a byte that is bad and ends no line
abbrev pub is_unfit : ℕ → Bool
is_unfit b = if is_line_end b then false else is_bad_byte b

-- the bytes without the spaces and tabs at both ends
abbrev pub trimmed : List ℕ → List ℕ
trimmed bytes =
    let front = drop (prefix_len is_blank bytes) bytes in
    take (length front - suffix_len is_blank front) front

-- the first field: what stands before the first `|`
abbrev pub thread_field : List ℕ → List ℕ
thread_field text = trimmed (before_first is_bar text)

-- the second field: what stands between the first `|` and the next, or the end
abbrev pub operation_field : List ℕ → List ℕ
operation_field text = trimmed (before_first is_bar (after_first is_bar text))

-- the operation's word stands before the first `(` of its field
abbrev pub operation_word : List ℕ → List ℕ
operation_word field = before_first is_parenthesis field

abbrev pub longer_operation_of : List ℕ → Option Op
longer_operation_of word =
    if bytes_eq word (codes "fork") then Some Fork else
    if bytes_eq word (codes "join") then Some Join else
    if bytes_eq word (codes "begin") then Some Begin else
    if bytes_eq word (codes "end") then Some End else None

abbrev pub operation_of : List ℕ → Option Op
operation_of word =
    if bytes_eq word (codes "r") then Some Read else
    if bytes_eq word (codes "w") then Some Write else
    if bytes_eq word (codes "acq") then Some Acquire else
    if bytes_eq word (codes "rel") then Some Release else longer_operation_of word

-- the field has a `(`, and its last byte is no `)`
abbrev pub is_unclosed : List ℕ → Bool
is_unclosed field = list_any is_parenthesis field && not (slice_index field (length field - 1) == 41)

-- the target stands between the first `(` of the field and its last byte
abbrev pub target_bytes : List ℕ → List ℕ
target_bytes field =
    let inside = after_first is_parenthesis field in
    take (length inside - 1) inside

abbrev pub is_long_name : List ℕ → Bool
is_long_name name = nat_lt most_name_bytes (length name)

-- a label has 1 to 255 bytes: what is longer, or nothing, is none
abbrev pub label_in : List ℕ → Option (List ℕ)
label_in bytes = if (length bytes == 0) || is_long_name bytes then None else Some bytes

-- The target of a begin is its label, if it has one. An end has no target: what stands in its parentheses says nothing.
abbrev pub target_of : Op → List ℕ → Option (List ℕ)
target_of op field = if stands_alone op then label_of op (label_in (target_bytes field)) else Some (target_bytes field)

-- what a known operation says
abbrev pub operation_meaning : List ℕ → List ℕ → Op → Meaning
operation_meaning thread field op =
    if is_unclosed field then Faulty BadParenthesis else
    if not (stands_alone op) && (length (target_bytes field) == 0) then Faulty MissingTarget else
    if is_long_name thread || (not (stands_alone op) && is_long_name (target_bytes field)) then Faulty NameTooLong else
    Means (record { thread = thread; op = op; target = target_of op field })

abbrev pub word_meaning : List ℕ → List ℕ → Option Op → Meaning
word_meaning thread field None = Faulty UnknownOperation
word_meaning thread field (Some op) = operation_meaning thread field op

-- The first test that holds decides. The length is the whole line's, and one byte 13 at the end is then dropped.
abbrev pub meaning : List ℕ → Meaning
meaning line =
    let text = strip_carriage_return line in
    let field = operation_field text in
    if is_too_long line then Faulty TooLong else
    if list_any is_bad_byte text then Faulty BadByte else
    if list_all is_blank text then Blank else
    if not (list_any is_bar text) then Faulty NoOperation else
    if length (thread_field text) == 0 then Faulty EmptyThread else
    word_meaning (thread_field text) field (operation_of (operation_word field))

abbrev pub HasLongTarget : Option (List ℕ) → Type 0
HasLongTarget None = ⊥
HasLongTarget (Some target) = most_inline_bytes < length target

-- a name of the event is too long to be kept without an allocation
abbrev pub NeedsMemory : Named → Type 0
NeedsMemory e = (most_inline_bytes < length e.thread) ⊎ HasLongTarget e.target

-- The answer for a line with this meaning. Where memory is refused, the line has an event, and one of its names needs memory.
abbrev pub TellsMeaning : Result (Option Named) LineFault → Meaning → Type 0
TellsMeaning (Ok None) m = m ≡ Blank
TellsMeaning (Ok (Some e)) m = m ≡ Means e
TellsMeaning (Err Memory) m = (e : Named) × (m ≡ Means e) × NeedsMemory e
TellsMeaning (Err f) m = m ≡ Faulty f

-- the answer for a line that has an event or a fault
abbrev pub TellsLineEvent : Result Named LineFault → Meaning → Type 0
TellsLineEvent (Ok e) m = TellsMeaning (Ok (Some e)) m
TellsLineEvent (Err f) m = TellsMeaning (Err f) m

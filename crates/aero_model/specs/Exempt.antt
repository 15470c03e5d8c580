-- Blocks that are no transactions. A begin can be exempt. It and the end that matches it are then judged as events of their thread, and nothing more.
use Rattle.std.specs.Prelude.{◌≡◌, ℕ, zero, suc, ◌-◌, ◌==◌, ◌&&◌, nat_lt, not, Bool, true, false, if◌then◌else◌, List, [], ◌∷◌, ◌++◌, length, map, bytes_eq, slice_get, Option, Some, None}
use Rattle.std.specs.List.{list_any}
use Rattle.aero_model.specs.declared.numbered.Numbered.{Numbered}
use Rattle.aero_model.specs.declared.numbered.What.{What}
use Rattle.aero_model.specs.declared.numbered.What.TheVariants.{Begin, End, Exempt}
use Rattle.aero_model.specs.declared.event.Op.{Op}
use Rattle.aero_model.specs.declared.event.Op.TheVariants as op
use Rattle.aero_model.specs.Named.{Named}
use Rattle.aero_model.specs.Numbering.{Tables, tables_of, numbered}
use Rattle.aero_model.specs.Blocks.{is_begin, by_thread, depth}

-- an event, and whether it is exempt where it is a begin
pub record Marked : Type 0 where
  pub event : Numbered
  pub exempt : Bool

-- the events as they were read
abbrev pub read_events : List Marked → List Numbered
read_events marked = map (λ m. m.event) marked

-- how many blocks of the thread are open before place n, exempt ones too
abbrev pub nest : List Marked → ℕ → ℕ → ℕ
nest marked t n = depth (read_events marked) t n

abbrev pub is_marked : Option Marked → Bool
is_marked None = false
is_marked (Some m) = m.exempt

-- whether the latest begin of the thread before place n at which so many blocks were open is exempt
abbrev pub is_latest_exempt : List Marked → ℕ → ℕ → ℕ → Bool
is_latest_exempt marked t level zero = false
is_latest_exempt marked t level (suc n) =
    if by_thread t is_begin (slice_get (read_events marked) n) && (nest marked t n == level) then is_marked (slice_get marked n) else is_latest_exempt marked t level n

-- Whether an end of the thread is exempt after these: where the begin is that it matches, the latest at which one block fewer was open.
abbrev pub ends_exempt : List Marked → ℕ → Bool
ends_exempt before t =
    let level = nest before t (length before) in
    nat_lt 0 level && is_latest_exempt before t (level - 1) (length before)

abbrev pub judged_what : List Marked → ℕ → Bool → What → What
judged_what before t exempt (Begin label) = if exempt then Exempt else Begin None
judged_what before t exempt End = if ends_exempt before t then Exempt else End
judged_what before t exempt what = what

-- the event as it is judged after these: exempt or not, and without a label
abbrev pub judged : List Marked → Marked → Numbered
judged before m = record { thread = m.event.thread; what = judged_what before m.event.thread m.exempt m.event.what }

abbrev pub judged_after : List Marked → List Marked → List Numbered
judged_after before [] = []
judged_after before (m ∷ more) = judged before m ∷ judged_after (before ++ m ∷ []) more

-- The trace that is judged. In it the depth of a thread counts the blocks that aren't exempt.
abbrev pub judged_trace : List Marked → List Numbered
judged_trace marked = judged_after [] marked

-- a begin without a label, an end, or an exempt one of either
abbrev pub IsBare : What → Type 0
IsBare (Begin None) = Unit {0}
IsBare End = Unit {0}
IsBare Exempt = Unit {0}
IsBare _ = ⊥

-- what the operation is judged as: a begin or an end as a begin without a label, an end or an exempt one, any other as itself
abbrev pub IsJudgedWhat : What → What → Type 0
IsJudgedWhat (Begin label) judged = IsBare judged
IsJudgedWhat End judged = IsBare judged
IsJudgedWhat Exempt judged = IsBare judged
IsJudgedWhat what judged = judged ≡ what

-- what the event that was read is judged as: an event of the same thread
pub record IsJudgedAs (e judged : Numbered) : Type 0 where
  pub thread : judged.thread ≡ e.thread
  pub what : IsJudgedWhat e.what judged.what

abbrev pub label_of : Op → Option (List ℕ) → Option (List ℕ)
label_of op.Begin target = target
label_of _ target = None

abbrev pub is_listed : List (List ℕ) → Option (List ℕ) → Bool
is_listed labels None = false
is_listed labels (Some label) = list_any (bytes_eq label) labels

-- The labels that are listed: of blocks that are no transactions, or of the only blocks that are
pub record Listed : Type 0 where
  pub labels : List (List ℕ)
  pub only : Bool

-- just the blocks with these labels are no transactions
abbrev pub these : List (List ℕ) → Listed
these labels = record { labels = labels; only = false }

-- all blocks but those with these labels are no transactions
abbrev pub all_but : List (List ℕ) → Listed
all_but labels = record { labels = labels; only = true }

-- whether a block that begins with this label, if it has one, is no transaction
abbrev pub leaves_out : Listed → Option (List ℕ) → Bool
leaves_out listed label = if listed.only then not (is_listed listed.labels label) else is_listed listed.labels label

abbrev pub begins_exempt : Listed → Op → Option (List ℕ) → Bool
begins_exempt listed op.Begin target = leaves_out listed target
begins_exempt listed _ target = false

-- whether the event is the begin of a block that is no transaction
abbrev pub is_exempt : Listed → Named → Bool
is_exempt listed e = begins_exempt listed e.op e.target

abbrev pub marked : Listed → Tables → Named → Marked
marked listed tables e = record { event = numbered tables e; exempt = is_exempt listed e }

-- the events by their numbers, in which the begins are exempt of blocks that are no transactions
abbrev pub marked_trace : Listed → List Named → List Marked
marked_trace listed events = map (marked listed (tables_of events)) events

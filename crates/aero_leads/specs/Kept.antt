-- What contracts see of what the engine keeps.
use Rattle.std.specs.Prelude.{◌≡◌, ◌≢◌, ℕ, ◌+◌, ◌*◌, ◌^◌, ◌≤◌, nat_lt, not, ◌==◌, ◌&&◌, ◌||◌, Bool, true, false, if◌then◌else◌, List, [], ◌∷◌, ◌++◌, filter, Option, Some, None, is_some, slice_get, Contains}
use Rattle.aero_leads.specs.declared.row.Lead.{Lead}
use Rattle.aero_leads.specs.declared.last.Last.{Last}
use Rattle.aero_leads.specs.declared.thread.Thread.{Thread}
use Rattle.aero_leads.specs.declared.variable.Variable.{Variable}
use Rattle.aero_leads.specs.Leads.{Rows}
use Rattle.aero_leads.specs.Steps.{gains, lesser, end_rows}

-- the least place that the row has for thread w, if it has one
abbrev pub least_in : List Lead → ℕ → Option ℕ
least_in [] w = None
least_in (l ∷ ls) w = if l.opener == w then lesser (Some l.place) (least_in ls w) else least_in ls w

-- whether there is a place, and it is below this one
abbrev pub is_below : Option ℕ → ℕ → Bool
is_below None n = false
is_below (Some p) n = nat_lt p n

-- What is kept of a thread, where the code may keep nothing of it yet

abbrev pub thread_row : Option Thread → List Lead
thread_row None = []
thread_row (Some t) = t.row.items

abbrev pub thread_in_block : Option Thread → Bool
thread_in_block None = false
thread_in_block (Some t) = t.in_block

abbrev pub thread_begins : Option Thread → ℕ
thread_begins None = 0
thread_begins (Some t) = t.begins

abbrev pub thread_acted : Option Thread → Bool
thread_acted None = false
thread_acted (Some t) = t.acted

abbrev pub rows_in : List Thread → Rows
rows_in threads o w = least_in (thread_row (slice_get threads o)) w

-- blocks and events made are the same
pub record HaveSameBlocks (old new : List Thread) : Type 0 where
  pub in_block : (t : ℕ) → thread_in_block (slice_get new t) ≡ thread_in_block (slice_get old t)
  pub begins : (t : ℕ) → thread_begins (slice_get new t) ≡ thread_begins (slice_get old t)
  pub acted : (t : ℕ) → thread_acted (slice_get new t) ≡ thread_acted (slice_get old t)

-- What is kept of a variable or a lock

abbrev pub last : ℕ → ℕ → Last
last t n = record { thread = t; count = n }

abbrev pub last_or_none : Option Last → Last
last_or_none None = last 0 0
last_or_none (Some l) = l

abbrev pub variable_write : Option Variable → Last
variable_write None = last 0 0
variable_write (Some v) = v.write

-- the event, if there is one
abbrev pub if_any : Last → List Last
if_any l = if l.count == 0 then [] else l ∷ []

abbrev pub latest_read_in : Option Variable → Last
latest_read_in None = last 0 0
latest_read_in (Some v) = v.read

abbrev pub other_reads_in : Option Variable → List Last
other_reads_in None = []
other_reads_in (Some v) = v.others.items

-- the latest read stands behind the others
abbrev pub variable_reads : Option Variable → List Last
variable_reads v = other_reads_in v ++ if_any (latest_read_in v)

-- whether thread w's open block leads to the event, which is of another thread than t
abbrev pub leads_to : Rows → ℕ → ℕ → Last → Bool
leads_to rows t w l = not (l.thread == t) && is_below (rows l.thread w) l.count

-- to one of the events
abbrev pub leads_to_any : Rows → ℕ → ℕ → List Last → Bool
leads_to_any rows t w [] = false
leads_to_any rows t w (l ∷ ls) = leads_to rows t w l || leads_to_any rows t w ls

-- thread t has taken what leads to an event of thread o below a place, and no other row has changed
pub record TakesRow (old new : Rows) (n t o below : ℕ) : Type 0 where
  pub rows : (v w : ℕ) → new v w ≡ (if v == t then gains (old v w) (is_below (old o w) below) n else old v w)

-- what is kept of the threads is the same at each number
pub record AreSameThreads (old new : List Thread) : Type 0 where
  pub rows : (o w : ℕ) → rows_in new o w ≡ rows_in old o w
  pub blocks : HaveSameBlocks old new

-- thread t's row is this one, and nothing else has changed
pub record HasRow (old new : List Thread) (t : ℕ) (row : List Lead) : Type 0 where
  pub rows : (v : ℕ) → thread_row (slice_get new v) ≡ (if v == t then row else thread_row (slice_get old v))
  pub blocks : HaveSameBlocks old new

-- thread t has begun a block at this place
pub record BeginsBlock (old new : List Thread) (t place : ℕ) : Type 0 where
  pub rows : (o w : ℕ) → rows_in new o w ≡ (if (o == t) && (t == w) then lesser (rows_in old o w) (Some place) else rows_in old o w)
  pub in_block : (u : ℕ) → thread_in_block (slice_get new u) ≡ (if t == u then true else thread_in_block (slice_get old u))
  pub begins : (u : ℕ) → thread_begins (slice_get new u) ≡ (if t == u then thread_begins (slice_get old u) + 1 else thread_begins (slice_get old u))
  pub acted : (u : ℕ) → thread_acted (slice_get new u) ≡ thread_acted (slice_get old u)

-- a row after the end of thread t's block, to which the blocks of the row `ended` led
abbrev pub absorbed : (ℕ → Option ℕ) → (ℕ → Option ℕ) → ℕ → ℕ → Option ℕ
absorbed ended row t w = if w == t then None else if is_some (ended w) then lesser (row w) (row t) else row w

-- thread t has ended its block
pub record EndsBlock (old new : List Thread) (t : ℕ) : Type 0 where
  pub rows : (o w : ℕ) → rows_in new o w ≡ end_rows t (rows_in old) o w
  pub in_block : (u : ℕ) → thread_in_block (slice_get new u) ≡ (if t == u then false else thread_in_block (slice_get old u))
  pub begins : (u : ℕ) → thread_begins (slice_get new u) ≡ thread_begins (slice_get old u)
  pub acted : (u : ℕ) → thread_acted (slice_get new u) ≡ thread_acted (slice_get old u)

-- thread t has taken what leads to these events, at place n, and no other row has changed
pub record TakesAll (old new : Rows) (n t : ℕ) (ls : List Last) : Type 0 where
  pub rows : (v w : ℕ) → new v w ≡ (if v == t then gains (old v w) (leads_to_any old t w ls) n else old v w)

-- another thread than t, whose open block leads to t, and t's to it
pub record IsBack (rows : Rows) (t u : ℕ) : Type 0 where
  pub other : u ≢ t
  pub into : is_some (rows t u) ≡ true
  pub back : is_some (rows u t) ≡ true

-- the least such thread, if there is one
abbrev pub IsLeastBack : Rows → ℕ → Option ℕ → Type 0
IsLeastBack rows t None = (u : ℕ) → ¬ IsBack rows t u
IsLeastBack rows t (Some u) = IsBack rows t u × ((v : ℕ) → IsBack rows t v → u ≤ v)

-- the reads without those by thread t
abbrev pub reads_but : ℕ → List Last → List Last
reads_but t ls = filter (λ (l : Last). not (l.thread == t)) ls

-- the reads have one by the same thread that is no earlier
abbrev pub IsCovered : List Last → Last → Type 0
IsCovered ls l = (k : Last) × Contains ls k × (k.thread ≡ l.thread) × (l.count ≤ k.count)

-- some of the reads are left, and cover all of them
pub record AreCompacted (old new : List Last) : Type 0 where
  pub each : (l : Last) → Contains new l → Contains old l
  pub all : (l : Last) → Contains old l → IsCovered new l

-- some of the reads are left, and cover all of them that aren't by thread t
pub record AreKept (t : ℕ) (old new : List Last) : Type 0 where
  pub each : (l : Last) → Contains new l → Contains old l
  pub all : (l : Last) → Contains old l → l.thread ≢ t → IsCovered new l

-- the place of a read in the order by threads, and by counts where these are the same
abbrev pub rank : Last → ℕ
rank l = l.thread * 2 ^ 32 + l.count

-- What contracts see of Leads, and the trace that they stand for.
use Rattle.std.specs.Prelude.{◌≡◌, ◌==◌, ◌<◌, ◌-◌, ◌^◌, ℕ, vec_len, Bool, true, false, if◌then◌else◌, List, Option, Some, None, slice_get, Result}
use Rattle.aero_model.specs.declared.numbered.Numbered.{Numbered}
use Rattle.aero_engine.specs.declared.spent.Spent.{Spent}
use Rattle.aero_engine.specs.Protocol.{View}
use Rattle.aero_engine.specs.Protocol as protocol
use Rattle.aero_engine.specs.Judging as judging
use Rattle.aero_leads.specs.declared.kept.Kept.{Kept}
use Rattle.aero_leads.specs.declared.leads.Leads.{Leads}
use Rattle.aero_leads.specs.Kept.{rows_in, thread_in_block, thread_begins, thread_acted, variable_write, variable_reads, last_or_none}
use Rattle.aero_leads.specs.Steps.{end_rows}
use Rattle.aero_leads.specs.States.{State, IsStateOf, acting}

abbrev pub state_in : Kept → State
state_in k =
    record {
      rows = rows_in k.table.threads.items;
      write = λ x. variable_write (slice_get k.variables.items x);
      reads = λ x. variable_reads (slice_get k.variables.items x);
      release = λ l. last_or_none (slice_get k.releases.items l);
      now = k.events;
      acted = λ t. thread_acted (slice_get k.table.threads.items t);
      begins = λ t. thread_begins (slice_get k.table.threads.items t);
      in_block = λ t. thread_in_block (slice_get k.table.threads.items t);
    }

-- the tests answer the same
pub record AreSameBlocks (old new : State) : Type 0 where
  pub in_block : (t : ℕ) → new.in_block t ≡ old.in_block t
  pub begins : (t : ℕ) → new.begins t ≡ old.begins t
  pub acted : (t : ℕ) → new.acted t ≡ old.acted t

-- all is the same
pub record AreSame (old new : State) : Type 0 where
  pub rows : (o w : ℕ) → new.rows o w ≡ old.rows o w
  pub write : (x : ℕ) → new.write x ≡ old.write x
  pub reads : (x : ℕ) → new.reads x ≡ old.reads x
  pub release : (l : ℕ) → new.release l ≡ old.release l
  pub now : new.now ≡ old.now
  pub blocks : AreSameBlocks old new

-- thread t has ended its block, and nothing else has changed
pub record EndsState (old new : State) (t : ℕ) : Type 0 where
  pub rows : (o w : ℕ) → new.rows o w ≡ end_rows t old.rows o w
  pub write : (x : ℕ) → new.write x ≡ old.write x
  pub reads : (x : ℕ) → new.reads x ≡ old.reads x
  pub release : (l : ℕ) → new.release l ≡ old.release l
  pub now : new.now ≡ old.now
  pub in_block : (u : ℕ) → new.in_block u ≡ (if t == u then false else old.in_block u)
  pub begins : (u : ℕ) → new.begins u ≡ old.begins u
  pub acted : (u : ℕ) → new.acted u ≡ old.acted u

-- there is room for thread t and one event more
pub record HasRoom (k : Kept) (t : ℕ) : Type 0 where
  pub thread : t < vec_len k.table.threads
  pub event : k.events < 2 ^ 32 - 1

abbrev pub state_of : Leads → State
state_of c = state_in c.kept

-- whether the thread is in a block, how many outermost begins it has made, whether it has made an event
abbrev pub in_block_at : Leads → ℕ → Bool
in_block_at c = (state_of c).in_block

abbrev pub begins_at : Leads → ℕ → ℕ
begins_at c = (state_of c).begins

abbrev pub acted_at : Leads → ℕ → Bool
acted_at c = (state_of c).acted

-- the thread whose block was told, if one was
abbrev pub closed_by : Leads → Option ℕ
closed_by c = c.closed

-- whether memory was refused
abbrev pub is_spent : Leads → Bool
is_spent c = c.spent

-- the engine is in use, and what is kept is right for the trace
pub record StandsFor (c : Leads) (trace : List Numbered) : Type 0 where
  pub unspent : is_spent c ≡ false
  pub unclosed : closed_by c ≡ None
  pub state : IsStateOf (state_of c) trace

abbrev pub view_of : Leads → View
view_of c = record { in_block = in_block_at c; begins = begins_at c; acted = acted_at c; closed = closed_by c; spent = is_spent c }

-- the tests answer the same
abbrev pub HaveSameTests : Leads → Leads → Type 0
HaveSameTests old new = protocol.HaveSameTests (view_of old) (view_of new)

-- what a call leaves, whatever the trace
abbrev pub Answers : Leads → Leads → Result (Option ℕ) Spent → Type 0
Answers old new = protocol.Answers (view_of old) (view_of new)

-- what the answer after the event at place n tells, and for which trace the engine stands then
abbrev pub Tells : Leads → List Numbered → ℕ → Option ℕ → Type 0
Tells new = judging.Tells (StandsFor new)

-- for each trace that the engine stood for
abbrev pub Follows : Leads → Leads → Numbered → Result (Option ℕ) Spent → Type 0
Follows old new = judging.Follows (StandsFor old) (StandsFor new)

-- a call has begun
pub record IsStarted (old new : Leads) (t : ℕ) : Type 0 where
  pub unspent : is_spent old ≡ false
  pub spent : is_spent new ≡ true
  pub closed : closed_by new ≡ closed_by old
  pub state : AreSame (state_of old) (state_of new)
  pub room : HasRoom new.kept t

-- and has been refused
abbrev pub IsRefused : Leads → Leads → Type 0
IsRefused old new = protocol.IsRefused (view_of old) (view_of new)

-- thread t has acted, and the call is done
pub record IsFinished (old new : Leads) (t : ℕ) : Type 0 where
  pub spent : is_spent new ≡ false
  pub closed : closed_by new ≡ closed_by old
  pub state : AreSame (acting (state_of old) t) (state_of new)

-- or this is told
abbrev pub IsToldOf : Leads → Leads → Option ℕ → Type 0
IsToldOf old new = protocol.IsToldOf (view_of old) (view_of new)

abbrev pub IsClosed : Leads → Leads → ℕ → Type 0
IsClosed old new t = IsToldOf old new (Some t)

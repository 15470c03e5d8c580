-- What one event changes in the rows, and what they say of it.
use Rattle.std.specs.Prelude.{◌≡◌, ◌≢◌, ℕ, ◌<◌, ◌≤◌, ◌==◌, ◌&&◌, ◌||◌, min, Bool, true, false, if◌then◌else◌, List, [], ◌∷◌, Option, Some, None, is_some}
use Rattle.aero_model.specs.declared.numbered.Numbered.{Numbered}
use Rattle.aero_model.specs.Blocks.{depth, opens}
use Rattle.aero_engine.specs.declared.slot.Slot.TheVariants.{OfThread}
use Rattle.aero_engine.specs.Slots.{of_slot}
use Rattle.aero_leads.specs.Leads.{Rows, is_led}
use Rattle.aero_leads.specs.Marks.{Mark}

-- whether thread w's open block leads to one of the marks
abbrev pub led_by : Rows → ℕ → List Mark → Bool
led_by rows w [] = false
led_by rows w (m ∷ ms) = is_led (rows m.thread w) m.place || led_by rows w ms

-- a place that is there stays, and where there is none place n may come in
abbrev pub gains : Option ℕ → Bool → ℕ → Option ℕ
gains (Some p) comes n = Some p
gains None comes n = if comes then Some n else None

-- the lesser of the places that are there
abbrev pub lesser : Option ℕ → Option ℕ → Option ℕ
lesser None b = b
lesser (Some p) None = Some p
lesser (Some p) (Some q) = Some (min p q)

-- whether w's open block leads to event e at place n: it led to e's thread or to a mark, or it begins here
abbrev pub arrives : List Numbered → ℕ → Numbered → List Mark → Rows → ℕ → Bool
arrives trace n e ms rows w = is_some (rows e.thread w) || (led_by rows w ms || opens trace w n)

-- the rows after event e at place n: its thread's row, and that of a thread that it forks
abbrev pub event_rows : List Numbered → ℕ → Numbered → List Mark → Rows → Rows
event_rows trace n e ms rows o w = if of_slot (OfThread o) e then gains (rows o w) (arrives trace n e ms rows w) n else rows o w

-- the rows after the end of thread t's block: what leads to t leads to all that the block led to, and t leaves every row
abbrev pub end_rows : ℕ → Rows → Rows
end_rows t rows o w = if w == t then None else if is_some (rows t w) then lesser (rows o w) (rows o t) else rows o w

-- the same by what the event does: thread t takes a mark at place n
abbrev pub take_rows : ℕ → ℕ → Mark → Rows → Rows
take_rows n t m rows o w = if o == t then gains (rows o w) (is_led (rows m.thread w) m.place) n else rows o w

-- one mark after the other
abbrev pub taken_rows : ℕ → ℕ → List Mark → Rows → Rows
taken_rows n t [] rows = rows
taken_rows n t (m ∷ ms) rows = taken_rows n t ms (take_rows n t m rows)

-- thread t begins an outermost block at place n
abbrev pub begin_rows : ℕ → ℕ → Rows → Rows
begin_rows n t rows o w = if (o == t) && (w == t) then Some n else rows o w

-- thread t forks thread u at place n
abbrev pub fork_rows : ℕ → ℕ → ℕ → Rows → Rows
fork_rows n t u rows o w = if o == u then gains (rows o w) (is_some (rows t w)) n else rows o w

module _ (trace : List Numbered) (n t : ℕ) (rows : Rows) where
  -- at an event of thread t: t has an open block, which leads to a mark
  abbrev pub LeadsBack : List Mark → Type 0
  LeadsBack ms = (0 < depth trace t n) × (led_by rows t ms ≡ true)

  -- the thread that the rows name
  abbrev pub IsNamed : List Mark → Option ℕ → Type 0
  IsNamed ms None = ¬ LeadsBack ms
  IsNamed ms (Some u) = (u ≡ t) × LeadsBack ms

  -- at the end of a block of thread t: another thread's open block leads to t, and t's to that thread
  pub record IsClosedAtEnd (u : ℕ) : Type 0 where
    pub other : u ≢ t
    pub is_open : 0 < depth trace u n
    pub into : is_some (rows t u) ≡ true
    pub back : is_some (rows u t) ≡ true

  -- the least one
  abbrev pub IsNamedAtEnd : Option ℕ → Type 0
  IsNamedAtEnd None = (u : ℕ) → ¬ IsClosedAtEnd u
  IsNamedAtEnd (Some u) = IsClosedAtEnd u × ((v : ℕ) → IsClosedAtEnd v → u ≤ v)

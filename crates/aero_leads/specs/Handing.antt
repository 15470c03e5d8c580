-- What the end of a block needs to hand on what led to it, and what it leaves.
use Rattle.std.specs.Prelude.{◌≡◌, ◌≢◌, ℕ, true, List, vec_len, is_some, Result, OnOk, if◌then◌else◌}
use Rattle.std.specs.Global.{Vec}
use Rattle.aero_leads.specs.declared.beside.Beside.{Beside}
use Rattle.aero_leads.specs.declared.led.Led.{Led}
use Rattle.aero_leads.specs.declared.row.Lead.{Lead}
use Rattle.aero_leads.specs.declared.seen.Seen.{Seen}
use Rattle.aero_leads.specs.declared.thread.Thread.{Thread}
use Rattle.aero_leads.specs.Highs.{AreHigh}
use Rattle.aero_leads.specs.Kept.{least_in, rows_in, absorbed, HaveSameBlocks}
use Rattle.aero_leads.specs.Listed.{is_listed, AreListed, Grows}
use Rattle.aero_leads.specs.Seen.{is_seen}
use Rattle.aero_leads.specs.Single.{AreSingle}

-- What is kept beside the rows is so of each thread but t, whose block ends, and of each block but that one.
pub record IsBeside (threads : List Thread) (t : ℕ) (beside : Beside) : Type 0 where
  pub high : AreHigh threads beside.highs
  pub seen : (o v : ℕ) → o ≢ t → v ≢ t → is_seen beside.seen o v ≡ true → is_some (rows_in threads o v) ≡ true

-- each block of the row is known to lead to thread t
abbrev pub AreAmong : List Lead → Seen → ℕ → Type 0
AreAmong row seen t = (v : ℕ) → is_some (least_in row v) ≡ true → is_seen seen t v ≡ true

-- Each thread that is listed with thread t has taken over what led to its block, unless memory was refused. In any case who leads to whom is still listed, each row
-- has each block once, and blocks and events made are the same.
pub record HasSpread {A E : Type 0} (old new : Vec Thread) (led_before led_after : Led) (ended : List Lead) (t : ℕ) (result : Result A E) : Type 0 where
  pub rows : OnOk result ((o w : ℕ) → rows_in new.items o w ≡ (if is_listed led_before t o then absorbed (least_in ended) (rows_in old.items o) t w else rows_in old.items o w))
  pub same : HaveSameBlocks old.items new.items
  pub listed : AreListed old.items led_before → AreListed new.items led_after
  pub grows : Grows led_before led_after
  pub single : AreSingle new.items
  pub room : vec_len new ≡ vec_len old

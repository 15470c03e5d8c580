-- What a thread's gain from another one needs, and what it leaves.
use Rattle.std.specs.Prelude.{◌≡◌, ◌≢◌, ◌<◌, ℕ, vec_len, Result, OnOk}
use Rattle.std.specs.Global.{Vec}
use Rattle.aero_leads.specs.declared.led.Led.{Led}
use Rattle.aero_leads.specs.declared.row.Taking.{Taking}
use Rattle.aero_leads.specs.declared.seen.Seen.{Seen}
use Rattle.aero_leads.specs.declared.thread.Thread.{Thread}
use Rattle.aero_leads.specs.Kept.{rows_in, TakesRow, HaveSameBlocks}
use Rattle.aero_leads.specs.Listed.{AreListed, Grows}
use Rattle.aero_leads.specs.Seen.{AreKnown}
use Rattle.aero_leads.specs.Single.{AreSingle}

-- thread t is there, and isn't the one from which it takes
pub record MayGain (threads : Vec Thread) (seen : Seen) (t : ℕ) (taking : Taking) : Type 0 where
  pub actor : t < vec_len threads
  pub other : taking.from ≢ t
  pub known : AreKnown threads.items seen
  pub single : AreSingle threads.items

-- Thread t has gained what is taken, and what is known of the rows is so, unless memory was refused. In any case who leads to whom is still listed,
-- each row has each block once, and blocks and events made are the same.
pub record HasGained {A E : Type 0} (old new : Vec Thread) (seen : Seen) (led_before led_after : Led) (t : ℕ) (taking : Taking) (result : Result A E) : Type 0 where
  pub gains : OnOk result (TakesRow (rows_in old.items) (rows_in new.items) taking.place t taking.from taking.below)
  pub known : OnOk result (AreKnown new.items seen)
  pub listed : AreListed old.items led_before → AreListed new.items led_after
  pub grows : Grows led_before led_after
  pub single : AreSingle new.items
  pub same : HaveSameBlocks old.items new.items
  pub room : vec_len new ≡ vec_len old

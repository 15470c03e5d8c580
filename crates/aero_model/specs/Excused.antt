-- A block that is no transaction any more from its begin on, and traces in which more begins are exempt.
use Rattle.std.specs.Prelude.{◌≡◌, ℕ, zero, suc, ◌<◌, ◌≤◌, ◌==◌, ◌&&◌, ◌||◌, nat_le, Bool, true, List, [], ◌∷◌, length}
use Rattle.aero_model.specs.declared.numbered.Numbered.{Numbered}
use Rattle.aero_model.specs.Blocks.{depth, opens}
use Rattle.aero_model.specs.Exempt.{Marked}

-- the event at place i, in whose thread begins are exempt from the place `from` on if the thread is t
abbrev pub excused_event : (t from i : ℕ) → Marked → Marked
excused_event t from i m = record m { exempt = m.exempt || ((m.event.thread == t) && nat_le from i) }

abbrev pub excused_after : (t from i : ℕ) → List Marked → List Marked
excused_after t from i [] = []
excused_after t from i (m ∷ more) = excused_event t from i m ∷ excused_after t from (suc i) more

-- the events, of which each begin of thread t from the place `from` on is exempt
abbrev pub excused_open : (t from : ℕ) → List Marked → List Marked
excused_open t from marked = excused_after t from 0 marked

-- at the place `from` a block of thread t begins that is open after the last event
pub record IsOpenBlockAt (trace : List Numbered) (t from : ℕ) : Type 0 where
  pub begins : opens trace t from ≡ true
  pub stays : (n : ℕ) → from < n → n ≤ length trace → 0 < depth trace t n

-- the second list has the same events, and each that is exempt in the first list is exempt in it
abbrev pub ExemptsMore : (fewer more : List Marked) → Type 0
ExemptsMore [] [] = Unit {0}
ExemptsMore (a ∷ fewer) (b ∷ more) = (b.event ≡ a.event) × (a.exempt ≡ true → b.exempt ≡ true) × ExemptsMore fewer more
ExemptsMore _ _ = ⊥

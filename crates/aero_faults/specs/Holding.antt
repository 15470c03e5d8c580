-- What an acquire or a release of a lock makes of its holder.
use Rattle.std.specs.Prelude.{ℕ, ◌+◌, ◌-◌, nat_le, if◌then◌else◌, List, bytes_eq}
use Rattle.aero_faults.specs.declared.holder.Holder.{Holder}
use Rattle.aero_faults.specs.declared.holder.Holder.TheVariants.{Nobody, Thread, Unclear}
use Rattle.aero_faults.specs.declared.holder.Holding.{Holding}

abbrev pub acquired_again : Holding → List ℕ → Holder
acquired_again h t = if bytes_eq h.thread t then Thread (record h { depth = h.depth + 1 }) else Unclear

abbrev pub acquired_by : Holder → (line : ℕ) → List ℕ → Holder
acquired_by Nobody line t = Thread (record { thread = t; line = line; depth = 1 })
acquired_by (Thread h) line t = acquired_again h t
acquired_by Unclear line t = Unclear

abbrev pub released_once : Holding → List ℕ → Holder
released_once h t =
    if bytes_eq h.thread t then (if nat_le h.depth 1 then Nobody else Thread (record h { depth = h.depth - 1 })) else Unclear

abbrev pub released_by : Holder → List ℕ → Holder
released_by (Thread h) t = released_once h t
released_by _ t = Unclear

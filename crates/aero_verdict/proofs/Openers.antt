-- The opener's block, where a trace has a violation.
use Rattle.std.proofs.Common.{◌≡◌, ℕ, suc, ◌<◌, List, take, sym, ◌∙◌, le_refl, arith}
use Rattle.aero_model.specs.declared.numbered.Numbered.{Numbered}
use Rattle.aero_model.specs.Blocks.{blocks, Block, transaction}
use Rattle.aero_model.specs.Cycle.{HasTellingCycle, IsClosing, IsOpener}
use Rattle.aero_model.specs.Graph.{BeginsCycle}
use Rattle.aero_model.specs.Shape.{IsWellFormed}
use Rattle.aero_model.proofs.Begins.{open_number}
use Rattle.aero_model.proofs.Cycles.{begins_open}
use Rattle.aero_model.proofs.Ends.{open_deep}
use Rattle.aero_model.proofs.Stability.{Agree, agree_back, agree_less, blocks_same}
use Rattle.aero_model.proofs.Telling.{telling_from_begins, begins_from_telling, none_begins}
use Rattle.aero_model.proofs.Walks.{begins_same}
use Rattle.aero_model.proofs.WellFormed.{slice_get-take}

-- the opener is the latest block of its thread
pub opener_number : (trace : List Numbered) (n t k : ℕ) → IsWellFormed (take (suc n) trace) → IsClosing trace n → IsOpener trace (suc n) t k → (0 < blocks trace t (suc n)) × (blocks trace t (suc n) ≡ k)
opener_number trace n t k well closing o =
    let front = take (suc n) trace in
    let agree : Agree (suc n) front trace = record { same = λ i less. slice_get-take trace (suc n) i less } in
    let begins : BeginsCycle front (suc n) (Block t k) = begins_same (suc n) trace front (agree_back (suc n) front trace agree) (suc n) (le_refl (suc n)) (Block t k) o.begins in
    let none : ¬ HasTellingCycle front n =
    λ c. closing.before n (le_refl n) (telling_from_begins trace n (transaction front (c.0).enters) (begins_same n front trace (agree_less n (suc n) front trace (omega arith) agree) n (le_refl n) (transaction front (c.0).enters) (begins_from_telling front n c))) in
    let deep = open_deep front (suc n) t k (begins_open front n well (none_begins front n none) (Block t k) begins) in
    let some : 0 < blocks front t (suc n) = open_number front t (suc n) deep.0 in
    let same : blocks front t (suc n) ≡ blocks trace t (suc n) = blocks_same (suc n) front trace agree t (suc n) (le_refl (suc n)) in
    (omega (arith, some, same), sym same ∙ deep.1)

-- What a lane found may go to another thread.
use denote.Enum.Enum.{Enum}
use denote.Enum.Declared as enums
use denote.RattleType.{RattleType}
use denote.Param.Send.{IsSend, enum_send, recorded_send, struct_send, sendable}
use denote.Struct.Struct.{Struct}
use denote.Struct.Declared as structs
use Rattle.std.proofs.Crossing.{crosses}
use Rattle.aero_model.specs.contracts.verdict.Cycle as Cycle
use Rattle.aero_model.specs.contracts.verdict.CycleStep as CycleStep
use Rattle.aero_model.specs.contracts.verdict.Ending as Ending
use Rattle.aero_model.specs.contracts.verdict.Finding as Finding
use Rattle.aero_intake.specs.contracts.begun.Begun as Begun
use Rattle.aero_intake.specs.contracts.found.Found as Found
use Rattle.aero_model.specs.contracts.verdict.Step as Step
use Rattle.aero_model.specs.contracts.verdict.Verdict as Verdict
use Rattle.aero_intake.specs.contracts.source.SourceOf as SourceOf
use Rattle.aero_lanes.specs.contracts.lane.Ended as Ended

verdict_send : IsSend (Enum (enums.shape Verdict.the_type))
verdict_send = search (sendable, crosses) depth 40

step_send : IsSend (Struct (structs.shape Step.the_type))
step_send = search (sendable, crosses) depth 40

cycle_step_send : IsSend (Struct (structs.shape CycleStep.the_type))
cycle_step_send = search (sendable, crosses) depth 60 fits 6000

cycle_send : IsSend (Struct (structs.shape Cycle.the_type))
cycle_send = search (sendable, crosses, cycle_step_send) depth 60 fits 6000

ending_send : IsSend (Enum (enums.shape Ending.the_type))
ending_send = search (sendable, crosses) depth 40

finding_send : IsSend (Enum (enums.shape Finding.the_type))
finding_send = enum_send (enums.shape Finding.the_type) (search (sendable, crosses, verdict_send, step_send, cycle_send) depth 60 fits 6000)

begun_send : IsSend (Struct (structs.shape Begun.the_type))
begun_send = search (sendable, crosses) depth 40

pub found_send : IsSend (Struct (structs.shape Found.the_type))
found_send = struct_send (structs.shape Found.the_type) (search (sendable, crosses, ending_send, finding_send, begun_send) depth 40)

source_send : (R : RattleType) → IsSend R → IsSend (Struct (structs.shape (SourceOf.the_type R)))
source_send R send = struct_send (structs.shape (SourceOf.the_type R)) (search (sendable, crosses) depth 40, (search (send, sendable), (search (sendable, crosses) depth 40, tt)))

pub ended_fields : (R : RattleType) → IsSend R → IsSend (Struct (structs.shape (Ended.the_type R)))
ended_fields R send = struct_send (structs.shape (Ended.the_type R)) (source_send R send, (search (sendable, crosses, found_send) depth 40 fits 4000, tt))

pub ended_send : (R : RattleType) → IsSend R → IsSend (structs.row (Ended.the_type R))
ended_send R send = recorded_send (Struct (structs.shape (Ended.the_type R))) (Ended.the_type R).D (Ended.the_type R).to (Ended.the_type R).to_one (ended_fields R send)

use denote.Param.Send.{sendable}
use Rattle.aero_lanes.proofs.Sending.{ended_send, ended_fields}
use Rattle.aero_lanes.proofs.seat.started.Goals as goal

pub spawn_with-requires-send-T : goal.spawn_with-requires-send-T
spawn_with-requires-send-T g c κs within = search (sendable, ended_send, ended_fields) depth 20

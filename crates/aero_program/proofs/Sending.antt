-- An input may go to another thread where what it reads may, and what opens its file.
use denote.RattleType.{RattleType}
use denote.Enum.Enum.{Enum}
use denote.Enum.Declared as enums
use denote.Struct.Struct.{Struct}
use denote.Struct.Declared as structs
use denote.Param.Send.{IsSend, enum_send, recorded_send, struct_send, sendable}
use Rattle.std.proofs.Crossing.{crosses}
use Rattle.std.specs.contracts.io.ErrorKind as ErrorKind
use Rattle.aero_program.specs.contracts.watched.Failings as Failings
use Rattle.aero_program.specs.contracts.watched.Watched as Watched
use Rattle.aero_program.specs.contracts.retrying.Retrying as Retrying
use Rattle.aero_program.specs.contracts.start.Start as Start
use Rattle.aero_program.specs.contracts.reason.Reason as Reason
use Rattle.aero_program.specs.contracts.stamp.Moment as Moment
use Rattle.aero_program.specs.contracts.stamp.Stamp as Stamp
use Rattle.aero_program.specs.contracts.input.Stage as Stage
use Rattle.aero_program.specs.contracts.input.Input as Input
use Rattle.aero_program.specs.contracts.traced.Traced as Traced

failings_send : IsSend (Struct (structs.shape Failings.the_type))
failings_send = search (sendable, crosses) depth 40

watched_send : (R : RattleType) → IsSend R → IsSend (Struct (structs.shape (Watched.the_type R)))
watched_send R send = struct_send (structs.shape (Watched.the_type R))
    (search (send, sendable), (search (sendable, crosses) depth 40, (search (sendable, crosses) depth 40, (search (sendable, crosses) depth 40, (failings_send, tt)))))

retrying_send : (R : RattleType) → IsSend R → IsSend (Struct (structs.shape (Retrying.the_type R)))
retrying_send R send = struct_send (structs.shape (Retrying.the_type R)) (watched_send R send, (search (sendable, crosses) depth 40, tt))

start_send : IsSend (Enum (enums.shape Start.the_type))
start_send = search (sendable, crosses) depth 40

reason_send : IsSend (Enum (enums.shape Reason.the_type))
reason_send = search (sendable, crosses) depth 40

moment_send : IsSend (Struct (structs.shape Moment.the_type))
moment_send = search (sendable, crosses) depth 40

stamp_send : IsSend (Struct (structs.shape Stamp.the_type))
stamp_send = search (sendable, crosses, moment_send) depth 40

error_kind_send : IsSend (Enum (enums.shape ErrorKind.the_type))
error_kind_send = search (sendable, crosses) depth 100 fits 60000

stage_send : (S O F : RattleType) → IsSend S → IsSend O → IsSend F → IsSend (Enum (enums.shape (Stage.the_type S O F)))
stage_send S O F s o f = enum_send (enums.shape (Stage.the_type S O F))
    ((retrying_send S s, tt), ((o, (search (sendable, crosses) depth 40, tt)), ((f, (search (sendable, crosses, stamp_send) depth 40, tt)), ((search (sendable, crosses, stamp_send) depth 40, tt), (tt, ((error_kind_send, (o, (search (sendable, crosses) depth 40, tt))), ((error_kind_send, (search (sendable, crosses, stamp_send) depth 40, (search (sendable, crosses) depth 40, tt))), ((search (sendable, crosses, stamp_send) depth 40, (search (sendable, crosses) depth 40, tt)), tt))))))))

input_send : (S O F : RattleType) → IsSend S → IsSend O → IsSend F → IsSend (Struct (structs.shape (Input.the_type S O F)))
input_send S O F s o f = struct_send (structs.shape (Input.the_type S O F))
    (stage_send S O F s o f, (start_send, (search (sendable, crosses, reason_send) depth 40, tt)))

traced_send : (S O F : RattleType) (s : _) (o : _) (f : _) → IsSend S → IsSend O → IsSend F → IsSend (Struct (structs.shape (Traced.the_type S O F s o f)))
traced_send S O F s o f send-S send-O send-F = struct_send (structs.shape (Traced.the_type S O F s o f))
    (input_send S O F send-S send-O send-F, (search (sendable, crosses) depth 40, (search (sendable, crosses) depth 40, (search (sendable, crosses) depth 40, (search (sendable, crosses) depth 40, tt)))))

pub traced_row_send : (S O F : RattleType) (s : _) (o : _) (f : _) → IsSend S → IsSend O → IsSend F → IsSend (Traced.the_row S O F s o f)
traced_row_send S O F s o f send-S send-O send-F =
    recorded_send (Struct (structs.shape (Traced.the_type S O F s o f))) (Traced.the_type S O F s o f).D (Traced.the_type S O F s o f).to (Traced.the_type S O F s o f).to_one (traced_send S O F s o f send-S send-O send-F)

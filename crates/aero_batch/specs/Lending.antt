-- What becomes of the open questions where those of one kind are handed out to be changed.
use Rattle.std.specs.Borrow.{Lends, MutBor, Fml}
use Rattle.aero_gather.specs.Gathered.{Gathered}
use Rattle.aero_gather.specs.contracts.gather.Gather as gather
use Rattle.aero_batch.specs.declared.gathers.Gathers.{Gathers}
use Rattle.aero_batch.specs.declared.kind.Kind.{Kind}
use Rattle.aero_batch.specs.contracts.gathers.Gathers.{the_row}
use Rattle.aero_batch.specs.Replies.{with_kind}

-- those of the kind end as what is left behind the result, and the others stay
abbrev pub LendsOfKind : Kind → MutBor Gathers → MutBor Gathered → Fml
LendsOfKind kind gathers result = Lends the_row gather.the_row gathers result (with_kind kind gathers.now)

use Rattle.std.proofs.Common.{sym, ◌∙◌, ap}
use Rattle.aero_access.specs.TableWords.{kept_of, readers_of}
use Rattle.aero_access.proofs.KeptLists.{find_by}
use Rattle.aero_access.proofs.table.Table.join.Goals as goal

pub set-requires-clause-reader : goal.set-requires-clause-reader
set-requires-clause-reader c = λ x t e. find_by (readers_of c.args.self.now x) t c.in-Some.kept.now (sym (c.in-Some.ensures ∙ ap (kept_of c.args.self.now) e))

-- What is noted of a source beside its line, by what is said of it.
use Rattle.std.specs.Prelude.{◌==◌, Option, Some, None, if◌then◌else◌}
use Rattle.aero_model.specs.declared.verdict.Finding.{Finding}
use Rattle.aero_model.specs.declared.verdict.Verdict.{Verdict}
use Rattle.aero_model.specs.declared.verdict.Verdict.TheVariants as verdicts
use Rattle.aero_model.specs.Verdicts.{verdict_of}
use Rattle.aero_telling.specs.declared.notable.Fault.TheVariants.{Malformed, IllFormed}
use Rattle.aero_telling.specs.declared.notable.Notable.{Notable}
use Rattle.aero_telling.specs.declared.notable.Notable.TheVariants.{Faulty, Unchecked}

-- a line is faulty, or there was no block to check
abbrev pub verdict_notable : Verdict → Option Notable
verdict_notable (verdicts.Malformed line fault) = Some (Faulty (record { line = line; fault = Malformed fault }))
verdict_notable (verdicts.IllFormed line fault) = Some (Faulty (record { line = line; fault = IllFormed fault }))
verdict_notable (verdicts.Serializable events blocks) = if blocks == 0 then Some Unchecked else None
verdict_notable verdict = None

-- the same of a source that has this verdict, or has none
abbrev pub notable_by : Option Verdict → Option Notable
notable_by (Some verdict) = verdict_notable verdict
notable_by None = None

abbrev pub notable_of : Finding → Option Notable
notable_of finding = notable_by (verdict_of finding)

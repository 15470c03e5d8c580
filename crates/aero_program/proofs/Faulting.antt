-- What a flush tells.
use Rattle.std.proofs.Common.{◌≡◌, Result, Ok, Err, refl, is_err}
use Rattle.std.specs.Prelude.{is_some}
use Rattle.std.specs.declared.io.ErrorKind.{ErrorKind}
use Rattle.aero_program.specs.Faults.{fault_of}

-- it tells a kind where it fails
pub is_fault : {T E : Type 0} (kind : E → ErrorKind) (r : Result T E) → is_err r ≡ is_some (fault_of kind r)
is_fault kind (Ok x) = refl
is_fault kind (Err e) = refl

-- What contracts see of a traced input.
use Rattle.std.specs.Prelude.{ℕ, List, Option}
use Rattle.aero_intake.specs.Source.{Sight}
use Rattle.aero_program.specs.declared.input.Input.{Input}
use Rattle.aero_program.specs.declared.traced.Traced.{Traced}
use Rattle.aero_program.specs.Led.{sight_at}

abbrev pub input_of : {S O F : Type 0} {s : _} {o : _} {f : _} → Traced S O F s o f → Input S O F
input_of t = t.input

abbrev pub sight_of : {S O F : Type 0} {s : _} {o : _} {f : _} → (stdin : S → Option (List ℕ)) → (known : O → List ℕ → Option (List ℕ)) → (file : F → Option (List ℕ)) → Traced S O F s o f → Sight
sight_of stdin known file t = sight_at stdin known file t.first.value t.input t.given.bytes t.faults.number t.ends.number

-- all bytes that it gave
abbrev pub came_in : {S O F : Type 0} {s : _} {o : _} {f : _} → Traced S O F s o f → List ℕ
came_in t = t.given.bytes

-- What was read of a list, and what holds of a value.
use Rattle.std.proofs.Common.{◌≡◌, ◌<◌, ℕ, List, length, get_or, Some, Result, Ok, Err, sym, ◌∙◌, ap, arith}
use Rattle.std.specs.Prelude.{slice_get, IfOk}
use Rattle.std.proofs.lemmas.Option.{slice_get-get_or}

-- what was read of a list at a place within stands there
pub at_read : {X : Type 0} (items read : List X) (place : ℕ) (d : X) → read ≡ items → place < length items → slice_get items place ≡ Some (get_or read place d)
at_read items read place d is less =
    let long = ap length is in
    ap (λ xs. slice_get xs place) (sym is) ∙ slice_get-get_or read place d (omega (arith, long, less))

pub as_well : {T E : Type 0} (r : Result T E) (P Q : T → Type 0) → ((x : T) → P x → Q x) → IfOk r P → IfOk r Q
as_well (Ok x) P Q thus is = thus x is
as_well (Err e) P Q thus is = tt

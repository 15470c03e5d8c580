-- What one write of the rest of a text does, where an `Err` counts as no byte taken.
use Rattle.std.proofs.Common.{◌≡◌, ℕ, ◌+◌, ◌-◌, ◌<◌, ◌≤◌, List, ◌++◌, length, take, drop, length-drop, cond, Option, Result, Ok, Err, sym, ap, ◌∙◌, subst, arith}
use Rattle.std.proofs.Math.Seq.{take-add}
use Rattle.std.proofs.lemmas.List.{take_rest}
use Rattle.std.proofs.lemmas.Bool.Decides.{nat_tests}
use Rattle.std.specs.Prelude.{is_err, ◌||◌}
use Rattle.std.specs.Result.{result_unwrap_or}
use Rattle.std.specs.Io.{WritesAtMost}
use Rattle.std.specs.Io.KnownBytes.{Appends, WriteAppends}
use Rattle.std.proofs.KnownBytes.{Appends-nil, Appends-kept, Appends-trans}
use Rattle.aero_model.specs.CallCounts.{moves_nothing}

-- no more is taken than the rest of the text
pub taken_within : {E : Type 0} (r : Result ℕ E) (text : List ℕ) (written : ℕ) → written ≤ length text
    → WritesAtMost r (take (length text - written) (drop written text)) → written + result_unwrap_or r 0 ≤ length text
taken_within (Ok n) text written before h =
    let at_rest : n ≤ length (drop written text) = rw (← take_rest text written) h in
    omega (arith, length-drop written text)
taken_within (Err e) text written before h = omega arith

taken_appends : {E : Type 0} (r : Result ℕ E) (a b : Option (List ℕ)) (buffer : List ℕ) → WriteAppends a b r buffer
    → Appends a b (take (result_unwrap_or r 0) buffer)
taken_appends (Ok n) a b buffer h = h
taken_appends (Err e) a b buffer h = Appends-kept a a b _ (Appends-nil a) h

-- the front of the text went out before, and the write appended a front of the rest
pub front_appends : {E : Type 0} (r : Result ℕ E) (a b c : Option (List ℕ)) (text : List ℕ) (written : ℕ) → Appends a b (take written text)
    → WriteAppends b c r (take (length text - written) (drop written text)) → Appends a c (take (written + result_unwrap_or r 0) text)
front_appends r a b c text written before write =
    let taken = result_unwrap_or r 0 in
    let rest = take (length text - written) (drop written text) in
    let joined : take (written + taken) text ≡ take written text ++ take taken rest =
    take-add written taken text ∙ ap (λ l. take written text ++ take taken l) (sym (take_rest text written)) in
    subst (Appends a c) (sym joined) (Appends-trans a b c _ _ before (taken_appends r b c rest write))

-- a write that took a byte is no fault
pub same_faults : {E : Type 0} (r : Result ℕ E) (buffer : List ℕ) (old new : ℕ) → 0 < result_unwrap_or r 0
    → new ≡ old + cond (is_err r || moves_nothing r buffer) 1 0 → new ≡ old
same_faults (Ok n) buffer old new some h = grind (arith, nat_tests)
same_faults (Err e) buffer old new some h = absurd (omega arith)

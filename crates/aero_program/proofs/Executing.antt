-- What was executed is what was asked for, with the streams as they are left.
use Rattle.std.proofs.Common.{◌≡◌, ℕ, List, Option, Result, sym, subst}
use Rattle.aero_model.specs.CallCounts.{Seen}
use Rattle.aero_program.specs.declared.command.Config.{Config}
use Rattle.aero_program.specs.declared.command.Stop.{Stop}
use Rattle.aero_program.specs.declared.stamp.Stamp.{Stamp}
use Rattle.aero_program.specs.Executed.{Executes}
use Rattle.aero_program.specs.Streams.{Shown}

pub executed : (known : List ℕ → Option (List ℕ)) (can_fail : List ℕ → Type 0) (holds : List ℕ → Stamp → Option (List ℕ) → Type 0) (asked for : Result Config Stop)
    (given : Option (List ℕ)) (left kept : Option Seen) (shown out shown_after : Shown) (told err told_after : Seen) (status n : ℕ) →
    asked ≡ for → left ≡ kept → out ≡ shown_after → err ≡ told_after → status ≡ n →
    Executes known can_fail holds for given kept shown shown_after told told_after n → Executes known can_fail holds asked given left shown out told err status
executed known can_fail holds asked for given left kept shown out shown_after told err told_after status n for_is left_is out_is err_is status_is is =
    subst (λ a. Executes known can_fail holds a given left shown out told err status) (sym for_is)
    (subst (λ l. Executes known can_fail holds for given l shown out told err status) (sym left_is)
    (subst (λ (o : Shown). Executes known can_fail holds for given kept shown o told err status) (sym out_is)
    (subst (λ (e : Seen). Executes known can_fail holds for given kept shown shown_after told e status) (sym err_is)
    (subst (λ s. Executes known can_fail holds for given kept shown shown_after told told_after s) (sym status_is) is))))

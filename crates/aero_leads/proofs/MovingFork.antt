-- How what is kept moves with a fork.
use Rattle.std.proofs.Common.{◌≡◌, ℕ, suc, ◌<◌, List, [], ◌∷◌, ◌++◌, length, None, refl, sym, ap, ap₂, ◌∙◌, arith}
use Rattle.std.specs.Prelude.{◌==◌, false, if◌then◌else◌}
use Rattle.std.proofs.lemmas.Bool.{both_ways}
use Rattle.aero_model.specs.declared.numbered.Numbered.{Numbered}
use Rattle.aero_model.specs.declared.numbered.What.TheVariants.{Fork}
use Rattle.aero_model.specs.Blocks.{closes}
use Rattle.aero_model.specs.Shape.{IsWellFormed}
use Rattle.aero_engine.specs.Events.{event}
use Rattle.aero_engine.proofs.LongerTraces.{slice_get-push, no_end, no_begin}
use Rattle.aero_leads.specs.Leads.{is_led, IsUnled, AreFirst}
use Rattle.aero_leads.specs.Marks as takes
use Rattle.aero_leads.specs.Steps.{gains, fork_rows}
use Rattle.aero_leads.specs.Kept.{is_below, TakesRow}
use Rattle.aero_leads.specs.States.{State, IsStateOf, acting, Moves}
use Rattle.aero_leads.proofs.ByKind.{first_as, first_forked}
use Rattle.aero_leads.proofs.Told.{rows_tell}
use Rattle.aero_leads.proofs.StateSteps.{IsAfter}
use Rattle.aero_leads.proofs.StateSteps as steps
use Rattle.aero_leads.proofs.Placed.{below_now, unled_gains, unled_if}

pub moves_fork : (old new : State) (t u : ℕ) → TakesRow old.rows new.rows old.now u t old.now → IsAfter old (acting new t) (event t (Fork u)) false false → Moves old new (event t (Fork u)) false
moves_fork old new t u gained after = record {
  told = λ h stands ok c. cc;
  stands = λ h stands ok c. forked h stands ok;
}
  where
    e : Numbered
    e = event t (Fork u)

    forked : (h : List Numbered) → IsStateOf old h → IsWellFormed (h ++ e ∷ []) → IsStateOf (acting new t) (h ++ e ∷ [])
    forked h stands ok =
        steps.stands_after old h e stands (acting new t) false false (no_begin h t (Fork u) refl) ends after still
        (first_as more (suc (length h)) (fork_rows (length h) t u old.rows) new.rows same (first_forked more ok (length h) e (slice_get-push h e) old.rows first u refl))
        ((rows_tell more ok (length h) e (slice_get-push h e) old.rows first (steps.none old h e stands) [] (takes.plain refl) ends None).0 (λ c. both_ways _ refl c.1))
      where
        more : List Numbered
        more = h ++ e ∷ []

        ends : closes more t (length h) ≡ false
        ends = no_end h t (Fork u) refl

        first : AreFirst more (length h) old.rows
        first = steps.first old h e stands

        still : (v q : ℕ) → q < length h → IsUnled old.rows v q → IsUnled new.rows v q
        still v q l unled w =
            ap (λ r. is_led r q) (gained.rows v w)
            ∙ unled_if (v == u) _ _ q (unled_gains (old.rows v w) (is_below (old.rows t w) old.now) old.now q (omega (arith, l, stands.now)) (unled w)) (unled w)

        same : (o w : ℕ) → fork_rows (length h) t u old.rows o w ≡ new.rows o w
        same o w =
            ap₂ (λ m b. if o == u then gains (old.rows o w) b m else old.rows o w) (sym stands.now) (sym (below_now more (length h) old.rows first t w) ∙ ap (is_below (old.rows t w)) (sym stands.now))
            ∙ sym (gained.rows o w)

-- How what is kept moves with an outermost end.
use Rattle.std.proofs.Common.{◌≡◌, inl, ℕ, suc, ◌+◌, ◌<◌, List, [], ◌∷◌, ◌++◌, length, Option, Some, None, refl, sym, ap, ◌∙◌}
use Rattle.std.specs.Prelude.{◌==◌, ◌&&◌, Bool, true, false, if◌then◌else◌, is_some}
use Rattle.aero_model.specs.declared.numbered.Numbered.{Numbered}
use Rattle.aero_model.specs.declared.numbered.What.TheVariants.{End}
use Rattle.aero_model.specs.Blocks.{closes}
use Rattle.aero_model.specs.Shape.{IsWellFormed}
use Rattle.aero_model.proofs.Depths.{closing_at}
use Rattle.aero_engine.specs.Judgement.{IsTold}
use Rattle.aero_engine.specs.Events.{event}
use Rattle.aero_engine.proofs.LongerTraces.{slice_get-push}
use Rattle.aero_leads.specs.Leads.{is_led, IsUnled, AreFirst}
use Rattle.aero_leads.specs.Steps.{IsNamedAtEnd, IsClosedAtEnd, end_rows}
use Rattle.aero_leads.specs.Kept.{IsBack, IsLeastBack}
use Rattle.aero_leads.specs.States.{State, IsStateOf, acting}
use Rattle.aero_leads.specs.Standing.{EndsState}
use Rattle.aero_leads.proofs.ByKind.{first_as}
use Rattle.aero_leads.proofs.EndRows.{first_after_end}
use Rattle.aero_leads.proofs.Told.{rows_tell_at_end}
use Rattle.aero_leads.proofs.StateSteps.{IsAfter}
use Rattle.aero_leads.proofs.StateSteps as steps
use Rattle.aero_leads.proofs.Placed.{open_of, unled_lesser, unled_if}
use Rattle.aero_leads.proofs.Moving.{swap_and}

module _ (old : State) (h : List Numbered) (t : ℕ) (stands : IsStateOf old h) (ok : IsWellFormed (h ++ event t End ∷ [])) (closing : closes (h ++ event t End ∷ []) t (length h) ≡ true) where
  abbrev ending : Numbered
  ending = event t End

  abbrev longer : List Numbered
  longer = h ++ event t End ∷ []

  rows_first : AreFirst longer (length h) old.rows
  rows_first = steps.first old h ending stands

  closed_at_end : (u : ℕ) → IsBack old.rows t u → IsClosedAtEnd longer (length h) t old.rows u
  closed_at_end u b = record { other = b.other; is_open = open_of longer (length h) old.rows rows_first t u b.into; into = b.into; back = b.back }

  named : (o : Option ℕ) → IsLeastBack old.rows t o → IsNamedAtEnd longer (length h) t old.rows o
  named None none = λ u c. none u (record { other = c.other; into = c.into; back = c.back })
  named (Some u) (b, least) = (closed_at_end u b, λ v c. least v (record { other = c.other; into = c.into; back = c.back }))

  pub end_told : (o : Option ℕ) → IsLeastBack old.rows t o → IsTold longer (length h) o
  end_told o is = (rows_tell_at_end longer ok (length h) ending (slice_get-push h ending) old.rows rows_first (steps.none old h ending stands) closing o).0 (named o is)

  pub end_stands : (new : State) → IsLeastBack old.rows t None → EndsState old new t → IsStateOf (acting new t) longer
  end_stands new none ends =
      steps.stands_after old h ending stands (acting new t) false true (let c = closing_at longer t (length h) closing in c.opens) closing after still
      (first_as longer (suc (length h)) (end_rows t old.rows) new.rows (λ o w. sym (ends.rows o w)) (first_after_end longer ok (length h) ending (slice_get-push h ending) closing old.rows rows_first))
      (end_told None none)
    where
      pass : {X : Type 0} (b : Bool) (y z : X) → z ≡ (if b && false then y else z)
      pass true y z = refl
      pass false y z = refl

      still : (v q : ℕ) → q < length h → IsUnled old.rows v q → IsUnled new.rows v q
      still v q l unled w =
          ap (λ r. is_led r q) (ends.rows v w)
          ∙ unled_if (w == t) None _ q refl (unled_if (is_some (old.rows t w)) _ _ q (unled_lesser (old.rows v w) (old.rows v t) q (unled w) (unled t)) (unled w))

      after : IsAfter old (acting new t) ending false true
      after = record {
        write = ends.write;
        reads = λ x. inl (refl, ends.reads x);
        release = ends.release;
        now = ap suc ends.now;
        acted = λ u. ap (λ b. if t == u then true else b) (ends.acted u);
        begins = λ u. ends.begins u ∙ pass (t == u) (old.begins u + 1) (old.begins u);
        in_block = λ u. ends.in_block u ∙ swap_and (t == u) false (old.in_block u) ∙ pass (t == u) true (if (t == u) && true then false else old.in_block u);
      }

-- How what is kept moves with an event that does nothing but be one of its thread.
use Rattle.std.proofs.Common.{◌≡◌, inl, inr, ⊎_elim, ℕ, List, [], ◌∷◌, ◌++◌, length, None, refl, sym, ap, ◌∙◌, subst, arith}
use Rattle.std.specs.Prelude.{◌==◌, false, slice_get}
use Rattle.std.proofs.lemmas.Bool.{both_ways, ne_eqb, and_right}
use Rattle.aero_model.specs.declared.numbered.Numbered.{Numbered}
use Rattle.aero_model.specs.declared.numbered.What.{What}
use Rattle.aero_model.specs.declared.numbered.What.TheVariants.{Join, Begin, End, Exempt}
use Rattle.aero_model.specs.Blocks.{is_begin, is_end, by_thread, depth}
use Rattle.aero_model.specs.Shape.{is_fork_of, IsWellFormed, has_acted}
use Rattle.aero_engine.specs.declared.slot.Slot.TheVariants.{LastWrite, LastRelease}
use Rattle.aero_engine.specs.Events.{event, IsIdle}
use Rattle.aero_engine.specs.Events as idle
use Rattle.aero_engine.proofs.LongerTraces.{no_end, no_begin}
use Rattle.aero_engine.proofs.OneMore.{depth_more, place_acted}
use Rattle.aero_leads.specs.Leads.{is_led}
use Rattle.aero_leads.specs.Marks as takes
use Rattle.aero_leads.specs.States.{State, IsLastOf, AreReadsSince, IsStateOf, acting}
use Rattle.aero_leads.specs.Standing.{AreSame, AreSameBlocks}
use Rattle.aero_leads.proofs.ByKind.{first_as}
use Rattle.aero_leads.proofs.Takings.{takes_nothing}
use Rattle.aero_leads.proofs.StateSteps.{IsAfter}
use Rattle.aero_leads.proofs.Moving.{after_quiet, IsTaken, taken_stands}

pub taken_idle : (old : State) (t : ℕ) (what : What) (h : List Numbered) → IsStateOf old h → IsIdle h t what → IsTaken old h (event t what) []
taken_idle old t _ h stands idle.exempt = record {
  marks = [];
  takes = takes.plain refl;
  same = λ w. refl;
  ends = no_end h t Exempt refl;
  begins = no_begin h t Exempt refl;
}
taken_idle old t _ h stands (idle.inner_begin inside) = record {
  marks = [];
  takes = takes.plain refl;
  same = λ w. refl;
  ends = no_end h t (Begin None) refl;
  begins = and_right (by_thread t is_begin (slice_get (h ++ event t (Begin None) ∷ []) (length h))) (depth (h ++ event t (Begin None) ∷ []) t (length h) == 0)
      (ne_eqb (depth (h ++ event t (Begin None) ∷ []) t (length h)) 0 (λ e. absurd (omega (arith, e, inside, depth_more h (event t (Begin None)) t))));
}
taken_idle old t _ h stands (idle.inner_end inside) = record {
  marks = [];
  takes = takes.plain refl;
  same = λ w. refl;
  ends = and_right (by_thread t is_end (slice_get (h ++ event t End ∷ []) (length h))) (depth (h ++ event t End ∷ []) t (length h) == 1)
      (ne_eqb (depth (h ++ event t End ∷ []) t (length h)) 1 (λ e. absurd (omega (arith, e, inside, depth_more h (event t End) t))));
  begins = no_begin h t End refl;
}
taken_idle old t _ h stands (idle.idle_join u not_acted) = record {
  marks = [];
  takes = takes.idle_join u refl (λ a. both_ways (has_acted h u) not_acted (place_acted h (event t (Join u)) u a));
  same = λ w. refl;
  ends = no_end h t (Join u) refl;
  begins = no_begin h t (Join u) refl;
}

-- the state is as another
pub state_same : (w v : State) (h : List Numbered) → AreSame w v → IsStateOf w h → IsStateOf v h
state_same w v h same is = record {
  first = first_as h (length h) w.rows v.rows (λ o u. sym (same.rows o u)) is.first;
  none = is.none;
  write = λ x. subst (IsLastOf h (LastWrite x)) (sym (same.write x)) (is.write x);
  reads = λ x. subst (AreReadsSince h v.rows x) (sym (same.reads x)) (let r = is.reads x in record {
    each = r.each;
    all = λ u q at after. ⊎_elim (λ a. inl a) (λ k. inr (λ o. ap (λ p. is_led p q) (same.rows u o) ∙ k o)) (r.all u q at after);
  });
  release = λ l. subst (IsLastOf h (LastRelease l)) (sym (same.release l)) (is.release l);
  now = same.now ∙ is.now;
  acted = λ t. same.blocks.acted t ∙ is.acted t;
  begins = λ t. same.blocks.begins t ∙ is.begins t;
  in_block = λ t. same.blocks.in_block t ∙ is.in_block t;
}

pub idle_moves : (old : State) (t : ℕ) (what : What) (h : List Numbered) → IsStateOf old h → IsWellFormed (h ++ event t what ∷ []) → IsIdle h t what → IsStateOf (acting old t) (h ++ event t what ∷ [])
idle_moves old t what h stands ok quiet =
    taken_stands old h (event t what) stands ok [] (taken_idle old t what h stands quiet) refl (no_fork what quiet) (acting old t) (record { rows = (takes_nothing old.rows old.now t [] (λ w. refl)).rows }) (after what quiet)
  where
    same : AreSameBlocks old old
    same = record { in_block = λ u. refl; begins = λ u. refl; acted = λ u. refl }

    no_fork : (what : What) → IsIdle h t what → (u : ℕ) → is_fork_of u what ≡ false
    no_fork _ idle.exempt u = refl
    no_fork _ (idle.inner_begin inside) u = refl
    no_fork _ (idle.inner_end inside) u = refl
    no_fork _ (idle.idle_join v acted) u = refl

    after : (what : What) → IsIdle h t what → IsAfter old (acting old t) (event t what) false false
    after _ idle.exempt = after_quiet old old (event t Exempt) (λ x. refl) (λ x. refl) (λ x. refl) (λ l. refl) refl same
    after _ (idle.inner_begin inside) = after_quiet old old (event t (Begin None)) (λ x. refl) (λ x. refl) (λ x. refl) (λ l. refl) refl same
    after _ (idle.inner_end inside) = after_quiet old old (event t End) (λ x. refl) (λ x. refl) (λ x. refl) (λ l. refl) refl same
    after _ (idle.idle_join v acted) = after_quiet old old (event t (Join v)) (λ x. refl) (λ x. refl) (λ x. refl) (λ l. refl) refl same

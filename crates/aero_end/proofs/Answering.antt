-- What is answered at the end of a block.
use Rattle.std.proofs.Common.{◌≡◌, ℕ, List, [], ◌∷◌, ◌++◌, length, Option, Some, None, refl, ◌∙◌}
use Rattle.std.specs.Prelude.{Ok, true, false, is_some}
use Rattle.std.proofs.lemmas.Bool.{both_ways}
use Rattle.aero_model.specs.declared.numbered.Numbered.{Numbered}
use Rattle.aero_model.specs.declared.numbered.What.TheVariants.{End}
use Rattle.aero_model.specs.Blocks.{closes}
use Rattle.aero_model.specs.Shape.{IsWellFormed}
use Rattle.aero_engine.specs.Events.{event}
use Rattle.aero_access.specs.declared.clocks.Clocks.{Clocks}
use Rattle.aero_access.specs.Standing.{is_spent, StandsFor, Answers, Tells, HaveSameTests, ClosesBlock}
use Rattle.aero_end.specs.Ends.{IsFirst, SpreadsToAll}
use Rattle.aero_end.proofs.AfterEnds.{tells_first, tells_none}

-- a thread is answered
pub answers_first : (old new : Clocks) (t : ℕ) (o : Option ℕ) → true ≡ is_some o → ((u : ℕ) → o ≡ Some u → IsFirst old new t u) → HaveSameTests old new → Answers old new (Ok o)
answers_first old new t None some named tests = cc
answers_first old new t (Some u) some named tests =
    let first = named u refl in
    record {
      spent = λ s. absurd (both_ways (is_spent old) first.was_unspent s);
      unspent = first.unspent;
      refused = tt;
      closed = first.closed;
      closed_err = tt;
      tests = λ is. tests;
      tests_err = tt;
    }

pub follows_first : (old new : Clocks) (t : ℕ) (o : Option ℕ) → true ≡ is_some o → ((u : ℕ) → o ≡ Some u → IsFirst old new t u)
    → (h : List Numbered) → StandsFor old h → IsWellFormed (h ++ event t End ∷ []) → closes (h ++ event t End ∷ []) t (length h) ≡ true → Tells new (h ++ event t End ∷ []) (length h) o
follows_first old new t None some named h stands ok closing = cc
follows_first old new t (Some u) some named h stands ok closing = tells_first old h t stands ok closing new u (named u refl)

-- or none is
pub follows_none : (old now new : Clocks) (t : ℕ) (o : Option ℕ) → false ≡ is_some o → (o ≡ None → SpreadsToAll old now t) → HaveSameTests old now → (is_spent now ≡ false → ClosesBlock now new t)
    → (h : List Numbered) → StandsFor old h → IsWellFormed (h ++ event t End ∷ []) → closes (h ++ event t End ∷ []) t (length h) ≡ true → Tells new (h ++ event t End ∷ []) (length h) None
follows_none old now new t None none spreads tests closed h stands ok closing =
    let s = spreads refl in
    tells_none old h t stands ok closing now (s.spreads stands.unspent) tests new (closed (s.spent ∙ stands.unspent))
follows_none old now new t (Some u) none spreads tests closed h stands ok closing = cc

-- From a call's start to its end.
use Rattle.std.proofs.Common.{◌≡◌, ℕ, List, [], ◌∷◌, ◌++◌, length, Option, Some, None, refl, sym, ap, ◌∙◌, subst, arith, length-append}
use Rattle.std.specs.Prelude.{Bool, true, false, is_some}
use Rattle.aero_model.specs.declared.numbered.Numbered.{Numbered}
use Rattle.aero_model.specs.declared.numbered.What.{What}
use Rattle.aero_model.specs.Cycle.{HasTellingCycle}
use Rattle.aero_model.specs.Shape.{IsWellFormed}
use Rattle.aero_engine.specs.Judgement.{IsTold}
use Rattle.aero_engine.specs.Events.{event, IsIdle}
use Rattle.aero_leads.specs.declared.leads.Leads.{Leads}
use Rattle.aero_model.specs.declared.numbered.What.TheVariants.{End}
use Rattle.aero_model.specs.Blocks.{closes}
use Rattle.aero_leads.specs.Kept.{IsLeastBack}
use Rattle.aero_leads.specs.States.{acting, Moves}
use Rattle.aero_leads.specs.Standing.{state_of, closed_by, StandsFor, Tells, EndsState, IsStarted, IsFinished}
use Rattle.aero_leads.proofs.MovingIdle.{state_same, idle_moves}
use Rattle.aero_leads.proofs.MovingEnd.{end_told, end_stands}

-- the event as it was moved by, and the call as it ended
pub follows : (old mid done new : Leads) (m : ℕ) (e : Numbered) (o : Option ℕ) (closes : Bool)
    → IsStarted old mid m → Moves (state_of mid) (state_of done) e closes → closed_by done ≡ closed_by mid
    → (closes ≡ true → o ≡ Some e.thread) → (closes ≡ false → o ≡ None) → (closes ≡ false → IsFinished done new e.thread)
    → (h : List Numbered) → StandsFor old h → IsWellFormed (h ++ e ∷ []) → Tells new (h ++ e ∷ []) (length h) o
follows old mid done new m e o true started moves closed told untold finished h stands ok = record {
  told = subst (IsTold (h ++ e ∷ []) (length h)) (sym (told refl)) (moves.told h (state_same (state_of old) (state_of mid) h started.state stands.state) ok refl);
  stands = λ none. let z : Some e.thread ≡ None = sym (told refl) ∙ none in cc;
}
follows old mid done new m e o false started moves closed told untold finished h stands ok =
    let f = finished refl in
    let state = state_same (acting (state_of done) e.thread) (state_of new) (h ++ e ∷ []) f.state (moves.stands h (state_same (state_of old) (state_of mid) h started.state stands.state) ok refl) in
    record {
      told = subst (IsTold (h ++ e ∷ []) (length h)) (sym (untold refl)) (λ c. state.none (subst (HasTellingCycle (h ++ e ∷ [])) (omega (arith, length-append h (e ∷ []))) c));
      stands = λ none. record { unspent = f.spent; unclosed = f.closed ∙ closed ∙ started.closed ∙ stands.unclosed; state = state };
    }

-- an event that takes nothing
pub follows_idle : (old mid new : Leads) (t : ℕ) → IsStarted old mid t → IsFinished mid new t
    → (h : List Numbered) (what : What) → StandsFor old h → IsWellFormed (h ++ event t what ∷ []) → IsIdle h t what → Tells new (h ++ event t what ∷ []) (length h) None
follows_idle old mid new t started f h what stands ok idle =
    let was = state_same (state_of old) (state_of mid) h started.state stands.state in
    let state = state_same (acting (state_of mid) t) (state_of new) (h ++ event t what ∷ []) f.state (idle_moves (state_of mid) t what h was ok idle) in
    record {
      told = λ c. state.none (subst (HasTellingCycle (h ++ event t what ∷ [])) (omega (arith, length-append h (event t what ∷ []))) c);
      stands = λ none. record { unspent = f.spent; unclosed = f.closed ∙ started.closed ∙ stands.unclosed; state = state };
    }

-- an outermost end: the least block is told
pub follows_told : (old mid new : Leads) (t : ℕ) (o : Option ℕ) → IsStarted old mid t → IsLeastBack (state_of mid).rows t o → is_some o ≡ true
    → (h : List Numbered) → StandsFor old h → IsWellFormed (h ++ event t End ∷ []) → closes (h ++ event t End ∷ []) t (length h) ≡ true → Tells new (h ++ event t End ∷ []) (length h) o
follows_told old mid new t o started least some h stands ok closing = record {
  told = end_told (state_of mid) h t (state_same (state_of old) (state_of mid) h started.state stands.state) ok closing o least;
  stands = λ none. let z : false ≡ true = sym (ap is_some none) ∙ some in cc;
}

-- or there is none
pub follows_end : (old mid done new : Leads) (t : ℕ) → IsStarted old mid t → IsLeastBack (state_of mid).rows t None → EndsState (state_of mid) (state_of done) t → closed_by done ≡ closed_by mid → IsFinished done new t
    → (h : List Numbered) → StandsFor old h → IsWellFormed (h ++ event t End ∷ []) → closes (h ++ event t End ∷ []) t (length h) ≡ true → Tells new (h ++ event t End ∷ []) (length h) None
follows_end old mid done new t started least ends closed f h stands ok closing =
    let was = state_same (state_of old) (state_of mid) h started.state stands.state in
    let state = state_same (acting (state_of done) t) (state_of new) (h ++ event t End ∷ []) f.state (end_stands (state_of mid) h t was ok closing (state_of done) least ends) in
    record {
      told = λ c. state.none (subst (HasTellingCycle (h ++ event t End ∷ [])) (omega (arith, length-append h (event t End ∷ []))) c);
      stands = λ none. record { unspent = f.spent; unclosed = f.closed ∙ closed ∙ started.closed ∙ stands.unclosed; state = state };
    }

pub is_none_of : (o : Option ℕ) → is_some o ≡ false → o ≡ None
is_none_of None h = refl
is_none_of (Some u) h = cc

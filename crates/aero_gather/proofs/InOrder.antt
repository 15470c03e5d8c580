-- Over any calls the values are given in the order in which they were asked for.
use Rattle.std.proofs.Common.{◌≡◌, ℕ, List, [], ◌∷◌, ◌++◌, Option, Some, None, inl, inr, refl, sym, ◌∙◌, ap, subst}
use Rattle.std.proofs.lemmas.List.{append_assoc, append-nil}
use Rattle.aero_pieces.specs.declared.question.Question.{Question}
use Rattle.aero_pieces.specs.declared.answer.Value.{Value}
use Rattle.aero_pieces.specs.Schedule.{Entry, TakesAnswer, settled_value}
use Rattle.aero_pieces.proofs.InOrder.{Holds, asked_holds, answer_holds, note_holds, settle_holds}
use Rattle.aero_gather.specs.declared.gather.Accepted.{Accepted}
use Rattle.aero_gather.specs.declared.gather.Accepted.TheVariants as accepted
use Rattle.aero_gather.specs.Gathered.{Gathered, Accepts, Settles, nothing_gathered}
use Rattle.aero_gather.specs.Laws.{Call, Asks, Takes, Misses, Gives, AllDo, asked_in, given_in, AreInOrder}

-- how the gatherer takes an answer is a step of the schedule
pub takes_answer : (q : Question) (v : Value) (old new : Gathered) (a : Accepted) → Accepts q v old new a → TakesAnswer q v old.entries new.entries
takes_answer q v old new accepted.Kept is = inl is.0
takes_answer q v old new accepted.Repeated is = inr (is.1, ap (λ (g : Gathered). g.entries) is.2)
takes_answer q v old new accepted.Stranger is = inr (λ i e less at waits. is.0 (i, e, at, waits.0), ap (λ (g : Gathered). g.entries) is.1)

-- the value, if there is one, behind the others
abbrev with_given : List Value → Option Value → List Value
with_given given None = given
with_given given (Some v) = given ++ v ∷ []

settles_hold : (asked : List Question) (given : List Value) (old new : Gathered) (entries : List Entry) (o : Option Value) → Settles old entries new o →
    old.entries ≡ entries →
    Holds asked entries given → Holds asked new.entries (with_given given o)
settles_hold asked given old new [] o is same h =
    subst (λ x. Holds asked new.entries (with_given given x)) (sym is.0)
    (subst (λ es. Holds asked es given) (sym (ap (λ (g : Gathered). g.entries) is.1 ∙ same)) h)
settles_hold asked given old new (e ∷ more) o is same h =
    subst (λ x. Holds asked new.entries (with_given given x)) (sym is.2)
    (subst (λ (g : Gathered). Holds asked g.entries (given ++ settled_value e is.0 ∷ [])) (sym is.3) (settle_holds asked e more given is.0 is.1 h))

-- after the calls, where it held before
calls_hold : (calls : List Call) (old new : Gathered) (asked : List Question) (given : List Value) → AllDo old calls new → Holds asked old.entries given →
    Holds (asked ++ asked_in calls) new.entries (given ++ given_in calls)
calls_hold [] old new asked given is h =
    subst (λ qs. Holds qs new.entries (given ++ [])) (sym (append-nil asked))
    (subst (λ vs. Holds asked new.entries vs) (sym (append-nil given)) (subst (λ (g : Gathered). Holds asked g.entries given) (sym is) h))
calls_hold (Asks q ∷ more) old new asked given is h =
    subst (λ qs. Holds qs new.entries (given ++ given_in more)) (append_assoc asked (q ∷ []) (asked_in more))
    (calls_hold more is.0 new (asked ++ q ∷ []) given is.2
    (subst (λ (g : Gathered). Holds (asked ++ q ∷ []) g.entries given) (sym is.1.1) (asked_holds asked old.entries given q h)))
calls_hold (Takes q v a ∷ more) old new asked given is h =
    calls_hold more is.0 new asked given is.2 (answer_holds asked old.entries is.0.entries given q v is.1.0 (takes_answer q v old is.0 a is.1.1) h)
calls_hold (Misses ticket ∷ more) old new asked given is h =
    calls_hold more is.0 new asked given is.2 (subst (λ (g : Gathered). Holds asked g.entries given) (sym is.1) (note_holds asked old.entries given _ ticket h))
calls_hold (Gives None ∷ more) old new asked given is h =
    calls_hold more is.0 new asked given is.2 (settles_hold asked given old is.0 old.entries None is.1 refl h)
calls_hold (Gives (Some v) ∷ more) old new asked given is h =
    subst (λ vs. Holds (asked ++ asked_in more) new.entries vs) (append_assoc given (v ∷ []) (given_in more))
    (calls_hold more is.0 new asked (given ++ v ∷ []) is.2 (settles_hold asked given old is.0 old.entries (Some v) is.1 refl h))

pub gives_in_order : (window : ℕ) (calls : List Call) (g : Gathered) → AllDo (nothing_gathered window) calls g → AreInOrder calls g
gives_in_order window calls g is =
    let h : Holds (asked_in calls) g.entries (given_in calls) = calls_hold calls (nothing_gathered window) g [] [] is ([], refl, tt, tt) in
    record { first = h.0; rest = h.1; given = h.2 }

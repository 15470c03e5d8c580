-- The definitions at values that are known from elsewhere: a window of one question, which is asked, and gets an answer twice.
use Rattle.std.proofs.Common.{◌≡◌, ◌≢◌, ℕ, zero, suc, false, [], ◌∷◌, Some, None, refl, sym, ◌∙◌, arith}
use Rattle.std.specs.Prelude.{slice_get}
use Rattle.aero_pieces.specs.declared.question.Question.{Question}
use Rattle.aero_pieces.specs.declared.answer.Value.{Value}
use Rattle.aero_pieces.specs.Values.{IsValueOf}
use Rattle.aero_pieces.specs.Schedule.{Entry, NoneWaits, fresh}
use Rattle.aero_gather.specs.declared.gather.Accepted.TheVariants as accepted
use Rattle.aero_gather.specs.declared.gather.Oldest.TheVariants as oldest
use Rattle.aero_gather.specs.Gathered.{Gathered, IsOpenQuestion, Accepts, Settles, nothing_gathered, with_asked, with_missed, oldest_of}

abbrev after_ask : Question → Gathered
after_ask q = with_asked (nothing_gathered 1) q

abbrev after_answer : Question → Value → Gathered
after_answer q v = record {
  window = 1;
  entries = record { question = q; value = Some v; missed = false } ∷ [];
  tally = record { asked = 1; kept = 1; done_here = 0 };
}

oldest_of_nothing : oldest_of (nothing_gathered 1).entries ≡ oldest.Nothing
oldest_of_nothing = refl

oldest_of_asked : (q : Question) → oldest_of (after_ask q).entries ≡ oldest.Awaited
oldest_of_asked q = refl

oldest_of_missed : (q : Question) → oldest_of (with_missed (after_ask q) 0).entries ≡ oldest.Missed
oldest_of_missed q = refl

oldest_of_answered : (q : Question) (v : Value) → oldest_of (after_answer q v).entries ≡ oldest.Kept
oldest_of_answered q v = refl

other_ticket : (q : Question) → with_missed (after_ask q) 1 ≡ after_ask q
other_ticket q = refl

settles_nothing : Settles (nothing_gathered 1) [] (nothing_gathered 1) None
settles_nothing = (refl, refl)

kept_answer : (q : Question) (v : Value) → Accepts q v (after_ask q) (after_answer q v) accepted.Kept
kept_answer q v = (
  record {
    place = 0;
    entry = fresh q;
    at_place = refl;
    waits = (refl, refl);
    oldest = λ i e less. absurd (omega (arith, less));
    kept = refl;
  },
  refl,
)

strange_answer : (q p : Question) (u : Value) → p ≢ q → Accepts p u (after_ask q) (after_ask q) accepted.Stranger
strange_answer q p u apart = (not_open, refl)
  where
    same_at : (i : ℕ) (e : Entry) → slice_get (fresh q ∷ []) i ≡ Some e → e.question ≡ p → ⊥
    same_at zero e at same = apart (sym same ∙ cc)
    same_at (suc i) e at same = cc

    not_open : ¬ IsOpenQuestion p (fresh q ∷ [])
    not_open found = same_at found.0 found.1 found.2 found.3

repeated_answer : (q : Question) (v : Value) → Accepts q v (after_answer q v) (after_answer q v) accepted.Repeated
repeated_answer q v = ((0, record { question = q; value = Some v; missed = false }, refl, refl), none_waits, refl)
  where
    none_waits : NoneWaits q (after_answer q v).entries 1
    none_waits zero e less at waits = no_value e at waits.1
      where
        no_value : (e : Entry) → Some (record { question = q; value = Some v; missed = false }) ≡ Some e → e.value ≡ None → ⊥
        no_value e at none = cc
    none_waits (suc i) e less at waits = absurd (omega (arith, less))

settled_answer : (q : Question) (v u : Value) →
    Settles (after_answer q v) (after_answer q v).entries (record { window = 1; entries = []; tally = record { asked = 1; kept = 1; done_here = 0 } }) (Some v)
settled_answer q v u = (u, tt, refl, refl)

settled_here : (q : Question) (v : Value) → IsValueOf q v →
    Settles (after_ask q) (after_ask q).entries (record { window = 1; entries = []; tally = record { asked = 1; kept = 0; done_here = 1 } }) (Some v)
settled_here q v known = (v, known, refl, refl)

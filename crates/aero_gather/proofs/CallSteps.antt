-- Each call is a step of the schedule.
use Rattle.std.proofs.Common.{◌≡◌, ℕ, suc, ◌+◌, ◌-◌, ◌<◌, Bool, true, false, cond, nat_le, List, [], ◌∷◌, ◌++◌, length, slice_get, slice_set, Option, Some}
use Rattle.std.proofs.Common.{None, is_none, inl, inr, refl, sym, ◌∙◌, ap, subst, arith}
use Rattle.std.proofs.lemmas.Bool.{lt-ltb}
use Rattle.std.proofs.lemmas.List.{length-set, length-append}
use Rattle.aero_pieces.specs.declared.question.Question.{Question}
use Rattle.aero_pieces.specs.declared.answer.Value.{Value}
use Rattle.aero_pieces.specs.declared.answer.Value.TheVariants.{Parsed}
use Rattle.aero_pieces.specs.Schedule.{World, Entry, TakesAnswer, Ask, Answers, Miss, Settle, fresh, with_question, noted, with_note, settled_value}
use Rattle.aero_pieces.specs.Schedule.{after_settling, MaySettle}
use Rattle.aero_gather.specs.declared.gather.Accepted.{Accepted}
use Rattle.aero_gather.specs.declared.gather.Accepted.TheVariants as accepted
use Rattle.aero_gather.specs.Gathered.{Gathered, Accepts, Settles}
use Rattle.aero_gather.specs.Laws.{Call, Asks, Takes, Misses, Gives, Does, IsSeenBy, StepsOn}
use Rattle.aero_gather.proofs.InOrder.{takes_answer}

length_noted : (entries : List Entry) (place : ℕ) (o : Option Entry) → length (noted entries place o) ≡ length entries
length_noted entries place None = refl
length_noted entries place (Some e) = go (is_none e.value)
  where
    go : (b : Bool) → length (cond b (slice_set entries place (record e { missed = true })) entries) ≡ length entries
    go true = length-set entries place (record e { missed = true })
    go false = refl

length_note : (gone ticket : ℕ) (entries : List Entry) → length (with_note gone ticket entries) ≡ length entries
length_note gone ticket entries = go (nat_le gone ticket)
  where
    go : (b : Bool) → length (cond b (noted entries (ticket - gone) (slice_get entries (ticket - gone))) entries) ≡ length entries
    go true = length_noted entries (ticket - gone) (slice_get entries (ticket - gone))
    go false = refl

length_taken : (q : Question) (v : Value) (old new : List Entry) → TakesAnswer q v old new → length new ≡ length old
length_taken q v old new (inl kept) = ap length kept.kept ∙ length-set old kept.place (record kept.entry { value = Some v })
length_taken q v old new (inr none) = ap length none.1

same_asked : (q : Question) (v : Value) (old new : Gathered) (a : Accepted) → Accepts q v old new a → new.tally.asked ≡ old.tally.asked
same_asked q v old new accepted.Kept is = ap (λ (g : Gathered). g.tally.asked) is.1
same_asked q v old new accepted.Repeated is = ap (λ (g : Gathered). g.tally.asked) is.2
same_asked q v old new accepted.Stranger is = ap (λ (g : Gathered). g.tally.asked) is.1

asks_step : (room : ℕ) (old new : Gathered) (q : Question) (w : World) → Does old (Asks q) new → IsSeenBy old w → StepsOn room old new (Asks q) w
asks_step room old new q w is seen =
    let fits : length w.entries < old.window = subst (λ (es : List Entry). length es < old.window) (sym seen.entries) is.0 in
    record {
      step = Ask q;
      next = record w { asked = w.asked ++ q ∷ []; entries = with_question w.entries q };
      is_step = refl;
      happens = sym (ap (λ b. cond b (record w { asked = w.asked ++ q ∷ []; entries = with_question w.entries q }) w)
          (lt-ltb (length w.entries) old.window fits));
      seen = record {
        entries = ap (λ es. es ++ fresh q ∷ []) seen.entries ∙ sym (ap (λ (g : Gathered). g.entries) is.1);
        given = subst (λ (g : Gathered). length w.given + length g.entries ≡ g.tally.asked) (sym is.1)
            (omega (arith, seen.given, length-append old.entries (fresh q ∷ [])));
      };
    }

takes_step : (room : ℕ) (old new : Gathered) (q : Question) (v : Value) (a : Accepted) (w : World) → Does old (Takes q v a) new → IsSeenBy old w →
    StepsOn room old new (Takes q v a) w
takes_step room old new q v a w is seen =
    let takes : TakesAnswer q v old.entries new.entries = takes_answer q v old new a is.1 in
    let same : length new.entries ≡ length old.entries = length_taken q v old.entries new.entries takes in
    let counted : new.tally.asked ≡ old.tally.asked = same_asked q v old new a is.1 in
    record {
      step = Answers q v;
      next = record w { entries = new.entries };
      is_step = refl;
      happens = (is.0, new.entries, subst (λ es. TakesAnswer q v es new.entries) (sym seen.entries) takes, refl);
      seen = record { entries = refl; given = omega (arith, seen.given, same, counted) };
    }

misses_step : (room : ℕ) (old new : Gathered) (ticket : ℕ) (w : World) → Does old (Misses ticket) new → IsSeenBy old w → StepsOn room old new (Misses ticket) w
misses_step room old new ticket w is seen =
    let gone : length w.given ≡ old.tally.asked - length old.entries = omega (arith, seen.given) in
    let after : with_note (length w.given) ticket w.entries ≡ with_note (old.tally.asked - length old.entries) ticket old.entries =
    ap (λ n. with_note n ticket w.entries) gone ∙ ap (λ es. with_note (old.tally.asked - length old.entries) ticket es) seen.entries in
    record {
      step = Miss ticket;
      next = record w { entries = with_note (length w.given) ticket w.entries };
      is_step = refl;
      happens = refl;
      seen = record {
        entries = after ∙ sym (ap (λ (g : Gathered). g.entries) is);
        given = subst (λ (g : Gathered). length w.given + length g.entries ≡ g.tally.asked) (sym is)
            (omega (arith, seen.given, length_note (old.tally.asked - length old.entries) ticket old.entries));
      };
    }

-- a value, where none matters
some_value : Value
some_value = Parsed (record { events = []; lines = 0; fault = None })

gives_step : (room : ℕ) (old new : Gathered) (given : Option Value) (w : World) (entries : List Entry) → Settles old entries new given →
    old.entries ≡ entries → IsSeenBy old w →
    StepsOn room old new (Gives given) w
gives_step room old new given w [] is none seen =
    record {
      step = Settle some_value;
      next = w;
      is_step = (some_value, refl);
      happens = subst (λ es. MaySettle es some_value × (w ≡ after_settling w some_value es)) (sym (seen.entries ∙ none)) (tt, refl);
      seen = subst (λ g. IsSeenBy g w) (sym is.1) seen;
    }
gives_step room old new given w (e ∷ more) is some seen =
    let all : length old.entries ≡ suc (length more) = ap length some in
    record {
      step = Settle is.0;
      next = record w { entries = more; given = w.given ++ settled_value e is.0 ∷ [] };
      is_step = (is.0, refl);
      happens = subst (λ es. MaySettle es is.0 × (record w { entries = more; given = w.given ++ settled_value e is.0 ∷ [] } ≡ after_settling w is.0 es))
          (sym (seen.entries ∙ some)) (is.1, refl);
      seen = subst (λ (g : Gathered). IsSeenBy g (record w { entries = more; given = w.given ++ settled_value e is.0 ∷ [] })) (sym is.3)
          (record { entries = refl; given = omega (arith, seen.given, all, length-append w.given (settled_value e is.0 ∷ [])) });
    }

pub call_is_step : (room : ℕ) (old new : Gathered) (call : Call) (w : World) → Does old call new → IsSeenBy old w → StepsOn room old new call w
call_is_step room old new (Asks q) w is seen = asks_step room old new q w is seen
call_is_step room old new (Takes q v a) w is seen = takes_step room old new q v a w is seen
call_is_step room old new (Misses ticket) w is seen = misses_step room old new ticket w is seen
call_is_step room old new (Gives given) w is seen = gives_step room old new given w old.entries is refl seen

-- Over every schedule the values are given in the order in which they were asked for.
use Rattle.std.proofs.Common.{◌≡◌, ℕ, zero, suc, ◌-◌, Bool, true, false, cond, List, [], ◌∷◌, ◌++◌, map, Option, Some, None, slice_get, slice_set, IfSome}
use Rattle.std.proofs.Common.{is_none, inl, inr, refl, sym, ◌∙◌, ap, subst}
use Rattle.std.specs.Prelude.{nat_le, nat_lt, length}
use Rattle.std.specs.List.{AllZip, AllByRecursion}
use Rattle.std.proofs.lemmas.List.{map-append, append_assoc}
use Rattle.aero_pieces.specs.declared.question.Question.{Question}
use Rattle.aero_pieces.specs.declared.answer.Value.{Value}
use Rattle.aero_pieces.specs.Invariants.{IsInOrder}
use Rattle.aero_pieces.specs.Schedule.{World, Entry, Step, Ask, Post, Take, Back, Answers, Miss, Settle, TakesAnswer, Happens, Runs, start, fresh}
use Rattle.aero_pieces.specs.Schedule.{with_question, noted, with_note, after_settling, settled_value, IsWorkedOut, MaySettle, taken_by, taken_back}
use Rattle.aero_pieces.specs.Values.{IsValueOf}

abbrev pub questions : List Entry → List Question
questions entries = map (λ e. e.question) entries

-- a kept value is one of its question
abbrev pub HasItsValue : Entry → Type 0
HasItsValue e = IfSome e.value (IsValueOf e.question)

-- what the questions, the entries and the values keep
abbrev pub Holds : List Question → List Entry → List Value → Type 0
Holds asked entries given =
    (first : List Question) × (asked ≡ first ++ questions entries) × AllZip IsValueOf first given × AllByRecursion HasItsValue entries

zip_push : (qs : List Question) (vs : List Value) (q : Question) (v : Value) → AllZip IsValueOf qs vs → IsValueOf q v →
    AllZip IsValueOf (qs ++ q ∷ []) (vs ++ v ∷ [])
zip_push [] [] q v zip is = (is, tt)
zip_push [] (w ∷ vs) q v zip is = absurd zip
zip_push (p ∷ qs) [] q v zip is = absurd zip
zip_push (p ∷ qs) (w ∷ vs) q v zip is = (zip.0, zip_push qs vs q v zip.1 is)

all_push : (entries : List Entry) (e : Entry) → AllByRecursion HasItsValue entries → HasItsValue e → AllByRecursion HasItsValue (entries ++ e ∷ [])
all_push [] e all is = (is, tt)
all_push (d ∷ entries) e all is = (all.0, all_push entries e all.1 is)

-- an entry with the same question in the place of another
questions_set : (entries : List Entry) (k : ℕ) (d e : Entry) → slice_get entries k ≡ Some d → e.question ≡ d.question →
    questions (slice_set entries k e) ≡ questions entries
questions_set [] k d e at same = refl
questions_set (c ∷ entries) zero d e at same = ap (λ q. q ∷ questions entries) (same ∙ ap (λ (x : Entry). x.question) (sym (the_some c d at)))
  where
    the_some : (x y : Entry) → Some x ≡ Some y → x ≡ y
    the_some x y p = cc p
questions_set (c ∷ entries) (suc k) d e at same = ap (λ qs. c.question ∷ qs) (questions_set entries k d e at same)

pub all_set : (entries : List Entry) (k : ℕ) (e : Entry) → AllByRecursion HasItsValue entries → HasItsValue e →
    AllByRecursion HasItsValue (slice_set entries k e)
all_set [] k e all is = tt
all_set (c ∷ entries) zero e all is = (is, all.1)
all_set (c ∷ entries) (suc k) e all is = (all.0, all_set entries k e all.1 is)

pub all_get : (entries : List Entry) (k : ℕ) (e : Entry) → AllByRecursion HasItsValue entries → slice_get entries k ≡ Some e → HasItsValue e
all_get [] k e all at = cc
all_get (c ∷ entries) zero e all at = subst HasItsValue (the_some c e at) all.0
  where
    the_some : (x y : Entry) → Some x ≡ Some y → x ≡ y
    the_some x y p = cc p
all_get (c ∷ entries) (suc k) e all at = all_get entries k e all.1 at

pub asked_holds : (asked : List Question) (entries : List Entry) (given : List Value) (q : Question) → Holds asked entries given →
    Holds (asked ++ q ∷ []) (with_question entries q) given
asked_holds asked entries given q h = (
  h.0,
  ap (λ qs. qs ++ q ∷ []) h.1 ∙ append_assoc h.0 (questions entries) (q ∷ [])
      ∙ ap (λ qs. h.0 ++ qs) (sym (map-append (λ e. e.question) entries (fresh q ∷ []))),
  h.2,
  all_push entries (fresh q) h.3 tt,
)

-- an entry that keeps its question, with a value of it or none, in the place of the old one
set_holds : (asked : List Question) (entries : List Entry) (given : List Value) (k : ℕ) (d e : Entry) → slice_get entries k ≡ Some d →
    e.question ≡ d.question → HasItsValue e →
    Holds asked entries given → Holds asked (slice_set entries k e) given
set_holds asked entries given k d e at same is h =
    (h.0, h.1 ∙ ap (λ qs. h.0 ++ qs) (sym (questions_set entries k d e at same)), h.2, all_set entries k e h.3 is)

pub answer_holds : (asked : List Question) (old new : List Entry) (given : List Value) (q : Question) (v : Value) → IsValueOf q v → TakesAnswer q v old new →
    Holds asked old given → Holds asked new given
answer_holds asked old new given q v is (inl kept) h =
    subst (λ es. Holds asked es given) (sym kept.kept)
    (set_holds asked old given kept.place kept.entry (record kept.entry { value = Some v }) kept.at_place refl
    (subst (λ p. IsValueOf p v) (sym kept.waits.0) is) h)
answer_holds asked old new given q v is (inr none) h = subst (λ es. Holds asked es given) (sym none.1) h

note_at : (asked : List Question) (entries : List Entry) (given : List Value) (k : ℕ) (o : Option Entry) → slice_get entries k ≡ o →
    Holds asked entries given → Holds asked (noted entries k o) given
note_at asked entries given k None at h = h
note_at asked entries given k (Some e) at h = go (is_none e.value)
  where
    go : (b : Bool) → Holds asked (cond b (slice_set entries k (record e { missed = true })) entries) given
    go true = set_holds asked entries given k e (record e { missed = true }) at refl (all_get entries k e h.3 at) h
    go false = h

pub note_holds : (asked : List Question) (entries : List Entry) (given : List Value) (n k : ℕ) → Holds asked entries given →
    Holds asked (with_note n k entries) given
note_holds asked entries given n k h = go (nat_le n k)
  where
    go : (b : Bool) → Holds asked (cond b (noted entries (k - n) (slice_get entries (k - n))) entries) given
    go true = note_at asked entries given (k - n) (slice_get entries (k - n)) refl h
    go false = h

settled_is : (q : Question) (o : Option Value) (missed : Bool) (v : Value) → HasItsValue (record { question = q; value = o; missed = missed }) →
    IsWorkedOut (record { question = q; value = o; missed = missed }) v → IsValueOf q (settled_value (record { question = q; value = o; missed = missed }) v)
settled_is q None missed v has worked = worked
settled_is q (Some u) missed v has worked = has

pub settle_holds : (asked : List Question) (e : Entry) (more : List Entry) (given : List Value) (v : Value) → IsWorkedOut e v →
    Holds asked (e ∷ more) given → Holds asked more (given ++ settled_value e v ∷ [])
settle_holds asked e more given v worked h = (
  h.0 ++ e.question ∷ [],
  h.1 ∙ sym (append_assoc h.0 (e.question ∷ []) (questions more)),
  zip_push h.0 given e.question (settled_value e v) h.2 (settled_is e.question e.value e.missed v h.3.0 worked),
  h.3.1,
)

abbrev WorldHolds : World → Type 0
WorldHolds w = Holds w.asked w.entries w.given

settled_holds : (w : World) (entries : List Entry) (v : Value) → w.entries ≡ entries → MaySettle entries v → WorldHolds w →
    WorldHolds (after_settling w v entries)
settled_holds w [] v is may h = h
settled_holds w (e ∷ more) v is may h = settle_holds w.asked e more w.given v may (subst (λ es. Holds w.asked es w.given) is h)

taken_by_holds : (w : World) (n : ℕ) (queue : List ℕ) (o : Option (List ℕ)) → WorldHolds w → WorldHolds (taken_by w n queue o)
taken_by_holds w n [] o h = h
taken_by_holds w n (k ∷ more) None h = h
taken_by_holds w n (k ∷ more) (Some hand) h = h

taken_back_holds : (w : World) (queue : List ℕ) → WorldHolds w → WorldHolds (taken_back w queue)
taken_back_holds w [] h = h
taken_back_holds w (k ∷ more) h = h

module _ (window room : ℕ) where
  step_holds : (w : World) (e : Step) (v : World) → Happens window room w e v → WorldHolds w → WorldHolds v
  step_holds w (Ask q) v step h = subst WorldHolds (sym step) (go (nat_lt (length w.entries) window))
    where
      go : (b : Bool) → WorldHolds (cond b (record w { asked = w.asked ++ q ∷ []; entries = with_question w.entries q }) w)
      go true = asked_holds w.asked w.entries w.given q h
      go false = h
  step_holds w (Post k) v step h = subst WorldHolds (sym step) (go (nat_lt (length w.queue) room))
    where
      go : (b : Bool) → WorldHolds (cond b (record w { posted = w.posted ++ k ∷ []; queue = w.queue ++ k ∷ [] }) w)
      go true = h
      go false = h
  step_holds w (Take n) v step h = subst WorldHolds (sym step) (taken_by_holds w n w.queue (slice_get w.hands n) h)
  step_holds w Back v step h = subst WorldHolds (sym step) (taken_back_holds w w.queue h)
  step_holds w (Answers q a) v step h = subst WorldHolds (sym step.3) (answer_holds w.asked w.entries step.1 w.given q a step.0 step.2 h)
  step_holds w (Miss k) v step h = subst WorldHolds (sym step) (note_holds w.asked w.entries w.given (length w.given) k h)
  step_holds w (Settle a) v step h = subst WorldHolds (sym step.1) (settled_holds w w.entries a refl step.0 h)

  run_holds : (steps : List Step) (w v : World) → Runs window room w steps v → WorldHolds w → WorldHolds v
  run_holds [] w v run h = subst WorldHolds (sym run) h
  run_holds (e ∷ more) w v run h = run_holds more run.0 v run.2 (step_holds w e run.0 run.1 h)

  -- whatever happens, and in whatever order
  pub runs_in_order : (workers : ℕ) (steps : List Step) (v : World) → Runs window room (start workers) steps v → IsInOrder v
  runs_in_order workers steps v run =
      let h : WorldHolds v = run_holds steps (start workers) v run ([], refl, tt, tt) in
      record { first = h.0; rest = h.1; given = h.2 }

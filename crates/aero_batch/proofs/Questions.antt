-- Whatever is replied, the open questions stay as they are, and so does the number of those that were asked.
use Rattle.std.proofs.Common.{◌≡◌, ℕ, zero, suc, ◌-◌, Bool, true, false, List, [], ◌∷◌, map, slice_get, slice_set, Option, Some, None, refl, sym, subst, ◌∙◌}
use Rattle.std.proofs.Common.{ap, arith}
use Rattle.std.specs.Prelude.{is_none, nat_le, if◌then◌else◌, length}
use Rattle.std.proofs.lemmas.List.{length-map}
use Rattle.aero_pieces.specs.declared.question.Question.{Question}
use Rattle.aero_pieces.specs.declared.answer.Value.{Value}
use Rattle.aero_pieces.specs.Schedule.{Entry, noted, with_note}
use Rattle.aero_gather.specs.Gathered.{Gathered, Accepts, with_missed, oldest_of}
use Rattle.aero_gather.specs.declared.gather.Accepted.{Accepted}
use Rattle.aero_gather.specs.declared.gather.Accepted.TheVariants.{Kept, Repeated, Stranger}
use Rattle.std.proofs.lemmas.Bool.{le-leb}
use Rattle.aero_gather.specs.declared.gather.Oldest.TheVariants.{Awaited, Missed, Kept as Kept_oldest}
use Rattle.std.specs.Prelude.{IfOk, Result, Ok, Err}
use Rattle.aero_gather.specs.Gathered.{Settles, GivesKnown}
use Rattle.aero_batch.specs.Inquiries.{SettlesKnown, StaysOpen, questions_of}

the_some : {A : Type 0} (x y : A) → Some x ≡ Some y → x ≡ y
the_some x y p = cc p

-- the question of an entry stays where another value or note is kept in it
same_questions : (entries : List Entry) (place : ℕ) (e d : Entry) → slice_get entries place ≡ Some e → d.question ≡ e.question →
    map (λ x. x.question) (slice_set entries place d) ≡ map (λ x. x.question) entries
same_questions [] place e d at same = refl
same_questions (c ∷ more) zero e d at same =
    ap (λ q. q ∷ map (λ x. x.question) more) (same ∙ ap (λ x. x.question) (the_some e c (sym at)))
same_questions (c ∷ more) (suc place) e d at same = ap (λ qs. c.question ∷ qs) (same_questions more place e d at same)

same_count : (old new : Gathered) → questions_of new ≡ questions_of old → length new.entries ≡ length old.entries
same_count old new same = sym (length-map new.entries (λ x. x.question)) ∙ (ap length same ∙ length-map old.entries (λ x. x.question))

stays_open : (old new : Gathered) → questions_of new ≡ questions_of old → new.tally.asked ≡ old.tally.asked → new.window ≡ old.window → StaysOpen old new
stays_open old new questions asked window = record { questions = questions; count = same_count old new questions; asked = asked; window = window }

pub stays_same : (old new : Gathered) → new ≡ old → StaysOpen old new
stays_same old new is = stays_open old new (ap questions_of is) (ap (λ g. g.tally.asked) is) (ap (λ g. g.window) is)

pub accepted_stays : (q : Question) (v : Value) (old new : Gathered) (r : Accepted) → Accepts q v old new r → StaysOpen old new
accepted_stays q v old new Kept is =
    stays_open old new (ap (λ es. map (λ x. x.question) es) is.0.kept
    ∙ same_questions old.entries is.0.place is.0.entry (record is.0.entry { value = Some v }) is.0.at_place refl)
    (ap (λ g. g.tally.asked) is.1) (ap (λ g. g.window) is.1)
accepted_stays q v old new Repeated is = stays_same old new is.2
accepted_stays q v old new Stranger is = stays_same old new is.1

noted_stays : (entries : List Entry) (place : ℕ) (o : Option Entry) → slice_get entries place ≡ o →
    map (λ x. x.question) (noted entries place o) ≡ map (λ x. x.question) entries
noted_stays entries place None at = refl
noted_stays entries place (Some e) at = go (is_none e.value)
  where
    go : (b : Bool) → map (λ x. x.question) (if b then slice_set entries place (record e { missed = true }) else entries) ≡ map (λ x. x.question) entries
    go true = same_questions entries place e (record e { missed = true }) at refl
    go false = refl

with_note_stays : (gone ticket : ℕ) (entries : List Entry) → map (λ x. x.question) (with_note gone ticket entries) ≡ map (λ x. x.question) entries
with_note_stays gone ticket entries = go (nat_le gone ticket)
  where
    go : (b : Bool) →
        map (λ x. x.question) (if b then noted entries (ticket - gone) (slice_get entries (ticket - gone)) else entries) ≡ map (λ x. x.question) entries
    go true = noted_stays entries (ticket - gone) (slice_get entries (ticket - gone)) refl
    go false = refl

pub missed_stays : (old new : Gathered) (ticket : ℕ) → new ≡ with_missed old ticket → StaysOpen old new
missed_stays old new ticket is =
    stays_open old new (ap questions_of is ∙ with_note_stays (old.tally.asked - length old.entries) ticket old.entries) (ap (λ g. g.tally.asked) is)
    (ap (λ g. g.window) is)

-- an open question that was noted, the oldest one, isn't awaited
oldest_noted : (question : Question) (value : Option Value) (missed : Bool) (more : List Entry) (e : Entry) →
    e ≡ record { question = question; value = value; missed = missed } →
    oldest_of (noted (e ∷ more) 0 (Some e)) ≡ Awaited → ⊥
oldest_noted question None missed more e is awaits =
    let no : Missed ≡ Awaited = subst (λ x. oldest_of (noted (x ∷ more) 0 (Some x)) ≡ Awaited) is awaits in cc
oldest_noted question (Some v) missed more e is awaits =
    let no : Kept_oldest ≡ Awaited = subst (λ x. oldest_of (noted (x ∷ more) 0 (Some x)) ≡ Awaited) is awaits in cc

first_noted : (entries : List Entry) → oldest_of (noted entries 0 (slice_get entries 0)) ≡ Awaited → ⊥
first_noted [] awaits = cc
first_noted (e ∷ more) awaits = oldest_noted e.question e.value e.missed more e refl awaits

pub missed_ends : (old : Gathered) (ticket : ℕ) → ticket ≡ old.tally.asked - length old.entries → oldest_of (with_missed old ticket).entries ≡ Awaited → ⊥
missed_ends old ticket is awaits =
    let gone = old.tally.asked - length old.entries in
    let none : gone - gone ≡ 0 = omega (arith) in
    let there : with_note gone gone old.entries ≡ noted old.entries 0 (slice_get old.entries 0) =
    ap (λ b. if b then noted old.entries (gone - gone) (slice_get old.entries (gone - gone)) else old.entries) (le-leb gone gone (omega (arith)))
    ∙ ap (λ n. noted old.entries n (slice_get old.entries n)) none in
    first_noted old.entries (subst (λ es. oldest_of es ≡ Awaited) there (subst (λ k. oldest_of (with_note gone k old.entries) ≡ Awaited) is awaits))

-- what is given is one of the question's values
given_known : (old new : Gathered) (entries : List Entry) (given : Option Value) → Settles old entries new given → GivesKnown entries given →
    SettlesKnown old entries new given
given_known old new [] given is known = is
given_known old new (e ∷ more) given is known =
    (known.0, known.1, known.2, ap (λ g. g.entries) is.3, ap (λ g. g.tally.asked) is.3, ap (λ g. g.window) is.3)

pub settles_known : {A E : Type 0} (value : A → Option Value) (old new : Gathered) (r : Result A E) →
    IfOk r (λ given. Settles old old.entries new (value given)) →
    IfOk r (λ given. GivesKnown old.entries (value given)) → IfOk r (λ given. SettlesKnown old old.entries new (value given))
settles_known value old new (Ok given) is known = given_known old new old.entries (value given) is known
settles_known value old new (Err e) is known = tt

-- What holds between two steps is kept by each, and says what was written where the run stops.
use Rattle.std.proofs.Common.{◌≡◌, ℕ, zero, suc, ◌<◌, ◌≤◌, ◌^◌, Bool, true, false, List, [], ◌∷◌, ◌++◌, map, length, slice_get, Option, Some, None}
use Rattle.std.proofs.Common.{Result, Ok, Err, refl, sym, ◌∙◌, ap, ap₂, subst, inl, inr, arith}
use Rattle.std.specs.Prelude.{IfOk, IfErr, replicate, vec_len}
use Rattle.std.specs.List.{concat}
use Rattle.std.proofs.KnownBytes.{Appends-nil}
use Rattle.std.proofs.lemmas.List.{append-nil, length-map, map-append, length_push, length-replicate}
use Rattle.std.proofs.lemmas.Option.{slice_get_within}
use Rattle.aero_model.specs.declared.verdict.Ending.TheVariants.{Stopped}
use Rattle.aero_intake.specs.declared.found.Found as model
use Rattle.aero_model.specs.CallCounts.{Seen}
use Rattle.aero_model.specs.Verdicts.{counted, total}
use Rattle.aero_report.specs.declared.form.Form.{Form}
use Rattle.aero_report.specs.Forms.{source_line_in}
use Rattle.aero_telling.specs.declared.cause.Cause.{Cause}
use Rattle.aero_telling.specs.declared.cause.Cause.TheVariants.{Memory, Write}
use Rattle.aero_batch.specs.declared.underway.Underway.{Underway}
use Rattle.aero_telling.specs.declared.told.Told.{Told}
use Rattle.aero_intake.specs.declared.track.Track.{Track}
use Rattle.aero_intake.specs.declared.track.Track.TheVariants as tracks
use Rattle.aero_telling.specs.Notables.{notable_of}
use Rattle.aero_telling.specs.Founds.{Sighted, whose, Found, IsFoundAt, AreOfTheFirst, ending_of, notable, lines_of_all, Took}
use Rattle.aero_telling.specs.Founds.{IsWritten, no_text}
use Rattle.aero_telling.specs.Labels.{HasTold}
use Rattle.aero_batch.specs.Holding.{Holds, HasComeFrom, Counted, AreTold, Tells, Stands, HasNumbers, IsBegun, nothing_known}
use Rattle.aero_batch.specs.Inquiries.{Inquired, AreApart, all_open, open_count}
use Rattle.aero_intake.specs.Held.{nothing_read}
use Rattle.aero_intake.specs.Intake.{Taking, IsTaken, HaveCome}
use Rattle.aero_intake.specs.Source.{WasRead}
use Rattle.aero_batch.specs.Steps.{IsStart, Steps, ReadsOn}
use Rattle.aero_telling.specs.Telling.{WasCut, TellsFound, IsOneMore}
use Rattle.aero_batch.specs.Telling.{TellsNext}
use Rattle.aero_intake.specs.Stories.{Story, IsTracked}
use Rattle.aero_batch.proofs.Apart.{nothing_apart}
use Rattle.aero_batch.proofs.Readings.{not_none, taking_holds, noting_holds, stopping_holds, cutting_holds, passing_over_holds, passing_holds}
use Rattle.aero_intake.proofs.Taken.{nothing_is_taken, nothing_has_come}
use Rattle.aero_batch.proofs.Retold.{settling_holds, checking_holds}
use Rattle.aero_batch.proofs.Sums.{settling_counted, checking_counted, taking_counted, noting_counted, cutting_counted, passing_counted, stopping_counted, ending_counted}
use Rattle.aero_telling.proofs.Tellings.{begun_more, flags_more, none_begun, the_some, get_push, slice_get_some, lines_more, counts_more, took_more, took_nothing, cut_off}
use Rattle.aero_model.specs.Terms.{Terms}

not_both : (b : Bool) → b ≡ true → b ≡ false → ⊥
not_both b is_true is_false = cc (is_true, is_false)

-- the tracks that may be told are those of sources that have ended
found_tells : (terms : Terms) (old now : List Sighted) (p : Underway) (tale : ℕ → Story) (place : ℕ) (g : model.Found) →
    Holds terms old now p tale → place < p.read →
    slice_get p.tracks.items place ≡ Some (tracks.Found g) → (name : List ℕ) →
    ((b : Sighted) → slice_get old place ≡ Some b → b.name ≡ name) →
    Tells terms old place (tale place) (record { name = name; bytes = concat (tale place).pieces; ending = g.ending; finding = g.finding })
found_tells terms old now p tale place g holds below at name named =
    let is = holds.tracked place (tracks.Found g) at in
    let has = holds.ended place below in
    record {
      before = has.before;
      was = has.was;
      name = sym (named has.before has.was);
      bytes = refl;
      ending = is.0;
      finding = is.2;
    }

-- what is told of the first sources was found of them
found_first : (terms : Terms) (old now : List Sighted) (p : Underway) (tale : ℕ → Story) (founds : List Found) → Holds terms old now p tale →
    ((s : ℕ) (f : Found) → slice_get founds s ≡ Some f → Tells terms old s (tale s) f) →
    length founds ≤ p.read → AreOfTheFirst terms old now founds
found_first terms old now p tale founds holds tells few place f at =
    let within = slice_get_within founds place f at in
    let below : place < p.read = omega (arith, within, few) in
    let has = holds.ended place below in
    let t = tells place f at in
    let same : t.before ≡ has.before = the_some t.before has.before (sym t.was ∙ has.was) in
    let ends : has.ending ≡ f.ending = the_some has.ending f.ending (sym has.ended ∙ t.ending) in
    record {
      before = has.before;
      after = has.after;
      was = has.was;
      is = has.is;
      found_of = record {
        name = t.name ∙ ap (λ (b : Sighted). b.name) same;
        read = subst (λ e. WasRead has.before.reader has.after.reader terms.rules.limits.bytes f.bytes e) ends
            (subst (λ bs. WasRead has.before.reader has.after.reader terms.rules.limits.bytes bs has.ending) (sym t.bytes) has.read);
        finding = t.finding;
      };
    }

-- a source keeps its name
name_then : (old now : List Sighted) (s : ℕ) (b : Sighted) {name : List ℕ} → map whose now ≡ map whose old → slice_get old s ≡ Some b →
    ((x : Sighted) → slice_get now s ≡ Some x → x.name ≡ name) → b.name ≡ name
name_then old [] s b names was named = absurd (no_less old s b names was)
  where
    no_less : (old : List Sighted) (s : ℕ) (b : Sighted) → [] ≡ map whose old → slice_get old s ≡ Some b → ⊥
    no_less [] s b names was = cc (was)
    no_less (c ∷ old) s b names was = cc (names)
name_then [] (x ∷ now) s b names was named = cc (was)
name_then (c ∷ old) (x ∷ now) zero b names was named =
    let first : whose x ≡ whose c = cc names in
    sym (ap (λ w. w.0) first ∙ ap (λ (y : Sighted). y.name) (the_some c b was)) ∙ named x refl
name_then (c ∷ old) (x ∷ now) (suc s) b names was named =
    let rest : map whose now ≡ map whose old = cc names in
    name_then old now s b rest was named

-- one more source is told
pub told_stands : (terms : Terms) (form : Form) (old now : List Sighted) (before mid after : Seen) (p : Underway) (a b : Told) (g : model.Found)
    (name : List ℕ) →
    vec_len a.endings < p.checked → slice_get p.tracks.items (vec_len a.endings) ≡ Some (tracks.Found g) →
    ((x : Sighted) → slice_get now (vec_len a.endings) ≡ Some x → x.name ≡ name) →
    Took mid after (source_line_in form name g.finding) → IsOneMore a b g → Stands terms form old now before mid p a →
    Stands terms form old now before after p b
told_stands terms form old now before mid after p a b g name below at named took more st =
    let t = st.are_told in
    let place = vec_len a.endings in
    let same_place : place ≡ length st.founds = a.endings.ok.0 ∙ (ap length t.endings ∙ length-map st.founds ending_of) in
    let f : Found = record { name = name; bytes = concat (st.tale place).pieces; ending = g.ending; finding = g.finding } in
    let is = st.holds.tracked place (tracks.Found g) at in
    let read_below : place < p.read = omega (arith, below, st.counted.checked) in
    let tells = found_tells terms old now p st.tale place g st.holds read_below at name
    (λ b was. name_then old now place b st.names was named) in
    record {
      tale = st.tale;
      founds = st.founds ++ f ∷ [];
      holds = st.holds;
      are_told = record {
        tells = λ s found there. elim (get_push st.founds f s found there) [
          | inl was ↦ t.tells s found was
          | inr is ↦ subst (λ x. Tells terms old s (st.tale s) x) (sym is.1) (subst (λ n. Tells terms old n (st.tale n) f) (same_place ∙ sym is.0) tells)
        ];
        few = omega (arith, length_push st.founds f, below, same_place);
        took = subst (λ text. Took before after text) (sym (lines_more form st.founds f))
            (took_more before mid after (lines_of_all form st.founds) (source_line_in form name g.finding) t.took took);
        endings = more.endings ∙ (ap₂ (λ es n. es ++ (n, g.ending) ∷ []) t.endings is.1 ∙ sym (map-append ending_of st.founds (f ∷ [])));
        counts = more.counts ∙ (ap (λ c. counted c g.finding) t.counts ∙ sym (counts_more st.founds f));
        begun = begun_more terms st.founds f a.begun g.begun b.begun t.flags t.begun is.3 more.begun;
        flags = flags_more terms.rules.labels.labels a.begun g.begun b.begun t.flags more.begun;
        total_is = omega (arith, more.counted_one, t.total_is, length_push st.founds f);
        room = more.room ∙ t.room;
        notables = more.notables ∙ (ap (λ fs. fs ++ notable_of g.finding ∷ []) t.notables ∙ sym (map-append notable st.founds (f ∷ [])));
        notables_room = more.notables_room ∙ t.notables_room;
      };
      counted = st.counted;
      names = st.names;
    }

-- the run stops: what stands, and why

stopped : (terms : Terms) (form : Form) (old now now' : List Sighted) (before mid after : Seen) (p : Underway) (a : Told)
    (st : Stands terms form old now before mid p a) (cause : Option Cause) →
    ((s : ℕ) → s < p.read → slice_get now' s ≡ slice_get now s) → map whose now' ≡ map whose now →
    IsWritten terms form no_text old now' st.founds before after cause → HasTold terms form old now' before after a cause
stopped terms form old now now' before mid after p a st cause same names written = record {
  lines = record {
    founds = st.founds;
    found = found;
    names = names ∙ st.names;
    ended = st.are_told.endings;
    notable = st.are_told.notables;
    counted = st.are_told.counts;
    written = written;
  };
  labels = record { founds = st.founds; found = found; ended = st.are_told.endings; begun_are = st.are_told.begun };
}
  where
    found : AreOfTheFirst terms old now' st.founds
    found place f at =
        let few : length st.founds ≤ p.read = omega (arith, st.are_told.few, st.counted.checked) in
        let is = found_first terms old now p st.tale st.founds st.holds st.are_told.tells few place f at in
        let within = slice_get_within st.founds place f at in
        record { before = is.before; after = is.after; was = is.was; is = same place (omega (arith, within, few)) ∙ is.is; found_of = is.found_of }

pub memory_stops : (terms : Terms) (form : Form) (old now now' : List Sighted) (before mid after : Seen) (p : Underway) (a : Told) →
    Stands terms form old now before mid p a →
    ((s : ℕ) → s < p.read → slice_get now' s ≡ slice_get now s) → map whose now' ≡ map whose now → Took mid after [] →
    HasTold terms form old now' before after a (Some Memory)
memory_stops terms form old now now' before mid after p a st same names took =
    stopped terms form old now now' before mid after p a st (Some Memory) same names
    (took_nothing before mid after (lines_of_all form st.founds) st.are_told.took took)

-- a write of the next source's line failed
pub line_stops : (terms : Terms) (form : Form) (old now : List Sighted) (before mid after : Seen) (p : Underway) (a : Told) (g : model.Found)
    (name : List ℕ) →
    vec_len a.endings < p.checked → slice_get p.tracks.items (vec_len a.endings) ≡ Some (tracks.Found g) →
    ((x : Sighted) → slice_get now (vec_len a.endings) ≡ Some x → x.name ≡ name) → WasCut mid after (source_line_in form name g.finding) →
    Stands terms form old now before mid p a →
    HasTold terms form old now before after a (Some Write)
line_stops terms form old now before mid after p a g name below at named cut st =
    let t = st.are_told in
    let place = vec_len a.endings in
    let same_place : place ≡ length st.founds = a.endings.ok.0 ∙ (ap length t.endings ∙ length-map st.founds ending_of) in
    let f : Found = record { name = name; bytes = concat (st.tale place).pieces; ending = g.ending; finding = g.finding } in
    let read_below : place < p.read = omega (arith, below, st.counted.checked) in
    let tells = found_tells terms old now p st.tale place g st.holds read_below at name
    (λ b was. name_then old now place b st.names was named) in
    let has = st.holds.ended place read_below in
    let ends : has.ending ≡ g.ending = the_some has.ending g.ending (sym has.ended ∙ tells.ending) in
    let same : tells.before ≡ has.before = the_some tells.before has.before (sym tells.was ∙ has.was) in
    let is : IsFoundAt terms old now place f = record {
      before = has.before;
      after = has.after;
      was = has.was;
      is = has.is;
      found_of = record {
        name = tells.name ∙ ap (λ (b : Sighted). b.name) same;
        read = subst (λ e. WasRead has.before.reader has.after.reader terms.rules.limits.bytes f.bytes e) ends has.read;
        finding = tells.finding;
      };
    } in
    stopped terms form old now now before mid after p a st (Some Write) (λ s less. refl) refl
    (cut_off terms form no_text old now before mid after st.founds (source_line_in form name g.finding)
    (inl (f, subst (λ n. IsFoundAt terms old now n f) same_place is, refl)) t.took cut)

-- what is told stays true where another source's story goes on
still_told : (terms : Terms) (form : Form) (old : List Sighted) (before mid : Seen) (p q : Underway) (a : Told) (tale new : ℕ → Story) (founds : List Found) →
    p.checked ≤ p.read → p.checked ≤ q.checked →
    ((s : ℕ) → s < p.read → new s ≡ tale s) → AreTold terms form old before mid p a tale founds → AreTold terms form old before mid q a new founds
still_told terms form old before mid p q a tale new founds below more same t = record {
  tells = λ s f at.
      let within = slice_get_within founds s f at in
      subst (λ (x : Story). Tells terms old s x f) (sym (same s (omega (arith, within, t.few, below)))) (t.tells s f at);
  few = omega (arith, t.few, more);
  took = t.took;
  endings = t.endings;
  notables = t.notables;
  counts = t.counts;
  begun = t.begun;
  flags = t.flags;
  total_is = t.total_is;
  room = t.room;
  notables_room = t.notables_room;
}

-- what holds of the sources after a step: what became of those that had ended stays
pub record Goes (terms : Terms) (old after : List Sighted) (p q : Underway) (tale : ℕ → Story) : Type 0 where
  pub new : ℕ → Story
  pub holds : Holds terms old after q new
  pub same : (s : ℕ) → s < p.read → new s ≡ tale s
  pub counted : Counted terms (length old) q
  pub more : p.checked ≤ q.checked

-- One step keeps what holds of the sources.
pub step_goes : (terms : Terms) (old now after : List Sighted) (p q : Underway) (tale : ℕ → Story) → Steps terms now after p q →
    map whose now ≡ map whose old → Holds terms old now p tale → Counted terms (length old) p → Goes terms old after p q tale
step_goes terms old now after p q tale (inl is) names holds counted = record {
  new = tale;
  holds = subst (λ l. Holds terms old l q tale) (sym is.0) (settling_holds terms old now is.1 p q tale is.2 holds);
  same = λ s less. refl;
  counted = settling_counted terms (length old) is.1 p q is.2 counted;
  more = omega (arith, is.2.checked);
}
step_goes terms old now after p q tale (inr (inl is)) names holds counted = record {
  new = tale;
  holds = subst (λ l. Holds terms old l q tale) (sym is.0) (checking_holds terms old now p q tale is.3 holds);
  same = λ s less. refl;
  counted = checking_counted terms (length old) p q is.1 is.2 is.3 counted;
  more = omega (arith, is.3.checked);
}
step_goes terms old now after p q tale (inr (inr is)) names holds counted = go is.reads
  where
    same_length : length now ≡ length old
    same_length = sym (length-map now whose) ∙ (ap length names ∙ length-map old whose)

    go : ReadsOn terms is.before_read is.after_read p q → Goes terms old after p q tale
    go (inl (reading, inl (inl takes))) = record {
      new = tale;
      holds = taking_holds terms old now after p q tale is.before_read is.after_read is.from reading takes holds;
      same = λ s less. refl;
      counted = taking_counted terms (length old) p q is.before_read is.after_read takes counted;
      more = omega (arith, ap (λ (m : Underway). m.checked) takes.new_is);
    }
    go (inl (reading, inr (closes, stops))) =
        let new = stopping_holds terms old now after p q tale is.before_read is.after_read is.from closes reading stops holds in
        record {
          new = new.0;
          holds = new.1;
          same = new.2;
          counted = stopping_counted terms (length old) p q stops counted;
          more = omega (arith, ap (λ (m : Underway). m.checked) stops.new_is);
        }
    go (inl (reading, inl (inr notes))) = record {
      new = tale;
      holds = noting_holds terms old now after p q tale is.before_read is.after_read is.from reading notes holds;
      same = λ s less. refl;
      counted = noting_counted terms (length old) p q is.before_read is.after_read notes counted;
      more = omega (arith, ap (λ (m : Underway). m.checked) notes.new_is);
    }
    go (inr (inl (unused, inr passes))) =
        let new = passing_over_holds terms old now after p q tale is.before_read is.after_read is.from unused passes holds in
        record {
          new = new.0;
          holds = new.1;
          same = new.2;
          counted = passing_counted terms (length old) p q passes counted;
          more = omega (arith, ap (λ (m : Underway). m.checked) passes.new_is);
        }
    go (inr (inl (unused, inl cuts))) =
        let new = cutting_holds terms old now after p q tale is.before_read is.after_read is.from unused cuts holds in
        record {
          new = new.0;
          holds = new.1;
          same = new.2;
          counted = cutting_counted terms (length old) p q is.may cuts counted;
          more = omega (arith, cuts.checked);
        }
    go (inr (inr (unused, passes))) =
        let within : p.read < length old = omega (arith, is.unread, same_length) in
        let first = slice_get_some old p.read within in
        let new = passing_holds terms old now after p q tale is.before_read is.after_read first.0 first.1 is.from unused passes holds in
        record {
          new = new.0;
          holds = new.1;
          same = new.2;
          counted = ending_counted terms (length old) p q passes.ending within is.may passes.ends counted;
          more = omega (arith, passes.ends.checked);
        }

-- One step keeps what holds.
pub step_stands : (terms : Terms) (form : Form) (old now after : List Sighted) (before mid : Seen) (p q : Underway) (a : Told) → Steps terms now after p q →
    map whose after ≡ map whose now →
    Stands terms form old now before mid p a → Stands terms form old after before mid q a
step_stands terms form old now after before mid p q a steps names st =
    let goes = step_goes terms old now after p q st.tale steps st.names st.holds st.counted in
    record {
      tale = goes.new;
      founds = st.founds;
      holds = goes.holds;
      are_told = still_told terms form old before mid p q a st.tale goes.new st.founds st.counted.checked goes.more goes.same st.are_told;
      counted = goes.counted;
      names = names ∙ st.names;
    }

-- Telling the next source

module _ (terms : Terms) (form : Form) (now : List Sighted) (mid after : Seen) (p : Underway) (a b : Told) (name : List ℕ)
    (below : vec_len a.endings < p.checked)
    (named : (x : Sighted) → slice_get now (vec_len a.endings) ≡ Some x → x.name ≡ name) where
  abbrev KeepsStanding : Result Bool Cause → Type 0
  KeepsStanding r = IfOk r (λ is_told. is_told ≡ true → (old : List Sighted) (before : Seen) → Stands terms form old now before mid p a →
      Stands terms form old now before after p b)

  abbrev Untouched : Result Bool Cause → Type 0
  Untouched r = IfOk r (λ is_told. is_told ≡ false → (after ≡ mid) × (b ≡ a))

  abbrev Stops : Result Bool Cause → Type 0
  Stops r = IfErr r (λ cause. (old : List Sighted) (before : Seen) → Stands terms form old now before mid p a →
      HasTold terms form old now before after b (Some cause))

  abbrev Tellings : Result Bool Cause → Type 0
  Tellings r = KeepsStanding r × Untouched r × Stops r

  not_told : (after ≡ mid) × (b ≡ a) → Tellings (Ok false)
  not_told same = ((λ e old before st. cc (e)), (λ e. same), tt)

  found_told : (g : model.Found) (r : Result Bool Cause) → slice_get p.tracks.items (vec_len a.endings) ≡ Some (tracks.Found g) →
      TellsFound form name g mid after a b r → Tellings r
  found_told g (Ok true) at tells = (
    (λ e old before st. told_stands terms form old now before mid after p a b g name below at named tells.0 tells.1 st),
    (λ e. cc (e)),
    tt,
  )
  found_told g (Ok false) at tells = absurd tells
  found_told g (Err Memory) at tells = (
    tt,
    tt,
    λ old before st. subst (λ (t : Told). HasTold terms form old now before after t (Some Memory)) (sym tells.1)
        (memory_stops terms form old now now before mid after p a st (λ s less. refl) refl tells.0),
  )
  found_told g (Err Write) at tells = (
    tt,
    tt,
    λ old before st. subst (λ (t : Told). HasTold terms form old now before after t (Some Write)) (sym tells.1)
        (line_stops terms form old now before mid after p a g name below at named tells.0 st),
  )

  pub telling : (track : Track) (r : Result Bool Cause) → slice_get p.tracks.items (vec_len a.endings) ≡ Some track →
      TellsNext form name track mid after a b r → Tellings r
  telling (tracks.Found g) r at tells = found_told g r at tells
  telling (tracks.Arriving known) (Ok false) at tells = not_told tells
  telling (tracks.Arriving known) (Ok true) at tells = absurd tells
  telling (tracks.Arriving known) (Err cause) at tells = absurd tells
  telling (tracks.Arrived bytes ending chunks known) (Ok false) at tells = not_told tells
  telling (tracks.Arrived bytes ending chunks known) (Ok true) at tells = absurd tells
  telling (tracks.Arrived bytes ending chunks known) (Err cause) at tells = absurd tells
  telling (tracks.Checking bytes ending begun) (Ok false) at tells = not_told tells
  telling (tracks.Checking bytes ending begun) (Ok true) at tells = absurd tells
  telling (tracks.Checking bytes ending begun) (Err cause) at tells = absurd tells

-- the numbers of what stands
pub standing_numbers : (terms : Terms) (form : Form) (old now : List Sighted) (before mid : Seen) (p : Underway) (a : Told) →
    Stands terms form old now before mid p a → HasNumbers terms (length old) p a
standing_numbers terms form old now before mid p a st =
    let same : vec_len a.endings ≡ length st.founds = a.endings.ok.0 ∙ (ap length st.are_told.endings ∙ length-map st.founds ending_of) in
    record {
      counted = st.counted;
      told_few = omega (arith, same, st.are_told.few);
      total_is = st.are_told.total_is ∙ sym same;
      room = st.are_told.room;
      as_many = a.notables.ok.0 ∙ (ap length st.are_told.notables ∙ length-map st.founds notable) ∙ sym same;
      notables_room = st.are_told.notables_room;
    }

get_replicate : {A : Type 0} (n s : ℕ) (x y : A) → slice_get (replicate n x) s ≡ Some y → y ≡ x
get_replicate zero s x y at = cc (at)
get_replicate (suc n) zero x y at = sym (the_some x y at)
get_replicate (suc n) (suc s) x y at = get_replicate n s x y at

-- before the first step

pub begun_holds : (terms : Terms) (old : List Sighted) (p : Underway) → IsStart terms (length old) p → Holds terms old old p (λ s. nothing_known)
begun_holds terms old p start = record {
  apart = subst AreApart (sym start.inquiry) nothing_apart;
  tracked = λ s t at.
      let none = tracks.Arriving (nothing_read terms) in
      let track : t ≡ none = get_replicate (length old) s none t (subst (λ ts. slice_get ts s ≡ Some t) start.tracks at) in
      subst (λ (i : Inquired). IsTracked terms (all_open i) s nothing_known t) (sym start.inquiry)
      (subst (λ x. IsTracked terms [] s nothing_known x) (sym track) (record { on = refl; all = refl }, refl, refl));
  ended = λ s below. absurd (omega (arith, below, start.none_read));
  cut = [];
  taken = subst (λ (i : Taking). IsTaken i [] []) (sym start.intake) nothing_is_taken;
  enough = inl refl;
  passed = λ is_passed. absurd (not_both p.intake.passed is_passed (ap (λ (i : Taking). i.passed) start.intake));
  stopped = λ e. absurd (not_none p.ended Stopped start.reading e);
  come = subst (λ e. HasComeFrom terms old old p.read ([] ++ p.intake.held) e) (sym start.reading)
      (subst (λ (i : Taking). HasComeFrom terms old old p.read i.held None) (sym start.intake)
      (λ x y at_old at_now. subst (λ (z : Sighted). HaveCome x.reader z.reader []) (the_some x y (sym at_old ∙ at_now)) (nothing_has_come x.reader)));
  asked = start.no_chunks;
  not_ended = refl;
  later = λ s above. (refl, refl);
}

pub begun_counted : (terms : Terms) (sources : ℕ) (p : Underway) → IsStart terms sources p → sources ≤ 65536 → terms.rules.limits.bytes ≤ 2 ^ 46 → Counted terms sources p
begun_counted terms sources p start few few_bytes =
    let count : p.intake.count ≡ 0 = ap (λ (i : Taking). i.count) start.intake in
    let held : length p.intake.held ≡ 0 = ap (λ (i : Taking). length i.held) start.intake in
    let asked : p.inquiry.asked ≡ 0 = ap (λ (i : Inquired). i.asked) start.inquiry in
    let questions : open_count p.inquiry ≡ 0 = ap open_count start.inquiry in
    record {
      tracks = ap length start.tracks ∙ length-replicate sources (tracks.Arriving (nothing_read terms));
      few_sources = few;
      read = omega (arith, start.none_read);
      checked = omega (arith, start.none_checked);
      open_few = omega (arith, questions);
      within = omega (arith, count);
      few_bytes = few_bytes;
      chunks = omega (arith, start.no_chunks, held);
      asked = omega (arith, asked);
    }

pub begun_stands : (terms : Terms) (form : Form) (old : List Sighted) (before : Seen) (p : Underway) (a : Told) → IsBegun terms (length old) p a →
    Stands terms form old old before before p a
begun_stands terms form old before p a is = record {
  tale = λ s. nothing_known;
  founds = [];
  holds = begun_holds terms old p is.start;
  are_told = record {
    tells = λ s f at. cc (at);
    few = omega arith;
    took = record { went = Appends-nil before.bytes; faults = refl };
    endings = is.endings;
    notables = is.notables;
    counts = is.counts;
    begun = none_begun terms a.begun is.begun;
    flags = is.flags;
    total_is = ap total is.counts;
    room = is.room;
    notables_room = is.notables_room;
  };
  counted = begun_counted terms (length old) p is.start is.few is.few_bytes;
  names = refl;
}

-- at the end: all sources are told
pub all_done : (terms : Terms) (form : Form) (old now : List Sighted) (before mid : Seen) (p : Underway) (a : Told) →
    vec_len a.endings ≡ length now → Stands terms form old now before mid p a →
    HasTold terms form old now before mid a None
all_done terms form old now before mid p a all st =
    let told_all : length st.founds ≡ length old =
    sym (a.endings.ok.0 ∙ (ap length st.are_told.endings ∙ length-map st.founds ending_of))
    ∙ (all ∙ (sym (length-map now whose) ∙ (ap length st.names ∙ length-map old whose))) in
    stopped terms form old now now before mid mid p a st None (λ s less. refl) refl
    (told_all, subst (λ text. Took before mid text) (sym (append-nil (lines_of_all form st.founds))) st.are_told.took)

-- Telling what the lanes found keeps what holds, and says what was written where it stops.
use Rattle.std.proofs.Common.{◌≡◌, ℕ, ◌+◌, ◌<◌, ◌≤◌, Bool, true, false, List, [], ◌∷◌, ◌++◌, map, length, take, slice_get, Option, Some, None, Result, Ok, Err}
use Rattle.std.proofs.Common.{refl, sym, ◌∙◌, ap, ap₂, subst, inl, inr, arith}
use Rattle.std.specs.Prelude.{IfOk, IfErr, IfSome, OnOk, vec_len}
use Rattle.std.proofs.KnownBytes.{Appends-nil, Appends-trans}
use Rattle.std.proofs.lemmas.List.{length-map, map-append, length_push}
use Rattle.std.proofs.lemmas.Option.{slice_get_within}
use Rattle.aero_intake.specs.Begun.{AreBegun}
use Rattle.aero_intake.specs.declared.found.Found as model
use Rattle.aero_model.specs.CallCounts.{Seen}
use Rattle.aero_model.specs.Verdicts.{counted, total}
use Rattle.aero_report.specs.declared.form.Form.{Form}
use Rattle.aero_report.specs.Forms.{source_line_in}
use Rattle.aero_telling.specs.declared.cause.Cause.{Cause}
use Rattle.aero_telling.specs.declared.cause.Cause.TheVariants.{Memory, Write}
use Rattle.aero_telling.specs.declared.told.Told.{Told}
use Rattle.aero_intake.specs.Alone.{IsFoundIn}
use Rattle.aero_telling.specs.Notables.{notable_of}
use Rattle.aero_telling.specs.Founds.{Found, Took, ending_of, notable, lines_of_all}
use Rattle.aero_telling.specs.Telling.{WasCut, TellsFound, IsOneMore}
use Rattle.aero_telling.proofs.Tellings.{begun_more, flags_more, none_begun, get_push, lines_more, counts_more, took_more, took_nothing, slice_get_some}
use Rattle.aero_intake.specs.Source.{Sight}
use Rattle.aero_intake.specs.declared.source.SourceOf.{SourceOf}
use Rattle.aero_lanes.specs.declared.lane.Ended.{Ended}
use Rattle.aero_lanes.specs.declared.seat.Seat.{Seat}
use Rattle.aero_lanes.specs.declared.seat.Seat.TheVariants as seats
use Rattle.aero_lanes.specs.Ends.{IsEndOf}
use Rattle.aero_lanes.specs.Seats.{AreSeated, GoOn, IsFoundBy}
use Rattle.aero_lanes.specs.Tellings.{StandsSo, StopsSo, WasCutSo, IsTextAfter, TellsEnd, TellsSeat, TellsNextSeat, HasNumbersOf, IsBegunSo}
use Rattle.aero_model.specs.Terms.{Terms}

-- before anything is told
pub begun_so : {R : Type 0} (known : R → Sight) (terms : Terms) (form : Form) (origin : List (SourceOf R)) (before : Seen) (seats : List (Seat R)) (a : Told) →
    AreSeated known terms origin seats → (sources : ℕ) → IsBegunSo terms.rules.labels.labels sources a → StandsSo known terms form origin before before seats a
begun_so known terms form origin before seats a seated sources is = record {
  seated = seated;
  founds = [];
  told_so = record {
    found = λ place f at. cc (at);
    took = record { went = Appends-nil before.bytes; faults = refl };
    endings = is.endings;
    notables = is.notables;
    counts = is.counts;
    begun = none_begun terms a.begun is.begun;
    flags = is.flags;
  };
}

pub begun_numbers : (labels : List (List ℕ)) (sources : ℕ) (a : Told) → sources ≤ 65536 → IsBegunSo labels sources a → HasNumbersOf sources a
begun_numbers labels sources a few is =
    let none : vec_len a.endings ≡ 0 = a.endings.ok.0 ∙ ap length is.endings in
    record {
      few = omega (arith, none);
      few_sources = few;
      total_is = ap total is.counts ∙ sym none;
      room = is.room;
      as_many = a.notables.ok.0 ∙ (ap length is.notables ∙ sym none);
      notables_room = is.notables_room;
    }

-- what is told stays true where seats change
pub stands_on : {R : Type 0} (known : R → Sight) (terms : Terms) (form : Form) (origin : List (SourceOf R)) (before mid : Seen) (old new : List (Seat R)) (a : Told) →
    GoOn known terms old new → StandsSo known terms form origin before mid old a → StandsSo known terms form origin before mid new a
stands_on known terms form origin before mid old new a on st = record {
  seated = on.fits origin st.seated;
  founds = st.founds;
  told_so = record {
    found = λ place f at.
        let is = st.told_so.found place f at in
        record { before = is.before; end = is.end; was = is.was; is = on.done place is.end is.is; found_of = is.found_of };
    took = st.told_so.took;
    endings = st.told_so.endings;
    notables = st.told_so.notables;
    counts = st.told_so.counts;
    begun = st.told_so.begun;
    flags = st.told_so.flags;
  };
}

-- the next source, whose lane has ended and has found this
found_next : {R : Type 0} (known : R → Sight) (terms : Terms) (origin : List (SourceOf R)) (all : List (Seat R)) (place : ℕ) (end : Ended R) (j : model.Found) →
    AreSeated known terms origin all → slice_get all place ≡ Some (seats.Done end) → end.found ≡ Some j →
    (f : Found) × IsFoundBy known terms origin all place f × (ending_of f ≡ (j.bytes, j.ending)) × (f.finding ≡ j.finding) × (f.name ≡ end.source.name.items)
    × AreBegun terms f.bytes f.ending j.begun
found_next {R} known terms origin all place end j seated at found_is =
    let within = slice_get_within all place (seats.Done end) at in
    let first = slice_get_some origin place (omega (arith, within, seated.count)) in
    let before = first.0 in
    let fits : IsEndOf known terms before end = seated.fits place before (seats.Done end) first.1 at in
    let is : IsFoundIn terms (known before.reader) (known end.source.reader) j =
    subst (λ (o : Option model.Found). IfSome o (λ x. IsFoundIn terms (known before.reader) (known end.source.reader) x)) found_is fits.found in (
      record { name = before.name.items; bytes = is.bytes; ending = j.ending; finding = j.finding },
      record { before = before; end = end; was = first.1; is = at; found_of = record { name = refl; read = is.read; finding = is.finding } },
      ap (λ n. (n, j.ending)) (sym is.count),
      refl,
      sym (ap (λ w. w.0) fits.whose_is),
      is.begun,
    )

module _ {R : Type 0} (known : R → Sight) (terms : Terms) (form : Form) (all : List (Seat R)) (mid after : Seen) (a b : Told) where
  place_is : (founds : List Found) → a.endings.items ≡ map ending_of founds → vec_len a.endings ≡ length founds
  place_is founds is = a.endings.ok.0 ∙ (ap length is ∙ length-map founds ending_of)

  abbrev Keeps : Type 0
  Keeps = (origin : List (SourceOf R)) (before : Seen) → StandsSo known terms form origin before mid all a → StandsSo known terms form origin before after all b

  abbrev Stops : Cause → Type 0
  Stops cause = (origin : List (SourceOf R)) (before : Seen) → StandsSo known terms form origin before mid all a → StopsSo known terms form origin before after all b (Some cause)

  -- one more source is told
  told_more : (end : Ended R) (j : model.Found) → slice_get all (vec_len a.endings) ≡ Some (seats.Done end) →
      end.found ≡ Some j → Took mid after (source_line_in form end.source.name.items j.finding) → IsOneMore a b j → Keeps
  told_more end j at found_is took more origin before st =
      let t = st.told_so in
      let same_place = place_is st.founds t.endings in
      let next = found_next known terms origin all (vec_len a.endings) end j st.seated at found_is in
      let f = next.0 in
      let line : source_line_in form end.source.name.items j.finding ≡ source_line_in form f.name f.finding = ap₂ (source_line_in form) (sym next.4) (sym next.3) in
      record {
        seated = st.seated;
        founds = st.founds ++ f ∷ [];
        told_so = record {
          found = λ s found there. elim (get_push st.founds f s found there) [
            | inl was ↦ t.found s found was
            | inr is ↦ subst (λ (x : Found). IsFoundBy known terms origin all s x) (sym is.1)
                (subst (λ n. IsFoundBy known terms origin all n f) (same_place ∙ sym is.0) next.1)
          ];
          took = subst (λ text. Took before after text) (sym (lines_more form st.founds f))
              (took_more before mid after (lines_of_all form st.founds) (source_line_in form f.name f.finding) t.took (subst (λ text. Took mid after text) line took));
          endings = more.endings ∙ (ap₂ (λ es e. es ++ e ∷ []) t.endings (sym next.2) ∙ sym (map-append ending_of st.founds (f ∷ [])));
          notables = more.notables ∙ (ap₂ (λ fs x. fs ++ notable_of x ∷ []) t.notables (sym next.3) ∙ sym (map-append notable st.founds (f ∷ [])));
          counts = more.counts ∙ (ap₂ counted t.counts (sym next.3) ∙ sym (counts_more st.founds f));
          begun = begun_more terms st.founds f a.begun j.begun b.begun t.flags t.begun next.5 more.begun;
          flags = flags_more terms.rules.labels.labels a.begun j.begun b.begun t.flags more.begun;
        };
      }

  -- memory was refused
  memory_stops : Took mid after [] → b ≡ a → Stops Memory
  memory_stops took same origin before st =
      let t = st.told_so in
      subst (λ (x : Told). StopsSo known terms form origin before after all x (Some Memory)) (sym same)
      (record {
        seated = st.seated;
        founds = st.founds;
        found = t.found;
        endings = t.endings;
        notables = t.notables;
        counts = t.counts;
        begun = t.begun;
        written = took_nothing before mid after (lines_of_all form st.founds) t.took took;
      })

  cut_so : (origin : List (SourceOf R)) (before : Seen) (founds : List Found) (text : List ℕ) → IsTextAfter known terms form origin all founds text →
      Took before mid (lines_of_all form founds) → WasCut mid after text → WasCutSo known terms form origin all founds before after
  cut_so origin before founds text next took cut = record {
    text = text;
    next = next;
    written = cut.written;
    part = cut.part;
    went = Appends-trans before.bytes mid.bytes after.bytes (lines_of_all form founds) (take cut.written text) took.went cut.went;
    faults = cut.faults ∙ ap (λ n. n + 1) took.faults;
  }

  -- a write of the next line failed
  line_stops : (end : Ended R) (j : model.Found) → slice_get all (vec_len a.endings) ≡ Some (seats.Done end) →
      end.found ≡ Some j → WasCut mid after (source_line_in form end.source.name.items j.finding) → b ≡ a → Stops Write
  line_stops end j at found_is cut same origin before st =
      let t = st.told_so in
      let same_place = place_is st.founds t.endings in
      let next = found_next known terms origin all (vec_len a.endings) end j st.seated at found_is in
      let f = next.0 in
      let line : source_line_in form end.source.name.items j.finding ≡ source_line_in form f.name f.finding = ap₂ (source_line_in form) (sym next.4) (sym next.3) in
      subst (λ (x : Told). StopsSo known terms form origin before after all x (Some Write)) (sym same)
      (record {
        seated = st.seated;
        founds = st.founds;
        found = t.found;
        endings = t.endings;
        notables = t.notables;
        counts = t.counts;
        begun = t.begun;
        written = cut_so origin before st.founds (source_line_in form end.source.name.items j.finding)
            (f, subst (λ n. IsFoundBy known terms origin all n f) same_place next.1, line) t.took cut;
      })

  pub record Tellings (r : Result Bool Cause) : Type 0 where
    pub stands : IfOk r (λ is_told. is_told ≡ true → Keeps)
    pub unchanged : IfOk r (λ is_told. is_told ≡ false → (after ≡ mid) × (b ≡ a))
    pub stopped : IfErr r Stops

  not_told : (after ≡ mid) × (b ≡ a) → Tellings (Ok false)
  not_told same = record { stands = λ e. cc (e); unchanged = λ e. same; stopped = tt }

  telling_found : (end : Ended R) (j : model.Found) (r : Result Bool Cause) → slice_get all (vec_len a.endings) ≡ Some (seats.Done end) → end.found ≡ Some j →
      TellsFound form end.source.name.items j mid after a b r → Tellings r
  telling_found end j (Ok true) at found_is tells = record { stands = λ e. told_more end j at found_is tells.0 tells.1; unchanged = λ e. cc (e); stopped = tt }
  telling_found end j (Ok false) at found_is tells = absurd tells
  telling_found end j (Err Memory) at found_is tells = record { stands = tt; unchanged = tt; stopped = memory_stops tells.0 tells.1 }
  telling_found end j (Err Write) at found_is tells = record { stands = tt; unchanged = tt; stopped = line_stops end j at found_is tells.0 tells.1 }

  telling_end : (end : Ended R) (found : Option model.Found) (r : Result Bool Cause) → slice_get all (vec_len a.endings) ≡ Some (seats.Done end) → end.found ≡ found →
      TellsEnd form end.source.name.items found mid after a b r → Tellings r
  telling_end end (Some j) r at found_is tells = telling_found end j r at found_is tells
  telling_end end None (Ok told) at found_is tells = absurd tells
  telling_end end None (Err Memory) at found_is tells = record { stands = tt; unchanged = tt; stopped = memory_stops tells.0 tells.1 }
  telling_end end None (Err Write) at found_is tells = absurd tells

  telling_seat : (seat : Seat R) (r : Result Bool Cause) → slice_get all (vec_len a.endings) ≡ Some seat → TellsSeat form seat mid after a b r → Tellings r
  telling_seat (seats.Done end) r at tells = telling_end end end.found r at refl tells
  telling_seat (seats.Waiting source) (Ok true) at tells = absurd tells
  telling_seat (seats.Waiting source) (Ok false) at tells = not_told tells
  telling_seat (seats.Waiting source) (Err cause) at tells = absurd tells
  telling_seat (seats.Running handle) (Ok true) at tells = absurd tells
  telling_seat (seats.Running handle) (Ok false) at tells = not_told tells
  telling_seat (seats.Running handle) (Err cause) at tells = absurd tells
  telling_seat seats.Empty (Ok true) at tells = absurd tells
  telling_seat seats.Empty (Ok false) at tells = not_told tells
  telling_seat seats.Empty (Err cause) at tells = absurd tells

  telling_from : (o : Option (Seat R)) (r : Result Bool Cause) → slice_get all (vec_len a.endings) ≡ o → TellsNextSeat form o mid after a b r → Tellings r
  telling_from (Some seat) r at tells = telling_seat seat r at tells
  telling_from None (Ok true) at tells = absurd tells
  telling_from None (Ok false) at tells = not_told tells
  telling_from None (Err cause) at tells = absurd tells

  pub telling : (r : Result Bool Cause) → TellsNextSeat form (slice_get all (vec_len a.endings)) mid after a b r → Tellings r
  telling r tells = telling_from (slice_get all (vec_len a.endings)) r refl tells

-- all sources are told
pub all_so : {R : Type 0} (known : R → Sight) (terms : Terms) (form : Form) (origin : List (SourceOf R)) (all : List (Seat R)) (before after : Seen) (a : Told) →
    vec_len a.endings ≡ length all → StandsSo known terms form origin before after all a → StopsSo known terms form origin before after all a None
all_so known terms form origin all before after a whole st = record {
  seated = st.seated;
  founds = st.founds;
  found = st.told_so.found;
  endings = st.told_so.endings;
  notables = st.told_so.notables;
  counts = st.told_so.counts;
  begun = st.told_so.begun;
  written = (sym (place_is known terms form all after after a a st.founds st.told_so.endings) ∙ (whole ∙ st.seated.count), st.told_so.took);
}

-- the numbers once one more is told
module _ (R : Type 0) (form : Form) (sources : ℕ) (mid after : Seen) (a b : Told) (numbers : HasNumbersOf sources a) where
  same_numbers : (after ≡ mid) × (b ≡ a) → HasNumbersOf sources b
  same_numbers same = subst (λ (x : Told). HasNumbersOf sources x) (sym same.1) numbers

  more_numbers : (j : model.Found) → vec_len a.endings < sources → IsOneMore a b j → HasNumbersOf sources b
  more_numbers j below more =
      let len : vec_len b.endings ≡ vec_len a.endings + 1 = b.endings.ok.0 ∙ (ap length more.endings ∙ (length_push a.endings.items (j.bytes, j.ending) ∙ ap (λ n. n + 1) (sym a.endings.ok.0))) in
      let lines : vec_len b.notables ≡ vec_len a.notables + 1 = b.notables.ok.0 ∙ (ap length more.notables ∙ (length_push a.notables.items (notable_of j.finding) ∙ ap (λ n. n + 1) (sym a.notables.ok.0))) in
      record {
        few = omega (arith, below, len);
        few_sources = numbers.few_sources;
        total_is = omega (arith, more.counted_one, numbers.total_is, len);
        room = more.room ∙ numbers.room;
        as_many = omega (arith, len, lines, numbers.as_many);
        notables_room = more.notables_room ∙ numbers.notables_room;
      }

  numbers_found : (name : List ℕ) (j : model.Found) (r : Result Bool Cause) → vec_len a.endings < sources →
      TellsFound form name j mid after a b r → OnOk r (HasNumbersOf sources b)
  numbers_found name j (Ok true) below tells = more_numbers j below tells.1
  numbers_found name j (Ok false) below tells = absurd tells
  numbers_found name j (Err cause) below tells = tt

  numbers_end : (name : List ℕ) (found : Option model.Found) (r : Result Bool Cause) → vec_len a.endings < sources → TellsEnd form name found mid after a b r → OnOk r (HasNumbersOf sources b)
  numbers_end name (Some j) r below tells = numbers_found name j r below tells
  numbers_end name None (Ok told) below tells = absurd tells
  numbers_end name None (Err cause) below tells = tt

  numbers_seat : (seat : Seat R) (r : Result Bool Cause) → vec_len a.endings < sources → TellsSeat form seat mid after a b r → OnOk r (HasNumbersOf sources b)
  numbers_seat (seats.Done end) r below tells = numbers_end end.source.name.items end.found r below tells
  numbers_seat (seats.Waiting source) (Ok true) below tells = absurd tells
  numbers_seat (seats.Waiting source) (Ok false) below tells = same_numbers tells
  numbers_seat (seats.Waiting source) (Err cause) below tells = tt
  numbers_seat (seats.Running handle) (Ok true) below tells = absurd tells
  numbers_seat (seats.Running handle) (Ok false) below tells = same_numbers tells
  numbers_seat (seats.Running handle) (Err cause) below tells = tt
  numbers_seat seats.Empty (Ok true) below tells = absurd tells
  numbers_seat seats.Empty (Ok false) below tells = same_numbers tells
  numbers_seat seats.Empty (Err cause) below tells = tt

  pub numbers_told : (all : List (Seat R)) → length all ≡ sources → (o : Option (Seat R)) (r : Result Bool Cause) → slice_get all (vec_len a.endings) ≡ o →
      TellsNextSeat form o mid after a b r → OnOk r (HasNumbersOf sources b)
  numbers_told all count (Some seat) r at tells =
      let within = slice_get_within all (vec_len a.endings) seat at in
      numbers_seat seat r (omega (arith, within, count)) tells
  numbers_told all count None (Ok true) at tells = absurd tells
  numbers_told all count None (Ok false) at tells = same_numbers tells
  numbers_told all count None (Err cause) at tells = tt

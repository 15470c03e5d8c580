-- A batch with one line more.
use Rattle.std.proofs.Common.{◌≡◌, ◌<◌, ◌≤◌, ◌+◌, ◌*◌, ◌-◌, ◌^◌, ℕ, List, [], ◌∷◌, ◌++◌, None, Result, Ok, Err, OnOk, false, true≢false, sym, ◌∙◌, ap, subst, arith}
use Rattle.std.specs.Prelude.{All, is_err}
use Rattle.std.proofs.lemmas.List.{append-nil}
use Rattle.std.proofs.lemmas.List.Elements.{All-nil, All-push, All-weaker, All-head, All-tail}
use Rattle.aero_model.specs.declared.numbered.Numbered.{Numbered}
use Rattle.aero_model.specs.Named.{Named}
use Rattle.aero_names.specs.Additions.{with_event}
use Rattle.aero_grammar.specs.Batched.{most_lines, said_by, IsBatch}
use Rattle.aero_grammar.specs.Lists.{lists_in, labels_in, labels_after, numbered_in_turn, HasRoom, HasGrown}
use Rattle.aero_grammar.specs.Meaning.{Blank, Means}
use Rattle.aero_grammar.specs.Reading.{Reading, IsReading, LinesRise, followed_by, line_reading}
use Rattle.aero_grammar.specs.Tabled.{lines_in}
use Rattle.aero_grammar.specs.Words.{IsEvent}
use Rattle.aero_grammar.specs.declared.tables.Tables.{Tables as Kept}
use Rattle.aero_grammar.proofs.TablesGrown.{numbered_next, room_within, room_left, nothing_tabled, tabled_as, no_names, names_as, lines_pushed, tabled_pushed, names_added, numbered_by_turns}

abbrev unfaulted : List (ℕ × Named) → ℕ → Reading
unfaulted events lines = record { events = events; lines = lines; fault = None }

rising_pushed : (m n : ℕ) (es : List (ℕ × Named)) (e : Named) → m ≤ n → LinesRise m es → All (λ e. e.0 ≤ n) es → LinesRise m (es ++ (n + 1, e) ∷ [])
rising_pushed m n [] e le rise within = (omega (arith, le), tt)
rising_pushed m n (x ∷ es) e le rise within = (rise.0, rising_pushed x.0 n es e (All-head (λ (e : ℕ × Named). e.0 ≤ n) x es within) rise.1 (All-tail (λ (e : ℕ × Named). e.0 ≤ n) x es within))

within_next : (n : ℕ) (es : List (ℕ × Named)) → All (λ e. e.0 ≤ n) es → All (λ e. e.0 ≤ n + 1) es
within_next n es within = All-weaker (λ e. e.0 ≤ n) (λ e. e.0 ≤ n + 1) (λ e le. omega (arith, le)) es within

reading_pushed : (n : ℕ) (es : List (ℕ × Named)) (e : Named) → IsReading (unfaulted es n) → IsReading (unfaulted (es ++ (n + 1, e) ∷ []) (n + 1))
reading_pushed n es e is = record {
  rising = rising_pushed 0 n es e (omega arith) is.rising is.within;
  within = All-push (λ e. e.0 ≤ n + 1) es (n + 1, e) (within_next n es is.within) (omega arith);
  before_fault = tt;
  fault_line = tt;
  own_fault = tt;
}

reading_longer : (n : ℕ) (es : List (ℕ × Named)) → IsReading (unfaulted es n) → IsReading (unfaulted es (n + 1))
reading_longer n es is = record {
  rising = is.rising;
  within = within_next n es is.within;
  before_fault = tt;
  fault_line = tt;
  own_fault = tt;
}

-- nothing was put in
pub nothing_held : (t : Kept) → lists_in t ≡ record { threads = []; variables = []; locks = [] } → labels_in t ≡ [] → (events : List (ℕ × Numbered)) → events ≡ [] → HasRoom t (2 ^ 32 - 1) → IsBatch t events 0
nothing_held t none unlabelled events empty room = record {
  block = record {
    reading = subst (λ (es : List (ℕ × Named)). IsReading (unfaulted es 0)) (sym (λ i. lines_in (none i) (unlabelled i) (empty i))) (record { rising = tt; within = All-nil (λ e. e.0 ≤ 0); before_fault = tt; fault_line = tt; own_fault = tt });
    tabled = tabled_as _ _ _ _ _ _ none unlabelled empty nothing_tabled;
    names = names_as _ _ _ _ none unlabelled no_names;
  };
  room = room_within t (2 ^ 32 - 1) (2 * (most_lines - 0)) (omega arith) room;
  few = omega arith;
}

pub nothing_said : (t : Kept) → lists_in t ≡ record { threads = []; variables = []; locks = [] } → labels_in t ≡ [] → (events : List (ℕ × Numbered)) → events ≡ [] → said_by t events 0 ≡ unfaulted [] 0
nothing_said t none unlabelled events empty = λ i. unfaulted (lines_in (none i) (unlabelled i) (empty i)) 0

module _ (old : Kept) (events : List (ℕ × Numbered)) (n : ℕ) (is : IsBatch old events n) (below : n < most_lines) where
  -- a blank line
  pub blank_held : IsBatch old events (n + 1)
  blank_held = record {
    block = record { reading = reading_longer n (lines_in (lists_in old) (labels_in old) events) is.block.reading; tabled = is.block.tabled; names = is.block.names };
    room = room_within old (2 * (most_lines - n)) (2 * (most_lines - (n + 1))) (omega (arith, below)) is.room;
    few = omega (arith, below);
  }

  -- a line with an event
  module _ (new : Kept) (more : List (ℕ × Numbered)) (e : Named) (event : IsEvent e) (names : lists_in new ≡ with_event (lists_in old) e) (labels : labels_in new ≡ labels_after (labels_in old) e.op e.target)
      (pushed : more ≡ events ++ (n + 1, numbered_in_turn (lists_in old) (labels_in old) e) ∷ []) (grown : HasGrown old new 2) where
    here : more ≡ events ++ (n + 1, numbered_next (lists_in old) (labels_in old) e) ∷ []
    here = pushed ∙ ap (λ x. events ++ (n + 1, x) ∷ []) (numbered_by_turns (lists_in old) (labels_in old) e)

    lines_are : lines_in (lists_in new) (labels_in new) more ≡ lines_in (lists_in old) (labels_in old) events ++ (n + 1, e) ∷ []
    lines_are = (λ i. lines_in (names i) (labels i) (here i)) ∙ lines_pushed (lists_in old) (labels_in old) events is.block.tabled (n + 1) e event.has_target

    pub event_held : IsBatch new more (n + 1)
    event_held = record {
      block = record {
        reading = subst (λ (es : List (ℕ × Named)). IsReading (unfaulted es (n + 1))) (sym lines_are) (reading_pushed n (lines_in (lists_in old) (labels_in old) events) e is.block.reading);
        tabled = tabled_as _ _ _ _ _ _ names labels here (tabled_pushed (lists_in old) (labels_in old) events is.block.tabled (n + 1) e event.has_target);
        names = names_as _ _ _ _ names labels (names_added (lists_in old) (labels_in old) e event is.block.names);
      };
      room = room_left old new (2 * (most_lines - n)) (2 * (most_lines - (n + 1))) 2 (omega (arith, below)) is.room grown;
      few = omega (arith, below);
    }

    pub event_said : said_by new more (n + 1) ≡ followed_by (said_by old events n) (line_reading (Means e))
    event_said = ap (λ es. unfaulted es (n + 1)) lines_are

-- what a blank line says
pub blank_said : (t : Kept) (events : List (ℕ × Numbered)) (n : ℕ) → said_by t events (n + 1) ≡ followed_by (said_by t events n) (line_reading Blank)
blank_said t events n = ap (λ es. unfaulted es (n + 1)) (sym (append-nil (lines_in (lists_in t) (labels_in t) events)))

-- what a call that puts an event in comes to, by its answer
module _ (old new : Kept) (events more : List (ℕ × Numbered)) (n : ℕ) (e : Named) {T E : Type 0} where
  pub held_where_ok : (r : Result T E) → is_err r ≡ false → IsBatch old events n → n < most_lines → OnOk r (IsEvent e) → OnOk r (lists_in new ≡ with_event (lists_in old) e) → OnOk r (labels_in new ≡ labels_after (labels_in old) e.op e.target) →
      OnOk r (more ≡ events ++ (n + 1, numbered_in_turn (lists_in old) (labels_in old) e) ∷ []) → OnOk r (HasGrown old new 2) → IsBatch new more (n + 1)
  held_where_ok (Ok x) ok is below event names labels pushed grown = event_held old events n is below new more e event names labels pushed grown
  held_where_ok (Err x) ok is below event names labels pushed grown = absurd (true≢false ok)

  pub said_where_ok : (r : Result T E) (before : Reading) → said_by old events n ≡ before → IsBatch old events n → n < most_lines → OnOk r (IsEvent e) → OnOk r (lists_in new ≡ with_event (lists_in old) e) → OnOk r (labels_in new ≡ labels_after (labels_in old) e.op e.target) →
      OnOk r (more ≡ events ++ (n + 1, numbered_in_turn (lists_in old) (labels_in old) e) ∷ []) → OnOk r (HasGrown old new 2) → OnOk r (said_by new more (n + 1) ≡ followed_by before (line_reading (Means e)))
  said_where_ok (Ok x) before same is below event names labels pushed grown =
      event_said old events n is below new more e event names labels pushed grown ∙ ap (λ r. followed_by r (line_reading (Means e))) same
  said_where_ok (Err x) before same is below event names labels pushed grown = tt

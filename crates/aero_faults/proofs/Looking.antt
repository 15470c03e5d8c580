-- Lines that are read one after the other.
use Rattle.std.proofs.Common.{◌≡◌, ◌≢◌, ◌∙◌, ◌⊎◌, ◌<◌, ◌≤◌, ◌+◌, ◌-◌, ◌==◌, ◌||◌, ◌&&◌, option_to_list, ℕ, Bool, true, false, if◌then◌else◌, List, [], ◌∷◌, ◌++◌, All, length, take, drop, get_or, flat_map, map, Option, None, Some, IfSome, option_map, inl, inr, refl, sym, ap, subst, arith, true≢false, append_assoc, length-append, length-take, Result, Ok, Err, IfOk}
use Rattle.std.specs.Io.{StopsAt}
use Rattle.std.specs.Io.BufRead.{take_through, drop_through, ends_with_byte}
use Rattle.std.specs.Io.KnownBytes.{Consumes}
use Rattle.std.specs.List.{list_any}
use Rattle.std.proofs.KnownBytes.{Consumes-nil, Consumes-trans}
use Rattle.std.proofs.Transfers.{All-of_StopsAt}
use Rattle.std.proofs.lemmas.Bool.{cases_lt, lt-ltb, ne_eqb, eqb-true, eq-eqb}
use Rattle.std.proofs.lemmas.List.{append-nil, map-append, drop_all, get_or_default, take-append-drop}
use Rattle.std.proofs.lemmas.List.Folds.{list_any-append, list_any_none}
use Rattle.std.proofs.lemmas.Grind.{flat_map-append}
use Rattle.aero_model.specs.Lines.{is_line_end}
use Rattle.std.specs.Io.Buffered.{reader_buffer, reader_capacity, reader_inner, reader_remaining}
use Rattle.std.specs.Io.KnownBytes.{prepend_known}
use Rattle.std.specs.Io.Take.{take_inner, take_limit, take_remaining}
use Rattle.std.specs.declared.io.traits.Take.{Take}
use Rattle.std.specs.declared.io.buffered.BufReader.{BufReader}
use Rattle.aero_model.specs.declared.verdict.ShapeFault.{ShapeFault}
use Rattle.aero_model.specs.Named.{Named}
use Rattle.aero_grammar.specs.Meaning.{Meaning, Blank, Means, Faulty, meaning}
use Rattle.aero_grammar.specs.Reading.{Reading, followed_by, line_reading, whole_reading}
use Rattle.aero_grammar.proofs.Joined.{reading, followed_by_nothing, whole_reading-append}
use Rattle.aero_faults.specs.declared.look.Look.{Look}
use Rattle.aero_faults.specs.declared.look.Look.TheVariants.{Nothing, Line, Event}
use Rattle.aero_faults.specs.declared.search.Search.{Search}
use Rattle.aero_faults.specs.Hindrances.{Hinders}
use Rattle.aero_faults.specs.Searches.{HasSeen}
use Rattle.aero_faults.specs.Looks.{ended, has_end, reading_of_lines, AreSeen, AreWhole, Follows, IsEventLook, IsLine, IsNext, IsSearchLook, SeesLine, WasRead}

-- no byte but the last is 10, and this is dropped
pub endless_rest : (xs ys : List ℕ) (n : ℕ) → n ≡ length xs → ys ≡ take (n - 1) xs → StopsAt xs 10 → has_end ys ≡ false
endless_rest xs ys n long is stops =
    let none : All (λ x. x ≢ 10) ys = subst (All (λ x. x ≢ 10)) (sym (is ∙ ap (λ k. take (k - 1) xs) long)) stops in
    list_any_none is_line_end ys (λ k d lt. ne_eqb (get_or ys k d) 10 (none k d lt))

-- nor is the last
pub endless_whole : (xs : List ℕ) → StopsAt xs 10 → ends_with_byte 10 xs ≡ false → has_end xs ≡ false
endless_whole [] stops last = refl
endless_whole (x ∷ xs) stops last =
    let n = length (x ∷ xs) in
    let some : 0 < n = omega arith in
    let final : ℕ = get_or (x ∷ xs) (n - 1) 0 in
    let other : (true && (final == 10)) ≡ false = subst (λ t. (t && (final == 10)) ≡ false) (lt-ltb 0 n some) last in
    let none : All (λ y. y ≢ 10) (x ∷ xs) = All-of_StopsAt (x ∷ xs) 10 n final refl (omega arith)
    (get_or_default (x ∷ xs) (n - 1) 0 final (omega arith)) (λ e. true≢false (sym (eq-eqb final 10 e) ∙ other)) stops in
    list_any_none is_line_end (x ∷ xs) (λ k d lt. ne_eqb (get_or (x ∷ xs) k d) 10 (none k d lt))

-- what is popped off a line that ends in a byte 10
pub whole_popped : (xs ys : List ℕ) (r : Option ℕ) (n : ℕ) → n ≡ length xs → xs ≡ ys ++ option_to_list r → ((d : ℕ) → 0 < n → r ≡ Some (get_or xs (n - 1) d)) → ends_with_byte 10 xs ≡ true
    → xs ≡ ended ys
whole_popped [] ys r n long parts value last = absurd (true≢false (sym last))
whole_popped (x ∷ xs) ys r n long parts value last =
    let some : 0 < n = omega (arith, long) in
    let final : ℕ = get_or (x ∷ xs) (length (x ∷ xs) - 1) 0 in
    let is : (true && (final == 10)) ≡ true = subst (λ t. (t && (final == 10)) ≡ true) (lt-ltb 0 (length (x ∷ xs)) (omega arith)) last in
    let ten : final ≡ 10 = eqb-true final 10 is in
    parts ∙ ap (λ o. ys ++ option_to_list o) (value 0 some ∙ ap (λ k. Some (get_or (x ∷ xs) (k - 1) 0)) long ∙ ap Some ten)

through_parts_at : (b z : ℕ) (zs : List ℕ) (t : Bool) → zs ≡ take_through b zs ++ drop_through b zs → z ∷ zs ≡ (if t then z ∷ [] else z ∷ take_through b zs) ++ (if t then zs else drop_through b zs)
through_parts_at b z zs true rest = refl
through_parts_at b z zs false rest = ap (λ l. z ∷ l) rest

through_parts : (b : ℕ) (zs : List ℕ) → zs ≡ take_through b zs ++ drop_through b zs
through_parts b [] = refl
through_parts b (z ∷ zs) = through_parts_at b z zs (z == b) (through_parts b zs)

endless_through_at : (z : ℕ) (zs : List ℕ) (t : Bool) → (z == 10) ≡ t → (has_end (take_through 10 zs) ≡ false → take_through 10 zs ≡ zs)
    → has_end (if t then z ∷ [] else z ∷ take_through 10 zs) ≡ false → (if t then z ∷ [] else z ∷ take_through 10 zs) ≡ z ∷ zs
endless_through_at z zs true is rest has = absurd (true≢false (subst (λ t. (t || false) ≡ false) is has))
endless_through_at z zs false is rest has = ap (λ l. z ∷ l) (rest (subst (λ t. (t || has_end (take_through 10 zs)) ≡ false) is has))

endless_through : (zs : List ℕ) → has_end (take_through 10 zs) ≡ false → take_through 10 zs ≡ zs
endless_through [] none = refl
endless_through (z ∷ zs) none = endless_through_at z zs (z == 10) refl (endless_through zs) none

-- the next line of a source with these bytes, of which at most 4097 were looked at
next_known : (xs piece line : List ℕ) (whole : Bool) → piece ≡ take_through 10 (take 4097 xs) → has_end line ≡ false → (whole ≡ true → piece ≡ ended line) → (whole ≡ false → line ≡ piece)
    → IsNext (Some xs) line
next_known xs piece line true is endless was_whole was_open =
    let front = take 4097 xs in
    let parts : xs ≡ (line ++ 10 ∷ []) ++ (drop_through 10 front ++ drop 4097 xs) =
    sym (take-append-drop 4097 xs) ∙ ap (λ l. l ++ drop 4097 xs) (through_parts 10 front ∙ ap (λ l. l ++ drop_through 10 front) (sym is ∙ was_whole refl))
    ∙ append_assoc (line ++ 10 ∷ []) (drop_through 10 front) (drop 4097 xs) in
    record { back = 10 ∷ []; left = Some (drop_through 10 front ++ drop 4097 xs); came = parts; endless = endless; follows = inl ([], refl) }
next_known xs piece line false is endless was_whole was_open =
    let front = take 4097 xs in
    let all : line ≡ front = was_open refl ∙ is ∙ endless_through front (subst (λ l. has_end l ≡ false) (was_open refl ∙ is) endless) in
    let parts : xs ≡ (line ++ []) ++ drop 4097 xs = sym (take-append-drop 4097 xs) ∙ ap (λ l. l ++ drop 4097 xs) (sym all ∙ sym (append-nil line)) in
    record { back = []; left = Some (drop 4097 xs); came = parts; endless = endless; follows = ends (cases_lt 4096 (length line)) all }
  where
    ends : (4096 < length line) ⊎ (length line ≤ 4096) → line ≡ take 4097 xs → Follows line [] (Some (drop 4097 xs))
    ends (inl long) all = inr (inl (lt-ltb 4096 (length line) long))
    ends (inr short) all = inr (inr (refl, drop_all 4097 xs (let n = ap length all in let t = length-take 4097 xs in omega (arith, n, t, short))))

pub next_is : (given : Option (List ℕ)) (piece line : List ℕ) (whole : Bool) → IfSome (option_map (take 4097) given) (λ xs. piece ≡ take_through 10 xs) → has_end line ≡ false
    → (whole ≡ true → piece ≡ ended line) → (whole ≡ false → line ≡ piece) → IsNext given line
next_is None piece line whole is endless was_whole was_open = record { back = []; left = None; came = tt; endless = endless; follows = inr (inr (refl, tt)) }
next_is (Some xs) piece line whole is endless was_whole was_open = next_known xs piece line whole is endless was_whole was_open

-- what came of it, by what the reader within has
pub taken : {B : Type 0} (known : B → Option (List ℕ)) (t : Take B) (lines : B) (old new : List ℕ) → take_limit t ≡ 4097 → take_inner t ≡ lines → old ≡ []
    → IfSome (take_remaining known t) (λ xs. new ≡ old ++ take_through 10 xs) → IfSome (option_map (take 4097) (known lines)) (λ xs. new ≡ take_through 10 xs)
taken known t lines old new limit inner empty came =
    subst (λ b. IfSome (option_map (take 4097) (known b)) (λ xs. new ≡ take_through 10 xs)) inner
    (subst (λ n. IfSome (option_map (take n) (known t.inner)) (λ xs. new ≡ take_through 10 xs)) limit
    (subst (λ (o : List ℕ). IfSome (option_map (take t.limit) (known t.inner)) (λ xs. new ≡ o ++ take_through 10 xs)) empty came))

-- none was read yet
pub none_whole : (given : Option (List ℕ)) → AreWhole given given 0
none_whole given = record { before = []; came = Consumes-nil given; ended_once = refl; count = refl }

no_more : (before : List (List ℕ)) (line : List ℕ) → list_any has_end before ≡ false → has_end line ≡ false → (list_any has_end before || (has_end line || false)) ≡ false
no_more before line p q = rw (p, q) refl

-- one line more
pub one_more : (given left now : Option (List ℕ)) (n : ℕ) (line : List ℕ) → AreWhole given left n → has_end line ≡ false → Consumes left now (ended line) → AreWhole given now (n + 1)
one_more given left now n line so_far endless came = record {
  before = so_far.before ++ line ∷ [];
  came = subst (Consumes given now) (sym (flat_map-append ended so_far.before (line ∷ []) ∙ ap (λ l. flat_map ended so_far.before ++ l) (append-nil (ended line))))
      (Consumes-trans given left now (flat_map ended so_far.before) (ended line) so_far.came came);
  ended_once = list_any-append has_end so_far.before (line ∷ []) ∙ no_more so_far.before line so_far.ended_once endless;
  count = let was = so_far.count in omega (arith, was, length-append so_far.before (line ∷ []));
}

-- the search has seen none
pub none_seen : (given : Option (List ℕ)) (search : Search) → HasSeen search [] → AreSeen given given 0 search
none_seen given search seen = record { before = []; came = Consumes-nil given; ended_once = refl; count = refl; lines = refl; sound = refl; seen = seen }

-- what the lines say, and one line more
said_more : (before : List (List ℕ)) (line : List ℕ) → reading_of_lines (before ++ line ∷ []) ≡ followed_by (reading_of_lines before) (line_reading (meaning line))
said_more before line =
    let says : List ℕ → Reading = λ l. line_reading (meaning l) in
    ap whole_reading (map-append says before (line ∷ [])) ∙ whole_reading-append (map says before) (says line ∷ [])
    ∙ ap (followed_by (reading_of_lines before)) (followed_by_nothing (says line))

pub record SaysMore (search : Search) (n : ℕ) (r : Reading) : Type 0 where
  pub lines : r.lines ≡ n
  pub sound : r.fault ≡ None
  pub seen : HasSeen search r.events

says_more : (events : List (ℕ × Named)) (n : ℕ) (m : Meaning) (search : Search) → SeesLine search events (n + 1) m → SaysMore search (n + 1) (followed_by (reading events n None) (line_reading m))
says_more events n Blank search sees = record { lines = refl; sound = refl; seen = subst (HasSeen search) (sym (append-nil events)) sees }
says_more events n (Means e) search sees = record { lines = refl; sound = refl; seen = sees }
says_more events n (Faulty f) search sees = absurd sees

-- the search has seen one line more
pub one_more_seen : (given left now : Option (List ℕ)) (n : ℕ) (line : List ℕ) (search after : Search) → AreSeen given left n search → has_end line ≡ false → Consumes left now (ended line)
    → ((before : List (ℕ × Named)) → HasSeen search before → SeesLine after before (n + 1) (meaning line)) → AreSeen given now (n + 1) after
one_more_seen given left now n line search after so_far endless came sees =
    let old : Reading = reading_of_lines so_far.before in
    let whole : AreWhole given now (n + 1) = one_more given left now n line (record { before = so_far.before; came = so_far.came; ended_once = so_far.ended_once; count = so_far.count }) endless came in
    let old_is : old ≡ reading old.events n None = λ i. reading old.events (so_far.lines i) (so_far.sound i) in
    let says : SaysMore after (n + 1) (reading_of_lines (so_far.before ++ line ∷ [])) =
    subst (SaysMore after (n + 1)) (sym (said_more so_far.before line ∙ ap (λ r. followed_by r (line_reading (meaning line))) old_is))
    (says_more old.events n (meaning line) after (sees old.events so_far.seen)) in
    record {
      before = so_far.before ++ line ∷ [];
      came = subst (Consumes given now) (sym (flat_map-append ended so_far.before (line ∷ []) ∙ ap (λ l. flat_map ended so_far.before ++ l) (append-nil (ended line))))
          (Consumes-trans given left now (flat_map ended so_far.before) (ended line) so_far.came came);
      ended_once = list_any-append has_end so_far.before (line ∷ []) ∙ no_more so_far.before line so_far.ended_once endless;
      count = let was = so_far.count in omega (arith, was, length-append so_far.before (line ∷ []));
      lines = says.lines;
      sound = says.sound;
      seen = says.seen;
    }

-- a source that is read through a buffer
buffered_nothing : (known : Option (List ℕ)) → prepend_known [] known ≡ known
buffered_nothing None = refl
buffered_nothing (Some xs) = refl

pub buffered : {T A : Type 0} (known : T → Option (List ℕ)) (r : BufReader T A) (reader : T) → reader_capacity r ≡ 65536 → reader_buffer r ≡ [] → reader_inner r ≡ reader → reader_remaining known r ≡ known reader
buffered known r reader room empty is =
    ap (λ n. if n == 0 then None else prepend_known (reader_buffer r) (known r.inner)) room
    ∙ ap (λ l. prepend_known l (known r.inner)) empty ∙ buffered_nothing (known r.inner) ∙ ap known is

was_read : (given mid : Option (List ℕ)) (before : List (List ℕ)) (line : List ℕ) → Consumes given mid (flat_map ended before) → list_any has_end before ≡ false → IsNext mid line → WasRead given before line
was_read given mid before line came ended_once next = record {
  back = next.back;
  left = next.left;
  came = Consumes-trans given mid next.left (flat_map ended before) (line ++ next.back) came next.came;
  ended_once = ended_once;
  endless = next.endless;
  follows = next.follows;
}

-- the line behind those that were read
pub line_behind : {V E : Type 0} (items : V → List ℕ) (given start mid : Option (List ℕ)) (n number : ℕ) (r : Result (Option V) E) → start ≡ given → AreWhole start mid n → n + 1 ≡ number
    → IfOk r (λ found. IfSome found (λ line. IsNext mid (items line))) → IfOk r (λ found. IfSome found (λ line. IsLine given number (items line)))
line_behind items given start mid n number (Err e) is whole count next = tt
line_behind items given start mid n number (Ok None) is whole count next = tt
line_behind items given start mid n number (Ok (Some line)) is whole count next = subst (λ g. IsLine g number (items line)) is (record {
  before = whole.before;
  read = was_read start mid whole.before (items line) whole.came whole.ended_once next;
  count = let was = whole.count in omega (arith, was, count);
})

-- the event on the line behind those that the search has seen, and what the search tells
pub event_behind : (given start mid : Option (List ℕ)) (n number : ℕ) (line : List ℕ) (e : Named) (fault : ShapeFault) (search : Search) (look : Look) → start ≡ given → AreSeen start mid n search → n + 1 ≡ number
    → IsNext mid line → meaning line ≡ Means e → search.event ≡ e → search.fault ≡ fault → IsSearchLook search look → IsEventLook given number line fault look
event_behind given start mid n number line e fault search Nothing is seen count next means of_event of_fault tells = tt
event_behind given start mid n number line e fault search (Line bytes) is seen count next means of_event of_fault tells = absurd tells
event_behind given start mid n number line e fault search (Event told h) is seen count next means of_event of_fault tells =
    let events = (reading_of_lines seen.before).events in
    let hinders : Hinders events told fault h = subst (λ (f : ShapeFault). Hinders events told f h) of_fault (subst (λ (t : Named). Hinders events t search.fault h) (sym tells.0) (tells.1 events seen.seen)) in
    subst (λ g. IsEventLook g number line fault (Event told h)) is (record {
      before = seen.before;
      read = was_read start mid seen.before line seen.came seen.ended_once next;
      count = let was = seen.count in omega (arith, was, count);
      means = means ∙ ap Means (sym of_event ∙ sym tells.0);
      sound = seen.sound;
      hinders = hinders;
    })

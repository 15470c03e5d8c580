-- What an input has noted, after one more read.
use Rattle.std.proofs.Common.{◌≡◌, ◌∙◌, ◌+◌, ◌<◌, ℕ, ℤ, zero, suc, nat_lt, ◌==◌, Bool, true, false, List, [], ◌++◌, take, Option, None, Some, Result, Ok, Err, if◌then◌else◌, ap, sym, subst, refl, true≢false, arith}
use Rattle.std.specs.Prelude.{◌&&◌, length, IfErr, is_err, is_some}
use Rattle.std.proofs.Math.Logic.{∥∥₁_elim}
use Rattle.std.proofs.lemmas.Bool.{ltb-true, ne_eqb}
use Rattle.std.proofs.lemmas.Grind.{merely}
use Rattle.std.proofs.lemmas.List.{append-nil}
use Rattle.aero_intake.specs.Source.{Place, Stream, File, Nowhere, gained, is_last_read}
use Rattle.aero_model.specs.CallCounts.{moves_nothing}
use Rattle.aero_program.specs.declared.input.Input.{Input}
use Rattle.aero_program.specs.declared.reason.Reason.{Reason}
use Rattle.aero_program.specs.declared.stamp.Stamp.{Stamp}
use Rattle.aero_program.specs.Inputs.{Standing, Standard, Unopened, Reading, Ended, Failed, Closed, MayFailFrom, OpensTo, StepsTo, bytes_left, closed_in, open_in, opened_of, reason_of, shut, standing_of, start_of}
use Rattle.aero_program.specs.Led.{HasCounted, HasRightlyFailed, IsLed, IsOpenedAt, IsStill, IsUnread, MayFailAt, StaysStream, place_of, reason_at}
use Rattle.aero_program.specs.Reasons.{reason_after}
use Rattle.aero_program.specs.Starts.{start_after}
use Rattle.aero_program.proofs.Fronts.{front_more}
use Rattle.aero_program.proofs.Gathering.{reason_stays}

start_on : {E : Type 0} (start came : List ℕ) (r : Result ℕ E) (buffer new : List ℕ) → start ≡ take 3 came → new ≡ start_after start r buffer → new ≡ take 3 (came ++ gained r buffer)
start_on start came (Ok n) buffer new was is = is ∙ ap (λ s. take 3 (s ++ take n buffer)) was ∙ front_more 3 came (take n buffer)
start_on start came (Err e) buffer new was is = is ∙ was ∙ ap (take 3) (sym (append-nil came))

reason_on : {E : Type 0} (number : E → Option ℤ) (faults : ℕ) (place : Place) (old new : Option Reason) (r : Result ℕ E) → (faults ≡ 0 → old ≡ reason_at place)
    → new ≡ reason_after number old r → faults + (if is_err r then 1 else 0) ≡ 0 → new ≡ reason_at place
reason_on number faults place old new (Ok n) was is none = is ∙ reason_stays number old n ∙ was (omega (arith, none))
reason_on number faults place old new (Err e) was is none = absurd (omega (arith, none))

failed_on : {E : Type 0} (number : E → Option ℤ) (faults : ℕ) (old new : Option Reason) (r : Result ℕ E) → (0 < faults → is_some old ≡ true)
    → new ≡ reason_after number old r → 0 < faults + (if is_err r then 1 else 0) → is_some new ≡ true
failed_on number faults old new (Ok n) was is some = ap is_some (is ∙ reason_stays number old n) ∙ was (omega (arith, some))
failed_on number faults None new (Err e) was is some = ap is_some is
failed_on number faults (Some why) new (Err e) was is some = ap is_some is

opened_on : (holds : List ℕ → Stamp → Option (List ℕ) → Type 0) (first old : Standing) (before after : Option Stamp) → IsStill first old → IsOpenedAt holds (place_of first) before
    → OpensTo holds old before after → IsOpenedAt holds (place_of first) after
opened_on holds first (Standard reader) before after still was is = subst (IsOpenedAt holds (place_of first)) (sym is) was
opened_on holds first (Unopened path left) before after still was is = subst (λ (s : Standing). IsOpenedAt holds (place_of s) after) (sym still) is
opened_on holds first (Reading left) before after still was is = subst (IsOpenedAt holds (place_of first)) (sym is) was
opened_on holds first Ended before after still was is = subst (IsOpenedAt holds (place_of first)) (sym is) was
opened_on holds first (Failed left) before after still was is = subst (IsOpenedAt holds (place_of first)) (sym is) was
opened_on holds first (Closed left) before after still was is = subst (IsOpenedAt holds (place_of first)) (sym is) was

-- no read leaves a file unopened, or makes another input standard input
still_on : {E : Type 0} (can_open : List ℕ → Type 0) (first old new : Standing) (buffer : List ℕ) (r : Result ℕ E) → StepsTo can_open old new buffer r → IsStill first old → IsStill first new
still_on can_open first old (Reading left) buffer r steps still = tt
still_on can_open first old Ended buffer r steps still = tt
still_on can_open first old (Failed left) buffer r steps still = tt
still_on can_open first old (Closed left) buffer r steps still = tt
still_on can_open first (Standard before) (Standard reader) buffer r steps still = still
still_on can_open first (Unopened at had) (Standard reader) buffer (Ok n) steps still = absurd steps.1
still_on can_open first (Unopened at had) (Standard reader) buffer (Err e) steps still = absurd steps.1
still_on can_open first (Reading had) (Standard reader) buffer (Ok n) steps still = absurd steps
still_on can_open first (Reading had) (Standard reader) buffer (Err e) steps still = absurd steps
still_on can_open first Ended (Standard reader) buffer r steps still = absurd steps
still_on can_open first (Failed had) (Standard reader) buffer r steps still = absurd steps
still_on can_open first (Closed had) (Standard reader) buffer r steps still = absurd steps
still_on can_open first (Standard before) (Unopened path left) buffer r steps still = absurd steps
still_on can_open first (Unopened at had) (Unopened path left) buffer (Ok n) steps still = absurd steps.1
still_on can_open first (Unopened at had) (Unopened path left) buffer (Err e) steps still = absurd steps.1
still_on can_open first (Reading had) (Unopened path left) buffer (Ok n) steps still = absurd steps
still_on can_open first (Reading had) (Unopened path left) buffer (Err e) steps still = absurd steps
still_on can_open first Ended (Unopened path left) buffer r steps still = absurd steps
still_on can_open first (Failed had) (Unopened path left) buffer r steps still = absurd steps
still_on can_open first (Closed had) (Unopened path left) buffer r steps still = absurd steps

-- a read that gave bytes, or had no room, wasn't the last
not_last : (n : ℕ) (buffer : List ℕ) → (n ≡ 0 → length buffer ≡ 0) → (n == 0) && nat_lt 0 (length buffer) ≡ true → ⊥
not_last zero buffer none last = absurd (let empty = none refl in let some = ltb-true 0 (length buffer) last in omega (arith, empty, some))
not_last (suc n) buffer none last = absurd (true≢false (sym last ∙ ap (λ b. b && nat_lt 0 (length buffer)) (ne_eqb (suc n) 0 (λ e. omega (arith, e)))))

everywhere : (can_fail : List ℕ → Type 0) (place : Place) → ((path : List ℕ) → can_fail path) → MayFailAt can_fail place
everywhere can_fail Stream all = tt
everywhere can_fail (File path) all = all path
everywhere can_fail Nowhere all = tt

-- no read closes an input, or opens one that was closed
pub closed_stays : {E : Type 0} (can_open : List ℕ → Type 0) (old new : Standing) (buffer : List ℕ) (r : Result ℕ E) → StepsTo can_open old new buffer r → closed_in new ≡ closed_in old
closed_stays can_open (Standard before) (Standard reader) buffer r steps = refl
closed_stays can_open (Standard before) (Unopened path left) buffer r steps = absurd steps
closed_stays can_open (Standard before) (Reading left) buffer r steps = absurd steps
closed_stays can_open (Standard before) Ended buffer r steps = absurd steps
closed_stays can_open (Standard before) (Failed left) buffer r steps = absurd steps
closed_stays can_open (Standard before) (Closed left) buffer r steps = absurd steps
closed_stays can_open (Unopened at had) (Standard reader) buffer r steps = refl
closed_stays can_open (Unopened at had) (Unopened path left) buffer r steps = refl
closed_stays can_open (Unopened at had) (Reading left) buffer r steps = refl
closed_stays can_open (Unopened at had) Ended buffer r steps = refl
closed_stays can_open (Unopened at had) (Failed left) buffer r steps = refl
closed_stays can_open (Unopened at had) (Closed left) buffer (Ok n) steps = absurd steps.1
closed_stays can_open (Unopened at had) (Closed left) buffer (Err e) steps = absurd steps.1
closed_stays can_open (Reading had) (Standard reader) buffer r steps = refl
closed_stays can_open (Reading had) (Unopened path left) buffer r steps = refl
closed_stays can_open (Reading had) (Reading left) buffer r steps = refl
closed_stays can_open (Reading had) Ended buffer r steps = refl
closed_stays can_open (Reading had) (Failed left) buffer r steps = refl
closed_stays can_open (Reading had) (Closed left) buffer (Ok n) steps = absurd steps
closed_stays can_open (Reading had) (Closed left) buffer (Err e) steps = absurd steps
closed_stays can_open Ended (Standard reader) buffer r steps = refl
closed_stays can_open Ended (Unopened path left) buffer r steps = refl
closed_stays can_open Ended (Reading left) buffer r steps = refl
closed_stays can_open Ended Ended buffer r steps = refl
closed_stays can_open Ended (Failed left) buffer r steps = refl
closed_stays can_open Ended (Closed left) buffer r steps = absurd steps
closed_stays can_open (Failed had) (Standard reader) buffer r steps = refl
closed_stays can_open (Failed had) (Unopened path left) buffer r steps = refl
closed_stays can_open (Failed had) (Reading left) buffer r steps = refl
closed_stays can_open (Failed had) Ended buffer r steps = refl
closed_stays can_open (Failed had) (Failed left) buffer r steps = refl
closed_stays can_open (Failed had) (Closed left) buffer r steps = absurd steps
closed_stays can_open (Closed had) (Standard reader) buffer r steps = absurd steps
closed_stays can_open (Closed had) (Unopened path left) buffer r steps = absurd steps
closed_stays can_open (Closed had) (Reading left) buffer r steps = absurd steps
closed_stays can_open (Closed had) Ended buffer r steps = absurd steps
closed_stays can_open (Closed had) (Failed left) buffer r steps = absurd steps
closed_stays can_open (Closed had) (Closed left) buffer r steps = refl

-- the last read of a file leaves nothing open
pub last_leaves : {E : Type 0} (can_open : List ℕ → Type 0) (old new : Standing) (buffer : List ℕ) (r : Result ℕ E) → StepsTo can_open old new buffer r → is_last_read r buffer ≡ true → open_in new ≡ false
last_leaves can_open old (Standard reader) buffer r steps last = refl
last_leaves can_open old (Unopened path left) buffer r steps last = refl
last_leaves can_open old Ended buffer r steps last = refl
last_leaves can_open old (Failed left) buffer r steps last = refl
last_leaves can_open old (Closed left) buffer r steps last = refl
last_leaves can_open (Standard before) (Reading left) buffer r steps last = absurd steps
last_leaves can_open (Unopened at had) (Reading left) buffer (Ok n) steps last = absurd (not_last n buffer steps.1 last)
last_leaves can_open (Unopened at had) (Reading left) buffer (Err e) steps last = absurd steps.1
last_leaves can_open (Reading had) (Reading left) buffer (Ok n) steps last = absurd (not_last n buffer steps last)
last_leaves can_open (Reading had) (Reading left) buffer (Err e) steps last = absurd steps
last_leaves can_open Ended (Reading left) buffer r steps last = absurd steps
last_leaves can_open (Failed had) (Reading left) buffer r steps last = absurd steps
last_leaves can_open (Closed had) (Reading left) buffer r steps last = absurd steps

-- what may fail as it stands, and wasn't closed, may fail by what it was made for
may_from : (can_fail : List ℕ → Type 0) (first old : Standing) → closed_in old ≡ false → IsStill first old → HasRightlyFailed can_fail (place_of first) old → MayFailFrom can_fail old
    → MayFailAt can_fail (place_of first)
may_from can_fail first (Standard reader) unclosed still rightly may = subst (MayFailAt can_fail) (sym still) tt
may_from can_fail first (Unopened path left) unclosed still rightly may = subst (λ (s : Standing). MayFailAt can_fail (place_of s)) (sym still) may
may_from can_fail first (Reading left) unclosed still rightly may = everywhere can_fail (place_of first) may
may_from can_fail first Ended unclosed still rightly may = absurd may
may_from can_fail first (Failed left) unclosed still rightly may = rightly
may_from can_fail first (Closed left) unclosed still rightly may = absurd (true≢false unclosed)

may_on : {E : Type 0} (can_fail : List ℕ → Type 0) (first old : Standing) (faults : ℕ) (r : Result ℕ E) → closed_in old ≡ false → IsStill first old
    → HasRightlyFailed can_fail (place_of first) old → IfErr r (λ _. MayFailFrom can_fail old) → (0 < faults → MayFailAt can_fail (place_of first))
    → 0 < faults + (if is_err r then 1 else 0) → MayFailAt can_fail (place_of first)
may_on can_fail first old faults (Ok n) unclosed still rightly fails was some = was (omega (arith, some))
may_on can_fail first old faults (Err e) unclosed still rightly fails was some = may_from can_fail first old unclosed still rightly fails

-- an input fails only at a read that fails
rightly_on : {E : Type 0} (can_open can_fail : List ℕ → Type 0) (first old new : Standing) (buffer : List ℕ) (r : Result ℕ E) → StepsTo can_open old new buffer r → IsStill first old
    → HasRightlyFailed can_fail (place_of first) old → IfErr r (λ _. MayFailFrom can_fail old) → HasRightlyFailed can_fail (place_of first) new
rightly_on can_open can_fail first old (Standard reader) buffer r steps still rightly fails = tt
rightly_on can_open can_fail first old (Unopened path left) buffer r steps still rightly fails = tt
rightly_on can_open can_fail first old (Reading left) buffer r steps still rightly fails = tt
rightly_on can_open can_fail first old Ended buffer r steps still rightly fails = tt
rightly_on can_open can_fail first old (Closed left) buffer r steps still rightly fails = tt
rightly_on can_open can_fail first old (Failed left) buffer (Err e) steps still rightly fails =
    may_from can_fail first old (sym (closed_stays can_open old (Failed left) buffer (Err e) steps)) still rightly fails
rightly_on can_open can_fail first (Standard before) (Failed left) buffer (Ok n) steps still rightly fails = absurd steps
rightly_on can_open can_fail first (Unopened at had) (Failed left) buffer (Ok n) steps still rightly fails = absurd (true≢false (sym steps))
rightly_on can_open can_fail first (Reading had) (Failed left) buffer (Ok n) steps still rightly fails = absurd steps
rightly_on can_open can_fail first Ended (Failed left) buffer (Ok n) steps still rightly fails = absurd steps
rightly_on can_open can_fail first (Failed had) (Failed left) buffer (Ok n) steps still rightly fails = absurd (true≢false (sym steps))
rightly_on can_open can_fail first (Closed had) (Failed left) buffer (Ok n) steps still rightly fails = absurd steps

-- a read of standard input is counted as its stream counts it
counted_on : {E : Type 0} (can_open : List ℕ → Type 0) (old new : Standing) (buffer : List ℕ) (r : Result ℕ E) (faults ends : ℕ) → StepsTo can_open old new buffer r
    → HasCounted old faults ends → HasCounted new (faults + (if is_err r then 1 else 0)) (ends + (if moves_nothing r buffer then 1 else 0))
counted_on can_open (Standard before) (Standard after) buffer r faults ends steps was =
    (steps.faults ∙ ap (λ n. n + (if is_err r then 1 else 0)) was.0, steps.ends ∙ ap (λ n. n + (if moves_nothing r buffer then 1 else 0)) was.1)
counted_on can_open (Standard before) (Unopened path left) buffer r faults ends steps was = absurd steps
counted_on can_open (Standard before) (Reading left) buffer r faults ends steps was = absurd steps
counted_on can_open (Standard before) Ended buffer r faults ends steps was = absurd steps
counted_on can_open (Standard before) (Failed left) buffer r faults ends steps was = absurd steps
counted_on can_open (Standard before) (Closed left) buffer r faults ends steps was = absurd steps
counted_on can_open (Unopened at had) new buffer r faults ends steps was = absurd was
counted_on can_open (Reading had) new buffer r faults ends steps was = absurd was
counted_on can_open Ended new buffer r faults ends steps was = absurd was
counted_on can_open (Failed had) new buffer r faults ends steps was = absurd was
counted_on can_open (Closed had) new buffer r faults ends steps was = absurd was

stream_on : {E : Type 0} (can_open : List ℕ → Type 0) (first old new : Standing) (buffer : List ℕ) (r : Result ℕ E) (faults ends : ℕ) → StepsTo can_open old new buffer r
    → StaysStream first old faults ends → StaysStream first new (faults + (if is_err r then 1 else 0)) (ends + (if moves_nothing r buffer then 1 else 0))
stream_on can_open (Standard reader) old new buffer r faults ends steps was = counted_on can_open old new buffer r faults ends steps was
stream_on can_open (Unopened path left) old new buffer r faults ends steps was = tt
stream_on can_open (Reading left) old new buffer r faults ends steps was = tt
stream_on can_open Ended old new buffer r faults ends steps was = tt
stream_on can_open (Failed left) old new buffer r faults ends steps was = tt
stream_on can_open (Closed left) old new buffer r faults ends steps was = tt

-- an input that was just made

opened_new : (holds : List ℕ → Stamp → Option (List ℕ) → Type 0) (place : Place) (opened : Option Stamp) → opened ≡ None → IsOpenedAt holds place opened
opened_new holds Stream opened none = none
opened_new holds (File path) None none = tt
opened_new holds (File path) (Some stamp) none = absurd (cc)
opened_new holds Nowhere opened none = none

still_new : (first : Standing) → IsStill first first
still_new (Standard reader) = refl
still_new (Unopened path left) = refl
still_new (Reading left) = tt
still_new Ended = tt
still_new (Failed left) = tt
still_new (Closed left) = tt

rightly_new : (can_fail : List ℕ → Type 0) (first : Standing) → HasRightlyFailed can_fail (place_of first) first
rightly_new can_fail (Standard reader) = tt
rightly_new can_fail (Unopened path left) = tt
rightly_new can_fail (Reading left) = tt
rightly_new can_fail Ended = tt
rightly_new can_fail (Failed left) = tt
rightly_new can_fail (Closed left) = tt

stream_new : (first : Standing) → IsUnread first → StaysStream first first 0 0
stream_new (Standard reader) unread = unread
stream_new (Unopened path left) unread = tt
stream_new (Reading left) unread = tt
stream_new Ended unread = tt
stream_new (Failed left) unread = tt
stream_new (Closed left) unread = tt

pub merely_led_new : {S O F : Type 0} (stdin : S → Option (List ℕ)) (known : O → List ℕ → Option (List ℕ)) (file : F → Option (List ℕ)) (can_fail : List ℕ → Type 0) (holds : List ℕ → Stamp → Option (List ℕ) → Type 0)
    (input first : Input S O F) (given : List ℕ) (faults ends : ℕ) → first ≡ input → given ≡ [] → faults ≡ 0 → ends ≡ 0
    → start_of input ≡ [] → reason_of input ≡ reason_at (place_of (standing_of stdin known file input)) → opened_of input ≡ None → IsUnread (standing_of stdin known file input)
    → ∥ IsLed stdin known file can_fail holds first input given faults ends ∥₁
merely_led_new stdin known file can_fail holds input first given faults ends first_is given_is faults_are ends_are start reason opened unread =
    let made : IsLed stdin known file can_fail holds input input [] 0 0 = record {
      start = start;
      reason = λ _. reason;
      failed = λ some. absurd (omega (arith, some));
      may = λ some. absurd (omega (arith, some));
      rightly = rightly_new can_fail (standing_of stdin known file input);
      stream = stream_new (standing_of stdin known file input) unread;
      opened = opened_new holds (place_of (standing_of stdin known file input)) (opened_of input) opened;
      still = still_new (standing_of stdin known file input);
    } in
    merely (subst (λ f. IsLed stdin known file can_fail holds f input given faults ends) (sym first_is)
    (subst (λ l. IsLed stdin known file can_fail holds input input l faults ends) (sym given_is)
    (subst (λ n. IsLed stdin known file can_fail holds input input [] n ends) (sym faults_are)
    (subst (λ n. IsLed stdin known file can_fail holds input input [] 0 n) (sym ends_are) made))))

-- what one read of an input does that wasn't closed, as its contract says
pub record WasReadOnce {S O F E : Type 0} (stdin : S → Option (List ℕ)) (known : O → List ℕ → Option (List ℕ)) (file : F → Option (List ℕ)) (can_open can_fail : List ℕ → Type 0)
    (holds : List ℕ → Stamp → Option (List ℕ) → Type 0) (number : E → Option ℤ) (old new : Input S O F) (r : Result ℕ E) (buffer : List ℕ) : Type 0 where
  pub unclosed : closed_in (standing_of stdin known file old) ≡ false
  pub steps : StepsTo can_open (standing_of stdin known file old) (standing_of stdin known file new) buffer r
  pub fails : IfErr r (λ _. MayFailFrom can_fail (standing_of stdin known file old))
  pub opens : OpensTo holds (standing_of stdin known file old) (opened_of old) (opened_of new)
  pub starts : start_of new ≡ start_after (start_of old) r buffer
  pub reasons : reason_of new ≡ reason_after number (reason_of old) r

module _ {S O F E : Type 0} (stdin : S → Option (List ℕ)) (known : O → List ℕ → Option (List ℕ)) (file : F → Option (List ℕ)) (can_open can_fail : List ℕ → Type 0)
    (holds : List ℕ → Stamp → Option (List ℕ) → Type 0) (number : E → Option ℤ) (first old new : Input S O F) (r : Result ℕ E) (buffer : List ℕ)
    (once : WasReadOnce stdin known file can_open can_fail holds number old new r buffer) where
  led_on : (came : List ℕ) (faults ends : ℕ) → IsLed stdin known file can_fail holds first old came faults ends
      → IsLed stdin known file can_fail holds first new (came ++ gained r buffer) (faults + (if is_err r then 1 else 0)) (ends + (if moves_nothing r buffer then 1 else 0))
  led_on came faults ends led =
      let at_first = standing_of stdin known file first in
      let before = standing_of stdin known file old in
      let after = standing_of stdin known file new in
      record {
        start = start_on (start_of old) came r buffer (start_of new) led.start once.starts;
        reason = reason_on number faults (place_of at_first) (reason_of old) (reason_of new) r led.reason once.reasons;
        failed = failed_on number faults (reason_of old) (reason_of new) r led.failed once.reasons;
        may = may_on can_fail at_first before faults r once.unclosed led.still led.rightly once.fails led.may;
        rightly = rightly_on can_open can_fail at_first before after buffer r once.steps led.still led.rightly once.fails;
        stream = stream_on can_open at_first before after buffer r faults ends once.steps led.stream;
        opened = opened_on holds at_first before (opened_of old) (opened_of new) led.still led.opened once.opens;
        still = still_on can_open at_first before after buffer r once.steps led.still;
      }

  -- the same where it is known that there is such a reading, of what counts as the bytes that came, and as the reads that failed and found the end
  pub merely_led_on : (came given : List ℕ) (faults failures ends finds : ℕ) → given ≡ came ++ gained r buffer → failures ≡ faults + (if is_err r then 1 else 0)
      → finds ≡ ends + (if moves_nothing r buffer then 1 else 0)
      → ∥ IsLed stdin known file can_fail holds first old came faults ends ∥₁ → ∥ IsLed stdin known file can_fail holds first new given failures finds ∥₁
  merely_led_on came given faults failures ends finds given_is failures_are finds_are led =
      ∥∥₁_elim led squash₁ (λ l. merely (subst (λ g. IsLed stdin known file can_fail holds first new g failures finds) (sym given_is)
      (subst (λ n. IsLed stdin known file can_fail holds first new (came ++ gained r buffer) n finds) (sym failures_are)
      (subst (λ n. IsLed stdin known file can_fail holds first new (came ++ gained r buffer) (faults + (if is_err r then 1 else 0)) n) (sym finds_are)
      (led_on came faults ends l)))))

-- the file of an input is closed, if it is open

pub bytes_stay : (s : Standing) → bytes_left (shut s) ≡ bytes_left s
bytes_stay (Standard reader) = refl
bytes_stay (Unopened path left) = refl
bytes_stay (Reading left) = refl
bytes_stay Ended = refl
bytes_stay (Failed left) = refl
bytes_stay (Closed left) = refl

pub nothing_open : (s : Standing) → open_in (shut s) ≡ false
nothing_open (Standard reader) = refl
nothing_open (Unopened path left) = refl
nothing_open (Reading left) = refl
nothing_open Ended = refl
nothing_open (Failed left) = refl
nothing_open (Closed left) = refl

rightly_shut : (can_fail : List ℕ → Type 0) (place : Place) (s : Standing) → HasRightlyFailed can_fail place s → HasRightlyFailed can_fail place (shut s)
rightly_shut can_fail place (Standard reader) is = is
rightly_shut can_fail place (Unopened path left) is = is
rightly_shut can_fail place (Reading left) is = tt
rightly_shut can_fail place Ended is = is
rightly_shut can_fail place (Failed left) is = is
rightly_shut can_fail place (Closed left) is = is

counted_shut : (s : Standing) (faults ends : ℕ) → HasCounted s faults ends → HasCounted (shut s) faults ends
counted_shut (Standard reader) faults ends is = is
counted_shut (Unopened path left) faults ends is = is
counted_shut (Reading left) faults ends is = absurd is
counted_shut Ended faults ends is = is
counted_shut (Failed left) faults ends is = is
counted_shut (Closed left) faults ends is = is

stream_shut : (first s : Standing) (faults ends : ℕ) → StaysStream first s faults ends → StaysStream first (shut s) faults ends
stream_shut (Standard reader) s faults ends is = counted_shut s faults ends is
stream_shut (Unopened path left) s faults ends is = tt
stream_shut (Reading left) s faults ends is = tt
stream_shut Ended s faults ends is = tt
stream_shut (Failed left) s faults ends is = tt
stream_shut (Closed left) s faults ends is = tt

still_shut : (first s : Standing) → IsStill first s → IsStill first (shut s)
still_shut first (Standard reader) is = is
still_shut first (Unopened path left) is = is
still_shut first (Reading left) is = tt
still_shut first Ended is = is
still_shut first (Failed left) is = is
still_shut first (Closed left) is = is

-- an input that was closed has noted what it had noted before
pub merely_led_shut : {S O F : Type 0} (stdin : S → Option (List ℕ)) (known : O → List ℕ → Option (List ℕ)) (file : F → Option (List ℕ)) (can_fail : List ℕ → Type 0) (holds : List ℕ → Stamp → Option (List ℕ) → Type 0)
    (first old new : Input S O F) (came : List ℕ) (faults ends : ℕ) → standing_of stdin known file new ≡ shut (standing_of stdin known file old)
    → start_of new ≡ start_of old → reason_of new ≡ reason_of old → opened_of new ≡ opened_of old
    → ∥ IsLed stdin known file can_fail holds first old came faults ends ∥₁ → ∥ IsLed stdin known file can_fail holds first new came faults ends ∥₁
merely_led_shut stdin known file can_fail holds first old new came faults ends standing start reason opened led =
    let at_first = standing_of stdin known file first in
    let before = standing_of stdin known file old in
    ∥∥₁_elim led squash₁ (λ l. merely (record {
      start = start ∙ l.start;
      reason = λ none. reason ∙ l.reason none;
      failed = λ some. ap is_some reason ∙ l.failed some;
      may = l.may;
      rightly = subst (HasRightlyFailed can_fail (place_of at_first)) (sym standing) (rightly_shut can_fail (place_of at_first) before l.rightly);
      stream = subst (λ (s : Standing). StaysStream at_first s faults ends) (sym standing) (stream_shut at_first before faults ends l.stream);
      opened = subst (IsOpenedAt holds (place_of at_first)) (sym opened) l.opened;
      still = subst (IsStill at_first) (sym standing) (still_shut at_first before l.still);
    }))

-- As many sources as words, and how a list that is read stands.
use Rattle.std.proofs.Common.{◌≡◌, ◌∙◌, ◌≤◌, ◌<◌, ◌+◌, ℕ, ℤ, List, length, map, Option, None, Some, Ok, Err, Result, ap, sym, subst, refl, true≢false, arith, if◌then◌else◌}
use Rattle.std.specs.Prelude.{⊤, IsErrAnd}
use Rattle.std.proofs.lemmas.Bool.{lt-ltb}
use Rattle.std.proofs.lemmas.List.{length-map}
use Rattle.aero_program.specs.declared.reason.Reason.{Reason}
use Rattle.aero_program.specs.declared.listing.Unlisted.{Unlisted}
use Rattle.aero_program.specs.declared.listing.Unlisted.TheVariants as unlisted
use Rattle.aero_program.specs.Inputs.{Standing, Standard, Unopened, Reading, Ended, Failed, Closed, AnswersAs, MayFailFrom, StepsTo}
use Rattle.aero_model.specs.CallCounts.{Seen}
use Rattle.aero_program.specs.Listing.{HasTooMany, IsFaultOf, IsListFault, IsReadFor, StandsAfter}
use Rattle.aero_program.specs.Reasons.{reason_after}

pub named_as_many : {X Y : Type 0} (f : X → List ℕ) (g : Y → List ℕ) (sources : List X) (given words : List Y) → map f sources ≡ map g given → given ≡ words → length sources ≡ length words
named_as_many f g sources given words named are = sym (length-map sources f) ∙ ap length named ∙ length-map given g ∙ ap length are

pub reason_stays : {E : Type 0} (number : E → Option ℤ) (reason : Option Reason) (n : ℕ) → reason_after number reason (Ok n) ≡ reason
reason_stays number None n = refl
reason_stays number (Some reason) n = refl

may_before_ok : (E : Type 0) (can_open can_fail : List ℕ → Type 0) (old new : Standing) (buffer : List ℕ) (n : ℕ) → StepsTo {E = E} can_open old new buffer (Ok n) → MayFailFrom can_fail new → MayFailFrom can_fail old
may_before_ok E can_open can_fail (Standard before) new buffer n steps may = tt
may_before_ok E can_open can_fail (Failed had) new buffer n steps may = tt
may_before_ok E can_open can_fail (Closed had) new buffer n steps may = tt
may_before_ok E can_open can_fail (Unopened path had) (Standard reader) buffer n steps may = absurd steps.1
may_before_ok E can_open can_fail (Unopened path had) (Unopened at left) buffer n steps may = absurd steps.1
may_before_ok E can_open can_fail (Unopened path had) (Reading left) buffer n steps may = may path
may_before_ok E can_open can_fail (Unopened path had) Ended buffer n steps may = absurd may
may_before_ok E can_open can_fail (Unopened path had) (Failed left) buffer n steps may = absurd (true≢false (sym steps))
may_before_ok E can_open can_fail (Unopened path had) (Closed left) buffer n steps may = absurd steps.1
may_before_ok E can_open can_fail (Reading had) (Standard reader) buffer n steps may = absurd steps
may_before_ok E can_open can_fail (Reading had) (Unopened at left) buffer n steps may = absurd steps
may_before_ok E can_open can_fail (Reading had) (Reading left) buffer n steps may = may
may_before_ok E can_open can_fail (Reading had) Ended buffer n steps may = absurd may
may_before_ok E can_open can_fail (Reading had) (Failed left) buffer n steps may = absurd steps
may_before_ok E can_open can_fail (Reading had) (Closed left) buffer n steps may = absurd steps
may_before_ok E can_open can_fail Ended (Standard reader) buffer n steps may = absurd steps
may_before_ok E can_open can_fail Ended (Unopened at left) buffer n steps may = absurd steps
may_before_ok E can_open can_fail Ended (Reading left) buffer n steps may = absurd steps
may_before_ok E can_open can_fail Ended Ended buffer n steps may = may
may_before_ok E can_open can_fail Ended (Failed left) buffer n steps may = absurd steps
may_before_ok E can_open can_fail Ended (Closed left) buffer n steps may = absurd steps

-- what may fail after a read that worked may fail before it
pub may_before : {E : Type 0} (can_open can_fail : List ℕ → Type 0) (old new : Standing) (buffer : List ℕ) (r : Result ℕ E) (n : ℕ) → r ≡ Ok n → StepsTo can_open old new buffer r
    → MayFailFrom can_fail new → MayFailFrom can_fail old
may_before can_open can_fail old new buffer r n is steps = may_before_ok _ can_open can_fail old new buffer n (subst (StepsTo can_open old new buffer) is steps)

-- why a list wasn't read to its end is why it couldn't be had
pub unlisted_as : (may listed : Type 0) (had given : Option (List ℕ)) (reason : Option Reason) (why : Unlisted) → (may → listed) → had ≡ given → IsFaultOf may had reason why → IsListFault listed given why
unlisted_as may listed had given reason (unlisted.Unread r) on same fault = on fault.0
unlisted_as may listed had given reason unlisted.TooMany on same fault = subst HasTooMany same fault
unlisted_as may listed had given reason unlisted.Memory on same fault = tt

-- an input from which some reads have worked: standard input is that still, and none has failed
abbrev pub GoesOn : (first now : Standing) → Type 0
GoesOn (Standard before) now = (stream : Seen) × (now ≡ Standard stream) × (stream.faults ≡ before.faults) × (before.ends ≤ stream.ends)
GoesOn (Unopened path left) now = ⊤
GoesOn (Reading left) now = ⊤
GoesOn Ended now = ⊤
GoesOn (Failed left) now = ⊤
GoesOn (Closed left) now = ⊤

pub goes_on_at_first : (first : Standing) → GoesOn first first
goes_on_at_first (Standard before) = (before, refl, refl, omega arith)
goes_on_at_first (Unopened path left) = tt
goes_on_at_first (Reading left) = tt
goes_on_at_first Ended = tt
goes_on_at_first (Failed left) = tt
goes_on_at_first (Closed left) = tt

steps_of_stream : {E : Type 0} (can_open : List ℕ → Type 0) (stream : Seen) (next : Standing) (buffer : List ℕ) (r : Result ℕ E)
    → StepsTo can_open (Standard stream) next buffer r → (s : Seen) × (next ≡ Standard s) × AnswersAs stream s buffer r
steps_of_stream can_open stream (Standard s) buffer r steps = (s, refl, steps)
steps_of_stream can_open stream (Unopened path left) buffer r steps = absurd steps
steps_of_stream can_open stream (Reading left) buffer r steps = absurd steps
steps_of_stream can_open stream Ended buffer r steps = absurd steps
steps_of_stream can_open stream (Failed left) buffer r steps = absurd steps
steps_of_stream can_open stream (Closed left) buffer r steps = absurd steps

-- a read of a stream from which reads have worked
read_more : {E : Type 0} (can_open : List ℕ → Type 0) (before : Seen) (now next : Standing) (buffer : List ℕ) (r answer : Result ℕ E) → r ≡ answer → StepsTo can_open now next buffer r → GoesOn (Standard before) now
    → (mid s : Seen) × (next ≡ Standard s) × (mid.faults ≡ before.faults) × (before.ends ≤ mid.ends) × AnswersAs mid s buffer answer
read_more can_open before now next buffer r answer is steps on =
    let found = steps_of_stream can_open on.0 next buffer r (subst (λ (s : Standing). StepsTo can_open s next buffer r) on.1 steps) in
    (on.0, found.0, found.1, on.2, on.3, subst (AnswersAs on.0 found.0 buffer) is found.2)

-- a read that works goes on
pub goes_on : {E : Type 0} (can_open : List ℕ → Type 0) (first now next : Standing) (buffer : List ℕ) (r : Result ℕ E) (n : ℕ) → r ≡ Ok n → StepsTo can_open now next buffer r → GoesOn first now → GoesOn first next
goes_on can_open (Standard before) now next buffer r n is steps on =
    let m = read_more can_open before now next buffer r (Ok n) is steps on in
    let no_fault : m.1.faults ≡ m.0.faults + 0 = m.5.faults in
    let faults = m.3 in
    let ends = m.5.ends in
    let less = m.4 in
    (m.1, m.2, omega (arith, no_fault, faults), omega (arith, ends, less))
goes_on can_open (Unopened path left) now next buffer r n is steps on = tt
goes_on can_open (Reading left) now next buffer r n is steps on = tt
goes_on can_open Ended now next buffer r n is steps on = tt
goes_on can_open (Failed left) now next buffer r n is steps on = tt
goes_on can_open (Closed left) now next buffer r n is steps on = tt

-- the end was found
pub stands_ended : {E A : Type 0} (can_open : List ℕ → Type 0) (first now next : Standing) (buffer : List ℕ) (r : Result ℕ E) (a : A) → r ≡ Ok 0 → 0 < length buffer → StepsTo can_open now next buffer r → GoesOn first now
    → StandsAfter first next (Ok a)
stands_ended can_open (Standard before) now next buffer r a is some steps on =
    let m = read_more can_open before now next buffer r (Ok 0) is steps on in
    let no_fault : m.1.faults ≡ m.0.faults + 0 = m.5.faults in
    let faults = m.3 in
    let one : m.1.ends ≡ m.0.ends + 1 = m.5.ends ∙ ap (λ b. m.0.ends + (if b then 1 else 0)) (lt-ltb 0 (length buffer) some) in
    let less = m.4 in
    (m.1, m.2, (omega (arith, no_fault, faults), omega (arith, one, less)))
stands_ended can_open (Unopened path left) now next buffer r a is some steps on = tt
stands_ended can_open (Reading left) now next buffer r a is some steps on = tt
stands_ended can_open Ended now next buffer r a is some steps on = tt
stands_ended can_open (Failed left) now next buffer r a is some steps on = tt
stands_ended can_open (Closed left) now next buffer r a is some steps on = tt

-- a read has failed
pub stands_failed : {E : Type 0} (A : Type 0) (can_open : List ℕ → Type 0) (first now next : Standing) (buffer : List ℕ) (r : Result ℕ E) (e : E) (why : Reason) → r ≡ Err e → StepsTo can_open now next buffer r → GoesOn first now
    → StandsAfter {A = A} first next (Err (unlisted.Unread why))
stands_failed A can_open (Standard before) now next buffer r e why is steps on =
    let m = read_more can_open before now next buffer r (Err e) is steps on in
    let one : m.1.faults ≡ m.0.faults + 1 = m.5.faults in
    let faults = m.3 in
    (m.1, m.2, omega (arith, one, faults))
stands_failed A can_open (Unopened path left) now next buffer r e why is steps on = tt
stands_failed A can_open (Reading left) now next buffer r e why is steps on = tt
stands_failed A can_open Ended now next buffer r e why is steps on = tt
stands_failed A can_open (Failed left) now next buffer r e why is steps on = tt
stands_failed A can_open (Closed left) now next buffer r e why is steps on = tt

-- there are too many names
pub stands_many : (A : Type 0) (first now : Standing) → GoesOn first now → StandsAfter {A = A} first now (Err unlisted.TooMany)
stands_many A (Standard before) now on = (on.0, on.1, on.2)
stands_many A (Unopened path left) now on = tt
stands_many A (Reading left) now on = tt
stands_many A Ended now on = tt
stands_many A (Failed left) now on = tt
stands_many A (Closed left) now on = tt

-- memory was refused
pub stands_refused : (A : Type 0) (first now : Standing) → GoesOn first now → StandsAfter {A = A} first now (Err unlisted.Memory)
stands_refused A (Standard before) now on = (on.0, on.1, tt)
stands_refused A (Unopened path left) now on = tt
stands_refused A (Reading left) now on = tt
stands_refused A Ended now on = tt
stands_refused A (Failed left) now on = tt
stands_refused A (Closed left) now on = tt

pub stands_refused_by : (A : Type 0) (first now : Standing) (r : Result A Unlisted) → IsErrAnd r (λ e. e ≡ unlisted.Memory) → GoesOn first now → StandsAfter first now r
stands_refused_by A first now (Ok a) is on = absurd is
stands_refused_by A first now (Err e) is on = subst (λ w. StandsAfter {A = A} first now (Err w)) (sym is) (stands_refused A first now on)

-- a list that is had in another form was read as well
pub stands_ok : {A B : Type 0} (first now : Standing) (r : Result A Unlisted) (a : A) (b : B) → r ≡ Ok a → StandsAfter first now r → StandsAfter first now (Ok b)
stands_ok (Standard before) now r a b is stands = subst (StandsAfter (Standard before) now) is stands
stands_ok (Unopened path left) now r a b is stands = tt
stands_ok (Reading left) now r a b is stands = tt
stands_ok Ended now r a b is stands = tt
stands_ok (Failed left) now r a b is stands = tt
stands_ok (Closed left) now r a b is stands = tt

read_for_err : (A B : Type 0) (before after : Seen) (why : Unlisted) → IsReadFor {A = A} before after (Err why) → IsReadFor {A = B} before after (Err why)
read_for_err A B before after (unlisted.Unread reason) is = is
read_for_err A B before after unlisted.TooMany is = is
read_for_err A B before after unlisted.Memory is = is

pub stands_err : (A B : Type 0) (first now : Standing) (r : Result A Unlisted) (why : Unlisted) → r ≡ Err why → StandsAfter first now r → StandsAfter {A = B} first now (Err why)
stands_err A B (Standard before) now r why is stands =
    let s = subst (StandsAfter (Standard before) now) is stands in
    (s.0, s.1, read_for_err A B before s.0 why s.2)
stands_err A B (Unopened path left) now r why is stands = tt
stands_err A B (Reading left) now r why is stands = tt
stands_err A B Ended now r why is stands = tt
stands_err A B (Failed left) now r why is stands = tt
stands_err A B (Closed left) now r why is stands = tt

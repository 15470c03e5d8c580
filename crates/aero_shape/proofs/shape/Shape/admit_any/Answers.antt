use Rattle.std.proofs.Common.{rules}
-- The tables tell what the event is judged as, and its fault, and after it they are as `IsAfter` says. The rest follows for any list that they stand for.
use Rattle.std.proofs.Common.{◌≡◌, ℕ, ◌+◌, ◌-◌, ◌∷◌, [], ◌++◌, ◌&&◌, ◌==◌, if◌then◌else◌, take, List, length, Bool, false, is_err, OnOk, Result, Ok, Err, sym, ◌∙◌, ap, ap₂, subst, arith}
use Rattle.std.specs.Vec.{with_items}
use Rattle.std.proofs.lemmas.Grind.{common_steps}
use Rattle.std.proofs.lemmas.List.{with_items_is}
use Rattle.aero_model.specs.declared.numbered.Numbered.{Numbered}
use Rattle.aero_model.specs.Blocks.{is_end}
use Rattle.aero_model.specs.Exempt.{Marked, read_events, judged, judged_trace}
use Rattle.aero_model.specs.Shape.{shape_fault}
use Rattle.aero_shape.specs.States.{Tables, HasLockPlace, thread_at, lock_at, around_at, around_after}
use Rattle.aero_shape.specs.Told.{fault_told, kind_told, is_last, exempt_told, judged_told}
use Rattle.aero_shape.specs.Standing.{StandsFor}
use Rattle.aero_shape.specs.Admission.{admitted_as, TellsEvent}
use Rattle.aero_shape.proofs.Told.{tells_fault}
use Rattle.aero_shape.proofs.Changes.{IsAfter, noted, bounded_after}
use Rattle.aero_shape.proofs.Stands.{stands_pushed, changed_around, read_fault_told, judged_kind_told, reached_places}
use Rattle.aero_shape.proofs.shape.Shape.admit_any.Goals as goal
use Rattle.aero_shape.proofs.shape.Shape.admit_any.Goals.{After-fault_of, After-close_exempt}

-- the tables at the call
abbrev before : After-fault_of → Tables
before c = record { threads = c.self.inside.threads.items; locks = c.self.inside.locks.items; exempt = c.self.inside.exempt.items; admitted = c.self.inside.admitted }

abbrev mark : After-fault_of → Marked
mark c = record { event = c.args.event.now; exempt = c.args.exempt }

abbrev event : After-fault_of → Numbered
event c = c.judge-judged.result.event

stood : (c : After-fault_of) (h : List Marked) → StandsFor c.args.self.now h → StandsFor (before c) h
stood c h s = subst (λ v. StandsFor v h) (sym c.self.view_is) s

what_is : (c : After-fault_of) → (event c).what ≡ judged_told (exempt_told (before c).threads (before c).exempt c.args.event.now.thread c.args.exempt c.args.event.now.what) c.args.event.now.what
what_is c =
    let w = c.args.event.now.what in
    c.judge-judged.ensures.what ∙ ap₂ (λ xs ys. judged_told (exempt_told xs ys c.args.event.now.thread c.args.exempt w) w) c.deref.ensures.value c.deref-2.ensures.value

told : (c : After-fault_of) → c.fault_of.result ≡ fault_told (before c).threads (before c).locks (event c)
told c = c.fault_of.ensures ∙ (grind (arith, common_steps)) ∙ ap₂ (λ xs ys. fault_told xs ys (event c)) c.deref-3.ensures.value c.deref-4.ensures.value

ruled : (c : After-fault_of) (h : List Marked) → StandsFor c.args.self.now h → shape_fault (read_events h) c.args.event.now ≡ c.fault_of.result
ruled c h s = read_fault_told (before c) (mark c) (event c) c.judge-judged.ensures.thread (what_is c) h (stood c h s) ∙ sym (told c)

pub returns-in-Some-clause-told : goal.returns-in-Some-clause-told
returns-in-Some-clause-told c h s =
    let at = (goal.at.returns-in-Some-clause-told c).After-fault_of in
    let fault : TellsEvent h (mark at) (Err c.in-Some.fault) = tells_fault h (mark at) c.in-Some.fault (ruled at h s ∙ (grind (arith, common_steps))) in
    grind (arith, common_steps, fault)

pub returns-then-is_err-clause-told : goal.returns-then-is_err-clause-told
returns-then-is_err-clause-told c h s =
    ruled (goal.at.returns-then-is_err-clause-told c).After-fault_of h s ∙ (grind (arith, common_steps))

pub returns-then-is_err-clause-room : goal.returns-then-is_err-clause-room
returns-then-is_err-clause-room c h s reached plain same =
    let at = (goal.at.returns-then-is_err-clause-room c).After-fault_of in
    let b = exempt_told (before at).threads (before at).exempt c.args.event.now.thread c.args.exempt c.args.event.now.what in
    let places = reached_places (before at) h (stood at h s) c.args.event.now (event at) b c.judge-judged.ensures.thread (what_is at) reached in
    let fine = c.make_room.ensures.room (c.judge-judged.ensures.opens ∙ plain) places in
    grind (arith, common_steps, fine)

pub returns-clause-told : goal.returns-clause-told
returns-clause-told c h s =
    let at = (goal.at.returns-clause-told c).After-fault_of in
    let e = event at in
    let kind = c.kind_of-admitted.ensures ∙ ap (λ xs. kind_told xs (thread_at xs e.thread).depth e.what) c.deref-5.ensures.value in
    let told : c.kind_of-admitted.result ≡ admitted_as (judged_trace h) (judged h (mark at)) = kind ∙ judged_kind_told (before at) (mark at) e c.judge-judged.ensures.thread (what_is at) h (stood at h s) in
    (ruled at h s ∙ (grind (arith, common_steps)), (grind (arith, common_steps)) ∙ told)

on_ok : {X Y : Type 0} (r : Result X Y) (P : Type 0) → is_err r ≡ false → OnOk r P → P
on_ok (Ok x) P is p = p
on_ok (Err x) P is p = absurd (cc)

abbrev opened : Bool → Bool → ℕ → List ℕ → List ℕ
opened opens own depth xs = if opens && own then xs ++ depth ∷ [] else xs

abbrev closed : Bool → Bool → List ℕ → List ℕ
closed closes own xs = if closes && own then take (length xs - 1) xs else xs

-- the tables once the event is noted
abbrev noted_in : After-close_exempt → Tables
noted_in c =
    record {
      threads = (with_items c.make_room.new.threads c.note_threads.new.threads).items;
      locks = (with_items c.make_room.new.locks c.note_lock.new.locks).items;
      exempt = (with_items c.make_room.new.exempt c.close_exempt.new.table).items;
      admitted = c.self.inside.admitted + 1;
    }

abbrev event_in : After-close_exempt → Numbered
event_in c = c.judge-judged.result.event

abbrev before_in : After-close_exempt → Tables
before_in c = record { threads = c.self.inside.threads.items; locks = c.self.inside.locks.items; exempt = c.self.inside.exempt.items; admitted = c.self.inside.admitted }

fine : (c : After-close_exempt) → is_err c.make_room.result ≡ false
fine c = let test = c.is_err.ensures in grind (arith, common_steps, test)

after : (c : After-close_exempt) → IsAfter (before_in c) (noted_in c) (event_in c)
after c =
    let threads = with_items_is c.make_room.new.threads c.note_threads.new.threads (c.note_threads.auto.threads ∙ c.deref_mut.ensures.len) in
    let locks = with_items_is c.make_room.new.locks c.note_lock.new.locks (c.note_lock.auto.locks ∙ c.deref_mut-2.ensures.len) in
    let lock_place = on_ok c.make_room.result _ (fine c) c.make_room.ensures.lock in
    let len = ap (λ xs. length xs) c.deref_mut-2.ensures.value in
    noted (before_in c) (event_in c) c.deref_mut.result.now _ c.deref_mut-2.result.now _ _
    (λ t. ap (λ xs. thread_at xs t) c.deref_mut.ensures.value ∙ c.make_room.ensures.threads t)
    (λ l. ap (λ xs. lock_at xs l) c.deref_mut-2.ensures.value ∙ c.make_room.ensures.locks l)
    (λ t. ap (λ xs. thread_at xs t) threads ∙ (c.note_threads.ensures t ∙ (grind (arith, common_steps))))
    (λ l. ap (λ xs. lock_at xs l) locks ∙ (c.note_lock.ensures l ∙ (grind (arith, common_steps))))
    (omega (arith, c.make_room.ensures.locks_grow, len))
    (subst (λ xs. HasLockPlace xs (event_in c).what) (sym c.deref_mut-2.ensures.value) lock_place)
    (ap (λ xs. length xs) locks ∙ c.note_lock.auto.locks)

around : (c : After-close_exempt) (t : ℕ) → around_at (noted_in c).exempt t ≡ around_after t c.args.event.now.thread c.args.event.now.what (exempt_told (before_in c).threads (before_in c).exempt c.args.event.now.thread c.args.exempt c.args.event.now.what) (thread_at (before_in c).threads c.args.event.now.thread).depth (around_at (before_in c).exempt t)
around c t =
    let e = c.args.event.now in
    let j = c.judge-judged.result in
    let room = on_ok c.make_room.result _ (fine c) c.make_room.ensures.exempt in
    let table = with_items_is c.make_room.new.exempt c.close_exempt.new.table (c.close_exempt.auto.table ∙ c.deref_mut-3.ensures.len) in
    let depth : j.depth ≡ (thread_at (before_in c).threads e.thread).depth = c.judge-judged.ensures.depth ∙ ap (λ xs. (thread_at xs e.thread).depth) c.deref.ensures.value in
    let closes : j.closes ≡ (is_end e.what && is_last (thread_at (before_in c).threads e.thread).depth (around_at (before_in c).exempt e.thread)) = c.judge-judged.ensures.closes ∙ ap₂ (λ xs ys. is_end e.what && is_last (thread_at xs e.thread).depth (around_at ys e.thread)) c.deref.ensures.value c.deref-2.ensures.value in
    ap (λ xs. around_at xs t) table
    ∙ c.close_exempt.ensures t
    ∙ ap (λ xs. closed j.closes (j.event.thread == t) (around_at xs t)) c.deref_mut-3.ensures.value
    ∙ ap (closed j.closes (j.event.thread == t)) (room t)
    ∙ ap₂ (λ b u. closed b (u == t) (opened j.opens (u == t) j.depth (around_at (before_in c).exempt t))) closes c.judge-judged.ensures.thread
    ∙ ap₂ (λ b d. closed (is_end e.what && is_last (thread_at (before_in c).threads e.thread).depth (around_at (before_in c).exempt e.thread)) (e.thread == t) (opened b (e.thread == t) d (around_at (before_in c).exempt t))) c.judge-judged.ensures.opens depth
    ∙ changed_around (before_in c) t e.thread c.args.exempt e.what (around_at (before_in c).exempt t)

pub invariant_of-self-2 : goal.invariant_of-self-2
invariant_of-self-2 c =
    let at = (goal.at.invariant_of-self-2 c).After-close_exempt in
    bounded_after (before_in at) (noted_in at) (event_in at) (after at) c.self.invariant

pub returns-clause-ok : goal.returns-clause-ok
returns-clause-ok c h s =
    let at = (goal.at.returns-clause-ok c).After-close_exempt in
    let first = (goal.at.returns-clause-ok c).After-fault_of in
    stands_pushed (before_in at) (noted_in at) (mark first) (event_in at) (after at) (sym (told first) ∙ (grind (arith, common_steps))) c.judge-judged.ensures.thread (what_is first) (around at) h (stood first h s)

pub returns-in-Some-clause-err : goal.returns-in-Some-clause-err
returns-in-Some-clause-err c = search rules

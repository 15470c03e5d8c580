use Rattle.std.proofs.Common.{◌≡◌, ◌∷◌, [], ◌++◌, ap, ap₂, sym, ◌∙◌, refl, subst, if◌then◌else◌}
use Rattle.std.specs.Prelude.{slice_get, ◌||◌, ◌==◌}
use Rattle.std.proofs.lemmas.Bool.{or_left, or_right}
use Rattle.aero_model.specs.declared.numbered.What.TheVariants.{Write}
use Rattle.aero_engine.specs.Events.{event}
use Rattle.aero_leads.specs.Kept.{rows_in, if_any, variable_write, latest_read_in, other_reads_in, leads_to, leads_to_any, TakesAll}
use Rattle.aero_leads.specs.Standing.{state_in}
use Rattle.aero_leads.proofs.Takings.{any_still, takes_then}
use Rattle.aero_leads.proofs.Moving.{IsTaken, moves_closing, moves_passing, or_false, after_quiet}
use Rattle.aero_leads.proofs.MovingTaken.{taken_write}
use Rattle.aero_leads.proofs.kept.Kept.write.Goals as goal

pub returns-then-branch-clause-moves : goal.returns-then-branch-clause-moves
returns-then-branch-clause-moves c =
    let old = state_in c.args.self.now in
    let write : c.last_write-write.result ≡ old.write c.args.x = c.last_write-write.ensures ∙ ap (λ xs. variable_write (slice_get xs c.args.x)) c.deref.ensures.value in
    moves_closing old _ (event c.args.t (Write c.args.x)) (c.last_write-write.result ∷ old.reads c.args.x)
    (λ h stands ok. subst (λ l. IsTaken old h (event c.args.t (Write c.args.x)) (l ∷ old.reads c.args.x)) (sym write) (taken_write old c.args.t c.args.x h stands))
    (or_left _ _ (sym c.in_ok-take.ensures.closing ∙ c.if-branch.true))

pub returns-then-branch-2-clause-moves : goal.returns-then-branch-2-clause-moves
returns-then-branch-2-clause-moves c =
    let old = state_in c.args.self.now in
    let l = c.last_write-write.result in
    let write : l ≡ old.write c.args.x = c.last_write-write.ensures ∙ ap (λ xs. variable_write (slice_get xs c.args.x)) c.deref.ensures.value in
    let reads : c.other_reads-others.result.now ++ if_any c.latest_read-read.result ≡ old.reads c.args.x =
    ap₂ (λ ls l. ls ++ if_any l) (c.other_reads-others.ensures ∙ ap (λ xs. other_reads_in (slice_get xs c.args.x)) c.deref-3.ensures.value)
    (c.latest_read-read.ensures ∙ ap (λ xs. latest_read_in (slice_get xs c.args.x)) c.deref-2.ensures.value) in
    moves_closing old _ (event c.args.t (Write c.args.x)) (l ∷ old.reads c.args.x)
    (λ h stands ok. subst (λ m. IsTaken old h (event c.args.t (Write c.args.x)) (m ∷ old.reads c.args.x)) (sym write) (taken_write old c.args.t c.args.x h stands))
    (or_right (leads_to old.rows c.args.t c.args.t l) _
    (sym (any_still old.rows (rows_in c.take.new.table.threads.items) old.now c.args.t (l ∷ []) (c.in_ok-take.ensures.takes c.if-branch.false) c.args.t (old.reads c.args.x))
    ∙ ap (leads_to_any (rows_in c.take.new.table.threads.items) c.args.t c.args.t) (sym reads)
    ∙ sym c.in_ok-take_reads.ensures.closing ∙ c.if-branch-2.true))

pub returns-clause-moves : goal.returns-clause-moves
returns-clause-moves c =
    let old = state_in c.args.self.now in
    let l = c.last_write-write.result in
    let e = event c.args.t (Write c.args.x) in
    let write : l ≡ old.write c.args.x = c.last_write-write.ensures ∙ ap (λ xs. variable_write (slice_get xs c.args.x)) c.deref.ensures.value in
    let reads : c.other_reads-others.result.now ++ if_any c.latest_read-read.result ≡ old.reads c.args.x =
    ap₂ (λ ls l. ls ++ if_any l) (c.other_reads-others.ensures ∙ ap (λ xs. other_reads_in (slice_get xs c.args.x)) c.deref-3.ensures.value)
    (c.latest_read-read.ensures ∙ ap (λ xs. latest_read_in (slice_get xs c.args.x)) c.deref-2.ensures.value) in
    let taken : TakesAll old.rows (rows_in c.take.new.table.threads.items) old.now c.args.t (l ∷ []) = c.in_ok-take.ensures.takes c.if-branch.false in
    let more = c.in_ok-take_reads.ensures.takes c.if-branch-2.false in
    moves_passing old _ e (l ∷ old.reads c.args.x)
    (λ h stands ok. subst (λ m. IsTaken old h e (m ∷ old.reads c.args.x)) (sym write) (taken_write old c.args.t c.args.x h stands))
    (λ u. refl)
    (ap₂ (λ a b. a || b) (sym c.in_ok-take.ensures.closing ∙ c.if-branch.false)
    (sym (any_still old.rows (rows_in c.take.new.table.threads.items) old.now c.args.t (l ∷ []) taken c.args.t (old.reads c.args.x))
    ∙ ap (leads_to_any (rows_in c.take.new.table.threads.items) c.args.t c.args.t) (sym reads)
    ∙ sym c.in_ok-take_reads.ensures.closing ∙ c.if-branch-2.false))
    (takes_then old.rows (rows_in c.take.new.table.threads.items) (rows_in c.take_reads.new.table.threads.items) old.now c.args.t (l ∷ []) (old.reads c.args.x) (l ∷ old.reads c.args.x) taken
    (subst (TakesAll (rows_in c.take.new.table.threads.items) (rows_in c.take_reads.new.table.threads.items) old.now c.args.t) reads more)
    (λ w. ap (λ b. b || leads_to_any old.rows c.args.t w (old.reads c.args.x)) (or_false (leads_to old.rows c.args.t w l))))
    (after_quiet old _ e (λ y. refl)
    (λ y. c.in_ok-note_write.ensures.writes y ∙ ap (λ m. if y == c.args.x then m else old.write y) c.event-event.ensures)
    (λ y. c.in_ok-note_write.ensures.reads y)
    (λ m. refl) refl
    (record {
      in_block = λ u. c.take_reads.ensures.same.in_block u ∙ c.take.ensures.same.in_block u;
      begins = λ u. c.take_reads.ensures.same.begins u ∙ c.take.ensures.same.begins u;
      acted = λ u. c.take_reads.ensures.same.acted u ∙ c.take.ensures.same.acted u;
    }))

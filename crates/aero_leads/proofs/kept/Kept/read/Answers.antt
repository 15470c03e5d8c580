use Rattle.std.proofs.Common.{◌≡◌, ◌<◌, ◌∷◌, [], ◌++◌, ap, sym, ◌∙◌, refl, subst, if◌then◌else◌}
use Rattle.std.specs.Prelude.{false, slice_get, ◌||◌}
use Rattle.aero_model.specs.declared.numbered.What.TheVariants.{Read}
use Rattle.aero_engine.specs.Events.{event}
use Rattle.aero_leads.specs.declared.last.Last.{Last}
use Rattle.aero_leads.specs.Kept.{variable_write, latest_read_in, other_reads_in, is_below, AreKept}
use Rattle.aero_leads.specs.Standing.{state_in}
use Rattle.aero_leads.proofs.Moving.{IsTaken, moves_closing, moves_passing, after_reads}
use Rattle.aero_leads.proofs.MovingTaken.{taken_read}
use Rattle.aero_leads.proofs.Readings.{read_noted}
use Rattle.aero_leads.proofs.kept.Kept.read.Goals as goal

pub returns-then-branch-clause-moves : goal.returns-then-branch-clause-moves
returns-then-branch-clause-moves c =
    let old = state_in c.args.self.now in
    let write : c.last_write-write.result ≡ old.write c.args.x = c.last_write-write.ensures ∙ ap (λ xs. variable_write (slice_get xs c.args.x)) c.deref.ensures.value in
    moves_closing old _ (event c.args.t (Read c.args.x)) (c.last_write-write.result ∷ [])
    (λ h stands ok. subst (λ l. IsTaken old h (event c.args.t (Read c.args.x)) (l ∷ [])) (sym write) (taken_read old c.args.t c.args.x h stands))
    (ap (λ b. b || false) (sym c.in_ok-take.ensures.closing ∙ c.if-branch.true))

pub returns-clause-moves : goal.returns-clause-moves
returns-clause-moves c =
    let old = state_in c.args.self.now in
    let latest : c.latest_read-latest.result ≡ latest_read_in (slice_get c.args.self.now.variables.items c.args.x) = c.latest_read-latest.ensures ∙ ap (λ xs. latest_read_in (slice_get xs c.args.x)) c.deref-2.ensures.value in
    let write : c.last_write-write.result ≡ old.write c.args.x = c.last_write-write.ensures ∙ ap (λ xs. variable_write (slice_get xs c.args.x)) c.deref.ensures.value in
    moves_passing old _ (event c.args.t (Read c.args.x)) (c.last_write-write.result ∷ [])
    (λ h stands ok. subst (λ l. IsTaken old h (event c.args.t (Read c.args.x)) (l ∷ [])) (sym write) (taken_read old c.args.t c.args.x h stands))
    (λ u. refl)
    (ap (λ b. b || false) (sym c.in_ok-take.ensures.closing ∙ c.if-branch.false))
    (c.in_ok-take.ensures.takes c.if-branch.false)
    (after_reads old _ (event c.args.t (Read c.args.x)) c.in_ok-note_read.ensures.writes
    (read_noted old c.args.t c.args.x (other_reads_in (slice_get c.args.self.now.variables.items c.args.x)) (latest_read_in (slice_get c.args.self.now.variables.items c.args.x)) c.may_be_led-is_kept.result
    refl
    (λ h. subst (λ (l : Last). 0 < l.count) latest (c.may_be_led-is_kept.ensures.there h))
    (λ h ne w. ap (λ (l : Last). is_below (old.rows l.thread w) l.count) (sym latest) ∙ c.may_be_led-is_kept.ensures.unled h (λ k. ne (ap (λ (l : Last). l.thread) (sym latest) ∙ k)) w)
    _ _ _ (c.in_ok-note_read.ensures.latest ∙ c.event-event.ensures) refl
    (subst (λ u. AreKept u (other_reads_in (slice_get c.args.self.now.variables.items c.args.x) ++ (if c.may_be_led-is_kept.result then latest_read_in (slice_get c.args.self.now.variables.items c.args.x) ∷ [] else [])) (other_reads_in (slice_get c.note_read.new.variables.items c.args.x))) (ap (λ (l : Last). l.thread) c.event-event.ensures) c.in_ok-note_read.ensures.others)
    c.in_ok-note_read.ensures.same)
    (λ l. refl) refl (record { in_block = c.take.ensures.same.in_block; begins = c.take.ensures.same.begins; acted = c.take.ensures.same.acted }))

use Rattle.std.proofs.Common.{sym, arith, length, List, ◌≡◌, subst, Some, ap, ap₂, ◌∙◌, true}
use Rattle.std.specs.Prelude.{◌↔◌, slice_get}
use Rattle.aero_engine.specs.declared.slot.Slot.TheVariants.{OfThread}
use Rattle.aero_access.specs.declared.thread.Thread.{Thread}
use Rattle.aero_access.specs.Threads.{thread_begin, thread_clock, IsClosedBy}
use Rattle.aero_access.specs.Standing.{slot_at}
use Rattle.aero_access.proofs.SlotNumbers.{closes_back}
use Rattle.std.proofs.lemmas.List.{with_items_is}
use Rattle.aero_access.specs.Heeds.{AreHeeded}
use Rattle.aero_access.specs.StateWords.{clock_in, slot_in, state_in}
use Rattle.std.proofs.lemmas.Bool.{cond-false}
use Rattle.aero_access.specs.Led.{leads, block_number, led_at, slots_in}
use Rattle.aero_access.specs.Indexed.{IsIndex}
use Rattle.aero_access.proofs.Leading.{behind_leads}
use Rattle.aero_access.proofs.clocks.Clocks.absorb.Goals as goal

pub returns-clause-told : goal.returns-clause-told
returns-clause-told c = λ u.
    let told =
    subst (λ (xs : List Thread). (c.in_ok-told.told ≡ Some u) ↔ ((slot_in xs c.args.self.now.table c.args.slot ≡ OfThread u) × IsClosedBy (thread_begin (slice_get xs u)) (thread_clock (slice_get xs c.args.t))))
    c.deref_mut.ensures.value (c.in_ok-told.ensures.told u)
    in
    let back = closes_back c.args.self.now c.args.t (slot_at c.args.self.now c.args.slot) u in
    (λ e. back.0 (told.0 e), λ b. told.1 (back.1 b))

pub absorb-requires-clause-heeded : goal.absorb-requires-clause-heeded
absorb-requires-clause-heeded c = subst (λ xs. AreHeeded (state_in xs c.args.self.now.table)) (sym c.deref_mut.ensures.value) c.args.self.now.heeded

pub invariant_of-self : goal.invariant_of-self
invariant_of-self c =
    let kept : length c.absorb.new.threads ≡ c.args.self.now.threads.len = omega (arith, c.absorb.auto.threads, c.deref_mut.ensures.len) in
    record {
      few = c.args.self.now.few;
      heeded = subst (λ xs. AreHeeded (state_in xs c.absorb.new.table)) (sym (with_items_is c.args.self.now.threads c.absorb.new.threads kept)) c.absorb.ensures.heeded;
      indexed = λ unspent. absurd (cc);
    }

pub invariant_of-self-2 : goal.invariant_of-self-2
invariant_of-self-2 c =
    let kept : length c.absorb.new.threads ≡ c.args.self.now.threads.len = omega (arith, c.absorb.auto.threads, c.deref_mut.ensures.len) in
    record {
      few = c.args.self.now.few;
      heeded = subst (λ xs. AreHeeded (state_in xs c.absorb.new.table)) (sym (with_items_is c.args.self.now.threads c.absorb.new.threads kept)) c.absorb.ensures.heeded;
      indexed = λ unspent.
          subst (λ xs. IsIndex xs c.absorb.new.table c.absorb.new.index) (sym (with_items_is c.args.self.now.threads c.absorb.new.threads kept))
          (c.in_ok-told.ensures.index (subst (λ xs. IsIndex xs c.args.self.now.table c.args.self.now.index) (sym c.deref_mut.ensures.value) (c.args.self.now.indexed c.if-self.false)));
    }

pub returns-clause-led : goal.returns-clause-led
returns-clause-led c = λ behind none.
    let kept : length c.absorb.new.threads ≡ c.args.self.now.threads.len = omega (arith, c.absorb.auto.threads, c.deref_mut.ensures.len) in
    let led = behind_leads c.args.self.now c.args.t c.requires.inside c.if-self.false (slot_at c.args.self.now c.args.slot) behind in
    let same =
    ap₂ slots_in
    (c.in_ok-told.ensures.still (subst (λ xs. IsIndex xs c.args.self.now.table c.args.self.now.index) (sym c.deref_mut.ensures.value) (c.args.self.now.indexed c.if-self.false))
    (subst (λ xs. leads (block_number (led_at c.args.self.now.index c.args.t)) (clock_in xs c.args.self.now.table (slot_in xs c.args.self.now.table c.args.slot) c.args.t) ≡ true) (sym c.deref_mut.ensures.value) led))
    (ap length (with_items_is c.args.self.now.threads c.absorb.new.threads kept) ∙ c.absorb.auto.threads ∙ ap length c.deref_mut.ensures.value)
    in
    same ∙ sym (cond-false c.args.self.now.spent _ _ c.if-self.false)

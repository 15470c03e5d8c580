use Rattle.std.proofs.Common.{rules, ◌≡◌, ◌<◌, ◌≤◌, ◌-◌, length, get_or, slice_get, slice_set, Some, refl, ◌∙◌, ap, subst, arith}
use Rattle.aero_gather.proofs.Steps.{note_at}
use Rattle.std.proofs.lemmas.Option.{slice_get_read}
use Rattle.aero_gather.proofs.gather.Gather.note_missed.Goals as goal

pub returns-clause-noted : goal.returns-clause-noted
returns-clause-noted c =
    let slots = c.self.inside.slots.items in
    let m = c.self.inside.tally.asked - length slots in
    let k = c.args.ticket.number in
    let len_is : c.len.result ≡ length slots = search rules in
    let gone : c.self.inside.tally.asked - c.len.result ≡ m = ap (λ n. c.self.inside.tally.asked - n) len_is in
    let le : m ≤ k = omega (arith, gone, c.if-ticket-settled.false) in
    let less : k - m < length slots = omega (arith, c.self.invariant.gathered.open_were_asked, c.if-self-ticket.false) in
    let slot = c.index_mut.result.now in
    let there : slice_get slots (k - m) ≡ Some slot =
    slice_get_read slots (length slots) (k - m) slot refl less (subst (λ n. slot ≡ get_or slots (k - n) slot) gone c.index_mut.ensures.value) in
    rw (← c.self.view_is) (ap (λ es. record { window = c.self.inside.window; entries = es; tally = c.self.inside.tally })
    (ap (λ x. slice_set slots (k - x) c.miss.new.slot) gone ∙ ap (λ x. slice_set slots (k - m) x) c.miss.ensures.noted ∙ note_at m k slots slot le there))

use Rattle.std.proofs.Common.{◌<◌, length, sym, ap, ◌∙◌, subst}
use Rattle.std.specs.Prelude.{slice_get}
use Rattle.aero_access.specs.Led.{led_at, slots_in}
use Rattle.aero_access.proofs.Leading.{led_unspent, listed_unspent}
use Rattle.aero_access.proofs.clocks.Clocks.led_slot.Goals as goal

pub led_slot-requires-clause-within : goal.led_slot-requires-clause-within
led_slot-requires-clause-within c =
    let same = led_unspent c.args.self.now c.args.t (listed_unspent c.args.self.now c.args.t c.args.i c.requires.within) ∙ ap (slots_in (led_at c.args.self.now.index c.args.t)) (sym (c.len.ensures ∙ c.args.self.now.threads.ok.0)) in
    subst (λ xs. c.args.i < length xs) same c.requires.within

pub returns : goal.returns
returns c =
    let same = led_unspent c.args.self.now c.args.t (listed_unspent c.args.self.now c.args.t c.args.i c.requires.within) ∙ ap (slots_in (led_at c.args.self.now.index c.args.t)) (sym (c.len.ensures ∙ c.args.self.now.threads.ok.0)) in
    ap (λ xs. slice_get xs c.args.i) same ∙ c.led_slot.ensures

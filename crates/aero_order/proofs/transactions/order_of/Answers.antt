use Rattle.std.proofs.Common.{◌≡◌, ◌<◌, length, map, refl, sym, ◌∙◌, ap, subst, arith}
use Rattle.std.specs.Prelude.{All}
use Rattle.std.proofs.lemmas.List.{length-map}
use Rattle.aero_model.specs.Serial.{IsSerialOrder}
use Rattle.aero_order.specs.declared.first.First.{First}
use Rattle.aero_order.specs.Came.{places_in, first_of, IsOf}
use Rattle.aero_order.specs.Order.{IsOrder}
use Rattle.aero_order.specs.Waiting.{Pair}
use Rattle.aero_order.proofs.Found.{places_found, found_are_of}
use Rattle.aero_order.proofs.Lengths.{follows_order}
use Rattle.aero_order.proofs.Orders.{edges_within, in_serial_order, no_cycle_where_long, long_where_no_cycle}
use Rattle.aero_order.proofs.transactions.order_of.Goals as goal

pub least_order-requires : goal.least_order-requires
least_order-requires c =
    let r = c.requires.stands in
    subst (λ n. All (λ (e : Pair). (e.0 < n) × (e.1 < n)) c.args.edges.now) (length-map c.args.firsts.now (λ (f : First). f.place)) (edges_within r.0 (places_in c.args.firsts.now) c.args.edges.now r.2)

pub returns-then-len-firsts-clause-exact : goal.returns-then-len-firsts-clause-exact
returns-then-len-firsts-clause-exact c = λ trace ok are leads.
    let short = c.if-len-firsts.true in
    let firsts = places_in c.args.firsts.now in
    let many : length firsts ≡ length c.args.firsts.now = length-map c.args.firsts.now (λ (f : First). f.place) in
    let order = subst (λ n. IsOrder n c.args.edges.now c.in_ok-order.order.items) (sym many) c.in_ok-order.ensures in
    ((λ some. absurd (cc)), λ none. absurd (omega (arith, short, many, c.len.ensures, long_where_no_cycle trace ok firsts are c.args.edges.now leads c.in_ok-order.order.items order none)))

pub returns-clause-exact : goal.returns-clause-exact
returns-clause-exact c = λ trace ok are leads.
    let firsts = places_in c.args.firsts.now in
    let many : length firsts ≡ length c.args.firsts.now = length-map c.args.firsts.now (λ (f : First). f.place) in
    let order = subst (λ n. IsOrder n c.args.edges.now c.in_ok-order.order.items) (sym many) c.in_ok-order.ensures in
    ((λ some. no_cycle_where_long trace ok firsts are c.args.edges.now leads c.in_ok-order.order.items order (omega (arith, many, c.if-len-firsts.false, c.in_ok-order.order.ok))), λ none. refl)

pub returns-clause-serial : goal.returns-clause-serial
returns-clause-serial c = λ trace ok are leads.
    let firsts = places_in c.args.firsts.now in
    let many : length firsts ≡ length c.args.firsts.now = length-map c.args.firsts.now (λ (f : First). f.place) in
    let numbers = c.in_ok-order.order.items in
    let order = subst (λ n. IsOrder n c.args.edges.now numbers) (sym many) c.in_ok-order.ensures in
    let h = in_serial_order trace ok firsts are c.args.edges.now leads numbers order in
    subst (IsSerialOrder trace) (sym (ap places_in (c.in_ok-look_up.ensures ∙ ap (map (first_of c.args.firsts.now)) c.deref.ensures.value) ∙ places_found c.args.firsts.now numbers)) h

pub returns-clause-kept : goal.returns-clause-kept
returns-clause-kept c = λ came are.
    let numbers = c.in_ok-order.order.items in
    subst (All (IsOf came)) (sym (c.in_ok-look_up.ensures ∙ ap (map (first_of c.args.firsts.now)) c.deref.ensures.value))
    (found_are_of c.args.firsts.now came are numbers (follows_order (length c.args.firsts.now) c.args.edges.now numbers c.in_ok-order.ensures).below)

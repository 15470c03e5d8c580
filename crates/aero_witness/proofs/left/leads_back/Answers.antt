use Rattle.std.proofs.Common.{◌≡◌, ◌+◌, ◌<◌, ◌≤◌, ℕ, List, inl, inr, take, get_or, sym, ap, subst}
use Rattle.std.specs.Prelude.{Contains}
use Rattle.std.proofs.lemmas.List.{take_more, take_all}
use Rattle.std.proofs.lemmas.List.Elements.{Contains-push_cases, Contains-get_or}
use Rattle.std.proofs.lemmas.Option.{slice_get-get_or}
use Rattle.aero_model.specs.declared.numbered.Numbered.{Numbered}
use Rattle.aero_model.specs.declared.numbered.What.TheVariants.{Read}
use Rattle.aero_witness.specs.Kinds.{source_number, of_event, sources}
use Rattle.aero_witness.specs.Buckets.{head_of}
use Rattle.aero_witness.specs.Left.{bucket_of}
use Rattle.aero_witness.proofs.Leading.{some_leads, none_leads}
use Rattle.aero_witness.proofs.left.leads_back.Goals as goal

abbrev any : Numbered
any = record { thread = 0; what = Read 0 }

pub loop-place-preserved : goal.loop-place-preserved
loop-place-preserved c i k h =
    let trace = c.args.events.now in
    let front = c.args.front.now in
    let at = c.loop-place.place-index in
    let place = get_or front at 0 in
    let l = c.loop-place-test.true in
    elim (Contains-push_cases (take at front) place i (subst (λ (xs : List ℕ). Contains xs i) (take_more front at 0 l) h)) [
      | inl was ↦ c.loop-place.invariant i k was
      | inr same ↦
          let source : sources trace k place ≡ source_number k (get_or trace place any) = ap (of_event (source_number k)) (slice_get-get_or trace place any (c.requires.within at 0 l)) in
          subst (λ j. head_of (bucket_of c.args.left.now k).origins.items (sources trace k j) ≤ j + 1) same (subst (λ o. head_of (bucket_of c.args.left.now k).origins.items o ≤ place + 1) (sym source) (none_leads c.args.left.now c.requires.kinds (get_or trace place any) place (sym c.if-event_leads_back.ensures) k))
    ]

pub returns-then-event_leads_back-clause-some : goal.returns-then-event_leads_back-clause-some
returns-then-event_leads_back-clause-some c e =
    let trace = c.args.events.now in
    let front = c.args.front.now in
    let at = c.loop-place.place-index in
    let place = get_or front at 0 in
    let l = c.loop-place-test.true in
    let some = some_leads c.args.left.now c.requires.kinds (get_or trace place any) place (sym c.if-event_leads_back.ensures) in
    let k = some.0 in
    let source : sources trace k place ≡ source_number k (get_or trace place any) = ap (of_event (source_number k)) (slice_get-get_or trace place any (c.requires.within at 0 l)) in
    (place, k, Contains-get_or front at 0 l, subst (λ o. place + 1 < head_of (bucket_of c.args.left.now k).origins.items o) (sym source) some.1)

pub returns-clause-none : goal.returns-clause-none
returns-clause-none c e i k h =
    let front = c.args.front.now in
    c.loop-place.invariant i k (subst (λ (xs : List ℕ). Contains xs i) (sym {A = List ℕ} (take_all c.loop-place.place-index front c.loop-place-test.false)) h)

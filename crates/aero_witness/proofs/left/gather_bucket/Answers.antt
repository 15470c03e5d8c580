use Rattle.std.proofs.Common.{◌≡◌, ℕ, List, ◌∷◌, [], length, take, get_or, sym, ◌∙◌, ap, subst}
use Rattle.std.proofs.lemmas.List.{take_more}
use Rattle.std.proofs.lemmas.Option.{slice_get-get_or}
use Rattle.aero_model.specs.declared.numbered.Numbered.{Numbered}
use Rattle.aero_model.specs.declared.numbered.What.TheVariants.{Read}
use Rattle.aero_witness.specs.declared.kinds.Kind.{Kind}
use Rattle.aero_witness.specs.Kinds.{source_number, of_event, sources}
use Rattle.aero_witness.specs.Buckets.{AreHeads, AreDrawn}
use Rattle.aero_witness.proofs.Drawing.{still_but, still_bucket, more_drawn}
use Rattle.aero_witness.proofs.left.gather_bucket.Goals as goal

abbrev any : Numbered
any = record { thread = 0; what = Read 0 }

pub loop-place-preserved : goal.loop-place-preserved
loop-place-preserved c =
    let trace = c.args.events.now in
    let front = c.args.front.now in
    let old = c.args.bucket.now in
    let cur = c.loop-place.bucket in
    let new = c.take.new.bucket in
    let arrivals = c.args.arrivals.now.items in
    let arrivals' = c.loop-place.arrivals.items in
    let arrivals'' = c.take.new.arrivals.items in
    let at = c.loop-place.place-index in
    let place = get_or front at 0 in
    let inv = c.loop-place.invariant in
    let s = sources trace old.kind in
    let source : s place ≡ c.source_number-number.result =
    ap (of_event (source_number old.kind)) (slice_get-get_or trace place any (c.requires.within at 0 c.loop-place-test.true)) ∙ ap (λ (k : Kind). source_number k (get_or trace place any)) (sym {A = Kind} inv.same.kind) ∙ sym c.source_number-number.ensures in
    record {
      same = still_but old cur new inv.same c.in_ok-take.ensures.same;
      drawn = λ outer is. (let t = outer old.kind in
          let was = inv.drawn outer is in
          let bucket = still_bucket trace outer old.kind old cur is inv.same was.are in
          let drawn : AreDrawn s t (place ∷ []) (length trace) cur.heads.items new.heads.items arrivals' arrivals'' =
          subst (λ n. AreDrawn s t (place ∷ []) n cur.heads.items new.heads.items arrivals' arrivals'') bucket.each (c.in_ok-take.ensures.drawn s t source bucket.links (subst (λ n. AreHeads t n cur.heads.items) (sym bucket.each) bucket.heads)) in
          subst (λ (xs : List ℕ). AreDrawn s t xs (length trace) old.heads.items new.heads.items arrivals arrivals'') (sym {A = List ℕ} (take_more front at 0 c.loop-place-test.true)) (more_drawn s t (length trace) (take at front) place old.heads.items cur.heads.items new.heads.items arrivals arrivals' arrivals'' was drawn));
    }

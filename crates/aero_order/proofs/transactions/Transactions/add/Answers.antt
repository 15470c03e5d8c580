use Rattle.std.proofs.Common.{◌≡◌, ◌++◌, ◌∷◌, ◌==◌, [], length, None, Some, Result, Ok, Err, if◌then◌else◌, refl, sym, ◌∙◌, ap, subst, arith}
use Rattle.std.specs.Prelude.{nat_lt, OnOk}
use Rattle.std.proofs.lemmas.Bool.{cond-true, cond-false}
use Rattle.std.proofs.lemmas.List.{length_push}
use Rattle.aero_model.specs.Blocks.{depth}
use Rattle.aero_order.specs.Came.{places_in}
use Rattle.aero_order.specs.LastNumbers.{AreLinked}
use Rattle.aero_order.specs.MarkWords.{kept_of, reads_of, own_of}
use Rattle.aero_order.specs.Numbering.{IsNumbered}
use Rattle.aero_order.proofs.Adding.{is_inside, add_event, keeps_as}
use Rattle.aero_order.proofs.Found.{numbered_places, of_more}
use Rattle.aero_order.proofs.Judged.{slot_same, looks_same, reads_same}
use Rattle.aero_order.proofs.transactions.Transactions.add.Goals as goal
use Rattle.aero_order.proofs.transactions.Transactions.add.Goals.{then-inside, else-inside}

-- three facts of a result that is Ok give a fourth
on_ok : {T E : Type 0} (A B C D : Type 0) (r : Result T E) → (A → B → C → D) → OnOk r A → OnOk r B → OnOk r C → OnOk r D
on_ok A B C D (Ok x) f a b c = f a b c
on_ok A B C D (Err e) f a b c = tt

pub returns-clause-stands : goal.returns-clause-stands
returns-clause-stands c = on_ok _ _ _ _ c.note.result (λ slots reads own trace judged is within stands.
    let e = c.args.event.now in
    let old = c.args.self.now in
    let inside : c.args.inside ≡ is_inside trace judged = within ∙ ap (λ t. nat_lt 0 (depth trace t (length trace))) (sym is.thread) in
    let read : c.if-inside.known ≡ (if c.args.inside then own_of old.marks e.thread else None) =
    elim c.if-inside.branch [
      | then-inside w ↦ w.known-is ∙ w.own-known.ensures ∙ sym (cond-true c.args.inside (own_of old.marks e.thread) None w.if-inside.true)
      | else-inside w ↦ w.known-is ∙ sym (cond-false c.args.inside (own_of old.marks e.thread) None w.if-inside.false)
    ]
    in
    let known : c.if-inside.known ≡ (if c.args.inside then own_of old.marks judged.thread else None) =
    read ∙ ap (λ t. if c.args.inside then own_of old.marks t else None) (sym is.thread) in
    let firsts = places_in old.firsts.items in
    let longer = places_in c.number_of.new.firsts.items in
    let v = c.in_ok-number.number in
    let numbered : IsNumbered c.if-inside.known (length trace) firsts longer v =
    subst (λ n. IsNumbered c.if-inside.known n firsts longer v) stands.events
    (numbered_places c.if-inside.known (record { place = old.events; line = c.args.line; thread = e.thread }) old.firsts.items c.number_of.new.firsts.items v c.in_ok-number.ensures.numbered) in
    let a = add_event trace judged firsts old.edges.items (kept_of old.marks) (reads_of old.marks) (own_of old.marks) stands.firsts stands.edges stands.keeps c.args.inside inside c.if-inside.known known longer v numbered in
    let linked = subst (λ us. AreLinked old.edges.items v us c.look_back.new.edges.items) (sym (looks_same e judged is (kept_of old.marks) (reads_of old.marks) (own_of old.marks))) c.in_ok-look_back.ensures in
    record {
      events = omega (arith, stands.events, length_push trace judged);
      firsts = a.numbered;
      edges = a.linked _ linked;
      keeps = keeps_as (trace ++ judged ∷ []) longer _ (kept_of c.note.new.self) (reads_of c.note.new.self) _ (own_of c.note.new.self)
          (a.noted (reads_of c.note.new.self) (reads_same e judged is v (reads_of old.marks) (reads_of c.note.new.self) reads))
          (λ s part. slots s part ∙ ap (λ b. if b then Some v else kept_of old.marks s) (sym (slot_same e judged is s)))
          (λ t. own t ∙ ap (λ u. if u == t then Some v else own_of old.marks t) (sym is.thread));
    }) c.note.ensures.slots c.note.ensures.reads c.note.ensures.own

pub returns-clause-kept : goal.returns-clause-kept
returns-clause-kept c = λ came keeps.
    let old = c.args.self.now in
    let e = c.args.event.now in
    record {
      events = omega (arith, keeps.events, length_push came (record { line = c.args.line; thread = e.thread }));
      firsts = of_more c.if-inside.known (record { place = old.events; line = c.args.line; thread = e.thread }) old.firsts.items c.number_of.new.firsts.items c.in_ok-number.number came c.in_ok-number.ensures.numbered keeps.events keeps.firsts;
    }

pub returns-in_err-look_back-clause-kept : goal.returns-in_err-look_back-clause-kept
returns-in_err-look_back-clause-kept c = λ came keeps.
    let old = c.args.self.now in
    let e = c.args.event.now in
    record {
      events = omega (arith, keeps.events, length_push came (record { line = c.args.line; thread = e.thread }));
      firsts = of_more c.if-inside.known (record { place = old.events; line = c.args.line; thread = e.thread }) old.firsts.items c.number_of.new.firsts.items c.in_ok-number.number came c.in_ok-number.ensures.numbered keeps.events keeps.firsts;
    }

pub returns-in_err-number-clause-kept : goal.returns-in_err-number-clause-kept
returns-in_err-number-clause-kept c = λ came keeps.
    let old = c.args.self.now in
    let e = c.args.event.now in
    record {
      events = omega (arith, keeps.events, length_push came (record { line = c.args.line; thread = e.thread }));
      firsts = of_more (Some 0) (record { place = old.events; line = c.args.line; thread = e.thread }) old.firsts.items c.number_of.new.firsts.items 0 came (refl, c.in_err-number.ensures.refused) keeps.events keeps.firsts;
    }

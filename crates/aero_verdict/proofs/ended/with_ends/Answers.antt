use Rattle.std.proofs.Common.{◌≡◌, ℕ, ◌+◌, ◌<◌, ◌++◌, ◌∷◌, [], Vec, Global, List, length, replicate, Option, Some, None, if◌then◌else◌, ◌==◌, sym, ◌∙◌, ap, ap₂, subst, append-nil}
use Rattle.std.specs.Prelude.{slice_index_or}
use Rattle.std.proofs.lemmas.List.{with_items_is}
use Rattle.aero_model.specs.declared.numbered.Numbered.{Numbered}
use Rattle.aero_verdict.specs.Ending.{AreEnded, an_end, blocks_after, ends_for, joined_by}
use Rattle.aero_verdict.proofs.Chunks.{EndsSoFar, ends_passed, ends_more}
use Rattle.aero_verdict.proofs.ended.with_ends.Goals as goal
use Rattle.aero_verdict.proofs.ended.with_ends.Goals.{in-Some+in_ok-push_ends, in_default}

pub loop-event-preserved-then-line-most : goal.loop-event-preserved-then-line-most
loop-event-preserved-then-line-most c =
    ends_passed c.args.counts.items c.args.events.now c.args.most c.loop-event.event-index c.loop-event.ended.items c.loop-event.counts.items c.loop-event.invariant c.loop-event-test.true
    c.parts-line.result c.event-item.result (c.parts-line.ensures ∙ c.event-item.is) c.if-line-most.true

pub loop-event-preserved : goal.loop-event-preserved
loop-event-preserved c =
    let item : ℕ × Numbered = c.parts-line.result in
    let was : List ℕ = c.loop-event.counts.items in
    let mid : List ℕ = c.match-joined_by.counts.items in
    let joined : (c.match-joined_by.ended.items ≡ c.loop-event.ended.items ++ ends_for was item.0 (joined_by item.1)) × AreEnded was mid (joined_by item.1) × (length mid ≡ length was) =
    elim c.match-joined_by.branch [
      | in-Some+in_ok-push_ends w ↦
          let u : ℕ = w.in-Some.joined in
          let told : joined_by item.1 ≡ Some u = sym c.joined_by.ensures ∙ w.in-Some.is in
          let mid_is : mid ≡ w.put.new.counts = ap (λ (v : Vec ℕ Global). v.items) w.counts-is ∙ with_items_is c.loop-event.counts w.put.new.counts (w.put.auto.counts ∙ w.deref_mut.ensures.len) in (
            ap (λ (v : Vec (ℕ × Numbered) Global). v.items) w.ended-is ∙ w.in_ok-push_ends.ensures
                ∙ ap (λ (k : ℕ). c.loop-event.ended.items ++ replicate k (item.0, an_end u)) (w.blocks_of.ensures ∙ ap (λ (xs : List ℕ). slice_index_or xs u 0) w.deref.ensures.value)
                ∙ ap (λ (o : Option ℕ). c.loop-event.ended.items ++ ends_for was item.0 o) (sym told),
            subst (λ (o : Option ℕ). AreEnded was mid o) (sym told) (λ less n.
                ap (λ (xs : List ℕ). slice_index_or xs n 0) mid_is
                ∙ w.put.ensures (subst (λ (xs : List ℕ). u < length xs) (sym w.deref_mut.ensures.value) less) n
                ∙ ap (λ (xs : List ℕ). if u == n then 0 else slice_index_or xs n 0) w.deref_mut.ensures.value),
            ap (λ (xs : List ℕ). length xs) mid_is ∙ w.put.auto.counts ∙ ap (λ (xs : List ℕ). length xs) w.deref_mut.ensures.value,
          )
      | in_default w ↦
          let none : joined_by item.1 ≡ None = sym c.joined_by.ensures ∙ w.in_default.is in
          let mid_is : mid ≡ was = ap (λ (v : Vec ℕ Global). v.items) w.counts-is in (
            ap (λ (v : Vec (ℕ × Numbered) Global). v.items) w.ended-is ∙ sym (append-nil c.loop-event.ended.items)
                ∙ ap (λ (o : Option ℕ). c.loop-event.ended.items ++ ends_for was item.0 o) (sym none),
            subst (λ (o : Option ℕ). AreEnded was mid o) (sym none) (λ n. ap (λ (xs : List ℕ). slice_index_or xs n 0) mid_is),
            ap (λ (xs : List ℕ). length xs) mid_is,
          )
    ] in
    let blocks =
    c.in_ok-blocks.ensures ∙ ap (blocks_after item.1.what) (c.blocks_of-in-loop-event.ensures ∙ ap (λ (xs : List ℕ). slice_index_or xs item.1.thread 0) c.deref-in-loop-event.ensures.value) in
    subst (EndsSoFar c.args.counts.items c.args.events.now c.args.most (c.loop-event.event-index + 1) c.push.new.self.items)
    (sym (with_items_is c.match-joined_by.counts c.put-in-loop-event.new.counts (c.put-in-loop-event.auto.counts ∙ c.deref_mut-in-loop-event.ensures.len)))
    (ends_more c.args.counts.items c.args.events.now c.args.most c.loop-event.event-index c.loop-event.ended.items c.loop-event.counts.items c.loop-event.invariant c.loop-event-test.true
    item c.event-item.result (c.parts-line.ensures ∙ c.event-item.is) c.if-line-most.false c.push.new.self.items
    (c.in_ok-push.ensures.items ∙ ap₂ (λ es e. es ++ e ∷ []) joined.0 c.new.ensures)
    mid c.put-in-loop-event.new.counts joined.1 joined.2
    (λ less n.
    c.put-in-loop-event.ensures (subst (λ (xs : List ℕ). item.1.thread < length xs) (sym c.deref_mut-in-loop-event.ensures.value) less) n
    ∙ ap₂ (λ (b : ℕ) (xs : List ℕ). if item.1.thread == n then b else slice_index_or xs n 0) blocks c.deref_mut-in-loop-event.ensures.value)
    (c.put-in-loop-event.auto.counts ∙ ap (λ (xs : List ℕ). length xs) c.deref_mut-in-loop-event.ensures.value))

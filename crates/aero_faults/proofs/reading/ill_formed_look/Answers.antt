use Rattle.std.proofs.Common.{◌≡◌, ◌∙◌, ◌-◌, ℕ, List, Option, IfSome, Ok, ap, subst, sym, arith}
use Rattle.aero_grammar.specs.Meaning.{Means, TellsMeaning, meaning}
use Rattle.std.specs.Io.Buffered.{reader_remaining}
use Rattle.aero_faults.specs.Looks.{AreSeen, IsSameSearch}
use Rattle.aero_faults.proofs.Looking.{buffered, event_behind}
use Rattle.aero_faults.proofs.reading.ill_formed_look.Goals as goal

pub returns : goal.returns
returns g c =
    let known = g.R.Read.remaining in
    let start = reader_remaining known c.new-lines.result.inner in
    let mid = reader_remaining known c.into_inner.result in
    let passed = reader_remaining known c.see_lines.new.lines.inner in
    let n = c.args.number - 1 in
    let same : IsSameSearch c.new-search.result c.in-Some-2.search = subst (λ o. IfSome o (λ s. IsSameSearch c.new-search.result s)) c.in-Some-2.is c.in_ok-search.ensures.same in
    let seen : AreSeen start passed n c.in-Some-2.search = subst (λ o. IfSome o (λ s. AreSeen start passed n s)) c.in-Some-2.is c.in_ok-search.ensures.seen in
    let some = c.requires in
    let means : meaning c.args.line.now ≡ Means c.in-Some.event = subst (λ o. TellsMeaning (Ok o) (meaning c.args.line.now)) c.in-Some.is c.in-Ok.ensures in
    event_behind (known c.args.reader) start mid n c.args.number c.args.line.now c.in-Some.event c.args.fault c.in-Some-2.search c.look_of.result
    (ap (reader_remaining known) c.new-lines.ensures
    ∙ buffered known c.in_ok-buffered.buffered c.args.reader c.in_ok-buffered.ensures.capacity c.in_ok-buffered.ensures.empty c.in_ok-buffered.ensures.inner)
    (subst (λ (l : Option (List ℕ)). AreSeen start l n c.in-Some-2.search) (ap (reader_remaining known) (sym c.into_inner.ensures)) seen) (omega (arith, some)) (c.in_ok-is_next.ensures c.if-not-branch.false) means
    (same.event ∙ c.new-search.ensures.event) (same.fault ∙ c.new-search.ensures.fault) c.look_of.ensures

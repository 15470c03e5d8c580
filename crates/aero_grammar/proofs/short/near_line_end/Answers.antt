use Rattle.std.proofs.Common.{◌≡◌, ◌==◌, ◌+◌, ℕ, take, drop, ap, sym, ◌∙◌, arith}
use Rattle.std.specs.List.{position_or_len}
use Rattle.aero_grammar.proofs.LinesRead.{first_in_front, first_behind}
use Rattle.aero_grammar.proofs.short.near_line_end.Goals as goal

pub returns-then-end-lt-LANES : goal.returns-then-end-lt-LANES
returns-then-end-lt-LANES c =
    let is_end = λ (b : ℕ). b == 10 in
    let here : c.place_in-end.result ≡ position_or_len is_end (take 32 c.args.text.now) = c.place_in-end.ensures.place in
    here ∙ sym (first_in_front is_end c.args.text.now 32 32 (omega (arith, c.requires)) (omega (arith, here, c.if-end-lt-LANES.true)))

pub returns : goal.returns
returns c =
    let is_end = λ (b : ℕ). b == 10 in
    let here : c.place_in-end.result ≡ position_or_len is_end (take 32 c.args.text.now) = c.place_in-end.ensures.place in
    let behind : c.place_in.result ≡ position_or_len is_end (take 32 (drop 32 c.args.text.now)) = c.place_in.ensures.place in
    ap (λ k. 32 + k) behind ∙ sym (first_behind is_end c.args.text.now 32 32 (omega (arith, c.requires)) (omega (arith, here, c.place_in-end.ensures.within, c.if-end-lt-LANES.false)))

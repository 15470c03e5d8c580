use Rattle.std.proofs.Common.{◌≡◌, ◌==◌, take, drop, min, arith, sym, ap, ◌∙◌, if◌then◌else◌}
use Rattle.std.specs.Int.{w64, trailing_zeros}
use Rattle.std.specs.List.{position_or_len}
use Rattle.std.proofs.lemmas.Simd.{first_set_mask_l, length-chunk}
use Rattle.std.proofs.lemmas.List.{length-drop}
use Rattle.aero_grammar.proofs.CommonShape.{place_among}
use Rattle.aero_grammar.proofs.short.place_in.Goals as goal

pub returns-clause-place : goal.returns-clause-place
returns-clause-place c =
    let behind = drop c.args.at c.args.text.now in
    let long = length-chunk c.args.at 32 c.args.text.now c.requires.lanes in
    let first : c.first_set.result ≡ position_or_len (λ b. b == c.args.sought) (take 32 behind) =
    c.first_set.ensures ∙ ap (λ m. if m == 0 then 32 else trailing_zeros w64 m) c.places_of-found.ensures
    ∙ first_set_mask_l (λ b. b == c.args.sought) (take 32 behind) 32 long (omega arith) in
    c.min.ensures ∙ ap (λ k. min k c.args.limit) first
    ∙ sym (place_among (λ b. b == c.args.sought) c.args.limit 32 behind c.requires.near (omega (arith, c.requires.lanes, length-drop c.args.at c.args.text.now)))

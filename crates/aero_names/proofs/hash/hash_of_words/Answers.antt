use Rattle.std.proofs.Common.{◌∙◌, ap, ap₂, refl}
use Rattle.std.specs.Int.{w64, from_le_bytes}
use Rattle.aero_names.specs.Hash.{mixed, hash_from, mixed_again}
use Rattle.aero_names.proofs.Hashes.{one_word, last_word}
use Rattle.aero_names.proofs.hash.hash_of_words.Goals as goal

pub loop-word-preserved : goal.loop-word-preserved
loop-word-preserved c =
    let front = c.in-Some.ensures.cases.0 in
    let back = c.in-Some.ensures.cases.1 in
    ap₂ hash_from (c.mixed-hash.ensures ∙ ap (mixed c.loop-word.hash) (c.from_le_bytes.ensures ∙ ap (from_le_bytes w64) front)) back
    ∙ (one_word c.loop-word.hash c.loop-word.rest.now (c.in-Some.ensures.variant.0 refl) ∙ c.loop-word.invariant)

pub returns : goal.returns
returns c =
    let short = c.in_default.ensures.cases in
    let last = c.mixed.ensures ∙ (ap (mixed c.loop-word.hash) c.short_word.ensures ∙ (last_word c.loop-word.hash c.loop-word.rest.now short ∙ c.loop-word.invariant)) in
    c.mixed_again.ensures ∙ ap mixed_again last

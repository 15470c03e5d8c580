use Rattle.std.proofs.Common.{◌≡◌, map, string_bytes, take, vec_len}
use Rattle.aero_words.proofs.words.owned.Given as goal

-- the copies so far
abbrev pub invariant-loop-text : goal.invariant-loop-text
invariant-loop-text l = (map string_bytes l.all.items ≡ map (λ text. text.now) (take l.text-index l.fn.texts)) × (vec_len l.all ≡ l.text-index)

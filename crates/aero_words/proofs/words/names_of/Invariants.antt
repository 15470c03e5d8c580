use Rattle.std.proofs.Common.{◌≡◌, map, take}
use Rattle.aero_words.proofs.words.names_of.Given as goal

-- the labels so far
abbrev pub invariant-loop-text : goal.invariant-loop-text
invariant-loop-text l = l.labels.items ≡ map (λ text. text.now) (take l.text-index l.fn.texts)

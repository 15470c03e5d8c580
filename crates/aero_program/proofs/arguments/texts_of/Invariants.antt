use Rattle.std.proofs.Common.{◌≡◌, map, take, true}
use Rattle.std.specs.List.{list_all}
use Rattle.std.specs.Prelude.{string_bytes}
use Rattle.std.specs.Str.{is_utf8}
use Rattle.aero_program.proofs.arguments.texts_of.Given as goal

-- the texts so far, and that the words so far are texts
abbrev pub invariant-loop-word : goal.invariant-loop-word
invariant-loop-word l = record {
  texts : map string_bytes l.texts.items ≡ map (λ word. word.items) (take l.word-index l.words);
  sound : list_all is_utf8 (map (λ word. word.items) (take l.word-index l.words)) ≡ true;
}

-- The definitions at runs that are known from elsewhere: what each feed gives, and then the end.
use Rattle.std.proofs.Common.{◌≡◌, ℕ, List, [], ◌∷◌, ◌++◌, Option, Some, None, refl}
use Rattle.std.specs.Prelude.{replicate, codes}
use Rattle.aero_lines.specs.Cutting.{Cutting, nothing_yet, fed, block_of, last_block}

abbrev answers_from : Cutting → List (List ℕ) → List (Option (List ℕ))
answers_from c [] = last_block c ∷ []
answers_from c (piece ∷ pieces) = block_of c piece ∷ answers_from (fed c piece) pieces

abbrev answers : List (List ℕ) → List (Option (List ℕ))
answers pieces = answers_from nothing_yet pieces

line_across_pieces : answers (codes "ab" ∷ (codes "c" ++ 10 ∷ codes "d") ∷ []) ≡ None ∷ Some (codes "abc" ++ 10 ∷ []) ∷ Some (codes "d") ∷ []
unfolding fed block_of last_block
line_across_pieces = refl

two_lines_at_once : answers ((codes "a" ++ 10 ∷ codes "b" ++ 10 ∷ []) ∷ []) ≡ Some (codes "a" ++ 10 ∷ codes "b" ++ 10 ∷ []) ∷ None ∷ []
unfolding fed block_of last_block
two_lines_at_once = refl

empty_piece : answers ([] ∷ (10 ∷ []) ∷ []) ≡ None ∷ Some (10 ∷ []) ∷ None ∷ []
unfolding fed block_of last_block
empty_piece = refl

long_line : answers ((120 ∷ 10 ∷ replicate 5000 97) ∷ (10 ∷ 121 ∷ 10 ∷ []) ∷ []) ≡ Some (120 ∷ 10 ∷ replicate 4097 97) ∷ None ∷ None ∷ []
unfolding fed block_of last_block
long_line = refl

longest_line : answers (replicate 4096 97 ∷ (10 ∷ []) ∷ []) ≡ None ∷ Some (replicate 4096 97 ++ 10 ∷ []) ∷ None ∷ []
unfolding fed block_of last_block
longest_line = refl

one_byte_more : answers (replicate 4096 97 ∷ (97 ∷ []) ∷ []) ≡ None ∷ Some (replicate 4097 97) ∷ None ∷ []
unfolding fed block_of last_block
one_byte_more = refl

longest_last_line : answers (replicate 4096 97 ∷ []) ≡ None ∷ Some (replicate 4096 97) ∷ []
unfolding fed block_of last_block
longest_last_line = refl

-- A part of a list that rises.
use Rattle.std.proofs.Common.{ℕ, ◌<◌, List, All}
use Rattle.std.proofs.lemmas.List.Elements.{All-cons, All-head, All-tail}
use Rattle.aero_pieces.specs.Invariants.{IsSubsequence, done, same, other}
use Rattle.aero_worker.specs.Laws.{Rises}

all_part : (P : ℕ → Type 0) (xs ys : List ℕ) → IsSubsequence xs ys → All P ys → All P xs
all_part P _ _ done a = a
all_part P _ _ (same x xs ys s) a = All-cons P x xs (All-head P x ys a) (all_part P xs ys s (All-tail P x ys a))
all_part P _ _ (other y xs ys s) a = all_part P xs ys s (All-tail P y ys a)

pub rising_part : (xs ys : List ℕ) → IsSubsequence xs ys → Rises ys → Rises xs
rising_part _ _ done r = r
rising_part _ _ (same x xs ys s) r = (all_part (λ y. x < y) xs ys s r.0, rising_part xs ys s r.1)
rising_part _ _ (other y xs ys s) r = rising_part xs ys s r.1

-- Which word is the first that isn't UTF-8.
use Rattle.std.proofs.Common.{◌≡◌, ◌∙◌, ◌<◌, ℕ, zero, suc, List, [], ◌∷◌, ◌++◌, take, drop, length, get_or, map, Err, true, ap, sym, refl, arith}
use Rattle.std.specs.List.{list_all}
use Rattle.std.specs.Str.{is_utf8}
use Rattle.aero_program.specs.declared.arguments.Unread.{Unread}
use Rattle.aero_program.specs.declared.arguments.Unread.TheVariants.{NotUtf8, Memory}
use Rattle.aero_program.specs.Arguments.{IsOdd, IsUnread, IsWordOf}

-- the items of a list before a place, at it and behind it
parted : {W : Type 0} (f : W → List ℕ) (ws : List W) (i : ℕ) (d : W) → i < length ws → map f ws ≡ map f (take i ws) ++ f (get_or ws i d) ∷ map f (drop (suc i) ws)
parted f [] i d less = absurd (omega arith)
parted f (w ∷ ws) zero d less = refl
parted f (w ∷ ws) (suc i) d less = ap (λ l. f w ∷ l) (parted f ws i d (omega arith))

unread_at : {T : Type 0} (bytes : T → List ℕ) (words front back : List (List ℕ)) (word : List ℕ) → words ≡ front ++ word ∷ back → list_all is_utf8 front ≡ true
    → (unread : Unread) → IsWordOf bytes word (Err unread) → IsUnread words unread
unread_at bytes words front back word is sound (NotUtf8 same) h = record {
  front = front;
  back = back;
  is = is ∙ ap (λ w. front ++ w ∷ back) (sym h.0);
  sound = sound;
  odd = ap is_utf8 h.0 ∙ h.1;
}
unread_at bytes words front back word is sound Memory h = tt

-- a word that can't be had stops the words at its place
pub stopped_at : {T W : Type 0} (bytes : T → List ℕ) (f : W → List ℕ) (ws : List W) (i : ℕ) (d w : W) → i < length ws → w ≡ get_or ws i d
    → list_all is_utf8 (map f (take i ws)) ≡ true → (unread : Unread) → IsWordOf bytes (f w) (Err unread) → IsUnread (map f ws) unread
stopped_at bytes f ws i d w less at sound unread h =
    unread_at bytes (map f ws) (map f (take i ws)) (map f (drop (suc i) ws)) (f w)
    (parted f ws i d less ∙ ap (λ v. map f (take i ws) ++ f v ∷ map f (drop (suc i) ws)) (sym at)) sound unread h

pub odd_of : (words : List (List ℕ)) (unread : Unread) → IsUnread words unread → IsOdd unread
odd_of words (NotUtf8 word) h = h.odd
odd_of words Memory h = tt

-- Bytes cut into characters: the list doesn't depend on how many they may at most be, and begins with the first character.
use Rattle.std.proofs.Common.{◌≡◌, ◌<◌, ◌≤◌, ◌∷◌, ℕ, zero, suc, List, [], drop, take, length, length-drop, refl, ap, le_refl, arith}
use Rattle.aero_report.specs.Shown.{characters, characters_of, followers}

fewer_behind : (n k : ℕ) (b : ℕ) (more : List ℕ) → length (b ∷ more) ≤ suc n → length (drop k more) ≤ n
fewer_behind n k b more within = let left = length-drop k more in omega arith

same_cut : (n m : ℕ) (bytes : List ℕ) → length bytes ≤ n → length bytes ≤ m → characters_of n bytes ≡ characters_of m bytes
unfolding characters_of
same_cut zero zero bytes low high = refl
same_cut zero (suc m) [] low high = refl
same_cut zero (suc m) (b ∷ more) low high = absurd (omega arith)
same_cut (suc n) zero [] low high = refl
same_cut (suc n) zero (b ∷ more) low high = absurd (omega arith)
same_cut (suc n) (suc m) [] low high = refl
same_cut (suc n) (suc m) (b ∷ more) low high =
    let k = followers (b ∷ more) in
    ap (λ rest. (b ∷ take k more) ∷ rest) (same_cut n m (drop k more) (fewer_behind n k b more low) (fewer_behind m k b more high))

pub first_cut : (bytes : List ℕ) → 0 < length bytes → characters bytes ≡ take (suc (followers bytes)) bytes ∷ characters (drop (suc (followers bytes)) bytes)
unfolding characters_of
first_cut [] some = absurd (omega arith)
first_cut (b ∷ more) some =
    let k = followers (b ∷ more) in
    ap (λ rest. (b ∷ take k more) ∷ rest)
    (same_cut (length more) (length (drop k more)) (drop k more) (fewer_behind (length more) k b more (le_refl (length (b ∷ more)))) (le_refl (length (drop k more))))

pub no_cut : (bytes : List ℕ) → length bytes ≡ 0 → characters bytes ≡ []
unfolding characters_of
no_cut [] none = refl
no_cut (b ∷ more) none = absurd (omega arith)

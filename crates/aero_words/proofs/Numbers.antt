-- A number that is read lies in the range of its option.
use Rattle.std.proofs.Common.{◌≡◌, ◌<◌, ◌≤◌, ◌^◌, ap, ℕ, List, Option, Some, None, subst, refl, arith}
use Rattle.std.specs.Prelude.{Result, unwrap_or}
use Rattle.std.specs.Str.Parse.{ParsesUnsigned}
use Rattle.clap.specs.Words.{ReadsOne, one_text}
use Rattle.clap.proofs.CallerReads.{signed_reads}
use Rattle.clap.specs.declared.parser.matches.Found.{Found}
use Rattle.aero_words.proofs.LineRead.{ReadsWithin}

-- a number that is read within a range lies in it
pub number_within : (E : Type 0) (G : List ℕ → Result ℕ E → Type 0) (most number : ℕ) (f : Found) (name : List ℕ)
    → ReadsWithin f name most
    → (one_text f name ≡ None → Some number ≡ None)
    → ((t : List ℕ) → one_text f name ≡ Some t → ReadsOne G t (Some number))
    → ((u : List ℕ) (x : Result ℕ E) → G u x → ParsesUnsigned 32 10 u x) → most < 2 ^ 32
    → (0 < number) × (number ≤ most)
number_within E G most number f name within none value only fits = go (one_text f name) refl
  where
    go : (o : Option (List ℕ)) → one_text f name ≡ o → (0 < number) × (number ≤ most)
    go None e =
        let bad : Some number ≡ None = none e in
        cc
    go (Some t) e =
        let r = within t e in
        let one = subst (λ (w : List ℕ). ReadsOne G w (Some number)) r.1 (value t e) in
        let got = signed_reads E G 32 1 most r.0 (Some number) one only fits r.2 in
        let is : number ≡ got.0 = ap (λ (o : Option ℕ). unwrap_or o 0) got.1 in
        let low : 1 ≤ got.0 = got.2 in
        let high : got.0 ≤ most = got.3 in
        (omega arith, omega arith)

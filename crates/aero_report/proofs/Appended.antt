-- Lemmas on a last call whose `Result` is returned as it is.
use Rattle.std.proofs.Common.{◌≡◌, List, ℕ, ◌++◌, Result, Ok, Err, OnOk, cond, ap, ◌∙◌, append_assoc}
use Rattle.std.specs.Result.{is_ok}

-- what `extend_from_slice` of bs leaves where it succeeds, after front was appended to old
pub OnOk-extended : {T E : Type 0} (r : Result T E) (old was new front bs : List ℕ) → was ≡ old ++ front
    → new ≡ cond (is_ok r) (was ++ bs) was → OnOk r (new ≡ old ++ (front ++ bs))
OnOk-extended (Ok x) old was new front bs before after = after ∙ ap (λ l. l ++ bs) before ∙ append_assoc old front bs
OnOk-extended (Err e) old was new front bs before after = tt

-- the same of a call of our own
pub OnOk-appended : {T E : Type 0} (r : Result T E) (old was new front bs : List ℕ) → was ≡ old ++ front
    → OnOk r (new ≡ was ++ bs) → OnOk r (new ≡ old ++ (front ++ bs))
OnOk-appended (Ok x) old was new front bs before after = after ∙ ap (λ l. l ++ bs) before ∙ append_assoc old front bs
OnOk-appended (Err e) old was new front bs before after = tt

-- What was appended in turn stands behind what there was.
pub joined : {T : Type 0} (old was new front more : List T) → was ≡ old ++ front → new ≡ was ++ more → new ≡ old ++ (front ++ more)
joined old was new front more before after = after ∙ ap (λ l. l ++ more) before ∙ append_assoc old front more

-- the same of a last call whose `Result` is returned
pub OnOk-joined : {T R E : Type 0} (r : Result R E) (old was new front more : List T) → was ≡ old ++ front
    → OnOk r (new ≡ was ++ more) → OnOk r (new ≡ old ++ (front ++ more))
OnOk-joined (Ok x) old was new front more before after = joined old was new front more before after
OnOk-joined (Err e) old was new front more before after = tt

-- What a result says, by its case.
use Rattle.std.proofs.Common.{◌≡◌, ◌⊎◌, inl, inr, refl}
use Rattle.std.specs.Prelude.{◌||◌, Bool, true, false, IsTrue, Result, Ok, Err, OnOk, OnErr, IfOk}

pub either : {A E : Type 0} {P Q : Type 0} (r : Result A E) → OnOk r P → OnErr r Q → P ⊎ Q
either (Ok x) p q = inl p
either (Err e) p q = inr q

pub IfOk_map : {A E : Type 0} {P Q : A → Type 0} (r : Result A E) → ((x : A) → P x → Q x) → IfOk r P → IfOk r Q
IfOk_map (Ok x) f p = f x p
IfOk_map (Err e) f p = tt

pub not_true : (b : Bool) → b ≡ false → IsTrue b → ⊥
not_true true e h = cc
not_true false e h = cc

pub IfOk_both : {A E : Type 0} {P Q R : A → Type 0} (r : Result A E) → ((x : A) → P x → Q x → R x) → IfOk r P → IfOk r Q → IfOk r R
IfOk_both (Ok x) f p q = f x p q
IfOk_both (Err e) f p q = tt

pub OnOk_map : {A E : Type 0} {P Q : Type 0} (r : Result A E) → (P → Q) → OnOk r P → OnOk r Q
OnOk_map (Ok x) f p = f p
OnOk_map (Err e) f p = tt

pub OnErr_map : {A E : Type 0} {P Q : Type 0} (r : Result A E) → (P → Q) → OnErr r P → OnErr r Q
OnErr_map (Ok x) f p = tt
OnErr_map (Err e) f p = f p

pub OnOk_both : {A E : Type 0} {P Q R : Type 0} (r : Result A E) → (P → Q → R) → OnOk r P → OnOk r Q → OnOk r R
OnOk_both (Ok x) f p q = f p q
OnOk_both (Err e) f p q = tt

pub neither : (a b : Bool) → (a || b) ≡ false → (a ≡ false) × (b ≡ false)
neither true b e = cc
neither false true e = cc
neither false false e = (refl, refl)

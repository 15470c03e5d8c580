-- What is read of an option, over the rows of its matches.
use Rattle.std.proofs.Common.{◌≡◌, ◌∙◌, ◌<◌, ◌^◌, ◌||◌, ap, ℕ, Bool, false, true, List, [], map, Option, Some, None, refl, subst, sym, codes}
use Rattle.std.specs.Borrow.{Bor}
use Rattle.std.specs.Str.{bytes_eq}
use Rattle.std.specs.Prelude.{Result, option_map, unwrap_or}
use Rattle.std.specs.Str.Parse.{ParsesUnsigned}
use Rattle.std.proofs.lemmas.Slice.Eq.{bytes_eq-Decides}
use Rattle.clap.specs.Words.{ReadsOne, Text, all_of, matched_of, one_of, one_text, raw_values, rows_of}
use Rattle.clap.proofs.CallerReads.{signed_reads}
use Rattle.clap.proofs.WalkLemmas.{one_text-rows, raw_values-rows}
use Rattle.clap.specs.declared.parser.matches.Found.{Found}
use Rattle.aero_words.specs.Line.{is_told, number_told, texts_told}
use Rattle.aero_words.proofs.LineRead.{ReadsFlag, ReadsWithin}

-- a number that is read is the one that the option's text says, or the fallback
pub number_read : (E : Type 0) (G : Text → Result ℕ E → Type 0) (most fallback : ℕ) (r : Option ℕ) (f : Found) (name : Text)
    → ReadsWithin f name most
    → (one_text f name ≡ None → r ≡ None)
    → ((t : Text) → one_text f name ≡ Some t → ReadsOne G t r)
    → ((u : Text) (x : Result ℕ E) → G u x → ParsesUnsigned 32 10 u x) → most < 2 ^ 32
    → unwrap_or r fallback ≡ number_told fallback (one_of name (rows_of f))
number_read E G most fallback r f name within none value only fits =
    go (one_text f name) refl ∙ ap (number_told fallback) (one_text-rows f name)
  where
    go : (o : Option Text) → one_text f name ≡ o → unwrap_or r fallback ≡ number_told fallback (one_text f name)
    go None e = rw (none e, e) refl
    go (Some t) e =
        let it = within t e in
        let one = subst (λ (w : Text). ReadsOne G w r) it.1 (value t e) in
        let got = signed_reads E G 32 1 most it.0 r one only fits it.2 in
        let parsed = only t _ (rw got.1 at value t e) in
        rw (got.1, e) parsed.1

pub flag_read : (f : Found) (name : Text) (flag : Bool) → ReadsFlag f name
    → (one_text f name ≡ None → flag ≡ false)
    → (one_text f name ≡ Some (codes "true") → flag ≡ true)
    → (one_text f name ≡ Some (codes "false") → flag ≡ false)
    → flag ≡ is_told (one_of name (rows_of f))
flag_read f name flag reads none given other = go (one_text f name) refl ∙ ap is_told (one_text-rows f name)
  where
    by_test : (t : Text) (b : Bool) → bytes_eq t (codes "true") ≡ b → one_text f name ≡ Some t
        → (b || bytes_eq t (codes "false")) ≡ true → flag ≡ b
    by_test t true is e h = given (e ∙ ap (λ (w : Text). Some w) ((bytes_eq-Decides t (codes "true")).0 is))
    by_test t false is e h = other (e ∙ ap (λ (w : Text). Some w) ((bytes_eq-Decides t (codes "false")).0 h))

    go : (o : Option Text) → one_text f name ≡ o → flag ≡ is_told (one_text f name)
    go None e = none e ∙ ap is_told (sym e)
    go (Some t) e = by_test t (bytes_eq t (codes "true")) refl e (reads t e) ∙ ap is_told (sym e)

pub texts_read : (f : Found) (name : Text) (texts : Option (Bor (List (Bor Text)))) (given none : Bor (List (Bor Text)))
    → option_map (λ s. map (λ v. v.now) s.now) texts ≡ option_map raw_values (matched_of f name)
    → given ≡ unwrap_or texts none → none.now ≡ []
    → map (λ v. v.now) given.now ≡ texts_told (all_of name (rows_of f))
texts_read f name texts given none found is empty = rw is (go texts) ∙ ap texts_told (found ∙ raw_values-rows f name)
  where
    go : (o : Option (Bor (List (Bor Text)))) → map (λ v. v.now) (unwrap_or o none).now ≡ texts_told (option_map (λ s. map (λ v. v.now) s.now) o)
    go None = rw empty refl
    go (Some s) = refl

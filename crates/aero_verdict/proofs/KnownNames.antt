-- The numbers of a block's names that are known.
use Rattle.std.proofs.Common.{◌≡◌, ℕ, zero, suc, ◌<◌, ◌==◌, Bool, false, if◌then◌else◌, List, [], ◌∷◌, ◌++◌, length, map, take, Some, None, refl, sym, ◌∙◌, ap, subst, inl, inr, arith}
use Rattle.std.specs.Prelude.{bytes_eq, slice_get, slice_index_or}
use Rattle.std.specs.List.{list_any}
use Rattle.std.proofs.lemmas.Bool.{cases_Bool, cond-true, cond-false, eqb-true, lt-leb}
use Rattle.std.proofs.lemmas.Option.{slice_get_within, same_Some}
use Rattle.aero_model.specs.declared.event.Op.TheVariants as op
use Rattle.aero_model.specs.declared.numbered.What.{What}
use Rattle.aero_model.specs.declared.numbered.What.TheVariants.{Read, Write, Acquire, Release, Fork, Join, Begin, End, Exempt}
use Rattle.aero_model.specs.Exempt.{Listed, leaves_out, begins_exempt}
use Rattle.aero_model.specs.Numbering.{with_name, number_of, Tables}
use Rattle.aero_engine.proofs.Written.{slice_get-pushed}
use Rattle.aero_names.specs.Listing.{Listing}
use Rattle.aero_names.proofs.Listings.{number_of-place}
use Rattle.aero_names.proofs.NewNames.{has_name, still_passes, number_stays}
use Rattle.aero_grammar.specs.Tabled.{name_at, op_of, target_in}
use Rattle.aero_verdict.specs.declared.known.Exemptions.{Exemptions}
use Rattle.aero_verdict.specs.Known.{IsKnown, AreKnown, AreMarked, is_told_exempt, HasLabel}
use Rattle.aero_verdict.specs.Naming.{NumbersName}

-- of no name yet
pub none_known : (trace block : List (List ℕ)) (numbers : List ℕ) → numbers ≡ [] → AreKnown trace block numbers
none_known trace block numbers none n number at = absurd (let no = ap (λ ns. slice_get ns n) (sym none) ∙ at in cc)

-- a name that is known has its number, and changes nothing
pub known_number : (old : Listing) (block : List (List ℕ)) (known : List ℕ) (n number : ℕ) → AreKnown old.names block known → slice_get known n ≡ Some number → NumbersName old old (name_at block n) number
known_number old block known n number all at =
    let is = all n number at in
    let name = name_at block n in
    let same : with_name old.names name ≡ old.names = cond-true (list_any (bytes_eq name) old.names) old.names (old.names ++ name ∷ []) is.listed in
    let below = slice_get_within old.names (number_of old.names name) name (number_of-place old.names name is.listed) in
    record {
      number_is = is.number_is ∙ ap (λ ns. number_of ns name) (sym same);
      names_are = sym same;
      within = λ limit within. (within, lt-leb limit number (omega (arith, below, is.number_is, within.few)));
    }

-- what is known stays so, whatever names come later
pub known_stays : (old new : Listing) (block : List (List ℕ)) (known : List ℕ) (name : List ℕ) → new.names ≡ with_name old.names name → AreKnown old.names block known → AreKnown new.names block known
known_stays old new block known name names_are all n number at =
    let is = all n number at in
    let here = name_at block n in
    record {
      listed = ap (list_any (bytes_eq here)) names_are ∙ still_passes (bytes_eq here) old.names (name ∷ []) is.listed;
      number_is = is.number_is ∙ sym (ap (λ ns. number_of ns here) names_are ∙ number_stays old.names (name ∷ []) here is.listed);
    }

named_here : (old new : Listing) (block : List (List ℕ)) (n number : ℕ) → NumbersName old new (name_at block n) number → IsKnown new.names block n number
named_here old new block n number h =
    let name = name_at block n in
    record {
      listed = ap (list_any (bytes_eq name)) h.names_are ∙ has_name old.names name;
      number_is = h.number_is ∙ ap (λ ns. number_of ns name) (sym h.names_are);
    }

-- and the next name's number is known then
pub known_pushed : (old new : Listing) (block : List (List ℕ)) (known numbers : List ℕ) (n number : ℕ) → NumbersName old new (name_at block n) number → AreKnown old.names block known →
    numbers ≡ (if length known == n then known ++ number ∷ [] else known) → AreKnown new.names block numbers
known_pushed old new block known numbers n number h all is m other at =
    let stay = known_stays old new block known (name_at block n) h.names_are all in
    elim (cases_Bool (length known == n)) [
      | inl next ↦
          let whole = is ∙ cond-true (length known == n) (known ++ number ∷ []) known next in
          let seen : (if m == length known then Some number else slice_get known m) ≡ Some other = sym (slice_get-pushed known number m) ∙ ap (λ ns. slice_get ns m) (sym whole) ∙ at in
          (elim (cases_Bool (m == length known)) [
            | inl last ↦
                let same : number ≡ other = same_Some number other (sym (cond-true (m == length known) (Some number) (slice_get known m) last) ∙ seen) in
                let place : n ≡ m = sym (eqb-true (length known) n next) ∙ sym (eqb-true m (length known) last) in
                subst (λ k. IsKnown new.names block k other) place (subst (IsKnown new.names block n) same (named_here old new block n number h))
            | inr front ↦ stay m other (sym (cond-false (m == length known) (Some number) (slice_get known m) front) ∙ seen)
          ])
      | inr not_next ↦ stay m other (ap (λ ns. slice_get ns m) (sym (is ∙ cond-false (length known == n) (known ++ number ∷ []) known not_next)) ∙ at)
    ]

-- what is told of the labels of a block

told_at : (f : List ℕ → Bool) (names : List (List ℕ)) (n : ℕ) → n < length names → slice_index_or (map f names) n false ≡ f (name_at names n)
told_at f [] n less = absurd (omega (arith, less))
told_at f (name ∷ names) zero less = refl
told_at f (name ∷ names) (suc n) less = told_at f names n (omega (arith, less))

pub told_exempt : (tables : Tables) (block : List (List ℕ)) (listed : Listed) (exempt : Exemptions) (w : What) → HasLabel block w → AreMarked listed block exempt →
    is_told_exempt exempt w ≡ begins_exempt listed (op_of w) (target_in tables block w)
told_exempt tables block listed exempt (Begin (Some label)) has marked =
    ap (λ flags. slice_index_or flags label false) marked.0 ∙ told_at (λ name. leaves_out listed (Some name)) block label has
told_exempt tables block listed exempt (Begin None) has marked = marked.1
told_exempt tables block listed exempt End has marked = refl
told_exempt tables block listed exempt Exempt has marked = refl
told_exempt tables block listed exempt (Read x) has marked = refl
told_exempt tables block listed exempt (Write x) has marked = refl
told_exempt tables block listed exempt (Acquire l) has marked = refl
told_exempt tables block listed exempt (Release l) has marked = refl
told_exempt tables block listed exempt (Fork u) has marked = refl
told_exempt tables block listed exempt (Join u) has marked = refl

-- no end is told as exempt
pub end_untold : (exempt : Exemptions) (w : What) → op_of w ≡ op.End → is_told_exempt exempt w ≡ false
end_untold exempt (Begin label) is = absurd (cc)
end_untold exempt End is = refl
end_untold exempt Exempt is = refl
end_untold exempt (Read x) is = refl
end_untold exempt (Write x) is = refl
end_untold exempt (Acquire l) is = refl
end_untold exempt (Release l) is = refl
end_untold exempt (Fork u) is = refl
end_untold exempt (Join u) is = refl

-- one label more
pub told_next : (f : List ℕ → Bool) (names : List (List ℕ)) (n : ℕ) → n < length names → map f (take (suc n) names) ≡ map f (take n names) ++ f (name_at names n) ∷ []
told_next f [] n less = absurd (omega (arith, less))
told_next f (name ∷ names) zero less = refl
told_next f (name ∷ names) (suc n) less = ap (λ flags. f name ∷ flags) (told_next f names n (omega (arith, less)))

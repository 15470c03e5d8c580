-- What looks at files tell: the stamps that these bear, and how many bytes they have together.
use Rattle.std.proofs.Common.{◌≡◌, ◌∙◌, ◌+◌, ◌<◌, ℕ, List, [], ◌∷◌, ◌++◌, Option, None, Some, IfSome, map, ap, sym, subst, refl, arith, get_or, take, length}
use Rattle.std.proofs.lemmas.List.{map-append, take-map, take_more}
use Rattle.std.proofs.lemmas.Simd.{map-map}
use Rattle.aero_telling.specs.Founds.{sighted}
use Rattle.aero_intake.specs.Source.{Sight}
use Rattle.aero_intake.specs.declared.source.SourceOf.{SourceOf}
use Rattle.aero_program.specs.declared.stamp.Stamp.{Stamp}
use Rattle.aero_program.specs.Sizes.{AreSizes, MayBear, name_and_reader}

-- two lists of which f gives the same: so does g of what f gives
same_by : {A B C : Type 0} (f : A → B) (g : B → C) (xs ys : List A) → map f xs ≡ map f ys → map (λ x. g (f x)) xs ≡ map (λ x. g (f x)) ys
same_by f g xs ys same = sym (map-map g f xs) ∙ ap (map g) same ∙ map-map g f ys

-- contracts see sources as before that have the same names and readers
pub same_sighted : {R : Type 0} (sources others : List (SourceOf R)) (sight : R → Sight) → map name_and_reader sources ≡ map name_and_reader others → map (sighted sight) sources ≡ map (sighted sight) others
same_sighted sources others sight = same_by name_and_reader (λ p. record { name = p.0; reader = sight p.1 }) sources others

abbrev name_of : {R : Type 0} → SourceOf R → List ℕ
name_of source = source.name.items

same_names : {R : Type 0} (sources others : List (SourceOf R)) (n : ℕ) → map name_and_reader sources ≡ map name_and_reader others → map name_of (take n sources) ≡ map name_of (take n others)
same_names sources others n same =
    same_by name_and_reader (λ p. p.0) (take n sources) (take n others) (sym (take-map name_and_reader n sources) ∙ ap (take n) same ∙ take-map name_and_reader n others)

-- the names of the first sources and of the next
pub names_more : {R : Type 0} (sources others : List (SourceOf R)) (i : ℕ) (source : SourceOf R) → map name_and_reader sources ≡ map name_and_reader others
    → source ≡ get_or sources i source → i < length sources → map (λ s. s.name.items) (take (i + 1) others) ≡ map (λ s. s.name.items) (take i others) ++ source.name.items ∷ []
names_more sources others i source same is within =
    let more : take (i + 1) sources ≡ take i sources ++ source ∷ [] = subst (λ w. take (i + 1) sources ≡ take i sources ++ w ∷ []) (sym is) (take_more sources i source within) in
    sym (same_names sources others (i + 1) same) ∙ ap (map name_of) more ∙ map-append name_of (take i sources) (source ∷ [])
    ∙ ap (λ names. names ++ source.name.items ∷ []) (same_names sources others i same)

one_more : (has_size : List ℕ → ℕ → Type 0) (files : List (List ℕ)) (file : List ℕ) (whole size : ℕ) → AreSizes has_size files whole → has_size file size
    → AreSizes has_size (files ++ file ∷ []) (whole + size)
one_more has_size [] file whole size none has = (size, 0, has, refl, omega (arith, none))
one_more has_size (first ∷ more) file whole size (bytes, rest, it, others, is) has = (bytes, rest + size, it, one_more has_size more file rest size others has, omega (arith, is))

-- the sizes of the first files and of the next, where these are known
pub more_sizes : (has_size : List ℕ → ℕ → Type 0) (files : List (List ℕ)) (file : List ℕ) (before size after : Option ℕ)
    → IfSome before (AreSizes has_size files) → IfSome size (has_size file)
    → IfSome after (λ whole. (one : ℕ) × (other : ℕ) × (before ≡ Some one) × (size ≡ Some other) × (whole ≡ one + other))
    → IfSome after (AreSizes has_size (files ++ file ∷ []))
more_sizes has_size files file before size None are has sum = tt
more_sizes has_size files file before size (Some whole) are has (one, other, was, is, sum) =
    subst (AreSizes has_size (files ++ file ∷ [])) (sym sum)
    (one_more has_size files file one other (subst (λ o. IfSome o (AreSizes has_size files)) was are) (subst (λ o. IfSome o (has_size file)) is has))

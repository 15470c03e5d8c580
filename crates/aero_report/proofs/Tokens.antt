-- The tokens of an object and of an array, by those of their parts.
use Rattle.std.proofs.Common.{◌≡◌, ℕ, List, [], ◌∷◌, ◌++◌, false, eqb, length, map, flat_map, codes, refl, ap, sym, ◌∙◌, append_assoc, append-nil}
use Rattle.std.proofs.lemmas.Grind.{flat_map-append}
use Rattle.json.specs.Token as token
use Rattle.json.specs.Json.{Json}
use Rattle.json.specs.Tree.{json_tokens, items_tokens, members_tokens}
use Rattle.aero_report.specs.Json.{Member, members_of, items_of, name_value, note_value, notes_members, unused_members}
use Rattle.aero_report.specs.Options.{Note}
use Rattle.aero_report.specs.Members.{member_tokens, all_members_tokens}

pub members_tokens_of : (ms : List Member) → all_members_tokens ms ++ token.end_object ∷ [] ≡ members_tokens (members_of ms)
members_tokens_of [] = refl
members_tokens_of (m ∷ ms) = append_assoc (member_tokens m) (all_members_tokens ms) _ ∙ ap (λ ts. member_tokens m ++ ts) (members_tokens_of ms)

pub items_tokens_of : {A : Type 0} (f : A → Json) (xs : List A) → flat_map (λ x. json_tokens (f x)) xs ++ token.end_array ∷ [] ≡ items_tokens (items_of (map f xs))
items_tokens_of f [] = refl
items_tokens_of f (x ∷ xs) = append_assoc (json_tokens (f x)) (flat_map (λ y. json_tokens (f y)) xs) _ ∙ ap (λ ts. json_tokens (f x) ++ ts) (items_tokens_of f xs)

pub both_tokens : (ms ns : List Member) → all_members_tokens ms ++ all_members_tokens ns ≡ all_members_tokens (ms ++ ns)
both_tokens ms ns = sym (flat_map-append member_tokens ms ns)

-- members with one before and one behind them
pub between_tokens : (first last : Member) (ms : List Member) → (member_tokens first ++ all_members_tokens ms) ++ member_tokens last ≡ all_members_tokens (first ∷ (ms ++ last ∷ []))
between_tokens first last ms =
    append_assoc (member_tokens first) (all_members_tokens ms) (member_tokens last)
    ∙ ap (λ ts. member_tokens first ++ ts) (ap (λ ts. all_members_tokens ms ++ ts) (sym (append-nil (member_tokens last))) ∙ both_tokens ms (last ∷ []))

-- the labels with which no block begins, where there are any
pub unused_tokens : {A : Type 0} (f : A → List ℕ) (xs : List A) → eqb (length xs) 0 ≡ false →
    (token.key (codes "unused") ∷ token.begin_array ∷ []) ++ (flat_map (λ l. json_tokens (name_value l)) (map f xs) ++ token.end_array ∷ []) ≡ all_members_tokens (unused_members (map f xs))
unused_tokens f [] some = cc (some)
unused_tokens f (x ∷ xs) some =
    ap (λ ts. token.key (codes "unused") ∷ token.begin_array ∷ ts)
    (items_tokens_of name_value (map f (x ∷ xs)) ∙ sym (append-nil (items_tokens (items_of (map name_value (map f (x ∷ xs)))))))

-- what is told of the sources, where there is anything
pub notes_tokens : {A : Type 0} (f : A → Note) (xs : List A) → eqb (length xs) 0 ≡ false →
    (token.key (codes "notes") ∷ token.begin_array ∷ []) ++ (flat_map (λ n. json_tokens (note_value n)) (map f xs) ++ token.end_array ∷ []) ≡ all_members_tokens (notes_members (map f xs))
notes_tokens f [] some = cc (some)
notes_tokens f (x ∷ xs) some =
    ap (λ ts. token.key (codes "notes") ∷ token.begin_array ∷ ts)
    (items_tokens_of note_value (map f (x ∷ xs)) ∙ sym (append-nil (items_tokens (items_of (map note_value (map f (x ∷ xs)))))))

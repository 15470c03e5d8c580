-- What is read of each option of the command line passed the option's parser.
use Rattle.std.proofs.Common.{◌≡◌, ◌∙◌, ◌<◌, ◌+◌, ◌==◌, if◌then◌else◌, ap, ℕ, zero, suc, false, true, List, [], ◌∷◌, length, map, Some, sym, subst, inl, inr, refl, arith}
use Rattle.std.specs.List.{All, find, slice_index_or}
use Rattle.std.specs.Str.{bytes_eq}
use Rattle.std.specs.Prelude.{◌&&◌, Bool, codes, option_and_then, pos}
use Rattle.std.proofs.lemmas.Bool.{eqb-true}
use Rattle.std.proofs.lemmas.List.{get_or_default, length-map}
use Rattle.std.proofs.lemmas.Slice.Eq.{bytes_eq-Decides}
use Rattle.clap.specs.Words.{Accepts, App, IsParsedFrom, IsSignedIn, Rule, Text, app_of, args_of, found_of, is_simple, new_rule, one_text, read_as, reading_of, rule_of, without_minus}
use Rattle.clap.proofs.OnLiterals.{clap_on_literals}
use Rattle.clap.proofs.SimpleLemmas.{all_simple, plain_fields, simple_groups}
use Rattle.clap.specs.declared.builder.arg.Arg.{Arg}
use Rattle.clap.specs.declared.builder.command.Command.{Command}
use Rattle.clap.specs.declared.builder.value_parser.ValueParser.{ValueParser}
use Rattle.clap.specs.declared.builder.value_parser.ValueParser.TheVariants as vp
use Rattle.clap.specs.declared.parser.matches.ArgMatches.{ArgMatches}
use Rattle.clap.specs.declared.parser.matches.Found.{Found}
use Rattle.aero_words.specs.Line.{program, rules}
use Rattle.aero_words.specs.Words.{IsRead, ReadsBy, parser_named}
use Rattle.aero_words.proofs.Passed.{passed}

pub program_is_simple : is_simple program ≡ true
unfolding clap_on_literals
program_is_simple = refl

abbrev rule_at : ℕ → Rule
rule_at k = slice_index_or rules k (new_rule [])

-- the names that no option may have, and then those of the options
abbrev names : List Text
names = [] ∷ codes "help" ∷ codes "version" ∷ map (λ rule. rule.id) rules

abbrev place_in : List Text → Text → ℕ
place_in [] name = 0
place_in (first ∷ rest) name = if bytes_eq first name then 0 else suc (place_in rest name)

abbrev are_placed : ℕ → List Text → Bool
are_placed k [] = true
are_placed k (name ∷ rest) = (place_in names name == k) && are_placed (suc k) rest

-- no two are the same
names_are_placed : are_placed 0 names ≡ true
names_are_placed = refl

both : (a b : Bool) → (a && b) ≡ true → (a ≡ true) × (b ≡ true)
both true b h = (refl, h)
both false b h = cc

placed_at : (k : ℕ) (rest : List Text) → are_placed k rest ≡ true → (j : ℕ) → j < length rest → place_in names (slice_index_or rest j []) ≡ k + j
placed_at k [] h j lt = absurd (omega arith)
placed_at k (name ∷ rest) h zero lt =
    let here = eqb-true (place_in names name) k (both (place_in names name == k) (are_placed (suc k) rest) h).0 in
    omega (arith, here)
placed_at k (name ∷ rest) h (suc j) lt =
    let later = placed_at (suc k) rest (both (place_in names name == k) (are_placed (suc k) rest) h).1 j (omega arith) in
    omega (arith, later)

mapped_at : {X Y : Type 0} (f : X → Y) (xs : List X) (k : ℕ) (d : X) (e : Y) → k < length xs → f (slice_index_or xs k d) ≡ slice_index_or (map f xs) k e
mapped_at f [] k d e lt = absurd (omega arith)
mapped_at f (x ∷ xs) zero d e lt = refl
mapped_at f (x ∷ xs) (suc k) d e lt = mapped_at f xs k d e (omega arith)

placed : (k : ℕ) → k < length rules → place_in names (rule_at k).id ≡ k + 3
placed k lt =
    let size : length (map (λ (rule : Rule). rule.id) rules) ≡ length rules = length-map rules (λ rule. rule.id) in
    let at = placed_at 0 names names_are_placed (suc (suc (suc k))) (omega arith) in
    ap (place_in names) (mapped_at (λ (rule : Rule). rule.id) rules k (new_rule []) [] lt) ∙ omega (arith, at)

first_of : (xs : List Arg) → 0 < length xs → Arg
first_of [] some = absurd (omega arith)
first_of (x ∷ xs) some = x

-- what is read of an option of the command line passed the parser of its rule
option_passed : (line : Command) (m : ArgMatches) → IsParsedFrom line m → app_of line ≡ program
    → (k : ℕ) → k < length rules → ReadsBy (found_of m) (rule_at k)
option_passed line m p is k lt q parser text read =
    let listed : map rule_of (args_of line) ≡ rules = ap (λ (a : App). a.top.rules) is in
    let size : length (args_of line) ≡ length rules = sym (length-map (args_of line) rule_of) ∙ ap length listed in
    let d = first_of (args_of line) (omega arith) in
    let rule : (j : ℕ) (e : Arg) → j < length rules → rule_of (slice_index_or (args_of line) j e) ≡ rule_at j =
    λ j e lt. mapped_at rule_of (args_of line) j e (new_rule []) (omega arith) ∙ ap (λ (l : List Rule). slice_index_or l j (new_rule [])) listed
    in
    let place : (j : ℕ) (e : Arg) → j < length rules → place_in names (slice_index_or (args_of line) j e).id.now ≡ j + 3 =
    λ j e lt. ap (λ (r : Rule). place_in names r.id) (rule j e lt) ∙ placed j lt
    in
    let unique : (j : ℕ) (e : Arg) → j < length (args_of line)
    → bytes_eq (slice_index_or (args_of line) j e).id.now (slice_index_or (args_of line) k d).id.now ≡ true → j ≡ k =
    λ j e below same.
    let ids = (bytes_eq-Decides (slice_index_or (args_of line) j e).id.now (slice_index_or (args_of line) k d).id.now).0 same in
    omega (arith, sym (place j e (omega arith)) ∙ (ap (place_in names) ids ∙ place k d lt))
    in
    let other : (name : Text) → place_in names name < 3 → (slice_index_or (args_of line) k d).id.now ≡ name → ⊥ =
    λ name low h. absurd (omega (arith, sym (ap (place_in names) h) ∙ place k d lt))
    in
    let simple = plain_fields line (ap (λ (a : App). a.top.is_plain) is) in
    let got = passed line m p (simple_groups line (ap (λ (a : App). all_simple a.top.rules) is)) simple.groups simple.globals k d (omega arith) unique
    (other [] (omega arith))
    (λ auto. elim auto [
      | inl h ↦ other (codes "help") (omega arith) h
      | inr h ↦ other (codes "version") (omega arith) h
    ])
    q (ap (λ (r : Rule). r.parser) (rule k d lt) ∙ parser) text (ap (λ (r : Rule). one_text (found_of m) r.id) (rule k d lt) ∙ read) in
    (got.0, got.1, subst (λ (b : Bool). Accepts b q got.0) (ap (λ (r : Rule). r.ignore_case) (rule k d lt)) got.2)

-- where the command is that of the program, each option is read as it should be
pub line_read : (line : Command) (m : ArgMatches) → IsParsedFrom line m → app_of line ≡ program → IsRead (found_of m)
line_read line m p is k d lt =
    subst (ReadsBy (found_of m)) (get_or_default rules k (new_rule []) d lt) (option_passed line m p is k lt)

found_in : (P : Rule → Type 0) (test : Rule → Bool) (q : ValueParser) (rs : List Rule) → All P rs
    → option_and_then (λ rule. rule.parser) (find test rs) ≡ Some q
    → (rule : Rule) × P rule × (test rule ≡ true) × (rule.parser ≡ Some q)
found_in P test q [] all e = cc
found_in P test q (x ∷ xs) all e = go (test x) refl (found_in P test q xs (λ k d lt. all (suc k) d (omega arith)))
  where
    go : (b : Bool) → test x ≡ b
        → (option_and_then (λ rule. rule.parser) (find test xs) ≡ Some q → (rule : Rule) × P rule × (test rule ≡ true) × (rule.parser ≡ Some q))
        → (rule : Rule) × P rule × (test rule ≡ true) × (rule.parser ≡ Some q)
    go true t later = (x, all 0 x (omega arith), t, rw t at e)
    go false t later = later (rw t at e)

-- what is read of the option of this name passed its parser
option_read : (found : Found) (name : Text) (q : ValueParser) → IsRead found → parser_named name ≡ Some q
    → (text : Text) → one_text found name ≡ Some text
    → (word : Text) × (text ≡ read_as (reading_of q) word) × ((case : Bool) × Accepts case q word)
option_read found name q read is text told =
    let got = found_in (ReadsBy found) (λ rule. bytes_eq rule.id name) q rules read is in
    let same : got.0.id ≡ name = (bytes_eq-Decides got.0.id name).0 got.2 in
    let it = got.1 q got.3 text (ap (λ (t : Text). one_text found t) same ∙ told) in
    (it.0, it.1, (got.0.ignore_case, it.2))

-- what is read as the number of this option is a numeral from 1 to `most`
abbrev pub ReadsWithin : Found → Text → ℕ → Type 0
ReadsWithin found name most =
    (text : Text) → one_text found name ≡ Some text
    → (word : Text) × (text ≡ without_minus word) × IsSignedIn (pos 1) (pos most) word

pub number_passed : (found : Found) (name : Text) (most : ℕ) → IsRead found → parser_named name ≡ Some (vp.Signed (pos 1) (pos most))
    → ReadsWithin found name most
number_passed found name most read is text told =
    let got = option_read found name (vp.Signed (pos 1) (pos most)) read is text told in
    (got.0, got.1, got.2.1)

-- what is read of this flag is what a truth value is written as
abbrev pub ReadsFlag : Found → Text → Type 0
ReadsFlag found name = (text : Text) → one_text found name ≡ Some text → Accepts false vp.Bool text

pub flag_passed : (found : Found) (name : Text) → IsRead found → parser_named name ≡ Some vp.Bool → ReadsFlag found name
flag_passed found name read is text told =
    let got = option_read found name vp.Bool read is text told in
    subst (λ (t : Text). Accepts false vp.Bool t) (sym got.1) got.2.1

-- What a parse says of the values of an argument that may be left out.
use Rattle.std.proofs.Common.{◌≡◌, ◌∙◌, ◌<◌, ap, ℕ, Bool, true, refl, List, [], ◌∷◌, length, Option, Some, None, sym, subst, inl, inr, arith}
use Rattle.std.specs.List.{All, slice_index_or}
use Rattle.std.specs.Str.{bytes_eq}
use Rattle.std.specs.Prelude.{false, option_map, slice_get, unwrap_or}
use Rattle.std.specs.Borrow.{Bor}
use Rattle.std.proofs.lemmas.Slice.Eq.{bytes_eq-Decides}
use Rattle.std.proofs.lemmas.List.Elements.{All-get_or}
use Rattle.clap.specs.Facts.{args_of, groups_of, Entry, EntryPasses, PassesArg, HasReading, parser_of, parser_of_value}
use Rattle.clap.specs.Built.{IsParsedFrom, IsAuto, NamesNoGroup, SameRules}
use Rattle.clap.specs.Matches.{matched_of, one_text, found_of}
use Rattle.clap.specs.Values.{Accepts, read_as, reading_of}
use Rattle.clap.proofs.CallerLemmas.{entry_by_id, same_rules_by_id}
use Rattle.clap.specs.declared.builder.value_parser.Reading.{Reading}
use Rattle.clap.specs.declared.builder.arg.Arg.{Arg}
use Rattle.clap.specs.declared.builder.command.Command.{Command}
use Rattle.clap.specs.declared.builder.command.Command.TheViews.{out-Command}
use Rattle.clap.specs.declared.builder.value_parser.ValueParser.{ValueParser}
use Rattle.clap.specs.declared.parser.matches.ArgMatches.{ArgMatches}
use Rattle.clap.specs.declared.parser.matches.MatchedArg.{MatchedArg}

first_read : (P : Bor (List ℕ) → Type 0) (how : Reading) (vs : List (Bor (List ℕ))) → All P vs
    → (t : List ℕ) → option_map (λ s. read_as how s.now) (slice_get vs 0) ≡ Some t
    → (v : Bor (List ℕ)) × (t ≡ read_as how v.now) × P v
first_read P how [] h t read = cc
first_read P how (v ∷ vs) h t read =
    (v, ap (λ (o : Option (List ℕ)). unwrap_or o t) (sym read), All-get_or P (v ∷ vs) 0 v (omega arith) h)

-- what one entry gives
read_of : (c : Command) (id : List ℕ) (Q : List ℕ → Type 0) (how : Reading) (x : MatchedArg) (e : Entry)
    → groups_of c ≡ [] → (id ≡ [] → ⊥) → ((r : Reading) → HasReading c id r → r ≡ how)
    → ((v : Bor (List ℕ)) → PassesArg c id v.now → Q v.now)
    → e.1 ≡ x → e.0.now ≡ id → EntryPasses c e
    → (t : List ℕ) → option_map (λ s. read_as x.reading s.now) (slice_get x.vals.items 0) ≡ Some t
    → (u : List ℕ) × (t ≡ read_as how u) × Q u
read_of c id Q how x e no_groups named reads read same_x key_id pass t first =
    let no_group : e.1.is_group ≡ true → ⊥ = λ g. elim (pass.3 g) [
      | inl empty ↦ named (sym key_id ∙ empty)
      | inr lots ↦
          let bad : 0 < 0 = rw no_groups at lots in
          absurd (omega arith)
    ] in
    let all : All (λ v. PassesArg c id v.now) x.vals.items = elim pass.0 [
      | inl g ↦ absurd (no_group g)
      | inr vals ↦ subst (λ (w : List ℕ). All (λ v. PassesArg c w v.now) x.vals.items) key_id (rw same_x at vals)
    ] in
    let is : e.1.reading ≡ how = elim pass.4 [
      | inl g ↦ absurd (no_group g)
      | inr h ↦ reads e.1.reading (subst (λ (w : List ℕ). HasReading c w e.1.reading) key_id h)
    ] in
    finish (first_read (λ v. PassesArg c id v.now) x.reading x.vals.items all t first) (ap (λ (y : MatchedArg). y.reading) (sym same_x) ∙ is)
  where
    finish : ((v : Bor (List ℕ)) × (t ≡ read_as x.reading v.now) × PassesArg c id v.now) → x.reading ≡ how
        → (u : List ℕ) × (t ≡ read_as how u) × Q u
    finish hd is = (hd.0.now, hd.1 ∙ ap (λ (r : Reading). read_as r hd.0.now) is, read hd.0 hd.2)

-- an argument with the id of the caller's argument is read as the caller's parser says
only_reading : (old : Command) (m : ArgMatches) (p : IsParsedFrom old m) (k : ℕ) (d : Arg) → k < length (args_of old)
    → ((j : ℕ) (e : Arg) → j < length (args_of old)
    → bytes_eq (slice_index_or (args_of old) j e).id.now (slice_index_or (args_of old) k d).id.now ≡ true → j ≡ k)
    → (IsAuto (slice_index_or (args_of old) k d) → ⊥)
    → (q : ValueParser) → (slice_index_or (args_of old) k d).value_parser ≡ Some q
    → (r : Reading) → HasReading p.built (slice_index_or (args_of old) k d).id.now r → r ≡ reading_of q
only_reading old m p k d lt unique own q parser r any =
    let s = same_rules_by_id old m p k d lt unique own any.0 any.1 any.2 any.3 any.4.0 in
    let is_q : parser_of any.1 ≡ q = ap parser_of_value (s.parser q parser) in
    sym any.4.1 ∙ ap reading_of is_q

accepts_of : (a y : Arg) (q : ValueParser) (t : List ℕ) → SameRules a y → a.value_parser ≡ Some q
    → Accepts y.ignore_case (parser_of y) t → Accepts a.ignore_case q t
accepts_of a y q t s parser read =
    let is_q : parser_of y ≡ q = ap parser_of_value (s.parser q parser) in
    let as_q : Accepts y.ignore_case q t = subst (λ (w : ValueParser). Accepts y.ignore_case w t) is_q read in
    subst (λ (b : Bool). Accepts b q t) s.ignore_case as_q

-- where an argument of the caller's has a value, that value passed its parser and is read as the parser says
pub passed : (old : Command) (m : ArgMatches) (p : IsParsedFrom old m) → NamesNoGroup old → groups_of old ≡ []
    → (out-Command old).has_globals ≡ false
    → (k : ℕ) (d : Arg) → k < length (args_of old)
    → ((j : ℕ) (e : Arg) → j < length (args_of old)
    → bytes_eq (slice_index_or (args_of old) j e).id.now (slice_index_or (args_of old) k d).id.now ≡ true → j ≡ k)
    → ((slice_index_or (args_of old) k d).id.now ≡ [] → ⊥)
    → (IsAuto (slice_index_or (args_of old) k d) → ⊥)
    → (q : ValueParser) → (slice_index_or (args_of old) k d).value_parser ≡ Some q
    → (t : List ℕ) → one_text (found_of m) (slice_index_or (args_of old) k d).id.now ≡ Some t
    → (u : List ℕ) × (t ≡ read_as (reading_of q) u) × Accepts (slice_index_or (args_of old) k d).ignore_case q u
passed old m p no_names groups globals k d lt unique named own q parser t read = go (matched_of (found_of m) id) refl
  where
    id : List ℕ
    id = (slice_index_or (args_of old) k d).id.now

    pass : (v : Bor (List ℕ)) → PassesArg p.built id v.now → Accepts (slice_index_or (args_of old) k d).ignore_case q v.now
    pass v any = accepts_of _ any.1 q v.now (same_rules_by_id old m p k d lt unique own any.0 any.1 any.2 any.3 any.4.0) parser any.4.1

    go : (o : Option MatchedArg) → matched_of (found_of m) id ≡ o
        → (u : List ℕ) × (t ≡ read_as (reading_of q) u) × Accepts (slice_index_or (args_of old) k d).ignore_case q u
    go None e =
        let bad : None ≡ Some t = rw e at read in
        cc
    go (Some x) e =
        let parsed = p.parsed (p.from.globals ∙ globals) in
        let got = entry_by_id (EntryPasses p.built) (found_of m).entries.items id x parsed.values e in
        let no_groups : groups_of p.built ≡ [] = (p.from.same_groups no_names).1 ∙ groups in
        read_of p.built id (λ (u : List ℕ). Accepts (slice_index_or (args_of old) k d).ignore_case q u) (reading_of q) x got.0
        no_groups named (only_reading old m p k d lt unique own q parser) pass
        got.1 ((bytes_eq-Decides got.0.0.now id).0 got.2) got.3 t (rw e at read)

use Rattle.std.proofs.Common.{◌≡◌, ◌≤◌, ◌∙◌, List, ℕ, IfOk, ap, arith, map, subst, sym}
use Rattle.aero_telling.specs.Founds.{sighted}
use Rattle.aero_program.specs.Traces.{sight_of}
use Rattle.aero_program.specs.declared.command.Sources.{Sources}
use Rattle.aero_program.specs.Command.{count_named}
use Rattle.aero_program.specs.Sightings.{file_made, sightings, source_sightings}
use Rattle.aero_program.proofs.Gathering.{named_as_many}
use Rattle.aero_program.proofs.sources.sources_of.Goals as goal

pub returns-in_ok-sources-in-Files-clause-few : goal.returns-in_ok-sources-in-Files-clause-few
returns-in_ok-sources-in-Files-clause-few g c = λ few.
    let sources = c.in_ok-sources-in-Files.sources in
    let words = c.in-Files.words in
    let known = sources.ok.0 in
    let words_known = words.ok.0 in
    let bound = subst (λ (s : Sources). count_named s ≤ 65536) c.in-Files.is few in
    let same = named_as_many _ _ sources.items c.deref.result.now words.items c.in_ok-sources-in-Files.ensures.names c.deref.ensures.value in
    omega (arith, known, words_known, bound, same)

pub returns-in_ok-sources-in-Files-clause-sighted : goal.returns-in_ok-sources-in-Files-clause-sighted
returns-in_ok-sources-in-Files-clause-sighted g c =
    let known = g.F.Opener.known c.args.files.now in
    let given = g.S.Read.remaining c.args.stdin in
    let names : List (List ℕ) = map (λ s. s.name.items) c.in_ok-sources-in-Files.sources.items in
    let made = c.in_ok-sources-in-Files.ensures in
    made.sighted ∙ ap (sightings (file_made known)) (sym made.names) ∙ ap (λ (s : Sources). source_sightings known s given names) (sym c.in-Files.is)

pub returns-in-Listed-clause-sighted : goal.returns-in-Listed-clause-sighted
returns-in-Listed-clause-sighted g c =
    let known = g.F.Opener.known c.args.files.now in
    let given = g.S.Read.remaining c.args.stdin in
    subst (λ (s : Sources). IfOk c.listed_at.result (λ made. map (sighted (sight_of g.S.Read.remaining (λ f. g.F.Opener.known f.now) g.F.File.Read.remaining)) made.sources.items
    ≡ source_sightings known s given (map (λ s. s.name.items) made.sources.items))) (sym c.in-Listed.is) c.listed_at.ensures.sighted

use Rattle.std.proofs.Common.{◌≡◌, ◌<◌, length, map, get_or, refl, subst, sym, ◌∙◌, ap, arith}
use Rattle.std.proofs.lemmas.Option.{slice_get_read}
use Rattle.aero_model.specs.CallCounts.{seen_by}
use Rattle.aero_report.specs.declared.form.Form.{Form}
use Rattle.aero_telling.specs.Founds.{sighted}
use Rattle.aero_batch.specs.Telling.{TellsNext}
use Rattle.aero_batch.proofs.Readers.{name_there}
use Rattle.aero_batch.proofs.Stands.{telling}
use Rattle.aero_batch.proofs.run.tell_ready.Goals as goal
use Rattle.aero_intake.specs.PlanTerms.{terms_of}

pub returns : goal.returns
returns g c =
    let sources = c.args.sources.now in
    let known = g.R.Followed.sight in
    let p = c.args.underway.now in
    let a = c.args.told.now in
    let place = a.endings.len in
    let len_is : c.len-place.result ≡ place = c.len-place.ensures in
    let below : place < p.checked = omega (arith, c.if-place-underway.false, len_is) in
    let few : place < length sources = omega (arith, below, c.requires.counted.checked, c.requires.counted.read) in
    let many : place < p.tracks.len = omega (arith, few, c.requires.counted.tracks, p.tracks.ok.0) in
    let source = c.index-sources-place.result in
    let there = slice_get_read sources (length sources) place source refl few (subst (λ n. source ≡ get_or sources n source) len_is c.index-sources-place.is) in
    let track = slice_get_read p.tracks.items p.tracks.len place c.index.result.now p.tracks.ok.0 many
    (subst (λ n. c.index.result.now ≡ get_or p.tracks.items n c.index.result.now) len_is c.index.ensures) in
    let name_is : c.as_slice-name.result.now ≡ source.name.items = c.as_slice-name.ensures.value ∙ ap (λ s. s.name.items) (sym c.index-sources-place.is) in
    let tells = subst (λ (f : Form). TellsNext f c.as_slice-name.result.now c.index.result.now (seen_by g.W.Write.contents c.args.writer.now)
    (seen_by g.W.Write.contents c.tell_next.new.writer) a c.tell_next.new.told c.tell_next.result)
    c.style_of.ensures c.tell_next.ensures in
    let t = telling (terms_of c.args.setting.now.plan.now) c.args.setting.now.plan.now.form (map (sighted known) sources)
    (seen_by g.W.Write.contents c.args.writer.now) (seen_by g.W.Write.contents c.tell_next.new.writer) p a c.tell_next.new.told
    c.as_slice-name.result.now below (λ x is. name_there known sources place source x there is ∙ sym name_is) c.index.result.now c.tell_next.result track
    tells in
    record { stands = t.0; unchanged = t.1; stopped = t.2 }

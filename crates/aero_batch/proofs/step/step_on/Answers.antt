use Rattle.std.proofs.Common.{rules, ◌<◌, length, sym, subst, inr}
use Rattle.std.proofs.lemmas.List.{length-map}
use Rattle.aero_telling.specs.Founds.{sighted}
use Rattle.std.specs.Prelude.{slice_index_or}
use Rattle.std.proofs.lemmas.Option.{slice_get-get_or}
use Rattle.std.proofs.lemmas.Result.{on_ok_weaker}
use Rattle.aero_batch.proofs.Readers.{read_from, names_stay, others_stay}
use Rattle.aero_batch.proofs.step.step_on.Goals as goal

pub returns-then-underway-sources : goal.returns-then-underway-sources
returns-then-underway-sources g c =
    let sources = c.args.sources.now in
    let place = c.args.underway.now.read in
    let within : place < length sources = search rules in
    let x = slice_index_or sources place c.index-sources-underway.result in
    let at = slice_get-get_or sources place c.index-sources-underway.result within in
    let known = g.R.Followed.sight in
    record {
      steps = on_ok_weaker c.read_on.result (λ reads. inr
          (inr (record {
            before_read = _;
            after_read = _;
            reads = reads;
            from = read_from known sources place x c.read_on.new.reader at;
            may = search rules;
            unread = subst (λ n. place < n) (sym (length-map sources (sighted known))) within;
          }))) c.read_on.ensures.reads;
      names = names_stay known sources place x c.read_on.new.reader at c.read_on.ensures.place;
      others = others_stay known sources place x c.read_on.new.reader at;
      waits = λ stop some. absurd (search rules);
    }

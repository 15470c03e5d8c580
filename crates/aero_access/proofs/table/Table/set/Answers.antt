use Rattle.aero_access.specs.TableWords.{kept_of, labels_of}
use Rattle.aero_access.proofs.Labels.{labelled_set, placed_set, is_fresh}
use Rattle.aero_access.proofs.table.Table.set.Goals as goal

pub invariant_of-self : goal.invariant_of-self
invariant_of-self c =
    let fresh = is_fresh c.is_none-is_new.result c.get.result (kept_of c.args.self.now c.args.slot) c.get.ensures c.is_none-is_new.ensures in
    record {
      labelled = labelled_set c.keep_labelled.result (kept_of c.args.self.now) _ (labels_of c.args.self.now) c.keep_labelled.new.self.labels.items c.args.slot c.args.kept c.is_none-is_new.result c.args.self.now.labelled fresh
          c.keep_labelled.ensures.ok c.keep_labelled.ensures.err c.keep_labelled.ensures.labels_ok c.keep_labelled.ensures.labels_err;
      placed = placed_set c.keep_labelled.result (kept_of c.args.self.now) _ (labels_of c.args.self.now) c.keep_labelled.new.self.labels.items c.args.slot c.args.kept c.is_none-is_new.result c.args.self.now.labelled c.args.self.now.placed fresh
          c.requires.label c.keep_labelled.ensures.ok c.keep_labelled.ensures.err c.keep_labelled.ensures.labels_ok c.keep_labelled.ensures.labels_err;
    }

pub invariant_of-self-in-Some : goal.invariant_of-self-in-Some
invariant_of-self-in-Some c =
    let fresh = is_fresh c.is_none-is_new.result c.get.result (kept_of c.args.self.now c.args.slot) c.get.ensures c.is_none-is_new.ensures in
    record {
      labelled = labelled_set c.keep_labelled.result (kept_of c.args.self.now) _ (labels_of c.args.self.now) c.keep_labelled.new.self.labels.items c.args.slot c.args.kept c.is_none-is_new.result c.args.self.now.labelled fresh
          c.keep_labelled.ensures.ok c.keep_labelled.ensures.err c.keep_labelled.ensures.labels_ok c.keep_labelled.ensures.labels_err;
      placed = placed_set c.keep_labelled.result (kept_of c.args.self.now) _ (labels_of c.args.self.now) c.keep_labelled.new.self.labels.items c.args.slot c.args.kept c.is_none-is_new.result c.args.self.now.labelled c.args.self.now.placed fresh
          c.requires.label c.keep_labelled.ensures.ok c.keep_labelled.ensures.err c.keep_labelled.ensures.labels_ok c.keep_labelled.ensures.labels_err;
    }

pub invariant_of-self-in_default : goal.invariant_of-self-in_default
invariant_of-self-in_default c =
    let fresh = is_fresh c.is_none-is_new.result c.get.result (kept_of c.args.self.now c.args.slot) c.get.ensures c.is_none-is_new.ensures in
    record {
      labelled = labelled_set c.keep_labelled.result (kept_of c.args.self.now) _ (labels_of c.args.self.now) c.keep_labelled.new.self.labels.items c.args.slot c.args.kept c.is_none-is_new.result c.args.self.now.labelled fresh
          c.keep_labelled.ensures.ok c.keep_labelled.ensures.err c.keep_labelled.ensures.labels_ok c.keep_labelled.ensures.labels_err;
      placed = placed_set c.keep_labelled.result (kept_of c.args.self.now) _ (labels_of c.args.self.now) c.keep_labelled.new.self.labels.items c.args.slot c.args.kept c.is_none-is_new.result c.args.self.now.labelled c.args.self.now.placed fresh
          c.requires.label c.keep_labelled.ensures.ok c.keep_labelled.ensures.err c.keep_labelled.ensures.labels_ok c.keep_labelled.ensures.labels_err;
    }

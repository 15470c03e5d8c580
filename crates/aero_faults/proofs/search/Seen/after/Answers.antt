use Rattle.std.proofs.Common.{◌∙◌, [], ◌∷◌, ◌++◌, ap, subst}
use Rattle.aero_model.specs.Named.{Named}
use Rattle.aero_faults.specs.Firsts.{IsFound, is_sought}
use Rattle.aero_faults.specs.Holders.{IsHolder}
use Rattle.aero_faults.specs.Opened.{AreOpen}
use Rattle.aero_faults.specs.Searches.{IsSeen}
use Rattle.aero_faults.specs.declared.first.Sought.TheVariants.{Joins, Starts}
use Rattle.aero_faults.proofs.search.Seen.after.Goals as goal

pub returns-in_ok-holder-in-Lock : goal.returns-in_ok-holder-in-Lock
returns-in_ok-holder-in-Lock c = λ before is.
    subst (λ t. IsHolder t before c.in-Lock.holder → IsHolder t (before ++ (c.args.line, c.args.event.now) ∷ []) c.in_ok-holder-in-Lock.holder) c.target_of.ensures
    (c.in_ok-holder-in-Lock.ensures before) (subst (IsSeen c.args.sought.now before) c.in-Lock.is is)

pub returns-in_ok-first-in-Joins : goal.returns-in_ok-first-in-Joins
returns-in_ok-first-in-Joins c = λ before is.
    subst (λ t. IsFound (is_sought Joins t) t before c.in-Joins.first → IsFound (is_sought Joins t) t (before ++ (c.args.line, c.args.event.now) ∷ []) c.in_ok-first-in-Joins.first)
    (c.bytes-thread.ensures ∙ ap (λ (e : Named). e.thread) c.sought.view_is)
    (c.in_ok-first-in-Joins.ensures before) (subst (IsSeen c.args.sought.now before) c.in-Joins.is is)

pub returns-in_ok-first-in-Starts : goal.returns-in_ok-first-in-Starts
returns-in_ok-first-in-Starts c = λ before is.
    subst (λ t. IsFound (is_sought Starts t) t before c.in-Starts.first → IsFound (is_sought Starts t) t (before ++ (c.args.line, c.args.event.now) ∷ []) c.in_ok-first-in-Starts.first)
    c.target_of-target.ensures (c.in_ok-first-in-Starts.ensures before) (subst (IsSeen c.args.sought.now before) c.in-Starts.is is)

pub returns-in_ok-count-in-Blocks : goal.returns-in_ok-count-in-Blocks
returns-in_ok-count-in-Blocks c = λ before is.
    subst (λ t. AreOpen t before c.in-Blocks.count → AreOpen t (before ++ (c.args.line, c.args.event.now) ∷ []) c.in_ok-count-in-Blocks.count)
    (c.bytes-thread.ensures ∙ ap (λ (e : Named). e.thread) c.sought.view_is)
    (c.in_ok-count-in-Blocks.ensures before) (subst (IsSeen c.args.sought.now before) c.in-Blocks.is is)

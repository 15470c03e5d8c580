use Rattle.aero_witness.proofs.Thinned.{all_cut}
use Rattle.aero_witness.proofs.ThinnedCycles.{telling_trace, telling_kept}
use Rattle.aero_witness.proofs.laws.what_is_kept_has_telling_cycles_of_its_trace.Goals as goal

pub returns : goal.returns
returns c = λ trace kept places v w vs ws thin at ats.
    let cut = all_cut trace kept places thin in
    (telling_trace trace kept places thin _ _ cut v w vs ws at ats, telling_kept trace kept places thin _ _ cut v w vs ws at ats)

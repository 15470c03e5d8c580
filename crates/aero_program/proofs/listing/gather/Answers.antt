use Rattle.std.proofs.Common.{rules, ◌≡◌, ◌<◌, ◌+◌, ◌^◌, ◌∙◌, ap, ap₂, sym, subst, arith, take, cond, ℕ, Ok}
use Rattle.std.specs.Io.KnownBytes.{Consumes}
use Rattle.std.specs.List.{count_by}
use Rattle.std.proofs.KnownBytes.{Consumes-trans}
use Rattle.std.proofs.lemmas.List.Sums.{sum_by-append}
use Rattle.std.specs.IoError.{raw_os_error}
use Rattle.aero_program.specs.Inputs.{bytes_left, reason_of, standing_of}
use Rattle.aero_program.specs.Listing.{is_name_end}
use Rattle.aero_program.proofs.Gathering.{goes_on, goes_on_at_first, may_before, reason_stays, stands_ended, stands_failed, stands_many, stands_refused, stands_refused_by}
use Rattle.aero_program.proofs.Names.{names_ended}
use Rattle.aero_program.proofs.listing.gather.Goals as goal

pub returns-then-ends-gt-MOST_FILES-clause-fault : goal.returns-then-ends-gt-MOST_FILES-clause-fault
returns-then-ends-gt-MOST_FILES-clause-fault g c = λ none.
    let stdin = g.S.Read.remaining in
    let known = g.O.Opener.known in
    let file = g.O.File.Read.remaining in
    let list = c.extend_from_slice.new.self.items in
    let piece = take c.in-Ok.count c.read.new.buf in
    let both : count_by is_name_end list ≡ c.loop.ends + c.count_ends-ends.result =
    ap (count_by is_name_end) c.in_ok-extend_from_slice.ensures.items
    ∙ (sum_by-append (λ b. cond (is_name_end b) 1 0) c.loop.list.items piece
    ∙ ap₂ (λ (a b : ℕ). a + b) (sym c.loop.invariant.ends) (sym c.count_ends-ends.ensures)) in
    let ended = names_ended list in
    let more : 2 ^ 16 < c.loop.ends + c.count_ends-ends.result = c.if-ends-gt-MOST_FILES.true in
    record {
      list = list;
      left = bytes_left (standing_of stdin known file c.read.new.self);
      came = subst (Consumes (bytes_left (standing_of stdin known file c.args.input.now)) (bytes_left (standing_of stdin known file c.read.new.self))) (sym c.in_ok-extend_from_slice.ensures.items)
          (Consumes-trans (bytes_left (standing_of stdin known file c.args.input.now)) (bytes_left (standing_of stdin known file c.loop.input)) (bytes_left (standing_of stdin known file c.read.new.self)) c.loop.list.items piece
          c.loop.invariant.came c.in-Ok.ensures.bytes.0);
      many = omega (arith, both, ended, more);
    }

pub loop-preserved : goal.loop-preserved
loop-preserved g c =
    let stdin = g.S.Read.remaining in
    let known = g.O.Opener.known in
    let file = g.O.File.Read.remaining in
    let piece = take c.in-Ok.count c.read.new.buf in
    record {
      came = subst (Consumes (bytes_left (standing_of stdin known file c.args.input.now)) (bytes_left (standing_of stdin known file c.read.new.self))) (sym c.in_ok-extend_from_slice.ensures.items)
          (Consumes-trans (bytes_left (standing_of stdin known file c.args.input.now)) (bytes_left (standing_of stdin known file c.loop.input)) (bytes_left (standing_of stdin known file c.read.new.self)) c.loop.list.items piece
          c.loop.invariant.came c.in-Ok.ensures.bytes.0);
      may = λ m. c.loop.invariant.may (may_before g.O.Opener.can_open g.O.Opener.can_fail (standing_of stdin known file c.loop.input) (standing_of stdin known file c.read.new.self) c.read.new.buf c.read.result c.in-Ok.count c.in-Ok.is c.read.ensures.steps m);
      stream = goes_on g.O.Opener.can_open (standing_of stdin known file c.args.input.now) (standing_of stdin known file c.loop.input) (standing_of stdin known file c.read.new.self) c.read.new.buf c.read.result c.in-Ok.count c.in-Ok.is
          c.read.ensures.steps c.loop.invariant.stream;
      reason = c.in-Ok.ensures.reason ∙ reason_stays raw_os_error (reason_of c.loop.input) c.in-Ok.count ∙ c.loop.invariant.reason;
      ends = ap₂ (λ (a b : ℕ). a + b) c.loop.invariant.ends c.count_ends-ends.ensures
          ∙ sym (ap (count_by is_name_end) c.in_ok-extend_from_slice.ensures.items ∙ sum_by-append (λ b. cond (is_name_end b) 1 0) c.loop.list.items piece);
      few = let no_more = c.if-ends-gt-MOST_FILES.false in omega (arith, no_more);
    }

pub returns-in-Ok-eq0-clause-stream : goal.returns-in-Ok-eq0-clause-stream
returns-in-Ok-eq0-clause-stream g c =
    let stdin = g.S.Read.remaining in
    let known = g.O.Opener.known in
    let file = g.O.File.Read.remaining in
    stands_ended g.O.Opener.can_open (standing_of stdin known file c.args.input.now) (standing_of stdin known file c.loop.input) (standing_of stdin known file c.read.new.self) c.read.new.buf c.read.result _
    (c.in-Ok-eq0.is ∙ ap Ok c.in-Ok-eq0.field-0-test) (let some = c.requires.some in let kept = c.loop.auto.buffer in let same = c.read.auto.buf in omega (arith, some, kept, same))
    c.read.ensures.steps c.loop.invariant.stream

pub returns-in-Err-clause-stream : goal.returns-in-Err-clause-stream
returns-in-Err-clause-stream g c =
    let stdin = g.S.Read.remaining in
    let known = g.O.Opener.known in
    let file = g.O.File.Read.remaining in
    stands_failed _ g.O.Opener.can_open (standing_of stdin known file c.args.input.now) (standing_of stdin known file c.loop.input) (standing_of stdin known file c.read.new.self) c.read.new.buf c.read.result c.in-Err.error _ c.in-Err.is
    c.read.ensures.steps c.loop.invariant.stream

pub returns-in_err-extend_from_slice-clause-stream : goal.returns-in_err-extend_from_slice-clause-stream
returns-in_err-extend_from_slice-clause-stream g c =
    let stdin = g.S.Read.remaining in
    let known = g.O.Opener.known in
    let file = g.O.File.Read.remaining in
    stands_refused_by _ (standing_of stdin known file c.args.input.now) (standing_of stdin known file c.read.new.self) c.from_residual.result c.from_residual.ensures.1
    (goes_on g.O.Opener.can_open (standing_of stdin known file c.args.input.now) (standing_of stdin known file c.loop.input) (standing_of stdin known file c.read.new.self) c.read.new.buf c.read.result c.in-Ok.count c.in-Ok.is
    c.read.ensures.steps c.loop.invariant.stream)

pub returns-then-ends-gt-MOST_FILES-clause-stream : goal.returns-then-ends-gt-MOST_FILES-clause-stream
returns-then-ends-gt-MOST_FILES-clause-stream g c =
    let stdin = g.S.Read.remaining in
    let known = g.O.Opener.known in
    let file = g.O.File.Read.remaining in
    stands_many _ (standing_of stdin known file c.args.input.now) (standing_of stdin known file c.read.new.self)
    (goes_on g.O.Opener.can_open (standing_of stdin known file c.args.input.now) (standing_of stdin known file c.loop.input) (standing_of stdin known file c.read.new.self) c.read.new.buf c.read.result c.in-Ok.count c.in-Ok.is
    c.read.ensures.steps c.loop.invariant.stream)

pub returns-clause-stream : goal.returns-clause-stream
returns-clause-stream g c =
    stands_refused _ (standing_of g.S.Read.remaining g.O.Opener.known g.O.File.Read.remaining c.args.input.now) (standing_of g.S.Read.remaining g.O.Opener.known g.O.File.Read.remaining c.loop.input) c.loop.invariant.stream

pub loop-init : goal.loop-init
loop-init g c = search (goes_on_at_first, rules)

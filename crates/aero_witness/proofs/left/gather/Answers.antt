use Rattle.aero_witness.specs.declared.kinds.Kind.TheVariants.{Threads, Forks, Joins, Writes, Reads, Releases}
use Rattle.aero_witness.proofs.Gathering.{own_bucket, bucket_drawn, gathered}
use Rattle.aero_witness.proofs.left.gather.Goals as goal

pub gather_bucket-requires-clause-bucket : goal.gather_bucket-requires-clause-bucket
gather_bucket-requires-clause-bucket c = (c.requires.buckets.0, own_bucket c.args.events.now c.requires.buckets.0 c.args.front.now Threads c.args.left.now.threads (c.requires.buckets.1 Threads))

pub gather_bucket-requires-2-clause-bucket : goal.gather_bucket-requires-2-clause-bucket
gather_bucket-requires-2-clause-bucket c = (c.requires.buckets.0, own_bucket c.args.events.now c.requires.buckets.0 c.args.front.now Forks c.args.left.now.forks (c.requires.buckets.1 Forks))

pub gather_bucket-requires-3-clause-bucket : goal.gather_bucket-requires-3-clause-bucket
gather_bucket-requires-3-clause-bucket c = (c.requires.buckets.0, own_bucket c.args.events.now c.requires.buckets.0 c.args.front.now Joins c.args.left.now.joins (c.requires.buckets.1 Joins))

pub gather_bucket-requires-4-clause-bucket : goal.gather_bucket-requires-4-clause-bucket
gather_bucket-requires-4-clause-bucket c = (c.requires.buckets.0, own_bucket c.args.events.now c.requires.buckets.0 c.args.front.now Writes c.args.left.now.writes (c.requires.buckets.1 Writes))

pub gather_bucket-requires-5-clause-bucket : goal.gather_bucket-requires-5-clause-bucket
gather_bucket-requires-5-clause-bucket c = (c.requires.buckets.0, own_bucket c.args.events.now c.requires.buckets.0 c.args.front.now Reads c.args.left.now.reads (c.requires.buckets.1 Reads))

pub gather_bucket-requires-6-clause-bucket : goal.gather_bucket-requires-6-clause-bucket
gather_bucket-requires-6-clause-bucket c = (c.requires.buckets.0, own_bucket c.args.events.now c.requires.buckets.0 c.args.front.now Releases c.args.left.now.releases (c.requires.buckets.1 Releases))

pub returns : goal.returns
returns c outer buckets =
    let trace = c.args.events.now in
    let front = c.args.front.now in
    let old = c.args.left.now in
    let l0 = c.args.arrivals.now.items in
    let l1 = c.gather_bucket.new.arrivals.items in
    let l2 = c.gather_bucket-2.new.arrivals.items in
    let l3 = c.gather_bucket-3.new.arrivals.items in
    let l4 = c.gather_bucket-4.new.arrivals.items in
    let l5 = c.gather_bucket-5.new.arrivals.items in
    let l6 = c.gather_bucket-6.new.arrivals.items in
    gathered trace outer front old (record { threads = c.gather_bucket.new.bucket; forks = c.gather_bucket-2.new.bucket; joins = c.gather_bucket-3.new.bucket; writes = c.gather_bucket-4.new.bucket; reads = c.gather_bucket-5.new.bucket; releases = c.gather_bucket-6.new.bucket }) l0 l1 l2 l3 l4 l5 l6 buckets
    (bucket_drawn trace outer front Threads old.threads c.gather_bucket.new.bucket l0 l1 (buckets Threads) c.in_ok-gather_bucket.ensures.same (c.in_ok-gather_bucket.ensures.drawn outer (own_bucket trace outer front Threads old.threads (buckets Threads))))
    (bucket_drawn trace outer front Forks old.forks c.gather_bucket-2.new.bucket l1 l2 (buckets Forks) c.in_ok-gather_bucket-2.ensures.same (c.in_ok-gather_bucket-2.ensures.drawn outer (own_bucket trace outer front Forks old.forks (buckets Forks))))
    (bucket_drawn trace outer front Joins old.joins c.gather_bucket-3.new.bucket l2 l3 (buckets Joins) c.in_ok-gather_bucket-3.ensures.same (c.in_ok-gather_bucket-3.ensures.drawn outer (own_bucket trace outer front Joins old.joins (buckets Joins))))
    (bucket_drawn trace outer front Writes old.writes c.gather_bucket-4.new.bucket l3 l4 (buckets Writes) c.in_ok-gather_bucket-4.ensures.same (c.in_ok-gather_bucket-4.ensures.drawn outer (own_bucket trace outer front Writes old.writes (buckets Writes))))
    (bucket_drawn trace outer front Reads old.reads c.gather_bucket-5.new.bucket l4 l5 (buckets Reads) c.in_ok-gather_bucket-5.ensures.same (c.in_ok-gather_bucket-5.ensures.drawn outer (own_bucket trace outer front Reads old.reads (buckets Reads))))
    (bucket_drawn trace outer front Releases old.releases c.gather_bucket-6.new.bucket l5 l6 (buckets Releases) c.in_ok-gather_bucket-6.ensures.same (c.in_ok-gather_bucket-6.ensures.drawn outer (own_bucket trace outer front Releases old.releases (buckets Releases))))

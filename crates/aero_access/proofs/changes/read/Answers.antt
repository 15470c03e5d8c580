use Rattle.std.specs.Prelude.{◌||◌}
use Rattle.aero_access.proofs.Outcomes.{neither}
use Rattle.aero_access.proofs.Indexing.{index_news}
use Rattle.aero_access.proofs.changes.read.Goals as goal

pub returns-clause-index : goal.returns-clause-index
returns-clause-index c =
    index_news c.args.threads.now c.read.new.threads c.args.table.now c.read.new.table c.args.index.now c.read.new.index c.list_news.new.index c.args.t (c.has_news-news.result || c.in_ok-closes.closes) c.read.ensures.same c.in_ok-closes.ensures.takes
    c.in_ok-closes.ensures.labels c.in_ok-list_news.ensures.listed c.list_news.ensures.same
    (λ quiet. let none = neither c.has_news-news.result c.in_ok-closes.closes quiet in c.in_ok-closes.ensures.still (c.has_news-news.ensures none.0) none.1)

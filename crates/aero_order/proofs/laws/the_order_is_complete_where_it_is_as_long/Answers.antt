use Rattle.aero_order.proofs.Lengths.{complete_by_length, length_by_complete}
use Rattle.aero_order.proofs.laws.the_order_is_complete_where_it_is_as_long.Goals as goal

pub returns : goal.returns
returns c = λ trace firsts edges order ok are leads g. (complete_by_length trace ok firsts are edges leads order g, length_by_complete trace ok firsts are edges leads order g)

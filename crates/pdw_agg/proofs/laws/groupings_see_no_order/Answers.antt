use Rattle.pdw_agg.proofs.MergeLaws.{finals-same, grouped-same, partials-same}
use Rattle.pdw_agg.proofs.laws.groupings_see_no_order.Goals as goal

pub returns : goal.returns
returns c = record { grouped = grouped-same; partials = partials-same; finals = finals-same }

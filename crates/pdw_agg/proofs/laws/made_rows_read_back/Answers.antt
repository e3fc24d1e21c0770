use Rattle.pdw_agg.proofs.MergeLaws.{finals-back, grouped-back, partials-back}
use Rattle.pdw_agg.proofs.laws.made_rows_read_back.Goals as goal

pub returns : goal.returns
returns c = record { grouped = grouped-back; partials = partials-back; finals = finals-back }

use Rattle.pdw_dms.proofs.AddsUpLemmas.{adds_up-always}
use Rattle.pdw_dms.proofs.laws.rows_add_up.Goals as goal

pub returns : goal.returns
returns c job placed events = adds_up-always job placed events

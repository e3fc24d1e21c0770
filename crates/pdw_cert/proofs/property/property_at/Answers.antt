use Rattle.std.proofs.Common.{sym}
use Rattle.pdw_cert.proofs.Properties.{hashed, whole}
use Rattle.pdw_cert.proofs.property.property_at.Goals as goal

pub returns-in-Some : goal.returns-in-Some
returns-in-Some c = hashed c.args.interesting.now c.args.place c.in-Some.column.now c.if-place-eq0.false (sym c.in-Some.ensures)

pub returns-in-None : goal.returns-in-None
returns-in-None c = whole c.args.interesting.now c.args.place c.whole_at.result c.if-place-eq0.false (sym c.in-None.ensures) c.whole_at.ensures

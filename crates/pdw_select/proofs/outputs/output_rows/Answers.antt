use Rattle.std.proofs.Common.{arith}
use Rattle.std.proofs.lemmas.Grind.{common_steps}
use Rattle.std.specs.List.{flat_map}
use Rattle.pdw_form.specs.Numbered.{outs_of}
use Rattle.pdw_select.proofs.OutputLemmas.{rows-read}
use Rattle.pdw_select.proofs.outputs.output_rows.Goals as goal

pub returns : goal.returns
returns c =
    let read = rows-read c.args.columns.now (outs_of c.args.items.now) c.in_ok-places.places.items c.in_ok-places.ensures (flat_map (λ bag. bag) c.args.bags.now) in
    grind (arith, common_steps, read)

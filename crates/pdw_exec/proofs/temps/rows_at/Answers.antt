use Rattle.std.proofs.Common.{[], slice_get, sym, ap, ◌∙◌}
use Rattle.pdw_exec.proofs.TempLemmas.{index-none}
use Rattle.pdw_move.specs.Placed.{rows_at}
use Rattle.pdw_exec.proofs.temps.rows_at.Goals as goal

pub returns-in-None : goal.returns-in-None
returns-in-None c =
    let bags = c.args.placed.now.nodes in
    let node = c.in-Compute.node in
    c.new.ensures ∙ sym (ap (rows_at c.args.placed.now) c.in-Compute.is ∙ index-none bags node [] (sym (c.in-None.ensures ∙ ap (λ bags. slice_get bags node) c.as_slice.ensures)))

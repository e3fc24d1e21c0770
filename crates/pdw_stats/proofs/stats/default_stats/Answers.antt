use Rattle.std.proofs.Common.{ap, ◌∙◌, sym, subst, map}
use Rattle.std.proofs.lemmas.List.{take_all}
use Rattle.pdw_stats.proofs.RangeLemmas.{IsInRange-usual_stats}
use Rattle.pdw_stats.specs.Stats.{IsInRange, usual_width}
use Rattle.pdw_stats.proofs.stats.default_stats.Goals as goal

pub returns-clause-range : goal.returns-clause-range
returns-clause-range c =
    let columns = c.as_slice-column-items.result.now in
    let all = c.loop-column.invariant
    ∙ ap (map (λ column. record { distinct = 100; width = usual_width column.kind })) (take_all c.loop-column.column-index columns c.loop-column-test.false ∙ c.as_slice-column-items.ensures) in
    subst (λ cols. IsInRange (record { rows = 1000; cols = cols })) (sym all) (IsInRange-usual_stats c.args.t.now)

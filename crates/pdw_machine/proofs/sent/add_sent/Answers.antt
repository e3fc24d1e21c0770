use Rattle.std.proofs.Common.{◌++◌, ◌∙◌, ap, arith}
use Rattle.std.specs.List.{count_by}
use Rattle.pdw_base.specs.Schema.{cell}
use Rattle.pdw_move.specs.Move.{reaches, receivers}
use Rattle.pdw_move.specs.Placed.{Row}
use Rattle.pdw_machine.specs.Ready.{node_at}
use Rattle.pdw_machine.proofs.SentLemmas.{count_by-map, sent_all, sent_more}
use Rattle.pdw_machine.proofs.sent.add_sent.Goals as goal

pub loop-at-preserved : goal.loop-at-preserved
loop-at-preserved c =
    let job = c.args.job.now in
    sent_more job c.args.source c.args.rows.now c.args.sent.now.items c.loop-at.sent.items c.push.new.self.items c.loop-at.at c.node_at-to.result c.count_to-count.result
    (omega (arith, c.nodes-nodes.ensures))
    (c.node_at-to.ensures ∙ ap (λ n. node_at n c.loop-at.at) c.nodes-nodes.ensures)
    (c.count_to-count.ensures
    ∙ ap (λ n. count_by (λ route. reaches n route c.node_at-to.result) c.as_slice.result.now) c.nodes-nodes.ensures
    ∙ ap (count_by (λ route. reaches job.nodes route c.node_at-to.result)) (c.as_slice.ensures.value ∙ c.in_ok-routes.ensures)
    ∙ count_by-map (λ route. reaches job.nodes route c.node_at-to.result) (λ (row : Row). receivers job.nodes job.mv c.args.source (cell job.columns row)) c.args.rows.now)
    c.loop-at.invariant c.in_ok-push.ensures.items

pub returns : goal.returns
returns c =
    c.loop-at.invariant ∙ ap (λ xs. c.args.sent.now.items ++ xs) (sent_all c.args.job.now c.args.source c.args.rows.now c.loop-at.at (omega (arith, c.nodes-nodes.ensures)))

use Rattle.pdw_least.proofs.FewNodes.{few-nodes, runs-within}
use Rattle.pdw_least.proofs.laws.short_runs_have_few_nodes.Goals as goal

pub returns : goal.returns
returns c = record { steps = λ groups costs plan made is short. runs-within groups costs plan made is short; few = λ groups costs plan made is short. few-nodes groups costs plan made is short }

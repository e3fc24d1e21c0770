use Rattle.std.proofs.Common.{◌≡◌, ◌∙◌, ◌∷◌, [], rules}
use Rattle.std.specs.Prelude.{codes}
use Rattle.pdw_run.proofs.WordLemmas.{three_items}
use Rattle.pdw_run.proofs.words.parse.Goals as goal

pub returns : goal.returns
returns c =
    let run : c.word-item.result ≡ codes "run" = search rules in
    let asked = c.in_ok-nodes.ensures in
    let items = three_items c.args.words.now _ _ _ c.in-len3.len_at_least c.in-len3.len_below c.word-item.is c.count-item.is c.script-item.is in
    record {
      some = asked.0;
      most = asked.1;
      form = items ∙ (λ i. run i ∷ asked.2 i ∷ c.script-item.result ∷ []);
    }

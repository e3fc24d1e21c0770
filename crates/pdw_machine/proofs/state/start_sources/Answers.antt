use Rattle.std.proofs.Common.{◌≡◌, map, [], ap, sym, ◌∙◌, add-one, ◌∷◌, ◌++◌}
use Rattle.std.proofs.lemmas.List.{map-append}
use Rattle.pdw_move.specs.Placed.{compute_nodes}
use Rattle.pdw_machine.specs.Machine.{start_source}
use Rattle.pdw_base.specs.declared.node.Node.TheVariants as node
use Rattle.pdw_machine.proofs.ListLemmas.{first_of_rest, rest_without_first}
use Rattle.pdw_machine.proofs.state.start_sources.Goals as goal

pub loop-number-preserved : goal.loop-number-preserved
loop-number-preserved c =
    let k = c.loop-number.number in
    let rows = first_of_rest c.args.placed.nodes c.loop-number.placed.nodes k c.remove.result [] c.loop-number.invariant.1 c.remove.ensures.item in
    let more = map-append (start_source c.args.nodes c.args.placed) (compute_nodes k) (node.Compute k ∷ []) in
    let made : c.new.result ≡ start_source c.args.nodes c.args.placed (node.Compute k) =
    c.new.ensures ∙ (λ i. record { node = node.Compute k; rows = rows i; count = 0; lanes = c.in_ok-lanes.ensures i }) in (
      c.in_ok-push.ensures.items
          ∙ ap (λ sources. sources ++ c.new.result ∷ []) c.loop-number.invariant.0
          ∙ ap (λ source. map (start_source c.args.nodes c.args.placed) (compute_nodes k) ++ source ∷ []) made
          ∙ sym more
          ∙ ap (λ m. map (start_source c.args.nodes c.args.placed) (compute_nodes m)) (sym (add-one k)),
      c.remove.ensures.rest ∙ rest_without_first c.args.placed.nodes c.loop-number.placed.nodes k c.loop-number.invariant.1,
      c.loop-number.invariant.2,
    )

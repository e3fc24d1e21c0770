-- The rows that are returned from the nodes of a site.
use Rattle.std.proofs.Common.{◌≡◌, ◌≢◌, ℕ, zero, suc, ◌≤◌, ◌==◌, Bool, true, false, List, [], ◌∷◌, ◌++◌, get_or, length, map, take, refl, sym, ap, ap₂, ◌∙◌, append-nil, arith, eqb-true, if◌then◌else◌}
use Rattle.std.proofs.Math.Seq.{take-suc}
use Rattle.std.proofs.lemmas.Grind.{flat_map-append}
use Rattle.std.proofs.lemmas.List.{take_all}
use Rattle.std.specs.List.{flat_map}
use Rattle.pdw_base.proofs.SameBagLaws.{SameBag-trans, SameBag-≡}
use Rattle.pdw_base.specs.SameBag.{SameBag}
use Rattle.pdw_base.specs.Schema.{Columns, cell}
use Rattle.pdw_base.specs.declared.node.Node.{Node}
use Rattle.pdw_base.specs.declared.node.Node.TheVariants as node
use Rattle.pdw_dms.specs.Moved.{IsThere}
use Rattle.pdw_dsql.specs.Sites.{made_within, rows_from}
use Rattle.pdw_dsql.specs.declared.steps.Site.TheVariants as site
use Rattle.pdw_dsql.specs.declared.steps.Site.{Site}
use Rattle.pdw_move.specs.Placed.{Row, all_nodes, compute_nodes, rows_at}
use Rattle.pdw_move.specs.declared.placed.Placed.{Placed}
use Rattle.pdw_rules.proofs.Together.{together-bags, together-lists, together-more, together-none, together-only}
use Rattle.pdw_rules.specs.Stands.{PlacedRows}
use Rattle.pdw_runner.proofs.Moving.{map-flat_map}
use Rattle.pdw_runner.proofs.NodeLists.{nodes-bags}
use Rattle.pdw_runner.specs.Starts.{ArePlaced}

-- the rows of all nodes, bag by bag
bags-first : (placed : Placed) (m : ℕ) → m ≤ length placed.nodes → flat_map (rows_at placed) (compute_nodes m) ≡ flat_map (λ bag. bag) (take m placed.nodes)
bags-first placed zero within = refl
bags-first placed (suc m) within =
    let id : List Row → List Row = λ bag. bag in
    together-more m (rows_at placed)
    ∙ ap₂ (λ xs ys. xs ++ ys) (bags-first placed m (omega (arith, within))) (sym (append-nil (rows_at placed (node.Compute m))))
    ∙ sym (flat_map-append id (take m placed.nodes) (get_or placed.nodes m [] ∷ []))
    ∙ ap (flat_map id) (sym (take-suc placed.nodes m [] (omega (arith, within))))

bags-all : (n : ℕ) (placed : Placed) → length placed.nodes ≡ n → flat_map (λ bag. bag) (placed.nodes ++ placed.control ∷ []) ≡ flat_map (rows_at placed) (all_nodes n)
bags-all n placed long =
    let id : List Row → List Row = λ bag. bag in
    flat_map-append id placed.nodes (placed.control ∷ [])
    ∙ ap (λ rows. rows ++ (placed.control ++ [])) (sym (bags-first placed n (omega (arith, long)) ∙ ap (flat_map id) (take_all n placed.nodes (omega (arith, long)))))
    ∙ sym (flat_map-append (rows_at placed) (compute_nodes n) (node.Control ∷ []))

-- the rows of a site's nodes
within-site : (n : ℕ) (s : Site) (rows : PlacedRows) → 1 ≤ n → flat_map (made_within s rows) (all_nodes n) ≡ rows_from n s rows
within-site n s rows some = flat_map-append (made_within s rows) (compute_nodes n) (node.Control ∷ []) ∙ by s
  where
    elsewhere : (k : ℕ) → k ≢ 0 → made_within site.First rows (node.Compute k) ≡ []
    elsewhere k other = first (k == 0) refl
      where
        first : (is : Bool) → (k == 0) ≡ is → (if is then rows (node.Compute k) else []) ≡ []
        first true is = absurd (other (eqb-true k 0 is))
        first false is = refl

    by : (s : Site) → flat_map (made_within s rows) (compute_nodes n) ++ (made_within s rows node.Control ++ []) ≡ rows_from n s rows
    by site.All = append-nil _ ∙ together-lists n (made_within site.All rows) rows (λ k less. refl)
    by site.First = append-nil _ ∙ together-only n 0 (made_within site.First rows) some (λ k less other. elsewhere k other)
    by site.Control = ap (λ first. first ++ (rows node.Control ++ [])) (together-none n (made_within site.Control rows) (λ k less. refl)) ∙ append-nil (rows node.Control)

pub returned-bags : (n : ℕ) (s : Site) (columns : Columns) (placed : Placed) (rows : PlacedRows) → 1 ≤ n → length placed.nodes ≡ n → ArePlaced n columns placed (made_within s rows)
    → SameBag (map (cell columns) (flat_map (λ bag. bag) (placed.nodes ++ placed.control ∷ []))) (rows_from n s rows)
returned-bags n s columns placed rows some long stands =
    SameBag-trans (SameBag-≡ (ap (map (cell columns)) (bags-all n placed long) ∙ map-flat_map (cell columns) (rows_at placed) (all_nodes n)))
    (SameBag-trans (nodes-bags n (λ place. map (cell columns) (rows_at placed place)) (made_within s rows) stands)
    (SameBag-≡ (within-site n s rows some)))

-- equal bags at the nodes that are there are returned as equal bags
pub rows_from-same : (n : ℕ) (s : Site) (rows others : PlacedRows) → 1 ≤ n → ((place : Node) → IsThere n place → SameBag (rows place) (others place)) → SameBag (rows_from n s rows) (rows_from n s others)
rows_from-same n site.All rows others some same = together-bags n rows others (λ k less. same (node.Compute k) less)
rows_from-same n site.First rows others some same = same (node.Compute 0) some
rows_from-same n site.Control rows others some same = same node.Control tt

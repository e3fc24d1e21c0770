-- Rows that are made at one node after the other.
use Rattle.std.proofs.Common.{◌≡◌, ℕ, ◌+◌, ◌<◌, List, [], ◌∷◌, ◌++◌, length, length-append, map, slice_index_or, sym, subst, arith, below_more}
use Rattle.std.proofs.lemmas.List.{get_or_append_left, get_or_push}
use Rattle.pdw_base.specs.SameBag.{SameBag}
use Rattle.pdw_base.specs.Schema.{Columns, cell}
use Rattle.pdw_base.specs.declared.node.Node.{Node}
use Rattle.pdw_base.specs.declared.node.Node.TheVariants as node
use Rattle.pdw_move.specs.Placed.{Row}
use Rattle.pdw_move.specs.declared.placed.Placed.{Placed}
use Rattle.pdw_rules.specs.Stands.{PlacedRows}
use Rattle.pdw_runner.specs.Starts.{ArePlaced}

module _ (columns : Columns) (rows : PlacedRows) where
  -- these bags stand for the rows of a node
  abbrev pub AreAt : Node → List Row → Type 0
  AreAt place bag = SameBag (map (cell columns) bag) (rows place)

  -- at so many compute nodes the rows are made
  pub record AreMade (bags : List (List Row)) (number : ℕ) : Type 0 where
    pub long : length bags ≡ number
    pub each : (k : ℕ) → k < number → AreAt (node.Compute k) (slice_index_or bags k [])

  pub made-more : (bags : List (List Row)) (number : ℕ) (bag : List Row) → AreMade bags number → AreAt (node.Compute number) bag → AreMade (bags ++ bag ∷ []) (number + 1)
  made-more bags number bag made here = record {
    long = omega (arith, length-append bags (bag ∷ []), made.long);
    each = below_more (λ k. AreAt (node.Compute k) (slice_index_or (bags ++ bag ∷ []) k [])) number
        (λ k less. subst (AreAt (node.Compute k)) (sym (get_or_append_left bags (bag ∷ []) [] k (omega (arith, less, made.long)))) (made.each k less))
        (subst (AreAt (node.Compute number)) (sym (get_or_push bags bag [] number made.long)) here);
  }

  pub made-all : (n : ℕ) (placed : Placed) → AreMade placed.nodes n → AreAt node.Control placed.control → ArePlaced n columns placed rows
  made-all n placed made control (node.Compute k) there = made.each k there
  made-all n placed made control node.Control there = control

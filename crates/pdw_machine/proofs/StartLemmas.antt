-- A fresh state: it has its shape, and nothing is on its way.
use Rattle.std.proofs.Common.{◌≡◌, ℕ, zero, suc, ◌<◌, false, List, [], ◌∷◌, length, map, replicate, get_or, refl, sym, ap, ◌∙◌, arith}
use Rattle.std.proofs.lemmas.List.{length-map, length-append}
use Rattle.pdw_base.specs.declared.node.Node.{Node}
use Rattle.pdw_base.specs.declared.node.Node.TheVariants as node
use Rattle.pdw_move.specs.declared.placed.Placed.{Placed}
use Rattle.pdw_move.specs.Placed.{all_nodes, compute_nodes}
use Rattle.pdw_machine.specs.Machine.{IsShaped, Source, can_copy, can_flush, no_source, start_lane, start_of, start_source, start_target}
use Rattle.pdw_machine.specs.Ready.{deliver_row, flush_row}

pub length-compute_nodes : (n : ℕ) → length (compute_nodes n) ≡ n
length-compute_nodes zero = refl
length-compute_nodes (suc n) = let rest = length-compute_nodes n in let all = length-append (compute_nodes n) (node.Compute n ∷ []) in omega arith

pub length-all_nodes : (n : ℕ) → length (all_nodes n) ≡ suc n
length-all_nodes n = let rest = length-compute_nodes n in let all = length-append (compute_nodes n) (node.Control ∷ []) in omega arith

-- what is the same for each item
pub map-constant : {X Y : Type 0} (f : X → Y) (y : Y) → ((x : X) → f x ≡ y) → (xs : List X) → map f xs ≡ replicate (length xs) y
map-constant f y same [] = refl
map-constant f y same (x ∷ xs) = ap (λ z. z ∷ map f xs) (same x) ∙ ap (λ ys. y ∷ ys) (map-constant f y same xs)

pub map-map : {X Y Z : Type 0} (f : Y → Z) (g : X → Y) (xs : List X) → map f (map g xs) ≡ map (λ x. f (g x)) xs
map-map f g [] = refl
map-map f g (x ∷ xs) = ap (λ ys. f (g x) ∷ ys) (map-map f g xs)

module _ (n : ℕ) (placed : Placed) where
  start-lanes : (nodes : List Node) (at : ℕ) → at < length nodes → length (get_or (map (start_source n placed) nodes) at no_source).lanes ≡ suc n
  start-lanes [] at within = absurd (omega arith)
  start-lanes (first ∷ nodes) zero within = length-map (all_nodes n) (start_lane first) ∙ length-all_nodes n
  start-lanes (first ∷ nodes) (suc at) within = start-lanes nodes at (omega arith)

  pub start-shaped : IsShaped n (start_of n placed)
  start-shaped = record {
    sources = length-map (all_nodes n) (start_source n placed) ∙ length-all_nodes n;
    targets = length-map (all_nodes n) start_target ∙ length-all_nodes n;
    lanes = λ at inside. let long = length-all_nodes n in start-lanes (all_nodes n) at (omega arith);
  }

  no_flush : (from : Node) → flush_row (start_source n placed from) ≡ replicate (suc n) false
  no_flush from =
      map-map can_flush (start_lane from) (all_nodes n)
      ∙ map-constant (λ to. can_flush (start_lane from to)) false (λ to. refl) (all_nodes n)
      ∙ ap (λ m. replicate m false) (length-all_nodes n)

  -- the grid of a fresh state
  pub start-flushes : replicate (suc n) (replicate (suc n) false) ≡ map flush_row (start_of n placed).sources
  start-flushes =
      sym (map-map flush_row (start_source n placed) (all_nodes n)
      ∙ map-constant (λ from. flush_row (start_source n placed from)) (replicate (suc n) false) no_flush (all_nodes n)
      ∙ ap (λ m. replicate m (replicate (suc n) false)) (length-all_nodes n))

  no_row : (from : Node) (to_lanes to_targets : List Node) → length to_lanes ≡ length to_targets
      → deliver_row (map (start_lane from) to_lanes) (map start_target to_targets) ≡ replicate (length to_lanes) false
  no_row from [] to_targets same = refl
  no_row from (to ∷ to_lanes) [] same = absurd (omega arith)
  no_row from (to ∷ to_lanes) (other ∷ to_targets) same = ap (λ flags. false ∷ flags) (no_row from to_lanes to_targets (omega arith))

  pub start-delivers : replicate (suc n) (replicate (suc n) false) ≡ map (λ (source : Source). deliver_row source.lanes (start_of n placed).targets) (start_of n placed).sources
  start-delivers =
      sym (map-map (λ (source : Source). deliver_row source.lanes (start_of n placed).targets) (start_source n placed) (all_nodes n)
      ∙ map-constant (λ from. deliver_row (map (start_lane from) (all_nodes n)) (map start_target (all_nodes n))) (replicate (suc n) false)
      (λ from. no_row from (all_nodes n) (all_nodes n) refl ∙ ap (λ m. replicate m false) (length-all_nodes n)) (all_nodes n)
      ∙ ap (λ m. replicate m (replicate (suc n) false)) (length-all_nodes n))

  pub start-copies : replicate (suc n) false ≡ map can_copy (start_of n placed).targets
  start-copies =
      sym (map-map can_copy start_target (all_nodes n)
      ∙ map-constant (λ to. can_copy (start_target to)) false (λ to. refl) (all_nodes n)
      ∙ ap (λ m. replicate m false) (length-all_nodes n))

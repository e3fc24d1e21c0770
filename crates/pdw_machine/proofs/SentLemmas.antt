-- The counts of what goes from a source, target by target.
use Rattle.std.proofs.Common.{◌≡◌, ℕ, suc, ◌+◌, ◌<◌, Bool, cond, List, [], ◌∷◌, ◌++◌, map, take, refl, sym, ap, ◌∙◌, append_assoc, arith}
use Rattle.std.specs.List.{count_by, fold}
use Rattle.std.proofs.lemmas.List.{length-map, get_or-map, take_all, take_more}
use Rattle.pdw_base.specs.declared.node.Node.{Node}
use Rattle.pdw_base.specs.declared.node.Node.TheVariants as node
use Rattle.pdw_move.specs.Placed.{Row, all_nodes}
use Rattle.pdw_machine.specs.Machine.{Job, goes, sent_from}
use Rattle.pdw_machine.specs.Ready.{node_at}
use Rattle.pdw_machine.proofs.EventLemmas.{get_or-all_nodes}
use Rattle.pdw_machine.proofs.StartLemmas.{length-all_nodes}

fold-map : {X Y Z : Type 0} (g : Z → Y → Z) (f : X → Y) (start : Z) (xs : List X) → fold g start (map f xs) ≡ fold (λ z x. g z (f x)) start xs
fold-map g f start [] = refl
fold-map g f start (x ∷ xs) = fold-map g f (g start (f x)) xs

pub count_by-map : {X Y : Type 0} (test : Y → Bool) (f : X → Y) (xs : List X) → count_by test (map f xs) ≡ count_by (λ x. test (f x)) xs
count_by-map test f xs = fold-map (λ (n : ℕ) y. n + cond (test y) 1 0) f 0 xs

module _ (job : Job) (source : Node) (rows : List Row) where
  pub sent_more : (old before now : List (Node × Node × ℕ)) (at : ℕ) (to : Node) (count : ℕ) → at < suc job.nodes
      → to ≡ node_at job.nodes at → count ≡ count_by (goes job source to) rows
      → before ≡ old ++ take at (sent_from job source rows) → now ≡ before ++ (source, to, count) ∷ [] → now ≡ old ++ take (at + 1) (sent_from job source rows)
  sent_more old before now at to count within here counted was done =
      let all = sent_from job source rows in
      let entry : Node → Node × Node × ℕ = λ j. (source, j, count_by (goes job source j) rows) in
      let long = length-map (all_nodes job.nodes) entry in
      let nodes_long = length-all_nodes job.nodes in
      let item = get_or-map entry (all_nodes job.nodes) at node.Control (source, to, count) (omega arith) ∙ ap entry (get_or-all_nodes job.nodes at node.Control within ∙ sym here) in
      done
      ∙ ap (λ xs. xs ++ (source, to, count) ∷ []) was
      ∙ append_assoc old (take at all) ((source, to, count) ∷ [])
      ∙ ap (λ (m : ℕ). old ++ (take at all ++ (source, to, m) ∷ [])) counted
      ∙ ap (λ x. old ++ (take at all ++ x ∷ [])) (sym item)
      ∙ ap (λ xs. old ++ xs) (sym (take_more all at (source, to, count) (omega arith)))

  pub sent_all : (at : ℕ) → suc job.nodes ≡ at → take at (sent_from job source rows) ≡ sent_from job source rows
  sent_all at end =
      let entry : Node → Node × Node × ℕ = λ j. (source, j, count_by (goes job source j) rows) in
      let long = length-map (all_nodes job.nodes) entry in
      let nodes_long = length-all_nodes job.nodes in
      take_all at (sent_from job source rows) (omega arith)

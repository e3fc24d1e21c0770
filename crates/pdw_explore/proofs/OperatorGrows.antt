-- Operators and groupings of a written tree become those at other levels.
use Rattle.std.proofs.Common.{◌≡◌, ℕ, ◌+◌, ◌-◌, ◌<◌, ◌≤◌, List, [], ◌∷◌, ◌++◌, length, map, Some, refl, sym, ap, ap₂, subst, ◌∙◌, arith, append_assoc, length-append}
use Rattle.std.specs.List.{AllByRecursion, slice_get}
use Rattle.std.specs.Option.{option_map}
use Rattle.std.proofs.lemmas.List.{length-map, map-append}
use Rattle.pdw_algebra.specs.declared.tree.Tree.{Tree}
use Rattle.pdw_algebra.specs.declared.tree.Tree.TheVariants as tree
use Rattle.pdw_base.specs.Schema.{Columns}
use Rattle.pdw_base.specs.declared.schema.ColId.{ColId}
use Rattle.pdw_catalog.specs.Catalog.{Tables}
use Rattle.pdw_expr.specs.declared.agg.Agg.{Agg}
use Rattle.pdw_explore.proofs.GrowLaws.{Finds, Goes, Holds, Moved, after, finds-map, finds-range, goes-append, goes-one, kept, moved-more}
use Rattle.pdw_explore.proofs.InTurn.{GoesNode, GrowAll, Grows, HasSchema, Starts, all-blocks, all-count, all-operators, at_levels, in-turn, most, passed-starts}
use Rattle.pdw_explore.specs.Grown.{renumbered_expr}
use Rattle.pdw_explore.specs.declared.grown.Grown.{Grown}
use Rattle.pdw_groups.proofs.OrderLaws.{at-end, at-left}
use Rattle.pdw_groups.specs.Columns.{interesting_in, partial_schema}
use Rattle.pdw_groups.specs.Group.{Child, ExprOf, GroupOf, id_of, kept_expr, kept_group}
use Rattle.pdw_groups.specs.Memo.{all_written}
use Rattle.pdw_groups.specs.Node.{Before, Node, groups_in_turn, grouping_exprs, grouping_node, operator_node, own_group, own_in_turn, partial_group, passed, passed_all, schema_of_tree, whole_group}
use Rattle.pdw_groups.specs.declared.block.BlockPart.{BlockPart}
use Rattle.pdw_groups.specs.declared.block.Level.{Level}
use Rattle.pdw_groups.specs.declared.group.Group.{Group}
use Rattle.pdw_groups.specs.declared.key.GroupId.{GroupId}
use Rattle.pdw_groups.specs.declared.key.GroupKey.TheVariants as key
use Rattle.pdw_groups.specs.declared.op.Op.{Op}
use Rattle.pdw_groups.specs.declared.op.Op.TheVariants as op

module _ (tables : Tables) (blocks : List BlockPart) (levels : List Level) (useful : List ColId) where
  -- ---- the last of some groups

  -- the last of these groups has the number of the last of those, and this schema
  pub record Ends (grown : Grown) (olds news : List GroupOf) (added : List GroupId) (columns : Columns) : Type 0 where
    pub own : slice_get (grown.numbers ++ added) ((length grown.numbers + length olds) - 1) ≡ Some (record { 0 = (length grown.groups + length news) - 1 })
    pub schema : HasSchema (grown.groups ++ kept blocks levels useful news) ((length grown.groups + length news) - 1) columns

  pub ends-append : (grown : Grown) (o1 o2 n1 n2 : List GroupOf) (a1 a2 : List GroupId) (columns : Columns) → length a1 ≡ length o1 → Ends (after blocks levels useful grown n1 a1) o2 n2 a2 columns
      → Ends grown (o1 ++ o2) (n1 ++ n2) (a1 ++ a2) columns
  ends-append grown o1 o2 n1 n2 a1 a2 columns each second =
      let numbers = length-append grown.numbers a1 in
      let groups = length-append grown.groups (kept blocks levels useful n1) in
      let kept_length = length-map n1 (kept_group useful) in
      let olds = length-append o1 o2 in
      let news = length-append n1 n2 in
      let old : (length grown.numbers + length (o1 ++ o2)) - 1 ≡ (length (grown.numbers ++ a1) + length o2) - 1 = omega (arith, numbers, olds, each) in
      let new : (length grown.groups + length (n1 ++ n2)) - 1 ≡ (length (grown.groups ++ kept blocks levels useful n1) + length n2) - 1 = omega (arith, groups, kept_length, news) in
      record {
        own = ap₂ slice_get (sym (append_assoc grown.numbers a1 a2)) old ∙ second.own ∙ ap (λ n. Some (record { 0 = n })) (sym new);
        schema =
            ap₂ (λ gs n. option_map (λ (g : Group). g.schema) (slice_get gs n))
            (ap (λ gs. grown.groups ++ gs) (map-append (kept_group useful) n1 n2) ∙ sym (append_assoc grown.groups (kept blocks levels useful n1) (kept blocks levels useful n2))) new
            ∙ second.schema;
      }

  pub ends-one : (grown : Grown) (old new : GroupOf) → Ends grown (old ∷ []) (new ∷ []) (record { 0 = length grown.groups } ∷ []) new.schema
  ends-one grown old new =
      let numbers : (length grown.numbers + 1) - 1 ≡ length grown.numbers = omega arith in
      let groups : (length grown.groups + 1) - 1 ≡ length grown.groups = omega arith in
      record {
        own = ap (slice_get (grown.numbers ++ record { 0 = length grown.groups } ∷ [])) numbers ∙ at-end grown.numbers (record { 0 = length grown.groups }) [] ∙ ap (λ n. Some (record { 0 = n })) (sym groups);
        schema = ap (option_map (λ (g : Group). g.schema)) (ap (slice_get (grown.groups ++ kept_group useful new ∷ [])) groups ∙ at-end grown.groups (kept_group useful new) []);
      }

  -- a node whose groups end so
  pub node-from : (old new : Node) (bo bn : Before) (grown : Grown) → Starts bo bn grown → (added : List GroupId) → Goes blocks levels useful grown (old.groups bo) (new.groups bn) added
      → Ends grown (old.groups bo) (new.groups bn) added (schema_of_tree tables (at_levels tables blocks levels useful) new.tree) → Moved blocks levels (grown.numbers ++ added) bo.blocks (old.parts bo) (new.parts bn)
      → 1 ≤ length (new.groups bn) → GoesNode tables blocks levels useful old new bo bn grown
  node-from old new bo bn grown starts added goes ends moved some = record {
    added = added;
    goes = goes;
    own =
        ap (λ n. slice_get (grown.numbers ++ added) ((n + length (old.groups bo)) - 1)) starts.old ∙ ends.own
        ∙ ap (λ n. Some (record { 0 = (n + length (new.groups bn)) - 1 })) (sym starts.new);
    schema = ap (λ n. option_map (λ (g : Group). g.schema) (slice_get (grown.groups ++ kept blocks levels useful (new.groups bn)) ((n + length (new.groups bn)) - 1))) starts.new ∙ ends.schema;
    moved = moved;
    some = some;
  }

  -- ---- groups of operators

  abbrev l : ℕ → Level
  l = at_levels tables blocks levels useful

  -- the same operator over children with their new numbers
  pub one-renumbered : (numbers : List GroupId) (operator : Op) (olds news : List Child) → Finds numbers (map id_of olds) (map id_of news)
      → map (renumbered_expr numbers) (map kept_expr (record { operator = operator; children = olds } ∷ [])) ≡ map kept_expr (record { operator = operator; children = news } ∷ [])
  one-renumbered numbers operator olds news found = ap (λ children. record { op = operator; children = children } ∷ []) (finds-map numbers (map id_of olds) (map id_of news) found)

  whole-goes : (grown : Grown) (mo mn : ℕ) (to tn : Tree) (eo en : List ExprOf) → mo ≡ mn → to ≡ tn → length grown.groups < most
      → AllByRecursion (λ expr. AllByRecursion (λ child. child.0 < length grown.numbers) expr.children) (map kept_expr eo)
      → map (renumbered_expr grown.numbers) (map kept_expr eo) ≡ map kept_expr en
      → Goes blocks levels useful grown (whole_group tables all_written mo to eo ∷ []) (whole_group tables l mn tn en ∷ []) (record { 0 = length grown.groups } ∷ [])
  whole-goes grown mo mn to tn eo en numbers trees room children exprs =
      goes-one blocks levels useful grown (whole_group tables all_written mo to eo) (whole_group tables l mn tn en) refl (record { children = children; room = room })
      (λ i. record {
        key = key.Whole (numbers i);
        schema = schema_of_tree tables l (trees i);
        interesting = interesting_in useful (schema_of_tree tables l (trees i));
        exprs = exprs i;
      })

  one-more : (xs : List GroupOf) (x : GroupOf) → 1 ≤ length (xs ++ x ∷ [])
  one-more xs x = let all = length-append xs (x ∷ []) in omega (arith, all)

  pub operator-grows : (to tn : Tree) (operator : Op) (olds news : List Node) → to ≡ tn → GrowAll tables blocks levels useful olds news
      → Grows tables blocks levels useful (operator_node tables all_written to operator olds) (operator_node tables l tn operator news)
  operator-grows to tn operator olds news same all = record {
    tree = same;
    blocks_same = all-blocks tables blocks levels useful olds news all;
    operators = ap (λ n. n + 1) (all-operators tables blocks levels useful olds news all);
    count = all-count tables blocks levels useful olds news all;
    node = operator-node;
  }
    where
      operator-node : (bo bn : Before) (grown : Grown) → Starts bo bn grown → Holds blocks bo.blocks ((operator_node tables all_written to operator olds).parts bo)
          → bn.groups + length ((operator_node tables l tn operator news).groups bn) < most
          → GoesNode tables blocks levels useful (operator_node tables all_written to operator olds) (operator_node tables l tn operator news) bo bn grown
      operator-node bo bn grown starts holds room =
          let mo = (passed_all bo olds).operators in
          let mn = (passed_all bn news).operators in
          let eo : List ExprOf = record { operator = operator; children = own_in_turn olds bo } ∷ [] in
          let en : List ExprOf = record { operator = operator; children = own_in_turn news bn } ∷ [] in
          let go = whole_group tables all_written mo to eo in
          let gn = whole_group tables l mn tn en in
          let sum = length-append (groups_in_turn news bn) (gn ∷ []) in
          let less : bn.groups + length (groups_in_turn news bn) < most = omega (arith, sum, room) in
          let turn = in-turn tables blocks levels useful olds news all bo bn grown starts holds less in
          let next = after blocks levels useful grown (groups_in_turn news bn) turn.added in
          let count = length-append grown.groups (kept blocks levels useful (groups_in_turn news bn)) in
          let kept_length = length-map (groups_in_turn news bn) (kept_group useful) in
          let room_next : length next.groups < most = omega (arith, sum, room, starts.new, count, kept_length) in
          let one = whole-goes next mo mn to tn eo en turn.starts.operators same room_next (finds-range next.numbers (map id_of (own_in_turn olds bo)) (map id_of (own_in_turn news bn)) turn.own, tt)
          (one-renumbered next.numbers operator (own_in_turn olds bo) (own_in_turn news bn) turn.own) in
          let id : GroupId = record { 0 = length next.groups } in
          node-from (operator_node tables all_written to operator olds) (operator_node tables l tn operator news) bo bn grown starts (turn.added ++ id ∷ [])
          (goes-append blocks levels useful grown (groups_in_turn olds bo) (go ∷ []) (groups_in_turn news bn) (gn ∷ []) turn.added (id ∷ []) turn.goes one)
          (ends-append grown (groups_in_turn olds bo) (go ∷ []) (groups_in_turn news bn) (gn ∷ []) turn.added (id ∷ []) gn.schema turn.goes.each (ends-one next go gn))
          (subst (λ ns. Moved blocks levels ns bo.blocks ((operator_node tables all_written to operator olds).parts bo) ((operator_node tables l tn operator news).parts bn)) (append_assoc grown.numbers turn.added (id ∷ []))
          (moved-more blocks levels (grown.numbers ++ turn.added) (id ∷ []) bo.blocks _ _ turn.moved))
          (one-more (groups_in_turn news bn) gn)

  -- ---- groupings

  pub grouping-grows : (keys : List ColId) (aggs : List Agg) (old new : Node) → Grows tables blocks levels useful old new
      → Grows tables blocks levels useful (grouping_node tables all_written keys aggs old) (grouping_node tables l keys aggs new)
  grouping-grows keys aggs old new grows = record {
    tree = ap (tree.GroupBy keys aggs) grows.tree;
    blocks_same = grows.blocks_same;
    operators = ap (λ n. n + 1) grows.operators;
    count = grows.count;
    node = grouping-node;
  }
    where
      grouping-node : (bo bn : Before) (grown : Grown) → Starts bo bn grown → Holds blocks bo.blocks (old.parts bo)
          → bn.groups + length ((grouping_node tables l keys aggs new).groups bn) < most
          → GoesNode tables blocks levels useful (grouping_node tables all_written keys aggs old) (grouping_node tables l keys aggs new) bo bn grown
      grouping-node bo bn grown starts holds room =
          let mo = (passed bo old).operators in
          let mn = (passed bn new).operators in
          let po = partial_group tables all_written mo keys aggs old.tree (own_group bo old) in
          let pn = partial_group tables l mn keys aggs new.tree (own_group bn new) in
          let to = tree.GroupBy keys aggs old.tree in
          let tn = tree.GroupBy keys aggs new.tree in
          let co : Child = record { number = (passed bo old).groups; means = po.means } in
          let cn : Child = record { number = (passed bn new).groups; means = pn.means } in
          let eo = grouping_exprs tables all_written keys aggs (own_group bo old) co in
          let en = grouping_exprs tables l keys aggs (own_group bn new) cn in
          let go = whole_group tables all_written mo to eo in
          let gn = whole_group tables l mn tn en in
          let sum = length-append (new.groups bn) (pn ∷ gn ∷ []) in
          let less : bn.groups + length (new.groups bn) < most = omega (arith, sum, room) in
          let first = grows.node bo bn grown starts holds less in
          let s1 = after blocks levels useful grown (new.groups bn) first.added in
          let passes = passed-starts tables blocks levels useful old new bo bn grown starts grows first in
          let room1 : length s1.groups < most = omega (arith, sum, room, passes.new) in
          let own : Finds s1.numbers (map id_of (own_group bo old ∷ [])) (map id_of (own_group bn new ∷ [])) = (first.own, tt) in
          let id1 : GroupId = record { 0 = length s1.groups } in
          let partial = goes-one blocks levels useful s1 po pn refl (record { children = (finds-range s1.numbers (map id_of (own_group bo old ∷ [])) (map id_of (own_group bn new ∷ [])) own, tt); room = room1 })
          (λ i. record {
            key = key.Partial (passes.operators i);
            schema = partial_schema keys aggs (schema_of_tree tables l (grows.tree i));
            interesting = interesting_in useful (partial_schema keys aggs (schema_of_tree tables l (grows.tree i)));
            exprs = one-renumbered s1.numbers (op.Partial keys aggs) (own_group bo old ∷ []) (own_group bn new ∷ []) own i;
          }) in
          let s2 = after blocks levels useful s1 (pn ∷ []) (id1 ∷ []) in
          let count2 = length-append s1.groups (kept_group useful pn ∷ []) in
          let room2 : length s2.groups < most = omega (arith, sum, room, passes.new, count2) in
          let own2 : Finds s2.numbers (map id_of (own_group bo old ∷ [])) (map id_of (own_group bn new ∷ [])) = (at-left s1.numbers (id1 ∷ []) (own_group bo old).number (id_of (own_group bn new)) first.own, tt) in
          let part2 : Finds s2.numbers (map id_of (co ∷ [])) (map id_of (cn ∷ [])) =
          (ap (slice_get s2.numbers) passes.old ∙ at-end s1.numbers id1 [] ∙ ap (λ n. Some (record { 0 = n })) (sym passes.new), tt) in
          let whole = whole-goes s2 mo mn to tn eo en passes.operators (ap (tree.GroupBy keys aggs) grows.tree) room2
          (finds-range s2.numbers (map id_of (own_group bo old ∷ [])) (map id_of (own_group bn new ∷ [])) own2, (finds-range s2.numbers (map id_of (co ∷ [])) (map id_of (cn ∷ [])) part2, tt))
          (ap₂ (λ a b. a ++ b) (one-renumbered s2.numbers (op.GroupBy keys aggs) (own_group bo old ∷ []) (own_group bn new ∷ []) own2) (one-renumbered s2.numbers (op.Final keys aggs) (co ∷ []) (cn ∷ []) part2)) in
          let id2 : GroupId = record { 0 = length s2.groups } in
          let both = goes-append blocks levels useful s1 (po ∷ []) (go ∷ []) (pn ∷ []) (gn ∷ []) (id1 ∷ []) (id2 ∷ []) partial whole in
          let ends = ends-append s1 (po ∷ []) (go ∷ []) (pn ∷ []) (gn ∷ []) (id1 ∷ []) (id2 ∷ []) gn.schema refl (ends-one s2 go gn) in
          let some : 1 ≤ length ((grouping_node tables l keys aggs new).groups bn) = omega (arith, sum) in
          node-from (grouping_node tables all_written keys aggs old) (grouping_node tables l keys aggs new) bo bn grown starts (first.added ++ (id1 ∷ id2 ∷ []))
          (goes-append blocks levels useful grown (old.groups bo) (po ∷ go ∷ []) (new.groups bn) (pn ∷ gn ∷ []) first.added (id1 ∷ id2 ∷ []) first.goes both)
          (ends-append grown (old.groups bo) (po ∷ go ∷ []) (new.groups bn) (pn ∷ gn ∷ []) first.added (id1 ∷ id2 ∷ []) gn.schema first.goes.each ends)
          (subst (λ ns. Moved blocks levels ns bo.blocks (old.parts bo) (new.parts bn)) (append_assoc grown.numbers first.added (id1 ∷ id2 ∷ []))
          (moved-more blocks levels (grown.numbers ++ first.added) (id1 ∷ id2 ∷ []) bo.blocks (old.parts bo) (new.parts bn) first.moved))
          some

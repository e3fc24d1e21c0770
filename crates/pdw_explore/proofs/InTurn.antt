-- Nodes of a written tree beside those of the same tree at other levels, one after the other.
use Rattle.std.proofs.Common.{◌≡◌, ℕ, ◌+◌, ◌^◌, ◌<◌, ◌≤◌, List, [], ◌∷◌, ◌++◌, fold, length, map, sum, Some, refl, sym, ap, ap₂, subst, ◌∙◌, arith, append_assoc, append-nil, length-append}
use Rattle.std.specs.Bool.{⊤}
use Rattle.std.specs.List.{AllByRecursion, slice_get}
use Rattle.std.specs.Option.{option_map}
use Rattle.std.proofs.lemmas.List.{length-map, map-append}
use Rattle.pdw_base.specs.Schema.{Columns}
use Rattle.pdw_base.specs.declared.schema.ColId.{ColId}
use Rattle.pdw_catalog.specs.Catalog.{Tables}
use Rattle.pdw_explore.proofs.GrowLaws.{Finds, Goes, Holds, Moved, after, goes-append, goes-none, holds-left, holds-right, kept, moved-append, moved-more}
use Rattle.pdw_explore.specs.Grown.{level_at}
use Rattle.pdw_explore.specs.declared.grown.Grown.{Grown}
use Rattle.pdw_groups.proofs.OrderLaws.{at-left, found}
use Rattle.pdw_groups.specs.Block.{BlockLeaf}
use Rattle.pdw_groups.specs.Group.{id_of, kept_group}
use Rattle.pdw_groups.specs.Node.{Before, Node, block_leaves, blocks_in, groups_in_turn, operators_in, own_group, own_in_turn, parts_in_turn, passed, passed_all, schema_of_tree}
use Rattle.pdw_groups.specs.Sets.{side_of}
use Rattle.pdw_groups.specs.declared.block.BlockPart.{BlockPart}
use Rattle.pdw_groups.specs.declared.block.Level.{Level}
use Rattle.pdw_groups.specs.declared.group.Group.{Group}
use Rattle.pdw_groups.specs.declared.key.GroupId.{GroupId}

abbrev pub most : ℕ
most = 2 ^ 31

-- what stands before a node in both memos, and what was made so far
pub record Starts (bo bn : Before) (grown : Grown) : Type 0 where
  pub blocks : bo.blocks ≡ bn.blocks
  pub operators : bo.operators ≡ bn.operators
  pub old : bo.groups ≡ length grown.numbers
  pub new : bn.groups ≡ length grown.groups

-- a group has this schema
abbrev pub HasSchema : List Group → ℕ → Columns → Type 0
HasSchema groups number columns = option_map (λ group. group.schema) (slice_get groups number) ≡ Some columns

pub schema-more : (groups more : List Group) (number : ℕ) (columns : Columns) → HasSchema groups number columns → HasSchema (groups ++ more) number columns
schema-more groups more number columns has =
    let at = found (λ (g : Group). g.schema) (slice_get groups number) columns has in
    ap (option_map (λ (g : Group). g.schema)) (at-left groups more number at.0 at.1) ∙ sym (ap (option_map (λ (g : Group). g.schema)) at.1) ∙ has

-- ---- sums

sum-from : (n : ℕ) (xs : List ℕ) → fold (λ a b. a + b) n xs ≡ n + sum xs
sum-from n [] = omega arith
sum-from n (x ∷ xs) =
    let first = sum-from (n + x) xs in
    let rest = sum-from (0 + x) xs in
    omega (arith, first, rest)

pub sum-first : (x : ℕ) (xs : List ℕ) → sum (x ∷ xs) ≡ x + sum xs
sum-first x xs = let all = sum-from (0 + x) xs in omega (arith, all)

sum-more : (x y : ℕ) (xs ys : List ℕ) → x ≡ y → sum xs ≡ sum ys → sum (x ∷ xs) ≡ sum (y ∷ ys)
sum-more x y xs ys first rest = sum-first x xs ∙ ap₂ (λ a b. a + b) first rest ∙ sym (sum-first y ys)

module _ (tables : Tables) (blocks : List BlockPart) (levels : List Level) (useful : List ColId) where
  abbrev pub at_levels : ℕ → Level
  at_levels = level_at blocks levels

  -- ---- one node

  pub record GoesNode (old new : Node) (bo bn : Before) (grown : Grown) : Type 0 where
    pub added : List GroupId
    pub goes : Goes blocks levels useful grown (old.groups bo) (new.groups bn) added
    pub own : slice_get (grown.numbers ++ added) (own_group bo old).number ≡ Some (id_of (own_group bn new))
    pub schema : HasSchema (grown.groups ++ kept blocks levels useful (new.groups bn)) (own_group bn new).number (schema_of_tree tables at_levels new.tree)
    pub moved : Moved blocks levels (grown.numbers ++ added) bo.blocks (old.parts bo) (new.parts bn)
    pub some : 1 ≤ length (new.groups bn)

  -- a written node becomes that of the levels
  pub record Grows (old new : Node) : Type 0 where
    pub tree : old.tree ≡ new.tree
    pub blocks_same : old.blocks ≡ new.blocks
    pub operators : old.operators ≡ new.operators
    pub count : (before : Before) → length (old.parts before) ≡ old.blocks
    pub node : (bo bn : Before) (grown : Grown) → Starts bo bn grown → Holds blocks bo.blocks (old.parts bo) → bn.groups + length (new.groups bn) < most → GoesNode old new bo bn grown

  -- ---- nodes one after the other

  abbrev pub GrowAll : List Node → List Node → Type 0
  GrowAll [] [] = ⊤
  GrowAll [] (new ∷ news) = ⊥
  GrowAll (old ∷ olds) [] = ⊥
  GrowAll (old ∷ olds) (new ∷ news) = Grows old new × GrowAll olds news

  pub all-blocks : (olds news : List Node) → GrowAll olds news → blocks_in olds ≡ blocks_in news
  all-blocks [] [] all = refl
  all-blocks [] (new ∷ news) all = absurd all
  all-blocks (old ∷ olds) [] all = absurd all
  all-blocks (old ∷ olds) (new ∷ news) all =
      sum-more old.blocks new.blocks (map (λ (node : Node). node.blocks) olds) (map (λ (node : Node). node.blocks) news) all.0.blocks_same (all-blocks olds news all.1)

  pub all-operators : (olds news : List Node) → GrowAll olds news → operators_in olds ≡ operators_in news
  all-operators [] [] all = refl
  all-operators [] (new ∷ news) all = absurd all
  all-operators (old ∷ olds) [] all = absurd all
  all-operators (old ∷ olds) (new ∷ news) all =
      sum-more old.operators new.operators (map (λ (node : Node). node.operators) olds) (map (λ (node : Node). node.operators) news) all.0.operators (all-operators olds news all.1)

  pub all-trees : (olds news : List Node) → GrowAll olds news → map (λ (node : Node). node.tree) olds ≡ map (λ (node : Node). node.tree) news
  all-trees [] [] all = refl
  all-trees [] (new ∷ news) all = absurd all
  all-trees (old ∷ olds) [] all = absurd all
  all-trees (old ∷ olds) (new ∷ news) all = ap₂ (λ t ts. t ∷ ts) all.0.tree (all-trees olds news all.1)

  pub all-count : (olds news : List Node) → GrowAll olds news → (before : Before) → length (parts_in_turn olds before) ≡ blocks_in olds
  all-count [] [] all before = refl
  all-count [] (new ∷ news) all before = absurd all
  all-count (old ∷ olds) [] all before = absurd all
  all-count (old ∷ olds) (new ∷ news) all before =
      length-append (old.parts before) (parts_in_turn olds (passed before old)) ∙ ap₂ (λ m n. m + n) (all.0.count before) (all-count olds news all.1 (passed before old))
      ∙ sym (sum-first old.blocks (map (λ (node : Node). node.blocks) olds))

  pub blocks-passed : (nodes : List Node) (before : Before) → (passed_all before nodes).blocks ≡ before.blocks + blocks_in nodes
  blocks-passed [] before = omega arith
  blocks-passed (node ∷ nodes) before =
      let rest = blocks-passed nodes (passed before node) in
      let all = sum-first node.blocks (map (λ (n : Node). n.blocks) nodes) in
      omega (arith, rest, all)

  pub record InTurn (olds news : List Node) (bo bn : Before) (grown : Grown) : Type 0 where
    pub added : List GroupId
    pub goes : Goes blocks levels useful grown (groups_in_turn olds bo) (groups_in_turn news bn) added
    pub own : Finds (grown.numbers ++ added) (map id_of (own_in_turn olds bo)) (map id_of (own_in_turn news bn))
    pub schemas : AllByRecursion (λ leaf. HasSchema (grown.groups ++ kept blocks levels useful (groups_in_turn news bn)) leaf.number leaf.columns) (block_leaves tables at_levels news bn)
    pub moved : Moved blocks levels (grown.numbers ++ added) bo.blocks (parts_in_turn olds bo) (parts_in_turn news bn)
    pub starts : Starts (passed_all bo olds) (passed_all bn news) (after blocks levels useful grown (groups_in_turn news bn) added)
    -- the number after the last leaf's
    pub following : (n : ℕ) → n ≡ bn.groups → fold (λ before side. side.group.0 + 1) n (map side_of (block_leaves tables at_levels news bn)) ≡ (passed_all bn news).groups

  pub passed-starts : (old new : Node) (bo bn : Before) (grown : Grown) → Starts bo bn grown → Grows old new → (node : GoesNode old new bo bn grown)
      → Starts (passed bo old) (passed bn new) (after blocks levels useful grown (new.groups bn) node.added)
  passed-starts old new bo bn grown starts grows node = record {
    blocks = ap₂ (λ m n. m + n) starts.blocks grows.blocks_same;
    operators = ap₂ (λ m n. m + n) starts.operators grows.operators;
    old = ap₂ (λ m n. m + n) starts.old (sym node.goes.each) ∙ sym (length-append grown.numbers node.added);
    new = ap₂ (λ m n. m + n) starts.new (sym (length-map (new.groups bn) (kept_group useful))) ∙ sym (length-append grown.groups (kept blocks levels useful (new.groups bn)));
  }

  pub each-schema : (groups more : List Group) (leaves : List BlockLeaf) → AllByRecursion (λ leaf. HasSchema groups leaf.number leaf.columns) leaves → AllByRecursion (λ leaf. HasSchema (groups ++ more) leaf.number leaf.columns) leaves
  each-schema groups more [] all = tt
  each-schema groups more (leaf ∷ leaves) all = (schema-more groups more leaf.number leaf.columns all.0, each-schema groups more leaves all.1)

  pub in-turn : (olds news : List Node) → GrowAll olds news → (bo bn : Before) (grown : Grown) → Starts bo bn grown → Holds blocks bo.blocks (parts_in_turn olds bo)
      → bn.groups + length (groups_in_turn news bn) < most → InTurn olds news bo bn grown
  in-turn [] [] all bo bn grown starts holds room = record {
    added = [];
    goes = goes-none blocks levels useful grown;
    own = tt;
    schemas = tt;
    moved = tt;
    starts = record {
      blocks = starts.blocks;
      operators = starts.operators;
      old = starts.old ∙ ap length (sym (append-nil grown.numbers));
      new = starts.new ∙ ap length (sym (append-nil grown.groups));
    };
    following = λ n same. same;
  }
  in-turn [] (new ∷ news) all bo bn grown starts holds room = absurd all
  in-turn (old ∷ olds) [] all bo bn grown starts holds room = absurd all
  in-turn (old ∷ olds) (new ∷ news) all bo bn grown starts holds room =
      let sum = length-append (new.groups bn) (groups_in_turn news (passed bn new)) in
      let here : bn.groups + length (new.groups bn) < most = omega (arith, sum, room) in
      let later : (bn.groups + length (new.groups bn)) + length (groups_in_turn news (passed bn new)) < most = omega (arith, sum, room) in
      let first = all.0.node bo bn grown starts (holds-left blocks bo.blocks (old.parts bo) (parts_in_turn olds (passed bo old)) holds) here in
      let next = after blocks levels useful grown (new.groups bn) first.added in
      let rest = in-turn olds news all.1 (passed bo old) (passed bn new) next (passed-starts old new bo bn grown starts all.0 first)
      (subst (λ n. Holds blocks (bo.blocks + n) (parts_in_turn olds (passed bo old))) (all.0.count bo) (holds-right blocks bo.blocks (old.parts bo) (parts_in_turn olds (passed bo old)) holds)) later in
      let numbers = append_assoc grown.numbers first.added rest.added in
      let groups : (grown.groups ++ kept blocks levels useful (new.groups bn)) ++ kept blocks levels useful (groups_in_turn news (passed bn new)) ≡ grown.groups ++ kept blocks levels useful (new.groups bn ++ groups_in_turn news (passed bn new)) =
      append_assoc grown.groups (kept blocks levels useful (new.groups bn)) (kept blocks levels useful (groups_in_turn news (passed bn new))) ∙ ap (λ gs. grown.groups ++ gs) (sym (map-append (kept_group useful) (new.groups bn) (groups_in_turn news (passed bn new)))) in
      record {
        added = first.added ++ rest.added;
        goes = goes-append blocks levels useful grown (old.groups bo) (groups_in_turn olds (passed bo old)) (new.groups bn) (groups_in_turn news (passed bn new)) first.added rest.added first.goes rest.goes;
        own = (
          subst (λ ns. slice_get ns (own_group bo old).number ≡ Some (id_of (own_group bn new))) numbers (at-left (grown.numbers ++ first.added) rest.added (own_group bo old).number (id_of (own_group bn new)) first.own),
          subst (λ ns. Finds ns (map id_of (own_in_turn olds (passed bo old))) (map id_of (own_in_turn news (passed bn new)))) numbers rest.own,
        );
        schemas =
            subst (λ gs. AllByRecursion (λ (leaf : BlockLeaf). HasSchema gs leaf.number leaf.columns) (block_leaves tables at_levels (new ∷ news) bn)) groups
            (schema-more (grown.groups ++ kept blocks levels useful (new.groups bn)) (kept blocks levels useful (groups_in_turn news (passed bn new))) (own_group bn new).number (schema_of_tree tables at_levels new.tree) first.schema, rest.schemas);
        moved =
            moved-append blocks levels (grown.numbers ++ (first.added ++ rest.added)) bo.blocks (old.parts bo) (new.parts bn) (parts_in_turn olds (passed bo old)) (parts_in_turn news (passed bn new))
            (subst (λ ns. Moved blocks levels ns bo.blocks (old.parts bo) (new.parts bn)) numbers (moved-more blocks levels (grown.numbers ++ first.added) rest.added bo.blocks (old.parts bo) (new.parts bn) first.moved))
            (subst (λ ns. Moved blocks levels ns (bo.blocks + length (old.parts bo)) (parts_in_turn olds (passed bo old)) (parts_in_turn news (passed bn new))) numbers
            (subst (λ n. Moved blocks levels ((grown.numbers ++ first.added) ++ rest.added) (bo.blocks + n) (parts_in_turn olds (passed bo old)) (parts_in_turn news (passed bn new))) (sym (all.0.count bo)) rest.moved));
        starts = record {
          blocks = rest.starts.blocks;
          operators = rest.starts.operators;
          old = rest.starts.old ∙ ap length numbers;
          new = rest.starts.new ∙ ap length groups;
        };
        following = λ n same. rest.following ((own_group bn new).number + 1) (omega (arith, first.some));
      }

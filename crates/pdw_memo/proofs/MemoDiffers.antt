-- In every memo no two expressions of a group have the same children: the parts of a block's sets have different groups.
use Rattle.std.proofs.Common.{◌≡◌, ◌≢◌, ℕ, zero, suc, ◌+◌, ◌-◌, ◌^◌, ◌<◌, ◌≤◌, ◌==◌, Bool, true, false, true≢false, cond, List, [], ◌∷◌, ◌++◌, length, map, filter, get_or, AllPairs, count_ones, refl, sym, ap, subst, ◌∙◌, arith, append-nil, if◌then◌else◌, ◌⊎◌, inl, inr}
use Rattle.std.specs.Int.{bit_at}
use Rattle.std.specs.List.{AllByRecursion}
use Rattle.std.proofs.lemmas.List.{length-map}
use Rattle.std.proofs.lemmas.Nat.Bits.{bit_at-lt, same_from_bits_below}
use Rattle.std.proofs.lemmas.Option.{slice_get_within}
use Rattle.pdw_algebra.proofs.AllLaws.{all-append, all-map}
use Rattle.pdw_algebra.proofs.WellFormedParts.{IsSound, sound-child, sound-tree}
use Rattle.pdw_algebra.specs.Shape.{shape_of}
use Rattle.pdw_algebra.specs.declared.tree.Tree.{Tree}
use Rattle.pdw_base.specs.declared.schema.ColId.{ColId}
use Rattle.pdw_catalog.specs.Catalog.{Tables}
use Rattle.pdw_expr.specs.declared.cond.Cond.{Cond}
use Rattle.pdw_groups.proofs.CountLaws.{IsPresent, chosen-count, sides}
use Rattle.pdw_groups.proofs.PartOrder.{kept-at, kept-suc}
use Rattle.pdw_groups.specs.Block.{BlockLeaf, inside_leaf, join_of, one_or, part_of, part_tree, second_group, second_groups, seconds, set_group, set_number, single_part, single_parts}
use Rattle.pdw_groups.specs.Columns.{useful_columns}
use Rattle.pdw_groups.specs.Group.{Child, ExprOf, GroupOf, id_of, kept_expr, kept_group}
use Rattle.pdw_groups.specs.Level.{below, has_set, is_left, set_of}
use Rattle.pdw_groups.specs.Meaning.{exactly}
use Rattle.pdw_groups.specs.Memo.{Contents, at_first, groups_of}
use Rattle.pdw_groups.specs.Node.{Before, Node, block_leaves, node_of, passed, passed_all}
use Rattle.pdw_groups.specs.declared.block.Level.{Level}
use Rattle.pdw_groups.specs.declared.key.GroupId.{GroupId}
use Rattle.pdw_memo.proofs.Counts.{tree-counted}
use Rattle.pdw_memo.proofs.EachGroup.{OfOwnGroups, each-of_block, each-of_tree}
use Rattle.pdw_memo.specs.Laws.{HasDifferentChildren}
use Rattle.pdw_memo.specs.Memo.{IsMemo}
use Rattle.pdw_parts.specs.Part.{LeafSet, chosen}

-- ---- expressions that differ in their children

abbrev ids : ExprOf → List GroupId
ids expr = map id_of expr.children

abbrev first_number : List GroupId → ℕ
first_number [] = 0
first_number (child ∷ children) = child.0

abbrev NotAmong : List GroupId → List ExprOf → Type 0
NotAmong children exprs = AllByRecursion (λ other. children ≢ ids other) exprs

-- each differs from all later ones
abbrev Differ : List ExprOf → Type 0
Differ [] = Unit {0}
Differ (expr ∷ exprs) = NotAmong (ids expr) exprs × Differ exprs

differ-push : (exprs : List ExprOf) (last : ExprOf) → Differ exprs → AllByRecursion (λ expr. ids expr ≢ ids last) exprs → Differ (exprs ++ last ∷ [])
differ-push [] last differ apart = (tt, tt)
differ-push (expr ∷ exprs) last differ apart = (all-append (λ (other : ExprOf). ids expr ≢ ids other) exprs (last ∷ []) differ.0 (apart.0, tt), differ-push exprs last differ.1 apart.1)

differ-pairs : (exprs : List ExprOf) → Differ exprs → AllPairs (λ a b. a.children ≢ b.children) (map kept_expr exprs)
differ-pairs [] differ i j d before within = absurd (omega (arith, within))
differ-pairs (expr ∷ exprs) differ zero zero d before within = absurd (omega (arith, before))
differ-pairs (expr ∷ exprs) differ zero (suc j) d before within = at exprs differ.0 j (omega (arith, within))
  where
    at : (others : List ExprOf) → NotAmong (ids expr) others → (j : ℕ) → j < length (map kept_expr others) → ids expr ≢ (get_or (map kept_expr others) j d).children
    at [] all j within = absurd (omega (arith, within))
    at (other ∷ others) all zero within = all.0
    at (other ∷ others) all (suc j) within = at others all.1 j (omega (arith, within))
differ-pairs (expr ∷ exprs) differ (suc i) zero d before within = absurd (omega (arith, before))
differ-pairs (expr ∷ exprs) differ (suc i) (suc j) d before within = differ-pairs exprs differ.1 i j d (omega (arith, before)) (omega (arith, within))

-- expressions of different numbers that pass a test
module _ (f : ℕ → ExprOf) (test : ℕ → Bool) (most : ℕ) (other : (a b : ℕ) → a < b → b < most → test a ≡ true → test b ≡ true → ids (f a) ≢ ids (f b)) where
  before-last : (n last : ℕ) → n ≤ last → last < most → test last ≡ true → AllByRecursion (λ expr. ids expr ≢ ids (f last)) (map f (filter test (below n)))
  before-last zero last le less is = tt
  before-last (suc n) last le less is =
      subst (AllByRecursion (λ (expr : ExprOf). ids expr ≢ ids (f last))) (sym (kept-suc f test n))
      (all-append (λ (expr : ExprOf). ids expr ≢ ids (f last)) (map f (filter test (below n))) (map f (filter test (n ∷ []))) (before-last n last (omega (arith, le)) less is) (by (test n) refl))
    where
      by : (b : Bool) → test n ≡ b → AllByRecursion (λ expr. ids expr ≢ ids (f last)) (map f (cond b (n ∷ []) []))
      by true here = (other n last le less here is, tt)
      by false here = tt

  filtered-differ : (n : ℕ) → n ≤ most → Differ (map f (filter test (below n)))
  filtered-differ zero le = tt
  filtered-differ (suc n) le = subst Differ (sym (kept-suc f test n)) (by (test n) refl (filtered-differ n (omega (arith, le))))
    where
      by : (b : Bool) → test n ≡ b → Differ (map f (filter test (below n))) → Differ (map f (filter test (below n)) ++ map f (cond b (n ∷ []) []))
      by true here rest = differ-push (map f (filter test (below n))) (f n) rest (before-last n n (omega arith) le here)
      by false here rest = subst Differ (sym (append-nil (map f (filter test (below n))))) rest

-- ---- the numbers of leaves by themselves

abbrev Fresh : ℕ → List Child → Type 0
Fresh number children = AllByRecursion (λ child. number ≢ child.number) children

abbrev NumbersDiffer : List Child → Type 0
NumbersDiffer [] = Unit {0}
NumbersDiffer (child ∷ children) = Fresh child.number children × NumbersDiffer children

-- own numbers of leaves rise from one on, and are below those that the block gives
abbrev RiseTo : ℕ → ℕ → List BlockLeaf → Type 0
RiseTo first low [] = Unit {0}
RiseTo first low (leaf ∷ leaves) = ((low ≤ leaf.number) × (leaf.number < first)) × RiseTo first (suc leaf.number) leaves

module _ (block : ℕ) (conds : List Cond) (first : ℕ) where
  abbrev added : BlockLeaf → ℕ
  added leaf = length (second_group block 0 leaf (inside_leaf block conds leaf))

  -- a number that is one of the groups before, or below the next
  fresh-own : (n next low : ℕ) (leaves : List BlockLeaf) → RiseTo first low leaves → n < low → n < first → first ≤ next → Fresh n (single_parts block conds next leaves)
  fresh-own n next low [] rise less small after = tt
  fresh-own n next low (leaf ∷ leaves) rise less small after = (
    by (inside_leaf block conds leaf),
    let own = rise.0.0 in fresh-own n (next + added leaf) (suc leaf.number) leaves rise.1 (omega (arith, own, less)) small (omega (arith, after)),
  )
    where
      by : (some : List Cond) → n ≢ (single_part next leaf some).number
      by [] = λ same. let own = rise.0.0 in omega (arith, own, less, same)
      by (c ∷ rest) = λ same. omega (arith, small, after, same)

  fresh-next : (n next low : ℕ) (leaves : List BlockLeaf) → RiseTo first low leaves → first ≤ n → n < next → Fresh n (single_parts block conds next leaves)
  fresh-next n next low [] rise after less = tt
  fresh-next n next low (leaf ∷ leaves) rise after less = (by (inside_leaf block conds leaf), fresh-next n (next + added leaf) (suc leaf.number) leaves rise.1 after (omega (arith, less)))
    where
      by : (some : List Cond) → n ≢ (single_part next leaf some).number
      by [] = λ same. let own = rise.0.1 in omega (arith, own, after, same)
      by (c ∷ rest) = λ same. omega (arith, less, same)

  singles-differ : (next low : ℕ) (leaves : List BlockLeaf) → RiseTo first low leaves → first ≤ next → NumbersDiffer (single_parts block conds next leaves)
  singles-differ next low [] rise after = tt
  singles-differ next low (leaf ∷ leaves) rise after =
      (by (inside_leaf block conds leaf), singles-differ (next + added leaf) (suc leaf.number) leaves rise.1 (omega (arith, after)))
    where
      by : (some : List Cond) → Fresh (single_part next leaf some).number (single_parts block conds (next + length (second_group block 0 leaf some)) leaves)
      by [] = let own = rise.0.1 in fresh-own leaf.number (next + 0) (suc leaf.number) leaves rise.1 (omega arith) own (omega (arith, after))
      by (c ∷ rest) = fresh-next next (next + 1) (suc leaf.number) leaves rise.1 after (omega arith)

  -- they are below the numbers of sets
  singles-below : (next place low : ℕ) (leaves : List BlockLeaf) → RiseTo first low leaves → first ≤ next
      → AllByRecursion (λ child. child.number < next + length (second_groups block conds place leaves)) (single_parts block conds next leaves)
  singles-below next place low [] rise after = tt
  singles-below next place low (leaf ∷ leaves) rise after = by (inside_leaf block conds leaf) (λ more. singles-below (next + more) (suc place) (suc leaf.number) leaves rise.1 (omega (arith, after)))
    where
      by : (some : List Cond) → ((more : ℕ) → AllByRecursion (λ child. child.number < (next + more) + length (second_groups block conds (suc place) leaves)) (single_parts block conds (next + more) leaves))
          → AllByRecursion (λ child. child.number < next + length (second_group block place leaf some ++ second_groups block conds (suc place) leaves))
          (single_part next leaf some ∷ single_parts block conds (next + length (second_group block 0 leaf some)) leaves)
      by [] rest = (
        (let own = rise.0.1 in omega (arith, own, after)),
        all-map (λ (child : Child). child.number < (next + 0) + length (second_groups block conds (suc place) leaves)) (λ (child : Child). child.number < next + length (second_groups block conds (suc place) leaves))
            (λ child less. omega (arith, less)) (single_parts block conds (next + 0) leaves) (rest 0),
      )
      by (c ∷ some) rest = (
        omega arith,
        all-map (λ (child : Child). child.number < (next + 1) + length (second_groups block conds (suc place) leaves)) (λ (child : Child). child.number < next + suc (length (second_groups block conds (suc place) leaves)))
            (λ child less. omega (arith, less)) (single_parts block conds (next + 1) leaves) (rest 1),
      )

-- ---- sets by what they choose

abbrev later : LeafSet → LeafSet
later set i = set (suc i)

first_same : {a b : Child} {xs ys : List Child} → (a ∷ xs) ≡ (b ∷ ys) → a ≡ b
first_same same = cc

rest_same : {a b : Child} {xs ys : List Child} → (a ∷ xs) ≡ (b ∷ ys) → xs ≡ ys
rest_same same = cc

none-some : (child : Child) (children : List Child) → (child ∷ children) ≢ []
none-some child children same = absurd (true≢false (ap (λ (some : List Child). elim some [ [] ↦ false | x ∷ xs ↦ true ]) same))

chosen-holds : (P : Child → Type 0) (set : LeafSet) (children : List Child) → AllByRecursion P children → (single : Child) → chosen set children ≡ single ∷ [] → P single
chosen-holds P set [] all single one = absurd (none-some single [] (sym one))
chosen-holds P set (child ∷ children) all single one = by (set 0) (chosen-holds P (later set) children all.1 single) one
  where
    by : (b : Bool) → (chosen (later set) children ≡ single ∷ [] → P single) → (if b then child ∷ chosen (later set) children else chosen (later set) children) ≡ single ∷ [] → P single
    by true rest same = subst P (first_same same) all.0
    by false rest same = rest same

none-chosen : (set : LeafSet) (children : List Child) → chosen set children ≡ [] → (i : ℕ) → i < length children → set i ≡ false
none-chosen set [] none = λ i within. absurd (omega (arith, within))
none-chosen set (child ∷ children) none = by (set 0) refl (none-chosen (later set) children) none
  where
    by : (b : Bool) → set 0 ≡ b → (chosen (later set) children ≡ [] → (i : ℕ) → i < length children → set (suc i) ≡ false)
        → (if b then child ∷ chosen (later set) children else chosen (later set) children) ≡ [] → (i : ℕ) → i < suc (length children) → set i ≡ false
    by true is rest none i within = absurd (none-some child (chosen (later set) children) none)
    by false is rest none zero within = is
    by false is rest none (suc i) within = rest none i (omega (arith, within))

-- two sets that choose one child each, of one number, are the same
same-set : (p q : LeafSet) (children : List Child) → NumbersDiffer children → (a b : Child) → chosen p children ≡ a ∷ [] → chosen q children ≡ b ∷ [] → a.number ≡ b.number
    → (i : ℕ) → i < length children → p i ≡ q i
same-set p q [] differ a b one two same = λ i within. absurd (omega (arith, within))
same-set p q (child ∷ children) differ a b one two same =
    by (p 0) (q 0) refl refl (λ first second. same-set (later p) (later q) children differ.1 a b first second same) one two
  where
    by : (x y : Bool) → p 0 ≡ x → q 0 ≡ y
        → (chosen (later p) children ≡ a ∷ [] → chosen (later q) children ≡ b ∷ [] → (i : ℕ) → i < length children → p (suc i) ≡ q (suc i))
        → (if x then child ∷ chosen (later p) children else chosen (later p) children) ≡ a ∷ []
        → (if y then child ∷ chosen (later q) children else chosen (later q) children) ≡ b ∷ [] → (i : ℕ) → i < suc (length children) → p i ≡ q i
    by true true is_p is_q rest one two zero within = is_p ∙ sym is_q
    by true true is_p is_q rest one two (suc i) within =
        none-chosen (later p) children (rest_same one) i (omega (arith, within)) ∙ sym (none-chosen (later q) children (rest_same two) i (omega (arith, within)))
    by true false is_p is_q rest one two i within =
        absurd (chosen-holds (λ other. child.number ≢ other.number) (later q) children differ.0 b two (ap (λ (c : Child). c.number) (first_same one) ∙ same))
    by false true is_p is_q rest one two i within =
        absurd (chosen-holds (λ other. child.number ≢ other.number) (later p) children differ.0 a one (ap (λ (c : Child). c.number) (first_same two) ∙ sym same))
    by false false is_p is_q rest one two zero within = is_p ∙ sym is_q
    by false false is_p is_q rest one two (suc i) within = rest one two i (omega (arith, within))

bits-same : (a b : ℕ) → a < 2 → b < 2 → (a == 1) ≡ (b == 1) → a ≡ b
bits-same zero zero first second same = refl
bits-same zero (suc zero) first second same = absurd (true≢false (sym same))
bits-same (suc zero) zero first second same = absurd (true≢false same)
bits-same (suc zero) (suc zero) first second same = refl
bits-same zero (suc (suc b)) first second same = absurd (omega (arith, second))
bits-same (suc zero) (suc (suc b)) first second same = absurd (omega (arith, second))
bits-same (suc (suc a)) b first second same = absurd (omega (arith, first))

-- ---- parts of a block

module _ (block : ℕ) (level : Level) (conds : List Cond) (leaves : List BlockLeaf) (first low : ℕ) (rise : RiseTo first low leaves) where
  abbrev singles : List Child
  singles = single_parts block conds first leaves

  abbrev part : ℕ → Child
  part mask = part_of block level conds leaves first mask

  abbrev from : ℕ
  from = first + length (seconds block level conds leaves first)

  singles-length : (next : ℕ) (some : List BlockLeaf) → length (single_parts block conds next some) ≡ length some
  singles-length next [] = refl
  singles-length next (leaf ∷ some) = ap suc (singles-length (next + length (second_group block 0 leaf (inside_leaf block conds leaf))) some)

  -- a part is that of one leaf
  abbrev IsSingle : ℕ → Child → Type 0
  IsSingle mask single = (chosen (set_of mask) singles ≡ single ∷ []) × (part mask ≡ single)

  -- or the level has it, and it has the number of its set
  abbrev IsSeveral : ℕ → Type 0
  IsSeveral mask = (has_set level mask ≡ true) × ((part mask).number ≡ set_number block level conds leaves first mask)

  kind : (mask : ℕ) → mask < 2 ^ length leaves → IsPresent level mask → ((single : Child) × IsSingle mask single) ⊎ IsSeveral mask
  kind mask inside present = by (chosen (set_of mask) singles) refl count present
    where
      count : length (chosen (set_of mask) singles) ≡ count_ones mask
      count = chosen-count singles mask (subst (λ k. mask < 2 ^ k) (sym (singles-length first leaves)) inside)

      of_chosen : (some : List Child) → chosen (set_of mask) singles ≡ some
          → part mask ≡ one_or some (record { number = set_number block level conds leaves first mask; means = exactly (part_tree block level conds leaves first (set_of mask)) })
      of_chosen some is = ap (λ some. one_or some (record { number = set_number block level conds leaves first mask; means = exactly (part_tree block level conds leaves first (set_of mask)) })) is

      by : (some : List Child) → chosen (set_of mask) singles ≡ some → length some ≡ count_ones mask → IsPresent level mask → ((single : Child) × IsSingle mask single) ⊎ IsSeveral mask
      by [] is counted (inl alone) = absurd (omega (arith, counted, alone))
      by [] is counted (inr has) = inr (has, ap (λ (c : Child). c.number) (of_chosen [] is))
      by (single ∷ []) is counted present = inl (single, (is, of_chosen (single ∷ []) is))
      by (single ∷ second ∷ rest) is counted (inl alone) = absurd (omega (arith, counted, alone))
      by (single ∷ second ∷ rest) is counted (inr has) = inr (has, ap (λ (c : Child). c.number) (of_chosen (single ∷ second ∷ rest) is))

  single-below : (mask : ℕ) (single : Child) → IsSingle mask single → single.number < from
  single-below mask single is = chosen-holds (λ child. child.number < from) (set_of mask) singles (singles-below block conds first first 0 low leaves rise (omega arith)) single is.0

  -- of two parts the numbers differ
  parts-differ : (a b : ℕ) → a < b → b < 2 ^ length leaves → IsPresent level a → IsPresent level b → (part a).number ≢ (part b).number
  parts-differ a b less inside first_present second_present = by (kind a (omega (arith, less, inside)) first_present) (kind b inside second_present)
    where
      by : (((single : Child) × IsSingle a single) ⊎ IsSeveral a) → (((single : Child) × IsSingle b single) ⊎ IsSeveral b) → (part a).number ≢ (part b).number
      by (inl one) (inl two) = λ same.
          let numbers : one.0.number ≡ two.0.number = ap (λ (c : Child). c.number) (sym one.1.1) ∙ same ∙ ap (λ (c : Child). c.number) two.1.1 in
          let equal : a ≡ b = same_from_bits_below (length leaves) a b (omega (arith, less, inside)) inside
          (λ i within. bits-same (bit_at a i) (bit_at b i) (bit_at-lt a i) (bit_at-lt b i)
          (same-set (set_of a) (set_of b) singles (singles-differ block conds first first low leaves rise (omega arith)) one.0 two.0 one.1.0 two.1.0 numbers i (subst (λ k. i < k) (sym (singles-length first leaves)) within))) in
          absurd (omega (arith, less, equal))
      by (inl one) (inr two) = λ same.
          let small = single-below a one.0 one.1 in
          let number : one.0.number ≡ (part a).number = ap (λ (c : Child). c.number) (sym one.1.1) in
          let large = two.1 in
          absurd (omega (arith, small, number, same, large))
      by (inr one) (inl two) = λ same.
          let small = single-below b two.0 two.1 in
          let number : two.0.number ≡ (part b).number = ap (λ (c : Child). c.number) (sym two.1.1) in
          let large = one.1 in
          absurd (omega (arith, small, number, same, large))
      by (inr one) (inr two) = λ same.
          let before = slice_get_within (map (λ (m : ℕ). m) (filter (has_set level) (below b))) (length (filter (has_set level) (below a))) a (kept-at (λ m. m) (has_set level) b a less one.0) in
          let count = length-map (filter (has_set level) (below b)) (λ (m : ℕ). m) in
          let first_is = one.1 in
          let second_is = two.1 in
          absurd (omega (arith, before, count, first_is, second_is, same))

  set-differs : (mask : ℕ) → mask < 2 ^ length leaves → Differ (set_group block level conds leaves first mask).exprs
  set-differs mask inside =
      filtered-differ (join_of block level conds leaves first mask) (is_left level mask) mask
      (λ a b less small is_first is_second same.
      parts-differ a b less (omega (arith, small, inside)) (sides level mask a (omega (arith, less, small)) is_first).left_present (sides level mask b small is_second).left_present (ap first_number same))
      mask (omega arith)

-- ---- any tree

abbrev IsSome : Node → Type 0
IsSome node = (before : Before) → 0 < length (node.groups before)

passed-more : (nodes : List Node) (before : Before) → before.groups ≤ (passed_all before nodes).groups
passed-more [] before = omega arith
passed-more (node ∷ nodes) before = let rest = passed-more nodes (passed before node) in omega (arith, rest)

module _ (tables : Tables) (levels : ℕ → Level) where
  abbrev steps : Tree → Node
  steps = node_of tables levels

  rise-leaves : (nodes : List Node) → AllByRecursion IsSome nodes → (before : Before) → RiseTo (passed_all before nodes).groups before.groups (block_leaves tables levels nodes before)
  rise-leaves [] all before = tt
  rise-leaves (node ∷ nodes) all before =
      let some = all.0 before in
      let more = passed-more nodes (passed before node) in
      let next : (before.groups + length (node.groups before)) ≡ suc ((before.groups + length (node.groups before)) - 1) = omega (arith, some) in (
        (omega (arith, some), omega (arith, some, more)),
        subst (λ low. RiseTo (passed_all (passed before node) nodes).groups low (block_leaves tables levels nodes (passed before node))) next (rise-leaves nodes all.1 (passed before node)),
      )

  some-groups : (t : Tree) → IsSound (shape_of tables t) → IsSome (steps t)
  some-groups t sound before = (tree-counted tables levels t sound.nodes).some before

  leaves-some : (leaves : List Tree) → AllByRecursion IsSound (map (shape_of tables) leaves) → AllByRecursion IsSome (map steps leaves)
  leaves-some [] all = tt
  leaves-some (leaf ∷ leaves) all = (some-groups leaf all.0, leaves-some leaves all.1)

  abbrev Differs : GroupOf → Type 0
  Differs group = Differ group.exprs

  second-differs : (block place : ℕ) (leaf : BlockLeaf) (some : List Cond) → AllByRecursion Differs (second_group block place leaf some)
  second-differs block place leaf [] = tt
  second-differs block place leaf (first ∷ rest) = ((tt, tt), tt)

  own-differs : OfOwnGroups Differs tables levels
  own-differs = record {
    scan = λ number table alias cols sound. (tt, tt);
    filter = λ number t conds child. (tt, tt);
    project = λ number t items child. (tt, tt);
    block = λ leaves conds before parts.
        let after = passed_all before (map steps leaves) in
        let sides = block_leaves tables levels (map steps leaves) before in
        each-of_block Differs after.blocks conds (second-differs after.blocks) (levels after.blocks) sides after.groups
        (λ mask inside has. set-differs after.blocks (levels after.blocks) conds sides after.groups before.groups (rise-leaves (map steps leaves) (leaves-some leaves parts.each) before) mask inside);
    join = λ number t kind conds left right before sound. (tt, tt);
    group = λ keys aggs child before sound.
        let some = some-groups child (sound-child keys aggs (shape_of tables child) sound) before in
        ((tt, tt), (((λ same. let number : (before.groups + length ((steps child).groups before)) - 1 ≡ before.groups + length ((steps child).groups before) = ap first_number same in absurd (omega (arith, some, number)), tt), (tt, tt)), tt));
  }

kept-differ : (useful : List ColId) (groups : List GroupOf) → AllByRecursion (λ group. Differ group.exprs) groups → AllByRecursion HasDifferentChildren (map (kept_group useful) groups)
kept-differ useful [] all = tt
kept-differ useful (group ∷ groups) all = (differ-pairs group.exprs all.0, kept-differ useful groups all.1)

pub memo-differ : (contents : Contents) → IsMemo contents → AllByRecursion HasDifferentChildren contents.groups
memo-differ contents memo =
    subst (λ (c : Contents). AllByRecursion HasDifferentChildren c.groups) (sym memo.is)
    (kept-differ (useful_columns memo.tables memo.tree) (groups_of memo.tables memo.levels memo.tree)
    (each-of_tree (λ group. Differ group.exprs) memo.tables memo.levels (own-differs memo.tables memo.levels) memo.tree (sound-tree memo.tables memo.tree memo.plannable.well_formed) at_first))

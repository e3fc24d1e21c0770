-- What the calls make of a block is what the memo keeps of its groups.
use Rattle.std.proofs.Common.{◌≡◌, ℕ, zero, suc, ◌+◌, ◌^◌, ◌<◌, ◌&&◌, Bool, true, false, not, cond, List, [], ◌∷◌, ◌++◌, length, map, filter, get_or, refl, sym, ap, ap₂, ◌∙◌, arith, if◌then◌else◌, ◌⊎◌, inl, inr}
use Rattle.std.specs.Int.Bits.{bit_xor}
use Rattle.std.specs.List.{AllByRecursion}
use Rattle.std.proofs.lemmas.List.{length-map, map-append}
use Rattle.std.proofs.lemmas.Simd.{map-map}
use Rattle.std.proofs.Math.Nat.{eq-or-lt_of_le}
use Rattle.pdw_algebra.specs.Schema.{rising}
use Rattle.pdw_base.specs.declared.schema.ColId.{ColId}
use Rattle.pdw_expr.specs.declared.cond.Cond.{Cond}
use Rattle.pdw_expr.specs.declared.agg.JoinKind.TheVariants as kind
use Rattle.pdw_groups.proofs.CountLaws.{sides}
use Rattle.pdw_groups.proofs.PartOrder.{below-less}
use Rattle.pdw_groups.proofs.SetGroupLemmas.{below-length}
use Rattle.pdw_groups.proofs.SetLaws.{left-inside, parts-together}
use Rattle.pdw_groups.specs.Columns.{interesting_in}
use Rattle.pdw_groups.specs.Block.{BlockLeaf, block_groups, columns_of_leaves, inside_leaf, join_of, one_or, part_of, second_group, second_groups, seconds, set_group, single_part, single_parts}
use Rattle.pdw_groups.specs.Group.{id_of, kept_expr, kept_group}
use Rattle.pdw_groups.specs.Level.{below, has_set, is_left, lefts, set_of}
use Rattle.pdw_groups.specs.Sets.{all_flags, flags, join_at, kept_between, kept_block, kept_part, kept_seconds, kept_set, kept_sets, kept_single, kept_singles, one_if, schemas, second_if, side_of}
use Rattle.pdw_groups.specs.declared.block.Level.{Level}
use Rattle.pdw_groups.specs.declared.key.GroupId.{GroupId}
use Rattle.pdw_groups.specs.declared.key.GroupKey.TheVariants as key
use Rattle.pdw_groups.specs.declared.op.Op.TheVariants as op
use Rattle.pdw_groups.specs.declared.sets.Side.{Side}
use Rattle.pdw_parts.proofs.PartLaws.{chosen-map}
use Rattle.pdw_parts.specs.Part.{LeafSet, chosen, columns_in, is_inside}

-- ---- leaves

second-kept : (useful : List ColId) (block place : ℕ) (leaf : BlockLeaf) (inside : List Cond)
    → second_if useful (key.Part block (2 ^ place)) (side_of leaf) inside ≡ map (kept_group useful) (second_group block place leaf inside)
second-kept useful block place leaf [] = refl
second-kept useful block place leaf (first ∷ rest) = refl

pub seconds-kept : (useful : List ColId) (block : ℕ) (conds : List Cond) (place : ℕ) (leaves : List BlockLeaf)
    → kept_seconds conds useful block place (map side_of leaves) ≡ map (kept_group useful) (second_groups block conds place leaves)
seconds-kept useful block conds place [] = refl
seconds-kept useful block conds place (leaf ∷ leaves) =
    ap₂ (λ a b. a ++ b) (second-kept useful block place leaf (inside_leaf block conds leaf)) (seconds-kept useful block conds (suc place) leaves)
    ∙ sym (map-append (kept_group useful) (second_group block place leaf (inside_leaf block conds leaf)) (second_groups block conds (suc place) leaves))

single-kept : (next : ℕ) (leaf : BlockLeaf) (inside : List Cond) → kept_single next (side_of leaf) inside ≡ id_of (single_part next leaf inside)
single-kept next leaf [] = refl
single-kept next leaf (first ∷ rest) = refl

one-second : (block : ℕ) (leaf : BlockLeaf) (inside : List Cond) → one_if inside ≡ length (second_group block 0 leaf inside)
one-second block leaf [] = refl
one-second block leaf (first ∷ rest) = refl

pub singles-kept : (block : ℕ) (conds : List Cond) (next : ℕ) (leaves : List BlockLeaf) → kept_singles conds next (map side_of leaves) ≡ map id_of (single_parts block conds next leaves)
singles-kept block conds next [] = refl
singles-kept block conds next (leaf ∷ leaves) =
    ap₂ (λ a b. a ∷ b) (single-kept next leaf (inside_leaf block conds leaf))
    (ap (λ n. kept_singles conds (next + n) (map side_of leaves)) (one-second block leaf (inside_leaf block conds leaf))
    ∙ singles-kept block conds (next + length (second_group block 0 leaf (inside_leaf block conds leaf))) leaves)

-- ---- lists by numbers

get-left : {X : Type 0} (xs ys : List X) (i : ℕ) (d : X) → i < length xs → get_or (xs ++ ys) i d ≡ get_or xs i d
get-left [] ys i d within = absurd (omega (arith, within))
get-left (x ∷ xs) ys zero d within = refl
get-left (x ∷ xs) ys (suc i) d within = get-left xs ys i d (omega (arith, within))

get-end : {X : Type 0} (xs : List X) (x d : X) → get_or (xs ++ x ∷ []) (length xs) d ≡ x
get-end [] x d = refl
get-end (y ∷ xs) x d = get-end xs x d

get-below : {X : Type 0} (f : ℕ → X) (n i : ℕ) (d : X) → i < n → get_or (map f (below n)) i d ≡ f i
get-below f zero i d less = absurd (omega (arith, less))
get-below f (suc n) i d less =
    ap (λ xs. get_or xs i d) (map-append f (below n) (n ∷ [])) ∙ by (i < n) (eq-or-lt_of_le (omega (arith, less))) (λ before. before) (λ before. get-below f n i d before)
  where
    count : length (map f (below n)) ≡ n
    count = length-map (below n) f ∙ below-length n

    by : (A : Type 0) → (i ≡ n) ⊎ A → (A → i < n) → (A → get_or (map f (below n)) i d ≡ f i) → get_or (map f (below n) ++ f n ∷ []) i d ≡ f i
    by A (inl same) before rest =
        ap (λ k. get_or (map f (below n) ++ f n ∷ []) k d) (same ∙ sym count) ∙ get-end (map f (below n)) (f n) d ∙ ap f (sym same)
    by A (inr less) before rest =
        let within : i < length (map f (below n)) = omega (arith, before less, count) in get-left (map f (below n)) (f n ∷ []) i d within ∙ rest less

map-kept : {X : Type 0} (f g : ℕ → X) (test : ℕ → Bool) (Q : ℕ → Type 0) → ((i : ℕ) → Q i → test i ≡ true → f i ≡ g i) → (xs : List ℕ) → AllByRecursion Q xs → map f (filter test xs) ≡ map g (filter test xs)
map-kept f g test Q same [] all = refl
map-kept f g test Q same (x ∷ xs) all = by (test x) refl (map-kept f g test Q same xs all.1)
  where
    by : (b : Bool) → test x ≡ b → map f (filter test xs) ≡ map g (filter test xs) → map f (cond b (x ∷ filter test xs) (filter test xs)) ≡ map g (cond b (x ∷ filter test xs) (filter test xs))
    by true is rest = ap₂ (λ a b. a ∷ b) (same x all.0 is) rest
    by false is rest = rest

-- ---- conjuncts

between-kept : (whole left right : Cond → Bool) (conds : List Cond) → kept_between conds (map whole conds) (map left conds) (map right conds) ≡ filter (λ x. whole x && (not (left x) && not (right x))) conds
between-kept whole left right [] = refl
between-kept whole left right (x ∷ conds) = by (whole x && (not (left x) && not (right x))) (between-kept whole left right conds)
  where
    by : (b : Bool) → kept_between conds (map whole conds) (map left conds) (map right conds) ≡ filter (λ x. whole x && (not (left x) && not (right x))) conds
        → (if b then x ∷ kept_between conds (map whole conds) (map left conds) (map right conds) else kept_between conds (map whole conds) (map left conds) (map right conds))
        ≡ cond b (x ∷ filter (λ x. whole x && (not (left x) && not (right x))) conds) (filter (λ x. whole x && (not (left x) && not (right x))) conds)
    by true rest = ap (λ others. x ∷ others) rest
    by false rest = rest

one_or-map : {X Y : Type 0} (f : X → Y) (xs : List X) (other : X) → one_or (map f xs) (f other) ≡ f (one_or xs other)
one_or-map f [] other = refl
one_or-map f (x ∷ []) other = refl
one_or-map f (x ∷ y ∷ rest) other = refl

-- ---- sets

module _ (useful : List ColId) (block : ℕ) (level : Level) (conds : List Cond) (leaves : List BlockLeaf) (first : ℕ) where
  abbrev those : List Side
  those = map side_of leaves

  abbrev singles : List GroupId
  singles = kept_singles conds first those

  abbrev after : ℕ
  after = first + length (kept_seconds conds useful block 0 those)

  schemas-same : schemas those ≡ columns_of_leaves block level conds leaves first
  schemas-same = map-map (λ (side : Side). side.schema) side_of leaves

  after-same : after ≡ first + length (seconds block level conds leaves first)
  after-same = ap (λ n. first + n) (ap length (seconds-kept useful block conds 0 leaves) ∙ length-map (second_groups block conds 0 leaves) (kept_group useful))

  part-kept : (mask : ℕ) → kept_part level singles after mask ≡ id_of (part_of block level conds leaves first mask)
  part-kept mask =
      ap₂ (λ some (n : ℕ). one_or some (record { 0 = n + length (filter (has_set level) (below mask)) }))
      (ap (chosen (set_of mask)) (singles-kept block conds first leaves) ∙ chosen-map id_of (set_of mask) (single_parts block conds first leaves)) after-same
      ∙ one_or-map id_of (chosen (set_of mask) (single_parts block conds first leaves)) _

  module _ (mask : ℕ) (inside : mask < 2 ^ length those) where
    join-kept : (left : ℕ) → left < mask → is_left level mask left ≡ true
        → join_at conds (all_flags those conds) (map (kept_part level singles after) (below mask)) mask left ≡ kept_expr (join_of block level conds leaves first mask left)
    join-kept left less is =
        let both = sides level mask left less is in
        let f = flags (schemas those) conds in
        let right_less : bit_xor left mask < 2 ^ length those = omega (arith, both.right_less, inside) in
        let left_less : left < 2 ^ length those = omega (arith, less, inside) in
        ap₂ (λ cs kids. record { op = op.Join kind.Inner cs; children = kids })
        ((λ i. kept_between conds (get-below f (2 ^ length those) mask [] inside i) (get-below f (2 ^ length those) left [] left_less i) (get-below f (2 ^ length those) (bit_xor left mask) [] right_less i))
        ∙ between-kept (is_inside (columns_in (set_of mask) (schemas those))) (is_inside (columns_in (set_of left) (schemas those))) (is_inside (columns_in (set_of (bit_xor left mask)) (schemas those))) conds
        ∙ ap₂ (λ (set : LeafSet) all. filter (λ x. is_inside (columns_in set all) x && (not (is_inside (columns_in (set_of left) all) x) && not (is_inside (columns_in (set_of (bit_xor left mask)) all) x))) conds)
        (sym (parts-together mask left (left-inside level mask left is))) schemas-same)
        (ap₂ (λ a b. a ∷ b ∷ [])
        (get-below (kept_part level singles after) mask left _ both.left_less ∙ part-kept left)
        (get-below (kept_part level singles after) mask (bit_xor left mask) _ both.right_less ∙ part-kept (bit_xor left mask)))

    set-kept : kept_set useful block level those conds singles after mask ≡ kept_group useful (set_group block level conds leaves first mask)
    set-kept =
        ap₂ (λ all exprs. record { key = key.Part block mask; schema = rising (columns_in (set_of mask) all); interesting = interesting_in useful (rising (columns_in (set_of mask) all)); exprs = exprs }) schemas-same
        (map-kept _ (λ left. kept_expr (join_of block level conds leaves first mask left)) (is_left level mask) (λ left. left < mask) join-kept (below mask) (below-less mask mask (omega arith))
        ∙ sym (map-map kept_expr (join_of block level conds leaves first mask) (lefts level mask)))

  pub sets-kept : kept_sets useful block level those conds singles after (2 ^ length those) ≡ map (kept_group useful) (map (set_group block level conds leaves first) (filter (has_set level) (below (2 ^ length leaves))))
  sets-kept =
      map-kept (kept_set useful block level those conds singles after) (λ mask. kept_group useful (set_group block level conds leaves first mask)) (has_set level) (λ mask. mask < 2 ^ length those)
      (λ mask inside is. set-kept mask inside) (below (2 ^ length those)) (below-less (2 ^ length those) (2 ^ length those) (omega arith))
      ∙ ap (λ n. map (λ mask. kept_group useful (set_group block level conds leaves first mask)) (filter (has_set level) (below (2 ^ n)))) (length-map leaves side_of)
      ∙ sym (map-map (kept_group useful) (set_group block level conds leaves first) (filter (has_set level) (below (2 ^ length leaves))))

  pub block-kept : kept_block useful block level those conds first ≡ map (kept_group useful) (block_groups block level conds leaves first)
  block-kept =
      ap₂ (λ a b. a ++ b) (seconds-kept useful block conds 0 leaves) sets-kept
      ∙ sym (map-append (kept_group useful) (seconds block level conds leaves first) (map (set_group block level conds leaves first) (filter (has_set level) (below (2 ^ length leaves)))))

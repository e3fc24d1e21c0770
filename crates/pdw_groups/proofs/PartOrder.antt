-- The children of a block's groups come before them.
use Rattle.std.proofs.Common.{◌≡◌, ℕ, zero, suc, ◌+◌, ◌-◌, ◌^◌, ◌<◌, ◌≤◌, Bool, true, false, cond, List, [], ◌∷◌, ◌++◌, length, map, filter, Some, count_ones, refl, sym, ap, ap₂, subst, ◌∙◌, arith, append_assoc, append-nil, length-append, if◌then◌else◌, ◌⊎◌, inl, inr}
use Rattle.std.specs.Int.Bits.{bit_xor}
use Rattle.std.specs.List.{AllByRecursion, slice_get}
use Rattle.std.proofs.lemmas.List.{length-map, map-append}
use Rattle.std.proofs.Math.Nat.{eq-or-lt_of_le}
use Rattle.std.proofs.Math.Pow.{ones_lt}
use Rattle.std.proofs.lemmas.List.Elements.{filter-append}
use Rattle.pdw_algebra.proofs.AllLaws.{all-map}
use Rattle.pdw_expr.specs.declared.cond.Cond.{Cond}
use Rattle.pdw_groups.proofs.CountLaws.{IsPresent, chosen-count, sides}
use Rattle.pdw_groups.proofs.OrderLaws.{all-among-more, among-at, among-last, among-more, at-end, at-left, order-append, order-one}
use Rattle.pdw_groups.specs.Block.{BlockLeaf, block_groups, inside_leaf, join_of, one_or, own_child, part_of, part_tree, second_group, second_groups, seconds, set_group, set_number, single_part, single_parts}
use Rattle.pdw_groups.specs.Group.{Child, ExprOf, GroupOf, InOrder, IsAmong}
use Rattle.pdw_groups.specs.Level.{below, has_set, is_left, set_of}
use Rattle.pdw_groups.specs.Meaning.{exactly}
use Rattle.pdw_groups.specs.declared.block.Level.{Level}
use Rattle.pdw_parts.specs.Part.{LeafSet, chosen}

-- ---- numbers below another

filter-one : {X : Type 0} (test : X → Bool) (x : X) → test x ≡ true → filter test (x ∷ []) ≡ x ∷ []
filter-one test x is = ap (λ b. cond b (x ∷ []) []) is

module _ {X : Type 0} (f : ℕ → X) (test : ℕ → Bool) where
  abbrev kept : ℕ → List X
  kept n = map f (filter test (below n))

  pub kept-suc : (n : ℕ) → kept (suc n) ≡ kept n ++ map f (filter test (n ∷ []))
  kept-suc n = ap (map f) (filter-append test (below n) (n ∷ [])) ∙ map-append f (filter test (below n)) (filter test (n ∷ []))

  -- one that is kept stands after those kept below it
  pub kept-at : (n m : ℕ) → m < n → test m ≡ true → slice_get (kept n) (length (filter test (below m))) ≡ Some (f m)
  kept-at zero m less is = absurd (omega (arith, less))
  kept-at (suc n) m less is = subst (λ xs. slice_get xs (length (filter test (below m))) ≡ Some (f m)) (sym (kept-suc n)) (by (m < n) (eq-or-lt_of_le (omega (arith, less))) (λ before. kept-at n m before is))
    where
      by : (A : Type 0) → (m ≡ n) ⊎ A → (A → slice_get (kept n) (length (filter test (below m))) ≡ Some (f m)) → slice_get (kept n ++ map f (filter test (n ∷ []))) (length (filter test (below m))) ≡ Some (f m)
      by A (inr before) rest = at-left (kept n) (map f (filter test (n ∷ []))) (length (filter test (below m))) (f m) (rest before)
      by A (inl same) rest =
          subst (λ k. slice_get (kept n ++ map f (filter test (n ∷ []))) (length (filter test (below k))) ≡ Some (f k)) (sym same)
          (ap (λ xs. slice_get (kept n ++ map f xs) (length (filter test (below n)))) (filter-one test n (subst (λ k. test k ≡ true) same is))
          ∙ ap (slice_get (kept n ++ f n ∷ [])) (sym (length-map (filter test (below n)) f))
          ∙ at-end (kept n) (f n) [])

-- ---- second groups

module _ (block : ℕ) (conds : List Cond) where
  -- a leaf's own group is among the groups before
  abbrev pub OwnAmong : List GroupOf → List BlockLeaf → Type 0
  OwnAmong before leaves = AllByRecursion (λ leaf. IsAmong before (own_child leaf)) leaves

  second-order : (before : List GroupOf) (place : ℕ) (leaf : BlockLeaf) (some : List Cond) → IsAmong before (own_child leaf) → InOrder before (second_group block place leaf some)
  second-order before place leaf [] own = tt
  second-order before place leaf (first ∷ rest) own = (((own, tt), tt), tt)

  abbrev here : ℕ → BlockLeaf → List GroupOf
  here place leaf = second_group block place leaf (inside_leaf block conds leaf)

  own-more : (before more : List GroupOf) (leaves : List BlockLeaf) → OwnAmong before leaves → OwnAmong (before ++ more) leaves
  own-more before more leaves own = all-map (λ leaf. IsAmong before (own_child leaf)) (λ leaf. IsAmong (before ++ more) (own_child leaf)) (λ leaf. among-more before more (own_child leaf)) leaves own

  pub seconds-order : (before : List GroupOf) (place : ℕ) (leaves : List BlockLeaf) → OwnAmong before leaves → InOrder before (second_groups block conds place leaves)
  seconds-order before place [] own = tt
  seconds-order before place (leaf ∷ leaves) own =
      order-append before (here place leaf) (second_groups block conds (suc place) leaves)
      (second-order before place leaf (inside_leaf block conds leaf) own.0)
      (seconds-order (before ++ here place leaf) (suc place) leaves (own-more before (here place leaf) leaves own.1))

  second-length : (place other : ℕ) (leaf : BlockLeaf) (some : List Cond) → length (second_group block place leaf some) ≡ length (second_group block other leaf some)
  second-length place other leaf [] = refl
  second-length place other leaf (first ∷ rest) = refl

  single-among : (before : List GroupOf) (place next : ℕ) (leaf : BlockLeaf) (some : List Cond) → next ≡ length before → IsAmong before (own_child leaf)
      → IsAmong (before ++ second_group block place leaf some) (single_part next leaf some)
  single-among before place next leaf [] number own = among-more before [] (own_child leaf) own
  single-among before place next leaf (first ∷ rest) number own = among-last before _ _ number refl

  -- each leaf as a part by itself is among the groups before and the second groups
  pub singles-among : (before : List GroupOf) (place next : ℕ) (leaves : List BlockLeaf) → next ≡ length before → OwnAmong before leaves
      → AllByRecursion (IsAmong (before ++ second_groups block conds place leaves)) (single_parts block conds next leaves)
  singles-among before place next [] number own = tt
  singles-among before place next (leaf ∷ leaves) number own = (
    subst (λ groups. IsAmong groups (single_part next leaf (inside_leaf block conds leaf))) (append_assoc before (here place leaf) (second_groups block conds (suc place) leaves))
        (among-more (before ++ here place leaf) (second_groups block conds (suc place) leaves) (single_part next leaf (inside_leaf block conds leaf))
        (single-among before place next leaf (inside_leaf block conds leaf) number own.0)),
    subst (λ groups. AllByRecursion (IsAmong groups) (single_parts block conds (next + length (here 0 leaf)) leaves)) (append_assoc before (here place leaf) (second_groups block conds (suc place) leaves))
        (singles-among (before ++ here place leaf) (suc place) (next + length (here 0 leaf)) leaves
        (ap₂ (λ a b. a + b) number (second-length 0 place leaf (inside_leaf block conds leaf)) ∙ sym (length-append before (here place leaf)))
        (own-more before (here place leaf) leaves own.1)),
  )

-- ---- sets of leaves

all-chosen : {X : Type 0} (P : X → Type 0) (set : LeafSet) (xs : List X) → AllByRecursion P xs → AllByRecursion P (chosen set xs)
all-chosen P set [] all = tt
all-chosen P set (x ∷ xs) all = by (set 0) (all-chosen P (λ i. set (suc i)) xs all.1)
  where
    by : (b : Bool) → AllByRecursion P (chosen (λ i. set (suc i)) xs) → AllByRecursion P (if b then x ∷ chosen (λ i. set (suc i)) xs else chosen (λ i. set (suc i)) xs)
    by true rest = (all.0, rest)
    by false rest = rest

singles-length : (block : ℕ) (conds : List Cond) (next : ℕ) (leaves : List BlockLeaf) → length (single_parts block conds next leaves) ≡ length leaves
singles-length block conds next [] = refl
singles-length block conds next (leaf ∷ leaves) = ap suc (singles-length block conds (next + length (second_group block 0 leaf (inside_leaf block conds leaf))) leaves)

all-mapped : {X Y : Type 0} (P : Y → Type 0) (f : X → Y) (test : X → Bool) (Q : X → Type 0) → ((x : X) → Q x → test x ≡ true → P (f x)) → (xs : List X) → AllByRecursion Q xs → AllByRecursion P (map f (filter test xs))
all-mapped P f test Q holds [] all = tt
all-mapped P f test Q holds (x ∷ xs) all = by (test x) refl (all-mapped P f test Q holds xs all.1)
  where
    by : (b : Bool) → test x ≡ b → AllByRecursion P (map f (filter test xs)) → AllByRecursion P (map f (cond b (x ∷ filter test xs) (filter test xs)))
    by true is rest = (holds x all.0 is, rest)
    by false is rest = rest

pub below-less : (n k : ℕ) → n ≤ k → AllByRecursion (λ m. m < k) (below n)
below-less zero k le = tt
below-less (suc n) k le = push (below n) (below-less n k (omega (arith, le))) (omega (arith, le))
  where
    push : (xs : List ℕ) → AllByRecursion (λ m. m < k) xs → n < k → AllByRecursion (λ m. m < k) (xs ++ n ∷ [])
    push [] all less = (less, tt)
    push (x ∷ xs) all less = (all.0, push xs all.1 less)

module _ (block : ℕ) (level : Level) (conds : List Cond) (leaves : List BlockLeaf) (first : ℕ) (before : List GroupOf) (number : first ≡ length before) (own : OwnAmong block conds before leaves) where
  abbrev earlier : List GroupOf
  earlier = before ++ seconds block level conds leaves first

  abbrev sets : ℕ → List GroupOf
  sets n = map (set_group block level conds leaves first) (filter (has_set level) (below n))

  abbrev singles : List Child
  singles = single_parts block conds first leaves

  single-in : (n : ℕ) → AllByRecursion (IsAmong (earlier ++ sets n)) singles
  single-in n = all-among-more earlier (sets n) singles (singles-among block conds before 0 first leaves number own)

  abbrev set_child : ℕ → Child
  set_child m = record { number = set_number block level conds leaves first m; means = exactly (part_tree block level conds leaves first (set_of m)) }

  earlier-length : length earlier ≡ first + length (seconds block level conds leaves first)
  earlier-length = length-append before (seconds block level conds leaves first) ∙ ap (λ n. n + length (seconds block level conds leaves first)) (sym number)

  slice-after : {X : Type 0} (xs ys : List X) (i : ℕ) → slice_get (xs ++ ys) (length xs + i) ≡ slice_get ys i
  slice-after [] ys i = let same : 0 + i ≡ i = omega arith in ap (slice_get ys) same
  slice-after (x ∷ xs) ys i = let same : suc (length xs) + i ≡ suc (length xs + i) = omega arith in ap (slice_get (x ∷ (xs ++ ys))) same ∙ slice-after xs ys i

  -- a set that the level has stands after the sets below it
  set-in : (n m : ℕ) → m < n → has_set level m ≡ true → IsAmong (earlier ++ sets n) (set_child m)
  set-in n m less is =
      among-at (earlier ++ sets n) (set_child m) (set_group block level conds leaves first m)
      (ap (λ k. slice_get (earlier ++ sets n) (k + length (filter (has_set level) (below m)))) (sym earlier-length)
      ∙ slice-after earlier (sets n) (length (filter (has_set level) (below m)))
      ∙ kept-at (set_group block level conds leaves first) (has_set level) n m less is) refl

  -- the part of a set
  part-in : (n m : ℕ) → m < n → m < 2 ^ length leaves → IsPresent level m → IsAmong (earlier ++ sets n) (part_of block level conds leaves first m)
  part-in n m less inside present =
      by (chosen (set_of m) singles) (all-chosen (IsAmong (earlier ++ sets n)) (set_of m) singles (single-in n)) count present
    where
      count : length (chosen (set_of m) singles) ≡ count_ones m
      count = chosen-count singles m (subst (λ k. m < 2 ^ k) (sym (singles-length block conds first leaves)) inside)

      by : (some : List Child) → AllByRecursion (IsAmong (earlier ++ sets n)) some → length some ≡ count_ones m → IsPresent level m → IsAmong (earlier ++ sets n) (one_or some (set_child m))
      by [] all counted (inl one) = absurd (omega (arith, counted, one))
      by [] all counted (inr is) = set-in n m less is
      by (single ∷ []) all counted present = all.0
      by (single ∷ second ∷ rest) all counted (inl one) = absurd (omega (arith, counted, one))
      by (single ∷ second ∷ rest) all counted (inr is) = set-in n m less is

  -- the children of a set's joins
  joins-in : (mask : ℕ) → mask < 2 ^ length leaves → AllByRecursion (λ (expr : ExprOf). AllByRecursion (IsAmong (earlier ++ sets mask)) expr.children) (set_group block level conds leaves first mask).exprs
  joins-in mask inside =
      all-mapped (λ (expr : ExprOf). AllByRecursion (IsAmong (earlier ++ sets mask)) expr.children) (join_of block level conds leaves first mask) (is_left level mask) (λ left. left < mask)
      (λ left less is.
      let both = sides level mask left less is in (
        part-in mask left both.left_less (omega (arith, inside, less)) both.left_present,
        (part-in mask (bit_xor left mask) both.right_less (omega (arith, inside, both.right_less)) both.right_present, tt),
      ))
      (below mask) (below-less mask mask (omega arith))

  sets-order : (n : ℕ) → n ≤ 2 ^ length leaves → InOrder earlier (sets n)
  sets-order zero le = tt
  sets-order (suc n) le =
      subst (InOrder earlier) (sym (kept-suc (set_group block level conds leaves first) (has_set level) n))
      (by (has_set level n) (sets-order n (omega (arith, le))))
    where
      by : (b : Bool) → InOrder earlier (sets n) → InOrder earlier (sets n ++ map (set_group block level conds leaves first) (cond b (n ∷ []) []))
      by true rest = order-one earlier (sets n) (set_group block level conds leaves first n) rest (joins-in n le)
      by false rest = subst (InOrder earlier) (sym (append-nil (sets n))) rest

  pub block-order : InOrder before (block_groups block level conds leaves first)
  block-order = order-append before (seconds block level conds leaves first) (sets (2 ^ length leaves))
      (seconds-order block conds before 0 leaves own) (sets-order (2 ^ length leaves) (omega arith))

  -- ---- the part of all leaves

  pub whole-in : 1 ≤ length leaves → IsPresent level (2 ^ length leaves - 1) → IsAmong (before ++ block_groups block level conds leaves first) (part_of block level conds leaves first (2 ^ length leaves - 1))
  whole-in some present =
      subst (λ groups. IsAmong groups (part_of block level conds leaves first (2 ^ length leaves - 1))) (append_assoc before (seconds block level conds leaves first) (sets (2 ^ length leaves)))
      (part-in (2 ^ length leaves) (2 ^ length leaves - 1) (ones_lt (length leaves)) (ones_lt (length leaves)) present)

-- One more item of a list that is gone through.
use Rattle.std.proofs.Common.{◌≡◌, ℕ, zero, suc, ◌+◌, ◌<◌, ◌≤◌, ◌||◌, Bool, true, false, cond, List, [], ◌∷◌, ◌++◌, drop, drop-cons, filter, fold, get_or, length, map, reverse, take, Some, length-append, length-drop, refl, sym, ap, ap₂, subst, ◌∙◌, arith, append_assoc, true≢false, if◌then◌else◌}
use Rattle.std.specs.List.{AllByRecursion, list_any, remove, slice_get, slice_set}
use Rattle.std.proofs.lemmas.List.{length-map, map-append, reverse-append}
use Rattle.pdw_base.proofs.Steps.{take-one_more}
use Rattle.pdw_explore.specs.Grown.{after_leaves, leaf_at, new_number}
use Rattle.pdw_explore.specs.declared.grown.Grown.{Grown}
use Rattle.pdw_base.specs.declared.schema.ColId.{ColId}
use Rattle.pdw_explore.proofs.RoomLaws.{kept-most}
use Rattle.pdw_groups.proofs.SetGroupLemmas.{below-length}
use Rattle.pdw_groups.specs.Level.{below, has_set}
use Rattle.pdw_groups.specs.Sets.{kept_set, kept_sets, kept_single, kept_singles, one_if}
use Rattle.pdw_groups.specs.declared.block.Level.{Level}
use Rattle.pdw_groups.specs.declared.key.GroupId.{GroupId}
use Rattle.pdw_groups.specs.declared.sets.Side.{Side}
use Rattle.pdw_expr.specs.declared.cond.Cond.{Cond}
use Rattle.pdw_parts.specs.Part.{is_inside}

some-same : {X : Type 0} (a b : X) → Some a ≡ Some b → a ≡ b
some-same a b same = cc

-- ---- what is left

module _ {X : Type 0} (xs : List X) (i : ℕ) (x : X) (within : i < length xs) (item : x ≡ get_or xs i x) where
  pub drop-next : drop i xs ≡ x ∷ drop (i + 1) xs
  drop-next =
      let next : suc i ≡ i + 1 = omega arith in
      drop-cons xs i x within ∙ ap₂ (λ y n. y ∷ drop n xs) (sym item) next

  pub all-next : (P : X → Type 0) → AllByRecursion P (drop i xs) → P x × AllByRecursion P (drop (i + 1) xs)
  all-next P all = subst (AllByRecursion P) drop-next all

-- ---- items in the other direction

pub reverse_pop : {X : Type 0} (old new : List X) (last : X) → old ≡ new ++ last ∷ [] → reverse old ≡ last ∷ reverse new
reverse_pop old new last popped = ap reverse popped ∙ reverse-append new (last ∷ [])

pub length_pop : {X : Type 0} (old new : List X) (last : X) → old ≡ new ++ last ∷ [] → length new < length old
length_pop old new last popped = let all = ap length popped ∙ length-append new (last ∷ []) in omega (arith, all)

pub turn_step : {X : Type 0} (turned old new : List X) (last : X) → old ≡ new ++ last ∷ [] → (turned ++ last ∷ []) ++ reverse new ≡ turned ++ reverse old
turn_step turned old new last popped = append_assoc turned (last ∷ []) (reverse new) ∙ ap (λ rest. turned ++ rest) (sym (reverse_pop old new last popped))

-- ---- the number after the last leaf's

fold-last : (sides : List Side) (n : ℕ) (side : Side) → fold (λ before s. s.group.0 + 1) n (sides ++ side ∷ []) ≡ side.group.0 + 1
fold-last [] n side = refl
fold-last (first ∷ sides) n side = fold-last sides (first.group.0 + 1) side

pub after-next : (sides : List Side) (i : ℕ) (side : Side) → i < length sides → side ≡ get_or sides i side → side.group.0 + 1 ≡ after_leaves (take (i + 1) sides)
after-next sides i side within item = sym (ap after_leaves (take-one_more sides i side within item) ∙ fold-last (take i sides) 0 side)

pub after-most : (most : ℕ) (sides : List Side) (n : ℕ) → n ≤ most → AllByRecursion (λ side. side.group.0 < most) sides → fold (λ before s. s.group.0 + 1) n sides ≤ most
after-most most [] n less all = less
after-most most (side ∷ sides) n less all = after-most most sides (side.group.0 + 1) (omega (arith, all.0)) all.1

pub sides-range : (most : ℕ) (grown : Grown) (leaves : List GroupId) → length grown.groups ≤ most
    → AllByRecursion (λ leaf. (leaf.0 < length grown.numbers) × ((new_number grown.numbers leaf).0 < length grown.groups)) leaves → AllByRecursion (λ side. side.group.0 < most) (map (leaf_at grown) leaves)
sides-range most grown [] less all = tt
sides-range most grown (leaf ∷ leaves) less all = (omega (arith, less, all.0.1), sides-range most grown leaves less all.1)

-- ---- new numbers in the place of old ones

later-suc : {X : Type 0} (P : X → Type 0) (xs : List X) (i : ℕ) → AllByRecursion P (drop i xs) → AllByRecursion P (drop (suc i) xs)
later-suc P [] zero all = tt
later-suc P [] (suc i) all = tt
later-suc P (x ∷ xs) zero all = all.1
later-suc P (x ∷ xs) (suc i) all = later-suc P xs i all

pub all-later : {X : Type 0} (P : X → Type 0) (xs : List X) (i : ℕ) → AllByRecursion P (drop i xs) → AllByRecursion P (drop (i + 1) xs)
all-later P xs i all = let next : suc i ≡ i + 1 = omega arith in subst (λ n. AllByRecursion P (drop n xs)) next (later-suc P xs i all)

module _ (f : GroupId → GroupId) where
  set-place : (xs : List GroupId) (i : ℕ) (d : GroupId) → i < length xs
      → slice_set (map f (take i xs) ++ drop i xs) i (f (get_or (map f (take i xs) ++ drop i xs) i d)) ≡ map f (take (suc i) xs) ++ drop (suc i) xs
  set-place [] i d within = absurd (omega (arith, within))
  set-place (y ∷ xs) zero d within = refl
  set-place (y ∷ xs) (suc i) d within = ap (λ rest. f y ∷ rest) (set-place xs i d (omega (arith, within)))

  pub set-next : (ids xs : List GroupId) (i : ℕ) (d : GroupId) → i < length xs → ids ≡ map f (take i xs) ++ drop i xs
      → slice_set ids i (f (get_or ids i d)) ≡ map f (take (i + 1) xs) ++ drop (i + 1) xs
  set-next ids xs i d within is =
      let next : suc i ≡ i + 1 = omega arith in
      ap (λ ys. slice_set ys i (f (get_or ys i d))) is ∙ set-place xs i d within ∙ ap (λ n. map f (take n xs) ++ drop n xs) next

  -- the item at a place is still an old one
  old-holds : (P : GroupId → Type 0) (xs : List GroupId) (i : ℕ) (d : GroupId) → i < length xs → AllByRecursion P (drop i xs) → P (get_or (map f (take i xs) ++ drop i xs) i d)
  old-holds P [] i d within all = absurd (omega (arith, within))
  old-holds P (y ∷ xs) zero d within all = all.0
  old-holds P (y ∷ xs) (suc i) d within all = old-holds P xs i d (omega (arith, within)) all

  pub still-holds : (P : GroupId → Type 0) (ids xs : List GroupId) (i : ℕ) (d : GroupId) → i < length xs → ids ≡ map f (take i xs) ++ drop i xs → AllByRecursion P (drop i xs) → P (get_or ids i d)
  still-holds P ids xs i d within is all = subst (λ ys. P (get_or ys i d)) (sym is) (old-holds P xs i d within all)

-- ---- each item moved to the end

module _ {X : Type 0} (f : X → X) (xs : List X) (i : ℕ) (within : i < length xs) where
  abbrev turning : List X
  turning = drop i xs ++ map f (take i xs)

  first-there : (P : X → Type 0) (x : X) → slice_get turning 0 ≡ Some x → AllByRecursion P (drop i xs) → P x
  first-there P x there all = by (drop i xs) (λ none. absurd (omega (arith, none, length-drop i xs, within))) there all
    where
      by : (left : List X) → (length left ≡ 0 → P x) → slice_get (left ++ map f (take i xs)) 0 ≡ Some x → AllByRecursion P left → P x
      by [] none there all = none refl
      by (y ∷ left) none there all = subst P (some-same y x there) all.0

  pub rotate-next : (x : X) (items rest : List X) → items ≡ turning → slice_get items 0 ≡ Some x → rest ≡ remove items 0 → rest ++ f x ∷ [] ≡ drop (i + 1) xs ++ map f (take (i + 1) xs)
  rotate-next x items rest is there removed =
      let cut = drop-cons xs i x within in
      let y = get_or xs i x in
      let all : turning ≡ y ∷ (drop (suc i) xs ++ map f (take i xs)) = ap (λ left. left ++ map f (take i xs)) cut in
      let first : y ≡ x = some-same y x (ap (λ l. slice_get l 0) (sym (is ∙ all)) ∙ there) in
      let next : suc i ≡ i + 1 = omega arith in
      ap (λ l. l ++ f x ∷ []) (removed ∙ ap (λ l. remove l 0) (is ∙ all))
      ∙ append_assoc (drop (suc i) xs) (map f (take i xs)) (f x ∷ [])
      ∙ ap₂ (λ n l. drop n xs ++ l) next (sym (map-append f (take i xs) (x ∷ [])) ∙ ap (map f) (sym (take-one_more xs i x within (sym first))))

-- ---- leaves as parts by themselves

module _ (p : Cond → Bool) where
  some-kept : (conds : List Cond) (n : ℕ) (side : Side) → list_any p conds ≡ true → (kept_single n side (filter p conds) ≡ record { 0 = n }) × (one_if (filter p conds) ≡ 1)
  some-kept [] n side some = absurd (true≢false (sym some))
  some-kept (x ∷ conds) n side some = by (p x) some (some-kept conds n side)
    where
      by : (b : Bool) → (b || list_any p conds) ≡ true → (list_any p conds ≡ true → (kept_single n side (filter p conds) ≡ record { 0 = n }) × (one_if (filter p conds) ≡ 1))
          → (kept_single n side (cond b (x ∷ filter p conds) (filter p conds)) ≡ record { 0 = n }) × (one_if (cond b (x ∷ filter p conds) (filter p conds)) ≡ 1)
      by true some rest = (refl, refl)
      by false some rest = rest some

  no-kept : (conds : List Cond) → list_any p conds ≡ false → filter p conds ≡ []
  no-kept [] none = refl
  no-kept (x ∷ conds) none = by (p x) none (no-kept conds)
    where
      by : (b : Bool) → (b || list_any p conds) ≡ false → (list_any p conds ≡ false → filter p conds ≡ []) → cond b (x ∷ filter p conds) (filter p conds) ≡ []
      by true none rest = absurd (true≢false none)
      by false none rest = rest none

  pub single-by : (conds : List Cond) (n : ℕ) (side : Side) (b : Bool) → list_any p conds ≡ b
      → (kept_single n side (filter p conds) ≡ (if b then record { 0 = n } else side.group)) × (one_if (filter p conds) ≡ (if b then 1 else 0))
  single-by conds n side true is = some-kept conds n side is
  single-by conds n side false is = (ap (kept_single n side) (no-kept conds is), ap one_if (no-kept conds is))

module _ (conds : List Cond) (n : ℕ) (sides : List Side) (i : ℕ) (side : Side) (within : i < length sides) (item : side ≡ get_or sides i side) where
  pub singles-next : (b : Bool) → b ≡ list_any (is_inside side.schema) conds → (some all : List GroupId) → some ++ kept_singles conds n (drop i sides) ≡ all
      → (some ++ (if b then record { 0 = n } else side.group) ∷ []) ++ kept_singles conds (n + (if b then 1 else 0)) (drop (i + 1) sides) ≡ all
  singles-next b is some all had =
      let kept = single-by (is_inside side.schema) conds n side b (sym is) in
      append_assoc some ((if b then record { 0 = n } else side.group) ∷ []) (kept_singles conds (n + (if b then 1 else 0)) (drop (i + 1) sides))
      ∙ ap₂ (λ (id : GroupId) m. some ++ (id ∷ kept_singles conds (n + m) (drop (i + 1) sides))) (sym kept.0) (sym kept.1)
      ∙ ap (λ left. some ++ kept_singles conds n left) (sym (drop-next sides i side within item))
      ∙ had

-- ---- how many sets there are

pub sets-most : (useful : List ColId) (block : ℕ) (level : Level) (sides : List Side) (conds : List Cond) (singles : List GroupId) (first n : ℕ) → length (kept_sets useful block level sides conds singles first n) ≤ n
sets-most useful block level sides conds singles first n =
    let masks = filter (has_set level) (below n) in
    let all = length-map masks (kept_set useful block level sides conds singles first) in
    let kept = kept-most (has_set level) (below n) in
    let count = below-length n in
    omega (arith, all, kept, count)

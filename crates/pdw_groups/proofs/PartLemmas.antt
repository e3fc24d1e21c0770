-- The leaf of a set that has one.
use Rattle.std.proofs.Common.{◌≡◌, ℕ, zero, suc, ◌+◌, ◌^◌, ◌<◌, ◌≤◌, ◌==◌, Bool, true, false, true≢false, List, [], ◌∷◌, length, get_or, count_ones, refl, sym, ap, ◌∙◌, arith, eqb-true, if◌then◌else◌, w32, ◌++◌, map, filter, cond, append-nil, ◌⊎◌, inl, inr}
use Rattle.std.specs.Int.{bit_at, trailing_zeros}
use Rattle.std.proofs.lemmas.Nat.Bits.{bit_at-trailing_zeros, bit_at_above}
use Rattle.std.proofs.lemmas.Bool.{cases_lt}
use lib.Count.{ones}
use Rattle.pdw_groups.proofs.CountLaws.{chosen-count}
use Rattle.pdw_groups.proofs.PartOrder.{kept-suc}
use Rattle.pdw_groups.specs.Block.{one_or}
use Rattle.pdw_groups.specs.Level.{below, is_one, set_of}
use Rattle.pdw_parts.specs.Part.{LeafSet, chosen}

none-left : {X : Type 0} (xs : List X) → length xs ≡ 0 → xs ≡ []
none-left [] none = refl
none-left (x ∷ xs) none = absurd (omega (arith, none))

some-chosen : {X : Type 0} (set : LeafSet) (xs : List X) (i : ℕ) → i < length xs → set i ≡ true → 1 ≤ length (chosen set xs)
some-chosen set [] i within there = absurd (omega (arith, within))
some-chosen set (x ∷ xs) zero within there = ap_le (ap (λ (b : Bool). length (if b then x ∷ chosen (λ i. set (suc i)) xs else chosen (λ i. set (suc i)) xs)) there)
  where
    ap_le : {n : ℕ} → n ≡ suc (length (chosen (λ i. set (suc i)) xs)) → 1 ≤ n
    ap_le same = omega (arith, same)
some-chosen set (x ∷ xs) (suc i) within there = by (set 0) (some-chosen (λ i. set (suc i)) xs i (omega (arith, within)) there)
  where
    by : (b : Bool) → 1 ≤ length (chosen (λ i. set (suc i)) xs) → 1 ≤ length (if b then x ∷ chosen (λ i. set (suc i)) xs else chosen (λ i. set (suc i)) xs)
    by true rest = omega arith
    by false rest = rest

-- one is chosen: that of this place
chosen-one : {X : Type 0} (set : LeafSet) (xs : List X) (i : ℕ) (d : X) → i < length xs → set i ≡ true → length (chosen set xs) ≡ 1 → chosen set xs ≡ get_or xs i d ∷ []
chosen-one set [] i d within there one = absurd (omega (arith, within))
chosen-one set (x ∷ xs) zero d within there one =
    let first = ap (λ (b : Bool). if b then x ∷ chosen (λ i. set (suc i)) xs else chosen (λ i. set (suc i)) xs) there in
    let rest = none-left (chosen (λ i. set (suc i)) xs) (pred_same (sym (ap length first) ∙ one)) in
    first ∙ ap (λ others. x ∷ others) rest
  where
    pred_same : {n : ℕ} → suc n ≡ 1 → n ≡ 0
    pred_same same = omega (arith, same)
chosen-one set (x ∷ xs) (suc i) d within there one =
    by (set 0) one (some-chosen (λ i. set (suc i)) xs i (omega (arith, within)) there) (λ alone. chosen-one (λ i. set (suc i)) xs i d (omega (arith, within)) there alone)
  where
    by : (b : Bool) → length (if b then x ∷ chosen (λ i. set (suc i)) xs else chosen (λ i. set (suc i)) xs) ≡ 1 → 1 ≤ length (chosen (λ i. set (suc i)) xs)
        → (length (chosen (λ i. set (suc i)) xs) ≡ 1 → chosen (λ i. set (suc i)) xs ≡ get_or xs i d ∷ [])
        → (if b then x ∷ chosen (λ i. set (suc i)) xs else chosen (λ i. set (suc i)) xs) ≡ get_or xs i d ∷ []
    by true one some rest = absurd (omega (arith, one, some))
    by false one some rest = rest one

pub one-part : {X : Type 0} (xs : List X) (mask i : ℕ) (d next : X) → mask < 2 ^ length xs → i < length xs → bit_at mask i ≡ 1 → is_one mask ≡ true
    → get_or xs i d ≡ one_or (chosen (set_of mask) xs) next
one-part xs mask i d next inside within bit one =
    sym (ap (λ some. one_or some next)
    (chosen-one (set_of mask) xs i d within (ap (λ n. n == 1) bit) (chosen-count xs mask inside ∙ eqb-true (count_ones mask) 1 one)))

pub other-part : {X : Type 0} (xs : List X) (mask : ℕ) (next : X) → mask < 2 ^ length xs → is_one mask ≡ false → next ≡ one_or (chosen (set_of mask) xs) next
other-part xs mask next inside several = by (chosen (set_of mask) xs) (chosen-count xs mask inside)
  where
    by : (some : List _) → length some ≡ count_ones mask → next ≡ one_or some next
    by [] count = refl
    by (x ∷ []) count = absurd (true≢false (sym (ap (λ n. n == 1) (sym count)) ∙ several))
    by (x ∷ y ∷ rest) count = refl

-- the place of the only leaf
pub one-place : (count mask : ℕ) → mask < 2 ^ count → mask < 2 ^ 32 → is_one mask ≡ true → (trailing_zeros w32 mask < count) × (bit_at mask (trailing_zeros w32 mask) ≡ 1)
unfolding ones
one-place count mask inside small one =
    let found = bit_at-trailing_zeros w32 mask positive small in
    (by (cases_lt (trailing_zeros w32 mask) count) found.1, found.1)
  where
    positive : 0 < mask
    positive = some mask (eqb-true (count_ones mask) 1 one)
      where
        some : (m : ℕ) → count_ones m ≡ 1 → 0 < m
        some zero is = absurd (omega (arith, is))
        some (suc m) is = omega arith

    by : (trailing_zeros w32 mask < count) ⊎ (count ≤ trailing_zeros w32 mask) → bit_at mask (trailing_zeros w32 mask) ≡ 1 → trailing_zeros w32 mask < count
    by (inr above) bit = absurd (omega (arith, bit, bit_at_above mask count (trailing_zeros w32 mask) inside above))
    by (inl within) bit = within

-- ---- one number more

module _ {X : Type 0} (f : ℕ → X) (test : ℕ → Bool) (n : ℕ) where
  next-below : map f (filter test (below (n + 1))) ≡ map f (filter test (below n)) ++ map f (filter test (n ∷ []))
  next-below = let same : n + 1 ≡ suc n = omega arith in ap (λ k. map f (filter test (below k))) same ∙ kept-suc f test n

  pub kept-more : {before after : List X} → test n ≡ true → before ≡ map f (filter test (below n)) → after ≡ before ++ f n ∷ [] → after ≡ map f (filter test (below (n + 1)))
  kept-more is had pushed =
      pushed ∙ ap (λ xs. xs ++ f n ∷ []) had
      ∙ ap (λ b. map f (filter test (below n)) ++ map f (cond b (n ∷ []) [])) (sym is)
      ∙ sym next-below

  pub kept-same : {before : List X} → test n ≡ false → before ≡ map f (filter test (below n)) → before ≡ map f (filter test (below (n + 1)))
  kept-same is had =
      had ∙ sym (append-nil (map f (filter test (below n))))
      ∙ ap (λ b. map f (filter test (below n)) ++ map f (cond b (n ∷ []) [])) (sym is)
      ∙ sym next-below

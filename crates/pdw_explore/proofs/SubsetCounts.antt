-- The subsets of a set of leaves, counted by how many leaves they have and leave, and sets by how many they have.
use Rattle.std.proofs.Common.{◌≡◌, ℕ, zero, suc, ◌+◌, ◌-◌, ◌*◌, ◌^◌, ◌<◌, ◌≤◌, ◌==◌, Bool, true, false, true≢false, count_ones, bit_and, refl, sym, ap, ap₂, subst, ◌∙◌, arith, eqb-true, eq-eqb, ne_eqb, ◌⊎◌, inl, inr, if◌then◌else◌}
use Rattle.std.specs.Int.Bits.{bit_xor}
use Rattle.std.proofs.lemmas.Bool.{cases_lt}
use lib.Bits.{and_block, and_le_r, xor_block, xor_lt}
use lib.Count.{ones, ones_cat}
use Rattle.pdw_explore.proofs.Totals.{doubled, total, total-double, total-none, total-same}

-- ---- one leaf more, as the highest bit

module _ (k : ℕ) where
  without : (n : ℕ) → 0 * 2 ^ k + n ≡ n
  without n = omega arith

  with_top : (n : ℕ) → 1 * 2 ^ k + n ≡ 2 ^ k + n
  with_top n = omega arith

  module _ (l m : ℕ) (l_less : l < 2 ^ k) (m_less : m < 2 ^ k) where
    and-low : bit_and l (2 ^ k + m) ≡ bit_and l m
    and-low = ap₂ bit_and (sym (without l)) (sym (with_top m)) ∙ and_block k 0 1 l m l_less m_less ∙ without (bit_and l m)

    and-both : bit_and (2 ^ k + l) (2 ^ k + m) ≡ 2 ^ k + bit_and l m
    and-both = ap₂ bit_and (sym (with_top l)) (sym (with_top m)) ∙ and_block k 1 1 l m l_less m_less ∙ with_top (bit_and l m)

    xor-low : bit_xor l (2 ^ k + m) ≡ 2 ^ k + bit_xor l m
    xor-low = ap₂ bit_xor (sym (without l)) (sym (with_top m)) ∙ xor_block k 0 1 l m l_less m_less ∙ with_top (bit_xor l m)

    xor-both : bit_xor (2 ^ k + l) (2 ^ k + m) ≡ bit_xor l m
    xor-both = ap₂ bit_xor (sym (with_top l)) (sym (with_top m)) ∙ xor_block k 1 1 l m l_less m_less ∙ without (bit_xor l m)

  pub ones-top : (n : ℕ) → n < 2 ^ k → count_ones (2 ^ k + n) ≡ suc (count_ones n)
  unfolding ones
  ones-top n less = ap count_ones (sym (with_top n)) ∙ ones_cat k 1 n less ∙ (let next : 1 + count_ones n ≡ suc (count_ones n) = omega arith in next)

same-test : (a b c d : ℕ) → (a ≡ b → c ≡ d) → (c ≡ d → a ≡ b) → (a == b) ≡ (c == d)
same-test a b c d there back = by (a == b) (c == d) refl refl
  where
    by : (x y : Bool) → (a == b) ≡ x → (c == d) ≡ y → x ≡ y
    by true true first second = refl
    by false false first second = refl
    by true false first second = absurd (true≢false (sym (eq-eqb c d (there (eqb-true a b first))) ∙ second))
    by false true first second = absurd (true≢false (sym (eq-eqb a b (back (eqb-true c d second))) ∙ first))

-- ---- subsets

-- how many subsets a set of n leaves has, by a weight of how many leaves a subset has and how many it leaves
abbrev pub subsets : (ℕ → ℕ → ℕ) → ℕ → ℕ
subsets weight zero = weight 0 0
subsets weight (suc n) = subsets (λ a b. weight a (suc b)) n + subsets (λ a b. weight (suc a) b) n

-- the weight of a set, if it is a subset
abbrev pub weighed : (ℕ → ℕ → ℕ) → ℕ → ℕ → ℕ
weighed weight mask left = if bit_and left mask == left then weight (count_ones left) (count_ones (bit_xor left mask)) else 0

no-subset : (weight : ℕ → ℕ → ℕ) (k l m : ℕ) → m < 2 ^ k → weighed weight m (2 ^ k + l) ≡ 0
no-subset weight k l m less =
    let small = and_le_r (2 ^ k + l) m in
    ap (λ (b : Bool). if b then weight (count_ones (2 ^ k + l)) (count_ones (bit_xor (2 ^ k + l) m)) else 0)
    (ne_eqb (bit_and (2 ^ k + l) m) (2 ^ k + l) (λ same. omega (arith, small, less, same)))

module _ (weight : ℕ → ℕ → ℕ) (k m : ℕ) (less : m < 2 ^ k) where
  weighed-low : (l : ℕ) → l < 2 ^ k → weighed weight (2 ^ k + m) l ≡ weighed (λ a b. weight a (suc b)) m l
  weighed-low l small =
      ap₂ (λ (n r : ℕ). if n == l then weight (count_ones l) (count_ones r) else 0) (and-low k l m small less) (xor-low k l m small less)
      ∙ ap (λ n. if bit_and l m == l then weight (count_ones l) n else 0) (ones-top k (bit_xor l m) (xor_lt k l m small less))

  weighed-high : (l : ℕ) → l < 2 ^ k → weighed weight (2 ^ k + m) (2 ^ k + l) ≡ weighed (λ a b. weight (suc a) b) m l
  weighed-high l small =
      ap₂ (λ (n r : ℕ). if n == 2 ^ k + l then weight (count_ones (2 ^ k + l)) (count_ones r) else 0) (and-both k l m small less) (xor-both k l m small less)
      ∙ ap₂ (λ (b : Bool) n. if b then weight n (count_ones (bit_xor l m)) else 0)
      (same-test (2 ^ k + bit_and l m) (2 ^ k + l) (bit_and l m) l (λ same. omega (arith, same)) (λ same. omega (arith, same)))
      (ones-top k l small)

-- with one leaf more, which a set has or not
one-more : (weight : ℕ → ℕ → ℕ) (k m : ℕ) → m < 2 ^ suc k → ((weight : ℕ → ℕ → ℕ) (m : ℕ) → m < 2 ^ k → total (weighed weight m) (2 ^ k) ≡ subsets weight (count_ones m))
    → total (weighed weight m) (2 ^ suc k) ≡ subsets weight (count_ones m)
one-more weight k m less rest = by (cases_lt m (2 ^ k))
  where
    by : (m < 2 ^ k) ⊎ (2 ^ k ≤ m) → total (weighed weight m) (2 ^ suc k) ≡ subsets weight (count_ones m)
    by (inl small) =
        total-double (weighed weight m) k
        ∙ ap₂ (λ a b. a + b) (rest weight m small) (total-none (λ l. weighed weight m (2 ^ k + l)) (2 ^ k) (λ l within. no-subset weight k l m small))
        ∙ (let none : subsets weight (count_ones m) + 0 ≡ subsets weight (count_ones m) = omega arith in none)
    by (inr large) =
        let below : m - 2 ^ k < 2 ^ k = omega (arith, less, doubled k) in
        let split : 2 ^ k + (m - 2 ^ k) ≡ m = omega (arith, large) in
        subst (λ m. total (weighed weight m) (2 ^ suc k) ≡ subsets weight (count_ones m)) split
        (total-double (weighed weight (2 ^ k + (m - 2 ^ k))) k
        ∙ ap₂ (λ a b. a + b)
        (total-same (weighed weight (2 ^ k + (m - 2 ^ k))) (weighed (λ a b. weight a (suc b)) (m - 2 ^ k)) (2 ^ k) (weighed-low weight k (m - 2 ^ k) below) ∙ rest (λ a b. weight a (suc b)) (m - 2 ^ k) below)
        (total-same (λ l. weighed weight (2 ^ k + (m - 2 ^ k)) (2 ^ k + l)) (weighed (λ a b. weight (suc a) b) (m - 2 ^ k)) (2 ^ k) (weighed-high weight k (m - 2 ^ k) below) ∙ rest (λ a b. weight (suc a) b) (m - 2 ^ k) below)
        ∙ ap (subsets weight) (sym (ones-top k (m - 2 ^ k) below)))

-- the subsets of a set are as many as those of its number of leaves
pub total-subsets : (weight : ℕ → ℕ → ℕ) (k m : ℕ) → m < 2 ^ k → total (weighed weight m) (2 ^ k) ≡ subsets weight (count_ones m)
unfolding ones
total-subsets weight zero m less = let none : m ≡ 0 = omega (arith, less) in subst (λ m. total (weighed weight m) (2 ^ 0) ≡ subsets weight (count_ones m)) (sym none) (omega arith)
total-subsets weight (suc k) m less = one-more weight k m less (λ weight m. total-subsets weight k m)

-- ---- sets

-- how many sets of k leaves there are, by a weight of how many leaves they have
abbrev pub sets : (ℕ → ℕ) → ℕ → ℕ
sets weight zero = weight 0
sets weight (suc k) = sets weight k + sets (λ n. weight (suc n)) k

pub total-sets : (weight : ℕ → ℕ) (k : ℕ) → total (λ m. weight (count_ones m)) (2 ^ k) ≡ sets weight k
unfolding ones
total-sets weight zero = omega arith
total-sets weight (suc k) =
    total-double (λ m. weight (count_ones m)) k
    ∙ ap₂ (λ a b. a + b) (total-sets weight k)
    (total-same (λ i. weight (count_ones (2 ^ k + i))) (λ i. weight (suc (count_ones i))) (2 ^ k) (λ i less. ap weight (ones-top k i less)) ∙ total-sets (λ n. weight (suc n)) k)

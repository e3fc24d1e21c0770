-- Columns and their kinds side by side, and lists in which each number stands once.
use Rattle.std.proofs.Common.{◌≡◌, ◌≢◌, ℕ, zero, suc, ◌<◌, ◌==◌, ◌||◌, Bool, true, false, List, [], ◌∷◌, ◌++◌, length, map, fold, get_or, Option, Some, None, is_some, AllPairs, refl, ap, ◌∙◌, arith, eq-eqb, eqb-true, if◌then◌else◌}
use Rattle.std.specs.List.{AllByRecursion, flat_map, list_any, list_all}
use Rattle.std.proofs.lemmas.Bool.{and_from, eqb-false, ne_eqb}
use Rattle.std.proofs.lemmas.List.Folds.{list_any-append}
use Rattle.std.proofs.lemmas.Option.{none-some}
use Rattle.pdw_algebra.specs.Schema.{kind_at}
use Rattle.pdw_algebra.specs.Shape.{aggregate_column, has_number, item_column, item_kind, key_column, kind_or_int, made_by}
use Rattle.pdw_algebra.specs.Types.{aggregate_kind}
use Rattle.pdw_base.specs.Schema.{Columns}
use Rattle.pdw_base.specs.declared.schema.ColId.{ColId}
use Rattle.pdw_base.specs.declared.value.Kind.{Kind}
use Rattle.pdw_expr.specs.declared.agg.Agg.{Agg}
use Rattle.pdw_expr.specs.declared.scalar.Scalar.{Scalar}

-- ---- lists

pub every-map : {X : Type 0} (P Q : X → Type 0) → ((x : X) → P x → Q x) → (xs : List X) → AllByRecursion P xs → AllByRecursion Q xs
every-map P Q f [] all = tt
every-map P Q f (x ∷ xs) all = (f x all.0, every-map P Q f xs all.1)

pub every-append : {X : Type 0} (P : X → Type 0) (xs ys : List X) → AllByRecursion P xs → AllByRecursion P ys → AllByRecursion P (xs ++ ys)
every-append P [] ys first second = second
every-append P (x ∷ xs) ys first second = (first.0, every-append P xs ys first.1 second)

-- a test that every item passes
pub every-passes : {X : Type 0} (p : X → Bool) (xs : List X) → AllByRecursion (λ x. p x ≡ true) xs → list_all p xs ≡ true
every-passes p [] all = refl
every-passes p (x ∷ xs) all = and_from _ _ all.0 (every-passes p xs all.1)

-- of the images of items
pub every-image : {X Y : Type 0} (f : X → Y) (P : Y → Type 0) (xs : List X) → AllByRecursion (λ x. P (f x)) xs → AllByRecursion P (map f xs)
every-image f P [] all = tt
every-image f P (x ∷ xs) all = (all.0, every-image f P xs all.1)

pub every-of-image : {X Y : Type 0} (f : X → Y) (P : Y → Type 0) (xs : List X) → AllByRecursion P (map f xs) → AllByRecursion (λ x. P (f x)) xs
every-of-image f P [] all = tt
every-of-image f P (x ∷ xs) all = (all.0, every-of-image f P xs all.1)

-- ---- lists whose items differ, by recursion

-- each item stands in a relation to all later ones
abbrev pub Apart : {X : Type 0} → (X → X → Type 0) → List X → Type 0
Apart R [] = Unit {0}
Apart R (x ∷ xs) = AllByRecursion (R x) xs × Apart R xs

pub apart-push : {X : Type 0} (R : X → X → Type 0) (xs : List X) (y : X) → Apart R xs → AllByRecursion (λ x. R x y) xs → Apart R (xs ++ y ∷ [])
apart-push R [] y apart all = (tt, tt)
apart-push R (x ∷ xs) y apart all = (every-append (R x) xs (y ∷ []) apart.0 (all.0, tt), apart-push R xs y apart.1 all.1)

pub pairs-first : {X : Type 0} (R : X → X → Type 0) (x : X) (xs : List X) → AllByRecursion (R x) xs → AllPairs R xs → AllPairs R (x ∷ xs)
pairs-first R x xs first rest i j d before within = by i j before within
  where
    at : (ys : List _) → AllByRecursion (R x) ys → (k : ℕ) (d : _) → k < length ys → R x (get_or ys k d)
    at [] all k d below = absurd (omega (arith, below))
    at (y ∷ ys) all zero d below = all.0
    at (y ∷ ys) all (suc k) d below = at ys all.1 k d (omega (arith, below))

    by : (i j : ℕ) → i < j → j < length (x ∷ xs) → R (get_or (x ∷ xs) i d) (get_or (x ∷ xs) j d)
    by i zero before within = absurd (omega (arith, before))
    by zero (suc j) before within = at xs first j d (omega (arith, within))
    by (suc i) (suc j) before within = rest i j d (omega (arith, before)) (omega (arith, within))

pub pairs-none : {X : Type 0} (R : X → X → Type 0) → AllPairs R []
pairs-none R i j d before within = absurd (omega (arith, within))

pub pairs-apart : {X : Type 0} (R : X → X → Type 0) (xs : List X) → Apart R xs → AllPairs R xs
pairs-apart R [] apart = pairs-none R
pairs-apart R (x ∷ xs) apart = pairs-first R x xs apart.0 (pairs-apart R xs apart.1)

pub apart-pairs : {X : Type 0} (R : X → X → Type 0) (xs : List X) → AllPairs R xs → Apart R xs
apart-pairs R [] pairs = tt
apart-pairs R (x ∷ xs) pairs = (
  each xs (λ j d within. pairs 0 (suc j) d (omega arith) (omega (arith, within))),
  apart-pairs R xs (λ i j d before within. pairs (suc i) (suc j) d (omega (arith, before)) (omega (arith, within))),
)
  where
    each : (ys : List _) → ((j : ℕ) (d : _) → j < length ys → R x (get_or ys j d)) → AllByRecursion (R x) ys
    each [] f = tt
    each (y ∷ ys) f = (f 0 y (omega arith), each ys (λ j d within. f (suc j) d (omega (arith, within))))

-- one list after another, of items that differ across
pub apart-append : {X : Type 0} (R : X → X → Type 0) (P Q : X → Type 0) → ((x y : X) → P x → Q y → R x y) → (xs ys : List X)
    → Apart R xs → Apart R ys → AllByRecursion P xs → AllByRecursion Q ys → Apart R (xs ++ ys)
apart-append R P Q cross [] ys first second low high = second
apart-append R P Q cross (x ∷ xs) ys first second low high =
    (every-append (R x) xs ys first.0 (every-map Q (R x) (λ y q. cross x y low.0 q) ys high), apart-append R P Q cross xs ys first.1 second low.1 high)

pub apart-left : {X : Type 0} (R : X → X → Type 0) (xs ys : List X) → Apart R (xs ++ ys) → Apart R xs
apart-left R [] ys apart = tt
apart-left R (x ∷ xs) ys apart = (all-before xs apart.0, apart-left R xs ys apart.1)
  where
    all-before : (zs : List _) → AllByRecursion (R x) (zs ++ ys) → AllByRecursion (R x) zs
    all-before [] all = tt
    all-before (z ∷ zs) all = (all.0, all-before zs all.1)

-- ---- each once, by a number

module _ {X : Type 0} (key : X → ℕ) where
  abbrev pub has_key : ℕ → List X → Bool
  has_key n xs = list_any (λ x. key x == n) xs

  abbrev pub add_once : List X → X → List X
  add_once before x = if has_key (key x) before then before else before ++ x ∷ []

  abbrev pub Differs : X → X → Type 0
  Differs a b = key a ≢ key b

  has-push : (n : ℕ) (xs : List X) (x : X) → has_key n (xs ++ x ∷ []) ≡ (has_key n xs || (key x == n))
  has-push n xs x = list_any-append (λ y. key y == n) xs (x ∷ []) ∙ ap (λ b. has_key n xs || b) (or-false (key x == n))
    where
      or-false : (b : Bool) → (b || false) ≡ b
      or-false true = refl
      or-false false = refl

  or-right : (a b : Bool) → b ≡ true → (a || b) ≡ true
  or-right true b is = refl
  or-right false b is = is

  or-left : (a b : Bool) → a ≡ true → (a || b) ≡ true
  or-left true b is = refl
  or-left false b is = absurd (cc)

  has-kept : (n : ℕ) (before : List X) (x : X) → has_key n before ≡ true → has_key n (add_once before x) ≡ true
  has-kept n before x is = by (has_key (key x) before)
    where
      by : (b : Bool) → has_key n (if b then before else before ++ x ∷ []) ≡ true
      by true = is
      by false = has-push n before x ∙ or-left _ _ is

  has-added : (before : List X) (x : X) → has_key (key x) (add_once before x) ≡ true
  has-added before x = by (has_key (key x) before) refl
    where
      by : (b : Bool) → has_key (key x) before ≡ b → has_key (key x) (if b then before else before ++ x ∷ []) ≡ true
      by true is = is
      by false is = has-push (key x) before x ∙ or-right _ _ (eq-eqb (key x) (key x) refl)

  has-still : (n : ℕ) (before xs : List X) → has_key n before ≡ true → has_key n (fold add_once before xs) ≡ true
  has-still n before [] is = is
  has-still n before (x ∷ xs) is = has-still n (add_once before x) xs (has-kept n before x is)

  -- each of the items is there by its number
  pub once-has : (before xs : List X) → AllByRecursion (λ x. has_key (key x) (fold add_once before xs) ≡ true) xs
  once-has before [] = tt
  once-has before (x ∷ xs) = (has-still (key x) (add_once before x) xs (has-added before x), once-has (add_once before x) xs)

  -- what holds of the items holds of those that are kept
  pub once-all : (P : X → Type 0) (before xs : List X) → AllByRecursion P before → AllByRecursion P xs → AllByRecursion P (fold add_once before xs)
  once-all P before [] first all = first
  once-all P before (x ∷ xs) first all = once-all P (add_once before x) xs (by (has_key (key x) before)) all.1
    where
      by : (b : Bool) → AllByRecursion P (if b then before else before ++ x ∷ [])
      by true = first
      by false = every-append P before (x ∷ []) first (all.0, tt)

  none-has : (n : ℕ) (xs : List X) → has_key n xs ≡ false → AllByRecursion (λ x. key x ≢ n) xs
  none-has n [] is = tt
  none-has n (x ∷ xs) is = by (key x == n) refl is (none-has n xs)
    where
      by : (b : Bool) → (key x == n) ≡ b → (b || has_key n xs) ≡ false → (has_key n xs ≡ false → AllByRecursion (λ x. key x ≢ n) xs) → (key x ≢ n) × AllByRecursion (λ x. key x ≢ n) xs
      by true here is rest = absurd (cc)
      by false here is rest = (eqb-false (key x) n here, rest is)

  -- and they differ
  pub once-apart : (before xs : List X) → Apart Differs before → Apart Differs (fold add_once before xs)
  once-apart before [] apart = apart
  once-apart before (x ∷ xs) apart = once-apart (add_once before x) xs (by (has_key (key x) before) refl)
    where
      by : (b : Bool) → has_key (key x) before ≡ b → Apart Differs (if b then before else before ++ x ∷ [])
      by true is = apart
      by false is = apart-push Differs before x apart (none-has (key x) before is)

-- ---- kinds of columns side by side

pub kind-left : (xs ys : Columns) (c : ColId) (k : Kind) → kind_at xs c ≡ Some k → kind_at (xs ++ ys) c ≡ Some k
kind-left [] ys c k has = absurd (none-some k has)
kind-left (x ∷ xs) ys c k has = by (x.0.0 == c.0) (kind-left xs ys c k) has
  where
    by : (here : Bool) → (kind_at xs c ≡ Some k → kind_at (xs ++ ys) c ≡ Some k) → (if here then Some x.1 else kind_at xs c) ≡ Some k → (if here then Some x.1 else kind_at (xs ++ ys) c) ≡ Some k
    by true later has = has
    by false later has = later has

-- columns of other numbers tell nothing
pub kind-right : (xs ys : Columns) (c : ColId) → AllByRecursion (λ x. x.0.0 ≢ c.0) xs → kind_at (xs ++ ys) c ≡ kind_at ys c
kind-right [] ys c others = refl
kind-right (x ∷ xs) ys c others = ap (λ b. if b then Some x.1 else kind_at (xs ++ ys) c) (ne_eqb x.0.0 c.0 others.0) ∙ kind-right xs ys c others.1

pub kind-number : (columns : Columns) (c : ColId) (k : Kind) → kind_at columns c ≡ Some k → has_number c columns ≡ true
kind-number [] c k has = absurd (none-some k has)
kind-number (x ∷ xs) c k has = by (x.0.0 == c.0) (kind-number xs c k) has
  where
    by : (here : Bool) → (kind_at xs c ≡ Some k → has_number c xs ≡ true) → (if here then Some x.1 else kind_at xs c) ≡ Some k → (here || has_number c xs) ≡ true
    by true later has = refl
    by false later has = later has

-- ---- the columns of groups and of items

-- a grouping column has the kind that it has over FROM's columns
pub key-kind : (rows : Columns) (keys : List ColId) (c : ColId) → list_any (λ (key : ColId). key.0 == c.0) keys ≡ true → kind_at (map (key_column rows) keys) c ≡ Some (kind_or_int (kind_at rows c))
key-kind rows [] c among = absurd (cc)
key-kind rows (key ∷ keys) c among = by (key.0 == c.0) refl among (key-kind rows keys c)
  where
    by : (b : Bool) → (key.0 == c.0) ≡ b → (b || list_any (λ (key : ColId). key.0 == c.0) keys) ≡ true
        → (list_any (λ (key : ColId). key.0 == c.0) keys ≡ true → kind_at (map (key_column rows) keys) c ≡ Some (kind_or_int (kind_at rows c)))
        → (if b then Some (kind_or_int (kind_at rows key)) else kind_at (map (key_column rows) keys) c) ≡ Some (kind_or_int (kind_at rows c))
    by true is among later = ap (λ n. Some (kind_or_int (kind_at rows (record { 0 = n })))) (eqb-true key.0 c.0 is)
    by false is among later = later among

-- an item has its kind, where items of one number make the same
pub item-kind : (make : ColId → Option Scalar) (columns : Columns) (items : List (ColId × Option Scalar)) → AllByRecursion (λ item. item.1 ≡ make item.0) items
    → (c : ColId) → list_any (λ (item : ColId × Option Scalar). item.0.0 == c.0) items ≡ true → kind_at (map (item_column columns) items) c ≡ Some (kind_or_int (item_kind columns (c, make c)))
item-kind make columns [] all c among = absurd (cc)
item-kind make columns (item ∷ items) all c among = by (item.0.0 == c.0) refl among (item-kind make columns items all.1 c)
  where
    by : (b : Bool) → (item.0.0 == c.0) ≡ b → (b || list_any (λ (item : ColId × Option Scalar). item.0.0 == c.0) items) ≡ true
        → (list_any (λ (item : ColId × Option Scalar). item.0.0 == c.0) items ≡ true → kind_at (map (item_column columns) items) c ≡ Some (kind_or_int (item_kind columns (c, make c))))
        → (if b then Some (kind_or_int (item_kind columns item)) else kind_at (map (item_column columns) items) c) ≡ Some (kind_or_int (item_kind columns (c, make c)))
    by true is among later =
        ap (λ made. Some (kind_or_int (item_kind columns (item.0, made)))) all.0
        ∙ ap (λ n. Some (kind_or_int (item_kind columns (record { 0 = n }, make (record { 0 = n }))))) (eqb-true item.0.0 c.0 is)
    by false is among later = later among

-- aggregates whose numbers differ have their kinds at these numbers
pub aggregate-kinds : (rows : Columns) (aggs : List Agg) → Apart (λ a b. a.out.0 ≢ b.out.0) aggs → AllByRecursion (λ agg. is_some (aggregate_kind rows agg) ≡ true) aggs
    → AllByRecursion (λ agg. kind_at (map (aggregate_column rows) aggs) agg.out ≡ aggregate_kind rows agg) aggs
aggregate-kinds rows [] apart typed = tt
aggregate-kinds rows (agg ∷ aggs) apart typed = (
  ap (λ b. if b then Some (kind_or_int (aggregate_kind rows agg)) else kind_at (map (aggregate_column rows) aggs) agg.out) (eq-eqb agg.out.0 agg.out.0 refl) ∙ some-kind (aggregate_kind rows agg) typed.0,
  skip aggs apart.0 (aggregate-kinds rows aggs apart.1 typed.1),
)
  where
    some-kind : (kind : Option Kind) → is_some kind ≡ true → Some (kind_or_int kind) ≡ kind
    some-kind (Some kind) is = refl
    some-kind None is = absurd (cc)

    skip : (others : List Agg) → AllByRecursion (λ b. agg.out.0 ≢ b.out.0) others → AllByRecursion (λ b. kind_at (map (aggregate_column rows) aggs) b.out ≡ aggregate_kind rows b) others
        → AllByRecursion (λ b. kind_at (map (aggregate_column rows) (agg ∷ aggs)) b.out ≡ aggregate_kind rows b) others
    skip [] differ all = tt
    skip (b ∷ others) differ all = (
      ap (λ t. if t then Some (kind_or_int (aggregate_kind rows agg)) else kind_at (map (aggregate_column rows) aggs) b.out) (ne_eqb agg.out.0 b.out.0 differ.0) ∙ all.0,
      skip others differ.1 all.1,
    )

-- ---- the numbers that items make

-- items of different numbers make different numbers
pub made-apart : (items : List (ColId × Option Scalar)) → Apart (λ a b. a.0.0 ≢ b.0.0) items → Apart (λ (a b : ColId). a.0 ≢ b.0) (flat_map made_by items)
made-apart [] apart = tt
made-apart ((c, None) ∷ items) apart = made-apart items apart.1
made-apart ((c, Some x) ∷ items) apart = (others items apart.0, made-apart items apart.1)
  where
    others : (rest : List (ColId × Option Scalar)) → AllByRecursion (λ (b : ColId × Option Scalar). c.0 ≢ b.0.0) rest → AllByRecursion (λ (b : ColId). c.0 ≢ b.0) (flat_map made_by rest)
    others [] all = tt
    others ((d, None) ∷ rest) all = others rest all.1
    others ((d, Some y) ∷ rest) all = (all.0, others rest all.1)

-- what holds of the numbers of items that make something holds of what is made
pub made-all : (P : ColId → Type 0) (items : List (ColId × Option Scalar)) → AllByRecursion (λ item. is_some item.1 ≡ true → P item.0) items → AllByRecursion P (flat_map made_by items)
made-all P [] all = tt
made-all P ((c, None) ∷ items) all = made-all P items all.1
made-all P ((c, Some x) ∷ items) all = (all.0 refl, made-all P items all.1)

-- images that differ
pub apart-image : {X Y : Type 0} (R : Y → Y → Type 0) (f : X → Y) (xs : List X) → Apart (λ a b. R (f a) (f b)) xs → Apart R (map f xs)
apart-image R f [] apart = tt
apart-image R f (x ∷ xs) apart = (every-image f (R (f x)) xs apart.0, apart-image R f xs apart.1)

-- what holds of each item in two ways
pub every-both : {X : Type 0} (P Q R : X → Type 0) → ((x : X) → P x → Q x → R x) → (xs : List X) → AllByRecursion P xs → AllByRecursion Q xs → AllByRecursion R xs
every-both P Q R f [] first second = tt
every-both P Q R f (x ∷ xs) first second = (f x first.0 second.0, every-both P Q R f xs first.1 second.1)

-- what differs from each, each differs from
pub every-turned : {X Y : Type 0} (P : Y → Type 0) (R : X → Y → Type 0) (xs : List X) → ((y : Y) → P y → AllByRecursion (λ x. R x y) xs) → AllByRecursion (λ x. (y : Y) → P y → R x y) xs
every-turned P R [] f = tt
every-turned P R (x ∷ xs) f = (λ y p. (f y p).0, every-turned P R xs (λ y p. (f y p).1))

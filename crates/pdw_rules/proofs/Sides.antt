-- A join by its left rows, each with its partners, and rows that have NULL in a column of the other side.
use Rattle.std.proofs.Common.{◌≡◌, ℕ, zero, suc, ◌<◌, ◌==◌, Bool, true, false, true≢false, cond, ◌||◌, not, List, [], ◌∷◌, ◌++◌, map, filter, refl, sym, ap, ap₂, ◌∙◌, subst, arith, if◌then◌else◌, eqb-true}
use Rattle.std.proofs.lemmas.Bool.{eqb-false}
use Rattle.std.proofs.lemmas.Grind.{flat_map-append}
use Rattle.std.proofs.lemmas.List.Elements.{filter-append}
use Rattle.std.proofs.lemmas.List.{map-append}
use Rattle.std.specs.List.{AllByRecursion, flat_map, list_any}
use Rattle.pdw_algebra.proofs.AllLaws.{all-append, all-left, all-right}
use Rattle.pdw_algebra.proofs.Products.{all-filter}
use Rattle.pdw_base.specs.SameBag.{SameBag}
use Rattle.pdw_base.specs.Schema.{Env}
use Rattle.pdw_base.specs.declared.node.Node.TheVariants as node
use Rattle.pdw_base.specs.declared.schema.ColId.{ColId}
use Rattle.pdw_base.specs.declared.value.Value.TheVariants.{Null, Int, Text, Wide}
use Rattle.pdw_base.specs.declared.value.Value.{Value}
use Rattle.pdw_expr.specs.Comparison.{is_null}
use Rattle.pdw_expr.specs.Env.{or_else, union}
use Rattle.pdw_expr.specs.Join.{left_partnered, or_alone, partners}
use Rattle.pdw_expr.specs.Rows.{joined, meets}
use Rattle.pdw_expr.specs.declared.agg.JoinKind.TheVariants as joins
use Rattle.pdw_expr.specs.declared.agg.JoinKind.{JoinKind}
use Rattle.pdw_expr.specs.declared.cond.Cond.{Cond}
use Rattle.pdw_rules.proofs.Alike.{none-alike}
use Rattle.pdw_rules.proofs.Together.{together-more}
use Rattle.pdw_rules.specs.Rules.{is_full}
use Rattle.pdw_rules.specs.Stands.{HasNone, PlacedRows, together}

-- ---- what holds of each item

module _ {X Y : Type 0} where
  pub all-flat_map : (P : Y → Type 0) (f : X → List Y) (xs : List X) → AllByRecursion (λ x. AllByRecursion P (f x)) xs → AllByRecursion P (flat_map f xs)
  all-flat_map P f [] all = tt
  all-flat_map P f (x ∷ xs) all = all-append P (f x) (flat_map f xs) all.0 (all-flat_map P f xs all.1)

  pub flat_map-alike : (f g : X → List Y) (xs : List X) → AllByRecursion (λ x. f x ≡ g x) xs → flat_map f xs ≡ flat_map g xs
  flat_map-alike f g [] all = refl
  flat_map-alike f g (x ∷ xs) all = ap₂ (λ first rest. first ++ rest) all.0 (flat_map-alike f g xs all.1)

  pub all-map_of : (P : Y → Type 0) (f : X → Y) (xs : List X) → AllByRecursion (λ x. P (f x)) xs → AllByRecursion P (map f xs)
  all-map_of P f [] all = tt
  all-map_of P f (x ∷ xs) all = (all.0, all-map_of P f xs all.1)

-- what holds of each row of all nodes holds at each
pub all-at : (P : Env → Type 0) (n : ℕ) (rows : PlacedRows) → AllByRecursion P (together n rows) → (k : ℕ) → k < n → AllByRecursion P (rows (node.Compute k))
all-at P zero rows all k less = absurd (omega (arith, less))
all-at P (suc n) rows all k less = by (k == n) refl (λ below. all-at P n rows (all-left P (together n rows) (rows (node.Compute n)) split) k below)
  where
    split : AllByRecursion P (together n rows ++ rows (node.Compute n))
    split = subst (AllByRecursion P) (together-more n rows) all

    by : (is : Bool) → (k == n) ≡ is → (k < n → AllByRecursion P (rows (node.Compute k))) → AllByRecursion P (rows (node.Compute k))
    by true is rest =
        let same : k ≡ n = eqb-true k n is in
        subst (λ i. AllByRecursion P (rows (node.Compute i))) (sym same) (all-right P (together n rows) (rows (node.Compute n)) split)
    by false is rest = let other = eqb-false k n is in rest (omega (arith, less, other))

-- ---- rows that have NULL in a column

null-is : (value : Value) → not (is_null value) ≡ false → value ≡ Null
null-is Null is = refl
null-is (Int z) is = absurd (true≢false is)
null-is (Text t) is = absurd (true≢false is)
null-is (Wide z) is = absurd (true≢false is)

module _ (c : ColId) where
  abbrev has_value : Env → Bool
  has_value row = not (is_null (row c))

  to-test : (rows : List Env) → HasNone c rows → AllByRecursion (λ (row : Env). has_value row ≡ false) rows
  to-test [] none = tt
  to-test (row ∷ rows) none = (ap (λ value. not (is_null value)) none.0, to-test rows none.1)

  from-test : (rows : List Env) → AllByRecursion (λ (row : Env). has_value row ≡ false) rows → HasNone c rows
  from-test [] none = tt
  from-test (row ∷ rows) none = (null-is (row c) none.0, from-test rows none.1)

  -- in equal bags
  pub none-same : (rows others : List Env) → SameBag rows others → HasNone c others → HasNone c rows
  none-same rows others same none = from-test rows (none-alike has_value rows others same (to-test others none))

pub or_else-null : (value : Value) → or_else value Null ≡ value
or_else-null Null = refl
or_else-null (Int z) = refl
or_else-null (Text t) = refl
or_else-null (Wide z) = refl

-- a column of the left side alone, and of the right side alone
pub left-cell : (c : ColId) (l r : Env) → r c ≡ Null → union l r c ≡ l c
left-cell c l r none = ap (or_else (l c)) none ∙ or_else-null (l c)

pub right-cell : (c : ColId) (l r : Env) → l c ≡ Null → union l r c ≡ r c
right-cell c l r none = ap (λ value. or_else value (r c)) none

-- ---- joins by their left rows

abbrev pub has_some : List Env → Bool
has_some [] = false
has_some (row ∷ rows) = true

-- what a join gives of a left row, by the rows that it makes with its partners
abbrev pub from_left : JoinKind → Env → List Env → List Env
from_left joins.Inner l made = made
from_left joins.Left l made = or_alone l made
from_left joins.Full l made = or_alone l made
from_left joins.Semi l made = if has_some made then l ∷ [] else []
from_left joins.Anti l made = if has_some made then [] else l ∷ []

pub any-filter : (test : Env → Bool) (rows : List Env) → list_any test rows ≡ has_some (filter test rows)
any-filter test [] = refl
any-filter test (row ∷ rows) = by (test row) (any-filter test rows)
  where
    by : (is : Bool) → list_any test rows ≡ has_some (filter test rows) → (is || list_any test rows) ≡ has_some (cond is (row ∷ filter test rows) (filter test rows))
    by true rest = refl
    by false rest = rest

module _ (holds : Env → Bool) where
  abbrev pub partners_of : List Env → Env → List Env
  partners_of rs l = partners union holds rs l

  any-partners : (rs : List Env) (l : Env) → left_partnered union holds rs l ≡ has_some (partners_of rs l)
  any-partners [] l = refl
  any-partners (r ∷ rs) l = by (holds (union l r)) (any-partners rs l)
    where
      by : (is : Bool) → left_partnered union holds rs l ≡ has_some (partners_of rs l)
          → (is || left_partnered union holds rs l) ≡ has_some (cond is (union l r ∷ partners_of rs l) (partners_of rs l))
      by true rest = refl
      by false rest = rest

  pub partners-append : (xs ys : List Env) (l : Env) → partners_of (xs ++ ys) l ≡ partners_of xs l ++ partners_of ys l
  partners-append xs ys l = ap (filter holds) (map-append (union l) xs ys) ∙ filter-append holds (map (union l) xs) (map (union l) ys)

  semi-flat : (rs ls : List Env) → filter (left_partnered union holds rs) ls ≡ flat_map (λ l. if has_some (partners_of rs l) then l ∷ [] else []) ls
  semi-flat rs [] = refl
  semi-flat rs (l ∷ ls) =
      ap (λ is. cond is (l ∷ filter (left_partnered union holds rs) ls) (filter (left_partnered union holds rs) ls)) (any-partners rs l)
      ∙ by (has_some (partners_of rs l)) (semi-flat rs ls)
    where
      by : (is : Bool) {rest others : List Env} → rest ≡ others → cond is (l ∷ rest) rest ≡ (if is then l ∷ [] else []) ++ others
      by true same = ap (λ rest. l ∷ rest) same
      by false same = same

  anti-flat : (rs ls : List Env) → filter (λ l. not (left_partnered union holds rs l)) ls ≡ flat_map (λ l. if has_some (partners_of rs l) then [] else l ∷ []) ls
  anti-flat rs [] = refl
  anti-flat rs (l ∷ ls) =
      ap (λ is. cond (not is) (l ∷ filter (λ l. not (left_partnered union holds rs l)) ls) (filter (λ l. not (left_partnered union holds rs l)) ls)) (any-partners rs l)
      ∙ by (has_some (partners_of rs l)) (anti-flat rs ls)
    where
      by : (is : Bool) {rest others : List Env} → rest ≡ others → cond (not is) (l ∷ rest) rest ≡ (if is then [] else l ∷ []) ++ others
      by true same = same
      by false same = ap (λ rest. l ∷ rest) same

module _ (conds : List Cond) where
  abbrev pub given_left : JoinKind → List Env → Env → List Env
  given_left kind rs l = from_left kind l (partners union (meets conds) rs l)

  -- every join but a full one gives of each left row what its partners make of it
  pub joined-left : (kind : JoinKind) → is_full kind ≡ false → (ls rs : List Env) → joined kind conds ls rs ≡ flat_map (given_left kind rs) ls
  joined-left joins.Inner other ls rs = refl
  joined-left joins.Left other ls rs = refl
  joined-left joins.Full other ls rs = absurd (true≢false other)
  joined-left joins.Semi other ls rs = semi-flat (meets conds) rs ls
  joined-left joins.Anti other ls rs = anti-flat (meets conds) rs ls

  pub joined-none : (kind : JoinKind) → is_full kind ≡ false → (rs : List Env) → joined kind conds [] rs ≡ []
  joined-none kind other rs = joined-left kind other [] rs

  -- left rows part by part
  pub joined-parts : (kind : JoinKind) → is_full kind ≡ false → (rs xs ys : List Env) → joined kind conds (xs ++ ys) rs ≡ joined kind conds xs rs ++ joined kind conds ys rs
  joined-parts kind other rs xs ys =
      joined-left kind other (xs ++ ys) rs
      ∙ flat_map-append (given_left kind rs) xs ys
      ∙ ap₂ (λ first second. first ++ second) (sym (joined-left kind other xs rs)) (sym (joined-left kind other ys rs))

  -- what holds of a left row alone and with any right one holds of all that is given
  module _ (P : Env → Type 0) where
    all-partners : (rs : List Env) (l : Env) → AllByRecursion (λ r. P (union l r)) rs → AllByRecursion P (partners union (meets conds) rs l)
    all-partners rs l each = all-filter P (meets conds) (map (union l) rs) (all-map_of P (union l) rs each)

    all-given : (kind : JoinKind) (rs : List Env) (l : Env) → P l → AllByRecursion (λ r. P (union l r)) rs → AllByRecursion P (given_left kind rs l)
    all-given joins.Inner rs l alone each = all-partners rs l each
    all-given joins.Left rs l alone each = by (partners union (meets conds) rs l) (all-partners rs l each)
      where
        by : (made : List Env) → AllByRecursion P made → AllByRecursion P (or_alone l made)
        by [] all = (alone, tt)
        by (row ∷ rows) all = all
    all-given joins.Full rs l alone each = by (partners union (meets conds) rs l) (all-partners rs l each)
      where
        by : (made : List Env) → AllByRecursion P made → AllByRecursion P (or_alone l made)
        by [] all = (alone, tt)
        by (row ∷ rows) all = all
    all-given joins.Semi rs l alone each = by (has_some (partners union (meets conds) rs l))
      where
        by : (is : Bool) → AllByRecursion P (if is then l ∷ [] else [])
        by true = (alone, tt)
        by false = tt
    all-given joins.Anti rs l alone each = by (has_some (partners union (meets conds) rs l))
      where
        by : (is : Bool) → AllByRecursion P (if is then [] else l ∷ [])
        by true = tt
        by false = (alone, tt)

    pub all-joined : (kind : JoinKind) → is_full kind ≡ false → (ls rs : List Env) → AllByRecursion P ls → AllByRecursion (λ l. AllByRecursion (λ r. P (union l r)) rs) ls
        → AllByRecursion P (joined kind conds ls rs)
    all-joined kind other ls rs alone each = subst (AllByRecursion P) (sym (joined-left kind other ls rs)) (all-flat_map P (given_left kind rs) ls (both ls alone each))
      where
        both : (xs : List Env) → AllByRecursion P xs → AllByRecursion (λ l. AllByRecursion (λ r. P (union l r)) rs) xs → AllByRecursion (λ l. AllByRecursion P (given_left kind rs l)) xs
        both [] alone each = tt
        both (l ∷ xs) alone each = (all-given kind rs l alone.0 each.0, both xs alone.1 each.1)

    -- of an inner join only the rows with a partner count
    pub all-inner : (ls rs : List Env) → AllByRecursion (λ l. AllByRecursion (λ r. P (union l r)) rs) ls → AllByRecursion P (joined joins.Inner conds ls rs)
    all-inner ls rs each = all-flat_map P (given_left joins.Inner rs) ls (both ls each)
      where
        both : (xs : List Env) → AllByRecursion (λ l. AllByRecursion (λ r. P (union l r)) rs) xs → AllByRecursion (λ l. AllByRecursion P (given_left joins.Inner rs l)) xs
        both [] each = tt
        both (l ∷ xs) each = (all-partners rs l each.0, both xs each.1)

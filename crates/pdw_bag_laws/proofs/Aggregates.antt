-- The value of an aggregate over several parts of its values is decided by its values over the parts; so it is the same for
-- equal bags of values.
use Rattle.std.proofs.Common.{◌≡◌, ℤ, pos, ◌+ℤ◌, true, List, [], ◌∷◌, ◌++◌, length, fold, not, refl, sym, ap, ◌∙◌, append-nil, length-append}
use Rattle.std.proofs.Math.IntN.{+ℤ_assoc, +ℤ_comm, +ℤ_idl, +ℤ_idr, pos-+ℤ-pos}
use Rattle.std.proofs.lemmas.Int.{int_wrap-add_left, int_wrap-add_right}
use Rattle.std.proofs.lemmas.List.Elements.{filter-append}
use Rattle.std.proofs.lemmas.List.Sums.{fold-append}
use Rattle.std.specs.Cmp.{tied_itself, Equal-is}
use Rattle.std.specs.Int.{int_wrap, w128}
use Rattle.std.specs.Ordering.{eq_by_cmp, is_eq}
use Rattle.pdw_bag_laws.proofs.Occurrence.{SameBag-same}
use Rattle.pdw_bag_laws.proofs.Picks.{greater-choice, greatest-append, least-append, lesser-choice, or_other, or_other-comm, present-no_null}
use Rattle.pdw_base.proofs.ComparisonLemmas.{value_cmp-total, value_cmp-Equal}
use Rattle.pdw_base.specs.Comparison.{number, value_cmp}
use Rattle.pdw_base.specs.SameBag.{SameBag}
use Rattle.pdw_base.specs.declared.value.Value.TheVariants.{Wide}
use Rattle.pdw_base.specs.declared.value.Value.{Value}
use Rattle.pdw_expr.specs.Aggregate.{aggregated, counted, final_value, greater, greatest, least, lesser, partial_value, present, summed, total, wide}
use Rattle.pdw_expr.specs.Comparison.{is_null}
use Rattle.pdw_expr.specs.declared.agg.AggKind.TheVariants.{CountStar, Count, Sum, Min, Max}
use Rattle.pdw_expr.specs.declared.agg.AggKind.{AggKind}

-- what is made of values part by part: of two parts by joining what is made of each
pub record IsMerged (of : List Value → Value) (join : Value → Value → Value) : Type 0 where
  pub joins : (xs ys : List Value) → of (xs ++ ys) ≡ join (of xs) (of ys)
  pub commutes : (a b : Value) → join a b ≡ join b a

same_value : (a b : Value) → is_eq (value_cmp a b) ≡ true → a ≡ b
same_value a b same = value_cmp-Equal a b ((Equal-is (value_cmp a b)).0 same)

module _ (of : List Value → Value) (join : Value → Value → Value) (merged : IsMerged of join) where
  under : (x : Value) (xs ys : List Value) → of xs ≡ of ys → of (x ∷ xs) ≡ of (x ∷ ys)
  under x xs ys same = merged.joins (x ∷ []) xs ∙ ap (join (of (x ∷ []))) same ∙ sym (merged.joins (x ∷ []) ys)

  turned : (x y : Value) (xs : List Value) → of (x ∷ y ∷ xs) ≡ of (y ∷ x ∷ xs)
  turned x y xs =
      let front : of (x ∷ y ∷ []) ≡ of (y ∷ x ∷ []) =
      merged.joins (x ∷ []) (y ∷ []) ∙ merged.commutes (of (x ∷ [])) (of (y ∷ [])) ∙ sym (merged.joins (y ∷ []) (x ∷ [])) in
      merged.joins (x ∷ y ∷ []) xs ∙ ap (λ first. join first (of xs)) front ∙ sym (merged.joins (y ∷ x ∷ []) xs)

  pub merged-same : (xs ys : List Value) → SameBag xs ys → of xs ≡ of ys
  merged-same = SameBag-same (eq_by_cmp value_cmp) same_value (λ a. ap is_eq (tied_itself value_cmp-total a)) of under turned

-- ---- counts and sums

pub present-append : (xs ys : List Value) → present (xs ++ ys) ≡ present xs ++ present ys
present-append = filter-append (λ value. not (is_null value))

abbrev plus_value : ℤ → Value → ℤ
plus_value sum value = sum +ℤ number value

total-from : (start : ℤ) (values : List Value) → fold plus_value start values ≡ start +ℤ total values
total-from start [] = sym (+ℤ_idr start)
total-from start (value ∷ values) =
    total-from (start +ℤ number value) values
    ∙ +ℤ_assoc start (number value) (total values)
    ∙ ap (λ sum. start +ℤ sum) (sym (total-from (pos 0 +ℤ number value) values ∙ ap (λ first. first +ℤ total values) (+ℤ_idl (number value))))

pub total-append : (xs ys : List Value) → total (xs ++ ys) ≡ total xs +ℤ total ys
total-append xs ys = fold-append plus_value (pos 0) xs ys ∙ total-from (total xs) ys

-- the sum of two wide numbers, modulo 2^128
abbrev pub plus : Value → Value → Value
plus a b = wide (number a +ℤ number b)

pub plus-comm : (a b : Value) → plus a b ≡ plus b a
plus-comm a b = ap wide (+ℤ_comm (number a) (number b))

-- to leave the range on the way changes nothing
pub wide-plus : (a b : ℤ) → wide (a +ℤ b) ≡ plus (wide a) (wide b)
wide-plus a b = ap Wide (sym (int_wrap-add_left w128 a (int_wrap w128 b) ∙ int_wrap-add_right w128 a b))

counted-append : (xs ys : List Value) → counted (xs ++ ys) ≡ plus (counted xs) (counted ys)
counted-append xs ys = ap (λ n. wide (pos n)) (length-append xs ys) ∙ ap wide (sym (pos-+ℤ-pos (length xs) (length ys))) ∙ wide-plus (pos (length xs)) (pos (length ys))

summed-append : (xs ys : List Value) → summed (xs ++ ys) ≡ or_other plus (summed xs) (summed ys)
summed-append [] ys = refl
summed-append (x ∷ xs) [] = ap (λ rest. summed (x ∷ rest)) (append-nil xs)
summed-append (x ∷ xs) (y ∷ ys) = ap wide (total-append (x ∷ xs) (y ∷ ys)) ∙ wide-plus (total (x ∷ xs)) (total (y ∷ ys))

-- ---- the five kinds

-- what an aggregate keeps of two parts at once
abbrev pub join_of : AggKind → Value → Value → Value
join_of CountStar = plus
join_of Count = plus
join_of Sum = or_other plus
join_of Min = or_other lesser
join_of Max = or_other greater

pub join-commutes : (kind : AggKind) (a b : Value) → join_of kind a b ≡ join_of kind b a
join-commutes CountStar = plus-comm
join-commutes Count = plus-comm
join-commutes Sum = or_other-comm plus plus-comm
join-commutes Min = or_other-comm lesser lesser-choice.comm
join-commutes Max = or_other-comm greater greater-choice.comm

pub partial_value-append : (kind : AggKind) (xs ys : List Value) → partial_value kind (xs ++ ys) ≡ join_of kind (partial_value kind xs) (partial_value kind ys)
partial_value-append CountStar xs ys = counted-append xs ys
partial_value-append Count xs ys = ap counted (present-append xs ys) ∙ counted-append (present xs) (present ys)
partial_value-append Sum xs ys = ap summed (present-append xs ys) ∙ summed-append (present xs) (present ys)
partial_value-append Min xs ys = ap least (present-append xs ys) ∙ least-append (present xs) (present ys) (present-no_null xs) (present-no_null ys)
partial_value-append Max xs ys = ap greatest (present-append xs ys) ∙ greatest-append (present xs) (present ys) (present-no_null xs) (present-no_null ys)

pub partial_value-merged : (kind : AggKind) → IsMerged (partial_value kind) (join_of kind)
partial_value-merged kind = record { joins = partial_value-append kind; commutes = join-commutes kind }

pub SameBag-partial_value : (kind : AggKind) (xs ys : List Value) → SameBag xs ys → partial_value kind xs ≡ partial_value kind ys
SameBag-partial_value kind = merged-same (partial_value kind) (join_of kind) (partial_value-merged kind)

pub SameBag-aggregated : (kind : AggKind) (xs ys : List Value) → SameBag xs ys → aggregated kind xs ≡ aggregated kind ys
SameBag-aggregated kind xs ys same = ap final_value (SameBag-partial_value kind xs ys same)

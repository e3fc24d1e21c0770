-- The order of rows by keys is total, and rows that are sorted by it are in an order that the keys allow.
use Rattle.std.proofs.Common.{◌≡◌, ℕ, zero, suc, Bool, true, false, List, [], ◌∷◌, None, slice_get, slice_index_or, refl, sym, ap, arith}
use Rattle.std.specs.Cmp.{IsTotalOrder, back_total, on_total, then_total, tied_itself}
use Rattle.std.specs.List.Sorted.{IsSortedBy}
use Rattle.std.specs.Ordering.{is_lt, ordering_index}
use Rattle.std.proofs.lemmas.List.Sorted.{searchable_from_sorted}
use Rattle.std.proofs.lemmas.Option.{none-some}
use Rattle.pdw_base.proofs.ComparisonLemmas.{value_cmp-total}
use Rattle.pdw_base.specs.declared.value.Value.TheVariants.{Null}
use Rattle.pdw_catalog.specs.Table.{Row, value_at}
use Rattle.pdw_semantics.specs.Answer.{IsOrdered, key_cmp, keys_cmp}

key_total : (key : ℕ × Bool) → IsTotalOrder (key_cmp key)
key_total (place, true) = back_total (on_total (value_at place) value_cmp-total)
key_total (place, false) = on_total (value_at place) value_cmp-total

pub keys_total : (keys : List (ℕ × Bool)) → IsTotalOrder (keys_cmp keys)
keys_total [] = record { antisymm = λ x y. refl; trans = λ x y z p q. p; congr = λ x y z p. refl }
keys_total (key ∷ keys) = then_total (key_total key) (keys_total keys)

-- rows that are sorted by these keys
abbrev pub AreSorted : List (ℕ × Bool) → List Row → Type 0
AreSorted keys rows = IsSortedBy (λ a b. is_lt (keys_cmp keys a b)) rows

pub IsOrdered-sorted : (keys : List (ℕ × Bool)) (rows : List Row) → AreSorted keys rows → IsOrdered keys rows
IsOrdered-sorted keys rows sorted i j d below within less =
    let earlier = slice_index_or rows i d in
    let rises = searchable_from_sorted (keys_total keys) (λ row. row) rows earlier sorted i j d (omega (arith, below)) within in
    absurd (omega (arith, rises, ap ordering_index (tied_itself (keys_total keys) earlier), ap ordering_index less))

-- the value at a place that a row does not have
pub value_at-missing : (row : Row) (place : ℕ) → slice_get row place ≡ None → value_at place row ≡ Null
value_at-missing [] place none = refl
value_at-missing (value ∷ row) zero none = absurd (none-some value (sym none))
value_at-missing (value ∷ row) (suc place) none = value_at-missing row place none

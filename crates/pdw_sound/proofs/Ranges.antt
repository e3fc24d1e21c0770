-- Numbers of different ranges are different: columns of two ranges are apart, and what two ranges make is distinct.
use Rattle.std.proofs.Common.{◌≡◌, ◌≢◌, ℕ, ◌==◌, ◌||◌, Bool, true, false, not, List, [], ◌∷◌, ◌++◌, Some, position, get_or, refl, sym, ap, ap₂, subst, ◌∙◌, append-nil, append_assoc}
use Rattle.std.specs.List.{AllByRecursion, flat_map}
use Rattle.std.proofs.lemmas.Bool.{and_from, and_parts, ne_eqb}
use Rattle.std.proofs.lemmas.List.Quantifiers.{position-Some}
use Rattle.pdw_algebra.specs.Shape.{all_apart, are_apart, has_number}
use Rattle.pdw_base.specs.Schema.{Columns}
use Rattle.pdw_base.specs.declared.schema.ColId.{ColId}
use Rattle.pdw_bind.proofs.ShapeKinds.{within_left, within_right}
use Rattle.pdw_sound.proofs.SoundRelations.{Distinct, Elsewhere, KindAt, KindsOf, Ranged, RangedColumns, RangedNumbers}
use Rattle.pdw_names.proofs.JoinMeaningLaws.{range_begins, range_ends, ranges_apart}
use Rattle.pdw_names.proofs.Relations.{Grows, Within}
use Rattle.pdw_names.proofs.WalkLaws.{all-at, all-map, pairs-append, position-append, same_slot-is}
use Rattle.pdw_walk.specs.Lookup.{Scope}
use Rattle.pdw_walk.specs.Slot.{same_slot}
use Rattle.pdw_walk.specs.Walk.{Walk, col_id}
use Rattle.pdw_walk.specs.declared.entry.Slot.{Slot}
use Rattle.pdw_walk.specs.declared.entry.Slot.TheVariants.{Made}

-- ---- numbers and their slots

-- two slots that have one number are one
pub one-slot : (numbers : List Slot) (a b : Slot) (place : ℕ) → position (same_slot a) numbers ≡ Some place → position (same_slot b) numbers ≡ Some place → a ≡ b
one-slot numbers a b place first second =
    let here = position-Some (same_slot a) numbers place (Made 0) first in
    let there = position-Some (same_slot b) numbers place (Made 0) second in
    same_slot-is a (get_or numbers place (Made 0)) here.1 ∙ sym (same_slot-is b (get_or numbers place (Made 0)) there.1)

module _ (numbers : List Slot) where
  pub ranged-begins : {a b : Walk} (c : Walk) → Grows a b → (x : ColId) → Ranged numbers b c x → Ranged numbers a c x
  ranged-begins c grows x r = record { slot = r.slot; at = r.at; within = range_begins c grows r.slot r.within }

  pub ranged-ends : (a : Walk) {b c : Walk} → Grows b c → (x : ColId) → Ranged numbers a b x → Ranged numbers a c x
  ranged-ends a grows x r = record { slot = r.slot; at = r.at; within = range_ends a grows r.slot r.within }

  pub ranged-later : (later : List Slot) (a b : Walk) (x : ColId) → Ranged numbers a b x → Ranged (numbers ++ later) a b x
  ranged-later later a b x r = record { slot = r.slot; at = position-append (same_slot r.slot) numbers later x.0 r.at; within = r.within }

  -- one number has no two ranges that follow each other
  pub ranged-apart : (a b c : Walk) (x y : ColId) → Ranged numbers a b x → Ranged numbers b c y → x.0 ≢ y.0
  ranged-apart a b c x y first second = λ same.
      let is : first.slot ≡ second.slot = one-slot numbers first.slot second.slot y.0 (first.at ∙ ap Some same) second.at in
      ranges_apart a b c second.slot (subst (Within a b) is first.within) second.within

  -- nor is it elsewhere
  pub elsewhere-apart : (a b : Walk) (x y : ColId) → Elsewhere numbers a b x → Ranged numbers a b y → x.0 ≢ y.0
  elsewhere-apart a b x y other here = λ same.
      let is : other.slot ≡ here.slot = one-slot numbers other.slot here.slot y.0 (other.at ∙ ap Some same) here.at in
      other.outside (subst (Within a b) (sym is) here.within)

-- ---- columns and numbers that differ

neither : (a b : Bool) → a ≡ false → b ≡ false → (a || b) ≡ false
neither a b first second = ap₂ (λ x y. x || y) first second

module _ (P Q : ColId → Type 0) (differ : (x y : ColId) → P x → Q y → x.0 ≢ y.0) where
  not-there : (x : ColId) → P x → (columns : Columns) → AllByRecursion (λ column. Q column.0) columns → has_number x columns ≡ false
  not-there x p [] all = refl
  not-there x p (column ∷ columns) all =
      neither (column.0.0 == x.0) (has_number x columns) (ne_eqb column.0.0 x.0 (λ same. differ x column.0 p all.0 (sym same))) (not-there x p columns all.1)

  pub apart-by : (left right : Columns) → AllByRecursion (λ column. P column.0) left → AllByRecursion (λ column. Q column.0) right → are_apart left right ≡ true
  apart-by [] right first second = refl
  apart-by (column ∷ left) right first second =
      and_from (not (has_number column.0 right)) (are_apart left right) (ap not (not-there column.0 first.0 right second)) (apart-by left right first.1 second)

  pub distinct-by : (xs ys : List ColId) → AllByRecursion P xs → AllByRecursion Q ys → Distinct xs → Distinct ys → Distinct (xs ++ ys)
  distinct-by xs ys first second left right =
      pairs-append (λ (a b : ColId). a.0 ≢ b.0) xs ys left right (λ i j d inside within. differ (get_or xs i d) (get_or ys j d) (all-at P xs first i d inside) (all-at Q ys second j d within))

module _ (numbers : List Slot) (a b c : Walk) where
  pub apart-ranges : (left right : Columns) → RangedColumns numbers a b left → RangedColumns numbers b c right → are_apart left right ≡ true
  apart-ranges = apart-by (Ranged numbers a b) (Ranged numbers b c) (ranged-apart numbers a b c)

  pub apart-turned : (left right : Columns) → RangedColumns numbers a b left → RangedColumns numbers b c right → are_apart right left ≡ true
  apart-turned left right first second = apart-by (Ranged numbers b c) (Ranged numbers a b) (λ x y p q same. ranged-apart numbers a b c y x q p (sym same)) right left second first

  pub distinct-ranges : (xs ys : List ColId) → RangedNumbers numbers a b xs → RangedNumbers numbers b c ys → Distinct xs → Distinct ys → Distinct (xs ++ ys)
  distinct-ranges = distinct-by (Ranged numbers a b) (Ranged numbers b c) (ranged-apart numbers a b c)

  pub distinct-turned : (xs ys : List ColId) → RangedNumbers numbers a b xs → RangedNumbers numbers b c ys → Distinct xs → Distinct ys → Distinct (ys ++ xs)
  distinct-turned xs ys first second left right =
      distinct-by (Ranged numbers b c) (Ranged numbers a b) (λ x y p q same. ranged-apart numbers a b c y x q p (sym same)) ys xs second first right left

-- ---- columns side by side

has-append : (x : ColId) (left right : Columns) → has_number x (left ++ right) ≡ (has_number x left || has_number x right)
has-append x [] right = refl
has-append x (column ∷ left) right = by (column.0.0 == x.0) (has-append x left right)
  where
    by : (b : Bool) → has_number x (left ++ right) ≡ (has_number x left || has_number x right) → (b || has_number x (left ++ right)) ≡ ((b || has_number x left) || has_number x right)
    by true rest = refl
    by false rest = rest

not-either : (a b : Bool) → not a ≡ true → not b ≡ true → not (a || b) ≡ true
not-either true b first second = first
not-either false b first second = second

-- what is apart from two is apart from both
apart-both : (left first second : Columns) → are_apart left first ≡ true → are_apart left second ≡ true → are_apart left (first ++ second) ≡ true
apart-both [] first second one other = refl
apart-both (column ∷ left) first second one other =
    let here = and_parts (not (has_number column.0 first)) (are_apart left first) one in
    let there = and_parts (not (has_number column.0 second)) (are_apart left second) other in
    and_from (not (has_number column.0 (first ++ second))) (are_apart left (first ++ second))
    (ap not (has-append column.0 first second) ∙ not-either (has_number column.0 first) (has_number column.0 second) here.0 there.0)
    (apart-both left first second here.1 there.1)

apart-left : (first second right : Columns) → are_apart (first ++ second) right ≡ true → (are_apart first right ≡ true) × (are_apart second right ≡ true)
apart-left [] second right apart = (refl, apart)
apart-left (column ∷ first) second right apart =
    let parts = and_parts (not (has_number column.0 right)) (are_apart (first ++ second) right) apart in
    let rest = apart-left first second right parts.1 in
    (and_from (not (has_number column.0 right)) (are_apart first right) parts.0 rest.0, rest.1)

flat-push : (all : List Columns) (last : Columns) → flat_map (λ columns. columns) (all ++ last ∷ []) ≡ flat_map (λ columns. columns) all ++ last
flat-push [] last = append-nil last
flat-push (first ∷ all) last = ap (λ rest. first ++ rest) (flat-push all last) ∙ sym (append_assoc first (flat_map (λ columns. columns) all) last)

-- one more after columns that are apart
pub all_apart-push : (all : List Columns) (last : Columns) → all_apart all ≡ true → are_apart (flat_map (λ columns. columns) all) last ≡ true → all_apart (all ++ last ∷ []) ≡ true
all_apart-push [] last before apart = and_from (are_apart last []) true (nothing last) refl
  where
    nothing : (columns : Columns) → are_apart columns [] ≡ true
    nothing [] = refl
    nothing (column ∷ columns) = nothing columns
all_apart-push (first ∷ all) last before apart =
    let parts = and_parts (are_apart first (flat_map (λ columns. columns) all)) (all_apart all) before in
    let sides = apart-left first (flat_map (λ columns. columns) all) last apart in
    and_from (are_apart first (flat_map (λ columns. columns) (all ++ last ∷ []))) (all_apart (all ++ last ∷ []))
    (ap (are_apart first) (flat-push all last) ∙ apart-both first (flat_map (λ columns. columns) all) last parts.0 sides.0)
    (all_apart-push all last parts.1 sides.1)

-- ---- kinds

-- kinds at the numbers of a later moment are those at the numbers of an earlier one
pub kinds-earlier : (numbers later : List Slot) (columns : Columns) (scope : Scope) → KindsOf (numbers ++ later) columns scope → KindsOf numbers columns scope
kinds-earlier numbers later columns =
    all-map (KindAt (numbers ++ later) columns) (KindAt numbers columns) (λ entry at place found. at place (position-append (same_slot entry.slot) numbers later place found))

module _ (numbers : List Slot) (left right : Columns) where
  pub kinds-left : (scope : Scope) → KindsOf numbers left scope → KindsOf numbers (left ++ right) scope
  kinds-left = all-map (KindAt numbers left) (KindAt numbers (left ++ right)) (λ entry at place found. ((within_left left right).at (col_id place)).kind entry.kind (at place found))

  pub kinds-right : are_apart left right ≡ true → (scope : Scope) → KindsOf numbers right scope → KindsOf numbers (left ++ right) scope
  kinds-right apart = all-map (KindAt numbers right) (KindAt numbers (left ++ right)) (λ entry at place found. ((within_right left right apart).at (col_id place)).kind entry.kind (at place found))

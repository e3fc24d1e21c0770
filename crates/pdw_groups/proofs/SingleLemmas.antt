-- One more leaf with its second group.
use Rattle.std.proofs.Common.{◌≡◌, ℕ, suc, ◌+◌, ◌^◌, ◌<◌, ◌≤◌, List, [], ◌∷◌, ◌++◌, length, take, get_or, min, refl, sym, ap, ap₂, ◌∙◌, arith, append-nil, append_assoc, length-append, length-take}
use Rattle.pdw_base.proofs.Steps.{take-one_more}
use Rattle.pdw_base.specs.declared.schema.ColId.{ColId}
use Rattle.pdw_expr.specs.declared.cond.Cond.{Cond}
use Rattle.pdw_groups.specs.Sets.{inside_side, kept_seconds, kept_single, kept_singles, one_if, second_if}
use Rattle.pdw_groups.specs.declared.group.Group.{Group}
use Rattle.pdw_groups.specs.declared.key.GroupId.{GroupId}
use Rattle.pdw_groups.specs.declared.key.GroupKey.{GroupKey}
use Rattle.pdw_groups.specs.declared.key.GroupKey.TheVariants as key
use Rattle.pdw_groups.specs.declared.sets.Side.{Side}

pub second-length : (useful : List ColId) (name : GroupKey) (side : Side) (inside : List Cond) → length (second_if useful name side inside) ≡ one_if inside
second-length useful name side [] = refl
second-length useful name side (first ∷ rest) = refl

pub one_if-most : (inside : List Cond) → one_if inside ≤ 1
one_if-most [] = omega arith
one_if-most (first ∷ rest) = omega arith

module _ (conds : List Cond) (useful : List ColId) (block : ℕ) where
  abbrev second_at : ℕ → Side → List Group
  second_at place side = second_if useful (key.Part block (2 ^ place)) side (inside_side conds side)

  seconds-push : (place : ℕ) (sides : List Side) (side : Side) → kept_seconds conds useful block place (sides ++ side ∷ []) ≡ kept_seconds conds useful block place sides ++ second_at (place + length sides) side
  seconds-push place [] side = let same : place ≡ place + 0 = omega arith in append-nil (second_at place side) ∙ ap (λ n. second_at n side) same
  seconds-push place (first ∷ sides) side =
      ap (λ rest. second_at place first ++ rest) (seconds-push (suc place) sides side)
      ∙ sym (append_assoc (second_at place first) (kept_seconds conds useful block (suc place) sides) (second_at (suc place + length sides) side))
      ∙ (let same : suc place + length sides ≡ place + suc (length sides) = omega arith in ap (λ n. (second_at place first ++ kept_seconds conds useful block (suc place) sides) ++ second_at n side) same)

  singles-push : (place next : ℕ) (sides : List Side) (side : Side)
      → kept_singles conds next (sides ++ side ∷ []) ≡ kept_singles conds next sides ++ kept_single (next + length (kept_seconds conds useful block place sides)) side (inside_side conds side) ∷ []
  singles-push place next [] side = let same : next ≡ next + 0 = omega arith in ap (λ n. kept_single n side (inside_side conds side) ∷ []) same
  singles-push place next (first ∷ sides) side =
      ap (λ rest. kept_single next first (inside_side conds first) ∷ rest) (singles-push (suc place) (next + one_if (inside_side conds first)) sides side
      ∙ ap (λ n. kept_singles conds (next + one_if (inside_side conds first)) sides ++ kept_single n side (inside_side conds side) ∷ []) count)
    where
      count : (next + one_if (inside_side conds first)) + length (kept_seconds conds useful block (suc place) sides) ≡ next + length (kept_seconds conds useful block place (first ∷ sides))
      count =
          let here = second-length useful (key.Part block (2 ^ place)) first (inside_side conds first) in
          let all = length-append (second_at place first) (kept_seconds conds useful block (suc place) sides) in
          omega (arith, here, all)

  module _ (sides : List Side) (i : ℕ) (side : Side) (within : i < length sides) (item : side ≡ get_or sides i side) (start groups more : List Group) (before : groups ≡ start ++ kept_seconds conds useful block 0 (take i sides))
      (added : more ≡ groups ++ second_at i side) where
    taken : length (take i sides) ≡ i
    taken = length-take i sides ∙ (let less : min i (length sides) ≡ i = omega (arith, within) in less)

    pub seconds-one_more : more ≡ start ++ kept_seconds conds useful block 0 (take (i + 1) sides)
    seconds-one_more =
        added ∙ ap (λ gs. gs ++ second_at i side) before
        ∙ append_assoc start (kept_seconds conds useful block 0 (take i sides)) (second_at i side)
        ∙ ap (λ gs. start ++ gs)
        (ap (λ n. kept_seconds conds useful block 0 (take i sides) ++ second_at n side) (let same : i ≡ 0 + length (take i sides) = omega (arith, taken) in same)
        ∙ sym (seconds-push 0 (take i sides) side) ∙ ap (kept_seconds conds useful block 0) (sym (take-one_more sides i side within item)))

    pub singles-one_more : {single : GroupId} {before_ids ids : List GroupId} → single ≡ kept_single (length groups) side (inside_side conds side)
        → before_ids ≡ kept_singles conds (length start) (take i sides) → ids ≡ before_ids ++ single ∷ [] → ids ≡ kept_singles conds (length start) (take (i + 1) sides)
    singles-one_more is had pushed =
        pushed
        ∙ ap₂ (λ some one. some ++ one ∷ []) had (is ∙ ap (λ n. kept_single n side (inside_side conds side)) (ap length before ∙ length-append start (kept_seconds conds useful block 0 (take i sides))))
        ∙ sym (singles-push 0 (length start) (take i sides) side)
        ∙ ap (kept_singles conds (length start)) (sym (take-one_more sides i side within item))

    pub room-one_more : length groups ≤ length start + i → length more ≤ length start + (i + 1)
    room-one_more room =
        let all = ap length added ∙ length-append groups (second_at i side) in
        let one = second-length useful (key.Part block (2 ^ i)) side (inside_side conds side) in
        let most = one_if-most (inside_side conds side) in
        omega (arith, room, all, one, most)

pub kept_singles-length : (conds : List Cond) (next : ℕ) (sides : List Side) → length (kept_singles conds next sides) ≡ length sides
kept_singles-length conds next [] = refl
kept_singles-length conds next (side ∷ sides) = ap suc (kept_singles-length conds (next + one_if (inside_side conds side)) sides)

pub kept_seconds-most : (conds : List Cond) (useful : List ColId) (block place : ℕ) (sides : List Side) → length (kept_seconds conds useful block place sides) ≤ length sides
kept_seconds-most conds useful block place [] = omega arith
kept_seconds-most conds useful block place (side ∷ sides) =
    let here = second-length useful (key.Part block (2 ^ place)) side (inside_side conds side) in
    let most = one_if-most (inside_side conds side) in
    let rest = kept_seconds-most conds useful block (suc place) sides in
    let all = length-append (second_if useful (key.Part block (2 ^ place)) side (inside_side conds side)) (kept_seconds conds useful block (suc place) sides) in
    omega (arith, here, most, rest, all)

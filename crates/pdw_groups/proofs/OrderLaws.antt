-- Lists in which children come before their groups.
use Rattle.std.proofs.Common.{◌≡◌, ℕ, zero, suc, List, [], ◌∷◌, ◌++◌, length, Option, Some, None, is_some, refl, sym, ap, subst, ◌∙◌, append_assoc, append-nil, true≢false}
use Rattle.std.specs.List.{AllByRecursion, slice_get}
use Rattle.std.specs.Option.{option_map}
use Rattle.pdw_algebra.proofs.AllLaws.{all-map}
use Rattle.pdw_groups.specs.Group.{Child, GroupOf, InOrder, IsAmong}

-- ---- items by their places

module _ {X : Type 0} where
  pub at-left : (xs ys : List X) (i : ℕ) (x : X) → slice_get xs i ≡ Some x → slice_get (xs ++ ys) i ≡ Some x
  at-left [] ys i x there = absurd (true≢false (ap is_some (sym there)))
  at-left (y ∷ xs) ys zero x there = there
  at-left (y ∷ xs) ys (suc i) x there = at-left xs ys i x there

  pub at-end : (xs : List X) (x : X) (ys : List X) → slice_get (xs ++ x ∷ ys) (length xs) ≡ Some x
  at-end [] x ys = refl
  at-end (y ∷ xs) x ys = at-end xs x ys

-- ---- children among groups

-- the group at a place
pub among-at : (groups : List GroupOf) (child : Child) (group : GroupOf) → slice_get groups child.number ≡ Some group → group.means ≡ child.means → IsAmong groups child
among-at groups child group there same = ap (option_map (λ (g : GroupOf). g.means)) there ∙ ap Some same

pub found : {A B : Type 0} (f : A → B) (o : Option A) (b : B) → option_map f o ≡ Some b → (a : A) × (o ≡ Some a)
found f None b is = absurd (true≢false (ap is_some (sym is)))
found f (Some a) b is = (a, refl)

pub among-more : (groups more : List GroupOf) (child : Child) → IsAmong groups child → IsAmong (groups ++ more) child
among-more groups more child among =
    let at = found (λ (g : GroupOf). g.means) (slice_get groups child.number) child.means among in
    ap (option_map (λ (g : GroupOf). g.means)) (at-left groups more child.number at.0 at.1) ∙ sym (ap (option_map (λ (g : GroupOf). g.means)) at.1) ∙ among

pub all-among-more : (groups more : List GroupOf) (children : List Child) → AllByRecursion (IsAmong groups) children → AllByRecursion (IsAmong (groups ++ more)) children
all-among-more groups more children all = all-map (IsAmong groups) (IsAmong (groups ++ more)) (among-more groups more) children all

-- the last of some groups
pub among-last : (groups : List GroupOf) (child : Child) (group : GroupOf) → child.number ≡ length groups → group.means ≡ child.means → IsAmong (groups ++ group ∷ []) child
among-last groups child group number same =
    among-at (groups ++ group ∷ []) child group (ap (slice_get (groups ++ group ∷ [])) number ∙ at-end groups group []) same

-- ---- groups in order

pub order-append : (before xs ys : List GroupOf) → InOrder before xs → InOrder (before ++ xs) ys → InOrder before (xs ++ ys)
order-append before [] ys first second = subst (λ all. InOrder all ys) (append-nil before) second
order-append before (x ∷ xs) ys first second =
    (first.0, order-append (before ++ x ∷ []) xs ys first.1 (subst (λ all. InOrder all ys) (sym (append_assoc before (x ∷ []) xs)) second))

-- one group more
pub order-one : (before xs : List GroupOf) (group : GroupOf) → InOrder before xs → AllByRecursion (λ expr. AllByRecursion (IsAmong (before ++ xs)) expr.children) group.exprs
    → InOrder before (xs ++ group ∷ [])
order-one before xs group first children = order-append before xs (group ∷ []) first (children, tt)

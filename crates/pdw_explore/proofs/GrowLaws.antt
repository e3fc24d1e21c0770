-- Groups that are gone through, one list after the other.
use Rattle.std.proofs.Common.{◌≡◌, ℕ, zero, suc, ◌+◌, ◌<◌, List, [], ◌∷◌, ◌++◌, length, map, Some, refl, sym, ap, ap₂, subst, ◌∙◌, arith, append_assoc, append-nil, length-append}
use Rattle.std.specs.Bool.{⊤}
use Rattle.std.specs.List.{AllByRecursion, slice_get, slice_index_or}
use Rattle.std.proofs.lemmas.List.{map-append}
use Rattle.std.proofs.lemmas.Option.{slice_get_within}
use Rattle.pdw_base.specs.declared.schema.ColId.{ColId}
use Rattle.pdw_explore.specs.Grown.{CanGrow, CanGrowBy, grown_all, grown_with, level_at, new_number, renumbered, stays}
use Rattle.pdw_explore.specs.declared.grown.Grown.{Grown}
use Rattle.pdw_groups.proofs.OrderLaws.{at-left}
use Rattle.pdw_groups.specs.Group.{GroupOf, kept_group}
use Rattle.pdw_groups.specs.declared.block.BlockPart.{BlockPart}
use Rattle.pdw_groups.specs.declared.block.Level.{Level}
use Rattle.pdw_groups.specs.declared.group.Group.{Group}
use Rattle.pdw_groups.specs.declared.key.GroupId.{GroupId}

-- ---- numbers that are found

-- the new numbers of some groups
abbrev pub Finds : List GroupId → List GroupId → List GroupId → Type 0
Finds numbers [] [] = ⊤
Finds numbers [] (b ∷ bs) = ⊥
Finds numbers (a ∷ olds) [] = ⊥
Finds numbers (a ∷ olds) (b ∷ bs) = (slice_get numbers a.0 ≡ Some b) × Finds numbers olds bs

pub index-found : {X : Type 0} (xs : List X) (i : ℕ) (x other : X) → slice_get xs i ≡ Some x → slice_index_or xs i other ≡ x
index-found [] i x other there = absurd (omega (arith, slice_get_within [] i x there))
index-found (y ∷ xs) zero x other there = cc
index-found (y ∷ xs) (suc i) x other there = index-found xs i x other there

pub finds-more : (numbers more olds news : List GroupId) → Finds numbers olds news → Finds (numbers ++ more) olds news
finds-more numbers more [] [] found = tt
finds-more numbers more [] (b ∷ news) found = found
finds-more numbers more (a ∷ olds) [] found = found
finds-more numbers more (a ∷ olds) (b ∷ news) found = (at-left numbers more a.0 b found.0, finds-more numbers more olds news found.1)

pub finds-map : (numbers olds news : List GroupId) → Finds numbers olds news → map (new_number numbers) olds ≡ news
finds-map numbers [] [] found = refl
finds-map numbers [] (b ∷ news) found = absurd found
finds-map numbers (a ∷ olds) [] found = absurd found
finds-map numbers (a ∷ olds) (b ∷ news) found = ap₂ (λ x xs. x ∷ xs) (index-found numbers a.0 b (record { 0 = 0 }) found.0) (finds-map numbers olds news found.1)

pub finds-range : (numbers olds news : List GroupId) → Finds numbers olds news → AllByRecursion (λ old. old.0 < length numbers) olds
finds-range numbers [] [] found = tt
finds-range numbers [] (b ∷ news) found = absurd found
finds-range numbers (a ∷ olds) [] found = absurd found
finds-range numbers (a ∷ olds) (b ∷ news) found = (slice_get_within numbers a.0 b found.0, finds-range numbers olds news found.1)

-- ---- blocks that are there

module _ (blocks : List BlockPart) where
  -- these blocks stand from a place on
  abbrev pub Holds : ℕ → List BlockPart → Type 0
  Holds place [] = ⊤
  Holds place (part ∷ parts) = (slice_get blocks place ≡ Some part) × Holds (suc place) parts

  pub holds-left : (place : ℕ) (xs ys : List BlockPart) → Holds place (xs ++ ys) → Holds place xs
  holds-left place [] ys holds = tt
  holds-left place (x ∷ xs) ys holds = (holds.0, holds-left (suc place) xs ys holds.1)

  pub holds-right : (place : ℕ) (xs ys : List BlockPart) → Holds place (xs ++ ys) → Holds (place + length xs) ys
  holds-right place [] ys holds = let same : place ≡ place + 0 = omega arith in subst (λ n. Holds n ys) same holds
  holds-right place (x ∷ xs) ys holds =
      let same : suc place + length xs ≡ place + suc (length xs) = omega arith in subst (λ n. Holds n ys) same (holds-right (suc place) xs ys holds.1)

-- ---- blocks with their new numbers

module _ (blocks : List BlockPart) (levels : List Level) where
  pub record IsMoved (numbers : List GroupId) (place : ℕ) (old new : BlockPart) : Type 0 where
    pub leaves : Finds numbers old.leaves new.leaves
    pub conds : old.conds ≡ new.conds
    pub level : new.level ≡ level_at blocks levels place

  -- of which the first has this place
  abbrev pub Moved : List GroupId → ℕ → List BlockPart → List BlockPart → Type 0
  Moved numbers place [] [] = ⊤
  Moved numbers place [] (b ∷ news) = ⊥
  Moved numbers place (a ∷ olds) [] = ⊥
  Moved numbers place (a ∷ olds) (b ∷ news) = IsMoved numbers place a b × Moved numbers (suc place) olds news

  pub moved-more : (numbers more : List GroupId) (place : ℕ) (olds news : List BlockPart) → Moved numbers place olds news → Moved (numbers ++ more) place olds news
  moved-more numbers more place [] [] moved = tt
  moved-more numbers more place [] (b ∷ news) moved = moved
  moved-more numbers more place (a ∷ olds) [] moved = moved
  moved-more numbers more place (a ∷ olds) (b ∷ news) moved =
      (record { leaves = finds-more numbers more a.leaves b.leaves moved.0.leaves; conds = moved.0.conds; level = moved.0.level }, moved-more numbers more (suc place) olds news moved.1)

  pub moved-append : (numbers : List GroupId) (place : ℕ) (olds news olds' news' : List BlockPart) → Moved numbers place olds news → Moved numbers (place + length olds) olds' news' → Moved numbers place (olds ++ olds') (news ++ news')
  moved-append numbers place [] [] olds' news' moved rest = let same : place + 0 ≡ place = omega arith in subst (λ n. Moved numbers n olds' news') same rest
  moved-append numbers place [] (b ∷ news) olds' news' moved rest = absurd moved
  moved-append numbers place (a ∷ olds) [] olds' news' moved rest = absurd moved
  moved-append numbers place (a ∷ olds) (b ∷ news) olds' news' moved rest =
      let same : place + suc (length olds) ≡ suc place + length olds = omega arith in
      (moved.0, moved-append numbers (suc place) olds news olds' news' moved.1 (subst (λ n. Moved numbers n olds' news') same rest))

  -- ---- groups that are gone through

  pub grown-append : (grown : Grown) (xs ys : List Group) → grown_all blocks levels grown (xs ++ ys) ≡ grown_all blocks levels (grown_all blocks levels grown xs) ys
  grown-append grown [] ys = refl
  grown-append grown (x ∷ xs) ys = grown-append (grown_with blocks levels grown x) xs ys

  pub can-append : (grown : Grown) (xs ys : List Group) → CanGrow blocks levels grown xs → CanGrow blocks levels (grown_all blocks levels grown xs) ys → CanGrow blocks levels grown (xs ++ ys)
  can-append grown [] ys first second = second
  can-append grown (x ∷ xs) ys first second = (first.0, can-append (grown_with blocks levels grown x) xs ys first.1 second)

  module _ (useful : List ColId) where
    abbrev pub kept : List GroupOf → List Group
    kept groups = map (kept_group useful) groups

    -- after some groups, which have these new numbers
    abbrev pub after : Grown → List GroupOf → List GroupId → Grown
    after grown news added = record { groups = grown.groups ++ kept news; numbers = grown.numbers ++ added }

    pub after-more : (grown : Grown) (a b : List GroupOf) (x y : List GroupId) → after (after grown a x) b y ≡ after grown (a ++ b) (x ++ y)
    after-more grown a b x y =
        ap₂ (λ gs ns. record { groups = gs; numbers = ns })
        (append_assoc grown.groups (kept a) (kept b) ∙ ap (λ gs. grown.groups ++ gs) (sym (map-append (kept_group useful) a b)))
        (append_assoc grown.numbers x y)

    pub after-none : (grown : Grown) → grown ≡ after grown [] []
    after-none grown = ap₂ (λ gs ns. record { groups = gs; numbers = ns }) (sym (append-nil grown.groups)) (sym (append-nil grown.numbers))

    -- in the place of written groups come these, and the written ones have these new numbers
    pub record Goes (grown : Grown) (olds news : List GroupOf) (added : List GroupId) : Type 0 where
      pub grown_is : grown_all blocks levels grown (kept olds) ≡ after grown news added
      pub each : length added ≡ length olds
      pub can : CanGrow blocks levels grown (kept olds)

    pub goes-none : (grown : Grown) → Goes grown [] [] []
    goes-none grown = record { grown_is = after-none grown; each = refl; can = tt }

    pub goes-append : (grown : Grown) (o1 o2 n1 n2 : List GroupOf) (a1 a2 : List GroupId) → Goes grown o1 n1 a1 → Goes (after grown n1 a1) o2 n2 a2 → Goes grown (o1 ++ o2) (n1 ++ n2) (a1 ++ a2)
    goes-append grown o1 o2 n1 n2 a1 a2 first second = record {
      grown_is =
          ap (grown_all blocks levels grown) (map-append (kept_group useful) o1 o2)
          ∙ grown-append grown (kept o1) (kept o2)
          ∙ ap (λ g. grown_all blocks levels g (kept o2)) first.grown_is
          ∙ second.grown_is
          ∙ after-more grown n1 n2 a1 a2;
      each = length-append a1 a2 ∙ ap₂ (λ m n. m + n) first.each second.each ∙ sym (length-append o1 o2);
      can =
          subst (CanGrow blocks levels grown) (sym (map-append (kept_group useful) o1 o2))
          (can-append grown (kept o1) (kept o2) first.can (subst (λ g. CanGrow blocks levels g (kept o2)) (sym first.grown_is) second.can));
    }

    -- one group that stays
    pub goes-one : (grown : Grown) (old new : GroupOf) → grown_with blocks levels grown (kept_group useful old) ≡ stays grown (kept_group useful old)
        → CanGrowBy blocks levels grown (kept_group useful old) old.key → renumbered grown.numbers (kept_group useful old) ≡ kept_group useful new
        → Goes grown (old ∷ []) (new ∷ []) (record { 0 = length grown.groups } ∷ [])
    goes-one grown old new is can same = record {
      grown_is = is ∙ ap (λ group. record { groups = grown.groups ++ group ∷ []; numbers = grown.numbers ++ record { 0 = length grown.groups } ∷ [] }) same;
      each = refl;
      can = (can, tt);
    }

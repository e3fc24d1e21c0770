-- Children of other groups than these, or of another number.
use Rattle.std.proofs.Common.{◌≡◌, ◌≢◌, suc, ◌==◌, ◌&&◌, Bool, true, false, List, [], ◌∷◌, length, refl, ap}
use Rattle.pdw_groups.specs.declared.key.GroupId.{GroupId}
use Rattle.pdw_ways.specs.Ways.{are_groups_of}
use Rattle.pdw_ways.specs.declared.made.Made.{Made}

pub lengths-differ : (below : List Made) (children : List GroupId) → length below ≢ length children → false ≡ are_groups_of below children
lengths-differ [] [] other = absurd (other refl)
lengths-differ [] (child ∷ children) other = refl
lengths-differ (made ∷ below) [] other = refl
lengths-differ (made ∷ below) (child ∷ children) other = by (made.group.0 == child.0) (lengths-differ below children (λ same. other (ap suc same)))
  where
    by : (b : Bool) → false ≡ are_groups_of below children → false ≡ (b && are_groups_of below children)
    by true rest = rest
    by false rest = refl

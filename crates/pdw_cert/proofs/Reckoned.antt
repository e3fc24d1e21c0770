-- Bounds that are small, and what the moves of a group are reckoned with.
use Rattle.std.proofs.Common.{◌≡◌, ℕ, zero, suc, Bool, true, false, List, [], ◌∷◌, zip, cond, Option, Some, None, refl, ap, subst}
use Rattle.std.specs.List.{AllByRecursion, slice_get}
use Rattle.std.specs.Map.{lookup}
use Rattle.std.specs.Option.{option_and_then}
use Rattle.pdw_cert.specs.Shape.{AreSmallNumbers}
use Rattle.pdw_groups.specs.Memo.{Contents}
use Rattle.pdw_groups.specs.declared.group.Group.{Group}
use Rattle.pdw_groups.specs.declared.key.GroupId.{GroupId}
use Rattle.pdw_memo.specs.Memo.{IsMemo}
use Rattle.pdw_move.specs.Cost.{cost_of_move}
use Rattle.pdw_move.specs.declared.cost.Constants.{Constants}
use Rattle.pdw_plan.specs.Cost.{costs_in, flow_of}
use Rattle.pdw_rules.specs.Rules.{is_same, properties_of}
use Rattle.pdw_sizes.specs.Sizes.{sizes_in}
use Rattle.pdw_sizes.specs.declared.size.Size.{Size}
use Rattle.pdw_stats.specs.Book.{Book}
use Rattle.pdw_ways.specs.Bounds.{AreSmall, IsSmall, bound_among, bound_in}
use Rattle.pdw_ways.specs.Costing.{AgreeAt, adds_by}

small-found : {K : Type 0} (test : K → Bool) (keys : List K) (list : List (Option ℕ)) → AllByRecursion IsSmall list → IsSmall (option_and_then (λ (bound : Option ℕ). bound) (lookup test (zip keys list)))
small-found test [] list small = tt
small-found test (key ∷ keys) [] small = tt
small-found test (key ∷ keys) (bound ∷ list) small = by (test key) (small-found test keys list small.1)
  where
    by : (passes : Bool) → IsSmall (option_and_then (λ (b : Option ℕ). b) (lookup test (zip keys list))) → IsSmall (option_and_then (λ (b : Option ℕ). b) (cond passes (Some bound) (lookup test (zip keys list))))
    by true behind = small.0
    by false behind = behind

small-list : (lists : List (List (Option ℕ))) → AreSmallNumbers lists → (place : ℕ) (list : List (Option ℕ)) → slice_get lists place ≡ Some list → AllByRecursion IsSmall list
small-list [] small place list none = absurd (cc)
small-list (first ∷ lists) small zero list is = let same : first ≡ list = cc in subst (AllByRecursion IsSmall) same small.0
small-list (first ∷ lists) small (suc place) list is = small-list lists small.1 place list is

pub small-bounds : (groups : List Group) (lists : List (List (Option ℕ))) → AreSmallNumbers lists → AreSmall (bound_in groups lists)
small-bounds groups lists small made = by (slice_get groups made.group.0) (slice_get lists made.group.0) refl
  where
    by : (group : Option Group) (list : Option (List (Option ℕ))) → slice_get lists made.group.0 ≡ list → IsSmall (bound_among made.prop group list)
    by None list is = tt
    by (Some group) None is = tt
    by (Some group) (Some list) is = small-found (is_same made.prop) (properties_of group.interesting) list (small-list lists small made.group.0 list is)

-- what moves cost by a group's size is what they cost in the memo
pub reckoned : (memo : Contents) (is : IsMemo memo) (book : Book) (n : ℕ) (k : Constants) (group : GroupId) (size : Size) → slice_get (sizes_in memo is book n) group.0 ≡ Some size → AgreeAt (costs_in memo is book n k) group (adds_by n k (record { rows = size.rows; width = size.width }))
reckoned memo is book n k group size at mv = ap (λ (some : Option Size). cost_of_move n k mv (flow_of some)) at

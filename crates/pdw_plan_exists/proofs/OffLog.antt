-- For all that a log reaches there is a plan that is read off it: its last entry for that, over what is read off before this entry.
use Rattle.std.proofs.Common.{◌≡◌, ◌≤◌, ◌<◌, ◌+◌, ℕ, zero, suc, List, [], ◌∷◌, length, take, get_or, Option, Some, None, refl, subst, arith, if◌then◌else◌}
use Rattle.std.proofs.lemmas.List.{length-take, take_all}
use Rattle.std.specs.List.{slice_get}
use Rattle.std.specs.Option.{IsSome}
use Rattle.pdw_groups.specs.declared.group.Group.{Group}
use Rattle.pdw_least.proofs.Builds.{free-reached, last-is, last-step, moved-reached, one-reached, two-reached}
use Rattle.pdw_least.proofs.ReadsOff.{read-freed, read-moved, read-one, read-scan, read-two}
use Rattle.pdw_least.specs.Built.{IsLast, IsLastAt, IsLastIn, IsReadOff}
use Rattle.pdw_least.specs.Log.{IsLog, bounds_after, is_same_made}
use Rattle.pdw_least.specs.declared.entry.Entry.{Entry}
use Rattle.pdw_move.specs.Move.{property_before}
use Rattle.pdw_plan_exists.proofs.Cheapest.{some-at}
use Rattle.pdw_ways.proofs.Same.{never}
use Rattle.pdw_ways.specs.Ways.{Costs}
use Rattle.pdw_ways.specs.declared.made.Made.{Made}
use Rattle.pdw_ways.specs.declared.plan.Plan.{Plan}
use Rattle.pdw_ways.specs.declared.plan.Plan.TheVariants as plan
use Rattle.pdw_ways.specs.declared.way.Way.{Way}
use Rattle.pdw_ways.specs.declared.way.Way.TheVariants as way

-- ---- the last entry

module _ (log : List Entry) (made : Made) where
  last-in : (count : ℕ) → count ≤ length log → (found : Option ℕ) × IsLastIn (take count log) made found
  last-in zero few = (None, refl)
  last-in (suc count) few =
      let before = last-in count (omega arith) in
      let entry : Entry = (some-at log count (omega arith)).0 in
      let next : count + 1 ≡ suc count = omega arith in
      let found : Option ℕ = (if is_same_made (get_or log count entry).made made then Some count else before.0) in
      (found, subst (λ (number : ℕ). IsLastIn (take number log) made found) next (last-step log made count entry before.0 found (omega arith) before.1 refl))

  last-some : IsSome (bounds_after log made) → (number : ℕ) × IsLastAt log made number
  last-some some =
      let last = last-in (length log) (omega arith) in
      by last.0 (subst (λ (entries : List Entry). IsLastIn entries made last.0) (take_all (length log) log (omega arith)) last.1)
    where
      by : (found : Option ℕ) → IsLastIn log made found → (number : ℕ) × IsLastAt log made number
      by None none = never (subst IsSome none some)
      by (Some number) is = (number, is)

-- ---- plans

pub record HasReadOff (groups : List Group) (costs : Costs) (log : List Entry) (made : Made) : Type 0 where
  pub tree : Plan
  pub read : IsReadOff groups costs log tree made

module _ (groups : List Group) (costs : Costs) where
  -- over what is read off before an entry
  by-way : (log : List Entry) (made : Made) (number : ℕ) (w : Way) → IsLast groups costs log made number w
      → ((m : Made) → IsSome (bounds_after (take number log) m) → HasReadOff groups costs (take number log) m) → HasReadOff groups costs log made
  by-way log made number way.Scan last below = record { tree = plan.Scan made.group made.prop; read = read-scan groups costs log made number last }
  by-way log made number (way.One child) last below =
      let one = below child (one-reached groups costs log made number child last) in
      record { tree = plan.Op made.group made.prop (one.tree ∷ []); read = read-one groups costs log made number child last one.tree one.read }
  by-way log made number (way.Two left right) last below =
      let reached = two-reached groups costs log made number left right last in
      let first = below left reached.0 in
      let second = below right reached.1 in
      record { tree = plan.Op made.group made.prop (first.tree ∷ second.tree ∷ []); read = read-two groups costs log made number left right last first.tree second.tree first.read second.read }
  by-way log made number (way.Moved mv) last below =
      let one = below (record { group = made.group; prop = property_before mv }) (moved-reached groups costs log made number mv last) in
      record { tree = plan.Moved mv one.tree; read = read-moved groups costs log made number mv last one.tree one.read }
  by-way log made number (way.Free before) last below =
      let one = below (record { group = made.group; prop = before }) (free-reached groups costs log made number before last) in
      record { tree = plan.Free made.prop one.tree; read = read-freed groups costs log made number before last one.tree one.read }

  pub read-off : (limit : ℕ) (log : List Entry) → length log < limit → IsLog groups costs log → (made : Made) → IsSome (bounds_after log made) → HasReadOff groups costs log made
  read-off zero log few is made some = absurd (omega arith)
  read-off (suc limit) log few is made some =
      let found = last-some log made some in
      let last = last-is groups costs log is made found.0 found.1 found.1.entry.way refl in
      let size = length-take found.0 log in
      let within = last.within in
      by-way log made found.0 found.1.entry.way last (λ m reached. read-off limit (take found.0 log) (omega (arith, size, within, few)) last.front m reached)

-- Runs that were worked out by hand, of nodes over nodes.
use Rattle.std.proofs.Common.{◌≡◌, ℕ, true≢false, [], ◌∷◌, length, refl}
use Rattle.std.specs.List.{AllByRecursion, IsDistinct}
use Rattle.pdw_base.specs.declared.schema.ColId.{ColId}
use Rattle.pdw_groups.specs.declared.key.GroupId.{GroupId}
use Rattle.pdw_move.specs.declared.kinds.Move.TheVariants as move
use Rattle.pdw_move.specs.declared.kinds.Prop.TheVariants.{Control, Hash, Replicated, Spread}
use Rattle.pdw_rules.specs.Rules.{is_same}
use Rattle.pdw_ways.specs.declared.plan.Plan.TheOpen.{Plan-F}
use Rattle.pdw_least.specs.Runs.{Runs, each_run, operators_step, runs_step}

abbrev a : ColId
a = record { 0 = 0 }

abbrev b : ColId
b = record { 0 = 1 }

abbrev g : ℕ → GroupId
g number = record { 0 = number }

-- ---- a scan by the hash of a, freed, at the control node, at each compute node, and there by the hash of b

abbrev scanned : Runs
scanned = runs_step (Plan-F.Scan (g 0) (Hash a))

abbrev at_control : Runs
at_control = runs_step (Plan-F.Moved move.ToControl (runs_step (Plan-F.Free Spread scanned)))

abbrev longest : Runs
longest = runs_step (Plan-F.Moved (move.Trim b) (runs_step (Plan-F.Moved move.FromControl at_control)))

four_moves : longest ≡ record { top = Hash b ∷ Replicated ∷ Control ∷ Spread ∷ Hash a ∷ []; below = [] }
four_moves = refl

five_in_all : length longest.top ≡ 5
five_in_all = refl

none_twice : AllByRecursion (IsDistinct is_same) (each_run longest)
unfolding IsDistinct
none_twice = (((refl, (refl, (refl, (refl, tt)))), ((refl, (refl, (refl, tt))), ((refl, (refl, tt)), ((refl, tt), (tt, tt))))), tt)

-- freed once more it comes back to where it was
spread_twice : AllByRecursion (IsDistinct is_same) (each_run (runs_step (Plan-F.Free Spread longest))) → ⊥
unfolding IsDistinct
spread_twice distinct = true≢false distinct.0.0.1.1.1.0

-- by another column's hash it does not, though it was by a hash before
abbrev other_hash : Runs
other_hash = runs_step (Plan-F.Moved (move.Shuffle b) (runs_step (Plan-F.Free Spread scanned)))

hash_of_another : AllByRecursion (IsDistinct is_same) (each_run other_hash)
unfolding IsDistinct
hash_of_another = (((refl, (refl, tt)), ((refl, tt), (tt, tt))), tt)

-- ---- a join of that with a scan, which is moved to the control node: the run at its top starts at the join

abbrev joined : Runs
joined = runs_step (Plan-F.Moved move.ToControl (runs_step (Plan-F.Op (g 2) Spread (runs_step (Plan-F.Free Spread scanned) ∷ runs_step (Plan-F.Scan (g 1) Replicated) ∷ []))))

three_runs : joined ≡ record { top = Control ∷ Spread ∷ []; below = (Spread ∷ Hash a ∷ []) ∷ (Replicated ∷ []) ∷ [] }
three_runs = refl

-- of its five nodes one is a move and one a free change
three_operators : operators_step (Plan-F.Moved move.ToControl (operators_step (Plan-F.Op (g 2) Spread (operators_step (Plan-F.Free Spread (operators_step (Plan-F.Scan (g 0) (Hash a)))) ∷ operators_step (Plan-F.Scan (g 1) Replicated) ∷ [])))) ≡ 3
three_operators = refl

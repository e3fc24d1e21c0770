-- The bounds of a count over a table, worked out by hand: the table without columns, the partial rows, the groups, and the items.
use Rattle.std.proofs.Common.{◌≡◌, ℕ, List, [], ◌∷◌, Option, Some, None, refl}
use Rattle.pdw_base.specs.declared.schema.ColId.{ColId}
use Rattle.pdw_base.specs.declared.value.Kind.TheVariants as kinds
use Rattle.pdw_cert.specs.Shape.{first_misshapen, least_of_root}
use Rattle.pdw_cert.specs.TooHigh.{all_made}
use Rattle.pdw_groups.specs.declared.group.Group.{Group}
use Rattle.pdw_groups.specs.declared.key.GroupKey.TheVariants as key
use Rattle.pdw_move.specs.declared.kinds.Prop.{Prop}
use Rattle.pdw_move.specs.declared.kinds.Prop.TheVariants.{Spread, Hash, Replicated, Single, Control}
use Rattle.pdw_ways.specs.declared.made.Made.{Made}

abbrev count : ColId
count = record { 0 = 0 }

abbrev scanned : Group
scanned = record { key = key.Whole 0; schema = []; interesting = []; exprs = [] }

abbrev counted : Group
counted = record { key = key.Whole 1; schema = (count, kinds.Int) ∷ []; interesting = count ∷ []; exprs = [] }

abbrev groups : List Group
groups = scanned ∷ counted ∷ counted ∷ counted ∷ []

abbrev Bounds : Type 0
Bounds = List (Option ℕ)

abbrev scan_bounds : Bounds
scan_bounds = Some 0 ∷ Some 4000 ∷ Some 3000 ∷ Some 6000 ∷ []

abbrev partial_bounds : Bounds
partial_bounds = Some 0 ∷ Some 64 ∷ Some 256 ∷ Some 192 ∷ Some 384 ∷ []

abbrev group_bounds : Bounds
group_bounds = Some 272 ∷ Some 272 ∷ Some 256 ∷ Some 192 ∷ Some 320 ∷ []

abbrev lists : List Bounds
lists = scan_bounds ∷ partial_bounds ∷ group_bounds ∷ group_bounds ∷ []

each-fits : first_misshapen groups lists ≡ None
each-fits = refl

last-is-missing : first_misshapen groups (scan_bounds ∷ partial_bounds ∷ group_bounds ∷ []) ≡ Some 3
last-is-missing = refl

one-is-surplus : first_misshapen groups (scan_bounds ∷ partial_bounds ∷ group_bounds ∷ group_bounds ∷ [] ∷ []) ≡ Some 4
one-is-surplus = refl

-- the table has no property by a hash, so a list of five is too long for it, and one of four too short for the others
first-is-longer : first_misshapen groups (partial_bounds ∷ partial_bounds ∷ group_bounds ∷ group_bounds ∷ []) ≡ Some 0
first-is-longer = refl

third-is-shorter : first_misshapen groups (scan_bounds ∷ partial_bounds ∷ scan_bounds ∷ group_bounds ∷ []) ≡ Some 2
third-is-shorter = refl

least-is-at-one-node : least_of_root groups lists ≡ Some 192
least-is-at-one-node = refl

-- unreachable is greater than every number
least-of-few : least_of_root (scanned ∷ []) ((None ∷ Some 7 ∷ None ∷ Some 9 ∷ []) ∷ []) ≡ Some 7
least-of-few = refl

least-of-none : least_of_root (scanned ∷ []) ((None ∷ None ∷ []) ∷ []) ≡ None
least-of-none = refl

abbrev at : ℕ → Prop → Made
at number prop = record { group = record { 0 = number }; prop = prop }

order-of-bounds : all_made (scanned ∷ counted ∷ []) ≡ at 0 Spread ∷ at 0 Replicated ∷ at 0 Single ∷ at 0 Control ∷ at 1 Spread ∷ at 1 (Hash count) ∷ at 1 Replicated ∷ at 1 Single ∷ at 1 Control ∷ []
order-of-bounds = refl

-- Of two neighbours in a run one is spread or replicated, since each move and free change starts or ends there. So a run in
-- which neither stands twice has at most two of them, and at most one property before, between and behind.
use Rattle.std.proofs.Common.{◌≡◌, ◌≤◌, ◌+◌, ◌*◌, ℕ, Bool, true, false, List, [], ◌∷◌, length, refl, sym, subst, arith, if◌then◌else◌}
use Rattle.std.specs.List.{AllByRecursion, IsDistinct}
use Rattle.pdw_move.specs.Move.{property_after, property_before}
use Rattle.pdw_move.specs.declared.kinds.Move.{Move}
use Rattle.pdw_move.specs.declared.kinds.Move.TheVariants as move
use Rattle.pdw_move.specs.declared.kinds.Prop.{Prop}
use Rattle.pdw_move.specs.declared.kinds.Prop.TheVariants.{Control, Hash, Replicated, Single, Spread}
use Rattle.pdw_rules.specs.Rules.{is_free, is_same}
use Rattle.pdw_ways.proofs.Same.{never, same-alike}
use Rattle.pdw_least.specs.Runs.{IsWithinFour}

-- how often a property stands in a run
abbrev pub times : Prop → List Prop → ℕ
times p [] = 0
times p (q ∷ run) = (if is_same p q then 1 else 0) + times p run

-- how many others stand at the end of a run
abbrev pub beside : Prop → ℕ
beside Spread = 0
beside (Hash c) = 1
beside Replicated = 0
beside Single = 1
beside Control = 1

abbrev pub middle : List Prop → ℕ
middle run = times Spread run + times Replicated run

-- a run that ends under this property
abbrev pub IsChain : Prop → List Prop → Type 0
IsChain p run = length run ≤ 2 * middle run + beside p

-- ---- one more

pub chain-start : (p : Prop) → IsChain p (p ∷ [])
chain-start Spread = omega arith
chain-start (Hash c) = omega arith
chain-start Replicated = omega arith
chain-start Single = omega arith
chain-start Control = omega arith

pub chain-moved : (mv : Move) (run : List Prop) → IsChain (property_before mv) run → IsChain (property_after mv) (property_after mv ∷ run)
chain-moved (move.Shuffle c) run chain = omega arith
chain-moved move.ToSingle run chain = omega arith
chain-moved move.ToControl run chain = omega arith
chain-moved move.Broadcast run chain = omega arith
chain-moved (move.Trim c) run chain = omega arith
chain-moved move.FromControl run chain = omega arith
chain-moved move.FromSingle run chain = omega arith

pub chain-freed : (before to : Prop) → is_free before to ≡ true → (run : List Prop) → IsChain before run → IsChain to (to ∷ run)
chain-freed (Hash c) Spread free run chain = omega arith
chain-freed Replicated Single free run chain = omega arith
chain-freed _ _ free run chain = never free

-- ---- where none stands twice

times-none : (p : Prop) (run : List Prop) → AllByRecursion (λ (q : Prop). is_same p q ≡ false) run → times p run ≡ 0
times-none p [] other = refl
times-none p (q ∷ run) other = (let rest = times-none p run other.1 in rw other.0 (omega arith))

distinct-once : (p : Prop) (run : List Prop) → IsDistinct is_same run → times p run ≤ 1
unfolding IsDistinct
distinct-once p [] distinct = omega arith
distinct-once p (q ∷ run) distinct = by (is_same p q) refl (distinct-once p run distinct.1)
  where
    by : (test : Bool) → is_same p q ≡ test → times p run ≤ 1 → (if test then 1 else 0) + times p run ≤ 1
    by true same rest =
        let none : times p run ≡ 0 = times-none p run (subst (λ (r : Prop). AllByRecursion (λ (s : Prop). is_same r s ≡ false) run) (sym (same-alike p q same)) distinct.0) in
        omega arith
    by false other rest = omega arith

pub chain-any : (p : Prop) (run : List Prop) → IsChain p run → length run ≤ 2 * middle run + 1
chain-any Spread run chain = omega arith
chain-any (Hash c) run chain = omega arith
chain-any Replicated run chain = omega arith
chain-any Single run chain = omega arith
chain-any Control run chain = omega arith

-- a run in which none stands twice has at most five
pub within-four : (run : List Prop) → length run ≤ 2 * middle run + 1 → IsDistinct is_same run → IsWithinFour run
within-four run chain distinct =
    let spread = distinct-once Spread run distinct in
    let replicated = distinct-once Replicated run distinct in
    omega arith

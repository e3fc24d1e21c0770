-- The nodes of a result are among those of each child.
use Rattle.std.proofs.Common.{◌≡◌, ℕ, ◌&&◌, ◌||◌, Bool, true, false, true≢false, not, List, [], ◌∷◌, Option, refl, sym, subst, if◌then◌else◌}
use Rattle.std.specs.List.{AllByRecursion}
use Rattle.std.proofs.lemmas.Bool.{and_parts}
use Rattle.pdw_base.specs.declared.node.Node.{Node}
use Rattle.pdw_base.specs.declared.node.Node.TheVariants as node
use Rattle.pdw_base.specs.declared.schema.ColId.{ColId}
use Rattle.pdw_expr.specs.declared.agg.JoinKind.{JoinKind}
use Rattle.pdw_expr.specs.declared.agg.JoinKind.TheVariants as kind
use Rattle.pdw_expr.specs.declared.cond.Cond.{Cond}
use Rattle.pdw_expr.specs.declared.scalar.Scalar.{Scalar}
use Rattle.pdw_groups.specs.declared.op.Op.{Op}
use Rattle.pdw_groups.specs.declared.op.Op.TheVariants as op
use Rattle.pdw_move.specs.declared.kinds.Prop.{Prop}
use Rattle.pdw_move.specs.declared.kinds.Prop.TheVariants.{Spread, Hash, Replicated, Single, Control}
use Rattle.pdw_plan.specs.Covers.{Covers}
use Rattle.pdw_rules.proofs.SiteLemmas.{same-property}
use Rattle.pdw_rules.specs.Rules.{binary_rule, group_rule, hashes_rule, is_divided, is_free, is_full, is_grouped, is_inner, is_key, is_same, is_whole, join_rule, local_rule, matched_rule, matches_on, one_site_rule, partial_property, passes, projected_property, replicated_left_rule, replicated_right_rule, unary_rule}
use Rattle.pdw_rules.specs.Stands.{is_at}

same-covers : (p : Prop) → Covers p p
same-covers p = record { there = λ place at. at }

-- every compute node, and no other
abbrev is_wide : Prop → Bool
is_wide Spread = true
is_wide (Hash c) = true
is_wide Replicated = true
is_wide Single = false
is_wide Control = false

-- compute nodes alone
abbrev is_compute : Prop → Bool
is_compute Control = false
is_compute _ = true

wide-at : (p : Prop) → is_wide p ≡ true → (k : ℕ) → is_at p (node.Compute k) ≡ true
wide-at Spread wide k = refl
wide-at (Hash c) wide k = refl
wide-at Replicated wide k = refl
wide-at Single wide k = absurd (true≢false (sym wide))
wide-at Control wide k = absurd (true≢false (sym wide))

not-control : {X : Type 0} (p : Prop) → is_compute p ≡ true → is_at p node.Control ≡ true → X
not-control Spread compute at = absurd (true≢false (sym at))
not-control (Hash c) compute at = absurd (true≢false (sym at))
not-control Replicated compute at = absurd (true≢false (sym at))
not-control Single compute at = absurd (true≢false (sym at))
not-control Control compute at = absurd (true≢false (sym compute))

wide-covers : (result child : Prop) → is_compute result ≡ true → is_wide child ≡ true → Covers result child
wide-covers result child compute wide = record { there = covers }
  where
    covers : (place : Node) → is_at result place ≡ true → is_at child place ≡ true
    covers (node.Compute k) at = wide-at child wide k
    covers node.Control at = not-control result compute at

pub free-covers : (p q : Prop) → is_free p q ≡ true → Covers q p
free-covers (Hash c) Spread free = wide-covers Spread (Hash c) refl refl
free-covers Replicated Single free = wide-covers Single Replicated refl refl
free-covers _ _ free = absurd (true≢false (sym free))

under-same : (p result child : Prop) → is_same p result ≡ true → Covers p child → Covers result child
under-same p result child same covers = subst (λ q. Covers q child) (same-property p result same) covers

-- ---- over one child

hash-covers : (passed : Bool) (c : ColId) → Covers (if passed then Hash c else Spread) (Hash c)
hash-covers true c = same-covers (Hash c)
hash-covers false c = wide-covers Spread (Hash c) refl refl

project-covers : (items : List (ColId × Option Scalar)) (p : Prop) → Covers (projected_property items p) p
project-covers items Spread = same-covers Spread
project-covers items (Hash c) = hash-covers (passes items c) c
project-covers items Replicated = same-covers Replicated
project-covers items Single = same-covers Single
project-covers items Control = same-covers Control

partial-covers : (keys : List ColId) (p : Prop) → Covers (partial_property keys p) p
partial-covers keys Spread = same-covers Spread
partial-covers keys (Hash c) = hash-covers (is_key keys c) c
partial-covers keys Replicated = same-covers Replicated
partial-covers keys Single = same-covers Single
partial-covers keys Control = same-covers Control

group-covers : (keys : List ColId) (p result : Prop) → group_rule keys p result ≡ true → Covers result p
group-covers keys p result rule = under-same p result p (and_parts (is_grouped keys p) (is_same p result) rule).1 (same-covers p)

unary-covers : (operator : Op) (p result : Prop) → unary_rule operator p result ≡ true → Covers result p
unary-covers (op.Scan table alias cols hash replicated) p result rule = absurd (true≢false (sym rule))
unary-covers (op.Filter conds) p result rule = under-same p result p rule (same-covers p)
unary-covers (op.Project items) p result rule = under-same (projected_property items p) result p rule (project-covers items p)
unary-covers (op.Join kind conds) p result rule = absurd (true≢false (sym rule))
unary-covers (op.GroupBy keys aggs) p result rule = group-covers keys p result rule
unary-covers (op.Partial keys aggs) p result rule = under-same (partial_property keys p) result p rule (partial-covers keys p)
unary-covers (op.Final keys aggs) p result rule = group-covers keys p result rule

-- ---- over two

abbrev CoversBoth : Prop → Prop → Prop → Type 0
CoversBoth result p q = Covers result p × Covers result q

either : (a b : Bool) (X : Type 0) → (a || b) ≡ true → (a ≡ true → X) → (b ≡ true → X) → X
either true b X is first second = first refl
either false b X is first second = second is

under-wide : (p result child : Prop) → is_same p result ≡ true → is_compute p ≡ true → is_wide child ≡ true → Covers result child
under-wide p result child same compute wide = under-same p result child same (wide-covers p child compute wide)

matched-covers : (kind : JoinKind) (a b : ColId) (result : Prop) → matched_rule kind a b result ≡ true → CoversBoth result (Hash a) (Hash b)
matched-covers kind.Inner a b result rule =
    either (is_same (Hash a) result) (is_same (Hash b) result) (CoversBoth result (Hash a) (Hash b)) rule
    (λ same. (under-wide (Hash a) result (Hash a) same refl refl, under-wide (Hash a) result (Hash b) same refl refl))
    (λ same. (under-wide (Hash b) result (Hash a) same refl refl, under-wide (Hash b) result (Hash b) same refl refl))
matched-covers kind.Left a b result rule = (under-wide (Hash a) result (Hash a) rule refl refl, under-wide (Hash a) result (Hash b) rule refl refl)
matched-covers kind.Full a b result rule = (under-wide Spread result (Hash a) rule refl refl, under-wide Spread result (Hash b) rule refl refl)
matched-covers kind.Semi a b result rule = (under-wide (Hash a) result (Hash a) rule refl refl, under-wide (Hash a) result (Hash b) rule refl refl)
matched-covers kind.Anti a b result rule = (under-wide (Hash a) result (Hash a) rule refl refl, under-wide (Hash a) result (Hash b) rule refl refl)

hashes-covers : (kind : JoinKind) (conds : List Cond) (p q result : Prop) → hashes_rule kind conds p q result ≡ true → CoversBoth result p q
hashes-covers kind conds (Hash a) (Hash b) result rule = matched-covers kind a b result (and_parts (matches_on conds a b) (matched_rule kind a b result) rule).1
hashes-covers kind conds _ _ result rule = absurd (true≢false (sym rule))

divided-compute : (p : Prop) → is_divided p ≡ true → is_compute p ≡ true
divided-compute Spread divided = refl
divided-compute (Hash c) divided = refl
divided-compute Replicated divided = refl
divided-compute Single divided = refl
divided-compute Control divided = absurd (true≢false (sym divided))

-- a child that stands as the result, and one that is replicated
beside-covers : (p other result : Prop) → is_divided p ≡ true → is_same other Replicated ≡ true → is_same p result ≡ true → Covers result p × Covers result other
beside-covers p other result divided replicated same =
    let is : other ≡ Replicated = same-property other Replicated replicated in
    (under-same p result p same (same-covers p), subst (λ q. Covers result q) (sym is) (under-wide p result Replicated same (divided-compute p divided) refl))

join-covers : (kind : JoinKind) (conds : List Cond) (p q result : Prop) → join_rule kind conds p q result ≡ true → CoversBoth result p q
join-covers kind conds p q result rule =
    either (hashes_rule kind conds p q result) (replicated_right_rule kind p q result || (replicated_left_rule kind p q result || one_site_rule p q result)) (CoversBoth result p q) rule
    (hashes-covers kind conds p q result)
    (λ rule.
    either (replicated_right_rule kind p q result) (replicated_left_rule kind p q result || one_site_rule p q result) (CoversBoth result p q) rule
    (λ rule.
    let more = (and_parts (not (is_full kind)) (is_divided p && (is_same q Replicated && is_same p result)) rule).1 in
    let both = and_parts (is_divided p) (is_same q Replicated && is_same p result) more in
    let last = and_parts (is_same q Replicated) (is_same p result) both.1 in
    beside-covers p q result both.0 last.0 last.1)
    (λ rule.
    either (replicated_left_rule kind p q result) (one_site_rule p q result) (CoversBoth result p q) rule
    (λ rule.
    let more = (and_parts (is_inner kind) (is_same p Replicated && (is_divided q && is_same q result)) rule).1 in
    let both = and_parts (is_same p Replicated) (is_divided q && is_same q result) more in
    let last = and_parts (is_divided q) (is_same q result) both.1 in
    let covers = beside-covers q p result last.0 both.0 last.1 in
    (covers.1, covers.0))
    (λ rule.
    let more = (and_parts (is_whole p) (is_same p q && is_same p result) rule).1 in
    let both = and_parts (is_same p q) (is_same p result) more in
    let is : p ≡ q = same-property p q both.0 in
    let first = under-same p result p both.1 (same-covers p) in
    (first, subst (λ r. Covers result r) is first))))

binary-covers : (operator : Op) (p q result : Prop) → binary_rule operator p q result ≡ true → CoversBoth result p q
binary-covers (op.Join kind conds) p q result rule = join-covers kind conds p q result rule
binary-covers (op.Scan table alias cols hash replicated) p q result rule = absurd (true≢false (sym rule))
binary-covers (op.Filter conds) p q result rule = absurd (true≢false (sym rule))
binary-covers (op.Project items) p q result rule = absurd (true≢false (sym rule))
binary-covers (op.GroupBy keys aggs) p q result rule = absurd (true≢false (sym rule))
binary-covers (op.Partial keys aggs) p q result rule = absurd (true≢false (sym rule))
binary-covers (op.Final keys aggs) p q result rule = absurd (true≢false (sym rule))

pub line-covers : (operator : Op) (props : List Prop) (result : Prop) → local_rule operator props result ≡ true → AllByRecursion (Covers result) props
line-covers operator [] result rule = tt
line-covers operator (p ∷ []) result rule = (unary-covers operator p result rule, tt)
line-covers operator (p ∷ q ∷ []) result rule = let both = binary-covers operator p q result rule in (both.0, (both.1, tt))
line-covers operator (p ∷ q ∷ r ∷ rest) result rule = absurd (true≢false (sym rule))

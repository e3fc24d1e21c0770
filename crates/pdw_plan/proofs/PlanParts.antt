-- What is known of a plan of which each node is a way: of its children, its group and its expression.
use Rattle.std.proofs.Common.{◌≡◌, ◌≢◌, ℕ, suc, ◌+◌, ◌==◌, ◌||◌, Bool, true, false, true≢false, cond, List, [], ◌∷◌, map, AllPairs, is_some, Option, Some, None, refl, sym, ap, ap₂, ◌∙◌, arith, tests, if◌then◌else◌}
use Rattle.std.specs.List.{AllByRecursion, find, list_any, slice_get}
use Rattle.std.specs.Option.{option_map, option_or}
use Rattle.std.proofs.lemmas.Bool.{and_parts}
use Rattle.std.proofs.lemmas.Option.{get_or_from_slice_get, slice_get_within}
use Rattle.pdw_groups.specs.declared.group.Expr.{Expr}
use Rattle.pdw_groups.specs.declared.group.Group.{Group}
use Rattle.pdw_groups.specs.declared.key.GroupId.{GroupId}
use Rattle.pdw_move.specs.declared.kinds.Prop.{Prop}
use Rattle.pdw_rules.specs.Rules.{local_rule}
use Rattle.pdw_ways.specs.Shape.{Shape, fault_after, fault_at, nodes_in}
use Rattle.pdw_ways.specs.Ways.{are_groups_of, is_at, is_at_some, operates}
use Rattle.pdw_ways.specs.declared.made.Made.{Made}

-- ---- no fault

or-none : (a b : Option ℕ) → option_or a b ≡ None → (a ≡ None) × (b ≡ None)
or-none None b is = (refl, is)
or-none (Some x) b is = absurd (true≢false (ap is_some is))

map-none : (f : ℕ → ℕ) (a : Option ℕ) → option_map f a ≡ None → a ≡ None
map-none f None is = refl
map-none f (Some x) is = absurd (true≢false (ap is_some is))

way-true : (b : Bool) (node : ℕ) → (if b then None else Some node) ≡ None → b ≡ true
way-true true node is = refl
way-true false node is = absurd (true≢false (ap is_some is))

pub fault-none : (below : List Shape) (b : Bool) → fault_at below b ≡ None → (fault_after 0 below ≡ None) × (b ≡ true)
fault-none below b is = let both = or-none (fault_after 0 below) (if b then None else Some (nodes_in below)) is in (both.0, way-true b (nodes_in below) both.1)

after-none : (n : ℕ) (s : Shape) (shapes : List Shape) → fault_after n (s ∷ shapes) ≡ None → (s.fault ≡ None) × (fault_after (n + s.nodes) shapes ≡ None)
after-none n s shapes is = let both = or-none (option_map (λ node. n + node) s.fault) (fault_after (n + s.nodes) shapes) is in (map-none (λ node. n + node) s.fault both.0, both.1)

pub one-none : (s : Shape) → fault_after 0 (s ∷ []) ≡ None → s.fault ≡ None
one-none s is = (after-none 0 s [] is).0

pub two-none : (s t : Shape) → fault_after 0 (s ∷ t ∷ []) ≡ None → (s.fault ≡ None) × (t.fault ≡ None)
two-none s t is = let both = after-none 0 s (t ∷ []) is in (both.0, (after-none (0 + s.nodes) t [] both.1).0)

pub children-none : (n : ℕ) (shapes : List Shape) → fault_after n shapes ≡ None → AllByRecursion (λ (s : Shape). s.fault ≡ None) shapes
children-none n [] is = tt
children-none n (s ∷ shapes) is = let both = after-none n s shapes is in (both.0, children-none (n + s.nodes) shapes both.1)

-- ---- a group by its number

pub record IsFound (groups : List Group) (number : GroupId) (test : Group → Bool) : Type 0 where
  pub group : Group
  pub there : slice_get groups number.0 ≡ Some group
  pub passes : test group ≡ true

pub at-some : (groups : List Group) (number : GroupId) (test : Group → Bool) → is_at groups number test ≡ true → IsFound groups number test
at-some groups number test = by (slice_get groups number.0) refl
  where
    by : (some : Option Group) → slice_get groups number.0 ≡ some → is_at_some some test ≡ true → IsFound groups number test
    by None at is = absurd (true≢false (sym is))
    by (Some group) at is = record { group = group; there = at; passes = is }

-- ---- an item of a list

pub record IsAt {X : Type 0} (test : X → Bool) (xs : List X) : Type 0 where
  pub item : X
  pub place : ℕ
  pub there : slice_get xs place ≡ Some item
  pub passes : test item ≡ true

pub any-at : {X : Type 0} (test : X → Bool) (xs : List X) → list_any test xs ≡ true → IsAt test xs
any-at test [] is = absurd (true≢false (sym is))
any-at test (x ∷ xs) is = by (test x) refl is (any-at test xs)
  where
    by : (b : Bool) → test x ≡ b → (b || list_any test xs) ≡ true → (list_any test xs ≡ true → IsAt test xs) → IsAt test (x ∷ xs)
    by true here is rest = record { item = x; place = 0; there = refl; passes = here }
    by false other is rest = let more = rest is in record { item = more.item; place = suc more.place; there = more.there; passes = more.passes }

-- ---- expressions over children

number-same : (a c : GroupId) → (a.0 == c.0) ≡ true → a ≡ c
number-same a c e = let n : a.0 ≡ c.0 = grind (arith, tests) in ap (λ n. record { 0 = n }) n

pub groups-are : (below : List Made) (children : List GroupId) → are_groups_of below children ≡ true → map (λ (made : Made). made.group) below ≡ children
groups-are [] [] is = refl
groups-are [] (child ∷ children) is = absurd (true≢false (sym is))
groups-are (made ∷ below) [] is = absurd (true≢false (sym is))
groups-are (made ∷ below) (child ∷ children) is =
    let both = and_parts (made.group.0 == child.0) (are_groups_of below children) is in
    ap₂ (λ first rest. first ∷ rest) (number-same made.group child both.0) (groups-are below children both.1)

pub operates-parts : (below : List Made) (prop : Prop) (expr : Expr) → operates below prop expr ≡ true → (are_groups_of below expr.children ≡ true) × (local_rule expr.op (map (λ (made : Made). made.prop) below) prop ≡ true)
operates-parts [] prop expr is = absurd (true≢false (sym is))
operates-parts (made ∷ below) prop expr is = and_parts (are_groups_of (made ∷ below) expr.children) (local_rule expr.op (map (λ (made : Made). made.prop) (made ∷ below)) prop) is

-- the first expression over these children, which passes a test
pub record IsOver (below : List Made) (test : Expr → Bool) (exprs : List Expr) : Type 0 where
  pub expr : Expr
  pub place : ℕ
  pub there : slice_get exprs place ≡ Some expr
  pub found : find (λ (expr : Expr). are_groups_of below expr.children) exprs ≡ Some expr
  pub passes : test expr ≡ true
  pub over : are_groups_of below expr.children ≡ true

abbrev Differ : List Expr → Type 0
Differ exprs = AllPairs (λ (a b : Expr). a.children ≢ b.children) exprs

rest-differ : (expr : Expr) (exprs : List Expr) → Differ (expr ∷ exprs) → Differ exprs
rest-differ expr exprs differ i j d less within = differ (suc i) (suc j) d (omega (arith, less)) (omega (arith, within))

-- where expressions have different children, one that passes is the first over its own
pub any-over : (below : List Made) (test : Expr → Bool) (exprs : List Expr) → Differ exprs
    → ((place : ℕ) (expr : Expr) → slice_get exprs place ≡ Some expr → test expr ≡ true → are_groups_of below expr.children ≡ true)
    → list_any test exprs ≡ true → IsOver below test exprs
any-over below test [] differ over is = absurd (true≢false (sym is))
any-over below test (expr ∷ exprs) differ over is =
    by (test expr) refl is (λ is. any-over below test exprs (rest-differ expr exprs differ) (λ place other there. over (suc place) other there) is)
  where
    abbreviated : (b : Bool) → are_groups_of below expr.children ≡ b → find (λ (expr : Expr). are_groups_of below expr.children) (expr ∷ exprs) ≡ cond b (Some expr) (find (λ (expr : Expr). are_groups_of below expr.children) exprs)
    abbreviated b is = ap (λ b. cond b (Some expr) (find (λ (expr : Expr). are_groups_of below expr.children) exprs)) is

    later : (more : IsOver below test exprs) (b : Bool) → are_groups_of below expr.children ≡ b → IsOver below test (expr ∷ exprs)
    later more true here =
        let same : expr.children ≡ more.expr.children = sym (groups-are below expr.children here) ∙ groups-are below more.expr.children more.over in
        let within = slice_get_within exprs more.place more.expr more.there in
        let at = get_or_from_slice_get exprs more.place more.expr expr more.there in
        absurd (differ 0 (suc more.place) expr (omega arith) (omega (arith, within)) (same ∙ ap (λ (e : Expr). e.children) (sym at)))
    later more false other = record {
      expr = more.expr;
      place = suc more.place;
      there = more.there;
      found = abbreviated false other ∙ more.found;
      passes = more.passes;
      over = more.over;
    }

    by : (b : Bool) → test expr ≡ b → (b || list_any test exprs) ≡ true → (list_any test exprs ≡ true → IsOver below test exprs) → IsOver below test (expr ∷ exprs)
    by true here is rest =
        let own = over 0 expr refl here in
        record { expr = expr; place = 0; there = refl; found = abbreviated true own; passes = here; over = own }
    by false other is rest = later (rest is) (are_groups_of below expr.children) refl

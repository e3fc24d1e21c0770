-- The induction over queries and what stands in them: the nodes of a tree by the counts of its form.
use Rattle.std.proofs.Common.{◌≡◌, ℕ, ◌+◌, List, [], ◌∷◌, map, sym, subst, subst₂, arith}
use Rattle.pdw_algebra.specs.declared.tree.Tree.{Tree}
use Rattle.pdw_bind.proofs.NodesLaws.{AllJoins, AllParts, Counts, JoinCounts, PartCounts, QueryCounts, join_more, joined_counts, leaf_counts, no_joins, no_parts, part_more, query_counts, scan_counts, subquery_counts}
use Rattle.pdw_bind.specs.Bind as bind
use Rattle.pdw_bind.specs.Bind.{Bound, Part, bound, part, subquery, trees}
use Rattle.pdw_bind.specs.Nodes.{nodes}
use Rattle.pdw_form.specs.Counts as count
use Rattle.pdw_form.specs.Counts.{from_count, queries, query_count, references, sub_count}
use Rattle.pdw_form.specs.declared.judged.JFrom.TheFolds.{fold-roll-JFrom, fold-roll-JSub, fold-roll-JudgedQuery, ind-JudgedQuery, map-JFrom, map-JSub, map-JudgedQuery}
use Rattle.pdw_form.specs.declared.judged.JFrom.TheOpen.{JFrom-F, JSub-F, JudgedQuery-F}
use Rattle.pdw_form.specs.declared.judged.JFrom.TheViews.{roll-JFrom}
use Rattle.pdw_form.specs.declared.judged.JFrom.{JFrom}
use Rattle.pdw_form.specs.declared.judged.JSub.{JSub, roll-JSub}
use Rattle.pdw_form.specs.declared.judged.JudgedQuery.{JudgedQuery, roll-JudgedQuery}

-- one fact of three equal values
of_three : {A : Type 0} (P : A → ℕ → ℕ → Type 0) {a x : A} {b y c z : ℕ} → x ≡ a → y ≡ b → z ≡ c → P a b c → P x y z
of_three P {a = a} {y = y} {z = z} first second third holds = subst (λ x. P x y z) (sym first) (subst₂ (P a) (sym second) (sym third) holds)

abbrev FromLaw : JFrom → Type 0
FromLaw x = PartCounts (part x) (from_count 1 0 x) (from_count 0 1 x)

abbrev SubLaw : JSub → Type 0
SubLaw x = JoinCounts (subquery x) (sub_count 1 0 x) (sub_count 0 1 x)

abbrev QueryLaw : JudgedQuery → Type 0
QueryLaw x = QueryCounts (trees x) (query_count 1 0 x) (query_count 0 1 x)

abbrev KnownFrom : Type 0
KnownFrom = (x : JFrom) × FromLaw x

abbrev KnownSub : Type 0
KnownSub = (x : JSub) × SubLaw x

abbrev KnownQuery : Type 0
KnownQuery = (x : JudgedQuery) × QueryLaw x

-- ---- elements of FROM

abbrev known_from : JFrom-F KnownFrom KnownSub KnownQuery → JFrom-F JFrom JSub JudgedQuery
known_from = map-JFrom KnownFrom KnownSub KnownQuery JFrom JSub JudgedQuery (λ x. x.0) (λ x. x.0) (λ x. x.0)

abbrev from_parts : JFrom-F JFrom JSub JudgedQuery → JFrom-F Part (Tree → Tree) Bound
from_parts = map-JFrom JFrom JSub JudgedQuery Part (Tree → Tree) Bound part subquery trees

abbrev from_counts : ℕ → ℕ → JFrom-F JFrom JSub JudgedQuery → JFrom-F ℕ ℕ ℕ
from_counts table query = map-JFrom JFrom JSub JudgedQuery ℕ ℕ ℕ (from_count table query) (sub_count table query) (query_count table query)

from_layer : (y : JFrom-F KnownFrom KnownSub KnownQuery)
    → PartCounts (bind.part_step (from_parts (known_from y))) (count.from_step 1 (from_counts 1 0 (known_from y))) (count.from_step 0 (from_counts 0 1 (known_from y)))
from_layer (JFrom-F.Table table alias cols) = scan_counts table alias cols
from_layer (JFrom-F.Derived query) = leaf_counts (trees query.0).whole (query_count 1 0 query.0) (query_count 0 1 query.0) (query.1).whole
from_layer (JFrom-F.Join word left right on) =
    joined_counts word (part left.0) (part right.0) on (from_count 1 0 left.0) (from_count 0 1 left.0) (from_count 1 0 right.0) (from_count 0 1 right.0) left.1 right.1

from_law : (x : JFrom-F JFrom JSub JudgedQuery) (y : JFrom-F KnownFrom KnownSub KnownQuery) → known_from y ≡ x → FromLaw (roll-JFrom x)
from_law x y is = subst (λ z. FromLaw (roll-JFrom z)) is
    (of_three PartCounts
    (fold-roll-JFrom Part (Tree → Tree) Bound bind.part_step bind.sub_step bind.query_step (known_from y))
    (fold-roll-JFrom ℕ ℕ ℕ (count.from_step 1) count.sub_step (count.query_step 0) (known_from y))
    (fold-roll-JFrom ℕ ℕ ℕ (count.from_step 0) count.sub_step (count.query_step 1) (known_from y))
    (from_layer y))

-- ---- subqueries

abbrev known_sub : JSub-F KnownFrom KnownSub KnownQuery → JSub-F JFrom JSub JudgedQuery
known_sub = map-JSub KnownFrom KnownSub KnownQuery JFrom JSub JudgedQuery (λ x. x.0) (λ x. x.0) (λ x. x.0)

sub_law : (x : JSub-F JFrom JSub JudgedQuery) (y : JSub-F KnownFrom KnownSub KnownQuery) → known_sub y ≡ x → SubLaw (roll-JSub x)
sub_law x y is = subst (λ z. SubLaw (roll-JSub z)) is
    (of_three JoinCounts
    (fold-roll-JSub Part (Tree → Tree) Bound bind.part_step bind.sub_step bind.query_step (known_sub y))
    (fold-roll-JSub ℕ ℕ ℕ (count.from_step 1) count.sub_step (count.query_step 0) (known_sub y))
    (fold-roll-JSub ℕ ℕ ℕ (count.from_step 0) count.sub_step (count.query_step 1) (known_sub y))
    (subquery_counts y.negated y.left (trees y.query.0) (query_count 1 0 y.query.0) (query_count 0 1 y.query.0) y.query.1))

-- ---- queries

abbrev known_query : JudgedQuery-F KnownFrom KnownSub KnownQuery → JudgedQuery-F JFrom JSub JudgedQuery
known_query = map-JudgedQuery KnownFrom KnownSub KnownQuery JFrom JSub JudgedQuery (λ x. x.0) (λ x. x.0) (λ x. x.0)

all_parts_count : (known : List KnownFrom) → AllParts (map part (map (λ (x : KnownFrom). x.0) known)) (map (from_count 1 0) (map (λ (x : KnownFrom). x.0) known)) (map (from_count 0 1) (map (λ (x : KnownFrom). x.0) known))
all_parts_count [] = no_parts
all_parts_count (x ∷ known) = part_more x.1 (all_parts_count known)

all_joins_count : (known : List KnownSub) → AllJoins (map subquery (map (λ (x : KnownSub). x.0) known)) (map (sub_count 1 0) (map (λ (x : KnownSub). x.0) known)) (map (sub_count 0 1) (map (λ (x : KnownSub). x.0) known))
all_joins_count [] = no_joins
all_joins_count (x ∷ known) = join_more x.1 (all_joins_count known)

no_more : (query : Bound) (a b : ℕ) → QueryCounts query a b → QueryCounts query (0 + a) b
no_more query a b counts = subst (λ n. QueryCounts query n b) (none a) counts
  where
    none : (n : ℕ) → n ≡ 0 + n
    none n = omega arith

query_law : (x : JudgedQuery-F JFrom JSub JudgedQuery) (y : JudgedQuery-F KnownFrom KnownSub KnownQuery) → known_query y ≡ x → QueryLaw (roll-JudgedQuery x)
query_law x y is = subst (λ z. QueryLaw (roll-JudgedQuery z)) is
    (of_three QueryCounts
    (fold-roll-JudgedQuery Part (Tree → Tree) Bound bind.part_step bind.sub_step bind.query_step (known_query y))
    (fold-roll-JudgedQuery ℕ ℕ ℕ (count.from_step 1) count.sub_step (count.query_step 0) (known_query y))
    (fold-roll-JudgedQuery ℕ ℕ ℕ (count.from_step 0) count.sub_step (count.query_step 1) (known_query y))
    (no_more _ _ _ (query_counts (all_parts_count y.from) (all_joins_count y.subs) y.plain y.outer y.group y.items y.distinct)))

-- the trees of a query by the table references and the queries of its form
pub trees_count : (q : JudgedQuery) → QueryLaw q
trees_count = ind-JudgedQuery FromLaw SubLaw QueryLaw from_law sub_law query_law

pub bound_counts : (q : JudgedQuery) → Counts 1 (nodes (bound q)) (references q) (queries q)
unfolding bound references queries
bound_counts q = (trees_count q).whole

-- What steps of the walk count: table references and queries, within the limits of a statement, which its numbers keep too.
use Rattle.std.proofs.Common.{◌≡◌, ℕ, suc, ◌+◌, ◌*◌, ◌≤◌, ◌==◌, Bool, true, false, List, [], ◌∷◌, ◌++◌, length, position, Option, Some, None, refl, sym, ap, ◌∙◌, if◌then◌else◌, arith, inl, inr, eq-eqb, true≢false, length-append}
use Rattle.std.specs.Bool.{⊤}
use Rattle.std.specs.List.{AllByRecursion}
use Rattle.std.proofs.Math.Nat.{mul-suc}
use Rattle.std.proofs.lemmas.Bool.{cases_lt}
use Rattle.pdw_expr.specs.declared.agg.Agg.{Agg}
use Rattle.pdw_walk.specs.Slot.{same_slot}
use Rattle.pdw_walk.specs.Walk.{Outcome, Step, Walk, ◌>>=◌, ◌<$>◌, add_aggregate, and_then, col_id, count_query, count_reference, done, each, forget_outer, gathering, is_among, made_number, meet_outer, met_outer, next_number, number_at, number_of, over, pure, refuse, refuse_if, refused, take_alias, with_numbers, with_queries, with_references, with_taken}
use Rattle.pdw_walk.specs.declared.entry.Slot.{Slot}
use Rattle.pdw_walk.specs.declared.entry.Slot.TheVariants.{Made}
use Rattle.pdw_walk.specs.declared.fault.JudgeFault.{JudgeFault}
use Rattle.pdw_walk.specs.declared.fault.JudgeFault.TheVariants.{DuplicateName, Limit}
use Rattle.pdw_walk.specs.declared.fault.LimitName.TheVariants as limit
use Rattle.pdw_walk.specs.declared.fault.TheConstants.{MOST_QUERIES, MOST_REFERENCES, MOST_USED}

-- a walk that began at most so many table references and queries, and gave at most so many numbers
pub record InLimits (w : Walk) : Type 0 where
  pub references : w.references ≤ MOST_REFERENCES
  pub queries : w.queries ≤ MOST_QUERIES
  pub used : length w.numbers ≤ MOST_USED

below-limit : (n limit : ℕ) → (n == limit) ≡ false → n ≤ limit → n + 1 ≤ limit
below-limit n limit other most = elim (cases_lt n limit) [
  | inl below ↦ omega (arith, below)
  | inr past ↦ absurd (true≢false (sym (eq-eqb n limit (omega (arith, past, most))) ∙ other))
]

in-turn : (a b c x y z : ℕ) → b + x ≡ a + y → c + y ≡ b + z → c + x ≡ a + z
in-turn a b c x y z first second = omega (arith, first, second)

one-more : (a n : ℕ) → a * (n + 1) ≡ a * n + a
one-more a n = ap (λ more. a * more) (after n) ∙ mul-suc a n
  where
    after : (n : ℕ) → n + 1 ≡ suc n
    after n = omega arith

-- where each table reference counts `table`, and each query `query`
module _ (table query : ℕ) where
  abbrev pub counted : Walk → ℕ
  counted w = table * w.references + query * w.queries

  -- between two moments the walk counts what `after` has more than `before`, and it keeps the limits
  pub record Tally (before after : ℕ) (w w' : Walk) : Type 0 where
    pub sums : counted w' + before ≡ counted w + after
    pub limits : InLimits w → InLimits w'

  abbrev pub TallyOf : {A : Type 0} → ℕ → (A → ℕ) → Walk → Outcome A → Type 0
  TallyOf before count w (done a w') = Tally before (count a) w w'
  TallyOf before count w (refused fault) = ⊤

  -- wherever the step begins, it counts what is counted of its value beyond what was counted before
  pub record Tallies {A : Type 0} (before : ℕ) (count : A → ℕ) (step : Step A) : Type 0 where
    pub at : (w : Walk) → TallyOf before count w (step w)

  -- it begins no table reference and no query
  abbrev pub Keeps : {A : Type 0} → Step A → Type 0
  Keeps step = (n : ℕ) → Tallies n (λ _. n) step

module _ {table query : ℕ} where
  -- ---- steps that are made of steps

  tally-within : (n : ℕ) (w w' : Walk) → w'.references ≡ w.references → w'.queries ≡ w.queries → (length w.numbers ≤ MOST_USED → length w'.numbers ≤ MOST_USED) → Tally table query n n w w'
  tally-within n w w' references queries used = record {
    sums = λ i. (table * references i + query * queries i) + n;
    limits = λ within. record {
      references = let few = within.references in omega (arith, few, references);
      queries = let few = within.queries in omega (arith, few, queries);
      used = used within.used;
    };
  }

  tally-same : (n : ℕ) (w w' : Walk) → w'.references ≡ w.references → w'.queries ≡ w.queries → w'.numbers ≡ w.numbers → Tally table query n n w w'
  tally-same n w w' references queries numbers = tally-within n w w' references queries (λ few. let same = ap length numbers in omega (arith, few, same))

  tally-on : {B : Type 0} (before middle : ℕ) (count : B → ℕ) (w v : Walk) → Tally table query before middle w v → (o : Outcome B) → TallyOf table query middle count v o → TallyOf table query before count w o
  tally-on before middle count w v here (done b w') after = record {
    sums = in-turn (counted table query w) (counted table query v) (counted table query w') before middle (count b) here.sums after.sums;
    limits = λ within. after.limits (here.limits within);
  }
  tally-on before middle count w v here (refused fault) after = tt

  then-by : {A B : Type 0} (before : ℕ) (middle : A → ℕ) (count : B → ℕ) (w : Walk) (first : Outcome A) (next : A → Step B) → TallyOf table query before middle w first → ((a : A) → Tallies table query (middle a) count (next a)) → TallyOf table query before count w (and_then first next)
  then-by before middle count w (done a v) next here after = tally-on before (middle a) count w v here (next a v) ((after a).at v)
  then-by before middle count w (refused fault) next here after = tt

  pub tallies_then : {A B : Type 0} {before : ℕ} {middle : A → ℕ} {count : B → ℕ} {first : Step A} {next : A → Step B} → Tallies table query before middle first → ((a : A) → Tallies table query (middle a) count (next a)) → Tallies table query before count (first >>= next)
  tallies_then {before = before} {middle = middle} {count = count} {first = first} {next = next} here after = record { at = λ w. then-by before middle count w (first w) next (here.at w) after }

  pub tallies_pure : {A : Type 0} {before : ℕ} {count : A → ℕ} (a : A) → count a ≡ before → Tallies table query before count (pure a)
  tallies_pure {before = before} {count = count} a same = record { at = λ w. record { sums = ap (λ n. counted table query w + n) (sym same); limits = λ within. within } }

  pub tallies_refuse : {A : Type 0} {before : ℕ} {count : A → ℕ} (fault : JudgeFault) → Tallies table query {A = A} before count (refuse fault)
  tallies_refuse fault = record { at = λ w. tt }

  pub tallies_map : {A B : Type 0} {before : ℕ} {middle : A → ℕ} {count : B → ℕ} (f : A → B) {step : Step A} → ((a : A) → count (f a) ≡ middle a) → Tallies table query before middle step → Tallies table query before count (f <$> step)
  tallies_map f same here = tallies_then here (λ a. tallies_pure (f a) (same a))

  -- one step for each item, of which this is known
  pub tallies_over : {A B : Type 0} {count : B → ℕ} (P : A → Type 0) (step : B → A → Step B) → ((b : B) (x : A) → P x → Tallies table query (count b) count (step b x)) → (b : B) (xs : List A) → AllByRecursion P xs → Tallies table query (count b) count (over step b xs)
  tallies_over P step here b [] all = tallies_pure b refl
  tallies_over P step here b (x ∷ xs) all = tallies_then (here b x all.0) (λ more. tallies_over P step here more xs all.1)

  -- ---- steps that count nothing

  pub keeps_then : {A B : Type 0} {first : Step A} {next : A → Step B} → Keeps table query first → ((a : A) → Keeps table query (next a)) → Keeps table query (first >>= next)
  keeps_then here after n = tallies_then (here n) (λ a. after a n)

  pub keeps_pure : {A : Type 0} (a : A) → Keeps table query (pure a)
  keeps_pure a n = tallies_pure a refl

  pub keeps_refuse : {A : Type 0} (fault : JudgeFault) → Keeps table query {A = A} (refuse fault)
  keeps_refuse fault n = tallies_refuse fault

  pub keeps_if : (test : Bool) (fault : JudgeFault) → Keeps table query (refuse_if test fault)
  keeps_if true fault = keeps_refuse fault
  keeps_if false fault = keeps_pure tt

  pub keeps_map : {A B : Type 0} (f : A → B) {step : Step A} → Keeps table query step → Keeps table query (f <$> step)
  keeps_map f here = keeps_then here (λ a. keeps_pure (f a))

  pub keeps_over : {A B : Type 0} (P : A → Type 0) (step : B → A → Step B) → ((b : B) (x : A) → P x → Keeps table query (step b x)) → (b : B) (xs : List A) → AllByRecursion P xs → Keeps table query (over step b xs)
  keeps_over P step here b xs all n = tallies_over P step (λ b x known. here b x known n) b xs all

  pub keeps_each : {A B : Type 0} (P : A → Type 0) (step : A → Step B) → ((x : A) → P x → Keeps table query (step x)) → (xs : List A) → AllByRecursion P xs → Keeps table query (each step xs)
  keeps_each P step here xs all = keeps_over P (gathering step) (λ found x known. keeps_map (λ b. found ++ b ∷ []) (here x known)) [] xs all

  -- ---- what is counted

  either : {A : Type 0} (before : ℕ) (count : A → ℕ) (test : Bool) (fault : JudgeFault) (a : A) (w w' : Walk) → (test ≡ false → Tally table query before (count a) w w') → TallyOf table query before count w (if test then refused fault else done a w')
  either before count true fault a w w' here = tt
  either before count false fault a w w' here = here refl

  pub tallies_count_query : (n : ℕ) → Tallies table query n (λ _. n + query) count_query
  unfolding count_query
  tallies_count_query n = record {
    at = λ w. either n (λ _. n + query) (w.queries == MOST_QUERIES) (Limit limit.Queries MOST_QUERIES) tt w (with_queries (w.queries + 1) w) (λ room. record {
      sums = let more = one-more query w.queries in omega (arith, more);
      limits = λ within. record { references = within.references; queries = below-limit w.queries MOST_QUERIES room within.queries; used = within.used };
    });
  }

  pub tallies_count_reference : (n : ℕ) → Tallies table query n (λ _. n + table) count_reference
  unfolding count_reference
  tallies_count_reference n = record {
    at = λ w. either n (λ _. n + table) (w.references == MOST_REFERENCES) (Limit limit.References MOST_REFERENCES) w.references w (with_references (w.references + 1) w) (λ room. record {
      sums = let more = one-more table w.references in omega (arith, more);
      limits = λ within. record { references = below-limit w.references MOST_REFERENCES room within.references; queries = within.queries; used = within.used };
    });
  }

  -- ---- numbers, aliases and aggregates

  keeps_next : (slot : Slot) → Keeps table query (next_number slot)
  keeps_next slot n = record {
    at = λ w. either n (λ _. n) (length w.numbers == MOST_USED) (Limit limit.Used MOST_USED) (col_id (length w.numbers)) w (with_numbers (w.numbers ++ slot ∷ []) w) (λ room.
        tally-within n w (with_numbers (w.numbers ++ slot ∷ []) w) refl refl (λ few.
        let more = length-append w.numbers (slot ∷ []) in
        let most = below-limit (length w.numbers) MOST_USED room few in
        omega (arith, more, most)));
  }

  keeps_number_at : (slot : Slot) (place : Option ℕ) → Keeps table query (number_at slot place)
  keeps_number_at slot (Some place) = keeps_pure (col_id place)
  keeps_number_at slot None = keeps_next slot

  pub keeps_number : (slot : Slot) → Keeps table query (number_of slot)
  unfolding number_of
  keeps_number slot n = record { at = λ w. (keeps_number_at slot (position (same_slot slot) w.numbers) n).at w }

  pub keeps_made_number : Keeps table query made_number
  unfolding made_number
  keeps_made_number n = record { at = λ w. (keeps_map (λ number. record { number = number; slot = Made (length w.numbers) }) (keeps_next (Made (length w.numbers))) n).at w }

  pub keeps_alias : (alias : List ℕ) → Keeps table query (take_alias alias)
  unfolding take_alias
  keeps_alias alias n = record {
    at = λ w. either n (λ _. n) (is_among alias w.taken) (DuplicateName alias) tt w (with_taken (w.taken ++ alias ∷ []) w) (λ room. tally-same n w (with_taken (w.taken ++ alias ∷ []) w) refl refl refl);
  }

  pub keeps_aggregate : (agg : Agg) → Keeps table query (add_aggregate agg)
  unfolding add_aggregate
  keeps_aggregate agg n = record { at = λ w. tally-same n w _ refl refl refl }

  pub keeps_meet : Keeps table query meet_outer
  unfolding meet_outer
  keeps_meet n = record { at = λ w. tally-same n w _ refl refl refl }

  pub keeps_forget : Keeps table query forget_outer
  unfolding forget_outer
  keeps_forget n = record { at = λ w. tally-same n w _ refl refl refl }

  pub keeps_met : Keeps table query met_outer
  keeps_met n = record { at = λ w. tally-same n w w refl refl refl }

pub nothing_known : {A : Type 0} (xs : List A) → AllByRecursion (λ x. ⊤) xs
nothing_known [] = tt
nothing_known (x ∷ xs) = (tt, nothing_known xs)

-- The conjuncts of a condition that has no subquery conjuncts: those of ON and of HAVING.
use Rattle.std.proofs.Common.{◌≡◌, Bool, true, false, ◌&&◌, List, [], ◌∷◌, map, fold, Option, Some, None, refl, sym, ap, ◌∙◌}
use Rattle.std.specs.List.{list_all}
use Rattle.pdw_base.specs.Schema.{Env}
use Rattle.pdw_base.specs.declared.truth.Truth.{Truth}
use Rattle.pdw_base.specs.declared.truth.Truth.TheVariants.{True, False, Unknown}
use Rattle.pdw_catalog.specs.Database.{Database}
use Rattle.pdw_expr.specs.Cond.{truth_of}
use Rattle.pdw_expr.specs.Logic.{all_of, conjunction, is_truth}
use Rattle.pdw_expr.specs.Rows.{meets}
use Rattle.pdw_expr.specs.declared.agg.Agg.{Agg}
use Rattle.pdw_expr.specs.declared.cond.Cond.{Cond}
use Rattle.pdw_names.proofs.ReadLaws.{Reads, StepReads, all_meanings, each_reads, read_all, test_reads}
use Rattle.pdw_form.proofs.Related.{Related, none, more}
use Rattle.pdw_names.proofs.Relations.{BeginsWith, CondIf, ConjunctMeans, Fits, Grows, Numbering, Proper, SettledAt, Stands}
use Rattle.pdw_semantics.specs.Conds.{passes}
use Rattle.pdw_semantics.specs.Environment.{Group}
use Rattle.pdw_walk.specs.Conds.{Condition, Conjunct, tested}
use Rattle.pdw_walk.specs.Lookup.{Place}
use Rattle.pdw_walk.specs.Walk.{Walk, done, each}

-- ---- AND is True where all are

both_true : (a b : Truth) → is_truth (conjunction a b) True ≡ (is_truth a True && is_truth b True)
both_true True b = refl
both_true False b = refl
both_true Unknown True = refl
both_true Unknown False = refl
both_true Unknown Unknown = refl

pub and_assoc : (a b c : Bool) → ((a && b) && c) ≡ (a && (b && c))
and_assoc true b c = refl
and_assoc false b c = refl

from_start : (start : Truth) (truths : List Truth) → is_truth (fold conjunction start truths) True ≡ (is_truth start True && list_all (λ t. is_truth t True) truths)
from_start True [] = refl
from_start False [] = refl
from_start Unknown [] = refl
from_start start (t ∷ truths) =
    from_start (conjunction start t) truths
    ∙ (ap (λ b. b && list_all (λ t. is_truth t True) truths) (both_true start t) ∙ and_assoc (is_truth start True) (is_truth t True) (list_all (λ t. is_truth t True) truths))

pub all_true_each : (truths : List Truth) → is_truth (all_of truths) True ≡ list_all (λ t. is_truth t True) truths
all_true_each truths = from_start True truths

pub list_all_map : {X Y : Type 0} (p : Y → Bool) (f : X → Y) (xs : List X) → list_all p (map f xs) ≡ list_all (λ x. p (f x)) xs
list_all_map p f [] = refl
list_all_map p f (x ∷ xs) = ap (λ b. p (f x) && b) (list_all_map p f xs)

-- ---- the conjuncts

pub record TestedGives (place : Place) (truth : Option (Group → Truth)) (w : Walk) (conds : List Cond) (w' : Walk) : Type 0 where
  pub grows : Grows w w'
  pub met : w.outer ≡ true → w'.outer ≡ true
  pub plain : place.keys ≡ None → w'.aggs ≡ w.aggs
  pub holds : (N : Numbering) → Fits N w'.numbers → (aggs : List Agg) → BeginsWith w'.aggs aggs → (group : Group) (m : Env) → Stands N place w'.outer group m aggs → passes truth group ≡ meets conds m

module _ (database : Database) where
  conjuncts_read : (place : Place) {conjuncts : List Conjunct} {truths : List (Group → Truth)} → Related (ConjunctMeans database) conjuncts truths → Related (StepReads truth_of place (λ c. c.test place)) conjuncts truths
  conjuncts_read place none = none
  conjuncts_read place (more {x = c} {y = truth} first rest) = more (λ w a w' proper settled walked. test_reads ((first.test).gives place w a w' proper settled walked)) (conjuncts_read place rest)

  tested_by : (place : Place) (conjuncts : List Conjunct) (truths : List (Group → Truth)) (truth : Option (Group → Truth)) → Related (ConjunctMeans database) conjuncts truths
      → ((group : Group) → passes truth group ≡ list_all (λ t. is_truth (t group) True) truths)
      → (w : Walk) (conds : List Cond) (w' : Walk) → Proper w.numbers → SettledAt w.numbers place → each (λ c. c.test place) conjuncts w ≡ done conds w' → TestedGives place truth w conds w'
  tested_by place conjuncts truths truth related splits w conds w' proper settled walked =
      let reads : Reads (read_all truth_of) place (all_meanings truths) w conds w' = each_reads truth_of place (λ c. c.test place) (conjuncts_read place related) w conds w' proper settled walked in
      record {
        grows = reads.grows;
        met = reads.met;
        plain = reads.plain;
        holds = λ N fits aggs begins group m stands.
            splits group ∙ (sym (list_all_map (λ t. is_truth t True) (λ t. t group) truths)
            ∙ (sym (all_true_each (map (λ t. t group) truths)) ∙ ap (λ ts. is_truth (all_of ts) True) (reads.means N fits aggs begins group m stands)));
      }

  pub tested_gives : (place : Place) (c : Option Condition) (truth : Option (Group → Truth)) → CondIf database c truth
      → (w : Walk) (conds : List Cond) (w' : Walk) → Proper w.numbers → SettledAt w.numbers place → tested place c w ≡ done conds w' → TestedGives place truth w conds w'
  unfolding tested
  tested_gives place None None means w conds w' proper settled walked = tested_by place [] [] None none (λ group. refl) w conds w' proper settled walked
  tested_gives place (Some c) (Some truth) means w conds w' proper settled walked = tested_by place c.conjuncts means.truths (Some truth) means.conjuncts means.splits w conds w' proper settled walked
  tested_gives place None (Some truth) means w conds w' proper settled walked = elim means [ ]
  tested_gives place (Some c) None means w conds w' proper settled walked = elim means [ ]

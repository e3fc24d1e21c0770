-- The plan file that EXPLAIN JSON prints is read from its bytes as the same file, so CHECK PLAN accepts it.
use Rattle.std.proofs.Common.{◌≡◌, ◌∙◌, ◌≤◌, ℕ, true, List, [], None, Option, refl, sym, subst}
use Rattle.serde_json.specs.Written.{compact_text}
use Rattle.pdw_algebra.specs.declared.tree.Tree.{Tree}
use Rattle.pdw_answer.specs.declared.answer.PlanVerdict.{PlanVerdict}
use Rattle.pdw_answer.specs.declared.answer.PlanVerdict.TheVariants as verdict
use Rattle.pdw_answering.proofs.Accepted.{prints-accepted}
use Rattle.pdw_answering.proofs.SameBooks.{CostLaw, costs-told}
use Rattle.pdw_answering.specs.Basis.{Basis, Reckoned, costs_on, memo_on}
use Rattle.pdw_answering.specs.Checks.{ChecksBy}
use Rattle.pdw_answering.specs.Prints.{PrintsBy, file_on}
use Rattle.pdw_bind.specs.Bind.{bound}
use Rattle.pdw_catalog.specs.Database.{Database}
use Rattle.pdw_enum.specs.Least.{IsLeastPlan}
use Rattle.pdw_form.specs.Sound.{HaveColumns}
use Rattle.pdw_form.specs.declared.judged.JudgedSelect.{JudgedSelect}
use Rattle.pdw_groups.specs.declared.group.Group.{Group}
use Rattle.pdw_memo.specs.Memo.{IsMemo}
use Rattle.pdw_move.specs.Cost.{AreInRange}
use Rattle.pdw_move.specs.declared.cost.Constants.{Constants}
use Rattle.pdw_plan.specs.Cost.{costs_in}
use Rattle.pdw_plan_files.specs.Verdict.{HasVerdict}
use Rattle.pdw_plan_files.specs.Written.{IsPlanFile, ReadsBack, file_of}
use Rattle.pdw_planjson.specs.Limits.{IsFile, has_numbers}
use Rattle.pdw_planjson.specs.Written.{file_data}
use Rattle.pdw_planner.specs.Planned.{IsPlanned, memo_within}
use Rattle.pdw_planner.specs.declared.planned.Planned.{Planned}
use Rattle.pdw_stats.specs.Book.{AreInRange as HasRanges, Book, stats_of}
use Rattle.pdw_syntax.specs.Written.{query_written}
use Rattle.pdw_syntax.specs.declared.query.Select.{Select}
use Rattle.pdw_syntax.specs.declared.statement.Statement.{Statement}
use Rattle.pdw_walk.specs.Forms.{Judges}
use Rattle.pdw_ways.specs.Bounds.{cost_of_plan}
use Rattle.pdw_ways.specs.Shape.{query_fault, shape_of}
use Rattle.pdw_ways.specs.Ways.{Costs}
use Rattle.pdw_ways.specs.declared.plan.Plan.{Plan}

-- ---- the laws of plan files, as functions ensure them

-- what is planned for a statement that is accepted keeps the limits of plan files
abbrev pub LimitsLaw : Type 0
LimitsLaw =
    (database : Database) (x : Statement) (s : Select) (j : JudgedSelect) → HaveColumns database.tables → query_written s.query ≡ true → Judges database.tables x s j
    → (book : Book) → HasRanges book → (n budget : ℕ) → 1 ≤ n → n ≤ 16 → (constants : Constants) → AreInRange constants
    → (planned : Planned) → IsPlanned database.tables book n budget constants (bound j.query) planned → (is : IsMemo planned.memo) → IsFile (file_of planned is book n constants)

-- each plan for its query has numbers as plan files write them
abbrev pub NumbersLaw : Type 0
NumbersLaw =
    (database : Database) (x : Statement) (s : Select) (j : JudgedSelect) → HaveColumns database.tables → query_written s.query ≡ true → Judges database.tables x s j
    → (budget : ℕ) (costs : Costs) (plan : Plan)
    → query_fault (memo_within budget database.tables (bound j.query)).groups (shape_of (memo_within budget database.tables (bound j.query)).groups costs plan) ≡ None → has_numbers plan ≡ true

-- the plan file of what is planned reads back, where it keeps the limits and has such numbers
abbrev pub ReadsLaw : Type 0
ReadsLaw =
    (planned : Planned) (book : Book) (n : ℕ) (constants : Constants) → IsMemo planned.memo → ((is : IsMemo planned.memo) → IsFile (file_of planned is book n constants)) → has_numbers planned.plan ≡ true
    → (bytes : List ℕ) → IsPlanFile planned book n constants bytes → ReadsBack planned book n constants bytes

-- there is a verdict on the bytes of each file
abbrev pub VerdictLaw : Type 0
VerdictLaw = (groups : List Group) (costs : Costs) (content : List ℕ) → HasVerdict groups costs content

-- ---- by any book that tells the statistics

-- the bytes are the text of the file of a plan and of bounds, by what moves cost
abbrev HasText : List Group → Plan → List (List (Option ℕ)) → List ℕ → Costs → Type 0
HasText groups plan lists bytes costs = bytes ≡ compact_text (file_data (record { plan = plan; bounds = record { lists = lists }; cost = cost_of_plan groups costs plan }))

-- the file is that of a plan, by a book with all numbers in their ranges
pub record PrintsInRange (basis : Basis) (tree : Tree) (plan : Plan) (bytes : List ℕ) : Type 0 where
  pub printed : PrintsBy basis tree plan bytes
  pub ranges : HasRanges printed.reckoned.book

module _ (basis : Basis) (tree : Tree) (plan : Plan) (bytes : List ℕ) (printed : PrintsBy basis tree plan bytes) where
  abbrev by-book : (book : Book) → ((name : List ℕ) → stats_of name book ≡ basis.stats name) → Reckoned basis tree
  by-book book told = record { book = book; told = told; is = printed.reckoned.is; over = printed.reckoned.over; means = printed.reckoned.means }

  costs-by : (book : Book) (told : (name : List ℕ) → stats_of name book ≡ basis.stats name) → costs_on basis tree printed.reckoned ≡ costs_on basis tree (by-book book told)
  costs-by book told = costs-told printed.reckoned.book book (λ name. printed.reckoned.told name ∙ sym (told name)) (memo_on basis tree) printed.reckoned.is basis.nodes basis.constants

  pub prints-in-range : (book : Book) → ((name : List ℕ) → stats_of name book ≡ basis.stats name) → HasRanges book → PrintsInRange basis tree plan bytes
  prints-in-range book told ranges =
      let groups = (memo_on basis tree).groups in
      record {
        printed = record {
          reckoned = by-book book told;
          query = printed.query;
          lists = printed.lists;
          least = subst (λ (costs : Costs). IsLeastPlan groups costs plan printed.lists) (costs-by book told) printed.least;
          short = printed.short;
          text = subst (HasText groups plan printed.lists bytes) (costs-by book told) printed.text;
        };
        ranges = ranges;
      }

-- ---- what is printed is what is planned

module _ (basis : Basis) (tree : Tree) (plan : Plan) (bytes : List ℕ) (printed : PrintsBy basis tree plan bytes) where
  abbrev pub planned-of : Planned
  planned-of = record { memo = memo_on basis tree; plan = plan; bounds = record { lists = printed.lists } }

  abbrev book : Book
  book = printed.reckoned.book

  module _ (whatever : CostLaw) where
    costs-of : (is : IsMemo planned-of.memo) → costs_on basis tree printed.reckoned ≡ costs_in planned-of.memo is book basis.nodes basis.constants
    costs-of is = whatever planned-of.memo printed.reckoned.is is book basis.nodes basis.constants

    pub planned-is : IsPlanned basis.tables book basis.nodes basis.budget basis.constants tree planned-of
    planned-is = record {
      memo = refl;
      query = printed.query;
      least = λ is. subst (λ (costs : Costs). IsLeastPlan planned-of.memo.groups costs plan printed.lists) (costs-of is) printed.least;
      short = printed.short;
    }

    pub file-is : IsPlanFile planned-of book basis.nodes basis.constants bytes
    file-is = λ is. subst (HasText planned-of.memo.groups plan printed.lists bytes) (costs-of is) printed.text

-- ---- CHECK PLAN answers, and accepts it

-- something is found of each content for a query whose groups can be reckoned
pub some-check : VerdictLaw → (basis : Basis) (tree : Tree) → Reckoned basis tree → (content : List ℕ) → (found : PlanVerdict) × ChecksBy basis tree content found
some-check verdicts basis tree reckoned content =
    let has = verdicts (memo_on basis tree).groups (costs_on basis tree reckoned) content in
    (has.found, record { reckoned = reckoned; found = has.is })

-- a statement of a SELECT is accepted over the tables of a basis, where queries can be planned
pub record CanPlan (basis : Basis) (x : Statement) (s : Select) (form : JudgedSelect) : Type 0 where
  pub columns : HaveColumns basis.tables
  pub written : query_written s.query ≡ true
  pub judges : Judges basis.tables x s form
  pub some : 1 ≤ basis.nodes
  pub few : basis.nodes ≤ 16
  pub constants : AreInRange basis.constants

-- the plan file of a plan for its query, which no other such plan undercuts, is accepted with its cost
module _ (limits : LimitsLaw) (numbers : NumbersLaw) (reads : ReadsLaw) (whatever : CostLaw) (basis : Basis) (x : Statement) (s : Select) (form : JudgedSelect) (can : CanPlan basis x s form)
    (plan : Plan) (bytes : List ℕ) (prints : PrintsInRange basis (bound form.query) plan bytes) where
  abbrev tree : Tree
  tree = bound form.query

  abbrev database : Database
  database = record { tables = basis.tables; rows = λ name. [] }

  abbrev planned : Planned
  planned = planned-of basis tree plan bytes prints.printed

  abbrev reckoned : Reckoned basis tree
  reckoned = prints.printed.reckoned

  within : (is : IsMemo planned.memo) → IsFile (file_of planned is reckoned.book basis.nodes basis.constants)
  within is =
      limits database x s form can.columns can.written can.judges reckoned.book prints.ranges basis.nodes basis.budget can.some can.few basis.constants can.constants
      planned (planned-is basis tree plan bytes prints.printed whatever) is

  small : has_numbers plan ≡ true
  small = numbers database x s form can.columns can.written can.judges basis.budget (costs_on basis tree reckoned) plan (prints.printed.query (costs_on basis tree reckoned))

  back : ReadsBack planned reckoned.book basis.nodes basis.constants bytes
  back = reads planned reckoned.book basis.nodes basis.constants reckoned.is within small bytes (file-is basis tree plan bytes prints.printed whatever)

  pub file-accepted : (found : PlanVerdict) → ChecksBy basis tree bytes found → found ≡ verdict.Accepted (file_on basis tree reckoned plan prints.printed.lists).cost
  file-accepted found checks =
      prints-accepted basis tree plan bytes prints.printed back.utf8 (back.reads reckoned.is) (back.describes reckoned.is (within reckoned.is)) whatever found checks

-- What is read of a row after several steps: expressions and tests one after another.
use Rattle.std.proofs.Common.{◌≡◌, Bool, true, List, [], ◌∷◌, ◌++◌, map, None, refl, sym, ap, subst, subst₂, ◌∙◌, append_assoc, append-nil}
use Rattle.pdw_base.specs.Schema.{Env}
use Rattle.pdw_base.specs.declared.truth.Truth.{Truth}
use Rattle.pdw_base.specs.declared.value.Value.{Value}
use Rattle.pdw_expr.specs.Cond.{truth_of}
use Rattle.pdw_expr.specs.Scalar.{value_of}
use Rattle.pdw_expr.specs.declared.agg.Agg.{Agg}
use Rattle.pdw_expr.specs.declared.cond.Cond.{Cond}
use Rattle.pdw_walk.proofs.Outcomes.{in_turn, done_value, done_walk}
use Rattle.pdw_form.proofs.Related.{Related, none, more}
use Rattle.pdw_names.proofs.Relations.{BeginsWith, ExprGives, Fits, Grows, Numbering, Proper, SettledAt, Stands, TestGives}
use Rattle.pdw_names.proofs.WalkLaws.{begins-grows, fits-grows, grows-refl, grows-trans, refuse_if-then, settled_at-grows}
use Rattle.pdw_semantics.specs.Environment.{Group}
use Rattle.pdw_walk.specs.Lookup.{Place}
use Rattle.pdw_walk.specs.Walk.{Step, Walk, ◌>>=◌, ◌>>◌, done, each, gathering, over, pure, refuse_if}
use Rattle.pdw_walk.specs.declared.entry.Typed.{Typed}
use Rattle.pdw_walk.specs.declared.fault.JudgeFault.{JudgeFault}

-- what was walked reads a value of the numbered row, which is the meaning
pub record Reads {A V : Type 0} (read : A → Env → V) (place : Place) (meaning : Group → V) (w : Walk) (a : A) (w' : Walk) : Type 0 where
  pub grows : Grows w w'
  pub met : w.outer ≡ true → w'.outer ≡ true
  pub plain : place.keys ≡ None → w'.aggs ≡ w.aggs
  pub means : (N : Numbering) → Fits N w'.numbers → (aggs : List Agg) → BeginsWith w'.aggs aggs → (group : Group) (m : Env) → Stands N place w'.outer group m aggs → meaning group ≡ read a m

abbrev pub read_typed : Typed → Env → Value
read_typed x m = value_of x.scalar m

pub expr_reads : {place : Place} {meaning : Group → Value} {w : Walk} {x : Typed} {w' : Walk} → ExprGives place meaning w x w' → Reads read_typed place meaning w x w'
expr_reads gives = record { grows = gives.grows; met = gives.met; plain = gives.plain; means = gives.means }

pub test_reads : {place : Place} {meaning : Group → Truth} {w : Walk} {c : Cond} {w' : Walk} → TestGives place meaning w c w' → Reads truth_of place meaning w c w'
test_reads gives = record { grows = gives.grows; met = gives.met; plain = gives.plain; means = gives.means }

pub reads_test : {place : Place} {meaning : Group → Truth} {w : Walk} {c : Cond} {w' : Walk} → Reads truth_of place meaning w c w' → TestGives place meaning w c w'
reads_test reads = record { grows = reads.grows; met = reads.met; plain = reads.plain; means = reads.means }

stands_before : {N : Numbering} {place : Place} {group : Group} {m : Env} {aggs : List Agg} (before after : Bool) → (before ≡ true → after ≡ true) → Stands N place after group m aggs → Stands N place before group m aggs
stands_before before after still stands = record { own = stands.own; near = λ reaches met. stands.near reaches (still met); grouped = stands.grouped }

module _ {place : Place} where
  -- nothing was walked
  pub reads_pure : {A V : Type 0} {read : A → Env → V} {meaning : Group → V} {a : A} (w : Walk) → ((group : Group) (m : Env) → meaning group ≡ read a m) → Reads read place meaning w a w
  reads_pure w same = record { grows = grows-refl w; met = λ e. e; plain = λ e. refl; means = λ N fits aggs begins group m stands. same group m }

  -- one after another
  pub reads_both : {A B V U : Type 0} {read : A → Env → V} {and : B → Env → U} {first : Group → V} {second : Group → U} {w w1 w2 : Walk} {a : A} {b : B}
      → Reads read place first w a w1 → Reads and place second w1 b w2
      → Reads {A = A × B} {V = V × U} (λ ab m. (read ab.0 m, and ab.1 m)) place (λ group. (first group, second group)) w (a, b) w2
  reads_both {w1 = w1} {w2 = w2} one two = record {
    grows = grows-trans one.grows two.grows;
    met = λ e. two.met (one.met e);
    plain = λ e. two.plain e ∙ one.plain e;
    means = λ N fits aggs begins group m stands. λ i. (
      one.means N (fits-grows N fits two.grows) aggs (begins-grows begins two.grows) group m (stands_before w1.outer w2.outer two.met stands) i,
      two.means N fits aggs begins group m stands i,
    );
  }

  -- what is made of it
  pub reads_made : {A B V U : Type 0} {read : A → Env → V} {also : B → Env → U} {meaning : Group → V} {w w' : Walk} {a : A} {b : B}
      (make : V → U) → ((m : Env) → make (read a m) ≡ also b m) → Reads read place meaning w a w' → Reads also place (λ group. make (meaning group)) w b w'
  reads_made make same reads = record {
    grows = reads.grows;
    met = reads.met;
    plain = reads.plain;
    means = λ N fits aggs begins group m stands. ap make (reads.means N fits aggs begins group m stands) ∙ same m;
  }

-- each walk of a step reads the meaning
abbrev pub Reading : {A V : Type 0} → (A → Env → V) → Place → Step A → (Group → V) → Type 0
Reading {A} read place step meaning = (w : Walk) (a : A) (w' : Walk) → Proper w.numbers → SettledAt w.numbers place → step w ≡ done a w' → Reads read place meaning w a w'

abbrev pub read_all : {A V : Type 0} → (A → Env → V) → List A → Env → List V
read_all read items m = map (λ a. read a m) items

abbrev pub all_meanings : {V : Type 0} → List (Group → V) → Group → List V
all_meanings meanings group = map (λ meaning. meaning group) meanings

module _ {X A V : Type 0} (read : A → Env → V) (place : Place) (step : X → Step A) where
  abbrev pub StepReads : X → (Group → V) → Type 0
  StepReads x meaning = Reading read place (step x) meaning

  record Gathers (found : List A) (meanings : List (Group → V)) (w : Walk) (items : List A) (w' : Walk) : Type 0 where
    new : List A
    all : found ++ new ≡ items
    reads : Reads (read_all read) place (all_meanings meanings) w new w'

  gathers_more : (found : List A) (meaning : Group → V) (meanings : List (Group → V)) (w w1 w' : Walk) (a : A) (items : List A)
      → Reads read place meaning w a w1 → Gathers (found ++ a ∷ []) meanings w1 items w' → Gathers found (meaning ∷ meanings) w items w'
  gathers_more found meaning meanings w w1 w' a items here others = record {
    new = a ∷ others.new;
    all = sym (append_assoc found (a ∷ []) others.new) ∙ others.all;
    reads = reads_made (λ both. both.0 ∷ both.1) (λ m. refl) (reads_both here others.reads);
  }

  gathers : {xs : List X} {meanings : List (Group → V)} → Related StepReads xs meanings → (found : List A) (w : Walk) (items : List A) (w' : Walk) → Proper w.numbers → SettledAt w.numbers place
      → over (gathering step) found xs w ≡ done items w' → Gathers found meanings w items w'
  gathers none found w items w' proper settled walked = record {
    new = [];
    all = append-nil found ∙ done_value walked;
    reads = subst (λ w'. Reads (read_all read) place (all_meanings []) w [] w') (done_walk walked) (reads_pure w (λ group m. refl));
  }
  gathers (more {x = x} {y = meaning} {xs = xs} {ys = meanings} first rest) found w items w' proper settled walked =
      let begun = in_turn (gathering step found x w) (λ gathered. over (gathering step) gathered xs) items w' walked in
      let one = in_turn (step x w) (λ b. pure (found ++ b ∷ [])) begun.value begun.middle begun.begun in
      let here = subst (λ w1. Reads read place meaning w one.value w1) (done_walk one.ended) (first w one.value one.middle proper settled one.begun) in
      let others = gathers rest begun.value begun.middle items w' ((here.grows).proper proper) (settled_at-grows here.grows place settled) begun.ended in
      gathers_more found meaning meanings w begun.middle w' one.value items here (subst (λ gathered. Gathers gathered meanings begun.middle items w') (sym (done_value one.ended)) others)

  pub each_reads : {xs : List X} {meanings : List (Group → V)} → Related StepReads xs meanings → (w : Walk) (items : List A) (w' : Walk) → Proper w.numbers → SettledAt w.numbers place
      → each step xs w ≡ done items w' → Reads (read_all read) place (all_meanings meanings) w items w'
  each_reads {meanings = meanings} related w items w' proper settled walked =
      let all = gathers related [] w items w' proper settled walked in
      subst (λ items. Reads (read_all read) place (all_meanings meanings) w items w') all.all all.reads

-- ---- steps that go on from what was read

module _ {A V : Type 0} (read : A → Env → V) (place : Place) (meaning : Group → V) where
  -- a step after what was read, which reads something of its own
  abbrev pub GoesOn : {B U : Type 0} → (A → Step B) → (B → Env → U) → (Group → U) → Type 0
  GoesOn {B} next also also_means =
      (w w1 : Walk) (a : A) → Proper w1.numbers → SettledAt w1.numbers place → Reads read place meaning w a w1 → (b : B) (w' : Walk) → next a w1 ≡ done b w' → Reads also place also_means w b w'

  module _ {B U : Type 0} {also : B → Env → U} {also_means : Group → U} where
    pub reading_then : (step : Step A) (next : A → Step B) → Reading read place step meaning → GoesOn next also also_means → Reading also place (step >>= next) also_means
    reading_then step next reading on w b w' proper settled walked =
        let parts = in_turn (step w) next b w' walked in
        let reads = reading w parts.value parts.middle proper settled parts.begun in
        on w parts.middle parts.value ((reads.grows).proper proper) (settled_at-grows reads.grows place settled) reads b w' parts.ended

    module _ {C W : Type 0} (other : C → Env → W) (other_means : Group → W) where
      pub goes_on_then : (step : Step C) (next : A → C → Step B) → Reading other place step other_means
          → ((w w1 : Walk) (both : A × C) → Proper w1.numbers → SettledAt w1.numbers place → Reads {A = A × C} {V = V × W} (λ both m. (read both.0 m, other both.1 m)) place (λ group. (meaning group, other_means group)) w both w1
          → (b : B) (w' : Walk) → next both.0 both.1 w1 ≡ done b w' → Reads also place also_means w b w')
          → GoesOn (λ a. step >>= next a) also also_means
      goes_on_then step next reading on w w1 a proper settled reads b w' walked =
          let parts = in_turn (step w1) (next a) b w' walked in
          let more = reading w1 parts.value parts.middle proper settled parts.begun in
          on w parts.middle (a, parts.value) ((more.grows).proper proper) (settled_at-grows more.grows place settled) (reads_both reads more) b w' parts.ended

  module _ {B U : Type 0} {also : B → Env → U} (make : V → U) (made : A → B) (same : (a : A) (m : Env) → make (read a m) ≡ also (made a) m) where
    pub ends_with : GoesOn (λ a. pure (made a)) also (λ group. make (meaning group))
    ends_with w w1 a proper settled reads b w' walked =
        subst₂ (λ b w'. Reads also place (λ group. make (meaning group)) w b w') (done_value walked) (done_walk walked) (reads_made make (same a) reads)

    pub ends_checked : (refuses : A → Bool) (fault : JudgeFault) → GoesOn (λ a. refuse_if (refuses a) fault >> pure (made a)) also (λ group. make (meaning group))
    ends_checked refuses fault w w1 a proper settled reads b w' walked =
        ends_with w w1 a proper settled reads b w' (refuse_if-then (refuses a) fault (pure (made a)) w1 b w' walked).1

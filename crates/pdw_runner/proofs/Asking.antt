-- What a picker is asked for one move after the other.
use Rattle.std.proofs.Common.{◌≡◌, ℕ, suc, List, [], ◌∷◌, ◌++◌, length, Option, Some, None, refl, sym, ap, ◌∙◌, append_assoc, append-nil}
use Rattle.pdw_answer.specs.declared.answer.StepCount.{StepCount}
use Rattle.pdw_dms.specs.Picker.{IsAsking, Tells}
use Rattle.pdw_dms.specs.declared.picker.PickCall.{PickCall}
use Rattle.pdw_dsql.specs.Follows.{Taken}
use Rattle.pdw_machine.specs.Machine.{Job, State, start_of, step}
use Rattle.pdw_machine.specs.declared.event.Event.{Event}
use Rattle.pdw_runner.specs.Asks.{AsksAll, AsksEach, AsksFor}
use Rattle.pdw_runner.specs.Brought.{Brings}
use Rattle.pdw_runner.specs.Counts.{AreCounted, IsCounted}
use Rattle.pdw_runner.specs.Starts.{job_of}
use Rattle.pdw_runner.specs.declared.steps.Arrived.{Arrived}

-- ---- calls that are told

pub tells-map : (before after : Option (List PickCall)) (P Q : List PickCall → Type 0) → ((calls : List PickCall) → P calls → Q calls) → Tells before after P → Tells before after Q
tells-map before None P Q make told = tt
tells-map None (Some now) P Q make told = absurd told
tells-map (Some was) (Some now) P Q make told = (told.0, told.1, make told.0 told.2)

pub tells-none : (told : Option (List PickCall)) (P : List PickCall → Type 0) → P [] → Tells told told P
tells-none None P own = tt
tells-none (Some calls) P own = ([], sym (append-nil calls), own)

pub tells-then : (before mid after : Option (List PickCall)) (P Q R : List PickCall → Type 0) → ((first later : List PickCall) → P first → Q later → R (first ++ later))
    → Tells before mid P → Tells mid after Q → Tells before after R
tells-then before mid None P Q R make first later = tt
tells-then before None (Some now) P Q R make first later = absurd later
tells-then None (Some mid) (Some now) P Q R make first later = absurd first
tells-then (Some was) (Some mid) (Some now) P Q R make first later =
    (first.0 ++ later.0, later.1 ∙ ap (λ calls. calls ++ later.0) first.1 ∙ append_assoc was first.0 later.0, make first.0 later.0 first.2 later.2)

-- ---- one move more

asking-length : (job : Job) (s : State) (events : List Event) (calls : List PickCall) → IsAsking job s events calls → length calls ≡ length events
asking-length job s [] [] asked = refl
asking-length job s [] (call ∷ calls) asked = absurd asked
asking-length job s (event ∷ events) [] asked = absurd asked
asking-length job s (event ∷ events) (call ∷ calls) asked = ap suc (asking-length job (step job event s) events calls asked.1)

module _ (n : ℕ) where
  -- what a step asks, and how often
  abbrev pub AsksOnce : Taken → StepCount → List PickCall → Type 0
  AsksOnce taken count calls = AsksFor n taken calls × (length calls ≡ count.events)

  pub brings-asked : (taken : Taken) (arrived : Arrived) (before after : Option (List PickCall)) → Brings n taken arrived before after → Tells before after (AsksOnce taken arrived.count)
  brings-asked taken arrived before after brings =
      tells-map before after (λ calls. IsAsking (job_of n taken) (start_of n brings.start) brings.events calls) (AsksOnce taken arrived.count)
      (λ calls asked. (
        record {
          start = brings.start;
          stands = brings.stands;
          events = brings.events;
          run = brings.run;
          finished = brings.finished;
          asked = asked;
        },
        asking-length (job_of n taken) (start_of n brings.start) brings.events calls asked ∙ sym brings.count,
      ))
      brings.asked

  pub each-more : (done : List Taken) (counts : List StepCount) (taken : Taken) (count : StepCount) (calls more : List PickCall) → AsksEach n done counts calls → AsksOnce taken count more
      → AsksEach n (done ++ taken ∷ []) (counts ++ count ∷ []) (calls ++ more)
  each-more [] [] taken count calls more asked asks = (more, [], ap (λ all. all ++ more) asked ∙ sym (append-nil more), asks.0, asks.1, refl)
  each-more [] (c ∷ counts) taken count calls more asked asks = absurd asked
  each-more (t ∷ done) [] taken count calls more asked asks = absurd asked
  each-more (t ∷ done) (c ∷ counts) taken count calls more asked asks =
      (asked.0, asked.1 ++ more, ap (λ all. all ++ more) asked.2 ∙ append_assoc asked.0 asked.1 more, asked.3, asked.4, each-more done counts taken count asked.1 more asked.5 asks)

  -- whatever the counts are, calls for each move
  pub all-asked : (taken : List Taken) (counts : List StepCount) (calls : List PickCall) → AsksEach n taken counts calls → AsksAll n taken calls
  all-asked [] [] calls asked = asked
  all-asked [] (c ∷ counts) calls asked = absurd asked
  all-asked (t ∷ taken) [] calls asked = absurd asked
  all-asked (t ∷ taken) (c ∷ counts) calls asked = (asked.0, asked.1, asked.2, asked.3, all-asked taken counts asked.1 asked.5)

  pub counted-more : (done : List Taken) (counts : List StepCount) (taken : Taken) (count : StepCount) → AreCounted n done counts → IsCounted n taken count → AreCounted n (done ++ taken ∷ []) (counts ++ count ∷ [])
  counted-more [] [] taken count all one = (one, tt)
  counted-more [] (c ∷ counts) taken count all one = absurd all
  counted-more (t ∷ done) [] taken count all one = absurd all
  counted-more (t ∷ done) (c ∷ counts) taken count all one = (all.0, counted-more done counts taken count all.1 one)

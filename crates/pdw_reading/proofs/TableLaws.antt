-- FROM is read by its rules.
use Rattle.std.proofs.Common.{◌≡◌, ℕ, Bool, true, false, ◌&&◌, List, [], ◌∷◌, Option, Some, None, refl, sym, ap, subst, append-nil, true≢false}
use Rattle.pdw_lex.specs.declared.keyword.Keyword.TheVariants.{KwAs, KwCross, KwInner, KwJoin, KwOn, KwOuter, KwLeft, KwRight, KwFull}
use Rattle.pdw_lex.specs.declared.sign.Sign.TheVariants.{ParenOpen}
use Rattle.pdw_lex.specs.declared.token.Lexeme.{Lexeme}
use Rattle.pdw_lex.specs.declared.token.Lexeme.TheVariants as lexeme
use Rattle.pdw_syntax.specs.Rule.{Rule, Empty, empty, One, Then, both, Either, first, second, Maybe, absent, present}
use Rattle.pdw_syntax.specs.Lexemes.{same_keyword, is_key, name_of, outer_of, name}
use Rattle.pdw_syntax.specs.Parentheses.{Parentheses}
use Rattle.pdw_syntax.specs.Tables as rule
use Rattle.pdw_syntax.specs.declared.query.JoinWord.{JoinWord}
use Rattle.pdw_syntax.specs.declared.query.JoinWord.TheVariants.{Cross, Inner, Left, Right, Full}
use Rattle.pdw_syntax.specs.declared.query.JoinPart.{JoinPart, roll-JoinPart}
use Rattle.pdw_syntax.specs.declared.query.Primary.{Primary}
use Rattle.pdw_syntax.specs.declared.query.Primary.TheVariants as p
use Rattle.pdw_reading.specs.declared.content.Source.{Source}
use Rattle.pdw_reading.specs.declared.content.Source.TheVariants as source
use Rattle.pdw_reading.specs.Reading.{Outcome, read, stopped, Reader, and_then, ◌>>=◌, ◌>>◌, ◌<$>◌, pure, next, take, take_if, eat}
use Rattle.pdw_reading.specs.ReadExprs.{Nested}
use Rattle.pdw_reading.specs.ReadConds.{cond}
use Rattle.pdw_reading.specs.ReadTables as reads
use Rattle.pdw_reading.proofs.Law.{Lawful, LawfulStep}
use Rattle.pdw_reading.proofs.Closure.{always, after, pure_law, one_law, narrower_law}
use Rattle.pdw_reading.proofs.ClosureMany.{maybe_law, many_law}
use Rattle.pdw_reading.proofs.ClosureNext.{take_if_law, same_law, equal_law}
use Rattle.pdw_reading.proofs.Rules.{maybe_then, maybe_then_back, then_assoc_back, either_map, maybe_map, either_then, either_then_back, made}
use Rattle.pdw_reading.proofs.Leads.{seen, unless, Narrower, Leads, branch, by_test, choose, leads_one, leads_maybe, leads_then, leads_either, leads_empty, leads_many, leads_enclosed, leads_always, leads_first, leads_made, made_then, made_then_back, narrower_same, narrower_trans, narrower_first, narrower_second, narrower_name, narrower_key, name_law, key_law, made_law, in_all, in_turn, eat_then}
use Rattle.pdw_reading.proofs.Steps.{if_next, step_law}
use Rattle.pdw_reading.proofs.Level.{LevelLaw, source_in}
use Rattle.pdw_reading.proofs.Stops.{ends_cond, ends_alias}
use Rattle.pdw_reading.proofs.CondLaws.{cond_law}
use Rattle.pdw_reading.proofs.ExprLaws.{listed_law, is_no_comma}

-- the first lexeme of a join
abbrev pub begins_join : Option Lexeme → Bool
begins_join (Some (lexeme.Key KwCross)) = true
begins_join (Some (lexeme.Key KwInner)) = true
begins_join (Some (lexeme.Key KwLeft)) = true
begins_join (Some (lexeme.Key KwRight)) = true
begins_join (Some (lexeme.Key KwFull)) = true
begins_join (Some (lexeme.Key KwJoin)) = true
begins_join o = false

-- a join
abbrev pub ends_join : Option Lexeme → Bool
ends_join o = ends_alias o && ends_cond o

-- a table reference
abbrev pub ends_table : Option Lexeme → Bool
ends_table = after ends_join begins_join

pub called_law : {n : ℕ} → Lawful n rule.called rule.called reads.called reads.called always
unfolding reads.called same_keyword
called_law {n} = same_law maybe_then maybe_then_back maybe_then_back
    (branch (is_key KwAs) refl refl (λ b. take name_of) (λ b. take name_of) name_law name_law (leads_one (narrower_name (λ m. refl))))

present_of : {A : Type 0} {R : List Lexeme → A → Type 0} (w : List Lexeme) (o : Option A) → Then R (λ a. Empty (Some a)) w o → Maybe R w o
present_of {A} {R} w o (both {a = a} u v spells empty) = subst (λ x. Maybe R x (Some a)) (sym (append-nil u)) (present spells)

as_called : (w : List Lexeme) (m : List ℕ) → Then (One (is_key KwAs)) (λ a. name) w m → rule.called w m
as_called w m (both u v written spells) = both u v (present written) spells

alias_into : (w : List Lexeme) (o : Option (List ℕ)) → Maybe rule.called w o → Either (Then (One (is_key KwAs)) (λ a. Then name (λ m. Empty (Some m)))) (Maybe name) w o
alias_into w o absent = second absent
alias_into w o (present (both u v absent spells)) = second (present spells)
alias_into w o (present (both u v (present written) spells)) = first (both u v written (made Some v _ spells))

alias_back : (w : List Lexeme) (o : Option (List ℕ)) → Either (Then (One (is_key KwAs)) (λ a. Then name (λ m. Empty (Some m)))) (Maybe name) w o → Maybe rule.called w o
alias_back w o (first spells) = maybe_map as_called w o (present_of w o (then_assoc_back w o spells))
alias_back w o (second absent) = absent
alias_back w o (second (present spells)) = present (both [] w absent spells)

name_after_as : (ts : List Lexeme) → reads.alias_by true (next ts) ts ≡ and_then (take name_of ts) (λ m ls. read (Some m) ls)
unfolding take
name_after_as [] = refl
name_after_as (lexeme.Name m ∷ ts) = refl
name_after_as (lexeme.Key m ∷ ts) = refl
name_after_as (lexeme.Sign m ∷ ts) = refl
name_after_as (lexeme.Number m ∷ ts) = refl
name_after_as (lexeme.Text m ∷ ts) = refl

name_alone : (ts : List Lexeme) → reads.alias_by false (next ts) ts ≡ take_if name_of ts
unfolding take_if
name_alone [] = refl
name_alone (lexeme.Name m ∷ ts) = refl
name_alone (lexeme.Key m ∷ ts) = refl
name_alone (lexeme.Sign m ∷ ts) = refl
name_alone (lexeme.Number m ∷ ts) = refl
name_alone (lexeme.Text m ∷ ts) = refl

ends_alias-name : (o : Option Lexeme) → ends_alias o ≡ true → after always (seen name_of) o ≡ true
ends_alias-name (Some (lexeme.Name m)) e = e
ends_alias-name (Some (lexeme.Key m)) e = refl
ends_alias-name (Some (lexeme.Sign m)) e = refl
ends_alias-name (Some (lexeme.Number m)) e = refl
ends_alias-name (Some (lexeme.Text m)) e = refl
ends_alias-name None e = refl

ends_alias-as : (o : Option Lexeme) → ends_alias o ≡ true → unless (seen (is_key KwAs)) o ≡ true
unfolding same_keyword
ends_alias-as (Some (lexeme.Key KwAs)) e = e
ends_alias-as (Some (lexeme.Key m)) e = refl
ends_alias-as (Some (lexeme.Name m)) e = refl
ends_alias-as (Some (lexeme.Sign m)) e = refl
ends_alias-as (Some (lexeme.Number m)) e = refl
ends_alias-as (Some (lexeme.Text m)) e = refl
ends_alias-as None e = refl

pub alias_law : {n : ℕ} → Lawful n (Maybe rule.called) (Maybe rule.called) reads.alias reads.alias ends_alias
unfolding reads.alias same_keyword take take_if
alias_law {n} = same_law alias_into alias_back alias_back
    (branch (is_key KwAs) refl refl (λ b ts. reads.alias_by b (next ts) ts) (λ b ts. reads.alias_by b (next ts) ts)
    (equal_law {r = λ ts. and_then (take name_of ts) (λ m ls. read (Some m) ls)} name_after_as name_after_as (in_all (made_law Some name_law)))
    (equal_law {r = take_if name_of} name_alone name_alone (narrower_law (maybe_law (take_if_law name_of refl refl)) ends_alias-name))
    (leads_maybe (leads_one (narrower_name (λ m. refl))) (record { into = ends_alias-as })))

-- what [ AS ] name begins with
pub leads_called : {t s : Option Lexeme → Bool} → s (Some (lexeme.Key KwAs)) ≡ true → ((m : List ℕ) → s (Some (lexeme.Name m)) ≡ true) → Leads rule.called t s
leads_called {t} {s} at_as at_name = leads_then {u = seen name_of} (leads_maybe (leads_one (narrower_key KwAs at_as)) (narrower_name at_name)) (λ a. leads_one narrower_same)

-- ---- a primary

-- what follows a parenthesis
abbrev after_source : Source → Rule Primary
after_source (source.Query q) = Then rule.called (λ a. Empty (p.Derived q a))
after_source (source.Tables t) = Empty (p.Paren t)

after_source_law : {n : ℕ} (k k' : Nested) (x : Source) → Lawful n (after_source x) (after_source x) (reads.after_source k x) (reads.after_source k' x) ends_alias
after_source_law k k' (source.Query q) = in_all (made_law (p.Derived q) called_law)
after_source_law k k' (source.Tables t) = in_all (pure_law (p.Paren t))

named : Reader Primary
named = take name_of >>= (λ table. p.Named table <$> reads.alias)

module _ (g : Parentheses) where
  primary_into : (w : List Lexeme) (a : Primary) → rule.primary g w a
      → Either (Then name (λ t. Then (Maybe rule.called) (λ o. Empty (p.Named t o)))) (Then (source_in g) after_source) w a
  unfolding rule.primary
  primary_into w a (first spells) = first spells
  primary_into w a (second spells) =
      second (either_then_back w a (either_map (made_then_back {S = after_source} source.Query) (made_then_back {S = after_source} source.Tables) w a spells))

  primary_back : (w : List Lexeme) (a : Primary)
      → Either (Then name (λ t. Then (Maybe rule.called) (λ o. Empty (p.Named t o)))) (Then (source_in g) after_source) w a → rule.primary g w a
  unfolding rule.primary
  primary_back w a (first spells) = first spells
  primary_back w a (second spells) = second (either_map (made_then source.Query) (made_then source.Tables) w a (either_then w a spells))

  -- what a primary begins with
  pub leads_primary : {t s : Option Lexeme → Bool} → s (Some (lexeme.Sign ParenOpen)) ≡ true → ((m : List ℕ) → s (Some (lexeme.Name m)) ≡ true) → Leads (rule.primary g) t s
  unfolding rule.primary
  leads_primary at_paren at_name =
      leads_either (leads_first (leads_one (narrower_name at_name))) (leads_either (leads_first (leads_enclosed at_paren)) (leads_first (leads_enclosed at_paren)))

  pub leads_table : {t s : Option Lexeme → Bool} → s (Some (lexeme.Sign ParenOpen)) ≡ true → ((m : List ℕ) → s (Some (lexeme.Name m)) ≡ true) → Leads (rule.table_reference g) t s
  unfolding rule.table_reference
  leads_table at_paren at_name = leads_first (leads_primary at_paren at_name)

module _ (k : Nested) where
  sourced : Reader Primary
  sourced = k.source >>= reads.after_source k

  primary_by_name : (ts : List Lexeme) → reads.primary k ts ≡ choose named sourced (seen name_of (next ts)) ts
  unfolding reads.primary named sourced take
  primary_by_name [] = refl
  primary_by_name (lexeme.Name m ∷ ts) = refl
  primary_by_name (lexeme.Key m ∷ ts) = refl
  primary_by_name (lexeme.Sign m ∷ ts) = refl
  primary_by_name (lexeme.Number m ∷ ts) = refl
  primary_by_name (lexeme.Text m ∷ ts) = refl

-- ---- a join

pub narrower_outer : {s : Option Lexeme → Bool} → s (Some (lexeme.Key KwLeft)) ≡ true → s (Some (lexeme.Key KwRight)) ≡ true → s (Some (lexeme.Key KwFull)) ≡ true
    → Narrower (seen outer_of) s
narrower_outer {s} left right full = record { into = go }
  where
    go : (o : Option Lexeme) → seen outer_of o ≡ true → s o ≡ true
    go (Some (lexeme.Key KwLeft)) e = left
    go (Some (lexeme.Key KwRight)) e = right
    go (Some (lexeme.Key KwFull)) e = full
    go (Some (lexeme.Key m)) e = absurd (true≢false (sym e))
    go (Some (lexeme.Sign m)) e = absurd (true≢false (sym e))
    go (Some (lexeme.Name m)) e = absurd (true≢false (sym e))
    go (Some (lexeme.Number m)) e = absurd (true≢false (sym e))
    go (Some (lexeme.Text m)) e = absurd (true≢false (sym e))
    go None e = absurd (true≢false (sym e))

-- [ OUTER ]
outer_side : JoinWord → Reader JoinWord
outer_side side = eat (is_key KwOuter) >> pure side

outer_word : Reader JoinWord
outer_word = take outer_of >>= outer_side

inner_word : Reader JoinWord
inner_word = take (is_key KwInner) >> pure Inner

other_word : Reader JoinWord
other_word = λ ts. choose outer_word (pure Inner) (seen outer_of (next ts)) ts

join_word : Reader JoinWord
join_word = λ ts. choose inner_word other_word (seen (is_key KwInner) (next ts)) ts

outer_side_law : {n : ℕ} (side : JoinWord)
    → Lawful n (Then (Maybe (One (is_key KwOuter))) (λ a. Empty side)) (Then (Maybe (One (is_key KwOuter))) (λ a. Empty side)) (outer_side side) (outer_side side) (seen (is_key KwJoin))
unfolding outer_side same_keyword
outer_side_law side =
    equal_law (λ ts. eat_then (is_key KwOuter) (λ b ls. read side ls) ts) (λ ts. eat_then (is_key KwOuter) (λ b ls. read side ls) ts)
    (made_law (λ a. side) (narrower_law (maybe_law (take_if_law (is_key KwOuter) refl refl)) (narrower_key KwJoin refl).into))

-- what the words of a join other than CROSS begin with
pub leads_word : {s : Option Lexeme → Bool} → s (Some (lexeme.Key KwInner)) ≡ true → s (Some (lexeme.Key KwLeft)) ≡ true → s (Some (lexeme.Key KwRight)) ≡ true
    → s (Some (lexeme.Key KwFull)) ≡ true → s (Some (lexeme.Key KwJoin)) ≡ true → Leads rule.join_word (seen (is_key KwJoin)) s
leads_word inner left right full join =
    leads_either (leads_first (leads_one (narrower_key KwInner inner)))
    (leads_either (leads_first (leads_one (narrower_outer left right full))) (leads_empty (narrower_key KwJoin join)))

join_word_law : {n : ℕ} → Lawful n rule.join_word rule.join_word join_word join_word (seen (is_key KwJoin))
unfolding join_word inner_word other_word outer_word same_keyword
join_word_law =
    by_test (seen (is_key KwInner)) (choose inner_word other_word) (choose inner_word other_word)
    (made_law (λ a. Inner) (in_all (key_law KwInner)))
    (by_test (seen outer_of) (choose outer_word (pure Inner)) (choose outer_word (pure Inner))
    (in_turn (one_law outer_of (lexeme.Key KwLeft) Left refl refl refl) outer_side_law (λ side. leads_always))
    (in_all (pure_law Inner))
    (leads_first (leads_one narrower_same))
    (leads_empty (narrower_key KwJoin refl)))
    (leads_first (leads_one narrower_same))
    (leads_either (leads_first (leads_one (narrower_outer refl refl refl))) (leads_empty (narrower_key KwJoin refl)))

module _ (g : Parentheses) where
  -- what a join begins with
  pub leads_join : {s : Option Lexeme → Bool} → s (Some (lexeme.Key KwCross)) ≡ true → s (Some (lexeme.Key KwInner)) ≡ true → s (Some (lexeme.Key KwLeft)) ≡ true
      → s (Some (lexeme.Key KwRight)) ≡ true → s (Some (lexeme.Key KwFull)) ≡ true → s (Some (lexeme.Key KwJoin)) ≡ true → {t : Option Lexeme → Bool} → Leads (rule.join g) t s
  unfolding rule.join rule.cross_join rule.join_on
  leads_join cross inner left right full join =
      leads_either (leads_first (leads_one (narrower_key KwCross cross)))
      (leads_then (leads_word inner left right full join) (λ word. leads_first (leads_one narrower_same)))

  cross_leads : {t : Option Lexeme → Bool} → Leads (rule.cross_join g) t (seen (is_key KwCross))
  unfolding rule.cross_join
  cross_leads = leads_first (leads_one narrower_same)

  on_leads : {t : Option Lexeme → Bool} → Leads (rule.join_on g) t (unless (seen (is_key KwCross)))
  unfolding rule.join_on same_keyword
  on_leads = leads_then (leads_word refl refl refl refl refl) (λ word. leads_first (leads_one narrower_same))

module _ (k : Nested) where
  cross_join : Reader JoinPart
  cross_join = take (is_key KwCross) >> (take (is_key KwJoin) >> (reads.primary k >>= reads.joined_by k Cross))

  on_joined : JoinWord → Primary → Reader JoinPart
  on_joined word right = take (is_key KwOn) >> ((λ on. roll-JoinPart (record { word = word; right = right; on = Some on })) <$> cond k)

  joined : JoinWord → Reader JoinPart
  joined word = take (is_key KwJoin) >> (reads.primary k >>= on_joined word)

  join_on : Reader JoinPart
  join_on = join_word >>= joined

  join : Reader JoinPart
  join = λ ts. choose cross_join join_on (seen (is_key KwCross) (next ts)) ts

  outer_joined : (side : JoinWord) → ((ts : List Lexeme) → reads.joined k side ts ≡ joined side ts) → (o : Outcome Bool)
      → and_then (and_then o (λ b ls. read (Some side) ls)) (reads.join_of k) ≡ and_then (and_then (and_then o (λ b ls. read side ls)) joined) (λ a ls. read (Some a) ls)
  outer_joined side same (read b ts) = ap (λ o. and_then o (λ a ls. read (Some a) ls)) (same ts)
  outer_joined side same (stopped why ts) = refl

  join_by_word : (ts : List Lexeme) → reads.join k ts ≡ if_next begins_join join ts
  unfolding reads.join reads.join_word reads.joined join cross_join join_on joined on_joined join_word inner_word other_word outer_word outer_side take same_keyword
  join_by_word [] = refl
  join_by_word (lexeme.Key KwLeft ∷ ts) = outer_joined Left (λ us. refl) (eat (is_key KwOuter) ts)
  join_by_word (lexeme.Key KwRight ∷ ts) = outer_joined Right (λ us. refl) (eat (is_key KwOuter) ts)
  join_by_word (lexeme.Key KwFull ∷ ts) = outer_joined Full (λ us. refl) (eat (is_key KwOuter) ts)
  join_by_word (lexeme.Key m ∷ ts) = refl
  join_by_word (lexeme.Name m ∷ ts) = refl
  join_by_word (lexeme.Sign m ∷ ts) = refl
  join_by_word (lexeme.Number m ∷ ts) = refl
  join_by_word (lexeme.Text m ∷ ts) = refl

begins_join-ends : (l : Lexeme) → begins_join (Some l) ≡ true → ends_join (Some l) ≡ true
begins_join-ends (lexeme.Key KwCross) e = refl
begins_join-ends (lexeme.Key KwInner) e = refl
begins_join-ends (lexeme.Key KwLeft) e = refl
begins_join-ends (lexeme.Key KwRight) e = refl
begins_join-ends (lexeme.Key KwFull) e = refl
begins_join-ends (lexeme.Key KwJoin) e = refl
begins_join-ends (lexeme.Key m) e = absurd (true≢false (sym e))
begins_join-ends (lexeme.Sign m) e = absurd (true≢false (sym e))
begins_join-ends (lexeme.Name m) e = absurd (true≢false (sym e))
begins_join-ends (lexeme.Number m) e = absurd (true≢false (sym e))
begins_join-ends (lexeme.Text m) e = absurd (true≢false (sym e))

module _ {n : ℕ} {g g' : Parentheses} {k k' : Nested} (level : LevelLaw n g g' k k') where
  pub primary_law : Lawful n (rule.primary g) (rule.primary g') (reads.primary k) (reads.primary k') ends_alias
  unfolding named sourced
  primary_law = same_law (primary_into g) (primary_back g) (primary_back g')
      (equal_law (primary_by_name k) (primary_by_name k')
      (by_test (seen name_of) (choose named (sourced k)) (choose named (sourced k'))
      (in_turn name_law (λ table. made_law (p.Named table) alias_law) (λ table. leads_always))
      (in_turn level.sources (after_source_law k k') (λ x. leads_always))
      (leads_first (leads_one narrower_same))
      (leads_first (leads_either (leads_first (leads_enclosed refl)) (leads_first (leads_enclosed refl))))))

  cross_join_law : Lawful n (rule.cross_join g) (rule.cross_join g') (cross_join k) (cross_join k') ends_alias
  unfolding rule.cross_join cross_join
  cross_join_law =
      in_turn (key_law KwCross) (λ a. in_turn (key_law KwJoin) (λ b. made_law _ primary_law) (λ b. leads_always)) (λ a. leads_always)

  join_on_law : Lawful n (rule.join_on g) (rule.join_on g') (join_on k) (join_on k') ends_cond
  unfolding rule.join_on join_on joined on_joined same_keyword
  join_on_law =
      in_turn join_word_law
      (λ word. in_turn (key_law KwJoin)
      (λ b. in_turn primary_law
      (λ right. in_turn (key_law KwOn) (λ c. made_law _ (cond_law level)) (λ c. leads_always))
      (λ right. leads_first (leads_one (narrower_key KwOn refl))))
      (λ b. leads_always))
      (λ word. leads_first (leads_one narrower_same))

  pub join_law : LawfulStep n (rule.join g) (rule.join g') (reads.join k) (reads.join k') ends_join begins_join
  unfolding rule.join join same_keyword
  join_law =
      step_law begins_join (join_by_word k) (join_by_word k')
      (by_test (seen (is_key KwCross)) (choose (cross_join k) (join_on k)) (choose (cross_join k') (join_on k'))
      (narrower_law cross_join_law (narrower_first ends_alias ends_cond).into)
      (narrower_law join_on_law (narrower_second ends_alias ends_cond).into)
      (cross_leads g)
      (on_leads g))
      refl (leads_join g refl refl refl refl refl refl)

  pub table_reference_law : Lawful n (rule.table_reference g) (rule.table_reference g') (reads.table_reference k) (reads.table_reference k') ends_table
  unfolding rule.table_reference reads.table_reference
  table_reference_law =
      in_turn primary_law (λ table. made_law _ (many_law join_law begins_join-ends))
      (λ table. leads_made (leads_many (leads_join g refl refl refl refl refl refl)
      (narrower_trans (narrower_first ends_join (unless begins_join)) (narrower_first ends_alias ends_cond))))

  pub tables_law : {stops : Option Lexeme → Bool} → Narrower stops ends_table → Narrower stops is_no_comma
      → Lawful n (rule.tables g) (rule.tables g') (reads.tables k) (reads.tables k') stops
  unfolding rule.tables reads.tables
  tables_law ends no_comma = listed_law table_reference_law refl ends.into no_comma.into

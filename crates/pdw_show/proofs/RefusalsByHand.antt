-- Lines of refusals that were worked out by hand.
use Rattle.std.proofs.Common.{◌≡◌, pos, negsuc, List, ℕ, codes, Option, Some, None, refl}
use Rattle.std.specs.Fmt.{digits}
use Rattle.pdw_answer.specs.declared.refusal.Refusal.TheVariants.{Judge, Load, NotBuilt, Rows}
use Rattle.pdw_lex.specs.declared.lex_error.LexError.TheVariants as lex
use Rattle.pdw_load.specs.declared.load_error.LoadError.{LoadError}
use Rattle.pdw_load.specs.declared.load_error.LoadError.TheVariants as load
use Rattle.pdw_reading.specs.declared.parse_error.ParseError.TheVariants as parse
use Rattle.pdw_walk.specs.declared.fault.JudgeFault.{JudgeFault}
use Rattle.pdw_walk.specs.declared.fault.JudgeFault.TheVariants as judge
use Rattle.pdw_walk.specs.declared.fault.LimitName.TheVariants as limit
use Rattle.pdw_show.specs.Code.{shown_refusal}
use Rattle.pdw_show.specs.declared.refusal.Code.TheVariants.{Lex, Parse, Engine, Script, File}

-- ---- scripts

not-utf8 : shown_refusal None (Lex (lex.NotUtf8 0)) ≡ Some (codes "REFUSED E1 NOTUTF8 AT 0\n")
unfolding digits
not-utf8 = refl

bad-char : shown_refusal None (Lex (lex.BadChar 3)) ≡ Some (codes "REFUSED E2 BADCHAR AT 3\n")
unfolding digits
bad-char = refl

open-text : shown_refusal None (Lex (lex.OpenText 12)) ≡ Some (codes "REFUSED E3 OPENTEXT AT 12\n")
unfolding digits
open-text = refl

big-number : shown_refusal None (Lex (lex.BigNumber 7)) ≡ Some (codes "REFUSED E4 BIGNUMBER AT 7\n")
unfolding digits
big-number = refl

long-text : shown_refusal None (Lex (lex.LongText 7)) ≡ Some (codes "REFUSED E5 LONGTEXT AT 7\n")
unfolding digits
long-text = refl

syntax-fault : shown_refusal None (Parse (parse.Syntax 13)) ≡ Some (codes "REFUSED E6 SYNTAX AT 13\n")
unfolding digits
syntax-fault = refl

too-deep : shown_refusal None (Parse (parse.TooDeep 39)) ≡ Some (codes "REFUSED E7 TOODEEP AT 39\n")
unfolding digits
too-deep = refl

long-script : shown_refusal None Script ≡ Some (codes "REFUSED E16 LIMIT script 1048576\n")
unfolding digits
long-script = refl

-- ---- what a statement says, as statement 2

abbrev said : JudgeFault → Option (List ℕ)
said fault = shown_refusal (Some 2) (Engine (Judge fault))

table-exists : said (judge.TableExists (codes "t")) ≡ Some (codes "REFUSED E8 STATEMENT 2 TABLEEXISTS t\n")
unfolding digits
table-exists = refl

unknown-table : said (judge.UnknownTable (codes "e")) ≡ Some (codes "REFUSED E9 STATEMENT 2 UNKNOWNTABLE e\n")
unfolding digits
unknown-table = refl

duplicate-name : said (judge.DuplicateName (codes "t")) ≡ Some (codes "REFUSED E10 STATEMENT 2 DUPLICATENAME t\n")
unfolding digits
duplicate-name = refl

unknown-column : said (judge.UnknownColumn (codes "x")) ≡ Some (codes "REFUSED E11 STATEMENT 2 UNKNOWNCOLUMN x\n")
unfolding digits
unknown-column = refl

ambiguous : said (judge.Ambiguous (codes "a")) ≡ Some (codes "REFUSED E12 STATEMENT 2 AMBIGUOUS a\n")
unfolding digits
ambiguous = refl

type-mismatch : said judge.TypeMismatch ≡ Some (codes "REFUSED E13 STATEMENT 2 TYPEMISMATCH\n")
unfolding digits
type-mismatch = refl

not-grouped : said (judge.NotGrouped (codes "a")) ≡ Some (codes "REFUSED E14 STATEMENT 2 NOTGROUPED a\n")
unfolding digits
not-grouped = refl

aggregate-place : said judge.AggregatePlace ≡ Some (codes "REFUSED E14 STATEMENT 2 AGGREGATEPLACE\n")
unfolding digits
aggregate-place = refl

subquery-place : said judge.SubqueryPlace ≡ Some (codes "REFUSED E15 STATEMENT 2 SUBQUERYPLACE\n")
unfolding digits
subquery-place = refl

outer-reference : said (judge.OuterReference (codes "t.a")) ≡ Some (codes "REFUSED E15 STATEMENT 2 OUTERREFERENCE t.a\n")
unfolding digits
outer-reference = refl

references : said (judge.Limit limit.References 10) ≡ Some (codes "REFUSED E16 STATEMENT 2 LIMIT references 10\n")
unfolding digits
references = refl

queries : said (judge.Limit limit.Queries 64) ≡ Some (codes "REFUSED E16 STATEMENT 2 LIMIT queries 64\n")
unfolding digits
queries = refl

bad-setting : said (judge.BadSetting (codes "budget") (pos 0)) ≡ Some (codes "REFUSED E18 STATEMENT 2 BADSETTING budget 0\n")
unfolding digits
bad-setting = refl

below-zero : said (judge.BadSetting (codes "rows") (negsuc 4)) ≡ Some (codes "REFUSED E18 STATEMENT 2 BADSETTING rows -5\n")
unfolding digits
below-zero = refl

-- ---- its file and its rows, as statement 4

abbrev loaded : LoadError → Option (List ℕ)
loaded fault = shown_refusal (Some 4) (Engine (Load fault))

field-count : loaded (load.FieldCount 3) ≡ Some (codes "REFUSED E17 STATEMENT 4 FIELDCOUNT 3\n")
unfolding digits
field-count = refl

bad-int : loaded (load.BadInt 3 2) ≡ Some (codes "REFUSED E17 STATEMENT 4 BADINT 3 2\n")
unfolding digits
bad-int = refl

long-field : loaded (load.LongText 1 10) ≡ Some (codes "REFUSED E17 STATEMENT 4 LONGTEXT 1 10\n")
unfolding digits
long-field = refl

null-field : loaded (load.NullField 8 1) ≡ Some (codes "REFUSED E17 STATEMENT 4 NULLFIELD 8 1\n")
unfolding digits
null-field = refl

bad-field : loaded (load.NotUtf8 3 2) ≡ Some (codes "REFUSED E17 STATEMENT 4 NOTUTF8 3 2\n")
unfolding digits
bad-field = refl

long-file : shown_refusal (Some 4) File ≡ Some (codes "REFUSED E16 STATEMENT 4 LIMIT file 67108864\n")
unfolding digits
long-file = refl

many-rows : shown_refusal (Some 4) (Engine (Rows 1000000)) ≡ Some (codes "REFUSED E16 STATEMENT 4 LIMIT rows 1000000\n")
unfolding digits
many-rows = refl

not-built : shown_refusal (Some 4) (Engine NotBuilt) ≡ Some (codes "REFUSED E19 STATEMENT 4 NOTBUILT\n")
unfolding digits
not-built = refl

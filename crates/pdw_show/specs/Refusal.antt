-- The lines that refuse a script or a statement.
use Rattle.std.specs.Prelude.{ℕ, ℤ, List, [], ◌++◌, codes, Option, Some, None}
use Rattle.std.specs.Fmt.{decimal, signed_decimal}
use Rattle.pdw_base.specs.declared.limits.TheConstants.{MOST_FILE_BYTES}
use Rattle.pdw_lex.specs.declared.lex_error.LexError.{LexError}
use Rattle.pdw_lex.specs.declared.lex_error.LexError.TheVariants as lex
use Rattle.pdw_reading.specs.declared.parse_error.ParseError.{ParseError}
use Rattle.pdw_reading.specs.declared.parse_error.ParseError.TheVariants as parse
use Rattle.pdw_load.specs.declared.load_error.LoadError.{LoadError}
use Rattle.pdw_load.specs.declared.load_error.LoadError.TheVariants.{FieldCount, BadInt, LongText, NullField, NotUtf8, Memory}
use Rattle.pdw_walk.specs.declared.fault.JudgeFault.{JudgeFault}
use Rattle.pdw_walk.specs.declared.fault.JudgeFault.TheVariants as judge
use Rattle.pdw_walk.specs.declared.fault.LimitName.{LimitName}
use Rattle.pdw_walk.specs.declared.fault.LimitName.TheVariants as limit
use Rattle.pdw_base.specs.declared.limits.TheConstants.{MOST_SCRIPT_BYTES}

-- ---- a script

-- a script of too many bytes
abbrev pub long_script_line : List ℕ
long_script_line = codes "REFUSED E16 LIMIT script " ++ (decimal MOST_SCRIPT_BYTES ++ codes "\n")

-- a script that is at fault at this byte
abbrev pub place_line : List ℕ → ℕ → List ℕ
place_line name at = codes "REFUSED " ++ (name ++ (codes " AT " ++ (decimal at ++ codes "\n")))

-- bytes that are no tokens
abbrev pub lex_line : LexError → Option (List ℕ)
lex_line (lex.NotUtf8 at) = Some (place_line (codes "E1 NOTUTF8") at)
lex_line (lex.BadChar at) = Some (place_line (codes "E2 BADCHAR") at)
lex_line (lex.OpenText at) = Some (place_line (codes "E3 OPENTEXT") at)
lex_line (lex.BigNumber at) = Some (place_line (codes "E4 BIGNUMBER") at)
lex_line (lex.LongText at) = Some (place_line (codes "E5 LONGTEXT") at)
lex_line lex.Memory = None

-- tokens that are no statements
abbrev pub parse_line : ParseError → Option (List ℕ)
parse_line (parse.Syntax at) = Some (place_line (codes "E6 SYNTAX") at)
parse_line (parse.TooDeep at) = Some (place_line (codes "E7 TOODEEP") at)
parse_line parse.Memory = None

-- ---- a statement

-- a name for which statement k is refused
abbrev pub named_line : List ℕ → ℕ → List ℕ → List ℕ → List ℕ
named_line code k word name =
    codes "REFUSED " ++ (code ++ (codes " STATEMENT " ++ (decimal k ++ (codes " " ++ (word ++ (codes " " ++ (name ++ codes "\n")))))))

-- a form that can't be executed yet
abbrev pub not_built_line : ℕ → List ℕ
not_built_line k = codes "REFUSED E19 STATEMENT " ++ (decimal k ++ codes " NOTBUILT\n")

-- a limit that statement k would pass
abbrev pub limit_line : ℕ → List ℕ → ℕ → List ℕ
limit_line k limit most = codes "REFUSED E16 STATEMENT " ++ (decimal k ++ (codes " LIMIT " ++ (limit ++ (codes " " ++ (decimal most ++ codes "\n")))))

abbrev pub place_text : ℕ → ℕ → List ℕ
place_text rec field = decimal rec ++ (codes " " ++ decimal field)

-- a file of too many bytes
abbrev pub long_file_line : ℕ → List ℕ
long_file_line k = limit_line k (codes "file") MOST_FILE_BYTES

-- statement k is refused by a word alone
abbrev pub word_line : List ℕ → ℕ → List ℕ → List ℕ
word_line code k word = codes "REFUSED " ++ (code ++ (codes " STATEMENT " ++ (decimal k ++ (codes " " ++ (word ++ codes "\n")))))

abbrev pub limit_name : LimitName → List ℕ
limit_name limit.Script = codes "script"
limit_name limit.File = codes "file"
limit_name limit.Tables = codes "tables"
limit_name limit.Columns = codes "columns"
limit_name limit.Rows = codes "rows"
limit_name limit.References = codes "references"
limit_name limit.Used = codes "used"
limit_name limit.Items = codes "items"
limit_name limit.Queries = codes "queries"

-- a number that a setting can't have
abbrev pub setting_line : ℕ → List ℕ → ℤ → List ℕ
setting_line k name amount = codes "REFUSED E18 STATEMENT " ++ (decimal k ++ (codes " BADSETTING " ++ (name ++ (codes " " ++ (signed_decimal amount ++ codes "\n")))))

-- a fault of the judgement; want of memory is none
abbrev pub judged_line : ℕ → JudgeFault → List ℕ
judged_line k (judge.TableExists table) = named_line (codes "E8") k (codes "TABLEEXISTS") table
judged_line k (judge.UnknownTable table) = named_line (codes "E9") k (codes "UNKNOWNTABLE") table
judged_line k (judge.DuplicateName name) = named_line (codes "E10") k (codes "DUPLICATENAME") name
judged_line k (judge.UnknownColumn name) = named_line (codes "E11") k (codes "UNKNOWNCOLUMN") name
judged_line k (judge.Ambiguous name) = named_line (codes "E12") k (codes "AMBIGUOUS") name
judged_line k judge.TypeMismatch = word_line (codes "E13") k (codes "TYPEMISMATCH")
judged_line k (judge.NotGrouped name) = named_line (codes "E14") k (codes "NOTGROUPED") name
judged_line k judge.AggregatePlace = word_line (codes "E14") k (codes "AGGREGATEPLACE")
judged_line k judge.SubqueryPlace = word_line (codes "E15") k (codes "SUBQUERYPLACE")
judged_line k (judge.OuterReference name) = named_line (codes "E15") k (codes "OUTERREFERENCE") name
judged_line k (judge.Limit which most) = limit_line k (limit_name which) most
judged_line k (judge.BadSetting name amount) = setting_line k name amount
judged_line k judge.Memory = []

-- the fault of a record, with its number and that of the field
abbrev pub fault_text : LoadError → List ℕ
fault_text (FieldCount rec) = codes "FIELDCOUNT " ++ decimal rec
fault_text (BadInt rec field) = codes "BADINT " ++ place_text rec field
fault_text (LongText rec field) = codes "LONGTEXT " ++ place_text rec field
fault_text (NullField rec field) = codes "NULLFIELD " ++ place_text rec field
fault_text (NotUtf8 rec field) = codes "NOTUTF8 " ++ place_text rec field
fault_text Memory = []

-- a file with a faulty record that statement k loads
abbrev pub fault_line : ℕ → LoadError → List ℕ
fault_line k fault = codes "REFUSED E17 STATEMENT " ++ (decimal k ++ (codes " " ++ (fault_text fault ++ codes "\n")))

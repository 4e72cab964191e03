-- The first walk over a source: the addresses of labels.
use Rattle.std.specs.Prelude.{ℕ, ◌+◌, ◌*◌, ◌^◌, List, [], ◌∷◌, length, Bool, true, false, not, Option, Some, None, Result, Ok, Err, option_map, unwrap_or, nat_lt, nat_le, ◌==◌, ◌&&◌, if◌then◌else◌}
use Rattle.std.specs.Option.{is_some, option_or}
use Rattle.n2_statement.specs.declared.faults.AsmKind.{AsmKind}
use Rattle.n2_source.specs.declared.numbers.Number.{Number}
use Rattle.n2_statement.specs.declared.statements.Statement.{Statement}
use Rattle.n2_statement.specs.declared.statements.Statement.TheVariants as statement
use Rattle.n2_source.specs.Numbers.{plain, capped}
use Rattle.n2_statement.specs.Names.{named}
use Rattle.n2_asm.specs.Rows.{rows_of}
use Rattle.n2_statement.specs.Statements.{labels_of, statement_of}
use Rattle.n2_statement.specs.Values.{Names, padding_to}

-- where the next byte goes, once a segment is open; what names have as values; and the first row
-- that names something again
pub record Surveyed : Type 0 where
  pub here : Option ℕ
  pub names : Names
  pub repeated : Option ℕ

-- the first row that names something again
abbrev pub first_again : ℕ → Bool → Option ℕ → Option ℕ
first_again row again (Some first) = Some first
first_again row again None = if again then Some row else None

-- the row gives a name a value
abbrev pub with_name : ℕ → List ℕ → Number → Surveyed → Surveyed
with_name row name value s = record {
  here = s.here;
  names = named s.names name value;
  repeated = first_again row (is_some (s.names name)) s.repeated;
}

-- the row's labels have this value
abbrev pub with_labels : ℕ → List (List ℕ) → Number → Surveyed → Surveyed
with_labels row [] value s = s
with_labels row (name ∷ names) value s = with_labels row names value (with_name row name value s)

-- the address here, or 0 where no segment is open
abbrev pub label_value : Option ℕ → Number
label_value here = plain (unwrap_or here 0)

-- how many bytes a statement here puts; what is above 2^40 stands as 2^40
abbrev pub size_of : ℕ → Statement → ℕ
size_of here (statement.Fixed insn) = 4
size_of here (statement.Filled insn value) = 4
size_of here (statement.Negated a b value) = 4
size_of here (statement.Address b value) = 8
size_of here (statement.Words numbers) = capped (4 * length numbers)
size_of here (statement.Bytes numbers) = capped (length numbers)
size_of here (statement.Space count) = if count.negative then 0 else count.size
size_of here (statement.Align to) = unwrap_or (padding_to here to) 0
size_of here (statement.Text text) = capped (length text) + 1
size_of here (statement.Segment exec at) = 0
size_of here (statement.Constant name value) = 0

-- here behind n bytes, which end at 2^32 at the latest
abbrev pub advanced : ℕ → ℕ → ℕ
advanced here n = if nat_le (here + n) (2 ^ 32) then here + n else here

-- where a segment opens
abbrev pub opened : Number → Option ℕ → Option ℕ
opened at here = if not at.negative && nat_lt at.size (2 ^ 32) then Some at.size else here

-- here behind a statement
abbrev pub here_behind : Statement → Option ℕ → Option ℕ
here_behind (statement.Segment exec at) here = opened at here
here_behind st None = None
here_behind st (Some here) = Some (advanced here (size_of here st))

-- the survey behind a statement
abbrev pub with_statement : ℕ → Statement → Surveyed → Surveyed
with_statement row (statement.Constant name value) s = with_name row name value s
with_statement row st s = record s { here = here_behind st s.here }

-- a row that cannot be read has its labels, and puts nothing
abbrev pub with_read : ℕ → Result (Option Statement) AsmKind → Surveyed → Surveyed
with_read row (Ok (Some st)) s = with_statement row st s
with_read row (Ok None) s = s
with_read row (Err fault) s = s

unfoldable pub with_row : ℕ → List ℕ → Surveyed → Surveyed
with_row n row s = with_read n (statement_of row) (with_labels n (labels_of row) (label_value s.here) s)

-- the survey of rows from row n on
abbrev pub with_rows : ℕ → List (List ℕ) → Surveyed → Surveyed
with_rows n [] s = s
with_rows n (row ∷ rows) s = with_rows (n + 1) rows (with_row n row s)

abbrev pub nothing_surveyed : Surveyed
nothing_surveyed = record { here = None; names = λ _. None; repeated = None }

-- the survey of a source
unfoldable pub survey_of : List ℕ → Surveyed
survey_of source = with_rows 1 (rows_of source) nothing_surveyed

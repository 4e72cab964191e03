-- Operands of a statement.
use Rattle.std.specs.Prelude.{ℕ, zero, suc, ◌+◌, ◌*◌, List, [], ◌∷◌, ◌++◌, length, Bool, true, false, not, Option, Some, None, codes, ◌==◌, ◌&&◌, if◌then◌else◌}
use Rattle.std.specs.List.{before_first, after_first}
use Rattle.std.specs.Str.{bytes_eq}
use Rattle.n2_source.specs.declared.numbers.Number.{Number}
use Rattle.n2_source.specs.declared.operands.Part.{Part}
use Rattle.n2_source.specs.declared.operands.Part.TheVariants as part
use Rattle.n2_source.specs.declared.operands.Expression.{Expression}
use Rattle.n2_source.specs.declared.operands.Expression.TheVariants as expression
use Rattle.n2_source.specs.declared.operands.Immediate.{Immediate}
use Rattle.n2_source.specs.Cursors.{◌>>=◌, skip, word_at, past, mark_at}
use Rattle.n2_source.specs.Numbers.{or_some, number_at, register_at, control_at, name_at}

-- a number or a name
unfoldable pub plain_expression_at : List ℕ → Option (Expression × List ℕ)
plain_expression_at bs = do
  n ← number_at bs
  Some (expression.Number n.0, n.1)

unfoldable pub expression_at : List ℕ → Option (Expression × List ℕ)
expression_at bs = or_some (name_at bs) (λ x. Some (expression.Name x.0, x.1)) (plain_expression_at bs)

-- which 16 bits of a number %hi, %lo and %hiadj take
abbrev pub part_named : List ℕ → Option Part
part_named word =
    if bytes_eq word (codes "hi") then Some part.High
    else (if bytes_eq word (codes "lo") then Some part.Low
    else (if bytes_eq word (codes "hiadj") then Some part.HighAdjusted else None))

abbrev pub immediate : Part → Expression → Immediate
immediate p value = record { part = p; value = value }

-- behind the %
unfoldable pub part_at : List ℕ → Option (Immediate × List ℕ)
part_at bs = do
  p ← part_named (word_at bs).0
  inner ← mark_at 40 (word_at bs).1
  value ← expression_at inner
  rest ← mark_at 41 value.1
  Some (immediate p value.0, rest)

unfoldable pub whole_at : List ℕ → Option (Immediate × List ℕ)
whole_at bs = do
  value ← expression_at bs
  Some (immediate part.Whole value.0, value.1)

-- a number, a name, or %hi, %lo or %hiadj of one
unfoldable pub immediate_at : List ℕ → Option (Immediate × List ℕ)
immediate_at bs = or_some (mark_at 37 bs) part_at (whole_at bs)

-- registers with commas between them
unfoldable pub two_registers_at : List ℕ → Option ((ℕ × ℕ) × List ℕ)
two_registers_at bs = do
  x ← register_at bs
  comma ← mark_at 44 x.1
  y ← register_at comma
  Some ((x.0, y.0), y.1)

unfoldable pub three_registers_at : List ℕ → Option ((ℕ × ℕ × ℕ) × List ℕ)
three_registers_at bs = do
  x ← two_registers_at bs
  comma ← mark_at 44 x.1
  z ← register_at comma
  Some ((x.0.0, x.0.1, z.0), z.1)

-- registers, a comma and an immediate
unfoldable pub register_immediate_at : List ℕ → Option ((ℕ × Immediate) × List ℕ)
register_immediate_at bs = do
  x ← register_at bs
  comma ← mark_at 44 x.1
  value ← immediate_at comma
  Some ((x.0, value.0), value.1)

-- a register, a comma, and a number or a name
unfoldable pub register_expression_at : List ℕ → Option ((ℕ × Expression) × List ℕ)
register_expression_at bs = do
  x ← register_at bs
  comma ← mark_at 44 x.1
  value ← expression_at comma
  Some ((x.0, value.0), value.1)

unfoldable pub two_registers_immediate_at : List ℕ → Option ((ℕ × ℕ × Immediate) × List ℕ)
two_registers_immediate_at bs = do
  x ← two_registers_at bs
  comma ← mark_at 44 x.1
  value ← immediate_at comma
  Some ((x.0.0, x.0.1, value.0), value.1)

-- registers, a comma and a place, which is a number or a name
unfoldable pub two_registers_place_at : List ℕ → Option ((ℕ × ℕ × Immediate) × List ℕ)
two_registers_place_at bs = do
  x ← two_registers_at bs
  comma ← mark_at 44 x.1
  value ← whole_at comma
  Some ((x.0.0, x.0.1, value.0), value.1)

-- an immediate and a register in parentheses
unfoldable pub base_at : List ℕ → Option ((ℕ × Immediate) × List ℕ)
base_at bs = do
  value ← immediate_at bs
  inner ← mark_at 40 value.1
  x ← register_at inner
  rest ← mark_at 41 x.1
  Some ((x.0, value.0), rest)

unfoldable pub register_base_at : List ℕ → Option ((ℕ × ℕ × Immediate) × List ℕ)
register_base_at bs = do
  x ← register_at bs
  comma ← mark_at 44 x.1
  y ← base_at comma
  Some ((y.0.0, x.0, y.0.1), y.1)

unfoldable pub register_control_at : List ℕ → Option ((ℕ × ℕ) × List ℕ)
register_control_at bs = do
  x ← register_at bs
  comma ← mark_at 44 x.1
  y ← control_at comma
  Some ((x.0, y.0), y.1)

unfoldable pub control_register_at : List ℕ → Option ((ℕ × ℕ) × List ℕ)
control_register_at bs = do
  x ← control_at bs
  comma ← mark_at 44 x.1
  y ← register_at comma
  Some ((x.0, y.0), y.1)

-- a name, a comma and a number
unfoldable pub name_number_at : List ℕ → Option ((List ℕ × Number) × List ℕ)
name_number_at bs = do
  x ← name_at bs
  comma ← mark_at 44 x.1
  n ← number_at comma
  Some ((x.0, n.0), n.1)

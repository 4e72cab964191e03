-- Lines of memories whose rows are those of a board: what a put line and a store leave.
use Rattle.std.proofs.Common.{◌≡◌, ◌≢◌, ℕ, List, length, subst, sym, ◌∙◌}
use Rattle.std.proofs.Math.ListN.{length-set}
use Rattle.n2_word.specs.declared.Width.{Width}
use Rattle.n2_word.specs.Lines.{line, place_in_line, written_in_line}
use Rattle.n2_parts.specs.declared.board.MemoryRow.{MemoryRow}
use Rattle.n2_parts.specs.MemoryLines.{HasLine}
use Rattle.n2_memory.specs.Memories.{Contents, line_at, with_line, written_at}
use Rattle.n2_runs.specs.Along.{IsOf}
use Rattle.n2_memory.proofs.Writes.{length-line_at, full-with_line, same_line, other_line}

has : (rows : List MemoryRow) (m : Contents) (l : ℕ) → IsOf rows m → HasLine rows l → HasLine m.memories l
has rows m l o h = subst (λ (r : List MemoryRow). HasLine r l) (sym o.rows_are) h

module _ (rows : List MemoryRow) (m : Contents) (o : IsOf rows m) where
  pub eight : (l : ℕ) → HasLine rows l → length (line_at m l) ≡ 8
  eight l h = length-line_at m l o.full (has rows m l o h)

  pub put_same : (l : ℕ) (ws : List ℕ) → HasLine rows l → length ws ≡ 8 → line_at (with_line m l ws) l ≡ ws
  put_same l ws h e = same_line m l ws o.full (has rows m l o h) e

  pub put_other : (l t : ℕ) (ws : List ℕ) → HasLine rows l → HasLine rows t → t ≢ l → length ws ≡ 8 → line_at (with_line m l ws) t ≡ line_at m t
  put_other l t ws h g n e = other_line m l t ws o.full (has rows m l o h) (has rows m t o g) n e

  pub put_of : (l : ℕ) (ws : List ℕ) → HasLine rows l → length ws ≡ 8 → IsOf rows (with_line m l ws)
  put_of l ws h e = record { rows_are = o.rows_are; full = full-with_line m l ws o.full (has rows m l o h) e }

  length-written : (a : ℕ) (width : Width) (value : ℕ) → HasLine rows (line a) → length (written_in_line (line_at m (line a)) a width value) ≡ 8
  length-written a width value h = length-set (line_at m (line a)) (place_in_line a) _ ∙ eight (line a) h

  pub written_same : (a : ℕ) (width : Width) (value : ℕ) → HasLine rows (line a) → line_at (written_at m a width value) (line a) ≡ written_in_line (line_at m (line a)) a width value
  written_same a width value h = put_same (line a) (written_in_line (line_at m (line a)) a width value) h (length-written a width value h)

  pub written_other : (a : ℕ) (width : Width) (value t : ℕ) → HasLine rows (line a) → HasLine rows t → t ≢ line a → line_at (written_at m a width value) t ≡ line_at m t
  written_other a width value t h g n = put_other (line a) t (written_in_line (line_at m (line a)) a width value) h g n (length-written a width value h)

  pub written_of : (a : ℕ) (width : Width) (value : ℕ) → HasLine rows (line a) → IsOf rows (written_at m a width value)
  written_of a width value h = put_of (line a) (written_in_line (line_at m (line a)) a width value) h (length-written a width value h)

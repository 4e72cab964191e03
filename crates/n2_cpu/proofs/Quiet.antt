-- Quiet turns: the kind of a turn, and what is left of them after one.
use Rattle.std.proofs.Common.{◌≡◌, ℕ, ◌+◌, ◌-◌, ◌%◌, ◌<◌, suc, ap, sym, ◌∙◌, add-one, arith}
use Rattle.std.proofs.Math.Nat.{suc-mod, mod-eq_of_lt}
use Rattle.n2_parts.specs.declared.board.Board.{Board}
use Rattle.n2_parts.specs.declared.board.CoreRow.{CoreRow}
use Rattle.n2_board.specs.AddressMap.{AddressMap}
use Rattle.n2_watch.specs.Book.{Book}
use Rattle.n2_front.specs.Core.{Core, TurnKind, turn_kind}
use Rattle.n2_front.specs.Turn.{intent_by, intent}
use Rattle.n2_cpu.specs.Stands.{AreQuiet}

-- the next turn has one quiet turn less
rest_after : (turn every quiet : ℕ) → 0 < quiet → quiet + turn % every < every → quiet - 1 + (turn + 1) % every < every
rest_after turn every quiet some h =
    let e : (turn + 1) % every ≡ turn % every + 1 = ap (λ (n : ℕ). n % every) (add-one turn) ∙ suc-mod turn every ∙ mod-eq_of_lt {n = suc (turn % every)} {m = every} (omega (arith, h, some)) ∙ sym (add-one (turn % every)) in
    omega (arith, h, some, e)

pub quiet_after : (sample evict turn quiet : ℕ) → AreQuiet sample evict turn quiet → 0 < quiet → AreQuiet sample evict (turn + 1) (quiet - 1)
quiet_after sample evict turn quiet h some = record {
  no_sample = rest_after turn sample quiet some h.no_sample;
  no_evict = λ e. rest_after turn evict quiet some (h.no_evict e);
}

-- what a core is about to do, by the kind of its turn
pub kind_intent : (b : Board) (map : AddressMap) (k : ℕ) (row : CoreRow) (book : Book) (c : Core) (kind : TurnKind) (turn : ℕ) → c.turns ≡ turn → turn_kind row turn ≡ kind → intent b map k row book c ≡ intent_by b map k row book c kind
kind_intent b map k row book c kind turn e f = ap (λ (t : ℕ). intent_by b map k row book c (turn_kind row t)) e ∙ ap (λ (x : TurnKind). intent_by b map k row book c x) f

-- A valid board has no long array.
use Rattle.std.proofs.Common.{◌≡◌, ℕ, ◌≤◌, Bool, true, false, Option, Some, None, refl}
use Rattle.std.specs.Option.{option_or}
use Rattle.std.proofs.lemmas.Bool.{leb-true, and_parts}
use Rattle.n2_text.specs.Firsts.{unless}
use Rattle.n2_parts.specs.declared.board.Board.{Board}
use Rattle.n2_parts.specs.declared.board.PartKind.{PartKind}
use Rattle.n2_parts.specs.declared.board.PartKind.TheVariants.{Memory, Core, Mutex, Mailbox, Timer, Uart, Region, Dump, Script}
use Rattle.n2_parts.specs.declared.board.BoardFault.{BoardFault}
use Rattle.n2_parts.specs.Parts.{count_of}
use Rattle.n2_parts.specs.Valid.{count_fault, counts, first_fault, IsValid, IsSmall}

pub none_both : (a b : Option BoardFault) → option_or a b ≡ None → (a ≡ None) × (b ≡ None)
none_both None b e = (refl, e)
none_both (Some fault) b e = absurd cc

pub none_good : (good : Bool) (fault : BoardFault) → unless good fault ≡ None → good ≡ true
none_good true fault e = refl
none_good false fault e = absurd cc

few : (b : Board) (kind : PartKind) (least most : ℕ) → count_fault b kind least most ≡ None → count_of b kind ≤ most
few b kind least most e = leb-true _ _ (and_parts _ _ (none_good _ _ e)).1

pub valid_small : (b : Board) → IsValid b → IsSmall b
unfolding first_fault counts
valid_small b valid =
    let c0 = none_both (counts b) _ valid in
    let c1 = none_both (count_fault b Memory 1 4) _ c0.0 in
    let c2 = none_both (count_fault b Core 1 8) _ c1.1 in
    let c3 = none_both (count_fault b Mutex 0 32) _ c2.1 in
    let c4 = none_both (count_fault b Mailbox 0 32) _ c3.1 in
    let c5 = none_both (count_fault b Timer 0 8) _ c4.1 in
    let c6 = none_both (count_fault b Uart 0 8) _ c5.1 in
    let c7 = none_both (count_fault b Region 0 64) _ c6.1 in
    let c8 = none_both (count_fault b Dump 0 16) _ c7.1 in
    let c9 = none_both (count_fault b Script 0 1024) _ c8.1 in
    record {
      memory = few b Memory 1 4 c1.0;
      core = few b Core 1 8 c2.0;
      mutex = few b Mutex 0 32 c3.0;
      mailbox = few b Mailbox 0 32 c4.0;
      timer = few b Timer 0 8 c5.0;
      uart = few b Uart 0 8 c6.0;
      region = few b Region 0 64 c7.0;
      dump = few b Dump 0 16 c8.0;
      script = few b Script 0 1024 c9.0;
    }

-- One step of each loop over parts.
use Rattle.std.proofs.Common.{◌≡◌, ℕ, zero, suc, ◌+◌, ◌-◌, ◌<◌, ◌≤◌, List, length, get_or, drop, Option, Some, None, refl, sym, ap, ◌∙◌, drop-cons, arith}
use Rattle.std.proofs.lemmas.List.{drop_all}
use Rattle.n2_parts.specs.declared.board.Board.{Board}
use Rattle.n2_parts.specs.declared.board.Part.{Part}
use Rattle.n2_parts.specs.declared.board.PartKind.{PartKind}
use Rattle.n2_parts.specs.declared.board.BoardFault.{BoardFault}
use Rattle.std.specs.Option.{option_or}
use Rattle.n2_parts.specs.Parts.{first_from, first_of_kind, first_part}

pub first_from-next : {F : Type 0} (f : ℕ → Option F) (i count : ℕ) → i < count → first_from f i (count - i) ≡ option_or (f i) (first_from f (i + 1) (count - (i + 1)))
unfolding first_from
first_from-next f i count lt =
    let k : count - i ≡ suc (count - (i + 1)) = omega arith in rw k refl

pub first_from-done : {F : Type 0} (f : ℕ → Option F) (i count : ℕ) → count ≤ i → first_from f i (count - i) ≡ None
unfolding first_from
first_from-done f i count le =
    let k : count - i ≡ 0 = omega arith in rw k refl

-- one more number is looked at, and what it answers counts first
pub first_from-step : {F : Type 0} (f : ℕ → Option F) (i count : ℕ) (found all : Option F) → i < count → found ≡ f i → first_from f i (count - i) ≡ all → option_or found (first_from f (i + 1) (count - (i + 1))) ≡ all
first_from-step f i count found all lt look so_far = ap (λ o. option_or o (first_from f (i + 1) (count - (i + 1)))) look ∙ sym (first_from-next f i count lt) ∙ so_far

-- two functions that find the same at these numbers
pub first_from-same : {F : Type 0} (f g : ℕ → Option F) (i n : ℕ) → ((k : ℕ) → i ≤ k → k < i + n → f k ≡ g k) → first_from f i n ≡ first_from g i n
unfolding first_from
first_from-same f g i zero same = refl
first_from-same f g i (suc n) same =
    rw (same i (omega arith) (omega arith), first_from-same f g (i + 1) n (λ k low high. same k (omega arith) (omega arith))) refl

pub first_part-next : (b : Board) (f : Part → Option BoardFault) (kinds : List PartKind) (i : ℕ) (d : PartKind) → i < length kinds
    → first_part b (drop i kinds) f ≡ option_or (first_of_kind b (get_or kinds i d) f) (first_part b (drop (i + 1) kinds) f)
unfolding first_part
first_part-next b f kinds i d lt =
    let k : i + 1 ≡ suc i = omega arith in
    rw k (ap (λ (ks : List PartKind). first_part b ks f) (drop-cons kinds i d lt))

pub first_part-done : (b : Board) (f : Part → Option BoardFault) (kinds : List PartKind) (i : ℕ) → length kinds ≤ i → first_part b (drop i kinds) f ≡ None
unfolding first_part
first_part-done b f kinds i le = ap (λ (ks : List PartKind). first_part b ks f) (drop_all i kinds le)

-- a fault is found, or another is looked for
pub stop : {F : Type 0} (a rest : Option F) (fault : F) → Some fault ≡ a → Some fault ≡ option_or a rest
stop a rest fault e = rw (← e) refl

pub pass : {F : Type 0} (a rest found : Option F) → None ≡ a → found ≡ rest → found ≡ option_or a rest
pass a rest found e h = rw (← e) h

pub alone : {F : Type 0} (a : Option F) → option_or a None ≡ a
alone None = refl
alone (Some fault) = refl

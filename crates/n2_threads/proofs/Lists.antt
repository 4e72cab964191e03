-- The actors that are not over, one more at a time.
use Rattle.std.proofs.Common.{◌≡◌, ℕ, zero, suc, ◌+◌, ◌++◌, Bool, true, false, cond, List, [], ◌∷◌, length, slice_get, Some, refl, sym, ap, ◌∙◌, arith}
use Rattle.std.proofs.lemmas.List.Elements.{All-nil, All-cons}
use Rattle.std.specs.Prelude.{All}
use Rattle.n2_parts.specs.declared.board.Board.{Board}
use Rattle.n2_order.specs.Choices.{running}
use Rattle.n2_runs.specs.Machine.{Machine, is_over}
use Rattle.n2_driver.specs.Chosen.{overs_from, overs, AreOver}
use Rattle.n2_threads.specs.Rounds.{RunsNow}

append_nil : (xs : List ℕ) → xs ++ [] ≡ xs
append_nil [] = refl
append_nil (x ∷ xs) = ap (λ (l : List ℕ). x ∷ l) (append_nil xs)

more : (x : Bool) (k : ℕ) (long short end : List ℕ) → long ≡ short ++ end → cond x long (k ∷ long) ≡ cond x short (k ∷ short) ++ end
more true k long short end e = e
more false k long short end e = ap (λ (l : List ℕ). k ∷ l) e

running_push : (b : Board) (m : Machine) (k n : ℕ) (o : Bool) → o ≡ is_over b m (k + n) → running k (overs_from b m k (suc n)) ≡ running k (overs_from b m k n) ++ cond o [] ((k + n) ∷ [])
running_push b m k zero o e =
    let z : k + zero ≡ k = omega arith in
    ap (λ (x : Bool). cond x [] (k ∷ [])) (sym (e ∙ ap (is_over b m) z)) ∙ ap (λ (i : ℕ). cond o [] (i ∷ [])) (sym z)
running_push b m k (suc n) o e =
    let z : k + suc n ≡ k + 1 + n = omega arith in
    more (is_over b m k) k (running (k + 1) (overs_from b m (k + 1) (suc n))) (running (k + 1) (overs_from b m (k + 1) n)) (cond o [] ((k + suc n) ∷ []))
    (running_push b m (k + 1) n o (e ∙ ap (is_over b m) z) ∙ ap (λ (i : ℕ). running (k + 1) (overs_from b m (k + 1) n) ++ cond o [] (i ∷ [])) (sym z))

running_next : (b : Board) (m : Machine) (actor : ℕ) (o : Bool) → o ≡ is_over b m actor → running 0 (overs_from b m 0 (actor + 1)) ≡ running 0 (overs_from b m 0 actor) ++ cond o [] (actor ∷ [])
running_next b m actor o e =
    let z : 0 + actor ≡ actor = omega arith in
    let s : actor + 1 ≡ suc actor = omega arith in
    ap (λ (n : ℕ). running 0 (overs_from b m 0 n)) s
    ∙ running_push b m 0 actor o (e ∙ ap (is_over b m) (sym z))
    ∙ ap (λ (i : ℕ). running 0 (overs_from b m 0 actor) ++ cond o [] (i ∷ [])) z

-- one that is over is left out, and another is the last
pub running_skips : (b : Board) (m : Machine) (actor : ℕ) → true ≡ is_over b m actor → running 0 (overs_from b m 0 actor) ≡ running 0 (overs_from b m 0 (actor + 1))
running_skips b m actor e = sym (append_nil (running 0 (overs_from b m 0 actor))) ∙ sym (running_next b m actor true e)

pub running_adds : (b : Board) (m : Machine) (actor : ℕ) → false ≡ is_over b m actor → running 0 (overs_from b m 0 actor) ++ actor ∷ [] ≡ running 0 (overs_from b m 0 (actor + 1))
running_adds b m actor e = sym (running_next b m actor false e)

-- the first of them is not over
pub first_runs : (b : Board) (m : Machine) (k n actor : ℕ) → slice_get (running k (overs_from b m k n)) 0 ≡ Some actor → RunsNow b m (k + n) actor
first_runs b m k zero actor e = absurd (cc)
first_runs b m k (suc n) actor e = at (first_runs b m (k + 1) n actor) (is_over b m k) refl e
  where
    at : (slice_get (running (k + 1) (overs_from b m (k + 1) n)) 0 ≡ Some actor → RunsNow b m (k + 1 + n) actor) → (o : Bool) → is_over b m k ≡ o → slice_get (cond o (running (k + 1) (overs_from b m (k + 1) n)) (k ∷ running (k + 1) (overs_from b m (k + 1) n))) 0 ≡ Some actor → RunsNow b m (k + suc n) actor
    at later true i e = let h = later e in let lt = h.within in record { within = omega (arith, lt); runs = h.runs }
    at later false i e =
        let same : k ≡ actor = cc in
        record { within = omega (arith, same); runs = ap (is_over b m) (sym same) ∙ i }

-- where there is none, all are over
none_run : (b : Board) (m : Machine) (k n : ℕ) → running k (overs_from b m k n) ≡ [] → All (λ over. over ≡ true) (overs_from b m k n)
none_run b m k zero e = All-nil (λ over. over ≡ true)
none_run b m k (suc n) e = at (none_run b m (k + 1) n) (is_over b m k) refl e
  where
    at : (running (k + 1) (overs_from b m (k + 1) n) ≡ [] → All (λ over. over ≡ true) (overs_from b m (k + 1) n)) → (o : Bool) → is_over b m k ≡ o → cond o (running (k + 1) (overs_from b m (k + 1) n)) (k ∷ running (k + 1) (overs_from b m (k + 1) n)) ≡ [] → All (λ over. over ≡ true) (is_over b m k ∷ overs_from b m (k + 1) n)
    at later true i e = All-cons (λ over. over ≡ true) (is_over b m k) (overs_from b m (k + 1) n) i (later e)
    at later false i e = absurd (cc)

pub all_over : (b : Board) (m : Machine) → running 0 (overs b m) ≡ [] → AreOver b m
all_over b m e = none_run b m 0 (length b.core + 1) e

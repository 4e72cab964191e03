-- Many ticks at once: down to 0, then whole rounds of the period and one tick, then the rest.
use Rattle.std.proofs.Common.{◌≡◌, ◌<◌, ℕ, zero, suc, ◌+◌, ◌-◌, ◌*◌, ◌/◌, ◌%◌, true, inl, inr, refl, ap, ◌∙◌, arith}
use Rattle.std.specs.Prelude.{if◌then◌else◌, nat_le}
use Rattle.std.proofs.lemmas.Bool.{cases_Bool, cases_lt}
use Rattle.std.proofs.lemmas.Bool.Decides.{nat_tests}
use Rattle.n2_timer.specs.Timer.{State, ticks}
use Rattle.n2_timer.proofs.Ticks.{ticks-zero, ticks-add, ticks-stopped, ticks-running, ticks-round, ticks-whole_round}

-- a timer after the tick that found 0
abbrev ended : State → State
ended state = record state { to = true; counter = state.period; run = state.cont }

-- whole rounds come back
ticks-rounds : (rounds : ℕ) (state : State) → state.cont ≡ true → ticks (rounds * (state.period + 1)) (ended state) ≡ ended state
ticks-rounds zero state goes_on =
    let none : zero * (state.period + 1) ≡ 0 = omega arith in
    ap (λ n. ticks n (ended state)) none ∙ ticks-zero (ended state)
ticks-rounds (suc rounds) state goes_on =
    let more : suc rounds * (state.period + 1) ≡ rounds * (state.period + 1) + (state.period + 1) = omega arith in
    ap (λ n. ticks n (ended state)) more
    ∙ ticks-add (rounds * (state.period + 1)) (state.period + 1) (ended state)
    ∙ ap (ticks (state.period + 1)) (ticks-rounds rounds state goes_on)
    ∙ ticks-whole_round (ended state) goes_on goes_on refl

-- the ticks behind the one that found 0
ticks-ended : (n : ℕ) (state : State) → state.cont ≡ true → ticks n (ended state) ≡ record (ended state) { counter = state.period - n % (state.period + 1) }
ticks-ended n state goes_on =
    let round : ℕ = state.period + 1 in
    let parts : n ≡ n / round * round + n % round = omega arith in
    ap (λ m. ticks m (ended state)) parts
    ∙ ticks-add (n / round * round) (n % round) (ended state)
    ∙ ap (ticks (n % round)) (ticks-rounds (n / round) state goes_on)
    ∙ ticks-running (n % round) (ended state) goes_on (omega arith)

-- the ticks of a timer that runs, past the one that finds 0
ticks-past : (n : ℕ) (state : State) → state.run ≡ true → state.counter < n → ticks n state ≡ ticks (n - state.counter - 1) (ended state)
ticks-past n state running past =
    let parts : n ≡ state.counter + 1 + (n - state.counter - 1) = omega arith in
    ap (λ m. ticks m state) parts
    ∙ ticks-add (state.counter + 1) (n - state.counter - 1) state
    ∙ ap (ticks (n - state.counter - 1)) (ticks-round state running)

-- the state after so many ticks, without counting them
abbrev pub ticked : ℕ → State → State
ticked n state =
    if state.run then (if nat_le n state.counter then record state { counter = state.counter - n }
    else (if state.cont then record (ended state) { counter = state.period - (n - state.counter - 1) % (state.period + 1) }
    else ended state))
    else state

pub ticks_at_once : (n : ℕ) (state : State) → ticks n state ≡ ticked n state
ticks_at_once n state =
    elim (cases_Bool state.run) [
      | inl running ↦
          elim (cases_lt state.counter n) [
            | inl past ↦
                elim (cases_Bool state.cont) [
                  | inl goes_on ↦ let e : ticks n state ≡ record (ended state) { counter = state.period - (n - state.counter - 1) % (state.period + 1) } = ticks-past n state running past ∙ ticks-ended (n - state.counter - 1) state goes_on in grind (arith, nat_tests)
                  | inr ends ↦ let e : ticks n state ≡ ended state = ticks-past n state running past ∙ ticks-stopped (n - state.counter - 1) (ended state) ends in grind (arith, nat_tests)
                ]
            | inr enough ↦ let e : ticks n state ≡ record state { counter = state.counter - n } = ticks-running n state running enough in grind (arith, nat_tests)
          ]
      | inr stopped ↦ let e : ticks n state ≡ state = ticks-stopped n state stopped in grind (arith, nat_tests)
    ]

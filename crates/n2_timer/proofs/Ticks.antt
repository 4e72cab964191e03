-- What so many ticks come to.
use Rattle.std.proofs.Common.{◌≡◌, ◌≤◌, ℕ, zero, suc, ◌+◌, ◌-◌, true, false, refl, ap, sym, ◌∙◌, arith, add-suc, add-zero, add-one}
use Rattle.std.proofs.lemmas.Bool.Decides.{nat_tests}
use Rattle.n2_timer.specs.Timer.{State, tick, ticks}

-- no ticks change nothing
pub ticks-zero : (state : State) → ticks 0 state ≡ state
unfolding ticks
ticks-zero state = refl

-- one more tick
pub ticks-more : (n : ℕ) (state : State) → ticks (n + 1) state ≡ tick (ticks n state)
unfolding ticks
ticks-more n state = rw add-one refl

-- some ticks and then some more
pub ticks-add : (m n : ℕ) (state : State) → ticks (m + n) state ≡ ticks n (ticks m state)
unfolding ticks
ticks-add m zero state = rw add-zero refl
ticks-add m (suc n) state = rw add-suc (ap tick (ticks-add m n state))

-- a tick of a timer that stands
tick-stopped : (state : State) → state.run ≡ false → tick state ≡ state
tick-stopped state stopped = rw stopped refl

-- ticks of a timer that stands
pub ticks-stopped : (n : ℕ) (state : State) → state.run ≡ false → ticks n state ≡ state
unfolding ticks
ticks-stopped zero state stopped = refl
ticks-stopped (suc n) state stopped =
    rw (ticks-stopped n state stopped) (tick-stopped state stopped)

-- the state with another counter
abbrev with_counter : State → ℕ → State
with_counter state counter = record state { counter = counter }

-- a tick of a timer that runs, while its counter is not 0
tick-falls : (state : State) (n m : ℕ) → state.run ≡ true → n ≡ suc m → tick (with_counter state n) ≡ with_counter state m
tick-falls state n m running e = grind (arith, nat_tests)

-- ticks of a timer that runs, down to a counter of 0
pub ticks-running : (n : ℕ) (state : State) → state.run ≡ true → n ≤ state.counter → ticks n state ≡ with_counter state (state.counter - n)
unfolding ticks
ticks-running zero state running enough = grind arith
ticks-running (suc n) state running enough =
    ap tick (ticks-running n state running (omega arith)) ∙ tick-falls state (state.counter - n) (state.counter - suc n) running (omega arith)

-- the tick that finds a counter of 0
tick-ends : (state : State) → state.run ≡ true → tick (with_counter state 0) ≡ record state { to = true; counter = state.period; run = state.cont }
tick-ends state running = rw running refl

-- the ticks down to 0, and the one that finds it
pub ticks-round : (state : State) → state.run ≡ true → ticks (state.counter + 1) state ≡ record state { to = true; counter = state.period; run = state.cont }
ticks-round state running =
    let down : state.counter - state.counter ≡ 0 = omega arith in
    ticks-more state.counter state ∙ ap tick (ticks-running state.counter state running (omega arith)) ∙ ap (λ n. tick (with_counter state n)) down ∙ tick-ends state running

-- a round of a timer that goes on
pub ticks-whole_round : (state : State) → state.run ≡ true → state.cont ≡ true → state.counter ≡ state.period → ticks (state.period + 1) state ≡ record state { to = true }
ticks-whole_round state running goes_on full =
    ap (λ n. ticks (n + 1) state) (sym full) ∙ ticks-round state running ∙ (cc)

-- one tick
pub ticks-one : (state : State) → ticks 1 state ≡ tick state
unfolding ticks
ticks-one state = refl

-- Steps of which the first that is refused ends all.
use Rattle.std.proofs.Common.{◌≡◌, ap, sym, subst, ◌∙◌, Result, Ok, Err}
use Rattle.n2_inputs.specs.declared.refusal.Refusal.{Refusal}
use Rattle.n2_inputs.specs.declared.refusal.Failure.{Failure}
use Rattle.n2_inputs.specs.declared.refusal.Failure.TheVariants.{Refused, NoAnswer}
use Rattle.n2_inputs.specs.Files.{◌>>=◌}
use Rattle.n2_inputs.specs.Calls.{Gives}

-- a step that fails ends all
pub failed_step : {A B C D : Type 0} (seen : A → B) (shown : C → D) (step : Result B Refusal) (next : B → Result D Refusal) (failure : Failure) → Gives seen step (Err failure) → Gives shown (step >>= next) (Err failure)
failed_step seen shown step next (Refused refusal) h = ap (λ r. r >>= next) h
failed_step seen shown step next (NoAnswer cause) h = h

-- after a step that gives a value comes the next
pub after_step : {A B : Type 0} (step : Result A Refusal) (a : A) (next : A → Result B Refusal) (all : Result B Refusal) → step ≡ Ok a → next a ≡ all → (step >>= next) ≡ all
after_step step a next all e h = ap (λ s. s >>= next) e ∙ h

-- a step that fails after others ends all
pub failed_later : {A B C D : Type 0} (seen : A → B) (shown : C → D) (all : Result D Refusal) (step : Result B Refusal) (next : B → Result D Refusal) (failure : Failure) → all ≡ (step >>= next) → Gives seen step (Err failure) → Gives shown all (Err failure)
failed_later seen shown all step next failure e h = subst (λ (r : Result _ Refusal). Gives shown r (Err failure)) (sym e) (failed_step seen shown step next failure h)

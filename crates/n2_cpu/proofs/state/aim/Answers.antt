use Rattle.std.proofs.Common.{◌≡◌, ℕ, ◌/◌, ◌%◌, length, refl, sym, ap, ◌∙◌}
use Rattle.n2_front.specs.Core as fronts
use Rattle.n2_front.specs.Turn.{Evicts}
use Rattle.n2_cpu.proofs.Quiet.{kind_intent}
use Rattle.n2_cpu.proofs.state.aim.Goals as goal

same_set : (turn turn' evict evict' sets sets' set : ℕ) → turn ≡ turn' → evict ≡ evict' → sets ≡ sets' → set ≡ turn' / evict' % sets' → turn / evict % sets ≡ set
same_set turn turn' evict evict' sets sets' set e f g h = ap (λ (n : ℕ). n / evict % sets) e ∙ ap (λ (n : ℕ). turn' / n % sets) f ∙ ap (λ (n : ℕ). turn' / evict' % n) g ∙ sym h

pub returns-in-Sample-clause-intent : goal.returns-in-Sample-clause-intent
returns-in-Sample-clause-intent c = λ b book row d h r slots code are stands.
    kind_intent b c.args.layout.now c.args.clock.now.number row book d fronts.SampleTurn c.args.clock.now.turns h.turns (c.in-Sample.ensures.kind row h.sample h.evict)

pub returns-in-Evict-clause-intent : goal.returns-in-Evict-clause-intent
returns-in-Evict-clause-intent c = λ b book row d h r slots code are stands.
    kind_intent b c.args.layout.now c.args.clock.now.number row book d fronts.EvictTurn c.args.clock.now.turns h.turns (c.in-Evict.ensures.kind row h.sample h.evict)
    ∙ ap (λ (n : ℕ). Evicts n) (same_set d.turns c.args.clock.now.turns row.evict c.args.clock.now.evict (length d.data_slots) c.sets.result c.evicted_set.result h.turns h.evict (ap (λ x. length x) slots ∙ sym c.sets.ensures.count) c.evicted_set.ensures.set)

pub returns-in-Step-clause-intent : goal.returns-in-Step-clause-intent
returns-in-Step-clause-intent c = λ b book row d h r slots code are stands.
    kind_intent b c.args.layout.now c.args.clock.now.number row book d fronts.StepTurn c.args.clock.now.turns h.turns (c.in-Step.ensures.kind row h.sample h.evict)
    ∙ c.step.ensures.intent b book d r code are stands

pub returns-in-Step-clause-fit : goal.returns-in-Step-clause-fit
returns-in-Step-clause-fit c = c.step.ensures.fit (length c.args.dcache.now)

pub evicted_set-requires-clause-evicts : goal.evicted_set-requires-clause-evicts
evicted_set-requires-clause-evicts c = c.in-Evict.ensures.evicts refl

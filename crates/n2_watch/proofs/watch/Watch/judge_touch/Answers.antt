use Rattle.std.proofs.Common.{◌≡◌, ◌≢◌, Option, sym, subst}
use Rattle.std.specs.Prelude.{MatchOption}
use Rattle.n2_word.specs.Lines.{without_bypass}
use Rattle.n2_board.specs.declared.classes.Class.{Class}
use Rattle.n2_board.specs.declared.places.Place.TheVariants.{Memory}
use Rattle.n2_board.specs.AddressMap.{place}
use Rattle.n2_watch.specs.Discipline.{direction}
use Rattle.n2_watch.specs.Watched.{known}
use Rattle.n2_watch.proofs.Judging.{class_judged}
use Rattle.n2_watch.proofs.watch.Watch.judge_touch.Goals as goal

pub returns-in-Some-clause-breach : goal.returns-in-Some-clause-breach
returns-in-Some-clause-breach c = λ past h.
    let map = c.args.layout.now in
    let at = without_bypass c.args.address in
    let memory = subst (λ (o : Option Class). MatchOption o (place map at ≢ Memory) (λ _. place map at ≡ Memory)) c.in-Some.is (c.memory_class.ensures.memory at (sym c.line_of-line.ensures)) in
    class_judged map (known c.args.self.now past) c.args.address _ c.args.width (direction c.args.store) c.in-Some.class _ c.line_of-line.ensures memory c.in-Some.ensures.class
    (c.judge_class.ensures.breach map past h c.in-Some.ensures.class)

pub judge_outside-requires : goal.judge_outside-requires
judge_outside-requires c =
    let map = c.args.layout.now in
    let at = without_bypass c.args.address in
    subst (λ (o : Option Class). MatchOption o (place map at ≢ Memory) (λ _. place map at ≡ Memory)) c.in-None.is (c.memory_class.ensures.memory at (sym c.line_of-line.ensures))

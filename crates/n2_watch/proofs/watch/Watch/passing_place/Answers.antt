use Rattle.std.proofs.Common.{◌≡◌, ◌≢◌, Option, None, sym, subst, ap, ◌∙◌}
use Rattle.std.specs.Prelude.{MatchOption}
use Rattle.n2_word.specs.Lines.{without_bypass}
use Rattle.n2_board.specs.declared.classes.Class.{Class}
use Rattle.n2_board.specs.declared.places.Place.TheVariants.{Memory}
use Rattle.n2_board.specs.AddressMap.{place}
use Rattle.n2_watch.specs.declared.access.Judged.{Judged}
use Rattle.n2_watch.specs.Discipline.{direction}
use Rattle.n2_watch.specs.Judged.{breach_of}
use Rattle.n2_watch.specs.Watched.{known}
use Rattle.n2_watch.proofs.Judging.{class_judged}
use Rattle.n2_watch.proofs.watch.Watch.passing_place.Goals as goal

pub returns-in-Passed : goal.returns-in-Passed
returns-in-Passed c = λ past width h n.
    let map = c.args.layout.now in
    let at = without_bypass c.args.address in
    let memory = subst (λ (o : Option Class). MatchOption o (place map at ≢ Memory) (λ _. place map at ≡ Memory)) c.in-Some.is (c.memory_class.ensures.memory at (sym c.line_of-line.ensures)) in
    class_judged map (known c.args.self.now past) c.args.address _ width (direction c.args.store) c.in-Some.class None c.line_of-line.ensures memory c.in-Some.ensures.class
    (ap (λ (j : Judged). breach_of j) (sym c.in-Passed.is) ∙ c.judge_class.ensures.breach map past h c.in-Some.ensures.class)

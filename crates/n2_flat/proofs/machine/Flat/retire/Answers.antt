use Rattle.std.proofs.Common.{◌≡◌, Some, None, slice_get, ap, sym, subst, ◌∙◌}
use Rattle.std.specs.Option.{is_some}
use Rattle.n2_parts.specs.declared.stops.Act.TheVariants.{Retire}
use Rattle.n2_front.specs.Retire.{retired}
use Rattle.n2_runs.specs.FlatRun.{act}
use Rattle.n2_flat.specs.State.{State, CoreState, IsWhole, machine_of, acted_by}
use Rattle.n2_flat.proofs.Tasked.{on_ok}
use Rattle.n2_flat.proofs.Whole.{is_at, state_with, recent_whole, retired_end, retired_act, stopped_end, there, within, never}
use Rattle.n2_flat.proofs.machine.Flat.retire.Goals as goal

pub retire-requires-clause-at : goal.retire-requires-clause-at
retire-requires-clause-at c =
    let i = c.self.inside in
    let s : State = record { board = i.board; common = i.common; cores = i.cores.items; recent = i.recent } in
    let core = c.index_mut-core.result.now in
    let found : slice_get s.cores c.args.k ≡ Some core = there s.cores c.args.k core (within c.args.layout.now s c.args.self.now c.args.k c.self.view_is c.requires.whole c.requires.core) c.index_mut-core.ensures.value in
    let h : IsWhole c.args.layout.now s = subst (λ (x : State). IsWhole c.args.layout.now x) (sym c.self.view_is) c.requires.whole in
    is_at c.args.layout.now s c.args.k core h found

pub retire-requires-clause-aligned : goal.retire-requires-clause-aligned
retire-requires-clause-aligned c =
    let i = c.self.inside in
    let s : State = record { board = i.board; common = i.common; cores = i.cores.items; recent = i.recent } in
    let core = c.index_mut-core.result.now in
    let found : slice_get s.cores c.args.k ≡ Some core = there s.cores c.args.k core (within c.args.layout.now s c.args.self.now c.args.k c.self.view_is c.requires.whole c.requires.core) c.index_mut-core.ensures.value in
    let h : IsWhole c.args.layout.now s = subst (λ (x : State). IsWhole c.args.layout.now x) (sym c.self.view_is) c.requires.whole in
    (h.aligned c.args.k core found).pc

pub returns-then-is_some-clause-done : goal.returns-then-is_some-clause-done
returns-then-is_some-clause-done c =
    let i = c.self.inside in
    let s : State = record { board = i.board; common = i.common; cores = i.cores.items; recent = i.recent } in
    let core = c.index_mut-core.result.now in
    let found : slice_get s.cores c.args.k ≡ Some core = there s.cores c.args.k core (within c.args.layout.now s c.args.self.now c.args.k c.self.view_is c.requires.whole c.requires.core) c.index_mut-core.ensures.value in
    let h : IsWhole c.args.layout.now s = subst (λ (x : State). IsWhole c.args.layout.now x) (sym c.self.view_is) c.requires.whole in
    let stops = c.if-is_some.ensures ∙ ap (λ (x : CoreState). is_some x.front.stop) c.core.view_is in
    stopped_end c.args.layout.now s c.args.k core found stops
    ∙ ap (λ (x : State). act x.board c.args.layout.now (machine_of x) (Retire c.args.k)) c.self.view_is

pub returns-clause-done : goal.returns-clause-done
returns-clause-done c =
    let i = c.self.inside in
    let s : State = record { board = i.board; common = i.common; cores = i.cores.items; recent = i.recent } in
    let core = c.index_mut-core.result.now in
    let found : slice_get s.cores c.args.k ≡ Some core = there s.cores c.args.k core (within c.args.layout.now s c.args.self.now c.args.k c.self.view_is c.requires.whole c.requires.core) c.index_mut-core.ensures.value in
    let h : IsWhole c.args.layout.now s = subst (λ (x : State). IsWhole c.args.layout.now x) (sym c.self.view_is) c.requires.whole in
    let runs : core.front.stop ≡ None = never core.front.stop (c.if-is_some.ensures ∙ ap (λ (x : CoreState). is_some x.front.stop) c.core.view_is) in
    on_ok c.retire.result _ _
    (λ (e : acted_by c.retire.new.self c.retire.new.common ≡ retired s.board c.args.layout.now c.args.k core.front s.common.world).
    retired_act c.args.layout.now s c.args.k core c.retire.new.self c.retire.new.common found runs e
    ∙ ap (λ (x : State). act x.board c.args.layout.now (machine_of x) (Retire c.args.k)) c.self.view_is)
    c.retire.ensures.done

pub returns-clause-whole : goal.returns-clause-whole
returns-clause-whole c =
    let i = c.self.inside in
    let s : State = record { board = i.board; common = i.common; cores = i.cores.items; recent = i.recent } in
    let core = c.index_mut-core.result.now in
    let found : slice_get s.cores c.args.k ≡ Some core = there s.cores c.args.k core (within c.args.layout.now s c.args.self.now c.args.k c.self.view_is c.requires.whole c.requires.core) c.index_mut-core.ensures.value in
    let h : IsWhole c.args.layout.now s = subst (λ (x : State). IsWhole c.args.layout.now x) (sym c.self.view_is) c.requires.whole in
    recent_whole c.args.layout.now (state_with s c.args.k c.retire.new.self c.retire.new.common) c.retire.new.recent
    (retired_end c.args.layout.now s c.args.k core c.retire.new.self c.retire.new.common c.retire.result h found c.retire.ensures.done c.retire.ensures.same c.retire.ensures.common c.retire.ensures.wiring c.retire.ensures.watched)
    c.retire.ensures.recent

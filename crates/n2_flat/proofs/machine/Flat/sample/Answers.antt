use Rattle.std.proofs.Common.{◌≡◌, Some, None, slice_get, slice_set, ap, sym, subst, ◌∙◌}
use Rattle.std.specs.Option.{is_some}
use Rattle.n2_parts.specs.declared.stops.Act.TheVariants.{Sample}
use Rattle.n2_runs.specs.FlatRun.{act}
use Rattle.n2_flat.specs.State.{State, CoreState, CommonState, IsWhole, machine_of}
use Rattle.n2_flat.proofs.Whole.{is_at, sampled_whole, sampled_act, unsampled_end, there, within, never}
use Rattle.n2_flat.proofs.machine.Flat.sample.Goals as goal

pub sample-requires : goal.sample-requires
sample-requires c =
    let i = c.self.inside in
    let s : State = record { board = i.board; common = i.common; cores = i.cores.items; recent = i.recent } in
    let core = c.index_mut-core.result.now in
    let found : slice_get s.cores c.args.k ≡ Some core = there s.cores c.args.k core (within c.args.layout.now s c.args.self.now c.args.k c.self.view_is c.requires.whole c.requires.core) c.index_mut-core.ensures.value in
    let h : IsWhole c.args.layout.now s = subst (λ (x : State). IsWhole c.args.layout.now x) (sym c.self.view_is) c.requires.whole in
    is_at c.args.layout.now s c.args.k core h found

pub returns-then-is_some-clause-done : goal.returns-then-is_some-clause-done
returns-then-is_some-clause-done c =
    let i = c.self.inside in
    let s : State = record { board = i.board; common = i.common; cores = i.cores.items; recent = i.recent } in
    let core = c.index_mut-core.result.now in
    let found : slice_get s.cores c.args.k ≡ Some core = there s.cores c.args.k core (within c.args.layout.now s c.args.self.now c.args.k c.self.view_is c.requires.whole c.requires.core) c.index_mut-core.ensures.value in
    let h : IsWhole c.args.layout.now s = subst (λ (x : State). IsWhole c.args.layout.now x) (sym c.self.view_is) c.requires.whole in
    let stops = c.if-is_some.ensures ∙ ap (λ (x : CoreState). is_some x.front.stop) c.core.view_is in
    unsampled_end c.args.layout.now s c.args.k core found stops
    ∙ ap (λ (x : State). act x.board c.args.layout.now (machine_of x) (Sample c.args.k)) c.self.view_is

pub returns-clause-done : goal.returns-clause-done
returns-clause-done c =
    let i = c.self.inside in
    let s : State = record { board = i.board; common = i.common; cores = i.cores.items; recent = i.recent } in
    let core = c.index_mut-core.result.now in
    let found : slice_get s.cores c.args.k ≡ Some core = there s.cores c.args.k core (within c.args.layout.now s c.args.self.now c.args.k c.self.view_is c.requires.whole c.requires.core) c.index_mut-core.ensures.value in
    let h : IsWhole c.args.layout.now s = subst (λ (x : State). IsWhole c.args.layout.now x) (sym c.self.view_is) c.requires.whole in
    let runs : core.front.stop ≡ None = never core.front.stop (c.if-is_some.ensures ∙ ap (λ (x : CoreState). is_some x.front.stop) c.core.view_is) in
    ap (λ (m : CommonState). machine_of (record { board = s.board; common = m; cores = slice_set s.cores c.args.k c.sample.new.self; recent = s.recent })) c.sample.ensures.common
    ∙ sampled_act c.args.layout.now s c.args.k core c.sample.new.self found runs c.sample.ensures.done
    ∙ ap (λ (x : State). act x.board c.args.layout.now (machine_of x) (Sample c.args.k)) c.self.view_is

pub returns-clause-whole : goal.returns-clause-whole
returns-clause-whole c =
    let i = c.self.inside in
    let s : State = record { board = i.board; common = i.common; cores = i.cores.items; recent = i.recent } in
    let core = c.index_mut-core.result.now in
    let found : slice_get s.cores c.args.k ≡ Some core = there s.cores c.args.k core (within c.args.layout.now s c.args.self.now c.args.k c.self.view_is c.requires.whole c.requires.core) c.index_mut-core.ensures.value in
    let h : IsWhole c.args.layout.now s = subst (λ (x : State). IsWhole c.args.layout.now x) (sym c.self.view_is) c.requires.whole in
    subst (λ (m : CommonState). IsWhole c.args.layout.now (record { board = s.board; common = m; cores = slice_set s.cores c.args.k c.sample.new.self; recent = s.recent })) (sym c.sample.ensures.common)
    (sampled_whole c.args.layout.now s c.args.k core c.sample.new.self h found c.sample.ensures.past (c.sample.ensures.aligned (h.aligned c.args.k core found)) c.sample.ensures.watched)

use Rattle.std.proofs.Common.{◌≡◌, ℕ, ◌<◌, ◌∷◌, ◌++◌, [], List, length, slice_set, get_or, ap, ◌∙◌, arith}
use Rattle.std.proofs.Math.ListN.{length-set}
use Rattle.n2_flat.specs.State.{CommonState, with_sent}
use Rattle.n2_flat.proofs.Uarts.{put_back, got_set}
use Rattle.n2_flat.proofs.common.Common.unsend.Goals as goal

pub returns-then-uart-len : goal.returns-then-uart-len
returns-then-uart-len c = λ sent byte e.
    let i = c.self.inside in
    let is : i.sent.items ≡ slice_set sent c.args.uart (get_or sent c.args.uart [] ++ byte ∷ []) = ap (λ (x : CommonState). x.world.book.sent) c.self.view_is ∙ e in
    let lt : c.args.uart < length (slice_set sent c.args.uart (get_or sent c.args.uart [] ++ byte ∷ [])) = (let n = ap (λ (l : List (List ℕ)). length l) is in let t = c.if-uart-len.true in let u = c.len.ensures in omega arith) in
    let last : c.index_mut.result.now ≡ get_or sent c.args.uart [] ++ byte ∷ [] = c.index_mut.ensures.value ∙ ap (λ (l : List (List ℕ)). get_or l c.args.uart c.index_mut.result.now) is ∙ got_set sent c.args.uart (get_or sent c.args.uart [] ++ byte ∷ []) c.index_mut.result.now lt in
    let popped : c.pop.new.self ≡ get_or sent c.args.uart [] = c.pop.ensures (get_or sent c.args.uart []) byte last in
    let items : slice_set i.sent.items c.args.uart c.pop.new.self ≡ sent =
    ap (λ (l : List (List ℕ)). slice_set l c.args.uart c.pop.new.self) is
    ∙ put_back sent c.args.uart (get_or sent c.args.uart [] ++ byte ∷ []) c.pop.new.self [] (simp length-set at lt) popped in
    ap (λ (l : List (List ℕ)). with_sent (record { wiring = i.bus.wiring; world = record { memory = i.bus.shared.memory; book = record { devices = i.bus.shared.devices; sent = []; holders = i.holders.items } } }) l) items
    ∙ ap (λ (x : CommonState). with_sent x sent) c.self.view_is

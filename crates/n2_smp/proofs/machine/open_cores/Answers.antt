use Rattle.std.proofs.Common.{◌≡◌, ℕ, ◌+◌, ◌<◌, ◌++◌, List, [], ◌∷◌, length, slice_get, Some, ap, sym, ◌∙◌, subst, arith, length-append}
use Rattle.n2_elf.specs.declared.image.Image.{Image}
use Rattle.n2_cpu.specs.declared.state.State.{State}
use Rattle.n2_watch.specs.World.{start_world}
use Rattle.n2_front.specs.Core.{started_core}
use Rattle.n2_cpu.specs.Stands.{StandsFor}
use Rattle.n2_smp.specs.Standing.{IsOpened, AreOpened}
use Rattle.n2_smp.proofs.Cores.{one_some}
use Rattle.n2_smp.proofs.Machines.{indexed}
use Rattle.n2_smp.proofs.Opening.{push_each}
use Rattle.n2_smp.proofs.machine.open_cores.Goals as goal

pub loop-k-preserved : goal.loop-k-preserved
loop-k-preserved c =
    let here : slice_get c.args.images.now c.loop-k.k ≡ Some c.index-images-k.result = indexed c.args.images.now c.loop-k.k c.index-images-k.result c.loop-k-test.true c.index-images-k.is in
    let new : (image : Image) → slice_get c.args.images.now (length c.loop-k.cores.items) ≡ Some image → IsOpened c.args.board.now c.args.layout.now (length c.loop-k.cores.items) c.in_ok-open.field-0 image =
    subst (λ (n : ℕ). (image : Image) → slice_get c.args.images.now n ≡ Some image → IsOpened c.args.board.now c.args.layout.now n c.in_ok-open.field-0 image) (sym c.loop-k.invariant.count)
    (λ image there row images found.
    let same : c.index-images-k.result ≡ image = one_some c.index-images-k.result image _ here there in
    subst (λ (x : Image). StandsFor c.args.board.now c.args.layout.now c.loop-k.k c.in_ok-open.field-0 (started_core row x) (start_world c.args.board.now images)) same (c.in_ok-open.ensures row images found))
    in
    let all : AreOpened c.args.board.now c.args.layout.now (c.loop-k.cores.items ++ c.in_ok-open.field-0 ∷ []) c.args.images.now =
    λ k value image found. push_each (λ (j : ℕ) (s : State). (image : Image) → slice_get c.args.images.now j ≡ Some image → IsOpened c.args.board.now c.args.layout.now j s image)
    c.loop-k.cores.items c.in_ok-open.field-0 (λ j s e image there. c.loop-k.invariant.opened j s image e there) new k value found image
    in
    record {
      count = ap (λ (xs : List State). length xs) c.in_ok-push.ensures.items ∙ length-append c.loop-k.cores.items (c.in_ok-open.field-0 ∷ []) ∙ ap (λ n. n + 1) c.loop-k.invariant.count;
      opened = subst (λ (xs : List State). AreOpened c.args.board.now c.args.layout.now xs c.args.images.now) (sym c.in_ok-push.ensures.items) all;
    }

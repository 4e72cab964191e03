use Rattle.std.proofs.Common.{◌≡◌, ℕ, List, [], ◌∷◌, ◌++◌, ◌+◌, length, Some, slice_get, sym, ap, subst, inl, inr, ◌∙◌, arith, length-append}
use Rattle.std.proofs.lemmas.Option.{slice_get-get_or}
use Rattle.n2_parts.specs.declared.board.CoreRow.{CoreRow}
use Rattle.n2_elf.specs.declared.image.Image.{Image}
use Rattle.n2_flat.specs.State.{CoreState, IsStarted}
use Rattle.n2_flat.proofs.Started.{got_last}
use Rattle.n2_flat.proofs.opening.cores.Goals as goal

pub loop-k-preserved : goal.loop-k-preserved
loop-k-preserved c =
    let inv = c.loop-k.invariant in
    let items : c.push.new.self.items ≡ c.loop-k.cores.items ++ c.in_ok-core.core ∷ [] = c.in_ok-push.ensures.items in
    let k = c.loop-k.k in
    let long = c.requires.images in
    let row : slice_get c.args.board.now.core k ≡ Some c.row-item.result = ap (λ (rows : List CoreRow). slice_get rows k) (sym c.as_slice-row-items.ensures) ∙ slice_get-get_or c.as_slice-row-items.result.now k c.row-item.result (omega arith) ∙ ap (λ (x : CoreRow). Some x) (sym c.row-item.is) in
    let rows = ap (λ (rows : List CoreRow). length rows) c.as_slice-row-items.ensures in
    let image : slice_get c.args.images.now k ≡ Some c.index-images-k.result = slice_get-get_or c.args.images.now k c.index-images-k.result (omega arith) ∙ ap (λ (x : Image). Some x) (sym c.index-images-k.is) in
    let own : IsStarted c.args.board.now c.args.images.now c.args.layout.now k c.in_ok-core.core = record { row = c.row-item.result; image = c.index-images-k.result; row_is = row; image_is = image; front = c.in_ok-core.ensures.front; stands = c.in_ok-core.ensures.watch } in
    record {
      count = ap (λ (l : List CoreState). length l) items ∙ length-append c.loop-k.cores.items (c.in_ok-core.core ∷ []) ∙ ap (λ (n : ℕ). n + 1) inv.count;
      each = λ j core e. elim (got_last c.loop-k.cores.items c.in_ok-core.core j core (ap (λ (l : List CoreState). slice_get l j) (sym items) ∙ e)) [
        | inl there ↦ inv.each j core there
        | inr last ↦ subst (λ (x : CoreState). IsStarted c.args.board.now c.args.images.now c.args.layout.now j x) last.1 (subst (λ (i : ℕ). IsStarted c.args.board.now c.args.images.now c.args.layout.now i c.in_ok-core.core) (sym (last.0 ∙ inv.count)) own)
      ];
    }

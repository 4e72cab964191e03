-- The segments of an image that can be written hold their bytes.
use Rattle.std.proofs.Common.{List, [], ◌∷◌, Result, Ok, Err}
use Rattle.std.specs.Prelude.{IfOk}
use Rattle.std.specs.List.{AllByRecursion}
use Rattle.n2_elf.specs.declared.image.Segment.{Segment}
use Rattle.n2_elf.specs.Reading.{IsSized, HoldsItsBytes}
use Rattle.n2_elf.specs.Writing.{IsWritable, HasRoom}
use Rattle.n2_asm.specs.declared.faults.AsmFault.{AsmFault}
use Rattle.n2_asm.specs.declared.objects.Object.{Object}

rooms : (segments : List Segment) → AllByRecursion HasRoom segments → AllByRecursion HoldsItsBytes segments
rooms [] all = all
rooms (s ∷ segments) all = (all.0.bytes, rooms segments all.1)

pub object_sized : (r : Result Object AsmFault) → IfOk r (λ o. IsWritable o.image) → IfOk r (λ o. IsSized o.image)
object_sized (Ok o) writable = rooms o.image.segments writable.room
object_sized (Err fault) writable = tt

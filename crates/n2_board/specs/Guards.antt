-- Guards: what must be owned to touch a line.
use Rattle.std.specs.Prelude.{ℕ, ◌/◌, ◌%◌, ◌^◌, Bool, false, not, ◌&&◌, ◌==◌, Option, Some, None}
use Rattle.n2_board.specs.declared.classes.Class.{Class}
use Rattle.n2_board.specs.declared.guards.Guard.{Guard}
use Rattle.n2_board.specs.declared.guards.Guard.TheVariants as guards
use Rattle.n2_board.specs.declared.guards.Holder.{Holder}
use Rattle.n2_board.specs.declared.guards.Holder.TheVariants.{ByCore, ByMailbox}
use Rattle.n2_board.specs.declared.classes.Class.TheVariants.{Code, Private, Mutex, Passed, Uncached, Absent}

abbrev pub same_guard : Guard → Guard → Bool
same_guard (guards.Mutex m) (guards.Mutex n) = m == n
same_guard (guards.Mutex m) (guards.Passed s) = false
same_guard (guards.Passed r) (guards.Mutex n) = false
same_guard (guards.Passed r) (guards.Passed s) = r == s

-- the guard that a class names
abbrev pub guard_of : Class → Option Guard
guard_of Code = None
guard_of (Private core) = None
guard_of (Mutex mutex) = Some (guards.Mutex mutex)
guard_of (Passed region) = Some (guards.Passed region)
guard_of Uncached = None
guard_of Absent = None

-- the region that a class says is passed on
abbrev pub passed_region : Class → Option ℕ
passed_region Code = None
passed_region (Private core) = None
passed_region (Mutex mutex) = None
passed_region (Passed region) = Some region
passed_region Uncached = None
passed_region Absent = None

-- a mutex is owned by the core whose cpuid is its OWNER while its VALUE is not 0
abbrev pub owns_mutex : ℕ → ℕ → Bool
owns_mutex register cpuid = register / 2 ^ 16 == cpuid && not (register % 2 ^ 16 == 0)

-- a region is owned by the core that holds it
abbrev pub owns_region : Holder → ℕ → Bool
owns_region (ByCore core) k = core == k
owns_region (ByMailbox mailbox) k = false

use Rattle.std.proofs.Common.{refl}
use Rattle.n2_hal.specs.Routines.{routines_text, alt_dcache_flush, alt_dcache_flush_no_writeback, alt_dcache_flush_all, alt_icache_flush, alt_icache_flush_all, alt_irq_disable_all, alt_irq_enable_all, alt_putchar, alt_putstr, alt_getchar, altera_avalon_mutex_trylock, altera_avalon_mutex_lock, altera_avalon_mutex_unlock, altera_avalon_mutex_is_mine}
use Rattle.n2_hal.proofs.routines.Goals as goal

-- src/lib.rt:136:1
pub returns : goal.returns
unfolding routines_text alt_dcache_flush alt_dcache_flush_no_writeback alt_dcache_flush_all alt_icache_flush alt_icache_flush_all alt_irq_disable_all alt_irq_enable_all alt_putchar alt_putstr alt_getchar altera_avalon_mutex_trylock altera_avalon_mutex_lock altera_avalon_mutex_unlock altera_avalon_mutex_is_mine
returns c = refl

-- The source of the routines (Nios II Software Developer's Handbook, "HAL API Reference"; Embedded Peripherals IP
-- User Guide, "Mutex Core"). Arguments are in r4 and r5, the result is in r2.
use Rattle.std.specs.Prelude.{ℕ, List, ◌++◌, codes}

-- writes each line of a range back if it is dirty, and drops it
unfoldable pub alt_dcache_flush : List ℕ
alt_dcache_flush =
    codes "alt_dcache_flush:\n"
    ++ codes "    beq r5, r0, hal_2\n"
    ++ codes "    andi r6, r4, 31\n"
    ++ codes "    sub r7, r4, r6\n"
    ++ codes "    add r8, r4, r5\n"
    ++ codes "hal_1:\n"
    ++ codes "    flushda 0(r7)\n"
    ++ codes "    addi r7, r7, 32\n"
    ++ codes "    bltu r7, r8, hal_1\n"
    ++ codes "hal_2:\n"
    ++ codes "    ret\n"

-- drops each line of a range without writing it back
unfoldable pub alt_dcache_flush_no_writeback : List ℕ
alt_dcache_flush_no_writeback =
    codes "alt_dcache_flush_no_writeback:\n"
    ++ codes "    beq r5, r0, hal_4\n"
    ++ codes "    andi r6, r4, 31\n"
    ++ codes "    sub r7, r4, r6\n"
    ++ codes "    add r8, r4, r5\n"
    ++ codes "hal_3:\n"
    ++ codes "    initda 0(r7)\n"
    ++ codes "    addi r7, r7, 32\n"
    ++ codes "    bltu r7, r8, hal_3\n"
    ++ codes "hal_4:\n"
    ++ codes "    ret\n"

-- writes what every set of a data cache of up to 64 KiB holds back if it is dirty, and drops it
unfoldable pub alt_dcache_flush_all : List ℕ
alt_dcache_flush_all =
    codes "alt_dcache_flush_all:\n"
    ++ codes "    movui r6, 65504\n"
    ++ codes "hal_5:\n"
    ++ codes "    flushd 0(r6)\n"
    ++ codes "    subi r6, r6, 32\n"
    ++ codes "    bge r6, r0, hal_5\n"
    ++ codes "    ret\n"

-- drops each line of a range from the instruction cache
unfoldable pub alt_icache_flush : List ℕ
alt_icache_flush =
    codes "alt_icache_flush:\n"
    ++ codes "    beq r5, r0, hal_10\n"
    ++ codes "    andi r6, r4, 31\n"
    ++ codes "    sub r7, r4, r6\n"
    ++ codes "    add r8, r4, r5\n"
    ++ codes "hal_9:\n"
    ++ codes "    flushi r7\n"
    ++ codes "    addi r7, r7, 32\n"
    ++ codes "    bltu r7, r8, hal_9\n"
    ++ codes "hal_10:\n"
    ++ codes "    ret\n"

-- drops what every set of an instruction cache of up to 64 KiB holds
unfoldable pub alt_icache_flush_all : List ℕ
alt_icache_flush_all =
    codes "alt_icache_flush_all:\n"
    ++ codes "    movui r6, 65504\n"
    ++ codes "hal_11:\n"
    ++ codes "    flushi r6\n"
    ++ codes "    subi r6, r6, 32\n"
    ++ codes "    bge r6, r0, hal_11\n"
    ++ codes "    ret\n"

-- clears the status register, and gives what it was
unfoldable pub alt_irq_disable_all : List ℕ
alt_irq_disable_all =
    codes "alt_irq_disable_all:\n"
    ++ codes "    rdctl r2, ctl0\n"
    ++ codes "    wrctl ctl0, r0\n"
    ++ codes "    ret\n"

-- writes the status register
unfoldable pub alt_irq_enable_all : List ℕ
alt_irq_enable_all =
    codes "alt_irq_enable_all:\n"
    ++ codes "    wrctl ctl0, r4\n"
    ++ codes "    ret\n"

-- waits until the write queue of a UART has room, and writes a byte
unfoldable pub alt_putchar : List ℕ
alt_putchar =
    codes "alt_putchar:\n"
    ++ codes "    ldwio r6, 4(r5)\n"
    ++ codes "    srli r6, r6, 16\n"
    ++ codes "    beq r6, r0, alt_putchar\n"
    ++ codes "    stwio r4, 0(r5)\n"
    ++ codes "    mov r2, r4\n"
    ++ codes "    ret\n"

-- sends the bytes from an address on, up to the first zero
unfoldable pub alt_putstr : List ℕ
alt_putstr =
    codes "alt_putstr:\n"
    ++ codes "    ldbu r6, 0(r4)\n"
    ++ codes "    beq r6, r0, hal_13\n"
    ++ codes "hal_12:\n"
    ++ codes "    ldwio r7, 4(r5)\n"
    ++ codes "    srli r7, r7, 16\n"
    ++ codes "    beq r7, r0, hal_12\n"
    ++ codes "    stwio r6, 0(r5)\n"
    ++ codes "    addi r4, r4, 1\n"
    ++ codes "    br alt_putstr\n"
    ++ codes "hal_13:\n"
    ++ codes "    mov r2, r0\n"
    ++ codes "    ret\n"

-- waits until a UART has a byte, and gives it
unfoldable pub alt_getchar : List ℕ
alt_getchar =
    codes "alt_getchar:\n"
    ++ codes "    ldwio r6, 0(r4)\n"
    ++ codes "    andi r7, r6, 32768\n"
    ++ codes "    beq r7, r0, alt_getchar\n"
    ++ codes "    andi r2, r6, 255\n"
    ++ codes "    ret\n"

-- asks for a mutex with the core's own cpuid and a value; 0 where that reads back, else -1
unfoldable pub altera_avalon_mutex_trylock : List ℕ
altera_avalon_mutex_trylock =
    codes "altera_avalon_mutex_trylock:\n"
    ++ codes "    rdctl r6, ctl5\n"
    ++ codes "    slli r6, r6, 16\n"
    ++ codes "    or r6, r6, r5\n"
    ++ codes "    stwio r6, 0(r4)\n"
    ++ codes "    ldwio r7, 0(r4)\n"
    ++ codes "    beq r7, r6, hal_6\n"
    ++ codes "    movi r2, -1\n"
    ++ codes "    ret\n"
    ++ codes "hal_6:\n"
    ++ codes "    mov r2, r0\n"
    ++ codes "    ret\n"

-- asks for a mutex until it reads back as asked
unfoldable pub altera_avalon_mutex_lock : List ℕ
altera_avalon_mutex_lock =
    codes "altera_avalon_mutex_lock:\n"
    ++ codes "    rdctl r6, ctl5\n"
    ++ codes "    slli r6, r6, 16\n"
    ++ codes "    or r6, r6, r5\n"
    ++ codes "hal_7:\n"
    ++ codes "    stwio r6, 0(r4)\n"
    ++ codes "    ldwio r7, 0(r4)\n"
    ++ codes "    bne r7, r6, hal_7\n"
    ++ codes "    mov r2, r0\n"
    ++ codes "    ret\n"

-- gives a mutex back: the core's own cpuid and the value 0
unfoldable pub altera_avalon_mutex_unlock : List ℕ
altera_avalon_mutex_unlock =
    codes "altera_avalon_mutex_unlock:\n"
    ++ codes "    rdctl r6, ctl5\n"
    ++ codes "    slli r6, r6, 16\n"
    ++ codes "    stwio r6, 0(r4)\n"
    ++ codes "    ret\n"

-- 1 where a mutex has a value and the core's own cpuid, else 0
unfoldable pub altera_avalon_mutex_is_mine : List ℕ
altera_avalon_mutex_is_mine =
    codes "altera_avalon_mutex_is_mine:\n"
    ++ codes "    ldwio r6, 0(r4)\n"
    ++ codes "    mov r2, r0\n"
    ++ codes "    andi r7, r6, 65535\n"
    ++ codes "    beq r7, r0, hal_8\n"
    ++ codes "    srli r6, r6, 16\n"
    ++ codes "    rdctl r7, ctl5\n"
    ++ codes "    cmpeq r2, r6, r7\n"
    ++ codes "hal_8:\n"
    ++ codes "    ret\n"

-- all routines, one behind another
unfoldable pub routines_text : List ℕ
routines_text = codes ".align 4\n"
    ++ alt_dcache_flush
    ++ alt_dcache_flush_no_writeback
    ++ alt_dcache_flush_all
    ++ alt_icache_flush
    ++ alt_icache_flush_all
    ++ alt_irq_disable_all
    ++ alt_irq_enable_all
    ++ alt_putchar
    ++ alt_putstr
    ++ alt_getchar
    ++ altera_avalon_mutex_trylock
    ++ altera_avalon_mutex_lock
    ++ altera_avalon_mutex_unlock
    ++ altera_avalon_mutex_is_mine

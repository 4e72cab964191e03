use Rattle.std.proofs.Common.{arith}
use Rattle.n2_driver.proofs.Ending.{board_turns, few_turns}
use Rattle.n2_driver.proofs.chosen.most_turns.Goals as goal

pub overflow_mul-result : goal.overflow_mul-result
overflow_mul-result c =
    let few = few_turns c.len.result c.args.board.now.turns (let cores = (c.valid_boards.ensures.small c.args.board.now c.requires).core in let n = c.len.ensures in omega (arith, cores, n)) (board_turns c.args.board.now c.requires).few in
    omega (arith, few)

pub overflow_add-result : goal.overflow_add-result
overflow_add-result c =
    let few = few_turns c.len.result c.args.board.now.turns (let cores = (c.valid_boards.ensures.small c.args.board.now c.requires).core in let n = c.len.ensures in omega (arith, cores, n)) (board_turns c.args.board.now c.requires).few in
    let journal = c.from.ensures in
    let most = (board_turns c.args.board.now c.requires).journal in
    omega (arith, few, journal, most)

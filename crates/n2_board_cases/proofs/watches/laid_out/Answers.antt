use Rattle.n2_board_cases.proofs.watches.laid_out.Goals as goal

pub returns-in-Ok : goal.returns-in-Ok
returns-in-Ok c = record { valid = c.requires.valid; images = c.args.images.now; count = c.requires.images; maps = c.in-Ok.ensures.opened }

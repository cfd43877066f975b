use Rattle.parts_bench.proofs.print_both.Given as goal

abbrev pub ghost-is_same_again : goal.ghost-is_same_again
ghost-is_same_again g a = a.message.now

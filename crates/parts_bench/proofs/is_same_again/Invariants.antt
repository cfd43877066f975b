use Rattle.parts_bench.proofs.is_same_again.Given as goal

abbrev pub ghost-rejoin_detached : goal.ghost-rejoin_detached
ghost-rejoin_detached g a = g.text

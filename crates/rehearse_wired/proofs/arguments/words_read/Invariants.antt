use Rattle.rehearse_wired.proofs.arguments.words_read.Given as goal

abbrev pub decreases-loop-word : goal.decreases-loop-word
decreases-loop-word l = l.words.rest.len

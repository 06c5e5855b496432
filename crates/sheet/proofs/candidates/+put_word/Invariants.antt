-- `sheet::candidates::put_word` meets its contract: the word without its last character, and that. The measure is how many characters it may have. Assumes nothing.
use Rattle.sheet.proofs.candidates.+put_word.Given as goal

abbrev pub decreases-put_word : goal.decreases-put_word
decreases-put_word l = l.most

use Rattle.usage_text.proofs.PrintLemmas.{quoted_prints}
use Rattle.usage_text.proofs.laws.quoted_words_print.Goals as goal

pub returns : goal.returns
returns c = λ word. quoted_prints word

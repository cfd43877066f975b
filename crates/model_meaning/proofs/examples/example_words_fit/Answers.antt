use Rattle.std.proofs.Common.{[], refl}
use Rattle.model_meaning.specs.BoxMeaning.{LogRow}
use Rattle.model_meaning.specs.MeaningExamples.{example_guid}
use Rattle.model_meaning.proofs.WordLemmas.{example_are_words, falling_are_none}
use Rattle.model_meaning.proofs.examples.example_words_fit.Goals as goal

pub returns : goal.returns
returns c = record {
  rising = ((record { uid = 1; flags = 0; time = 1694498816; size = 0; map_uid = 1; guid = example_guid; words = [] }, refl), example_are_words);
  falling = λ f. falling_are_none f.1;
  no_message = λ f. absurd (cc f.0.1);
}

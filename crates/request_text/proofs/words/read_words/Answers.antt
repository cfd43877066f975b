use Rattle.std.proofs.Common.{sym, refl, string_bytes}
use Rattle.request_text.proofs.WordsLemmas.{two_words, three_and, said_only, said_some}
use Rattle.request_text.proofs.words.read_words.Goals as goal

pub returns-in-len2-clause-says : goal.returns-in-len2-clause-says
returns-in-len2-clause-says c =
    said_only c.read_two.result _ _ c.read_two.ensures.says
    (two_words string_bytes c.args.words.now c.verb-item.result c.word-item-then-words-lt3.result _ _ c.in-len2.len_at_least c.in-len2.len_below c.verb-item.is c.word-item-then-words-lt3.is
    (sym c.as_str-in-len2.ensures.value)
    (sym c.as_bytes.ensures.value))

pub returns-in-len3-up-clause-says : goal.returns-in-len3-up-clause-says
returns-in-len3-up-clause-says c =
    said_only c.read_more.result _ _ c.read_more.ensures.says
    (three_and string_bytes c.args.words.now _ c.verb-item-2.result c.first-item.result c.second-item.result _ _ _ c.in-len3-up.len_at_least c.verb-item-2.is c.first-item.is c.second-item.is refl
    (sym c.as_str-in-len3-up.ensures.value)
    (sym c.as_bytes-in-len3-up.ensures.value)
    (sym c.as_bytes-in-len3-up-2.ensures.value))

pub returns-in-len3-up-clause-memory : goal.returns-in-len3-up-clause-memory
returns-in-len3-up-clause-memory c = λ e.
    said_some _ _ (c.read_more.ensures.memory e)
    (three_and string_bytes c.args.words.now _ c.verb-item-2.result c.first-item.result c.second-item.result _ _ _ c.in-len3-up.len_at_least c.verb-item-2.is c.first-item.is c.second-item.is refl
    (sym c.as_str-in-len3-up.ensures.value)
    (sym c.as_bytes-in-len3-up.ensures.value)
    (sym c.as_bytes-in-len3-up-2.ensures.value))

use Rattle.std.proofs.Common.{◌≤◌, length, rules}
use Rattle.log_records.proofs.ListItemLemmas.{none_of, some_of}
use Rattle.log_records.proofs.WordTextLemmas.{words_none, words_over}
use Rattle.log_records.proofs.worded.only_words.Goals as goal

pub returns-in_default-2 : goal.returns-in_default-2
returns-in_default-2 c = words_none c.args.text.now c.in-Some.rest.now c.in-Some.count c.in-Some.ensures.0 (none_of _ _ _ c.in_default-2.is c.in_ok-texts.ensures)

pub returns-then-not-is_empty : goal.returns-then-not-is_empty
returns-then-not-is_empty c =
    let h = some_of _ _ _ _ c.in-Some-2.is c.in_ok-texts.ensures in
    let some : 1 ≤ length c.in-Some-2.rest.now = search rules in
    words_over c.args.text.now c.in-Some.rest.now c.in-Some-2.rest.now c.in-Some.count c.in-Some-2.texts c.in-Some.ensures.0 h.0 h.1 some

-- The nine numbers of an exercise.
use Rattle.std.specs.Prelude.{ℕ, not, List, [], count_by, length, sum_by, Option, if◌then◌else◌}
use Rattle.std.specs.List.{list_any}
use Rattle.mdbox_base.specs.declared.replies.Reply.{Reply}
use Rattle.model_meaning.specs.BoxMeaning.{BoxMeaning}
use Rattle.model_meaning.specs.MapMeaning.{MapMeaning}
use Rattle.mdbox_base.specs.Words.{count_different}
use Rattle.mail_ops.specs.Counting.{named_ids}
use Rattle.request_text.specs.Outcomes.{is_disk_no, is_no}
use Rattle.request_text.specs.SummaryText.{summary_text}
use Rattle.request_text.specs.declared.summary.Summary.{Summary}

-- how many octets the messages of a mailbox have whose log means this, and those of all mailboxes
abbrev pub box_octets : BoxMeaning → ℕ
box_octets box = sum_by (λ row. row.size) box.rows

abbrev pub octets_listed : List BoxMeaning → ℕ
octets_listed meanings = sum_by box_octets meanings

abbrev pub messages_listed : List BoxMeaning → ℕ
messages_listed meanings = sum_by (λ box. length box.rows) meanings

-- What replies tell, and logs that mean this: how many replies there are, how many aren't NO, and how many are; how many messages are
-- listed, and how many octets they have; and the four numbers of the request `counts`: records, listed messages, the sum of the counts
-- that are kept, and different instances that records name.
abbrev pub summary_of : List (Option Reply) → MapMeaning → List BoxMeaning → Summary
summary_of replies m meanings = record {
  requests = length replies;
  ok = count_by (λ one. not (is_no one)) replies;
  no = count_by is_no replies;
  messages = messages_listed meanings;
  octets = octets_listed meanings;
  records = length m.records;
  references = messages_listed meanings;
  counts = sum_by (λ row. row.count) m.records;
  instances = count_different (named_ids m);
}

-- What is printed: the nine lines; or nothing, if a reply says that the disk failed.
abbrev pub exercise_text : List (Option Reply) → MapMeaning → List BoxMeaning → List ℕ
exercise_text replies m meanings = if list_any is_disk_no replies then [] else summary_text (summary_of replies m meanings)

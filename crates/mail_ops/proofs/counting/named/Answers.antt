use Rattle.mail_ops.proofs.Common.{◌∙◌, ap, count_different}
use Rattle.std.proofs.lemmas.Cmp.{nat_list_cmp_total}
use Rattle.std.proofs.lemmas.Map.Views.{btree_set_len-from_list}
use Rattle.mail_ops.proofs.CountingLemmas.{different_ids}
use Rattle.mail_ops.proofs.counting.named.Goals as goal

pub returns : goal.returns
returns c = c.len.ensures.len ∙ (btree_set_len-from_list nat_list_cmp_total c.in_ok-ids.ids.items c.in_ok-different.different c.in_ok-different.ensures ∙ (different_ids c.in_ok-ids.ids.items ∙ ap count_different c.in_ok-ids.ensures))

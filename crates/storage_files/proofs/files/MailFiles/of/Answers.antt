use Rattle.std.proofs.Common.{rules, ap, ◌∙◌, map}
use Rattle.storage_files.specs.Files.{file_found}
use Rattle.storage_files.proofs.OrderLemmas.{order-found}
use Rattle.storage_files.proofs.files.MailFiles.of.Goals as goal

pub invariant_of-result : goal.invariant_of-result
invariant_of-result c =
    let is = c.in_ok-known.ensures ∙ ap (map file_found) c.as_slice.ensures in
    (rw is (order-found c.args.files c.args.highest c.requires.rising c.requires.below c.requires.last), search rules)

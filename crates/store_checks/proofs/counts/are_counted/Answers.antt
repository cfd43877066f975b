use Rattle.std.proofs.Common.{◌≡◌, ◌+◌, ℕ, List, take, take_all, get_or, sym, ◌∙◌, subst}
use Rattle.std.proofs.lemmas.List.{length-map}
use Rattle.model_meaning.specs.MapMeaning.{MapRecord}
use Rattle.store_checks.specs.declared.mailbox.CheckedBox.{CheckedBox}
use Rattle.store_checks.specs.Checked.{listed_by, listed_in, counts_in, AreTakenOff}
use Rattle.store_checks.proofs.CountLemmas.{none_off, off_then, off_long, used_then, no_mailbox, mailbox_next, mailbox_within, all_counted, miscounted}
use Rattle.store_checks.proofs.counts.are_counted.Goals as goal

pub loop-mailbox-init : goal.loop-mailbox-init
loop-mailbox-init c =
    let same : c.as_mut_slice-left.result.now ≡ counts_in c.args.map.now.meaning = c.as_mut_slice-left.ensures.value ∙ c.in_ok-counts.ensures in
    subst (λ (left : List ℕ). AreTakenOff (λ uid. listed_in uid (take 0 c.args.boxes.now)) c.args.map.now.meaning.records (counts_in c.args.map.now.meaning) left) (sym same)
    (none_off (λ uid. listed_in uid (take 0 c.args.boxes.now)) c.args.map.now.meaning.records (counts_in c.args.map.now.meaning) (λ k d lt. no_mailbox (get_or c.args.map.now.meaning.records k d).uid c.args.boxes.now) (length-map c.args.map.now.meaning.records (λ (row : MapRecord). row.count)))

pub take_off-requires : goal.take_off-requires
take_off-requires c = off_long _ c.args.map.now.meaning.records _ _ c.loop-mailbox.invariant

pub returns-then-not-take_off : goal.returns-then-not-take_off
returns-then-not-take_off c =
    miscounted c.args.boxes.now c.args.map.now.meaning.records
    (used_then (λ uid. listed_in uid (take c.loop-mailbox.mailbox-index c.args.boxes.now)) (λ uid. listed_by uid c.mailbox-item.result.index.meaning) (λ uid. listed_in uid c.args.boxes.now) c.args.map.now.meaning.records (counts_in c.args.map.now.meaning) c.loop-mailbox.left
    (λ uid. mailbox_within uid c.args.boxes.now c.loop-mailbox.mailbox-index c.mailbox-item.result c.loop-mailbox-test.true c.mailbox-item.is) c.loop-mailbox.invariant c.if-not-take_off.ensures)

pub loop-mailbox-preserved : goal.loop-mailbox-preserved
loop-mailbox-preserved c =
    off_then (λ uid. listed_in uid (take c.loop-mailbox.mailbox-index c.args.boxes.now)) (λ uid. listed_by uid c.mailbox-item.result.index.meaning) (λ uid. listed_in uid (take (c.loop-mailbox.mailbox-index + 1) c.args.boxes.now)) c.args.map.now.meaning.records (counts_in c.args.map.now.meaning) c.loop-mailbox.left c.take_off.new.left
    (λ uid. mailbox_next uid c.args.boxes.now c.loop-mailbox.mailbox-index c.mailbox-item.result c.loop-mailbox-test.true c.mailbox-item.is) c.loop-mailbox.invariant c.if-not-take_off.ensures

pub returns : goal.returns
returns c =
    let F : List CheckedBox → Type 0 = λ boxes. AreTakenOff (λ uid. listed_in uid boxes) c.args.map.now.meaning.records (counts_in c.args.map.now.meaning) c.loop-mailbox.left in
    all_counted c.args.boxes.now c.args.map.now.meaning.records c.loop-mailbox.left (subst F (take_all c.loop-mailbox.mailbox-index c.args.boxes.now c.loop-mailbox-test.false) c.loop-mailbox.invariant)

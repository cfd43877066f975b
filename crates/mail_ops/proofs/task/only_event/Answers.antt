use Rattle.mail_ops.proofs.Common.{sym, subst, Some, refl, Request, HasNotBegun, Steps, seen_of, no_claims}
use Rattle.mail_ops.specs.Requests.{Replies}
use Rattle.mail_ops.proofs.OnlyLogsLemmas.{ends_same, unchanged_keeps}
use Rattle.mail_ops.proofs.LeavingLemmas.{same_leaves}
use Rattle.mail_ops.proofs.WordsEventLemmas.{words_answer}
use Rattle.mail_ops.proofs.task.only_event.Goals as goal

pub returns-in-List-clause-does : goal.returns-in-List-clause-does
returns-in-List-clause-does g c = λ around after pins.
    subst (λ (q : Request). Steps HasNotBegun HasNotBegun around after q (seen_of pins c.args.store.now (g.D.Disk.history c.args.store.now.disk) (g.D.Disk.faults c.args.store.now.disk)) (seen_of pins c.args.store.now (g.D.Disk.history c.args.store.now.disk) (g.D.Disk.faults c.args.store.now.disk)) c.list.result.1 (Some c.list.result.0)) (sym c.in-List.is) (c.list.ensures.does around after pins)

pub returns-in-List-clause-replies : goal.returns-in-List-clause-replies
returns-in-List-clause-replies g c = subst (λ (q : Request). Replies q c.args.store.now c.args.store.now c.list.result.0) (sym c.in-List.is) c.list.ensures.replies

pub returns-in-Flag-clause-does : goal.returns-in-Flag-clause-does
returns-in-Flag-clause-does g c = λ around after pins.
    subst (λ (q : Request). Steps HasNotBegun HasNotBegun around after q (seen_of pins c.args.store.now (g.D.Disk.history c.args.store.now.disk) (g.D.Disk.faults c.args.store.now.disk)) (seen_of pins c.flag.new.store (g.D.Disk.history c.flag.new.store.disk) (g.D.Disk.faults c.flag.new.store.disk)) c.flag.result.1 (Some c.flag.result.0)) (sym c.in-Flag.is) (c.flag.ensures.does around after pins)

pub returns-in-Flag-clause-replies : goal.returns-in-Flag-clause-replies
returns-in-Flag-clause-replies g c = subst (λ (q : Request). Replies q c.args.store.now c.flag.new.store c.flag.result.0) (sym c.in-Flag.is) (λ why e. (c.flag.ensures.refused why e).0, c.flag.ensures.done)

pub returns-in-Keywords-clause-does : goal.returns-in-Keywords-clause-does
returns-in-Keywords-clause-does g c = λ around after pins.
    subst (λ (q : Request). Steps HasNotBegun HasNotBegun around after q (seen_of pins c.args.store.now (g.D.Disk.history c.args.store.now.disk) (g.D.Disk.faults c.args.store.now.disk)) (seen_of pins c.give_words.new.store (g.D.Disk.history c.give_words.new.store.disk) (g.D.Disk.faults c.give_words.new.store.disk)) c.give_words.result.1 (Some c.give_words.result.0)) (sym c.in-Keywords.is) (c.give_words.ensures.does around after pins)

pub returns-in-Keywords-clause-replies : goal.returns-in-Keywords-clause-replies
returns-in-Keywords-clause-replies g c = subst (λ (q : Request). Replies q c.args.store.now c.give_words.new.store c.give_words.result.0) (sym c.in-Keywords.is) (words_answer _ c.args.store.now c.give_words.new.store c.give_words.result.0 c.give_words.ensures.refused c.give_words.ensures.done)

pub returns-in-List-clause-leaves : goal.returns-in-List-clause-leaves
returns-in-List-clause-leaves g c = λ runs. same_leaves g.D.Disk.history no_claims c.args.store.now c.args.store.now refl

pub returns-in-List-clause-keeps : goal.returns-in-List-clause-keeps
returns-in-List-clause-keeps g c = unchanged_keeps _ _ _ _ c.args.store.now _ _ refl (ends_same _ _ _ c.list.ensures.stopped) refl

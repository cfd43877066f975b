use Rattle.mail_ops.proofs.Common.{true, ap, sym, subst, Some, StoreValue, HasNotBegun, Steps, ◌∙◌, [], refl, arith, option_copied, option_map, row_of, BoxState, seen_of, due_as_before, no_claims, fall, never_more, not_true, ok_is_none, plain_stopped}
use Rattle.std.proofs.Common.{Err}
use Rattle.mdbox_base.specs.Keywords.{AreWords}
use Rattle.mdbox_base.specs.declared.progress.Did.TheVariants as did
use Rattle.mdbox_base.specs.declared.progress.Progress.TheVariants as progress
use Rattle.mdbox_base.specs.declared.replies.Refusal.TheVariants as refusal
use Rattle.mdbox_base.specs.declared.replies.Reply.TheVariants as reply
use Rattle.mdbox_base.specs.declared.requests.Request.TheVariants as request
use Rattle.model_logs.specs.Entries.{WordsInRange}
use Rattle.model_logs.proofs.EntryLemmas.{words_in_range}
use Rattle.store_core.specs.Keeping.{KeepsRest}
use Rattle.mail_ops.specs.OnlyLogs.{ChangesOnlyLogs}
use Rattle.mail_ops.specs.declared.task.TaskStage.TheVariants as task_stage
use Rattle.mail_ops.proofs.FlagEventLemmas.{none_of, some_of}
use Rattle.mail_ops.proofs.WordsEventLemmas.{words_are_plain, words_bring_none, words_broken, words_done, words_known}
use Rattle.mail_ops.proofs.RemovalLemmas.{store_tells}
use Rattle.mail_ops.proofs.KeptUidLemmas.{words_left}
use Rattle.task_steps.proofs.OneEventLemmas.{plain_forgets, plain_refused}
use Rattle.mail_ops.proofs.OnlyLogsLemmas.{done_keeps, done_not, fell_keeps, halted_keeps, idle_keeps, refused_not, took_spares}
use Rattle.mail_ops.proofs.LeavingLemmas.{same_leaves, words_leave}
use Rattle.mail_ops.proofs.wording.give_words.Goals as goal

pub append_box-requires-clause-range : goal.append_box-requires-clause-range
append_box-requires-clause-range g c = (omega arith, subst (WordsInRange true) (sym c.in-Ok.ensures.ok) (words_in_range _ c.as_slice.ensures.words))

pub append_box-requires-clause-fits : goal.append_box-requires-clause-fits
append_box-requires-clause-fits g c = (
  c.in-Some.index.now.meaning,
  c.in-Some-number_of.ensures.some.0 ∙ (sym c.list_of.ensures ∙ ap (λ o. option_map (λ (i : BoxState). i.meaning) (option_copied o)) c.in-Some.is),
  (some_of row_of c.find.result _ c.if-is_none.ensures c.find.ensures, subst AreWords (sym c.in-Ok.ensures.ok) c.as_slice.ensures.words),
)

pub returns-then-stopped-clause-does : goal.returns-then-stopped-clause-does
returns-then-stopped-clause-does g c = λ around after pins run lane place said lists come shows stage. (
  plain_stopped around after run lane place said _ lists (seen_of pins c.args.store.now (g.D.Disk.history c.args.store.now.disk) (g.D.Disk.faults c.args.store.now.disk)) (words_are_plain c.args.name.now c.args.uid c.args.words.now) come shows stage (sym c.stopped.ensures ∙ c.if-stopped.true),
  λ e. absurd (never_more _ e),
)

pub returns-in_default-clause-does : goal.returns-in_default-clause-does
returns-in_default-clause-does g c = λ around after pins run lane place said lists come shows stage. (
  plain_refused around after run lane place said _ lists (seen_of pins c.args.store.now (g.D.Disk.history c.args.store.now.disk) (g.D.Disk.faults c.args.store.now.disk)) refusal.NoMailbox (words_are_plain c.args.name.now c.args.uid c.args.words.now) come shows stage (sym c.stopped.ensures ∙ c.if-stopped.false) refl refl
      (λ event. c.words_are_shown.ensures.no_mailbox run event _ _ lists c.args.name.now c.args.uid c.args.words.now shows.1 (sym c.list_of.ensures ∙ ap (λ o. option_map (λ (i : BoxState). i.meaning) (option_copied o)) c.in_default.is)),
  λ e. absurd (never_more _ e),
)

pub returns-then-is_none-clause-does : goal.returns-then-is_none-clause-does
returns-then-is_none-clause-does g c = λ around after pins run lane place said lists come shows stage. (
  plain_refused around after run lane place said _ lists (seen_of pins c.args.store.now (g.D.Disk.history c.args.store.now.disk) (g.D.Disk.faults c.args.store.now.disk)) refusal.NoMessage (words_are_plain c.args.name.now c.args.uid c.args.words.now) come shows stage (sym c.stopped.ensures ∙ c.if-stopped.false) refl refl
      (λ event. c.words_are_shown.ensures.no_message run event _ _ lists c.args.name.now c.args.uid c.args.words.now c.in-Some.index.now.meaning shows.1 (sym c.list_of.ensures ∙ ap (λ o. option_map (λ (i : BoxState). i.meaning) (option_copied o)) c.in-Some.is) (none_of row_of c.find.result _ c.if-is_none.ensures c.find.ensures)),
  λ e. absurd (never_more _ e),
)

pub returns-in-Ok-append_box-clause-does : goal.returns-in-Ok-append_box-clause-does
returns-in-Ok-append_box-clause-does g c = λ around after pins run lane place said lists come shows stage. (
  words_done around after run lane place said lists c.args.name.now c.in-Some-number_of.number.0 c.args.uid c.args.words.now c.in-Ok.words (seen_of pins c.args.store.now (g.D.Disk.history c.args.store.now.disk) (g.D.Disk.faults c.args.store.now.disk)) (seen_of pins c.append_box.new.self (g.D.Disk.history c.append_box.new.self.disk) (g.D.Disk.faults c.append_box.new.self.disk)) come stage
      (words_known run _ _ lists c.args.name.now c.in-Some-number_of.number.0 c.args.uid c.args.words.now c.in-Ok.words c.in-Some.index.now.meaning (some_of row_of c.find.result _ c.if-is_none.ensures c.find.ensures).0 shows.0 shows.1 (sym c.list_of.ensures ∙ ap (λ o. option_map (λ (i : BoxState). i.meaning) (option_copied o)) c.in-Some.is) (some_of row_of c.find.result _ c.if-is_none.ensures c.find.ensures).1 c.in-Some-number_of.ensures.some.1 (c.in-Ok.ensures.ok ∙ c.as_slice.ensures.same) (subst AreWords c.as_slice.ensures.same c.as_slice.ensures.words))
      (record {
        map_is = ap (λ v. v.map) c.in-Ok-append_box.ensures.same;
        drawn_is = ap (λ v. v.drawn) c.in-Ok-append_box.ensures.same;
        due_is = λ other. c.in-Ok-append_box.ensures.due c.in-Some.index.now.meaning other (c.in-Some-number_of.ensures.some.0 ∙ (sym c.list_of.ensures ∙ ap (λ o. option_map (λ (i : BoxState). i.meaning) (option_copied o)) c.in-Some.is));
        same = store_tells pins c.args.store.now c.append_box.new.self _ _ _ _ (λ runs. sym c.stopped.ensures ∙ c.if-stopped.false) (ap (λ v. v.map.store) c.in-Ok-append_box.ensures.same) (ap (λ v. v.drawn) c.in-Ok-append_box.ensures.same) (ap (λ v. v.files) c.in-Ok-append_box.ensures.same) (ap (λ v. v.instances) c.in-Ok-append_box.ensures.same);
        ran = sym c.stopped.ensures ∙ c.if-stopped.false;
        grows = c.in-Ok-append_box.ensures.grows;
        moments = λ ls. c.in-Ok-append_box.ensures.any_moment ls [] (words_bring_none c.args.store.now.map c.args.uid c.in-Ok.words [] (g.D.Disk.history c.args.store.now.disk));
        reads = let same = c.in-Ok-append_box.ensures.fault.reads in omega (arith, same);
        changes = c.in-Ok-append_box.ensures.fault.changes;
        mail = c.in-Ok-append_box.ensures.mail_stays c.args.store.now.map;
        unfailed = λ runs. c.in-Ok-append_box.ensures.unfailed;
      })
      (not_true _ (λ e. ok_is_none _ (c.in-Ok-append_box.ensures.stopped.1 e))) c.in-Ok-append_box.ensures.taken (λ ls. c.in-Ok-append_box.ensures.settled ls [] (words_bring_none c.args.store.now.map c.args.uid c.in-Ok.words [] (g.D.Disk.history c.args.store.now.disk))),
  λ e. absurd (never_more _ e),
)

pub returns-in-Err-Stopped-clause-does : goal.returns-in-Err-Stopped-clause-does
returns-in-Err-Stopped-clause-does g c = λ around after pins run lane place said lists come shows stage. (
  words_broken around after run lane place said lists c.args.name.now c.in-Some-number_of.number.0 c.args.uid c.args.words.now c.in-Ok.words (seen_of pins c.args.store.now (g.D.Disk.history c.args.store.now.disk) (g.D.Disk.faults c.args.store.now.disk)) (seen_of pins c.append_box.new.self (g.D.Disk.history c.append_box.new.self.disk) (g.D.Disk.faults c.append_box.new.self.disk)) come shows stage
      (words_known run _ _ lists c.args.name.now c.in-Some-number_of.number.0 c.args.uid c.args.words.now c.in-Ok.words c.in-Some.index.now.meaning (some_of row_of c.find.result _ c.if-is_none.ensures c.find.ensures).0 shows.0 shows.1 (sym c.list_of.ensures ∙ ap (λ o. option_map (λ (i : BoxState). i.meaning) (option_copied o)) c.in-Some.is) (some_of row_of c.find.result _ c.if-is_none.ensures c.find.ensures).1 c.in-Some-number_of.ensures.some.1 (c.in-Ok.ensures.ok ∙ c.as_slice.ensures.same) (subst AreWords c.as_slice.ensures.same c.as_slice.ensures.words))
      (record {
        map_is = ap (λ v. v.map) c.in-Err-Stopped.ensures.same;
        drawn_is = ap (λ v. v.drawn) c.in-Err-Stopped.ensures.same;
        due_is = λ other. due_as_before c.args.store.now c.append_box.new.self other (ap (λ v. v.map) c.in-Err-Stopped.ensures.same) (c.in-Err-Stopped.ensures.untaken refl).1;
        same = store_tells pins c.args.store.now c.append_box.new.self _ _ _ _ (λ runs. sym c.stopped.ensures ∙ c.if-stopped.false) (ap (λ v. v.map.store) c.in-Err-Stopped.ensures.same) (ap (λ v. v.drawn) c.in-Err-Stopped.ensures.same) (ap (λ v. v.files) c.in-Err-Stopped.ensures.same) (ap (λ v. v.instances) c.in-Err-Stopped.ensures.same);
        ran = sym c.stopped.ensures ∙ c.if-stopped.false;
        grows = c.in-Err-Stopped.ensures.grows;
        moments = λ ls. c.in-Err-Stopped.ensures.any_moment ls [] (words_bring_none c.args.store.now.map c.args.uid c.in-Ok.words [] (g.D.Disk.history c.args.store.now.disk));
        reads = let same = c.in-Err-Stopped.ensures.fault.reads in omega (arith, same);
        changes = c.in-Err-Stopped.ensures.fault.changes;
        mail = c.in-Err-Stopped.ensures.mail_stays c.args.store.now.map;
        unfailed = λ runs. absurd (fall _ (c.in-Err-Stopped.ensures.stopped.0 (ap Err c.in-Err-Stopped.field-0-is)) runs);
      })
      (c.in-Err-Stopped.ensures.stopped.0 (ap Err c.in-Err-Stopped.field-0-is)) (c.in-Err-Stopped.ensures.untaken refl).0 (c.in-Err-Stopped.ensures.fault.rose (ap Err c.in-Err-Stopped.field-0-is)),
  λ e. absurd (never_more _ e),
)

pub returns-then-stopped-clause-leaves : goal.returns-then-stopped-clause-leaves
returns-then-stopped-clause-leaves g c = λ runs. same_leaves g.D.Disk.history no_claims c.args.store.now c.args.store.now refl

pub returns-in_default-clause-leaves : goal.returns-in_default-clause-leaves
returns-in_default-clause-leaves g c = λ runs. same_leaves g.D.Disk.history no_claims c.args.store.now c.args.store.now refl

pub returns-then-is_none-clause-leaves : goal.returns-then-is_none-clause-leaves
returns-then-is_none-clause-leaves g c = λ runs. same_leaves g.D.Disk.history no_claims c.args.store.now c.args.store.now refl

pub returns-in-Ok-append_box-clause-leaves : goal.returns-in-Ok-append_box-clause-leaves
returns-in-Ok-append_box-clause-leaves g c = λ runs.
    let named = c.in-Some-number_of.ensures.some.0 ∙ (sym c.list_of.ensures ∙ ap (λ o. option_map (λ (i : BoxState). i.meaning) (option_copied o)) c.in-Some.is) in
    words_leave c.in-Some-number_of.number.0 c.args.uid c.in-Ok.words c.args.store.now c.append_box.new.self _ _ (ap (λ v. v.map) c.in-Ok-append_box.ensures.same) (ap (λ v. v.files) c.in-Ok-append_box.ensures.same) (ap (λ v. v.instances) c.in-Ok-append_box.ensures.same) c.in-Ok-append_box.ensures.taken c.in-Ok-append_box.ensures.others
    (words_left c.in-Some-number_of.number.0 c.args.uid c.in-Ok.words c.in-Some.index.now.meaning c.args.store.now c.append_box.new.self (ap (λ v. v.map) c.in-Ok-append_box.ensures.same) c.in-Ok-append_box.ensures.taken named) (let same = ap (λ v. v.map_log.room) c.in-Ok-append_box.ensures.same in omega (arith, same)) (ap (λ v. v.made) c.in-Ok-append_box.ensures.same) (let same = ap (λ v. v.map_log.end) c.in-Ok-append_box.ensures.same in omega (arith, same)) (λ other. c.in-Ok-append_box.ensures.due c.in-Some.index.now.meaning other named)

pub returns-in-Err-Stopped-clause-leaves : goal.returns-in-Err-Stopped-clause-leaves
returns-in-Err-Stopped-clause-leaves g c = λ runs. absurd (fall _ (c.in-Err-Stopped.ensures.stopped.0 (ap Err c.in-Err-Stopped.field-0-is)) runs)

pub returns-then-stopped-clause-keeps : goal.returns-then-stopped-clause-keeps
returns-then-stopped-clause-keeps g c = halted_keeps _ _ _ c.args.store.now _ _ (sym c.stopped.ensures ∙ c.if-stopped.true) refl refl

pub returns-in_default-clause-keeps : goal.returns-in_default-clause-keeps
returns-in_default-clause-keeps g c = idle_keeps _ _ _ _ c.args.store.now _ _ (sym c.stopped.ensures ∙ c.if-stopped.false) (refused_not refusal.NoMailbox (λ e. cc e)) refl

pub returns-then-is_none-clause-keeps : goal.returns-then-is_none-clause-keeps
returns-then-is_none-clause-keeps g c = idle_keeps _ _ _ _ c.args.store.now _ _ (sym c.stopped.ensures ∙ c.if-stopped.false) (refused_not refusal.NoMessage (λ e. cc e)) refl

pub returns-in-Ok-append_box-clause-keeps : goal.returns-in-Ok-append_box-clause-keeps
returns-in-Ok-append_box-clause-keeps g c =
    done_keeps _ _ _ _ c.args.store.now c.append_box.new.self _ _ _ _ (sym c.stopped.ensures ∙ c.if-stopped.false) (not_true _ (λ e. ok_is_none _ (c.in-Ok-append_box.ensures.stopped.1 e))) done_not c.in-Ok-append_box.ensures.unfailed
    (c.in-Ok-append_box.ensures.same ∙ sym (ap (λ v. record c.args.store.now { disk = v.disk; map_log = v.map_log; map = v.map; boxes = v.boxes; drawn = v.drawn; dues = v.dues; stopped = v.stopped }) c.in-Ok-append_box.ensures.same)) (took_spares _ _ _ c.in-Ok-append_box.ensures.mail_stays c.in-Ok-append_box.ensures.others)

pub returns-in-Err-Stopped-clause-keeps : goal.returns-in-Err-Stopped-clause-keeps
returns-in-Err-Stopped-clause-keeps g c =
    let failed = ap Err c.in-Err-Stopped.field-0-is in
    let fault = c.in-Err-Stopped.ensures.fault in
    fell_keeps _ _ _ c.args.store.now c.append_box.new.self _ _ _ _ (sym c.stopped.ensures ∙ c.if-stopped.false) (c.in-Err-Stopped.ensures.stopped.0 failed) fault.reads fault.changes (fault.rose failed)
    (c.in-Err-Stopped.ensures.same ∙ sym (ap (λ v. record c.args.store.now { disk = v.disk; map_log = v.map_log; map = v.map; boxes = v.boxes; drawn = v.drawn; dues = v.dues; stopped = v.stopped }) c.in-Err-Stopped.ensures.same)) c.in-Err-Stopped.ensures.mail_stays

pub returns-in_default-copied_texts-clause-does : goal.returns-in_default-copied_texts-clause-does
returns-in_default-copied_texts-clause-does g c = λ around after pins run lane place said lists come shows stage. (
  plain_forgets around after run lane place said _ lists (seen_of pins c.args.store.now (g.D.Disk.history c.args.store.now.disk) (g.D.Disk.faults c.args.store.now.disk)) (words_are_plain c.args.name.now c.args.uid c.args.words.now) come shows stage (sym c.stopped.ensures ∙ c.if-stopped.false),
  λ e. absurd (never_more _ e),
)

pub returns-in_default-copied_texts-clause-leaves : goal.returns-in_default-copied_texts-clause-leaves
returns-in_default-copied_texts-clause-leaves g c = λ runs. same_leaves g.D.Disk.history no_claims c.args.store.now c.args.store.now refl

pub returns-in_default-copied_texts-clause-keeps : goal.returns-in_default-copied_texts-clause-keeps
returns-in_default-copied_texts-clause-keeps g c = idle_keeps _ _ _ _ c.args.store.now _ _ (sym c.stopped.ensures ∙ c.if-stopped.false) (refused_not refusal.NoMemory (λ e. cc e)) refl

pub returns-clause-does : goal.returns-clause-does
returns-clause-does g c = λ around after pins.
    subst (λ (v : StoreValue _). Steps HasNotBegun HasNotBegun around after (request.Keywords c.args.name.now c.args.uid c.args.words.now) (seen_of pins c.args.store.now (g.D.Disk.history c.args.store.now.disk) (g.D.Disk.faults c.args.store.now.disk)) (seen_of pins v (g.D.Disk.history v.disk) (g.D.Disk.faults v.disk)) did.Quiet (Some (reply.Refused refusal.NoMemory)))
    (sym (c.in-Err-NoMemory.ensures.memory (ap Err c.in-Err-NoMemory.field-0-is)).0)
    (λ run lane place said lists come shows stage. (
      plain_forgets around after run lane place said _ lists (seen_of pins c.args.store.now (g.D.Disk.history c.args.store.now.disk) (g.D.Disk.faults c.args.store.now.disk)) (words_are_plain c.args.name.now c.args.uid c.args.words.now) come shows stage (sym c.stopped.ensures ∙ c.if-stopped.false),
      λ e. absurd (never_more _ e),
    ))

pub returns-clause-leaves : goal.returns-clause-leaves
returns-clause-leaves g c = λ runs. same_leaves g.D.Disk.history no_claims c.args.store.now c.append_box.new.self (c.in-Err-NoMemory.ensures.memory (ap Err c.in-Err-NoMemory.field-0-is)).0

pub returns-clause-keeps : goal.returns-clause-keeps
returns-clause-keeps g c =
    subst (λ (v : StoreValue _). ChangesOnlyLogs (KeepsRest c.args.store.now v) task_stage.First task_stage.First (progress.Done (reply.Refused refusal.NoMemory)) c.args.store.now v (g.D.Disk.history c.args.store.now.disk) (g.D.Disk.history v.disk) (g.D.Disk.faults c.args.store.now.disk) (g.D.Disk.faults v.disk))
    (sym (c.in-Err-NoMemory.ensures.memory (ap Err c.in-Err-NoMemory.field-0-is)).0)
    (idle_keeps _ _ _ _ c.args.store.now _ _ (sym c.stopped.ensures ∙ c.if-stopped.false) (refused_not refusal.NoMemory (λ e. cc e)) refl)

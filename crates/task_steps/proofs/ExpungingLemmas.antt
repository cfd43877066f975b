-- Both events of an expunge, by the one clause.
use Rattle.std.proofs.Common.{◌≡◌, ◌≤◌, ◌+◌, ◌==◌, ℕ, Bool, true, false, List, [], ◌∷◌, ◌++◌, Option, Some, None, refl, sym, ◌∙◌, ap, subst, arith}
use Rattle.std.specs.Prelude.{length, slice_get}
use Rattle.disk_model.specs.Disk.{History, Faults}
use Rattle.disk_model.specs.FaultCounts.{NoFault}
use Rattle.mdbox_base.specs.declared.ids.Uid.{Uid}
use Rattle.mdbox_base.specs.declared.replies.Refusal.{Refusal}
use Rattle.mdbox_base.specs.declared.replies.Refusal.TheVariants as refusal
use Rattle.mdbox_base.specs.declared.replies.Reply.{Reply}
use Rattle.mdbox_base.specs.declared.replies.Reply.TheVariants as reply
use Rattle.mdbox_base.specs.declared.requests.Request.TheVariants as request
use Rattle.model_lists.specs.Lists.{Mailbox, Lists}
use Rattle.model_kept.specs.Kept.{MailIsKept}
use Rattle.model_meaning.specs.BoxMeaning.{BoxMeaning}
use Rattle.model_meaning.specs.MapFits.{MapFits}
use Rattle.model_meaning.specs.MapMeaning.{MapRecord, MapMeaning}
use Rattle.list_machine.specs.Run.{First, RunEvent, Run, and_then}
use Rattle.journal.specs.Journal.{halves_of, IsReplyOf}
use Rattle.list_machine.specs.Machine.{mailbox_named, expunge, first_refusal, part_checks}
use Rattle.journal.specs.Events.{Around, IsRecord}
use Rattle.journal.specs.Stages.{Stage, ToRemove, ToLower, IsAtStage, removal, lowering}
use Rattle.journal.proofs.OwnEventLemmas.{own_more, own_other}
use Rattle.journal.proofs.RunLemmas.{comes_on_with}
use Rattle.mdbox_base.specs.declared.entries.MapEntry.TheVariants as entry
use Rattle.std.proofs.lemmas.Bool.{eq-eqb, ne_eqb}
use Rattle.journal.proofs.ExpungeLemmas.{removal_makes, lowering_makes}
use Rattle.disk_model.specs.Disk.{told_calls, Grows}
use Rattle.mdbox_base.specs.declared.script.Half.TheVariants as half
use Rattle.mdbox_base.specs.declared.progress.Did.TheVariants as did
use Rattle.task_steps.specs.Step.{Seen, ShowsSeen, FaultsGrow, HasComeTo, Leads, and_told, DidEvent, IsKept}
use Rattle.task_steps.specs.ExpungeStages.{StandsAtStage, one_due, behind_box, behind_lowering}
use Rattle.task_steps.proofs.SeenLemmas.{comes_to_on, no_guids}

fall : (b : Bool) → b ≡ true → b ≡ false → ⊥
fall b t f = let k : true ≡ false = sym t ∙ f in cc k

no_refusal : (r : Refusal) → None ≡ Some r → ⊥
no_refusal r e = cc e

no_reply : (r : Reply) → None ≡ Some r → ⊥
no_reply r e = cc e

done_is : Some reply.Done ≡ Some (reply.Refused refusal.Stopped) → ⊥
done_is e = let k : reply.Done ≡ reply.Refused refusal.Stopped = cc e in cc k

done_as : (r : Reply) → Some reply.Done ≡ Some r → reply.Done ≡ r
done_as r e = cc e

same_test : (n : ℕ) → (n == n) ≡ true
same_test n = eq-eqb n n refl

box_due : (owed uid due : ℕ) → (due + one_due owed uid) + 0 ≡ due + (0 + (0 + one_due owed uid))
box_due owed uid due = omega arith

lowering_due : (owed uid due before : ℕ) → due + one_due owed uid ≡ before → due + (0 + (0 + (0 + one_due owed uid))) ≡ before + 0
lowering_due owed uid due before e = omega (arith, e)

none_grew : (old new : Faults) → NoFault old new → FaultsGrow ⊥ old new
none_grew old new same = subst (λ (f : Faults). FaultsGrow ⊥ old f) (sym same) (record { reads = omega arith; changes = omega arith; rose = λ x. absurd x })

-- Both stages are kept by events of other requests.
pub expunges_are_kept : (stage : Stage) → IsKept (StandsAtStage stage)
expunges_are_kept ToRemove run place said event e new stood = (own_other place run event (ne_eqb event.request place e) ∙ stood.0, stood.1)
expunges_are_kept (ToLower uid) run place said event e new stood = (subst (λ (es : List RunEvent). IsAtStage (ToLower uid) es) (sym (own_other place run event (ne_eqb event.request place e))) stood.0, stood.1)

-- The message is removed: a step, and the task goes on.
pub removing : (around after : Around) (run : Run) (lane place : ℕ) (said : List Reply) (name : List ℕ) (uid : Uid) (lists : Lists) (old : Seen) (meanings : List BoxMeaning) (history : Option History) (faults : Faults) (mailbox : Mailbox) (row : MapRecord)
    → HasComeTo run old → StandsAtStage ToRemove run place said → old.stopped ≡ false → first_refusal run lists (part_checks run (removal lane place mailbox uid row.uid (told_calls history)) (request.Expunge name uid) First) ≡ None
    → mailbox_named name lists ≡ Some mailbox → IsRecord run lists name uid.0 row → ShowsSeen (behind_box old meanings row.uid history faults) (expunge name uid.0 lists) → Leads lists (expunge name uid.0 lists) old (behind_box old meanings row.uid history faults) → Grows old.history history → MailIsKept old.map old.history history → NoFault old.faults faults
    → (d : DidEvent around after run lane place said (request.Expunge name uid) lists old (behind_box old meanings row.uid history faults) (did.Step half.Whole) None) × StandsAtStage (ToLower row.uid) (and_then run d.makes.event) place (and_told said d.makes.answer)
unfolding removal_makes
removing around after run lane place said name uid lists old meanings history faults mailbox row come stage runs allowed there is_record shows leads grows mail unfailed =
    let event : RunEvent = removal lane place mailbox uid row.uid (told_calls history) in
    let k = removal_makes around after run lane place name uid lists old.map old.drawn (told_calls old.history) (told_calls history) mailbox row come.come grows stage.0 allowed there is_record in (
      record {
        left = expunge name uid.0 lists;
        shown = shows;
        makes = k.0;
        found = tt;
        come = comes_to_on run event old (behind_box old meanings row.uid history faults) come k.0.come (λ uid. box_due row.uid uid (old.due uid)) (record { made = refl; pins = refl; unpins = refl; doomed = refl; removed = refl; given = refl; placed = refl; gone = refl }) (record { ran = λ e. e; pins = λ file. refl; doomed = λ file. refl; used = λ file. refl; barred = λ file. refl; gave = λ guid. refl; gone = λ instance. refl; files = λ file. refl; instances = λ instance. refl });
        gives = no_guids run event refl;
        went = (refl, refl, runs, leads);
        grows = grows;
        mail = mail;
        ends = record {
          in_turn = λ some. ap (λ (s : List Reply). slice_get (halves_of (request.Expunge name uid)) (length s)) stage.1;
          replied = λ r e. absurd (no_reply r e);
          halts = record { 0 = λ e. absurd (no_reply (reply.Refused refusal.Stopped) e); 1 = λ e. absurd (fall old.stopped e runs) };
          still = λ e. absurd (fall old.stopped e runs);
          reads = λ e. absurd (no_refusal refusal.ReadFault e);
          faults = none_grew old.faults faults unfailed;
          unfailed = λ read change. unfailed;
        };
      },
      (subst (λ (es : List RunEvent). IsAtStage (ToLower row.uid) es) (sym (own_more place run event (same_test place))) k.1, ap (λ (s : List Reply). s ++ reply.Done ∷ []) stage.1),
    )

-- The count is lowered: no step, and the request ends with what its step said.
pub lowering_ends : (around after : Around) (run : Run) (lane place : ℕ) (said : List Reply) (name : List ℕ) (uid : Uid) (lists : Lists) (old : Seen) (owed : ℕ) (due : ℕ → ℕ) (history : Option History) (faults : Faults)
    → HasComeTo run old → StandsAtStage (ToLower owed) run place said → old.stopped ≡ false → MapFits old.map (entry.D (record { 0 = owed } ∷ [])) → ((uid : ℕ) → due uid + one_due owed uid ≡ old.due uid) → ShowsSeen (behind_lowering old owed due history faults) lists → Leads lists lists old (behind_lowering old owed due history faults) → Grows old.history history → MailIsKept old.map old.history history → NoFault old.faults faults
    → DidEvent around after run lane place said (request.Expunge name uid) lists old (behind_lowering old owed due history faults) did.Quiet (Some reply.Done)
unfolding lowering_makes
lowering_ends around after run lane place said name uid lists old owed due history faults come stage runs fits owes shows leads grows mail unfailed = record {
  left = lists;
  shown = shows;
  makes = lowering_makes around after run lane place name uid lists old.map old.drawn (told_calls old.history) (told_calls history) owed come.come grows stage.0 (subst (λ (m : MapMeaning). MapFits m (entry.D (record { 0 = owed } ∷ []))) (sym come.come.map_is) fits);
  found = tt;
  come = comes_to_on run (lowering lane place owed (told_calls history)) old (behind_lowering old owed due history faults) come
      (comes_on_with run (lowering lane place owed (told_calls history)) (entry.D (record { 0 = owed } ∷ [])) old.map old.drawn (told_calls old.history) come.come grows refl)
      (λ uid. lowering_due owed uid (due uid) (old.due uid) (owes uid)) (record { made = refl; pins = refl; unpins = refl; doomed = refl; removed = refl; given = refl; placed = refl; gone = refl }) (record { ran = λ e. e; pins = λ file. refl; doomed = λ file. refl; used = λ file. refl; barred = λ file. refl; gave = λ guid. refl; gone = λ instance. refl; files = λ file. refl; instances = λ instance. refl });
  gives = no_guids run (lowering lane place owed (told_calls history)) refl;
  went = (refl, refl, leads);
  grows = grows;
  mail = mail;
  ends = record {
    in_turn = λ some. absurd (let k : false ≡ true = some in cc k);
    replied = λ r e. subst (λ (x : Reply). IsReplyOf (request.Expunge name uid) said x) (done_as r e) stage.1;
    halts = record { 0 = λ e. absurd (done_is e); 1 = λ e. absurd (fall old.stopped e runs) };
    still = λ e. absurd (fall old.stopped e runs);
    reads = λ e. absurd (no_refusal refusal.ReadFault e);
    faults = none_grew old.faults faults unfailed;
    unfailed = λ read change. unfailed;
  };
}

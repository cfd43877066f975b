-- A request alone, as it is printed; and one whose store wasn't opened.
use Rattle.std.specs.Prelude.{◌≡◌, ◌⊎◌, ℕ, Bool, true, false, if◌then◌else◌, List, Option, Some}
use Rattle.std.proofs.Common.{refl, sym, ◌∙◌, ap, subst, inl, inr}
use Rattle.disk_model.specs.Disk.{History, Faults}
use Rattle.disk_model.specs.FaultCounts.{NoFault, AnyFaultCounted}
use Rattle.disk_model.proofs.MomentLemmas.{each_image-map}
use Rattle.mdbox_base.specs.declared.replies.Refusal.TheVariants as refusal
use Rattle.mdbox_base.specs.declared.replies.Reply.{Reply}
use Rattle.mdbox_base.specs.declared.replies.Reply.TheVariants as reply
use Rattle.mdbox_base.specs.declared.requests.Request.{Request}
use Rattle.mdbox_base.specs.declared.requests.Request.TheVariants as request
use Rattle.model_lists.specs.Lists.{Lists}
use Rattle.model_store.specs.Safe.{Safe}
use Rattle.list_machine.specs.Machine.{delete_mailbox, rename_mailbox, set_flags}
use Rattle.journal.specs.Journal.{is_read_fault}
use Rattle.store_open.specs.declared.error.OpenError.{OpenError}
use Rattle.store_open.specs.declared.error.OpenError.TheVariants as error
use Rattle.mail_ops.specs.Copy.{copied_lists}
use Rattle.request_text.specs.Outcomes.{status_of}
use Rattle.request_text.specs.ReplyText.{fetched_text, reply_text, single_text}
use Rattle.request_text.specs.declared.outcome.Outcome.{Outcome}
use Rattle.request_text.specs.declared.outcome.Outcome.TheVariants as outcome
use Rattle.script_run.specs.Opening.{IsUnopened}
use Rattle.script_run.specs.One.{moved_lists}
use Rattle.script_run.specs.Script.{is_fetch}
use Rattle.script_run.proofs.SealedLemmas.{mail_keeps_sealed}
use Rattle.mdbox_top.specs.DeliverRun.{AreSaved, SaveMoments}
use Rattle.mdbox_top.specs.Changed.{ChangeMoments}
use Rattle.mdbox_top.specs.OpeningOutcome.{opening_outcome}
use Rattle.mdbox_top.specs.Served.{ShowsReply, RequestOutcome}
use Rattle.mdbox_top.specs.Alone.{ReplyTells, RequestMoments, RequestRests, MayFail, IsDoneAlone}
use Rattle.mdbox_top.proofs.RequestLemmas.{faulted_is, failed_outcome, failed_status}
use Rattle.mdbox_top.proofs.ListLemmas.{list_calm, list_runs}
use Rattle.mdbox_top.proofs.CountsLemmas.{counts_calm, counts_run}
use Rattle.mdbox_top.specs.ExpungeRun.{lists_without_message}
use Rattle.mdbox_top.specs.KeywordsRun.{lists_with_words}
use Rattle.mdbox_top.proofs.MakeLemmas.{SafeForMade}

-- ---- how it is printed

single_is : (request : Request) (given : Reply) → (if is_fetch request then fetched_text given else reply_text given) ≡ single_text request given
single_is (request.Fetch name uid) given = refl
single_is other given = refl

pub shows_text : (request : Request) (given : Reply) (octets_alone : Bool) (h k : Option (List ℕ)) (o : Outcome) → octets_alone ≡ is_fetch request → ShowsReply (if octets_alone then fetched_text given else reply_text given) given h k o → ShowsReply (single_text request given) given h k o
shows_text request given octets_alone h k o is s = subst (λ (text : List ℕ). ShowsReply text given h k o) (ap (λ (b : Bool). if b then fetched_text given else reply_text given) is ∙ single_is request given) s

-- a fault of the disk ends with a status that says so, or may hide it
may_fail : (request : Request) (text : List ℕ) (given : Reply) (h k : Option (List ℕ)) (old new : Option History) (o : Outcome) → ReplyTells request old new given → ShowsReply text given h k o → (given ≡ reply.Refused refusal.ReadFault) ⊎ (given ≡ reply.Refused refusal.Stopped)
    → MayFail request (status_of o)
may_fail (request.List name) text given h k old new o l s (inl read) = absurd (let e : true ≡ false = sym (ap (λ (r : Reply). is_read_fault (Some r)) read) ∙ list_calm name old new given l in cc e)
may_fail (request.List name) text given h k old new o l s (inr stopped) = absurd (list_runs name old new given l stopped)
may_fail request.Counts text given h k old new o l s (inl read) = absurd (let e : true ≡ false = sym (ap (λ (r : Reply). is_read_fault (Some r)) read) ∙ counts_calm old new given l in cc e)
may_fail request.Counts text given h k old new o l s (inr stopped) = absurd (counts_run old new given l stopped)
may_fail other text given h k old new o l s failed = failed_status text given h k o s (failed_outcome given failed)

rests_as : (request : Request) (F G : Type 0) (began now : Faults) (old new : Option History) → (F → G) → RequestRests request F began now old new → RequestRests request G began now old new
rests_as (request.Deliver name time octets) F G began now old new h r = λ none. r (λ failed. none (h failed))
rests_as (request.List name) F G began now old new h r = λ none. r (λ failed. none (h failed))
rests_as (request.Fetch name uid) F G began now old new h r = λ none. r (λ failed. none (h failed))
rests_as (request.Flag name uid flags) F G began now old new h r = λ none. r (λ failed. none (h failed))
rests_as (request.Expunge name uid) F G began now old new h r = λ none. r (λ failed. none (h failed))
rests_as (request.Keywords name uid words) F G began now old new h r = λ none. r (λ failed. none (h failed))
rests_as (request.Copy name uid target) F G began now old new h r = λ none. r (λ failed. none (h failed))
rests_as (request.Move name uid target) F G began now old new h r = λ none. r (λ failed. none (h failed))
rests_as (request.Make name) F G began now old new h r = λ none. r (λ failed. none (h failed))
rests_as (request.Delete name) F G began now old new h r = λ none. r (λ failed. none (h failed))
rests_as (request.Rename name target) F G began now old new h r = λ none. r (λ failed. none (h failed))
rests_as request.Counts F G began now old new h r = λ none. r (λ failed. none (h failed))
rests_as request.Resync F G began now old new h r = λ none. r (λ failed. none (h failed))
rests_as request.Purge F G began now old new h r = λ none. r (λ failed. none (h failed))

pub served_rests : (request : Request) (text : List ℕ) (given : Reply) (h k : Option (List ℕ)) (old new : Option History) (began now : Faults) (o : Outcome) → IsDoneAlone request given old new began now → ShowsReply text given h k o → RequestRests request (MayFail request (status_of o)) began now old new
served_rests request text given h k old new began now o done s = rests_as request (given ≡ reply.Refused refusal.Stopped) (MayFail request (status_of o)) began now old new (λ stopped. may_fail request text given h k old new o done.tells s (inr stopped)) done.rests

pub served_fault : (request : Request) (text : List ℕ) (given : Reply) (h k : Option (List ℕ)) (old new : Option History) (began now : Faults) (o : Outcome) → IsDoneAlone request given old new began now → ShowsReply text given h k o → AnyFaultCounted (o ≡ outcome.DiskFault) began now
served_fault request text given h k old new began now o done s = record {
  reads = done.faults.reads;
  changes = done.faults.changes;
  rose = λ e. elim (faulted_is text given h k o s e) [ inl read ↦ inl (done.faults.read_fault read) | inr stopped ↦ inr (done.faults.stopped stopped) ];
}

pub served_quiet : (request : Request) (text : List ℕ) (given : Reply) (h k : Option (List ℕ)) (old new : Option History) (began now : Faults) (o : Outcome) → IsDoneAlone request given old new began now → ShowsReply text given h k o → (MayFail request (status_of o) → ⊥) → NoFault began now
served_quiet request text given h k old new began now o done s calls =
    done.faults.unfailed (λ read. calls (may_fail request text given h k old new o done.tells s (inl read))) (λ stopped. calls (may_fail request text given h k old new o done.tells s (inr stopped)))

-- ---- the store was not opened

unopened_may : (request : Request) (why : OpenError) → why ≡ error.DiskFault → MayFail request (status_of (opening_outcome why))
unopened_may (request.List name) why e = ap (λ (w : OpenError). status_of (opening_outcome w)) e
unopened_may request.Counts why e = ap (λ (w : OpenError). status_of (opening_outcome w)) e
unopened_may other why e = inl (ap (λ (w : OpenError). status_of (opening_outcome w)) e)

pub unopened_ends : {D : Type 0} → (request : Request) (h : Option (List ℕ)) (old new : Option History) (began now : Faults) (why : OpenError) → IsUnopened why old new began now → RequestOutcome D (ReplyTells request) request h h old new began now (opening_outcome why)
unopened_ends request h old new began now why u = inl (record { why = why; ended_is = refl; unprinted = refl; leaves = u })

change_unopened_leaves : (change : Lists → Lists) (old new : Option History) (began now : Faults) (why : OpenError) → IsUnopened why old new began now → ChangeMoments change old new
change_unopened_leaves change old new began now why u = λ lists at. each_image-map (λ _ image. Safe image lists) (λ _ image. Safe image lists ⊎ Safe image (change lists)) old new (λ m image h. inl h) (u.moments lists at)

save_unopened_leaves : (name : List ℕ) (time : ℕ) (octets : List ℕ) (old new : Option History) (began now : Faults) (why : OpenError) → IsUnopened why old new began now → SaveMoments name time octets old new
save_unopened_leaves name time octets old new began now why u = λ lists at.
    each_image-map (λ _ image. Safe image lists) (λ _ image. Safe image lists ⊎ ((some : Lists) × AreSaved name time octets lists some × Safe image some)) old new (λ m image h. inl h) (u.moments lists at)

pub unopened_leaves : (request : Request) (old new : Option History) (began now : Faults) (why : OpenError) → IsUnopened why old new began now → RequestMoments request old new
unopened_leaves (request.List name) old new began now why u = record { safe = u.moments; stays = u.stays; closed_well = u.closed_well }
unopened_leaves request.Counts old new began now why u = record { safe = u.moments; stays = u.stays; closed_well = u.closed_well }
unopened_leaves request.Resync old new began now why u = u.moments
unopened_leaves request.Purge old new began now why u = record { safe = u.moments; sealed = mail_keeps_sealed old new u.stays }
unopened_leaves (request.Flag name uid flags) old new began now why u = change_unopened_leaves (set_flags name uid.0 flags) old new began now why u
unopened_leaves (request.Expunge name uid) old new began now why u = change_unopened_leaves (lists_without_message name uid) old new began now why u
unopened_leaves (request.Keywords name uid words) old new began now why u = change_unopened_leaves (lists_with_words name uid words) old new began now why u
unopened_leaves (request.Copy name uid target) old new began now why u = change_unopened_leaves (copied_lists name uid target) old new began now why u
unopened_leaves (request.Move name uid target) old new began now why u = λ lists at.
    each_image-map (λ _ image. Safe image lists) (λ _ image. Safe image lists ⊎ (Safe image (copied_lists name uid target lists) ⊎ Safe image (moved_lists name uid target lists))) old new (λ m image h. inl h) (u.moments lists at)
unopened_leaves (request.Make name) old new began now why u = λ lists at. each_image-map (λ _ image. Safe image lists) (SafeForMade name old lists) old new (λ m image h. inl h) (u.moments lists at)
unopened_leaves (request.Delete name) old new began now why u = change_unopened_leaves (delete_mailbox name) old new began now why u
unopened_leaves (request.Rename name target) old new began now why u = change_unopened_leaves (rename_mailbox name target) old new began now why u
unopened_leaves (request.Deliver name time octets) old new began now why u = save_unopened_leaves name time octets old new began now why u
unopened_leaves (request.Fetch name uid) old new began now why u = record { safe = u.moments; stays = u.stays; closed_well = u.closed_well }

pub unopened_rests : (request : Request) (old new : Option History) (began now : Faults) (why : OpenError) → IsUnopened why old new began now → RequestRests request (MayFail request (status_of (opening_outcome why))) began now old new
unopened_rests (request.List name) old new began now why u = λ none. (u.settled_again (λ f. none (unopened_may (request.List name) why f)), u.carried (λ f. none (unopened_may (request.List name) why f)))
unopened_rests request.Counts old new began now why u = λ none. (u.settled_again (λ f. none (unopened_may request.Counts why f)), u.carried (λ f. none (unopened_may request.Counts why f)))
unopened_rests request.Resync old new began now why u = λ none. u.settled_again (λ f. none (unopened_may request.Resync why f))
unopened_rests request.Purge old new began now why u = λ none. u.settled_again (λ f. none (unopened_may request.Purge why f))
unopened_rests (request.Flag name uid flags) old new began now why u = λ none lists at. inl (u.settled_again (λ f. none (unopened_may (request.Flag name uid flags) why f)) lists at)
unopened_rests (request.Expunge name uid) old new began now why u = λ none lists at. inl (u.settled_again (λ f. none (unopened_may (request.Expunge name uid) why f)) lists at)
unopened_rests (request.Keywords name uid words) old new began now why u = λ none lists at. inl (u.settled_again (λ f. none (unopened_may (request.Keywords name uid words) why f)) lists at)
unopened_rests (request.Copy name uid target) old new began now why u = λ none lists at. inl (u.settled_again (λ f. none (unopened_may (request.Copy name uid target) why f)) lists at)
unopened_rests (request.Move name uid target) old new began now why u = λ none lists at. inl (u.settled_again (λ f. none (unopened_may (request.Move name uid target) why f)) lists at)
unopened_rests (request.Make name) old new began now why u = λ none lists at. inl (u.settled_again (λ f. none (unopened_may (request.Make name) why f)) lists at)
unopened_rests (request.Delete name) old new began now why u = λ none lists at. inl (u.settled_again (λ f. none (unopened_may (request.Delete name) why f)) lists at)
unopened_rests (request.Rename name target) old new began now why u = λ none lists at. inl (u.settled_again (λ f. none (unopened_may (request.Rename name target) why f)) lists at)
unopened_rests (request.Deliver name time octets) old new began now why u = λ none lists at. inl (u.settled_again (λ f. none (unopened_may (request.Deliver name time octets) why f)) lists at)
unopened_rests (request.Fetch name uid) old new began now why u = λ none. (u.settled_again (λ f. none (unopened_may (request.Fetch name uid) why f)), u.carried (λ f. none (unopened_may (request.Fetch name uid) why f)))

pub unopened_quiet : (request : Request) (old new : Option History) (began now : Faults) (why : OpenError) → IsUnopened why old new began now → (MayFail request (status_of (opening_outcome why)) → ⊥) → NoFault began now
unopened_quiet request old new began now why u calls = u.unfailed (λ f. calls (unopened_may request why f))

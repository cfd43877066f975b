-- A resync alone, by the script that it is.
use Rattle.std.specs.Prelude.{◌≡◌, ℕ, zero, suc, false, List, [], ◌∷◌, count_by, Option, Some}
use Rattle.std.proofs.Common.{refl, sym, ◌∙◌, ap, subst, inl, inr, arith}
use Rattle.disk_model.specs.Disk.{Faults, History}
use Rattle.mdbox_base.specs.declared.replies.Refusal.TheVariants as refusal
use Rattle.mdbox_base.specs.declared.replies.Reply.{Reply}
use Rattle.mdbox_base.specs.declared.replies.Reply.TheVariants as reply
use Rattle.mdbox_base.specs.declared.requests.Request.{Request}
use Rattle.mdbox_base.specs.declared.requests.Request.TheVariants as request
use Rattle.model_lists.specs.Lists.{Lists}
use Rattle.model_meaning.specs.BoxMeaning.{BoxMeaning}
use Rattle.model_meaning.specs.MapMeaning.{MapMeaning}
use Rattle.model_store.specs.Settled.{IsSettledFor}
use Rattle.journal.specs.Journal.{RoseBy, is_read_fault}
use Rattle.request_text.specs.Outcomes.{reply_outcome, status_of}
use Rattle.request_text.specs.declared.outcome.Outcome.{Outcome}
use Rattle.script_run.specs.Done.{MayBeServed}
use Rattle.script_run.specs.Faults.{HasReadFault}
use Rattle.script_run.specs.LeftOpen.{IsRequestDone}
use Rattle.script_run.specs.One.{IsUndoneAlone, alone}
use Rattle.script_run.specs.Resynced.{IsResyncAnswer}
use Rattle.script_run.specs.Script.{has_fetch}
use Rattle.script_run.proofs.AloneLemmas.{may_read}
use Rattle.script_run.proofs.SomeListsLemmas.{some_lists}
use Rattle.script_run.proofs.UnchangedLemmas.{listed_safe, unchanged_since}
use Rattle.mdbox_top.specs.Alone.{IsDoneAlone}
use Rattle.mdbox_top.specs.InputRun.{IsOneOf}
use Rattle.mdbox_top.specs.ResyncRun.{IsResyncReply, MayReplyResync, ResyncOutcome}
use Rattle.tasks_alone.specs.FaultsAlone.{FaultsByReply}
use Rattle.mdbox_top.proofs.CountsLemmas.{opening_one, others_of, shown_one}
use Rattle.mdbox_top.proofs.OneStepLemmas.{stopped_one}
use Rattle.mdbox_top.proofs.RequestLemmas.{opening_number, request_status}
use Rattle.mdbox_top.specs.OpeningOutcome.{opening_outcome}

abbrev ResyncDone : Reply → Option History → Option History → Faults → Faults → Type 0
ResyncDone given old new began now = IsRequestDone request.Resync given old new began now

-- it may be served from some lists, whatever the files are
pub served_some : (asked : Request) (given : Reply) (old new : Option History) (began now : Faults) → IsRequestDone asked given old new began now → has_fetch (alone asked) ≡ false → MayBeServed (alone asked) old
served_some asked given old new began now w fetches = let some = some_lists old w.done.m w.done.meanings w.done.opened in (some.0, may_read asked fetches some.0 old)

-- ---- its faults

unread_one : (given : Reply) → (given ≡ reply.Refused refusal.ReadFault → ⊥) → HasReadFault (given ∷ []) → ⊥
unread_one given calm (zero, l, is) = calm is
unread_one given calm (suc n, l, is) = omega (arith, l)

other_refusal : (given : Reply) → given ≡ reply.Refused refusal.Stopped → given ≡ reply.Refused refusal.ReadFault → ⊥
other_refusal given stopped read = let k : reply.Refused refusal.Stopped ≡ reply.Refused refusal.ReadFault = sym stopped ∙ read in cc k

-- of any request that fetches no message
pub alone_faults : (asked : Request) (given : Reply) (old new : Option History) (began now : Faults) → IsRequestDone asked given old new began now → has_fetch (alone asked) ≡ false → FaultsByReply given began now
alone_faults asked given old new began now w fetches =
    let f = w.done.faults (served_some asked given old new began now w fetches) in
    record {
      reads = f.counted;
      changes = f.changes;
      read_fault = λ e.
          let once : count_by is_read_fault (Some given ∷ []) ≡ 1 = ap (λ (r : Reply). count_by is_read_fault (Some r ∷ [])) e in
          subst (λ (n : ℕ). RoseBy n began.reads now.reads) once f.reads;
      read_alone = λ e. f.unchanged (stopped_one given (λ stopped. other_refusal given stopped e));
      stopped = λ e. f.stopped (0, omega arith, e);
      change_alone = λ e. w.done.counts.calm fetches (unread_one given (other_refusal given e));
      unfailed = λ calm running. f.quiet (unread_one given calm) (stopped_one given running);
    }

-- ---- what it replies

answer_given : (given : Reply) (read : Option History) (m : MapMeaning) (meanings : List BoxMeaning) (later : MapMeaning) (later_meanings : List BoxMeaning) → IsResyncAnswer given read m meanings later later_meanings → MayReplyResync given
answer_given (reply.Resynced corrected damaged) read m meanings later later_meanings a = tt
answer_given (reply.Refused refusal.NoMemory) read m meanings later later_meanings a = tt
answer_given (reply.Refused refusal.ReadFault) read m meanings later later_meanings a = tt
answer_given (reply.Refused refusal.Stopped) read m meanings later later_meanings a = tt
answer_given given read m meanings later later_meanings a = absurd a

resynced_runs : (given : Reply) (corrected damaged : ℕ) → given ≡ reply.Resynced corrected damaged → given ≡ reply.Refused refusal.Stopped → ⊥
resynced_runs given corrected damaged d s = let k : reply.Resynced corrected damaged ≡ reply.Refused refusal.Stopped = sym d ∙ s in cc k

resync_tells : (given : Reply) (old new : Option History) (began now : Faults) → ResyncDone given old new began now → IsResyncReply old new given
resync_tells given old new began now w = record {
  m = w.done.m;
  meanings = w.done.meanings;
  opened = w.done.opened;
  given_is = answer_given given w.done.leaves.opened w.done.m w.done.meanings w.later w.later_meanings w.comes.resynced;
  mail = record {
    generation = w.done.leaves.generation;
    opened = w.done.leaves.opened;
    swept = w.done.leaves.swept;
    stays = w.done.stays (refl, λ delivers. served_some request.Resync given old new began now w refl);
    mail = λ running. w.done.leaves.mail refl refl (stopped_one given running);
  };
  done = λ corrected damaged e. record {
    map = w.later;
    listings = w.later_meanings;
    opens = w.comes.again (stopped_one given (resynced_runs given corrected damaged e));
    resynced = subst (λ (r : Reply). IsResyncAnswer r w.done.leaves.opened w.done.m w.done.meanings w.later w.later_meanings) e w.comes.resynced;
  };
  refused = λ why e running. unchanged_since request.Resync given w.entries old new began now w.done (w.undone (subst (λ (r : Reply). IsUndoneAlone (alone request.Resync) (r ∷ [])) (sym e) running));
  settled = λ running lists at. (listed_safe request.Resync given w.entries old new began now w.done refl lists at).1 (stopped_one given running);
}

pub resync_done : (given : Reply) (old new : Option History) (began now : Faults) → ResyncDone given old new began now → IsDoneAlone request.Resync given old new began now
resync_done given old new began now w = record {
  tells = resync_tells given old new began now w;
  moments = λ lists at. (listed_safe request.Resync given w.entries old new began now w.done refl lists at).0;
  rests = λ none lists at. (listed_safe request.Resync given w.entries old new began now w.done refl lists at).1 (stopped_one given (λ e. none e ((alone_faults request.Resync given old new began now w refl).stopped e)));
  faults = alone_faults request.Resync given old new began now w refl;
}

-- ---- its status

-- it is replied without a `NO` but for want of memory or by a failed call
given_number : (given : Reply) → MayReplyResync given → status_of (reply_outcome given) ≡ 1 → ⊥
given_number (reply.Resynced corrected damaged) may one = omega (arith, one)
given_number (reply.Refused refusal.NoMemory) may one = omega (arith, one)
given_number (reply.Refused refusal.ReadFault) may one = omega (arith, one)
given_number (reply.Refused refusal.Stopped) may one = omega (arith, one)
given_number given may one = absurd may

never_refused : {D : Type 0} → (h k : Option (List ℕ)) (old new : Option History) (f g : Faults) (o : Outcome) → ResyncOutcome D h k old new f g o → status_of o ≡ 1 → ⊥
never_refused h k old new f g o (inl n) one = opening_one (status_of (opening_outcome n.why)) (opening_number n.why) (sym (ap status_of n.ended_is) ∙ one)
never_refused h k old new f g o (inr l) one = given_number l.given l.tells.given_is (shown_one _ l.given h k o l.printed one)

pub resync_status : {D : Type 0} → (h k : Option (List ℕ)) (old new : Option History) (f g : Faults) (o : Outcome) → ResyncOutcome D h k old new f g o → (lists : Lists) → IsSettledFor lists old → IsOneOf (0 ∷ 5 ∷ 6 ∷ 8 ∷ []) (status_of o)
resync_status h k old new f g o e lists s = others_of (status_of o) (request_status IsResyncReply request.Resync h k old new f g o e lists s) (never_refused h k old new f g o e)

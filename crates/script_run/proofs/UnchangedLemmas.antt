-- A store that is as the opening left it, and a request alone that only reads.
use Rattle.std.specs.Prelude.{◌≡◌, ℕ, Bool, true, false, not, ◌||◌, List, [], ◌∷◌, Option, Some, None}
use Rattle.std.proofs.Common.{refl, sym, ◌∙◌, ap, subst, inl}
use Rattle.disk_model.specs.Disk.{Between, DiskState, EachImage, Faults, History, IsIdle, SameState}
use Rattle.disk_model.proofs.IdleLemmas.{idle-then, same_state-on}
use Rattle.disk_model.proofs.MomentLemmas.{each_image-map, if_told-map}
use Rattle.mdbox_base.specs.declared.replies.Reply.{Reply}
use Rattle.mdbox_base.specs.declared.requests.Request.{Request}
use Rattle.mdbox_base.specs.declared.script.JournalEntry.{JournalEntry}
use Rattle.model_lists.specs.Lists.{Lists}
use Rattle.model_meaning.proofs.SameMeaningLemmas.{means_along, means_back}
use Rattle.model_meaning.specs.BoxMeaning.{BoxMeaning}
use Rattle.model_meaning.specs.MapMeaning.{MapMeaning, map_meaning}
use Rattle.model_store.specs.Safe.{Safe}
use Rattle.model_store.specs.Settled.{IsSettledFor, files_of}
use Rattle.store_open.specs.Opened.{IsClosedWell, IsOpenedAs, StoreCarries}
use Rattle.store_sweep.specs.Moments.{IdleIf}
use Rattle.store_sweep.specs.Swept.{IsSwept}
use Rattle.task_steps.specs.Serves.{IsReached}
use Rattle.script_run.specs.Done.{IsScriptDone}
use Rattle.script_run.specs.One.{OpensUnchanged, alone}
use Rattle.script_run.specs.Script.{HasStopped, has_change, only_reads}
use Rattle.script_run.proofs.AloneLemmas.{leaves_lists, left_still, reached_still, reads_leave}
use Rattle.script_run.proofs.DoneLemmas.{settled_safe}
use Rattle.script_run.proofs.ReopenedLemmas.{good_opened}

-- ---- what is the same since

between_same : (R : DiskState → DiskState → Type 0) (a b c : Option History) → Between R a b → SameState b c → Between R a c
between_same R None b c r s = subst (λ (h : Option History). SameState h c) r s
between_same R (Some a) None c r s = absurd r
between_same R (Some a) (Some b) None r s = absurd s
between_same R (Some a) (Some b) (Some c) r s = subst (λ (d : DiskState). R a.now d) (sym s) r

-- they open again, with logs that mean the same
still_opened : (old new : Option History) (m : MapMeaning) (meanings : List BoxMeaning) → IsOpenedAs old m meanings → StoreCarries old new → IsOpenedAs new m meanings
still_opened None new m meanings o carry = subst (λ (h : Option History). IsOpenedAs h m meanings) (sym carry) o
still_opened (Some old) None m meanings o carry = absurd carry
still_opened (Some old) (Some new) m meanings o carry =
    let again = carry.again m.store o.entries o.logs o.opens in
    record {
      entries = again.later;
      logs = again.later_logs;
      good = good_opened (files_of new.now) m.store again.later again.later_logs again.opens;
      opens = again.opens;
      means = means_along (map_meaning m.store again.later) (map_meaning m.store o.entries) m (means_back (map_meaning m.store o.entries) (map_meaning m.store again.later) again.means) o.means;
      meanings_are = o.meanings_are ∙ sym again.boxes;
    }

swept_still : (generation : ℕ) (m : MapMeaning) (old mid new : Option History) → IsSwept generation m old mid → SameState mid new → IsSwept generation m old new
swept_still generation m old mid new s same = record {
  reads = between_same _ old mid new s.reads same;
  only = same_state-on _ mid new same s.only;
  kept = between_same _ old mid new s.kept same;
  mail = between_same _ old mid new s.mail same;
  ends = same_state-on _ mid new same s.ends;
  names = between_same _ old mid new s.names same;
}

-- Where nothing has changed since the opening, the files open again with logs that mean the same, and have the same mail.
pub unchanged_since : (asked : Request) (given : Reply) (entries : List JournalEntry) (old new : Option History) (began now : Faults) → (done : IsScriptDone (alone asked) (given ∷ []) entries old new began now) → IsIdle done.leaves.opened new → OpensUnchanged done.m done.meanings old new
unchanged_since asked given entries old new began now done idle =
    let carried : StoreCarries old new = between_same _ old done.leaves.opened new done.leaves.carried idle.same in (
      still_opened old new done.m done.meanings done.opened carried,
      carried,
      (done.leaves.generation, swept_still done.leaves.generation done.m old done.leaves.opened new done.leaves.swept idle.same),
    )

pub closed_since : (old mid new : Option History) → IdleIf IsClosedWell old mid → IsIdle mid new → IdleIf IsClosedWell old new
closed_since old mid new closed idle = if_told-map (λ disk. IsClosedWell disk → IsIdle old mid) (λ disk. IsClosedWell disk → IsIdle old new) old (λ disk is well. idle-then old mid new (is well) idle) closed

-- ---- a request that only reads

pub changes_none : (asked : Request) → only_reads asked ≡ true → has_change (alone asked) ≡ false
changes_none asked reads = ap (λ (b : Bool). not b || false) reads

-- Of a disk that was settled for lists each image since the beginning is safe for them, and it is settled for them again, unless the
-- store is stopped.
pub listed_safe : (asked : Request) (given : Reply) (entries : List JournalEntry) (old new : Option History) (began now : Faults) → IsScriptDone (alone asked) (given ∷ []) entries old new began now → leaves_lists asked ≡ true → (lists : Lists) → IsSettledFor lists old
    → EachImage (λ _ image. Safe image lists) old new × ((HasStopped (given ∷ []) → ⊥) → IsSettledFor lists new)
listed_safe asked given entries old new began now done leaves lists at =
    let s = done.serves lists (done.shown lists (settled_safe lists old at)) (λ fetch. inl at) in (
      each_image-map (IsReached lists s.run s.journal s.broken) (λ _ image. Safe image lists) old new
          (λ m image is. subst (λ (ls : Lists). Safe image ls) (reached_still asked s.run lists s.journal s.broken m is.0 leaves s.served.legal.steps s.served.broken_is is.1) is.2) (s.crash at),
      λ running. subst (λ (ls : Lists). IsSettledFor ls new) (left_still asked s.run lists s.journal leaves s.served.legal.steps) (s.settled running at),
    )

-- One that only reads never stops it.
pub reads_safe : (asked : Request) (given : Reply) (entries : List JournalEntry) (old new : Option History) (began now : Faults) → IsScriptDone (alone asked) (given ∷ []) entries old new began now → only_reads asked ≡ true → (lists : Lists) → IsSettledFor lists old
    → EachImage (λ _ image. Safe image lists) old new × IsSettledFor lists new
reads_safe asked given entries old new began now done reads lists at =
    let safe = listed_safe asked given entries old new began now done (reads_leave asked reads) lists at in
    (safe.0, safe.1 (done.running (lists, λ fetch. inl at) (changes_none asked reads)))

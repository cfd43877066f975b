-- How `init` ends.
use Rattle.std.specs.Prelude.{◌≡◌, ◌⊎◌, ℕ, List, [], ◌∷◌, refl, Option, Some, None}
use Rattle.std.proofs.Common.{inl, inr, subst}
use Rattle.disk_model.specs.Disk.{History, Faults, IsIdle}
use Rattle.disk_model.specs.FaultCounts.{AnyFaultCounted}
use Rattle.store_open.specs.Making.{NeverHasStore}
use Rattle.store_open.specs.Refused.{IsMakingError, IsOfFiles}
use Rattle.store_open.specs.declared.error.OpenError.{OpenError}
use Rattle.store_open.specs.declared.error.OpenError.TheVariants as error
use Rattle.request_text.specs.Outcomes.{status_of}
use Rattle.request_text.specs.ReplyText.{ok_line}
use Rattle.request_text.specs.declared.outcome.InputRefusal.{InputRefusal}
use Rattle.request_text.specs.declared.outcome.StoreRefusal.{StoreRefusal}
use Rattle.request_text.specs.declared.outcome.StoreRefusal.TheVariants as store
use Rattle.request_text.specs.declared.outcome.Outcome.{Outcome}
use Rattle.request_text.specs.declared.outcome.Outcome.TheVariants as outcome
use Rattle.mdbox_top.specs.InputRun.{ShowsText, IsOneOf}
use Rattle.mdbox_top.specs.OpeningOutcome.{opening_outcome, opening_error}
use Rattle.mdbox_top.specs.InitRun.{IsMadeBy, InitOutcome, MayMakeStore}

-- a store was made, and `OK` was printed
pub made_ends : (id : List ℕ) (h k : Option (List ℕ)) (old new : Option History) (o : Outcome) → IsMadeBy id old new → ShowsText (ok_line []) h k o → InitOutcome id h k old new o
made_ends id h k old new outcome.Done made s = (made, s)
made_ends id h k old new outcome.WriteFault made s = (made, s)
made_ends id h k old new outcome.NoMemory made s = absurd s
made_ends id h k old new outcome.ReadFault made s = absurd s
made_ends id h k old new outcome.No made s = absurd s
made_ends id h k old new outcome.Usage made s = absurd s
made_ends id h k old new outcome.SessionFull made s = absurd s
made_ends id h k old new outcome.DiskFault made s = absurd s
made_ends id h k old new (outcome.StoreRefused why) made s = absurd s
made_ends id h k old new (outcome.InputRefused why) made s = absurd s

-- no store was made
pub unmade_ends : (id : List ℕ) (h : Option (List ℕ)) (old new : Option History) (e : OpenError) → IsMakingError old e → (IsOfFiles e → IsIdle old new) → (e ≡ error.NoMemory → NeverHasStore old → NeverHasStore new) → InitOutcome id h h old new (opening_outcome e)
unmade_ends id h old new error.StoreWhole cause idle unmade = (refl, cause, idle (inl refl))
unmade_ends id h old new error.MailFiles cause idle unmade = (refl, cause, idle (inr refl))
unmade_ends id h old new error.NoStore cause idle unmade = absurd cause
unmade_ends id h old new (error.Damaged name place) cause idle unmade = absurd cause
unmade_ends id h old new error.DiskFault cause idle unmade = refl
unmade_ends id h old new error.NoMemory cause idle unmade = (refl, unmade refl)

unmade_refused : (old : Option History) (why : StoreRefusal) → MayMakeStore old → IsMakingError old (opening_error why) → ⊥
unmade_refused None why free cause = free
unmade_refused (Some now) store.StoreWhole free cause = cause free.no_entry
unmade_refused (Some now) store.MailFiles free cause = free.no_mail cause.1
unmade_refused (Some now) store.NoStore free cause = cause
unmade_refused (Some now) (store.Damaged name place) free cause = cause

pub init_status : (id : List ℕ) (h k : Option (List ℕ)) (old new : Option History) (o : Outcome) → InitOutcome id h k old new o → MayMakeStore old → IsOneOf (0 ∷ 5 ∷ 6 ∷ 8 ∷ []) (status_of o)
init_status id h k old new outcome.Done e free = inl refl
init_status id h k old new outcome.NoMemory e free = inr (inl refl)
init_status id h k old new outcome.DiskFault e free = inr (inr (inl refl))
init_status id h k old new outcome.WriteFault e free = inr (inr (inr (inl refl)))
init_status id h k old new (outcome.StoreRefused why) e free = absurd (unmade_refused old why free e.1)
init_status id h k old new outcome.ReadFault e free = absurd e
init_status id h k old new outcome.No e free = absurd e
init_status id h k old new outcome.Usage e free = absurd e
init_status id h k old new outcome.SessionFull e free = absurd e
init_status id h k old new (outcome.InputRefused why) e free = absurd e

-- an opening that failed
pub opening_fault : (e : OpenError) → opening_outcome e ≡ outcome.DiskFault → e ≡ error.DiskFault
opening_fault error.DiskFault e = refl
opening_fault error.NoStore e = absurd (cc e)
opening_fault error.StoreWhole e = absurd (cc e)
opening_fault error.MailFiles e = absurd (cc e)
opening_fault (error.Damaged name place) e = absurd (cc e)
opening_fault error.NoMemory e = absurd (cc e)

pub opening_writes : (e : OpenError) → opening_outcome e ≡ outcome.WriteFault → ⊥
opening_writes error.DiskFault e = cc e
opening_writes error.NoStore e = cc e
opening_writes error.StoreWhole e = cc e
opening_writes error.MailFiles e = cc e
opening_writes (error.Damaged name place) e = cc e
opening_writes error.NoMemory e = cc e

-- the counts of a fault that is told by another name
pub counted_as : (P Q : Type 0) (f g : Faults) → (Q → P) → AnyFaultCounted P f g → AnyFaultCounted Q f g
counted_as P Q f g to c = record { reads = c.reads; changes = c.changes; rose = λ q. c.rose (to q) }

-- it reads no input
pub init_ended : (id : List ℕ) (h k : Option (List ℕ)) (old new : Option History) (o : Outcome) → InitOutcome id h k old new o → (o ≡ outcome.ReadFault) ⊎ ((why : InputRefusal) × (o ≡ outcome.InputRefused why)) → ⊥
init_ended id h k old new o e (inl is) = subst (λ (x : Outcome). InitOutcome id h k old new x) is e
init_ended id h k old new o e (inr w) = subst (λ (x : Outcome). InitOutcome id h k old new x) w.1 e

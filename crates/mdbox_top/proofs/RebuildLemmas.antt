-- How `rebuild` ends.
use Rattle.std.specs.Prelude.{◌≡◌, ◌⊎◌, ℕ, List, [], ◌∷◌, refl, Option, Some, None}
use Rattle.std.proofs.Common.{inl, inr, subst}
use Rattle.disk_model.specs.Disk.{History, IsIdle}
use Rattle.rebuild_files.specs.Refused.{IsNotLost}
use Rattle.rebuild_files.specs.declared.error.RebuildError.{RebuildError}
use Rattle.rebuild_files.specs.declared.error.RebuildError.TheVariants as rebuild
use Rattle.request_text.specs.Outcomes.{status_of}
use Rattle.request_text.specs.declared.outcome.InputRefusal.{InputRefusal}
use Rattle.request_text.specs.declared.outcome.Outcome.{Outcome}
use Rattle.request_text.specs.declared.outcome.Outcome.TheVariants as outcome
use Rattle.request_text.specs.declared.outcome.StoreRefusal.TheVariants as store
use Rattle.store_rebuild.specs.declared.report.RebuildReport.{RebuildReport}
use Rattle.mdbox_top.specs.InputRun.{IsOneOf}
use Rattle.mdbox_top.specs.OpeningOutcome.{rebuild_outcome}
use Rattle.mdbox_top.specs.RebuildRun.{IsRebuiltBy, PrintsReport, RebuildOutcome, IsLostNow, IsWholeNow}

-- the store was rebuilt, and its report was printed, or a prefix of it
pub rebuilt_ends : (id : List ℕ) (report : RebuildReport) (h k : Option (List ℕ)) (old new : Option History) (o : Outcome) → IsRebuiltBy id report old new → PrintsReport report h k o → RebuildOutcome id h k old new o
rebuilt_ends id report h k old new outcome.Done made s = (report, made, s)
rebuilt_ends id report h k old new outcome.WriteFault made s = (report, made, s)
rebuilt_ends id report h k old new outcome.NoMemory made s = inl (report, made, s)
rebuilt_ends id report h k old new outcome.ReadFault made s = absurd s
rebuilt_ends id report h k old new outcome.No made s = absurd s
rebuilt_ends id report h k old new outcome.Usage made s = absurd s
rebuilt_ends id report h k old new outcome.SessionFull made s = absurd s
rebuilt_ends id report h k old new outcome.DiskFault made s = absurd s
rebuilt_ends id report h k old new (outcome.StoreRefused why) made s = absurd s
rebuilt_ends id report h k old new (outcome.InputRefused why) made s = absurd s

pub prints_no_fault : (report : RebuildReport) (h k : Option (List ℕ)) (o : Outcome) → PrintsReport report h k o → o ≡ outcome.DiskFault → ⊥
prints_no_fault report h k outcome.Done s e = cc e
prints_no_fault report h k outcome.WriteFault s e = cc e
prints_no_fault report h k outcome.NoMemory s e = cc e
prints_no_fault report h k outcome.ReadFault s e = s
prints_no_fault report h k outcome.No s e = s
prints_no_fault report h k outcome.Usage s e = s
prints_no_fault report h k outcome.SessionFull s e = s
prints_no_fault report h k outcome.DiskFault s e = s
prints_no_fault report h k (outcome.StoreRefused why) s e = s
prints_no_fault report h k (outcome.InputRefused why) s e = s

-- it was not rebuilt
pub unrebuilt_ends : (id : List ℕ) (h : Option (List ℕ)) (old new : Option History) (e : RebuildError) → IsNotLost old e → ((e ≡ rebuild.DiskFault → ⊥) → IsIdle old new) → RebuildOutcome id h h old new (rebuild_outcome e)
unrebuilt_ends id h old new rebuild.StoreWhole cause idle = (refl, cause, idle (λ e. cc e))
unrebuilt_ends id h old new rebuild.DiskFault cause idle = refl
unrebuilt_ends id h old new rebuild.NoMemory cause idle = inr (refl, idle (λ e. cc e))

pub fault_of_rebuild : (e : RebuildError) → rebuild_outcome e ≡ outcome.DiskFault → e ≡ rebuild.DiskFault
fault_of_rebuild rebuild.DiskFault e = refl
fault_of_rebuild rebuild.StoreWhole e = absurd (cc e)
fault_of_rebuild rebuild.NoMemory e = absurd (cc e)

pub rebuild_writes : (e : RebuildError) → rebuild_outcome e ≡ outcome.WriteFault → ⊥
rebuild_writes rebuild.DiskFault e = cc e
rebuild_writes rebuild.StoreWhole e = cc e
rebuild_writes rebuild.NoMemory e = cc e

-- a store that was rebuilt didn't open before
not_both : (id : List ℕ) (report : RebuildReport) (old new : Option History) → IsRebuiltBy id report old new → IsWholeNow old → ⊥
not_both id report None new made whole = whole
not_both id report (Some first) new made whole = made.lost whole

lost_status : (id : List ℕ) (h k : Option (List ℕ)) (old new : Option History) (o : Outcome) → RebuildOutcome id h k old new o → IsLostNow old → IsOneOf (0 ∷ 5 ∷ 6 ∷ 8 ∷ []) (status_of o)
lost_status id h k old new outcome.Done e lost = inl refl
lost_status id h k old new outcome.NoMemory e lost = inr (inl refl)
lost_status id h k old new outcome.DiskFault e lost = inr (inr (inl refl))
lost_status id h k old new outcome.WriteFault e lost = inr (inr (inr (inl refl)))
lost_status id h k None new (outcome.StoreRefused store.StoreWhole) e lost = absurd lost
lost_status id h k (Some first) new (outcome.StoreRefused store.StoreWhole) e lost = absurd (lost e.1)
lost_status id h k old new (outcome.StoreRefused store.NoStore) e lost = absurd e
lost_status id h k old new (outcome.StoreRefused store.MailFiles) e lost = absurd e
lost_status id h k old new (outcome.StoreRefused (store.Damaged name place)) e lost = absurd e
lost_status id h k old new outcome.ReadFault e lost = absurd e
lost_status id h k old new outcome.No e lost = absurd e
lost_status id h k old new outcome.Usage e lost = absurd e
lost_status id h k old new outcome.SessionFull e lost = absurd e
lost_status id h k old new (outcome.InputRefused why) e lost = absurd e

whole_status : (id : List ℕ) (h k : Option (List ℕ)) (old new : Option History) (o : Outcome) → RebuildOutcome id h k old new o → IsWholeNow old → IsOneOf (3 ∷ 5 ∷ 6 ∷ []) (status_of o)
whole_status id h k old new outcome.Done e whole = absurd (not_both id e.0 old new e.1 whole)
whole_status id h k old new outcome.WriteFault e whole = absurd (not_both id e.0 old new e.1 whole)
whole_status id h k old new outcome.NoMemory e whole = inr (inl refl)
whole_status id h k old new outcome.DiskFault e whole = inr (inr (inl refl))
whole_status id h k old new (outcome.StoreRefused store.StoreWhole) e whole = inl refl
whole_status id h k old new (outcome.StoreRefused store.NoStore) e whole = absurd e
whole_status id h k old new (outcome.StoreRefused store.MailFiles) e whole = absurd e
whole_status id h k old new (outcome.StoreRefused (store.Damaged name place)) e whole = absurd e
whole_status id h k old new outcome.ReadFault e whole = absurd e
whole_status id h k old new outcome.No e whole = absurd e
whole_status id h k old new outcome.Usage e whole = absurd e
whole_status id h k old new outcome.SessionFull e whole = absurd e
whole_status id h k old new (outcome.InputRefused why) e whole = absurd e

pub rebuild_status : (id : List ℕ) (h k : Option (List ℕ)) (old new : Option History) (o : Outcome) → RebuildOutcome id h k old new o → (IsLostNow old → IsOneOf (0 ∷ 5 ∷ 6 ∷ 8 ∷ []) (status_of o)) × (IsWholeNow old → IsOneOf (3 ∷ 5 ∷ 6 ∷ []) (status_of o))
rebuild_status id h k old new o e = (lost_status id h k old new o e, whole_status id h k old new o e)

-- it reads no input
pub rebuild_ended : (id : List ℕ) (h k : Option (List ℕ)) (old new : Option History) (o : Outcome) → RebuildOutcome id h k old new o → (o ≡ outcome.ReadFault) ⊎ ((why : InputRefusal) × (o ≡ outcome.InputRefused why)) → ⊥
rebuild_ended id h k old new o e (inl is) = subst (λ (x : Outcome). RebuildOutcome id h k old new x) is e
rebuild_ended id h k old new o e (inr w) = subst (λ (x : Outcome). RebuildOutcome id h k old new x) w.1 e

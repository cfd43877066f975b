-- How a session ends, as a run of the program.
use Rattle.std.specs.Prelude.{◌≡◌, ℕ, List, [], ◌∷◌, map, Option, Some, None}
use Rattle.std.proofs.Common.{refl, sym, ◌∙◌, ap, subst, inl, inr, append-nil, arith}
use Rattle.disk_model.specs.Disk.{Faults, History}
use Rattle.disk_model.specs.FaultCounts.{AnyFaultCounted, NoFault}
use Rattle.mdbox_base.specs.Streams.{Appended}
use Rattle.mdbox_base.specs.declared.replies.Reply.{Reply}
use Rattle.journal.specs.Journal.{Requests}
use Rattle.piece_writer.specs.Pieces.{WritesPrefix}
use Rattle.request_text.specs.Outcomes.{replies_outcome, status_of}
use Rattle.request_text.specs.declared.outcome.InputRefusal.{InputRefusal}
use Rattle.request_text.specs.declared.outcome.Outcome.{Outcome}
use Rattle.request_text.specs.declared.outcome.Outcome.TheVariants as outcome
use Rattle.request_text.specs.declared.outcome.StoreRefusal.{StoreRefusal}
use Rattle.script_run.specs.Faults.{FaultsByReplies, HasReadFault}
use Rattle.script_run.specs.Opening.{IsUnopened}
use Rattle.script_run.specs.Script.{HasStopped}
use Rattle.session.specs.Session.{IsSessionDone, SessionStopsAt}
use Rattle.store_open.specs.declared.error.OpenError.{OpenError}
use Rattle.store_open.specs.declared.error.OpenError.TheVariants as error
use Rattle.mdbox_top.specs.InputRun.{IsOneOf, OfInput}
use Rattle.mdbox_top.specs.OpeningOutcome.{opening_outcome}
use Rattle.mdbox_top.specs.SessionRun.{IsServeDone, MayEndFailed, ReadsFirst, ServeMoments, ServeOutcome, ServeRests, ServeStatus, TellsServeFaults}
use Rattle.mdbox_top.proofs.BatchLemmas.{by_outcome, outcome_cause, served_from, script_moments, unopened_as, unopened_moments, unread_outcome_is}
use Rattle.mdbox_top.proofs.RequestLemmas.{damage_lacking, opening_number, refused_by, settled_opens}

-- ---- faults of the disk

by_fault : (input : List ℕ) (script : Requests) (rest : List ℕ) (left : Option (List ℕ)) (given : List Reply) (began now : Faults) → FaultsByReplies given began now → (o : Outcome) → SessionStopsAt input script rest left given o → AnyFaultCounted (o ≡ outcome.DiskFault) began now
by_fault input script rest left given began now f o s = record {
  reads = f.counted;
  changes = f.changes;
  rose = λ e. elim (subst (λ (x : Outcome). SessionStopsAt input script rest left given x) e s) [
    | inl stopped ↦ inr (f.stopped stopped.0)
    | inr end ↦ elim (outcome_cause given (sym end.3)) [ inl some ↦ inl (let reads = f.reads in omega (arith, reads, some)) | inr stopped ↦ inr (f.stopped stopped) ]
  ];
}

-- replies that end a session as no more than refused tell of no fault
none_told : (given : List Reply) (began now : Faults) (o : Outcome) → FaultsByReplies given began now → (HasStopped given → ⊥) → o ≡ replies_outcome (map Some given) → (MayEndFailed (status_of o) → ⊥) → NoFault began now
none_told given began now o f unstopped is none = f.quiet (λ (c : HasReadFault given). none (inr (inr (inr (inl (ap status_of (is ∙ unread_outcome_is given c))))))) unstopped

by_quiet : (input : List ℕ) (script : Requests) (rest : List ℕ) (left : Option (List ℕ)) (given : List Reply) (began now : Faults) → FaultsByReplies given began now → (o : Outcome) → SessionStopsAt input script rest left given o → (MayEndFailed (status_of o) → ⊥) → NoFault began now
by_quiet input script rest left given began now f outcome.Done s none = absurd (none (inl refl))
by_quiet input script rest left given began now f outcome.SessionFull s none = absurd (none (inl refl))
by_quiet input script rest left given began now f (outcome.InputRefused why) s none = absurd (none (inr (inl refl)))
by_quiet input script rest left given began now f outcome.NoMemory s none = absurd (none (inr (inr (inl refl))))
by_quiet input script rest left given began now f outcome.DiskFault s none = absurd (none (inr (inr (inr (inl refl)))))
by_quiet input script rest left given began now f outcome.ReadFault s none = absurd (none (inr (inr (inr (inr (inl refl))))))
by_quiet input script rest left given began now f outcome.WriteFault s none = absurd (none (inr (inr (inr (inr (inr (inl refl)))))))
by_quiet input script rest left given began now f outcome.No s none = none_told given began now outcome.No f s.2 s.3 none
by_quiet input script rest left given began now f outcome.Usage s none = none_told given began now outcome.Usage f s.2 s.3 none
by_quiet input script rest left given began now f (outcome.StoreRefused why) s none = none_told given began now (outcome.StoreRefused why) f s.2 s.3 none

-- a reply that the store is stopped ends it so
stopped_may : (input : List ℕ) (script : Requests) (rest : List ℕ) (left : Option (List ℕ)) (given : List Reply) (o : Outcome) → SessionStopsAt input script rest left given o → HasStopped given → MayEndFailed (status_of o)
stopped_may input script rest left given outcome.Done s h = inl refl
stopped_may input script rest left given outcome.SessionFull s h = inl refl
stopped_may input script rest left given (outcome.InputRefused why) s h = inr (inl refl)
stopped_may input script rest left given outcome.NoMemory s h = inr (inr (inl refl))
stopped_may input script rest left given outcome.DiskFault s h = inr (inr (inr (inl refl)))
stopped_may input script rest left given outcome.ReadFault s h = inr (inr (inr (inr (inl refl))))
stopped_may input script rest left given outcome.WriteFault s h = inr (inr (inr (inr (inr (inl refl)))))
stopped_may input script rest left given outcome.No s h = absurd (s.2 h)
stopped_may input script rest left given outcome.Usage s h = absurd (s.2 h)
stopped_may input script rest left given (outcome.StoreRefused why) s h = absurd (s.2 h)

-- ---- a session that was done

-- so it was, of an input that may not be modelled
abbrev pub DoneOf : Option (List ℕ) → Option (List ℕ) → Option (List ℕ) → Option (List ℕ) → Option History → Option History → Faults → Faults → Outcome → Type 0
DoneOf left after held later old new f g o = OfInput left (λ input. IsSessionDone input after held later old new f g o)

front_of : (left after held later : Option (List ℕ)) (old new : Option History) (f g : Faults) (o : Outcome) → (d : DoneOf left after held later old new f g o) → OfInput left (ReadsFirst d.2.script)
front_of left after held later old new f g o d = (d.0, d.1, (d.2.rest, d.2.read))

pub session_fault : (left after held later : Option (List ℕ)) (old new : Option History) (f g : Faults) (o : Outcome) → DoneOf left after held later old new f g o → TellsServeFaults left old → AnyFaultCounted (o ≡ outcome.DiskFault) f g
session_fault left after held later old new f g o d tells = by_fault d.0 d.2.script d.2.rest after d.2.given f g (d.2.done.faults (tells d.2.script (front_of left after held later old new f g o d))) o d.2.stops

pub session_quiet : (left after held later : Option (List ℕ)) (old new : Option History) (f g : Faults) (o : Outcome) → DoneOf left after held later old new f g o → TellsServeFaults left old → (MayEndFailed (status_of o) → ⊥) → NoFault f g
session_quiet left after held later old new f g o d tells = by_quiet d.0 d.2.script d.2.rest after d.2.given f g (d.2.done.faults (tells d.2.script (front_of left after held later old new f g o d))) o d.2.stops

pub session_moments : (left after held later : Option (List ℕ)) (old new : Option History) (f g : Faults) (o : Outcome) → DoneOf left after held later old new f g o → ServeMoments left old new
session_moments left after held later old new f g o d = (d.2.script, front_of left after held later old new f g o d, script_moments d.2.script d.2.given d.2.journal old new f g d.2.done)

pub session_rests : (left after held later : Option (List ℕ)) (old new : Option History) (f g : Faults) (o : Outcome) → DoneOf left after held later old new f g o → ServeRests left (MayEndFailed (status_of o)) f g old new
session_rests left after held later old new f g o d = (
  d.2.script,
  front_of left after held later old new f g o d,
  λ none lists s.
      let was = served_from d.2.script d.2.given d.2.journal old new f g lists d.2.done s in
      inr (was, was.served.settled (λ (c : HasStopped d.2.given). none (stopped_may d.0 d.2.script d.2.rest after d.2.given o d.2.stops c) ((d.2.done.faults (lists, λ reads. inl s)).stopped c)) s),
)

-- ---- a store that was not opened

no_requests : (left : Option (List ℕ)) → OfInput left (ReadsFirst [])
no_requests None = ([], tt, ([], refl))
no_requests (Some all) = (all, refl, (all, refl))

unopened_ends : (why : OpenError) → why ≡ error.DiskFault → MayEndFailed (status_of (opening_outcome why))
unopened_ends why e = inr (inr (inr (inl (ap (λ (w : OpenError). status_of (opening_outcome w)) e))))

pub unopened_session : (left h : Option (List ℕ)) (old new : Option History) (f g : Faults) (why : OpenError) → IsUnopened why old new f g → ServeOutcome left h h old new f g (opening_outcome why)
unopened_session left h old new f g why u = unopened_as (IsServeDone left h h old new f g) h old new f g why u

pub unopened_session_moments : (left : Option (List ℕ)) (old new : Option History) (f g : Faults) (why : OpenError) → IsUnopened why old new f g → ServeMoments left old new
unopened_session_moments left old new f g why u = ([], no_requests left, unopened_moments [] old new f g why u)

pub unopened_session_rests : (left : Option (List ℕ)) (old new : Option History) (f g : Faults) (why : OpenError) → IsUnopened why old new f g → ServeRests left (MayEndFailed (status_of (opening_outcome why))) f g old new
unopened_session_rests left old new f g why u = ([], no_requests left, λ none lists s. inl (u.settled_again (λ e. none (unopened_ends why e)) lists s))

pub unopened_session_quiet : (old new : Option History) (f g : Faults) (why : OpenError) → IsUnopened why old new f g → (MayEndFailed (status_of (opening_outcome why)) → ⊥) → NoFault f g
unopened_session_quiet old new f g why u none = u.unfailed (λ e. none (unopened_ends why e))

-- ---- the end of a run

prefix_of : (held later : Option (List ℕ)) (text : List ℕ) → Appended held text later → WritesPrefix held [] text later
prefix_of held later text a = (text, [], sym (append-nil text), a)

-- an input that is refused, without memory for the text that tells so
pub serve_input_memory : (left h k : Option (List ℕ)) (old new : Option History) (f g : Faults) (why : InputRefusal) → ServeOutcome left h k old new f g (outcome.InputRefused why) → ServeOutcome left h k old new f g outcome.NoMemory
serve_input_memory left h k old new f g why (inl n) = absurd (refused_by 4 _ (opening_number n.why) (ap status_of n.ended_is) (inr refl))
serve_input_memory left h k old new f g why (inr d) =
    let s = d.1.2 in
    inr (d.0, (d.1.0, d.1.1, record { script = s.script; rest = s.rest; read = s.read; fits = s.fits; given = s.given; journal = s.journal; done = s.done; last = s.last; printed = prefix_of h k _ s.printed; stops = tt }))

never_damaged : (s : StoreRefusal) (replies : List (Option Reply)) → outcome.StoreRefused s ≡ replies_outcome replies → ⊥
never_damaged s replies = by_outcome (λ (o : Outcome). outcome.StoreRefused s ≡ o → ⊥) replies (λ any e. cc e) (λ e. cc e) (λ e. cc e) (λ e. cc e)

never_used : (replies : List (Option Reply)) → outcome.Usage ≡ replies_outcome replies → ⊥
never_used replies = by_outcome (λ (o : Outcome). outcome.Usage ≡ o → ⊥) replies (λ any e. cc e) (λ e. cc e) (λ e. cc e) (λ e. cc e)

pub serve_damage : (left h k : Option (List ℕ)) (old new : Option History) (f g : Faults) (s : StoreRefusal) → ServeOutcome left h k old new f g (outcome.StoreRefused s) → ServeOutcome left h k old new f g outcome.NoMemory
serve_damage left h k old new f g s (inl n) = inl (damage_lacking h k old new f g s n)
serve_damage left h k old new f g s (inr d) = absurd (never_damaged s (map Some d.1.2.given) d.1.2.stops.3)

pub serve_used : (left h k : Option (List ℕ)) (old new : Option History) (f g : Faults) → ServeOutcome left h k old new f g outcome.Usage → ⊥
serve_used left h k old new f g (inl n) = refused_by 2 _ (opening_number n.why) (ap status_of n.ended_is) (inl refl)
serve_used left h k old new f g (inr d) = never_used (map Some d.1.2.given) d.1.2.stops.3

pub serve_status : (left h k : Option (List ℕ)) (old new : Option History) (f g : Faults) (o : Outcome) → ServeOutcome left h k old new f g o → ServeStatus old (status_of o)
serve_status left h k old new f g o (inl n) lists s = elim (settled_opens lists old n.why s n.leaves.cause) [
  | inl fault ↦ inr (inr (inr (inr (inl (ap status_of n.ended_is ∙ ap (λ (w : OpenError). status_of (opening_outcome w)) fault)))))
  | inr memory ↦ inr (inr (inr (inl (ap status_of n.ended_is ∙ ap (λ (w : OpenError). status_of (opening_outcome w)) memory))))
]
serve_status left h k old new f g o (inr d) lists s = by_end o d.1.2.stops
  where
    by_end : (x : Outcome) → SessionStopsAt d.1.0 d.1.2.script d.1.2.rest d.0 d.1.2.given x → IsOneOf (0 ∷ 1 ∷ 4 ∷ 5 ∷ 6 ∷ 7 ∷ 8 ∷ []) (status_of x)
    by_end outcome.Done stops = inl refl
    by_end outcome.SessionFull stops = inl refl
    by_end outcome.No stops = inr (inl refl)
    by_end (outcome.InputRefused why) stops = inr (inr (inl refl))
    by_end outcome.NoMemory stops = inr (inr (inr (inl refl)))
    by_end outcome.DiskFault stops = inr (inr (inr (inr (inl refl))))
    by_end outcome.ReadFault stops = inr (inr (inr (inr (inr (inl refl)))))
    by_end outcome.WriteFault stops = inr (inr (inr (inr (inr (inr (inl refl))))))
    by_end outcome.Usage stops = absurd (never_used (map Some d.1.2.given) stops.3)
    by_end (outcome.StoreRefused why) stops = absurd (never_damaged why (map Some d.1.2.given) stops.3)

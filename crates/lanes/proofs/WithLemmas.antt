-- Events and requests that are asked, one after another: what they keep, and whose entries they add.
use Rattle.std.proofs.Common.{◌≡◌, ◌<◌, ◌+◌, ◌-◌, ◌*◌, ℕ, List, [], ◌∷◌, ◌++◌, slice_set, Option, Some, None, refl, sym, ◌∙◌, ap, subst, arith, inl, inr}
use Rattle.std.specs.Prelude.{All, length, slice_get}
use Rattle.std.proofs.lemmas.List.{append-nil, append_assoc, length-set}
use Rattle.std.proofs.lemmas.List.Elements.{All-append, All-cons, All-nil}
use Rattle.disk_model.specs.Disk.{Faults, History}
use Rattle.mdbox_base.specs.declared.progress.Did.{Did}
use Rattle.mdbox_base.specs.declared.progress.Did.TheVariants as did
use Rattle.mdbox_base.specs.declared.replies.Reply.{Reply}
use Rattle.mdbox_base.specs.declared.requests.Request.{Request}
use Rattle.mdbox_base.specs.declared.script.JournalEntry.{JournalEntry}
use Rattle.serving.specs.Lanes.{replies_behind}
use Rattle.serving.proofs.LaneLemmas.{get_set_other, get_set_same, nat_cases, one_some}
use Rattle.task_steps.specs.Step.{ended_by}
use Rattle.lanes.specs.Asked.{GoesWith, IsEventTurn, IsOnlyLeft, asked_in, events_of, row_asked}
use Rattle.lanes.specs.Worlds.{AreAdded, GoesInRounds, WorldValue, entries_made}
use Rattle.lanes.proofs.RoundLemmas.{event_keeps}
use Rattle.lanes.proofs.AskLemmas.{longer}

-- ---- one after another

module _ {D : Type 0} (history : D → Option History) (faults : D → Faults) where
  pub follow : (first second : List (ℕ × Option Request)) (old mid new : WorldValue D) → GoesWith history faults first old mid → GoesWith history faults second mid new → GoesWith history faults (first ++ second) old new
  follow [] second old mid new g h = subst (λ (w : WorldValue D). GoesWith history faults second w new) g h
  follow ((lane, None) ∷ first) second old mid new g h = (g.0, g.1, follow first second g.0 mid new g.2 h)
  follow ((lane, Some asked) ∷ first) second old mid new g h = (g.0, g.1, follow first second g.0 mid new g.2 h)

  abbrev pub KeepsWith : List (ℕ × Option Request) → WorldValue D → WorldValue D → Type 0
  KeepsWith moves old new = (length new.rows ≡ length old.rows) × (new.finished ≡ old.finished) × (new.began ≡ old.began) × (length new.replies ≡ length old.replies + length (asked_in moves))

  pub keep_with : (moves : List (ℕ × Option Request)) (old new : WorldValue D) → GoesWith history faults moves old new → KeepsWith moves old new
  keep_with [] old new g = (
    ap (λ (w : WorldValue D). length w.rows) g,
    ap (λ (w : WorldValue D). w.finished) g,
    ap (λ (w : WorldValue D). w.began) g,
    (let n : length new.replies ≡ length old.replies = ap (λ (w : WorldValue D). length w.replies) g in omega (arith, n)),
  )
  keep_with ((lane, None) ∷ moves) old new g =
      let k = event_keeps lane old g.0 (history old.store.disk) (history g.0.store.disk) (faults old.store.disk) (faults g.0.store.disk) g.1.1 in
      let r = keep_with moves g.0 new g.2 in
      let here = k.requests in
      let there = r.3 in
      (r.0 ∙ k.lanes, r.1 ∙ g.1.1.works.finished_is, r.2 ∙ k.began, omega (arith, here, there))
  keep_with ((lane, Some asked) ∷ moves) old new g =
      let r = keep_with moves g.0 new g.2 in
      let here : length g.0.replies ≡ length old.replies + 1 = ap (λ (w : WorldValue D). length w.replies) g.1.new_is ∙ longer old.replies in
      let there = r.3 in (
        r.0 ∙ (ap (λ (w : WorldValue D). length w.rows) g.1.new_is ∙ length-set old.rows (lane - 1) (row_asked (record { place = length old.replies; task = g.1.task }) g.1.row)),
        r.1 ∙ ap (λ (w : WorldValue D). w.finished) g.1.new_is,
        r.2 ∙ ap (λ (w : WorldValue D). w.began) g.1.new_is,
        omega (arith, here, there),
      )

  -- an event more
  pub events_more : (lanes : List ℕ) (lane : ℕ) (old mid new : WorldValue D) → GoesWith history faults (events_of lanes) old mid → IsEventTurn history faults lane mid new → GoesWith history faults (events_of (lanes ++ lane ∷ [])) old new
  events_more [] lane old mid new g t = (new, subst (λ (w : WorldValue D). IsEventTurn history faults lane w new) g t, refl)
  events_more (a ∷ lanes) lane old mid new g t = (g.0, g.1, events_more lanes lane g.0 mid new g.2 t)

-- ---- whose entries events add

left_behind : (last : ℕ) (ended : Option Reply) (place : ℕ) (replies : List (Option Reply)) → slice_get replies place ≡ Some None → IsOnlyLeft last replies → IsOnlyLeft last (replies_behind ended place replies)
left_behind last None place replies there only = only
left_behind last (Some given) place replies there only = λ i is. elim (nat_cases place i) [
  | inl same ↦ absurd (let z : Some given ≡ None = one_some (Some given) None (sym (get_set_same replies place (Some given) None there) ∙ (ap (slice_get (slice_set replies place (Some given))) same ∙ is)) in cc z)
  | inr apart ↦ only i (sym (get_set_other replies place i (Some given) apart) ∙ is)
]

made_own : (how : Did) (lane place calls last : ℕ) → place ≡ last → All (λ entry. entry.request ≡ last) (entries_made how lane place calls)
made_own (did.Step half) lane place calls last is = All-cons (λ (entry : JournalEntry). entry.request ≡ last) (record { lane = lane; request = place; half = half; calls = calls }) [] is (All-nil (λ (entry : JournalEntry). entry.request ≡ last))
made_own how lane place calls last is = All-nil (λ (entry : JournalEntry). entry.request ≡ last)

added_own : (Room : Type 0) (how : Did) (lane place calls last : ℕ) (entries now : List JournalEntry) → place ≡ last → AreAdded Room (entries_made how lane place calls) entries now → (more : List JournalEntry) × (now ≡ entries ++ more) × All (λ entry. entry.request ≡ last) more
added_own Room how lane place calls last entries now is added = elim added.some [
  | inl same ↦ ([], same ∙ sym (append-nil entries), All-nil (λ (entry : JournalEntry). entry.request ≡ last))
  | inr more ↦ (entries_made how lane place calls, more, made_own how lane place calls last is)
]

module _ {D : Type 0} (history : D → Option History) (faults : D → Faults) where
  pub own_entries : (lanes : List ℕ) (last : ℕ) (old new : WorldValue D) → GoesWith history faults (events_of lanes) old new → IsOnlyLeft last old.replies → (more : List JournalEntry) × (new.journal ≡ old.journal ++ more) × All (λ entry. entry.request ≡ last) more × IsOnlyLeft last new.replies
  own_entries [] last old new g only = (
    [],
    ap (λ (w : WorldValue D). w.journal) g ∙ sym (append-nil old.journal),
    All-nil (λ (entry : JournalEntry). entry.request ≡ last),
    subst (λ (w : WorldValue D). IsOnlyLeft last w.replies) (sym g) only,
  )
  own_entries (lane ∷ lanes) last old new g only =
      let w = g.1.1.works in
      let is : w.event.place ≡ last = only w.event.place w.unanswered in
      let here = added_own (length old.journal < 2 * length old.replies) w.event.did (lane - 1 + 1) w.event.place (w.later - old.began) last old.journal g.0.journal is w.journal in
      let left = subst (λ (rs : List (Option Reply)). IsOnlyLeft last rs) (sym w.replies_are) (left_behind last (ended_by w.event.ended) w.event.place old.replies w.unanswered only) in
      let rest = own_entries lanes last g.0 new g.2 left in (
        here.0 ++ rest.0,
        rest.1 ∙ (ap (λ (js : List JournalEntry). js ++ rest.0) here.1 ∙ append_assoc old.journal here.0 rest.0),
        All-append (λ (entry : JournalEntry). entry.request ≡ last) here.0 rest.0 here.2 rest.2,
        rest.3,
      )

-- Events in rounds add entries of the only request that has no reply.
pub rounds_own : {D : Type 0} → (behind : ℕ) (lanes : List ℕ) (last : ℕ) (old new : WorldValue D) (before after : Option History) (first second : Faults) → GoesInRounds behind lanes old new before after first second → IsOnlyLeft last old.replies → (more : List JournalEntry) × (new.journal ≡ old.journal ++ more) × All (λ entry. entry.request ≡ last) more
rounds_own behind [] last old new before after first second g only = ([], ap (λ (w : WorldValue _). w.journal) g.0 ∙ sym (append-nil old.journal), All-nil (λ (entry : JournalEntry). entry.request ≡ last))
rounds_own behind (lane ∷ lanes) last old new before after first second g only =
    let w = g.4.works in
    let is : w.event.place ≡ last = only w.event.place w.unanswered in
    let here = added_own (length old.journal < 2 * length old.replies) w.event.did (lane - 1 + 1) w.event.place (w.later - old.began) last old.journal g.0.journal is w.journal in
    let left = subst (λ (rs : List (Option Reply)). IsOnlyLeft last rs) (sym w.replies_are) (left_behind last (ended_by w.event.ended) w.event.place old.replies w.unanswered only) in
    let rest = rounds_own lane lanes last g.0 new g.1 after g.2 second g.6 left in (
      here.0 ++ rest.0,
      rest.1 ∙ (ap (λ (js : List JournalEntry). js ++ rest.0) here.1 ∙ append_assoc old.journal here.0 rest.0),
      All-append (λ (entry : JournalEntry). entry.request ≡ last) here.0 rest.0 here.2 rest.2,
    )

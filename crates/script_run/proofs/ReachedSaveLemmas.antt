-- The lists that a crash may leave of a delivery alone, which makes one step: it adds its message once at the most.
use Rattle.std.specs.Prelude.{◌≡◌, ◌<◌, ◌+◌, ◌-◌, ◌⊎◌, ℕ, zero, suc, List, Option, Some, None, slice_get}
use Rattle.std.proofs.Common.{refl, sym, ◌∙◌, ap, arith, inl, inr}
use Rattle.disk_model.specs.Disk.{Faults}
use Rattle.mdbox_base.specs.declared.entries.Highest.{Highest}
use Rattle.mdbox_base.specs.declared.replies.Refusal.{Refusal}
use Rattle.mdbox_base.specs.declared.replies.Refusal.TheVariants as refusal
use Rattle.mdbox_base.specs.declared.replies.Reply.{Reply}
use Rattle.mdbox_base.specs.declared.replies.Reply.TheVariants as reply
use Rattle.mdbox_base.specs.declared.requests.Request.{Request}
use Rattle.mdbox_base.specs.declared.requests.Request.TheVariants as request
use Rattle.model_lists.specs.Lists.{Lists}
use Rattle.model_meaning.specs.MapMeaning.{MapMeaning}
use Rattle.list_machine.specs.Machine.{Does}
use Rattle.list_machine.specs.Run.{EventPart, GivesBack, Last, Run, RunEvent, before}
use Rattle.journal.specs.Events.{Around, behind_addition, behind_delivery, behind_event}
use Rattle.journal.specs.Journal.{Broken, JournalStep, Reached}
use Rattle.journal.specs.Makes.{AreNextEvents, IsServed}
use Rattle.script_run.specs.One.{IsAlongOne, alone}
use Rattle.script_run.proofs.PartLemmas.{get_before, part_after, some_part}
use Rattle.script_run.proofs.ReachedLemmas.{reached_by}

abbrev delivering : List ℕ → ℕ → List ℕ → Request
delivering name time octets = request.Deliver name time octets

-- ---- what stands behind the event that adds the message

-- only the one that gives back its record
behind_last : (part : EventPart) (why : Refusal) → behind_addition Last why ≡ Some part → part ≡ GivesBack
behind_last part refusal.Stopped is = absurd (let z : None ≡ Some part = is in cc z)
behind_last part why is = sym (some_part GivesBack part is)

adds_behind : (around : Around) (run : Run) (name : List ℕ) (time : ℕ) (octets : List ℕ) (e : RunEvent) (next : EventPart) (refused : Option Refusal) → e.part ≡ Last → behind_event around run (delivering name time octets) e refused ≡ Some next → next ≡ GivesBack
adds_behind around run name time octets e next (Some why) last is = behind_last next why (ap (λ (p : EventPart). behind_addition p why) (sym last) ∙ is)
adds_behind around run name time octets e next None last is =
    let z : None ≡ Some next = ap (λ (p : EventPart). behind_delivery around run e p) (sym last) ∙ is in absurd (cc z)

-- and behind that one none
gives_behind : (around : Around) (run : Run) (name : List ℕ) (time : ℕ) (octets : List ℕ) (e : RunEvent) (next : EventPart) (refused : Option Refusal) → e.part ≡ GivesBack → behind_event around run (delivering name time octets) e refused ≡ Some next → ⊥
gives_behind around run name time octets e next (Some why) gives is = let z : None ≡ Some next = ap (λ (p : EventPart). behind_addition p why) (sym gives) ∙ is in cc z
gives_behind around run name time octets e next None gives is =
    let z : None ≡ Some next = ap (λ (p : EventPart). behind_delivery around run e p) (sym gives) ∙ is in cc z

-- ---- it is added once

-- a delivery alone
record IsSaveRun (name : List ℕ) (time : ℕ) (octets : List ℕ) (run : Run) (start : Lists) (journal : List JournalStep) : Type 0 where
  around : ℕ → Around
  after : ℕ → Around
  next : AreNextEvents around after (alone (delivering name time octets)) start run journal

gives_next : (name : List ℕ) (time : ℕ) (octets : List ℕ) (run : Run) (start : Lists) (journal : List JournalStep) → IsSaveRun name time octets run start journal → (n : ℕ) (a b : RunEvent) → slice_get run.events n ≡ Some a → slice_get run.events (suc n) ≡ Some b → a.part ≡ Last → b.part ≡ GivesBack
gives_next name time octets run start journal r n a b first second last =
    let k = part_after r.around r.after start (delivering name time octets) run journal r.next n b second in
    let e : Some k.0 ≡ Some a = sym k.1 ∙ first in
    let same : k.0 ≡ a = cc e in
    adds_behind (r.around (suc n)) (before (suc n) run) name time octets k.0 b.part k.0.refused (ap (λ (x : RunEvent). x.part) same ∙ last) k.2

-- no event stands two or more behind it
none_later : (name : List ℕ) (time : ℕ) (octets : List ℕ) (run : Run) (start : Lists) (journal : List JournalStep) → IsSaveRun name time octets run start journal → (n k m : ℕ) (a b : RunEvent) → m ≡ suc (suc (k + n)) → slice_get run.events n ≡ Some a → a.part ≡ Last → slice_get run.events m ≡ Some b → ⊥
none_later name time octets run start journal r n zero m a b far first last at =
    let two : m ≡ suc (suc n) = omega (arith, far) in
    let k = part_after r.around r.after start (delivering name time octets) run journal r.next (suc n) b (ap (slice_get run.events) (sym two) ∙ at) in
    gives_behind (r.around (suc (suc n))) (before (suc (suc n)) run) name time octets k.0 b.part k.0.refused (gives_next name time octets run start journal r n a k.0 first k.1 last) k.2
none_later name time octets run start journal r n (suc k) m a b far first last at =
    let more : m ≡ suc (suc (suc (k + n))) = omega (arith, far) in
    let c = get_before run.events (suc (suc (k + n))) b (ap (slice_get run.events) (sym more) ∙ at) in
    none_later name time octets run start journal r n k (suc (suc (k + n))) a c.0 refl first last c.1

none_behind : (name : List ℕ) (time : ℕ) (octets : List ℕ) (run : Run) (start : Lists) (journal : List JournalStep) → IsSaveRun name time octets run start journal → (n m : ℕ) (a b : RunEvent) → slice_get run.events n ≡ Some a → slice_get run.events m ≡ Some b → a.part ≡ Last → b.part ≡ Last → n < m → ⊥
none_behind name time octets run start journal r n m a b first second last also less = by_far (m - n) refl
  where
    by_far : (d : ℕ) → m - n ≡ d → ⊥
    by_far zero e = omega (arith, less, e)
    by_far (suc zero) e =
        let here : m ≡ suc n = omega (arith, less, e) in
        let gives = gives_next name time octets run start journal r n a b first (ap (slice_get run.events) (sym here) ∙ second) last in
        let z : Last ≡ GivesBack = sym also ∙ gives in cc z
    by_far (suc (suc k)) e =
        let here : m ≡ suc (suc (k + n)) = omega (arith, less, e) in
        none_later name time octets run start journal r n k m a b here first last second

nat_order : (n m : ℕ) → (n < m) ⊎ ((n ≡ m) ⊎ (m < n))
nat_order zero zero = inr (inl refl)
nat_order zero (suc m) = inl (omega arith)
nat_order (suc n) zero = inr (inr (omega arith))
nat_order (suc n) (suc m) = elim (nat_order n m) [
  | inl less ↦ inl (omega (arith, less))
  | inr (inl same) ↦ inr (inl (ap suc same))
  | inr (inr more) ↦ inr (inr (omega (arith, more)))
]

added_once : (name : List ℕ) (time : ℕ) (octets : List ℕ) (run : Run) (start : Lists) (journal : List JournalStep) → IsSaveRun name time octets run start journal → (n m : ℕ) (a b : RunEvent) → slice_get run.events n ≡ Some a → slice_get run.events m ≡ Some b → a.part ≡ Last → b.part ≡ Last → n ≡ m
added_once name time octets run start journal r n m a b first second last also = elim (nat_order n m) [
  | inl less ↦ absurd (none_behind name time octets run start journal r n m a b first second last also less)
  | inr (inl same) ↦ same
  | inr (inr more) ↦ absurd (none_behind name time octets run start journal r m n b a second first also last more)
]

-- ---- what a crash leaves

saves_at : (name : List ℕ) (time : ℕ) (octets : List ℕ) (run : Run) (event : RunEvent) (part : EventPart) (given : Reply) (old new : Lists) → Does run event old (delivering name time octets) part given new → part ≡ Last
saves_at name time octets run event Last (reply.Saved uid guid) old new d = refl
saves_at name time octets run event part given old new d = absurd d

-- the lists before it, or those with the message
pub reached_saved : (name : List ℕ) (time : ℕ) (octets : List ℕ) (start : Lists) (run : Run) (journal : List JournalStep) (broken : Broken) (replies : List (Option Reply)) (old new : Faults) (first m : MapMeaning) (drawn : Highest) (calls : ℕ)
    → IsServed start (alone (request.Deliver name time octets)) run journal broken replies old new first m drawn calls → (moment : ℕ) (lists : Lists) → Reached start run journal broken moment lists → IsAlongOne (request.Deliver name time octets) start lists
reached_saved name time octets start run journal broken replies old new first m drawn calls s moment lists r =
    reached_by (delivering name time octets) Last start run journal broken replies old new first m drawn calls (λ move. move) (omega arith) (saves_at name time octets)
    (added_once name time octets run start journal (record { around = s.around; after = s.after; next = s.next })) s moment lists r

-- A count alone, by its reply.
use Rattle.std.specs.Prelude.{◌≡◌, ◌⊎◌, ℕ, false, List, [], ◌∷◌, Option, Some}
use Rattle.std.proofs.Common.{refl, sym, ◌∙◌, ap, subst, inl, inr, arith}
use Rattle.disk_model.specs.Disk.{History, Faults}
use Rattle.mdbox_base.specs.declared.replies.Refusal.TheVariants as refusal
use Rattle.mdbox_base.specs.declared.replies.Reply.{Reply}
use Rattle.mdbox_base.specs.declared.replies.Reply.TheVariants as reply
use Rattle.mdbox_base.specs.declared.requests.Request.TheVariants as request
use Rattle.model_lists.specs.Lists.{Lists}
use Rattle.model_meaning.specs.BoxMeaning.{BoxMeaning}
use Rattle.model_meaning.specs.MapMeaning.{MapMeaning}
use Rattle.model_store.specs.Settled.{IsSettledFor}
use Rattle.model_store.specs.Listing.{ShowLists}
use Rattle.list_machine.specs.Machine.{PartAnswers}
use Rattle.list_machine.specs.Run.{Run, RunEvent, First, map_of}
use Rattle.journal.specs.Journal.{is_read_fault}
use Rattle.mail_ops.proofs.CountingLemmas.{shown_many}
use Rattle.request_text.specs.Outcomes.{status_of, reply_outcome}
use Rattle.request_text.specs.declared.outcome.Outcome.{Outcome}
use Rattle.request_text.specs.declared.outcome.Outcome.TheVariants as outcome
use Rattle.mdbox_top.specs.CountsRun.{counts_of, IsCountsReply, CountsOutcome}
use Rattle.mdbox_top.specs.InputRun.{IsOneOf}
use Rattle.mdbox_top.specs.OpeningOutcome.{opening_outcome}
use Rattle.mdbox_top.specs.Served.{ShowsReply}
use Rattle.mdbox_top.proofs.RequestLemmas.{opening_number, request_status}

-- what is counted, or that there is no memory
abbrev IsCount : MapMeaning → List BoxMeaning → Reply → Type 0
IsCount m meanings given = (given ≡ counts_of m meanings) ⊎ (given ≡ reply.Refused refusal.NoMemory)

-- it is no read fault, nor that the store is stopped
count_calm : (m : MapMeaning) (meanings : List BoxMeaning) (given : Reply) → IsCount m meanings given → is_read_fault (Some given) ≡ false
count_calm m meanings given (inl e) = ap (λ (r : Reply). is_read_fault (Some r)) e
count_calm m meanings given (inr e) = ap (λ (r : Reply). is_read_fault (Some r)) e

count_runs : (m : MapMeaning) (meanings : List BoxMeaning) (given : Reply) → IsCount m meanings given → given ≡ reply.Refused refusal.Stopped → ⊥
count_runs m meanings given (inl e) s = let k : counts_of m meanings ≡ reply.Refused refusal.Stopped = sym e ∙ s in cc k
count_runs m meanings given (inr e) s = let k : reply.Refused refusal.NoMemory ≡ reply.Refused refusal.Stopped = sym e ∙ s in let r : refusal.NoMemory ≡ refusal.Stopped = cc k in cc r

pub counts_calm : (old new : Option History) (given : Reply) → IsCountsReply old new given → is_read_fault (Some given) ≡ false
counts_calm old new given l = count_calm l.m l.meanings given l.given_is

pub counts_run : (old new : Option History) (given : Reply) → IsCountsReply old new given → given ≡ reply.Refused refusal.Stopped → ⊥
counts_run old new given l = count_runs l.m l.meanings given l.given_is

-- the numbers are the list machine's reply
pub counts_answer : (m : MapMeaning) (meanings : List BoxMeaning) (run : Run) (event : RunEvent) (lists : Lists) → map_of run ≡ m → ShowLists m.boxes meanings lists → PartAnswers run event lists request.Counts First (counts_of m meanings) lists
counts_answer m meanings run event lists same shows =
    subst (λ (n : MapMeaning). PartAnswers run event lists request.Counts First (counts_of n meanings) lists) same
    (refl, (record { records_are = refl; references_are = shown_many m.boxes meanings lists shows; counts_are = refl; instances_are = refl }, refl))

-- ---- its status

-- it is replied without a `NO` but for out of memory
count_number : (m : MapMeaning) (meanings : List BoxMeaning) (given : Reply) → IsCount m meanings given → status_of (reply_outcome given) ≡ 1 → ⊥
count_number m meanings given (inl e) one = let k : 0 ≡ 1 = sym (ap (λ (r : Reply). status_of (reply_outcome r)) e) ∙ one in omega (arith, k)
count_number m meanings given (inr e) one = let k : 5 ≡ 1 = sym (ap (λ (r : Reply). status_of (reply_outcome r)) e) ∙ one in omega (arith, k)

pub shown_one : (text : List ℕ) (given : Reply) (h k : Option (List ℕ)) (o : Outcome) → ShowsReply text given h k o → status_of o ≡ 1 → status_of (reply_outcome given) ≡ 1
shown_one text given h k outcome.No s one = sym (ap status_of s.0)
shown_one text given h k outcome.Done s one = absurd (omega (arith, one))
shown_one text given h k outcome.Usage s one = absurd (omega (arith, one))
shown_one text given h k outcome.SessionFull s one = absurd (omega (arith, one))
shown_one text given h k outcome.NoMemory s one = absurd (omega (arith, one))
shown_one text given h k outcome.DiskFault s one = absurd (omega (arith, one))
shown_one text given h k outcome.ReadFault s one = absurd (omega (arith, one))
shown_one text given h k outcome.WriteFault s one = absurd (omega (arith, one))
shown_one text given h k (outcome.StoreRefused why) s one = absurd (omega (arith, one))
shown_one text given h k (outcome.InputRefused why) s one = absurd (omega (arith, one))

pub opening_one : (n : ℕ) → IsOneOf (3 ∷ 5 ∷ 6 ∷ []) n → n ≡ 1 → ⊥
opening_one n (inl a) e = omega (arith, a, e)
opening_one n (inr (inl a)) e = omega (arith, a, e)
opening_one n (inr (inr (inl a))) e = omega (arith, a, e)
opening_one n (inr (inr (inr a))) e = a

never_one : {D : Type 0} → (h k : Option (List ℕ)) (old new : Option History) (f g : Faults) (o : Outcome) → CountsOutcome D h k old new f g o → status_of o ≡ 1 → ⊥
never_one h k old new f g o (inl n) one = opening_one (status_of (opening_outcome n.why)) (opening_number n.why) (sym (ap status_of n.ended_is) ∙ one)
never_one h k old new f g o (inr l) one = count_number l.tells.m l.tells.meanings l.given l.tells.given_is (shown_one _ l.given h k o l.printed one)

pub others_of : (n : ℕ) → IsOneOf (0 ∷ 1 ∷ 5 ∷ 6 ∷ 8 ∷ []) n → (n ≡ 1 → ⊥) → IsOneOf (0 ∷ 5 ∷ 6 ∷ 8 ∷ []) n
others_of n (inl a) never = inl a
others_of n (inr (inl a)) never = absurd (never a)
others_of n (inr (inr a)) never = inr a

pub counts_status : {D : Type 0} → (h k : Option (List ℕ)) (old new : Option History) (f g : Faults) (o : Outcome) → CountsOutcome D h k old new f g o → (lists : Lists) → IsSettledFor lists old → IsOneOf (0 ∷ 5 ∷ 6 ∷ 8 ∷ []) (status_of o)
counts_status h k old new f g o e lists s = others_of (status_of o) (request_status IsCountsReply request.Counts h k old new f g o e lists s) (never_one h k old new f g o e)

-- A script begins: each lane waits with all its requests.
use Rattle.std.proofs.Common.{◌≡◌, ◌<◌, ◌+◌, ◌==◌, ℕ, zero, suc, Bool, true, false, cond, List, [], ◌∷◌, Option, Some, None, refl, sym, ◌∙◌, ap, subst, arith, inl, inr}
use Rattle.std.specs.Prelude.{◌⊎◌, Contains, count_by, length, slice_get}
use Rattle.std.proofs.lemmas.Grind.{common_steps}
use Rattle.std.proofs.lemmas.List.Elements.{All-nil}
use Rattle.std.proofs.lemmas.List.Sums.{sum_by-cons}
use Rattle.mdbox_base.specs.declared.replies.Refusal.TheVariants as refusal
use Rattle.mdbox_base.specs.declared.replies.Reply.{Reply}
use Rattle.mdbox_base.specs.declared.requests.Request.{Request}
use Rattle.model_lists.specs.Lists.{Lists}
use Rattle.list_machine.specs.Run.{RunEvent, Run, own_events, reply_of}
use Rattle.journal.specs.Makes.{StaysStopped}
use Rattle.model_octets.proofs.PairLemmas.{pairs_nil}
use Rattle.journal.specs.Journal.{Requests, HasReply, is_read_fault, no_broken}
use Rattle.journal.specs.JournalExamples.{nothing_around}
use Rattle.task_steps.specs.Step.{IsFirmAt, Seen, HasComeTo, ShowsSeen}
use Rattle.task_steps.proofs.ReplyingLemmas.{serves_start}
use Rattle.serving.specs.Lanes.{AreBehind, AreFresh, IsInTurn, LaneAt, LaneValue, queue_of}
use Rattle.serving.specs.Serving.{IsServing, unreplied}
use Rattle.serving.proofs.LaneLemmas.{waits_in}

-- ---- no replies

pub none_given : (script : Requests) (i : ℕ) (given : Reply) → HasReply (unreplied script) i given → ⊥
none_given [] i given h = let z : None ≡ Some (Some given) = h in cc z
none_given (asked ∷ more) zero given h = let z : Some None ≡ Some (Some given) = h in cc z
none_given (asked ∷ more) (suc i) given h = none_given more i given h

none_faulted : (script : Requests) → count_by is_read_fault (unreplied script) ≡ 0
none_faulted [] = refl
none_faulted (asked ∷ more) = let h = sum_by-cons (λ (r : Option Reply). cond (is_read_fault r) 1 0) None (unreplied more) in let k = none_faulted more in omega (arith, h, k)

as_many : (script : Requests) → length (unreplied script) ≡ length script
as_many [] = refl
as_many (asked ∷ more) = let h = as_many more in omega (arith, h)

unanswered : (script : Requests) (i : ℕ) → i < length script → slice_get (unreplied script) i ≡ Some None
unanswered [] i lt = absurd (let h : i < 0 = lt in omega (arith, h))
unanswered (asked ∷ more) zero lt = refl
unanswered (asked ∷ more) (suc i) lt = unanswered more i (omega (arith, lt))

unanswered_at : (script : Requests) (i : ℕ) (q : ℕ × Request) → slice_get script i ≡ Some q → slice_get (unreplied script) i ≡ Some None
unanswered_at [] i q there = absurd (let z : None ≡ Some q = there in cc z)
unanswered_at (asked ∷ more) zero q there = refl
unanswered_at (asked ∷ more) (suc i) q there = unanswered_at more i q there

-- ---- the queues

number_is : (a b : ℕ) → (a == b) ≡ true → a ≡ b
number_is a b e = grind (arith, common_steps, e)

number_test : (a b : ℕ) → a ≡ b → (a == b) ≡ true
number_test a b e = grind (arith, common_steps, e)

asked_so : (asked : ℕ × Request) (lane : ℕ) → asked.0 ≡ lane → Some asked ≡ Some (lane, asked.1)
asked_so asked lane e = ap (λ (n : ℕ). Some (n, asked.1)) e

some_pair : (a b : ℕ × Request) → Some a ≡ Some b → a ≡ b
some_pair a b e = cc e

zero_more : (n : ℕ) → n + 0 ≡ n
zero_more n = omega arith

none_more : (j : ℕ) → 0 + j ≡ j
none_more j = omega arith

one_more : (n j : ℕ) → (n + 1) + j ≡ n + suc j
one_more n j = omega arith

next_part : (script : Requests) (n : ℕ) (asked : ℕ × Request) (more : Requests) → ((j : ℕ) → slice_get script (n + j) ≡ slice_get (asked ∷ more) j) → (j : ℕ) → slice_get script ((n + 1) + j) ≡ slice_get more j
next_part script n asked more part j = ap (λ (m : ℕ). slice_get script m) (one_more n j) ∙ part (suc j)

first_part : (script : Requests) (n lane : ℕ) (asked : ℕ × Request) (more : Requests) → ((j : ℕ) → slice_get script (n + j) ≡ slice_get (asked ∷ more) j) → (asked.0 == lane) ≡ true → slice_get script n ≡ Some (lane, asked.1)
first_part script n lane asked more part t = ap (λ (m : ℕ). slice_get script m) (sym (zero_more n)) ∙ (part zero ∙ asked_so asked lane (number_is asked.0 lane t))

no_events : (run : Run) (place : ℕ) → run.events ≡ [] → own_events place run ≡ []
no_events run place empty = ap (λ (es : List RunEvent). own_events place (record run { events = es })) empty

behind_start : (script back : Requests) (run : Run) (lane place n : ℕ) → run.events ≡ [] → place < n → ((j : ℕ) → slice_get script (n + j) ≡ slice_get back j) → AreBehind script run lane place (queue_of lane n back)
behind_start script [] run lane place n empty less part = tt
behind_start script (asked ∷ more) run lane place n empty less part =
    by_test (asked.0 == lane) refl (behind_start script more run lane n (n + 1) empty (omega arith) (next_part script n asked more part)) (behind_start script more run lane place (n + 1) empty (omega (arith, less)) (next_part script n asked more part))
  where
    by_test : (t : Bool) → (asked.0 == lane) ≡ t → AreBehind script run lane n (queue_of lane (n + 1) more) → AreBehind script run lane place (queue_of lane (n + 1) more)
        → AreBehind script run lane place (cond t (n ∷ queue_of lane (n + 1) more) (queue_of lane (n + 1) more))
    by_test true t behind others = (less, (asked.1, first_part script n lane asked more part t), no_events run n empty, behind)
    by_test false t behind others = others

turn_start : {T : Type 0} → (At : T → Request → Run → ℕ → List Reply → Type 0) (script back : Requests) (run : Run) (lane n : ℕ) (value : LaneValue T) → run.events ≡ [] → value.task ≡ None → ((j : ℕ) → slice_get script (n + j) ≡ slice_get back j)
    → IsInTurn At script run [] (unreplied script) lane (record value { task = None }) (queue_of lane n back)
turn_start At script [] run lane n value empty none part = refl
turn_start At script (asked ∷ more) run lane n value empty none part = by_test (asked.0 == lane) refl (turn_start At script more run lane (n + 1) value empty none (next_part script n asked more part))
  where
    by_test : (t : Bool) → (asked.0 == lane) ≡ t → IsInTurn At script run [] (unreplied script) lane (record value { task = None }) (queue_of lane (n + 1) more) → IsInTurn At script run [] (unreplied script) lane (record value { task = None }) (cond t (n ∷ queue_of lane (n + 1) more) (queue_of lane (n + 1) more))
    by_test true t others =
        let there = first_part script n lane asked more part t in (
          (
            asked.1,
            record {
              asked = there;
              unanswered = unanswered_at script n (lane, asked.1) there;
              first = All-nil _;
              later = λ j q less is on. (refl, unanswered_at script j q is);
            },
            (no_events run n empty, refl),
          ),
          behind_start script more run lane n (n + 1) empty (omega arith) (next_part script n asked more part),
        )
    by_test false t others = others

waits_start : (back : Requests) (lane n j : ℕ) (q : ℕ × Request) → slice_get back j ≡ Some q → q.0 ≡ lane → Contains (queue_of lane n back) (n + j)
waits_start [] lane n j q there on = absurd (let z : None ≡ Some q = there in cc z)
waits_start (asked ∷ more) lane n zero q there on =
    subst (λ (t : Bool). Contains (cond t (n ∷ queue_of lane (n + 1) more) (queue_of lane (n + 1) more)) (n + 0)) (sym (number_test asked.0 lane (ap (λ (p : ℕ × Request). p.0) (some_pair asked q there) ∙ on))) (waits_in n (queue_of lane (n + 1) more) (n + 0) (inl (zero_more n)))
waits_start (asked ∷ more) lane n (suc j) q there on = by_test (asked.0 == lane) (subst (λ (m : ℕ). Contains (queue_of lane (n + 1) more) m) (one_more n j) (waits_start more lane (n + 1) j q there on))
  where
    by_test : (t : Bool) → Contains (queue_of lane (n + 1) more) (n + suc j) → Contains (cond t (n ∷ queue_of lane (n + 1) more) (queue_of lane (n + 1) more)) (n + suc j)
    by_test true waits = waits_in n (queue_of lane (n + 1) more) (n + suc j) (inr waits)
    by_test false waits = waits

fresh_lane : {T : Type 0} → (At : T → Request → Run → ℕ → List Reply → Type 0) (script : Requests) (run : Run) (lane : ℕ) → run.events ≡ [] → LaneAt At script run [] (unreplied script) lane (record { queue = queue_of lane 0 script; task = None })
fresh_lane {T} At script run lane empty = record {
  in_turn = turn_start At script script run lane 0 none empty refl (λ j. ap (λ (m : ℕ). slice_get script m) (none_more j));
  each = λ i q there on. inl (subst (λ (m : ℕ). Contains (queue_of lane 0 script) m) (none_more i) (waits_start script lane 0 i q there on));
}
  where
    none : LaneValue T
    none = record { queue = queue_of lane 0 script; task = None }

-- ---- the start

none_at : (run : Run) (n : ℕ) (event : RunEvent) → run.events ≡ [] → slice_get run.events n ≡ Some event → ⊥
none_at run n event empty there = let z : None ≡ Some event = sym (ap (λ (es : List RunEvent). slice_get es n) empty) ∙ there in cc z

pub serving_start : {T : Type 0} → (At : T → Request → Run → ℕ → List Reply → Type 0) (start : Lists) (script : Requests) (run : Run) (now : Seen) (lanes : List (LaneValue T)) → run.events ≡ [] → HasComeTo run now → ShowsSeen now start → now.stopped ≡ false → IsFirmAt start now → AreFresh script lanes
    → IsServing At start script run [] no_broken (unreplied script) now now lanes
serving_start At start script run now lanes empty come shows runs firm fresh = record {
  serves = serves_start start script run (unreplied script) now empty come shows runs (none_given script) (none_faulted script) firm;
  follows = record {
    around = λ n. nothing_around;
    after = λ n. nothing_around;
    next = λ n event there. absurd (none_at run n event empty there);
    found = λ n event asked there. absurd (none_at run n event empty there);
  };
  told = λ n event asked there. absurd (none_at run n event empty there);
  given = (as_many script, λ i lt. unanswered script i lt ∙ ap (λ (es : List RunEvent). Some (reply_of i (record run { events = es }))) (sym empty));
  would = λ n event asked around there. absurd (let z : None ≡ Some event = there in cc z);
  stays_stopped = subst (λ (es : List RunEvent). StaysStopped es) (sym empty) (pairs_nil (λ (a b : RunEvent). a.refused ≡ Some refusal.Stopped → (b.refused ≡ Some refusal.Stopped) ⊎ (b.refused ≡ Some refusal.NoMemory)));
  replied_stopped = λ stopped. absurd (let z : true ≡ false = sym stopped ∙ runs in cc z);
  lanes_at = λ k value there. subst (λ (v : LaneValue _). LaneAt At script run [] (unreplied script) (k + 1) v) (sym (fresh k value there)) (fresh_lane At script run (k + 1) empty);
}

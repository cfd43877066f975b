-- Each reply of a read fault has an event of its request that a read fault refused.
use Rattle.std.specs.Prelude.{◌≡◌, ◌≤◌, ◌+◌, ◌==◌, ◌&&◌, nat_le, ℕ, zero, suc, Bool, true, false, cond, List, [], ◌∷◌, ◌++◌, filter, count_by, take, slice_get, Option, Some, None, ◌⊎◌, refl}
use Rattle.std.specs.Option.{option_or}
use Rattle.std.proofs.Common.{sym, ◌∙◌, ap, arith, subst, inl, inr}
use Rattle.std.proofs.lemmas.Grind.{common_steps}
use Rattle.std.proofs.lemmas.Option.{slice_get_within}
use Rattle.std.proofs.lemmas.List.Sums.{sum_by-cons}
use Rattle.mdbox_base.specs.declared.replies.Refusal.{Refusal}
use Rattle.mdbox_base.specs.declared.replies.Refusal.TheVariants as refusal
use Rattle.mdbox_base.specs.declared.replies.Reply.{Reply}
use Rattle.mdbox_base.specs.declared.replies.Reply.TheVariants as reply
use Rattle.model_lists.specs.Lists.{Lists}
use Rattle.list_machine.specs.Run.{RunEvent, Run, before, own_events, first_in, reply_of}
use Rattle.journal.specs.Journal.{Requests, JournalStep, is_read_fault}
use Rattle.journal.specs.Events.{Around, last_refusal, IsRepliedBy, is_faulted, is_fault}
use Rattle.journal.specs.Makes.{AreNextEvents, AreReplies}

-- ---- what is found in a list

-- an element of a list
abbrev IsIn : {X : Type 0} → X → List X → Type 0
IsIn {X = X} x xs = (n : ℕ) × (slice_get xs n ≡ Some x)

in_more : {X : Type 0} → (x y : X) (ys : List X) → IsIn x ys → IsIn x (y ∷ ys)
in_more x y ys i = (suc i.0, i.1)

same_some : {X : Type 0} → (x y : X) → Some x ≡ Some y → x ≡ y
same_some x y e = cc e

none_some : {X : Type 0} → (x : X) → None ≡ Some x → ⊥
none_some x e = cc e

-- an element that a filter keeps stands in the list, and passes
in_filter : {X : Type 0} → (p : X → Bool) (x : X) (xs : List X) → IsIn x (filter p xs) → IsIn x xs × (p x ≡ true)
in_filter p x [] i = absurd (none_some x i.1)
in_filter {X = X} p x (y ∷ ys) i = by_test (p y) refl i (λ n e. in_filter p x ys (n, e))
  where
    first : (n : ℕ) → slice_get (y ∷ filter p ys) n ≡ Some x → p y ≡ true → ((m : ℕ) → slice_get (filter p ys) m ≡ Some x → IsIn x ys × (p x ≡ true)) → IsIn x (y ∷ ys) × (p x ≡ true)
    first zero e t rest = ((zero, e), subst (λ (z : X). p z ≡ true) (same_some y x e) t)
    first (suc n) e t rest = let k = rest n e in (in_more x y ys k.0, k.1)

    by_test : (b : Bool) → p y ≡ b → IsIn x (cond b (y ∷ filter p ys) (filter p ys)) → ((m : ℕ) → slice_get (filter p ys) m ≡ Some x → IsIn x ys × (p x ≡ true)) → IsIn x (y ∷ ys) × (p x ≡ true)
    by_test true t i rest = first i.0 i.1 t rest
    by_test false t i rest = let k = rest i.0 i.1 in (in_more x y ys k.0, k.1)

-- an element of the front of a list
in_take : {X : Type 0} → (k : ℕ) (x : X) (xs : List X) → IsIn x (take k xs) → IsIn x xs
in_take zero x xs i = absurd (none_some x i.1)
in_take (suc k) x [] i = absurd (none_some x i.1)
in_take (suc k) x (y ∷ ys) (zero, e) = (zero, e)
in_take (suc k) x (y ∷ ys) (suc n, e) = in_more x y ys (in_take k x ys (n, e))

-- an element of a list with one more
in_push : {X : Type 0} → (x y : X) (xs : List X) → IsIn x (xs ++ y ∷ []) → IsIn x xs ⊎ (y ≡ x)
in_push x y [] (zero, e) = inr (same_some y x e)
in_push x y [] (suc n, e) = absurd (none_some x e)
in_push x y (z ∷ zs) (zero, e) = inl (zero, e)
in_push {X = X} x y (z ∷ zs) (suc n, e) = by_rest (in_push x y zs (n, e))
  where
    by_rest : IsIn x zs ⊎ (y ≡ x) → IsIn x (z ∷ zs) ⊎ (y ≡ x)
    by_rest (inl i) = inl (in_more x z zs i)
    by_rest (inr same) = inr same

-- ---- the event that was refused

-- the event with the first reply
replying : (r : Reply) (es : List RunEvent) → first_in (λ (e : RunEvent). e.reply) es ≡ Some r → (e : RunEvent) × IsIn e es × (e.reply ≡ Some r)
replying r [] h = absurd (none_some r h)
replying r (e ∷ es) h = by_reply e.reply refl h (replying r es)
  where
    by_reply : (o : Option Reply) → e.reply ≡ o → option_or o (first_in (λ (x : RunEvent). x.reply) es) ≡ Some r → (first_in (λ (x : RunEvent). x.reply) es ≡ Some r → (x : RunEvent) × IsIn x es × (x.reply ≡ Some r))
        → (x : RunEvent) × IsIn x (e ∷ es) × (x.reply ≡ Some r)
    by_reply None q h rest = let k = rest h in (k.0, in_more k.0 e es k.1, k.2)
    by_reply (Some s) q h rest = (e, (zero, refl), q ∙ h)

-- the event with the last refusal
refusing : (r : Refusal) (es : List RunEvent) → last_refusal es ≡ Some r → (e : RunEvent) × IsIn e es × (e.refused ≡ Some r)
refusing r [] h = absurd (none_some r h)
refusing r (e ∷ es) h = by_rest (last_refusal es) refl h (refusing r es)
  where
    by_rest : (o : Option Refusal) → last_refusal es ≡ o → option_or o e.refused ≡ Some r → (last_refusal es ≡ Some r → (x : RunEvent) × IsIn x es × (x.refused ≡ Some r)) → (x : RunEvent) × IsIn x (e ∷ es) × (x.refused ≡ Some r)
    by_rest None q h rest = (e, (zero, refl), h)
    by_rest (Some s) q h rest = let k = rest (q ∙ h) in (k.0, in_more k.0 e es k.1, k.2)

numbers_same : (a b : ℕ) → (a == b) ≡ true → a ≡ b
numbers_same a b e = grind (arith, common_steps, e)

-- Where a request was replied by a read fault, one of its events was refused by it.
faulted : (around after : ℕ → Around) (script : Requests) (start : Lists) (run : Run) (journal : List JournalStep) (i : ℕ) → AreNextEvents around after script start run journal → reply_of i run ≡ Some (reply.Refused refusal.ReadFault)
    → (e : RunEvent) × IsIn e run.events × (e.request ≡ i) × (is_faulted e ≡ true)
faulted around after script start run journal i next h =
    let ends = replying (reply.Refused refusal.ReadFault) (own_events i run) h in
    let own = in_filter (λ (e : RunEvent). e.request == i) ends.0 run.events ends.1 in
    let event = ends.0 in
    let here : slice_get run.events own.0.0 ≡ Some event = own.0.1 in
    let by : last_refusal (own_events event.request (before own.0.0 run) ++ event ∷ []) ≡ Some refusal.ReadFault =
    subst (λ (o : Option Reply). IsRepliedBy (own_events event.request (before own.0.0 run) ++ event ∷ []) o) ends.2 (next own.0.0 event here).is_event.replied in
    let found = refusing refusal.ReadFault (own_events event.request (before own.0.0 run) ++ event ∷ []) by in
    by_place own.0.0 event (numbers_same event.request i own.1) own.0 found.0 found.2 (in_push found.0 event (own_events event.request (before own.0.0 run)) found.1)
  where
    by_place : (n : ℕ) (event : RunEvent) → event.request ≡ i → IsIn event run.events → (f : RunEvent) → f.refused ≡ Some refusal.ReadFault → IsIn f (own_events event.request (before n run)) ⊎ (event ≡ f)
        → (e : RunEvent) × IsIn e run.events × (e.request ≡ i) × (is_faulted e ≡ true)
    by_place n event is there f why (inl k) =
        let own = in_filter (λ (e : RunEvent). e.request == event.request) f (take n run.events) k in
        (f, in_take n f run.events own.0, numbers_same f.request event.request own.1 ∙ is, ap is_fault why)
    by_place n event is there f why (inr same) =
        (f, subst (λ (e : RunEvent). IsIn e run.events) same there, ap (λ (e : RunEvent). e.request) (sym same) ∙ is, ap is_fault why)

-- ---- how many

-- the refused events of requests from a number on
abbrev from_on : ℕ → RunEvent → Bool
from_on k event = is_faulted event && nat_le k event.request

abbrev one : Bool → ℕ
one b = cond b 1 0

fewer_test : (k : ℕ) (event : RunEvent) → one (from_on (suc k) event) ≤ one (from_on k event)
fewer_test k event = by_fault (is_faulted event)
  where
    by_le : (m : ℕ) → one (nat_le (suc k) m) ≤ one (nat_le k m)
    by_le m = grind (arith, common_steps)

    by_fault : (b : Bool) → one (b && nat_le (suc k) event.request) ≤ one (b && nat_le k event.request)
    by_fault true = by_le event.request
    by_fault false = omega arith

fewer : (k : ℕ) (es : List RunEvent) → count_by (from_on (suc k)) es ≤ count_by (from_on k) es
fewer k [] = omega arith
fewer k (e ∷ es) =
    let a = sum_by-cons (λ (x : RunEvent). one (from_on (suc k) x)) e es in
    let b = sum_by-cons (λ (x : RunEvent). one (from_on k x)) e es in
    let c = fewer_test k e in
    let d = fewer k es in
    omega (arith, a, b, c, d)

counted : (k : ℕ) (e : RunEvent) → e.request ≡ k → is_faulted e ≡ true → (one (from_on (suc k) e) ≡ 0) × (one (from_on k e) ≡ 1)
counted k e is why = (
  ap (λ (b : Bool). one (b && nat_le (suc k) e.request)) why ∙ above e.request is,
  ap (λ (b : Bool). one (b && nat_le k e.request)) why ∙ here e.request is,
)
  where
    above : (m : ℕ) → m ≡ k → one (true && nat_le (suc k) m) ≡ 0
    above m is = grind (arith, common_steps, is)

    here : (m : ℕ) → m ≡ k → one (true && nat_le k m) ≡ 1
    here m is = grind (arith, common_steps, is)

one_less : (k : ℕ) (e : RunEvent) (es : List RunEvent) (n : ℕ) → slice_get es n ≡ Some e → e.request ≡ k → is_faulted e ≡ true → count_by (from_on (suc k)) es + 1 ≤ count_by (from_on k) es
one_less k e [] n there is why = absurd (none_some e there)
one_less k e (x ∷ xs) zero there is why =
    let a = sum_by-cons (λ (y : RunEvent). one (from_on (suc k) y)) x xs in
    let b = sum_by-cons (λ (y : RunEvent). one (from_on k y)) x xs in
    let same = same_some x e there in
    let c = counted k x (ap (λ (y : RunEvent). y.request) same ∙ is) (ap is_faulted same ∙ why) in
    let d = fewer k xs in
    omega (arith, a, b, c.0, c.1, d)
one_less k e (x ∷ xs) (suc n) there is why =
    let a = sum_by-cons (λ (y : RunEvent). one (from_on (suc k) y)) x xs in
    let b = sum_by-cons (λ (y : RunEvent). one (from_on k y)) x xs in
    let c = fewer_test k x in
    let d = one_less k e xs n there is why in
    omega (arith, a, b, c, d)

-- a refused event for each of these replies, which are those of the requests from a number on
abbrev HaveEvents : ℕ → List RunEvent → List (Option Reply) → Type 0
HaveEvents k es replies = (i : ℕ) → slice_get replies i ≡ Some (Some (reply.Refused refusal.ReadFault)) → (e : RunEvent) × IsIn e es × (e.request ≡ k + i) × (is_faulted e ≡ true)

is_fault_reply : (r : Option Reply) → is_read_fault r ≡ true → r ≡ Some (reply.Refused refusal.ReadFault)
is_fault_reply None t = absurd (let k : false ≡ true = t in cc k)
is_fault_reply (Some (reply.Refused refusal.ReadFault)) t = refl
is_fault_reply (Some r) t = absurd (let k : false ≡ true = t in cc k)

at_most : (k : ℕ) (es : List RunEvent) (replies : List (Option Reply)) → HaveEvents k es replies → count_by is_read_fault replies ≤ count_by (from_on k) es
at_most k es [] have = omega arith
at_most k es (r ∷ rs) have =
    let a = sum_by-cons (λ (x : Option Reply). one (is_read_fault x)) r rs in
    let rest = at_most (suc k) es rs (λ i e. let h = have (suc i) e in (h.0, h.1, h.2 ∙ (let z : k + suc i ≡ suc k + i = omega arith in z), h.3)) in
    by_test (is_read_fault r) refl a rest
  where
    by_test : (b : Bool) → is_read_fault r ≡ b → count_by is_read_fault (r ∷ rs) ≡ one (is_read_fault r) + count_by is_read_fault rs → count_by is_read_fault rs ≤ count_by (from_on (suc k)) es → count_by is_read_fault (r ∷ rs) ≤ count_by (from_on k) es
    by_test true t a rest =
        let h = have zero (ap (λ (x : Option Reply). Some x) (is_fault_reply r t)) in
        let d = one_less k h.0 es h.1.0 h.1.1 (h.2 ∙ (let z : k + zero ≡ k = omega arith in z)) h.3 in
        let z = ap one t in
        omega (arith, a, rest, d, z)
    by_test false t a rest =
        let d = fewer k es in
        let z = ap one t in
        omega (arith, a, rest, d, z)

all_from_zero : (es : List RunEvent) → count_by (from_on zero) es ≤ count_by is_faulted es
all_from_zero [] = omega arith
all_from_zero (e ∷ es) =
    let a = sum_by-cons (λ (x : RunEvent). one (from_on zero x)) e es in
    let b = sum_by-cons (λ (x : RunEvent). one (is_faulted x)) e es in
    let c = all_from_zero es in
    let d = less (is_faulted e) in
    omega (arith, a, b, c, d)
  where
    less : (b : Bool) → one (b && nat_le zero e.request) ≤ one b
    less true = grind (arith, common_steps)
    less false = omega arith

pub faults_have_events : (around after : ℕ → Around) (script : Requests) (start : Lists) (run : Run) (journal : List JournalStep) (replies : List (Option Reply)) → AreNextEvents around after script start run journal → AreReplies script run replies
    → count_by is_read_fault replies ≤ count_by is_faulted run.events
faults_have_events around after script start run journal replies next are =
    let a = at_most zero run.events replies (λ i e. let h = faulted around after script start run journal i next (given i e) in (h.0, h.1, h.2 ∙ (let z : i ≡ 0 + i = omega arith in z), h.3)) in
    let b = all_from_zero run.events in
    omega (arith, a, b)
  where
    given : (i : ℕ) → slice_get replies i ≡ Some (Some (reply.Refused refusal.ReadFault)) → reply_of i run ≡ Some (reply.Refused refusal.ReadFault)
    given i e =
        let lt = slice_get_within replies i (Some (reply.Refused refusal.ReadFault)) e in
        same_some (reply_of i run) (Some (reply.Refused refusal.ReadFault)) (sym (are.1 i (omega (arith, lt, are.0))) ∙ e)

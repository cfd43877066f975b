-- Which part of a purge comes next, by its own events.
use Rattle.purge_task.proofs.Common.{◌≡◌, ◌==◌, ◌||◌, ℕ, Bool, true, false, not, cond, List, [], ◌∷◌, ◌++◌, map, Option, Some, None, refl, sym, ◌∙◌, ap, subst, All, find, filter, nat_lt, is_some, if◌then◌else◌, list_any, option_or, eqb-true, All-cons, All-nil, All-head, All-tail, Refusal}
use Rattle.purge_task.proofs.Common.{CopiesMessage, EventPart, First, Last, MakesTarget, RemovesFile, RemovesInstance, Run, RunEvent, Switches, TakenFile, map_of, own_events, Around, is_done, last_refusal, next_part, next_taken, purge_goes_on, was_pinned, CopiesBehind, GoesOnBehind, HaveTaken}
use Rattle.purge_task.proofs.Common.{RemovesBehind, told_taken, Source}
use Rattle.mdbox_base.specs.declared.requests.Request.{Request}
use Rattle.mdbox_base.specs.declared.requests.Request.TheVariants as request
use Rattle.journal.specs.Events.{behind_event, behind_purge, purge_copies}
use Rattle.purge_task.specs.Stages.{IsLastOf}

-- ---- the last of some events

pub next_behind : (around : Around) (run : Run) (q : Request) (front : List RunEvent) (last : RunEvent) → next_part around run q (front ++ last ∷ []) ≡ behind_event around run q last last.refused
next_behind around run q [] last = refl
next_behind around run q (e ∷ []) last = refl
next_behind around run q (e ∷ f ∷ front) last = next_behind around run q (f ∷ front) last

pub last_with : (front : List RunEvent) (last : RunEvent) → last_refusal (front ++ last ∷ []) ≡ option_or last.refused (last_refusal front)
last_with [] last = none_or last.refused
  where
    none_or : (r : Option Refusal) → option_or None r ≡ option_or r None
    none_or None = refl
    none_or (Some r) = refl
last_with (e ∷ front) last = ap (λ (r : Option Refusal). option_or r e.refused) (last_with front last) ∙ assoc last.refused (last_refusal front) e.refused
  where
    assoc : (a b c : Option Refusal) → option_or (option_or a b) c ≡ option_or a (option_or b c)
    assoc None b c = refl
    assoc (Some a) b c = refl

-- own events are of the request
own_requests : (place : ℕ) (events : List RunEvent) → All (λ e. e.request ≡ place) (filter (λ e. e.request == place) events)
own_requests place [] = All-nil (λ (e : RunEvent). e.request ≡ place)
own_requests place (e ∷ es) = by_test (e.request == place) refl (own_requests place es)
  where
    by_test : (b : Bool) → (e.request == place) ≡ b → All (λ x. x.request ≡ place) (filter (λ (x : RunEvent). x.request == place) es) → All (λ x. x.request ≡ place) (cond (e.request == place) (e ∷ filter (λ (x : RunEvent). x.request == place) es) (filter (λ (x : RunEvent). x.request == place) es))
    by_test true t rest = subst (λ (c : Bool). All (λ x. x.request ≡ place) (cond c (e ∷ filter (λ (x : RunEvent). x.request == place) es) (filter (λ (x : RunEvent). x.request == place) es))) (sym t)
        (All-cons (λ (x : RunEvent). x.request ≡ place) e _ (eqb-true e.request place t) rest)
    by_test false t rest = subst (λ (c : Bool). All (λ x. x.request ≡ place) (cond c (e ∷ filter (λ (x : RunEvent). x.request == place) es) (filter (λ (x : RunEvent). x.request == place) es))) (sym t) rest

last_of_all : (P : RunEvent → Type 0) (front : List RunEvent) (last : RunEvent) → All P (front ++ last ∷ []) → P last
last_of_all P [] last h = All-head P last [] h
last_of_all P (e ∷ front) last h = last_of_all P front last (All-tail P e (front ++ last ∷ []) h)

last_request : (place : ℕ) (run : Run) (front : List RunEvent) (last : RunEvent) → own_events place run ≡ front ++ last ∷ [] → last.request ≡ place
last_request place run front last is = last_of_all (λ e. e.request ≡ place) front last (subst (λ (es : List RunEvent). All (λ e. e.request ≡ place) es) is (own_requests place run.events))

-- ---- the part behind it

behind_last : (around : Around) (run : Run) (place : ℕ) (Behind : List ℕ → EventPart → Type 0) (l : IsLastOf Behind (own_events place run)) → next_part around run request.Purge (own_events place run) ≡ behind_purge around run l.last l.last.part
behind_last around run place Behind l =
    ap (λ (es : List RunEvent). next_part around run request.Purge es) l.own_are
    ∙ (next_behind around run request.Purge l.front l.last ∙ ap (λ (r : Option Refusal). behind_event around run request.Purge l.last r) l.unrefused)

pub next_goes_on : (around : Around) (run : Run) (place : ℕ) → IsLastOf (GoesOnBehind run) (own_events place run) → next_part around run request.Purge (own_events place run) ≡ purge_goes_on around run (next_taken (own_events place run))
next_goes_on around run place l =
    behind_last around run place (GoesOnBehind run) l
    ∙ (by_part l.last l.last.part l.behind ∙ ap (λ (n : ℕ). purge_goes_on around run (next_taken (own_events n run))) (last_request place run l.front l.last l.own_are))
  where
    one_pinned : (file : ℕ) → was_pinned run file ≡ true → list_any (λ file. was_pinned run file) (file ∷ []) ≡ true
    one_pinned file e = ap (λ (b : Bool). b || false) e

    by_part : (last : RunEvent) (part : EventPart) → GoesOnBehind run last.doomed part → behind_purge around run last part ≡ purge_goes_on around run (next_taken (own_events last.request run))
    by_part last First h = refl
    by_part last RemovesFile h = refl
    by_part last RemovesInstance h = refl
    by_part last Switches h =
        ap (λ (b : Bool). if b then purge_goes_on around run (next_taken (own_events last.request run)) else Some RemovesFile) (ap (λ (fs : List ℕ). list_any (λ file. was_pinned run file) fs) h.1 ∙ one_pinned h.0 h.2)
    by_part last part h = absurd h

pub next_copies : (around : Around) (run : Run) (place : ℕ) → IsLastOf (λ doomed part. CopiesBehind part) (own_events place run) → next_part around run request.Purge (own_events place run) ≡ purge_copies run (own_events place run)
next_copies around run place l =
    behind_last around run place (λ doomed part. CopiesBehind part) l ∙ (by_part l.last l.last.part l.behind ∙ ap (λ (n : ℕ). purge_copies run (own_events n run)) (last_request place run l.front l.last l.own_are))
  where
    by_part : (last : RunEvent) (part : EventPart) → CopiesBehind part → behind_purge around run last part ≡ purge_copies run (own_events last.request run)
    by_part last MakesTarget h = refl
    by_part last CopiesMessage h = refl
    by_part last part h = absurd h

pub next_removes : (around : Around) (run : Run) (place file : ℕ) → IsLastOf (RemovesBehind run file) (own_events place run) → next_part around run request.Purge (own_events place run) ≡ Some RemovesFile
next_removes around run place file l = behind_last around run place (RemovesBehind run file) l ∙ by_part l.last l.last.part l.behind
  where
    none_pinned : was_pinned run file ≡ false → list_any (λ file. was_pinned run file) (file ∷ []) ≡ false
    none_pinned e = ap (λ (b : Bool). b || false) e

    by_part : (last : RunEvent) (part : EventPart) → RemovesBehind run file last.doomed part → behind_purge around run last part ≡ Some RemovesFile
    by_part last Switches h =
        ap (λ (b : Bool). if b then purge_goes_on around run (next_taken (own_events last.request run)) else Some RemovesFile) (ap (λ (fs : List ℕ). list_any (λ file. was_pinned run file) fs) h.0 ∙ none_pinned h.1)
    by_part last part h = absurd h

-- ---- the file that is next

-- a purge that goes on has a next part, whichever
pub goes_on_some : (around : Around) (run : Run) (taken : Option TakenFile) → (part : EventPart) × (purge_goes_on around run taken ≡ Some part)
goes_on_some around run None = by_test (is_some around.instance) refl
  where
    by_test : (b : Bool) → is_some around.instance ≡ b → (part : EventPart) × (purge_goes_on around run None ≡ Some part)
    by_test true e = (RemovesInstance, ap (λ (b : Bool). if b then Some RemovesInstance else Some Last) e)
    by_test false e = (Last, ap (λ (b : Bool). if b then Some RemovesInstance else Some Last) e)
goes_on_some around run (Some taken) = by_tests (nat_lt 0 taken.target) (list_any (λ row. row.file == taken.file) (map_of run).records)
  where
    by_tests : (a b : Bool) → (part : EventPart) × ((if a then Some MakesTarget else (if b then Some Switches else Some RemovesFile)) ≡ Some part)
    by_tests true b = (MakesTarget, refl)
    by_tests false true = (Switches, refl)
    by_tests false false = (RemovesFile, refl)

pub copies_some : (run : Run) (own : List RunEvent) → (part : EventPart) × (purge_copies run own ≡ Some part)
copies_some run own = by_test (nat_lt 0 _)
  where
    by_test : (b : Bool) → (part : EventPart) × ((if b then Some CopiesMessage else Some Switches) ≡ Some part)
    by_test true = (CopiesMessage, refl)
    by_test false = (Switches, refl)

abbrev left_test : List RunEvent → TakenFile → Bool
left_test own taken = not (is_done own taken)

find_done : (own : List RunEvent) (done left : List Source) → All (λ source. is_done own (told_taken source) ≡ true) done → find (left_test own) (map told_taken (done ++ left)) ≡ find (left_test own) (map told_taken left)
find_done own [] left h = refl
find_done own (source ∷ done) left h =
    ap (λ (b : Bool). if not b then Some (told_taken source) else find (left_test own) (map told_taken (done ++ left))) (All-head (λ (s : Source). is_done own (told_taken s) ≡ true) source done h)
    ∙ find_done own done left (All-tail (λ (s : Source). is_done own (told_taken s) ≡ true) source done h)

-- the first of those that are left
pub next_is : (done : List Source) (source : Source) (left : List Source) (own : List RunEvent) → HaveTaken done (source ∷ left) own → next_taken own ≡ Some (told_taken source)
next_is done source left own h =
    ap (λ (ts : List TakenFile). find (left_test own) ts) h.taken
    ∙ (find_done own done (source ∷ left) h.done_are
    ∙ ap (λ (b : Bool). if not b then Some (told_taken source) else find (left_test own) (map told_taken left)) (All-head (λ (s : Source). is_done own (told_taken s) ≡ false) source left h.left_are))

pub next_none : (done : List Source) (own : List RunEvent) → HaveTaken done [] own → next_taken own ≡ None
next_none done own h = ap (λ (ts : List TakenFile). find (left_test own) ts) h.taken ∙ find_done own done [] h.done_are

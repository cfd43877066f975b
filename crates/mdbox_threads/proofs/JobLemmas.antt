-- What jobs come to.
use Rattle.std.specs.Prelude.{◌≡◌, ◌<◌, ◌+◌, ◌++◌, ℕ, suc, Bool, true, false, List, [], ◌∷◌, All, drop, get_or, if◌then◌else◌, length, map, slice_get, slice_index_or, take, Some}
use Rattle.std.proofs.Common.{refl, sym, ◌∙◌, ap, subst, arith, append-nil, append_assoc}
use Rattle.std.proofs.lemmas.List.{take_more, drop_more, take_at, length-append, length-take-le}
use Rattle.std.proofs.lemmas.List.Elements.{All-nil, All-cons}
use Rattle.std.proofs.lemmas.Option.{slice_get-get_or}
use mathlib.Core.List.{map-append}
use Rattle.mdbox_base.specs.declared.requests.Request.{Request}
use Rattle.mdbox_base.specs.declared.requests.Request.TheVariants as request
use Rattle.mdbox_threads.specs.Jobs.{IsDeliveryAt, IsDoneOf, IsMadeOf, IsNextDone, delivers, places_from}
use Rattle.mdbox_threads.specs.declared.job.Job.{Job}

abbrev pub place_of : Job → ℕ
place_of job = job.place

-- ---- what each place has, all places have

pub same_places : (old new : List Job) → length new ≡ length old → ((i : ℕ) (d : Job) → i < length old → (slice_index_or new i d).place ≡ (slice_index_or old i d).place) → map place_of new ≡ map place_of old
same_places [] [] long each = refl
same_places [] (y ∷ ys) long each = absurd (omega (arith, long))
same_places (x ∷ xs) [] long each = absurd (omega (arith, long))
same_places (x ∷ xs) (y ∷ ys) long each =
    let head : y.place ≡ x.place = each 0 x (omega arith) in
    let rest : map place_of ys ≡ map place_of xs = same_places xs ys (omega (arith, long)) (λ i d lt. each (suc i) d (omega (arith, lt))) in
    ap (λ (n : ℕ). n ∷ map place_of ys) head ∙ ap (λ (ns : List ℕ). x.place ∷ ns) rest

-- what a lent part holds when it is given back
pub given_back : {X : Type 0} (n : ℕ) (new rest : List X) → length new ≡ n → take n (new ++ rest) ≡ new
given_back n new rest long = take_at new rest n long

-- ---- jobs of deliveries

pub no_message : (asked : Request) → ((name : List ℕ) (time : ℕ) (message : List ℕ) → asked ≡ request.Deliver name time message → ⊥) → delivers asked ≡ false
no_message (request.Deliver name time message) unlike = absurd (unlike name time message refl)
no_message asked unlike = refl

one_more : (b : Bool) (k : ℕ) (new old tail : List ℕ) → new ≡ old ++ tail → (if b then k ∷ new else new) ≡ (if b then k ∷ old else old) ++ tail
one_more true k new old tail e = ap (λ (ns : List ℕ). k ∷ ns) e
one_more false k new old tail e = e

pub places_more : (k : ℕ) (script : List (ℕ × Request)) (asked : ℕ × Request) → places_from k (script ++ asked ∷ []) ≡ places_from k script ++ (if delivers asked.1 then (k + length script) ∷ [] else [])
places_more k [] asked = ap (λ (n : ℕ). if delivers asked.1 then n ∷ [] else []) (omega arith)
places_more k (x ∷ script) asked =
    one_more (delivers x.1) k _ _ _ (places_more (k + 1) script asked ∙ ap (λ (n : ℕ). places_from (k + 1) script ++ (if delivers asked.1 then n ∷ [] else [])) (omega arith))

-- the places of one request more in a walk over them
walked : (script : List (ℕ × Request)) (k : ℕ) (asked : ℕ × Request) → k < length script → asked ≡ get_or script k asked → places_from 0 (take (k + 1) script) ≡ places_from 0 (take k script) ++ (if delivers asked.1 then k ∷ [] else [])
walked script k asked lt is =
    let more : take (k + 1) script ≡ take k script ++ asked ∷ [] = take_more script k asked lt ∙ ap (λ (x : ℕ × Request). take k script ++ x ∷ []) (sym is) in
    let long : 0 + length (take k script) ≡ k = omega (arith, length-take-le k script (omega (arith, lt))) in
    ap (places_from 0) more ∙ places_more 0 (take k script) asked ∙ ap (λ (n : ℕ). places_from 0 (take k script) ++ (if delivers asked.1 then n ∷ [] else [])) long

pub job_more : (script : List (ℕ × Request)) (k : ℕ) (asked : ℕ × Request) (jobs more : List Job) (job : Job) → k < length script → asked ≡ get_or script k asked → delivers asked.1 ≡ true → map place_of jobs ≡ places_from 0 (take k script) → job.place ≡ k → more ≡ jobs ++ job ∷ [] → map place_of more ≡ places_from 0 (take (k + 1) script)
job_more script k asked jobs more job lt is found e at m =
    ap (map place_of) m ∙ map-append place_of jobs (job ∷ []) ∙ ap (λ (ns : List ℕ). ns ++ job.place ∷ []) e ∙ ap (λ (n : ℕ). places_from 0 (take k script) ++ n ∷ []) at
    ∙ ap (λ (b : Bool). places_from 0 (take k script) ++ (if b then k ∷ [] else [])) (sym found) ∙ sym (walked script k asked lt is)

pub no_job_more : (script : List (ℕ × Request)) (k : ℕ) (asked : ℕ × Request) (jobs : List Job) → k < length script → asked ≡ get_or script k asked → delivers asked.1 ≡ false → map place_of jobs ≡ places_from 0 (take k script) → map place_of jobs ≡ places_from 0 (take (k + 1) script)
no_job_more script k asked jobs lt is other e =
    e ∙ sym (append-nil (places_from 0 (take k script))) ∙ ap (λ (b : Bool). places_from 0 (take k script) ++ (if b then k ∷ [] else [])) (sym other) ∙ sym (walked script k asked lt is)

-- ---- where jobs stand

after : {X : Type 0} (before : List X) (x : X) (rest : List X) → slice_get (before ++ x ∷ rest) (length before) ≡ Some x
after [] x rest = refl
after (y ∷ before) x rest = after before x rest

stand_if : (b : Bool) (asked : ℕ × Request) (before rest : List (ℕ × Request)) (jobs : List Job) → delivers asked.1 ≡ b
    → map place_of jobs ≡ (if b then length before ∷ places_from (length before + 1) rest else places_from (length before + 1) rest)
    → ((more : List Job) → map place_of more ≡ places_from (length before + 1) rest → All (λ (job : Job). IsDeliveryAt (before ++ asked ∷ rest) job.place) more)
    → All (λ (job : Job). IsDeliveryAt (before ++ asked ∷ rest) job.place) jobs
stand_if true asked before rest [] is e on = absurd (cc e)
stand_if true asked before rest (job ∷ jobs) is e on =
    let at : job.place ≡ length before = ap (λ (ns : List ℕ). get_or ns 0 0) e in
    let more : map place_of jobs ≡ places_from (length before + 1) rest = ap (drop 1) e in
    All-cons (λ (j : Job). IsDeliveryAt (before ++ asked ∷ rest) j.place) job jobs (asked, ap (slice_get (before ++ asked ∷ rest)) at ∙ after before asked rest, is) (on jobs more)
stand_if false asked before rest jobs is e on = on jobs e

stand : (before rest : List (ℕ × Request)) (jobs : List Job) → map place_of jobs ≡ places_from (length before) rest → All (λ (job : Job). IsDeliveryAt (before ++ rest) job.place) jobs
stand before [] [] e = All-nil (λ (job : Job). IsDeliveryAt (before ++ []) job.place)
stand before [] (job ∷ jobs) e = absurd (cc e)
stand before (asked ∷ rest) jobs e =
    let whole : (before ++ asked ∷ []) ++ rest ≡ before ++ asked ∷ rest = append_assoc before (asked ∷ []) rest in
    let long : length before + 1 ≡ length (before ++ asked ∷ []) = sym (length-append before (asked ∷ [])) in
    stand_if (delivers asked.1) asked before rest jobs refl e
    (λ more m. subst (λ (script : List (ℕ × Request)). All (λ (job : Job). IsDeliveryAt script job.place) more) whole (stand (before ++ asked ∷ []) rest more (m ∙ ap (λ (n : ℕ). places_from n rest) long)))

pub places_stand : (script : List (ℕ × Request)) (jobs : List Job) → map place_of jobs ≡ places_from 0 script → All (λ (job : Job). IsDeliveryAt script job.place) jobs
places_stand script jobs e = stand [] script jobs e

-- ---- jobs that are dealt out

left_places : (script : List (ℕ × Request)) (k : ℕ) (asked : ℕ × Request) → k < length script → asked ≡ get_or script k asked → places_from k (drop k script) ≡ (if delivers asked.1 then k ∷ places_from (k + 1) (drop (k + 1) script) else places_from (k + 1) (drop (k + 1) script))
left_places script k asked lt is = ap (places_from k) (drop_more script k asked lt ∙ ap (λ (x : ℕ × Request). x ∷ drop (k + 1) script) (sym is))

first_done : (script : List (ℕ × Request)) (k : ℕ) (asked : ℕ × Request) (jobs : List Job) (rest : List ℕ) → k < length script → asked ≡ get_or script k asked → map place_of jobs ≡ k ∷ rest → All (IsDoneOf script) jobs → IsNextDone asked.1 jobs
first_done script k asked [] rest lt is e done = absurd (cc e)
first_done script k asked (job ∷ jobs) rest lt is e done =
    let at : job.place ≡ k = ap (λ (ns : List ℕ). get_or ns 0 0) e in
    let own : IsDoneOf script job = done 0 job (omega arith) in
    let here : slice_get script k ≡ Some asked = slice_get-get_or script k asked lt ∙ ap (λ (x : ℕ × Request). Some x) (sym is) in
    let same : own.0 ≡ asked = cc (own.1, at, here) in
    subst (λ (x : ℕ × Request). IsMadeOf x.1 job.made) same own.2

pub next_done : (script : List (ℕ × Request)) (k : ℕ) (asked : ℕ × Request) (jobs : List Job) → k < length script → asked ≡ get_or script k asked → map place_of jobs ≡ places_from k (drop k script) → All (IsDoneOf script) jobs → delivers asked.1 ≡ true → IsNextDone asked.1 jobs
next_done script k asked jobs lt is e done found =
    first_done script k asked jobs (places_from (k + 1) (drop (k + 1) script)) lt is (e ∙ left_places script k asked lt is ∙ ap (λ (b : Bool). if b then k ∷ places_from (k + 1) (drop (k + 1) script) else places_from (k + 1) (drop (k + 1) script)) found) done

rest_if : (b : Bool) (script : List (ℕ × Request)) (k : ℕ) (jobs : List Job) (rest : List ℕ) → map place_of jobs ≡ (if b then k ∷ rest else rest) → All (IsDoneOf script) jobs → (map place_of (if b then drop 1 jobs else jobs) ≡ rest) × All (IsDoneOf script) (if b then drop 1 jobs else jobs)
rest_if true script k [] rest e done = absurd (cc e)
rest_if true script k (job ∷ jobs) rest e done = (ap (drop 1) e, λ i d lt. done (suc i) d (omega (arith, lt)))
rest_if false script k jobs rest e done = (e, done)

pub next_rest : (script : List (ℕ × Request)) (k : ℕ) (asked : ℕ × Request) (jobs later : List Job) → k < length script → asked ≡ get_or script k asked → map place_of jobs ≡ places_from k (drop k script) → All (IsDoneOf script) jobs → later ≡ (if delivers asked.1 then drop 1 jobs else jobs) → (map place_of later ≡ places_from (k + 1) (drop (k + 1) script)) × All (IsDoneOf script) later
next_rest script k asked jobs later lt is e done l =
    let found = rest_if (delivers asked.1) script k jobs (places_from (k + 1) (drop (k + 1) script)) (e ∙ left_places script k asked lt is) done in
    subst (λ (x : List Job). (map place_of x ≡ places_from (k + 1) (drop (k + 1) script)) × All (IsDoneOf script) x) (sym l) found

-- Which part of a resync comes next, by its own events.
use Rattle.resync_task.proofs.Common.{◌≡◌, ◌<◌, ◌+◌, ℕ, Bool, List, [], ◌∷◌, ◌++◌, ◌⊎◌, length, Option, Some, None, append-nil, refl, sym, ◌∙◌, ap, subst, arith, inl, inr, sum_by, count_by, if◌then◌else◌, sum_by-cons, Refusal, RunEvent, Run, own_events, Around, HasRead}
use Rattle.std.specs.Prelude.{flat_map, nat_lt}
use Rattle.std.specs.Option.{option_or}
use Rattle.std.proofs.lemmas.Bool.{lt-ltb, le-ltb}
use Rattle.std.proofs.lemmas.Grind.{flat_map-append}
use Rattle.std.proofs.lemmas.List.Sums.{sum_by-append}
use Rattle.mdbox_base.specs.declared.requests.Request.{Request}
use Rattle.mdbox_base.specs.declared.requests.Request.TheVariants as request
use Rattle.list_machine.specs.Run.{EventPart, First, ReadsFile, Last}
use Rattle.journal.specs.Events.{next_part, behind_event, behind_resync, is_reading, file_left, last_refusal}
use Rattle.resync_task.specs.Stages.{HasGoneOn}

pub next_behind : (around : Around) (run : Run) (q : Request) (front : List RunEvent) (last : RunEvent) → next_part around run q (front ++ last ∷ []) ≡ behind_event around run q last last.refused
next_behind around run q [] last = refl
next_behind around run q (e ∷ []) last = refl
next_behind around run q (e ∷ f ∷ front) last = next_behind around run q (f ∷ front) last

abbrev pub next_by : Bool → Option EventPart
next_by left = if left then Some ReadsFile else Some Last

-- what stands behind a listing or a reading
behind_part : (run : Run) (last : RunEvent) → (last.part ≡ First) ⊎ (last.part ≡ ReadsFile) → behind_resync run last last.part ≡ next_by (file_left (own_events last.request run))
behind_part run last (inl e) = ap (λ (p : EventPart). behind_resync run last p) e
behind_part run last (inr e) = ap (λ (p : EventPart). behind_resync run last p) e

pub behind_last : (around : Around) (run : Run) (place : ℕ) (own : List RunEvent) → (h : HasGoneOn place own) → next_part around run request.Resync own ≡ next_by (file_left (own_events place run))
behind_last around run place own h =
    ap (next_part around run request.Resync) h.own_are
    ∙ (next_behind around run request.Resync h.before h.last ∙ (ap (λ (r : Option Refusal). behind_event around run request.Resync h.last r) h.unrefused
    ∙ (behind_part run h.last h.part ∙ ap (λ (p : ℕ). next_by (file_left (own_events p run))) h.request_is)))

left_is : (files : List ℕ) (read damaged place : ℕ) (own : List RunEvent) → HasRead files read damaged place own → file_left own ≡ nat_lt read (length files)
left_is files read damaged place own h = ap (λ (n : ℕ). nat_lt n (sum_by (λ (e : RunEvent). length e.listed) own)) h.read_are ∙ ap (λ (n : ℕ). nat_lt read n) h.many

-- A file is read next while one is left, and then the counts are put right.
pub next_reads : (around : Around) (run : Run) (files : List ℕ) (read damaged place : ℕ) → HasRead files read damaged place (own_events place run) → read < length files → next_part around run request.Resync (own_events place run) ≡ Some ReadsFile
next_reads around run files read damaged place h l =
    behind_last around run place (own_events place run) h.goes_on ∙ ap next_by (left_is files read damaged place (own_events place run) h ∙ lt-ltb read (length files) l)

pub next_corrects : (around : Around) (run : Run) (files : List ℕ) (damaged place : ℕ) → HasRead files (length files) damaged place (own_events place run) → next_part around run request.Resync (own_events place run) ≡ Some Last
next_corrects around run files damaged place h =
    behind_last around run place (own_events place run) h.goes_on ∙ ap next_by (left_is files (length files) damaged place (own_events place run) h ∙ le-ltb (length files) (length files) (omega arith))

-- ---- one event more

pub one_more : (place : ℕ) (own front : List RunEvent) (event : RunEvent) → own ≡ front ++ event ∷ [] → event.request ≡ place → event.refused ≡ None → (event.part ≡ First) ⊎ (event.part ≡ ReadsFile) → HasGoneOn place own
one_more place own front event is request unrefused part = record { before = front; last = event; own_are = is; request_is = request; unrefused = unrefused; part = part }

abbrev files_of_event : RunEvent → ℕ
files_of_event e = length e.listed

abbrev one_reading : RunEvent → ℕ
one_reading e = if is_reading e.part then 1 else 0

abbrev damaged_of_event : RunEvent → ℕ
damaged_of_event e = length e.damaged

none_refused : (own : List RunEvent) (event : RunEvent) → last_refusal own ≡ None → event.refused ≡ None → last_refusal (own ++ event ∷ []) ≡ None
none_refused [] event h e = ap (λ (r : Option Refusal). option_or None r) e
none_refused (x ∷ xs) event h e = ap (λ (r : Option Refusal). option_or r x.refused) (none_refused xs event (front_none (last_refusal xs) x.refused h) e) ∙ behind_none (last_refusal xs) x.refused h
  where
    front_none : (a b : Option Refusal) → option_or a b ≡ None → a ≡ None
    front_none None b k = refl
    front_none (Some r) b k = k

    behind_none : (a b : Option Refusal) → option_or a b ≡ None → option_or None b ≡ None
    behind_none None b k = k
    behind_none (Some r) b k = absurd (let z : Some r ≡ None = k in cc z)

pub nothing_refused : (own : List RunEvent) (event : RunEvent) → last_refusal own ≡ None → event.refused ≡ None → last_refusal (own ++ event ∷ []) ≡ None
nothing_refused own event h e = none_refused own event h e

counted_one : (e : RunEvent) → count_by (λ x. is_reading x.part) (e ∷ []) ≡ one_reading e
counted_one e = let k = sum_by-cons one_reading e [] in omega (arith, k)

-- Behind the listing, files are listed, and none is read.
pub read_none : (place : ℕ) (own : List RunEvent) (event : RunEvent) (files : List ℕ) → own ≡ [] → event.request ≡ place → event.refused ≡ None → event.part ≡ First → event.listed ≡ files → event.damaged ≡ []
    → HasRead files 0 0 place (own ++ event ∷ [])
read_none place own event files none request unrefused part listed undamaged = subst (λ (es : List RunEvent). HasRead files 0 0 place (es ++ event ∷ [])) (sym none) (record {
  unrefused = none_refused [] event refl unrefused;
  listed = append-nil event.listed ∙ listed;
  many = let k = sum_by-cons files_of_event event [] in let l = ap (λ (ts : List ℕ). length ts) listed in omega (arith, k, l);
  read_are = let k = counted_one event in let z : one_reading event ≡ 0 = ap (λ (p : EventPart). if is_reading p then 1 else 0) part in omega (arith, k, z);
  damaged_are = let k = sum_by-cons damaged_of_event event [] in let z : damaged_of_event event ≡ 0 = ap (λ (ds : List ℕ). length ds) undamaged in omega (arith, k, z);
  goes_on = one_more place (event ∷ []) [] event refl request unrefused (inl part);
})

-- Behind a reading one file more is read.
pub read_more : (place : ℕ) (own : List RunEvent) (event : RunEvent) (files : List ℕ) (read damaged : ℕ) → HasRead files read damaged place own → event.request ≡ place → event.refused ≡ None → event.part ≡ ReadsFile → event.listed ≡ []
    → HasRead files (read + 1) (damaged + length event.damaged) place (own ++ event ∷ [])
read_more place own event files read damaged h request unrefused part unlisted = record {
  unrefused = none_refused own event h.unrefused unrefused;
  listed = flat_map-append (λ (e : RunEvent). e.listed) own (event ∷ []) ∙ (ap (λ (ts : List ℕ). flat_map (λ (e : RunEvent). e.listed) own ++ (ts ++ [])) unlisted ∙ (append-nil (flat_map (λ (e : RunEvent). e.listed) own) ∙ h.listed));
  many = let a = sum_by-append files_of_event own (event ∷ []) in let k = sum_by-cons files_of_event event [] in let z : files_of_event event ≡ 0 = ap (λ (ts : List ℕ). length ts) unlisted in let m = h.many in omega (arith, a, k, z, m);
  read_are = let a = sum_by-append one_reading own (event ∷ []) in let k = sum_by-cons one_reading event [] in let z : one_reading event ≡ 1 = ap (λ (p : EventPart). if is_reading p then 1 else 0) part in let m = h.read_are in omega (arith, a, k, z, m);
  damaged_are = let a = sum_by-append damaged_of_event own (event ∷ []) in let k = sum_by-cons damaged_of_event event [] in let m = h.damaged_are in omega (arith, a, k, m);
  goes_on = one_more place (own ++ event ∷ []) own event refl request unrefused (inr part);
}

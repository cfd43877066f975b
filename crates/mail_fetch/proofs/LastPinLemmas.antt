-- Whether a fetch that has unpinned removes its file next.
use Rattle.mail_fetch.proofs.Common.{◌≡◌, ◌≢◌, ◌+◌, ◌==◌, ◌&&◌, ◌||◌, ℕ, Bool, true, false, not, List, [], ◌∷◌, ◌++◌, Option, Some, None, refl, sym, ◌∙◌, ap, subst, arith, inl, inr, All, nat_lt, if◌then◌else◌, list_any, option_or, cases_lt, eq-eqb, ne_eqb, All-cons, All-head, All-nil}
use Rattle.mail_fetch.proofs.Common.{All-tail, Uid, Refusal, Reply, EventPart, Pin, RemovesFile, Run, RunEvent, and_then, has_unpinned, is_doomed, is_one_of, is_pinned, is_unpinning, own_events, Around, behind_event, last_refusal, leaves_doomed, next_part, refusal_in, own_more, own_other}
use Rattle.mail_fetch.proofs.Common.{parts_to_read, pieces_left, RemovesNext, UnpinsNext, StoredAt}
use Rattle.std.proofs.lemmas.List.Elements.{All-append}
use Rattle.std.proofs.lemmas.List.Folds.{list_any-append}
use Rattle.mdbox_base.specs.declared.requests.Request.TheVariants as request
use Rattle.journal.specs.Events.{behind_fetch}
use Rattle.mail_fetch.proofs.FetchPartLemmas.{last_request, last_with, less, next_behind, not_less, own_files, unpins_by}

pub or_none : (b : Bool) → (b || false) ≡ b
or_none true = refl
or_none false = refl

pub or_true : (b : Bool) → (b || true) ≡ true
or_true true = refl
or_true false = refl

pub any_push : {X : Type 0} → (p : X → Bool) (xs : List X) (x : X) → list_any p (xs ++ x ∷ []) ≡ (list_any p xs || p x)
any_push p xs x = list_any-append p xs (x ∷ []) ∙ ap (λ (b : Bool). list_any p xs || b) (or_none (p x))

-- ---- its own pins

abbrev pin_of : StoredAt → Pin
pin_of from = record { file = from.file.0; pieces = pieces_left (parts_to_read from); instances = from.instances }

-- the first of these events pins the file, and none of them another
pub record PinsFile (file : ℕ) (own : List RunEvent) : Type 0 where
  pub pin : RunEvent
  pub rest : List RunEvent
  pub own_are : own ≡ pin ∷ rest
  pub one : Pin
  pub pins : pin.pins ≡ one ∷ []
  pub file_is : one.file ≡ file
  pub others : All (λ e. All (λ p. p.file ≡ file) e.pins) own

pub pins_file : (from : StoredAt) (given : Reply) (own : List RunEvent) → UnpinsNext from given own → PinsFile from.file.0 own
pins_file from given own (inl (fetched, (behind, p, read, many))) = record { pin = p.pin; rest = behind; own_are = p.own_are; one = pin_of from; pins = p.pins; file_is = refl; others = own_files from given own (inl (fetched, (behind, p, read, many))) }
pins_file from given own (inr (why, front, last, given_is, may, p, read, refused)) =
    record { pin = p.pin; rest = front ++ last ∷ []; own_are = p.own_are; one = pin_of from; pins = p.pins; file_is = refl; others = own_files from given own (inr (why, front, last, given_is, may, p, read, refused)) }

-- with another event that pins none
pub pins_file_more : (file : ℕ) (own : List RunEvent) (event : RunEvent) → event.pins ≡ [] → PinsFile file own → PinsFile file (own ++ event ∷ [])
pins_file_more file own event none h = record {
  pin = h.pin;
  rest = h.rest ++ event ∷ [];
  own_are = ap (λ (es : List RunEvent). es ++ event ∷ []) h.own_are;
  one = h.one;
  pins = h.pins;
  file_is = h.file_is;
  others = All-append (λ (e : RunEvent). All (λ p. p.file ≡ file) e.pins) own (event ∷ []) h.others
      (All-cons (λ (e : RunEvent). All (λ p. p.file ≡ file) e.pins) event [] (subst (λ (ps : List Pin). All (λ (p : Pin). p.file ≡ file) ps) (sym none) (All-nil (λ (p : Pin). p.file ≡ file))) (All-nil (λ (e : RunEvent). All (λ p. p.file ≡ file) e.pins)));
}

pub removes_pins : (file : ℕ) (given : Reply) (own : List RunEvent) → RemovesNext file given own → PinsFile file own
removes_pins file given own h =
    subst (PinsFile file) (sym h.own_are) (pins_file_more file h.front h.last h.none_pinned (subst (λ (n : ℕ). PinsFile n h.front) h.file_is (pins_file h.from given h.front h.unpinned)))

-- one of them pinned it
pub some_pins : (file : ℕ) (own : List RunEvent) → PinsFile file own → list_any (λ e. list_any (λ p. p.file == file) e.pins) own ≡ true
some_pins file own h =
    ap (λ (es : List RunEvent). list_any (λ (e : RunEvent). list_any (λ (p : Pin). p.file == file) e.pins) es) h.own_are
    ∙ ap (λ (b : Bool). b || list_any (λ (e : RunEvent). list_any (λ (p : Pin). p.file == file) e.pins) h.rest) (ap (λ (ps : List Pin). list_any (λ (p : Pin). p.file == file) ps) h.pins ∙ ap (λ (b : Bool). b || false) (eq-eqb h.one.file file h.file_is))

-- ---- whether the file is to be removed

abbrev goes : Run → ℕ → Bool
goes run file = is_doomed run file && not (is_pinned run file)

none_goes : (run : Run) (file : ℕ) (own : List RunEvent) → All (λ e. All (λ p. p.file ≡ file) e.pins) own → goes run file ≡ false → list_any (λ e. list_any (λ p. goes run p.file) e.pins) own ≡ false
none_goes run file own all none = each_event own all
  where
    each_pin : (ps : List Pin) → All (λ p. p.file ≡ file) ps → list_any (λ p. goes run p.file) ps ≡ false
    each_pin [] all = refl
    each_pin (p ∷ ps) all =
        ap (λ (b : Bool). b || list_any (λ (x : Pin). goes run x.file) ps) (ap (goes run) (All-head (λ (x : Pin). x.file ≡ file) p ps all) ∙ none) ∙ each_pin ps (All-tail (λ (x : Pin). x.file ≡ file) p ps all)

    each_event : (es : List RunEvent) → All (λ e. All (λ p. p.file ≡ file) e.pins) es → list_any (λ e. list_any (λ p. goes run p.file) e.pins) es ≡ false
    each_event [] all = refl
    each_event (e ∷ es) all =
        ap (λ (b : Bool). b || list_any (λ (x : RunEvent). list_any (λ (p : Pin). goes run p.file) x.pins) es) (each_pin e.pins (All-head (λ (x : RunEvent). All (λ p. p.file ≡ file) x.pins) e es all))
        ∙ each_event es (All-tail (λ (x : RunEvent). All (λ p. p.file ≡ file) x.pins) e es all)

one_goes : (run : Run) (file : ℕ) (own : List RunEvent) → PinsFile file own → goes run file ≡ true → list_any (λ e. list_any (λ p. goes run p.file) e.pins) own ≡ true
one_goes run file own h is =
    ap (λ (es : List RunEvent). list_any (λ (e : RunEvent). list_any (λ (p : Pin). goes run p.file) e.pins) es) h.own_are
    ∙ ap (λ (b : Bool). b || list_any (λ (e : RunEvent). list_any (λ (p : Pin). goes run p.file) e.pins) h.rest) (ap (λ (ps : List Pin). list_any (λ (p : Pin). goes run p.file) ps) h.pins ∙ ap (λ (b : Bool). b || false) (ap (goes run) h.file_is ∙ is))

-- Of what it has pinned something is to be removed if and only if the file is doomed and has no pin.
pub leaves_is : (request : ℕ) (run : Run) (file : ℕ) → PinsFile file (own_events request run) → leaves_doomed request run ≡ (is_doomed run file && not (is_pinned run file))
leaves_is request run file h = by_value (goes run file) refl
  where
    by_value : (b : Bool) → goes run file ≡ b → leaves_doomed request run ≡ goes run file
    by_value true e = one_goes run file (own_events request run) h e ∙ sym e
    by_value false e = none_goes run file (own_events request run) h.others e ∙ sym e

pub both_true : (a b : Bool) → (a && not b) ≡ true → (a ≡ true) × (b ≡ false)
both_true true true e = absurd (let k : false ≡ true = e in cc k)
both_true true false e = (refl, refl)
both_true false b e = absurd (let k : false ≡ true = e in cc k)

-- with one pin less
pub last_is : (doomed : Bool) (pins now : ℕ) → now + 1 ≡ pins → (doomed && not (nat_lt 0 now)) ≡ (doomed && (pins == 1))
last_is false pins now e = refl
last_is true pins now e = elim (cases_lt 0 now) [
  | inl more ↦ ap (λ (b : Bool). not b) (less 0 now more) ∙ sym (ne_eqb pins 1 (λ one. omega (arith, more, one, e)))
  | inr none ↦ ap (λ (b : Bool). not b) (not_less 0 now none) ∙ sym (eq-eqb pins 1 (omega (arith, none, e)))
]

-- ---- it removes next

pub next_removes : (around : Around) (name : List ℕ) (uid : Uid) (run : Run) (place file : ℕ) (given : Reply) → RemovesNext file given (own_events place run) → leaves_doomed place run ≡ true → next_part around run (request.Fetch name uid) (own_events place run) ≡ Some RemovesFile
next_removes around name uid run place file given h leaves =
    ap (next_part around run (request.Fetch name uid)) h.own_are
    ∙ (next_behind around run (request.Fetch name uid) h.front h.last
    ∙ (ap (λ (r : Option Refusal). behind_event around run (request.Fetch name uid) h.last r) h.unrefused
    ∙ (ap (λ (p : EventPart). behind_fetch run h.last p) h.part
    ∙ ap (λ (b : Bool). if b then Some RemovesFile else None) (ap (λ (r : ℕ). leaves_doomed r run) (last_request place run h.front h.last h.own_are) ∙ leaves))))

-- by the last refusal of its events it replies
pub removes_by : (file : ℕ) (given : Reply) (own : List RunEvent) → RemovesNext file given own → last_refusal own ≡ refusal_in given
removes_by file given own h = ap last_refusal h.own_are ∙ (last_with h.front h.last ∙ (ap (λ (r : Option Refusal). option_or r (last_refusal h.front)) h.unrefused ∙ unpins_by h.from given h.front h.unpinned))

-- ---- beside an event of another request

-- who has unpinned still has
unpinned_on : (request : ℕ) (run : Run) (event : RunEvent) → has_unpinned request run ≡ true → has_unpinned request (and_then run event) ≡ true
unpinned_on request run event e = by_test (event.request == request) refl
  where
    by_test : (b : Bool) → (event.request == request) ≡ b → has_unpinned request (and_then run event) ≡ true
    by_test true t = ap (λ (es : List RunEvent). list_any is_unpinning es) (own_more request run event t) ∙ (any_push is_unpinning (own_events request run) event ∙ ap (λ (b : Bool). b || is_unpinning event) e)
    by_test false t = ap (λ (es : List RunEvent). list_any is_unpinning es) (own_other request run event t) ∙ e

none_of : {X : Type 0} → (p q : X → Bool) → ((x : X) → p x ≡ false → q x ≡ false) → (xs : List X) → list_any p xs ≡ false → list_any q xs ≡ false
none_of p q less [] none = refl
none_of p q less (x ∷ xs) none = by_head (p x) (list_any p xs) refl refl none (none_of p q less xs)
  where
    by_head : (a b : Bool) → p x ≡ a → list_any p xs ≡ b → (a || b) ≡ false → (list_any p xs ≡ false → list_any q xs ≡ false) → list_any q (x ∷ xs) ≡ false
    by_head true b is rest e behind = absurd (let k : true ≡ false = e in cc k)
    by_head false true is rest e behind = absurd (let k : true ≡ false = e in cc k)
    by_head false false is rest e behind = ap (λ (c : Bool). c || list_any q xs) (less x is) ∙ behind rest

-- whether the file has a pin of the event's, still
abbrev pins_still : Run → ℕ → RunEvent → Bool
pins_still run file e = list_any (λ p. p.file == file) e.pins && not (has_unpinned e.request run)

fewer_pins : (a b c : Bool) → (b ≡ true → c ≡ true) → (a && not b) ≡ false → (a && not c) ≡ false
fewer_pins false b c h e = refl
fewer_pins true true c h e = ap (λ (x : Bool). not x) (h refl)
fewer_pins true false c h e = absurd (let k : true ≡ false = e in cc k)

-- an event that doesn't pin the file
unpinned_stays : (run : Run) (event : RunEvent) (file : ℕ) → list_any (λ p. p.file == file) event.pins ≡ false → is_pinned run file ≡ false → is_pinned (and_then run event) file ≡ false
unpinned_stays run event file spares none =
    any_push (pins_still (and_then run event) file) run.events event
    ∙ (ap (λ (b : Bool). b || pins_still (and_then run event) file event)
    (none_of (pins_still run file) (pins_still (and_then run event) file) (λ e. fewer_pins (list_any (λ (p : Pin). p.file == file) e.pins) (has_unpinned e.request run) (has_unpinned e.request (and_then run event)) (unpinned_on e.request run event)) run.events none)
    ∙ ap (λ (b : Bool). b && not (has_unpinned event.request (and_then run event))) spares)

-- an event that doesn't remove it
doomed_stays : (run : Run) (event : RunEvent) (file : ℕ) → is_one_of event.removed file ≡ false → is_doomed run file ≡ true → is_doomed (and_then run event) file ≡ true
doomed_stays run event file spares e =
    let h = both_true (list_any (λ (x : RunEvent). is_one_of x.doomed file) run.events) (list_any (λ (x : RunEvent). is_one_of x.removed file) run.events) e in
    let d : list_any (λ (x : RunEvent). is_one_of x.doomed file) (run.events ++ event ∷ []) ≡ true = any_push (λ (x : RunEvent). is_one_of x.doomed file) run.events event ∙ ap (λ (b : Bool). b || is_one_of event.doomed file) h.0 in
    let r : list_any (λ (x : RunEvent). is_one_of x.removed file) (run.events ++ event ∷ []) ≡ false =
    any_push (λ (x : RunEvent). is_one_of x.removed file) run.events event ∙ (ap (λ (b : Bool). b || is_one_of event.removed file) h.1 ∙ spares) in
    ap (λ (b : Bool). b && not (list_any (λ (x : RunEvent). is_one_of x.removed file) (run.events ++ event ∷ []))) d ∙ ap (λ (b : Bool). not b) r

-- It is still to be removed beside an event of another request that neither pins nor removes it.
pub leaves_still : (run : Run) (event : RunEvent) (place file : ℕ) → PinsFile file (own_events place run) → event.request ≢ place → list_any (λ p. p.file == file) event.pins ≡ false → is_one_of event.removed file ≡ false → leaves_doomed place run ≡ true → leaves_doomed place (and_then run event) ≡ true
leaves_still run event place file pins other unpinned kept leaves =
    let is = both_true (is_doomed run file) (is_pinned run file) (sym (leaves_is place run file pins) ∙ leaves) in
    leaves_is place (and_then run event) file (subst (PinsFile file) (sym (own_other place run event (ne_eqb event.request place other))) pins)
    ∙ (ap (λ (b : Bool). b && not (is_pinned (and_then run event) file)) (doomed_stays run event file kept is.0) ∙ ap (λ (b : Bool). not b) (unpinned_stays run event file unpinned is.1))

-- What the events of copies and of moves have in common.
use Rattle.mail_ops.proofs.Common.{◌≡◌, ◌⊎◌, ◌==◌, ◌||◌, ℕ, Bool, true, false, not, List, [], ◌∷◌, Option, Some, None, refl, sym, ◌∙◌, ap, inl, inr, arith, common_steps, nat_tests, is_some, slice_get, option_map, option_map_or, eq-eqb, ne_eqb, MapUid, Uid, Refusal, Reply, Request, Half, Lists, MapBox, EventPart}
use Rattle.mail_ops.proofs.Common.{First, Last, GivesBack, StartsOver, RunEvent, Run, map_of, own_events, source_of, uid_copied, PartAnswers, first_refusal, part_checks, is_step, halves_of, IsReplyOf, Around, is_elsewhere, last_refusal, next_part, number_named, IsHolding, EndsInPart}
use Rattle.mdbox_base.specs.declared.replies.Refusal.TheVariants as refusal
use Rattle.mdbox_base.specs.declared.replies.Reply.TheVariants as reply
use Rattle.mdbox_base.specs.declared.requests.Request.TheVariants as request
use Rattle.mdbox_base.specs.declared.script.Half.TheVariants as half
use Rattle.model_meaning.specs.MapMeaning.{box_named}
use Rattle.list_machine.specs.Machine.{IsCopied, RequestInRange, copy_checks}
use Rattle.journal.specs.Journal.{half_of}
use Rattle.journal.specs.Events.{Finds, DidPart, DidCopy, behind_copy, behind_event, behind_refused, ends_with_count, has_memory, makes_step, part_behind}
use Rattle.journal.specs.Found.{AgreesWithRun}
use Rattle.mail_ops.specs.CopyStages.{IsToRaise, IsBeginningAgain, IsGivingBack, adding_part}
use Rattle.mail_ops.proofs.LastEventLemmas.{last_own, next_behind, next_last}
use Rattle.mail_ops.proofs.ToldLemmas.{some_part}

-- A request that copies: a copy, or a move in its first half.
pub record IsCopying (q : Request) (name : List ℕ) (uid : Uid) (target : List ℕ) (how : Half) : Type 0 where
  pub finds : (around : Around) (event : RunEvent) → Finds around q event
  pub found : (around : Around) (run : Run) (event : RunEvent) (part : EventPart) → AgreesWithRun around run q event part
  pub checks : (run : Run) (event : RunEvent) (part : EventPart) → part_checks run event q part ≡ copy_checks name uid.0 target part
  pub did_first : (around : Around) (run : Run) (lists : Lists) (event : RunEvent) → DidCopy run lists name uid.0 target event First → DidPart around run lists q event First
  pub did_last : (around : Around) (run : Run) (lists : Lists) (event : RunEvent) → DidCopy run lists name uid.0 target event Last → DidPart around run lists q event Last
  pub did_over : (around : Around) (run : Run) (lists : Lists) (event : RunEvent) → DidCopy run lists name uid.0 target event StartsOver → DidPart around run lists q event StartsOver
  pub did_back : (around : Around) (run : Run) (lists : Lists) (event : RunEvent) → DidCopy run lists name uid.0 target event GivesBack → DidPart around run lists q event GivesBack
  pub behind_first : (around : Around) (run : Run) (event : RunEvent) → event.part ≡ First → part_behind around run q event ≡ behind_copy (is_elsewhere run event.request name) (ends_with_count run event.request) First
  pub behind_over : (around : Around) (run : Run) (event : RunEvent) → event.part ≡ StartsOver → part_behind around run q event ≡ Some GivesBack
  pub behind_back : (around : Around) (run : Run) (event : RunEvent) → event.part ≡ GivesBack → part_behind around run q event ≡ behind_copy (is_elsewhere run event.request name) (ends_with_count run event.request) GivesBack
  pub refused_first : (why : Refusal) → behind_refused q First why ≡ None
  pub refused_back : (why : Refusal) → behind_refused q GivesBack why ≡ None
  pub refused_adding : (elsewhere : Bool) (why : Refusal) → (why ≡ refusal.Stopped → ⊥) → behind_refused q (adding_part elsewhere) why ≡ Some GivesBack
  pub stopped_adding : (elsewhere : Bool) → behind_refused q (adding_part elsewhere) refusal.Stopped ≡ None
  pub memory_first : has_memory First q ≡ false
  pub memory_last : has_memory Last q ≡ false
  pub in_range : RequestInRange q
  pub answers : (run : Run) (lists : Lists) (event : RunEvent) (given : Uid) (left : Lists) → first_refusal run lists (part_checks run event q Last) ≡ None → IsCopied lists name uid.0 target given.0 left → PartAnswers run event lists q Last (reply.Copied given) left
  pub steps_last : makes_step q Last None ≡ true
  pub steps_first : makes_step q First None ≡ false
  pub steps_over : makes_step q StartsOver None ≡ false
  pub steps_back : makes_step q GivesBack None ≡ false
  pub half_first : half_of q First ≡ how
  pub half_adding : (elsewhere : Bool) → half_of q (adding_part elsewhere) ≡ how
  pub halves : slice_get (halves_of q) 0 ≡ Some how
  pub replied : (why : Refusal) → is_step why ≡ true → IsReplyOf q (reply.Refused why ∷ []) (reply.Refused why)

copy_back : (name : List ℕ) (uid : Uid) (target : List ℕ) (elsewhere : Bool) (why : Refusal) → (why ≡ refusal.Stopped → ⊥) → behind_refused (request.Copy name uid target) (adding_part elsewhere) why ≡ Some GivesBack
copy_back name uid target elsewhere why other = grind (arith, common_steps, nat_tests)

copy_replied : (name : List ℕ) (uid : Uid) (target : List ℕ) (why : Refusal) → is_step why ≡ true → IsReplyOf (request.Copy name uid target) (reply.Refused why ∷ []) (reply.Refused why)
copy_replied name uid target why s = grind (arith, common_steps, nat_tests)

copy_stopped : (name : List ℕ) (uid : Uid) (target : List ℕ) (elsewhere : Bool) → behind_refused (request.Copy name uid target) (adding_part elsewhere) refusal.Stopped ≡ None
copy_stopped name uid target elsewhere = grind (arith, common_steps, nat_tests)

copy_half : (name : List ℕ) (uid : Uid) (target : List ℕ) (elsewhere : Bool) → half_of (request.Copy name uid target) (adding_part elsewhere) ≡ half.Whole
copy_half name uid target elsewhere = refl

pub copy_copies : (name : List ℕ) (uid : Uid) (target : List ℕ) → IsCopying (request.Copy name uid target) name uid target half.Whole
copy_copies name uid target = record {
  finds = λ around event. tt;
  found = λ around run event part. tt;
  checks = λ run event part. refl;
  did_first = λ around run lists event d. d;
  did_last = λ around run lists event d. d;
  did_over = λ around run lists event d. d;
  did_back = λ around run lists event d. d;
  behind_first = λ around run event e. ap (behind_copy (is_elsewhere run event.request name) (ends_with_count run event.request)) e;
  behind_over = λ around run event e. ap (behind_copy (is_elsewhere run event.request name) (ends_with_count run event.request)) e;
  behind_back = λ around run event e. ap (behind_copy (is_elsewhere run event.request name) (ends_with_count run event.request)) e;
  refused_first = λ why. refl;
  refused_back = λ why. refl;
  refused_adding = copy_back name uid target;
  stopped_adding = copy_stopped name uid target;
  memory_first = refl;
  memory_last = refl;
  in_range = tt;
  answers = λ run lists event given left allowed copied. (allowed, copied);
  steps_last = refl;
  steps_first = refl;
  steps_over = refl;
  steps_back = refl;
  half_first = refl;
  half_adding = copy_half name uid target;
  halves = refl;
  replied = copy_replied name uid target;
}

-- ---- the next part, by the stage

-- where the name of its source names the mailbox from which it began
not_elsewhere : (run : Run) (place : ℕ) (name : List ℕ) (source : ℕ) → number_named (map_of run) name ≡ Some source → source_of place run ≡ source → is_elsewhere run place name ≡ false
not_elsewhere run place name source named is = by_box (box_named (map_of run) name) named
  where
    by_box : (o : Option MapBox) → option_map (λ (box : MapBox). box.number) o ≡ Some source → option_map_or (λ (box : MapBox). not (box.number == source_of place run)) o false ≡ false
    by_box None k = refl
    by_box (Some box) k = let f : Some box.number ≡ Some source = k in let e : box.number ≡ source = cc f in ap not (eq-eqb box.number (source_of place run) (e ∙ sym is))

-- and where it names another
pub elsewhere_is : (run : Run) (place : ℕ) (name : List ℕ) (source other : ℕ) → number_named (map_of run) name ≡ Some other → (other ≡ source → ⊥) → source_of place run ≡ source → is_elsewhere run place name ≡ true
elsewhere_is run place name source other named differs is = by_box (box_named (map_of run) name) named
  where
    by_box : (o : Option MapBox) → option_map (λ (box : MapBox). box.number) o ≡ Some other → option_map_or (λ (box : MapBox). not (box.number == source_of place run)) o false ≡ true
    by_box None k = absurd (let f : None ≡ Some other = k in cc f)
    by_box (Some box) k = let f : Some box.number ≡ Some other = k in let e : box.number ≡ other = cc f in ap not (ne_eqb box.number (source_of place run) (λ same. differs (sym e ∙ (same ∙ is))))

goes_on : (elsewhere ends : Bool) → behind_copy elsewhere ends First ≡ Some (adding_part elsewhere)
goes_on elsewhere ends = grind (arith, common_steps, nat_tests)

-- it is to raise a count
raises : (elsewhere : Bool) → behind_copy elsewhere (false || false) GivesBack ≡ Some First
raises elsewhere = refl

pub raise_next : (around : Around) (run : Run) (q : Request) (name : List ℕ) (uid : Uid) (target : List ℕ) (how : Half) (place : ℕ) (said : List Reply) → IsCopying q name uid target how → IsToRaise run place said → next_part around run q (own_events place run) ≡ Some First
raise_next around run q name uid target how place said c r = by_last r.last
  where
    by_last : (own_events place run ≡ []) ⊎ EndsInPart GivesBack (own_events place run) → next_part around run q (own_events place run) ≡ Some First
    by_last (inl none) = ap (λ (es : List RunEvent). next_part around run q es) none
    by_last (inr last) =
        next_behind around run q place GivesBack r.calm.unrefused last
        ∙ (c.behind_back around run last.last last.part_is
        ∙ (ap (λ (n : ℕ). behind_copy (is_elsewhere run n name) (ends_with_count run n) GivesBack) (last_own place run GivesBack last)
        ∙ (ap (λ (o : Option ℕ). behind_copy (is_elsewhere run place name) (is_some o || is_some (last_refusal (own_events place run))) GivesBack) r.uncopied
        ∙ (ap (λ (w : Option Refusal). behind_copy (is_elsewhere run place name) (false || is_some w) GivesBack) r.calm.unrefused ∙ raises (is_elsewhere run place name)))))

pub holding_next : (around : Around) (run : Run) (q : Request) (name : List ℕ) (uid : Uid) (target : List ℕ) (how : Half) (held : MapUid) (source place : ℕ) (said : List Reply) → IsCopying q name uid target how → IsHolding held source run place said
    → next_part around run q (own_events place run) ≡ Some (adding_part (is_elsewhere run place name))
holding_next around run q name uid target how held source place said c h =
    next_behind around run q place First h.calm.unrefused h.last
    ∙ (c.behind_first around run h.last.last h.last.part_is
    ∙ (ap (λ (n : ℕ). behind_copy (is_elsewhere run n name) (ends_with_count run n) First) (last_own place run First h.last) ∙ goes_on (is_elsewhere run place name) (ends_with_count run place)))

pub adds_next : (around : Around) (run : Run) (q : Request) (name : List ℕ) (uid : Uid) (target : List ℕ) (how : Half) (held : MapUid) (source place : ℕ) (said : List Reply) → IsCopying q name uid target how → IsHolding held source run place said → number_named (map_of run) name ≡ Some source
    → next_part around run q (own_events place run) ≡ Some Last
adds_next around run q name uid target how held source place said c h named =
    holding_next around run q name uid target how held source place said c h ∙ ap (λ (b : Bool). Some (adding_part b)) (not_elsewhere run place name source named h.source_is)

pub gives_back_next : (around : Around) (run : Run) (q : Request) (name : List ℕ) (uid : Uid) (target : List ℕ) (how : Half) (held : MapUid) (why : Refusal) (place : ℕ) (said : List Reply) → IsCopying q name uid target how → (why ≡ refusal.Stopped → ⊥) → IsGivingBack held why run place said
    → next_part around run q (own_events place run) ≡ Some GivesBack
gives_back_next around run q name uid target how held why place said c other b =
    ((ap (λ (es : List RunEvent). next_part around run q es) b.last.own_is ∙ next_last around run q b.last.earlier b.last.last) ∙ ap (λ (w : Option Refusal). behind_event around run q b.last.last w) b.refused)
    ∙ (ap (λ (p : EventPart). behind_refused q p why) b.last.part_is ∙ c.refused_adding b.elsewhere why other)

-- it gives the count back, to begin again
pub begins_next : (around : Around) (run : Run) (q : Request) (name : List ℕ) (uid : Uid) (target : List ℕ) (how : Half) (held : MapUid) (place : ℕ) (said : List Reply) → IsCopying q name uid target how → IsBeginningAgain held run place said → next_part around run q (own_events place run) ≡ Some GivesBack
begins_next around run q name uid target how held place said c b = next_behind around run q place StartsOver b.calm.unrefused b.last ∙ c.behind_over around run b.last.last b.last.part_is

-- ---- the part behind an event

pub first_goes_on : (around : Around) (run : Run) (q : Request) (name : List ℕ) (uid : Uid) (target : List ℕ) (how : Half) (event : RunEvent) → IsCopying q name uid target how → event.part ≡ First → part_behind around run q event ≡ None → ⊥
first_goes_on around run q name uid target how event c is none =
    some_part (adding_part (is_elsewhere run event.request name)) (sym (c.behind_first around run event is ∙ goes_on (is_elsewhere run event.request name) (ends_with_count run event.request)) ∙ none)

ends : (elsewhere copied : Bool) → behind_copy elsewhere (copied || true) GivesBack ≡ None
ends elsewhere copied = grind (arith, common_steps, nat_tests)

-- a count that is given back ends a request that was refused
pub back_ends : (around : Around) (run : Run) (q : Request) (name : List ℕ) (uid : Uid) (target : List ℕ) (how : Half) (event : RunEvent) (why : Refusal) → IsCopying q name uid target how → event.part ≡ GivesBack → last_refusal (own_events event.request run) ≡ Some why → part_behind around run q event ≡ None
back_ends around run q name uid target how event why c is refused =
    c.behind_back around run event is ∙ (ap (λ (r : Option Refusal). behind_copy (is_elsewhere run event.request name) (is_some (uid_copied event.request run) || is_some r) GivesBack) refused ∙ ends (is_elsewhere run event.request name) (is_some (uid_copied event.request run)))

-- but it doesn't end one that is to begin again
pub back_goes_on : (around : Around) (run : Run) (q : Request) (name : List ℕ) (uid : Uid) (target : List ℕ) (how : Half) (event : RunEvent) → IsCopying q name uid target how → event.part ≡ GivesBack → uid_copied event.request run ≡ None → last_refusal (own_events event.request run) ≡ None → part_behind around run q event ≡ None → ⊥
back_goes_on around run q name uid target how event c is uncopied unrefused none =
    some_part First (sym (c.behind_back around run event is ∙ (ap (λ (o : Option ℕ). behind_copy (is_elsewhere run event.request name) (is_some o || is_some (last_refusal (own_events event.request run))) GivesBack) uncopied
    ∙ (ap (λ (w : Option Refusal). behind_copy (is_elsewhere run event.request name) (false || is_some w) GivesBack) unrefused ∙ raises (is_elsewhere run event.request name)))) ∙ none)

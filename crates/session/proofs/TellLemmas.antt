-- A request more of a session: its reply comes after the others, its entries are its own, and what is told grows by its text.
use Rattle.std.specs.Prelude.{◌≢◌, ◌⊎◌, ◌<◌, ◌+◌, suc, All, cond, length, slice_get, nat_eq}
use Rattle.std.specs.List.{AllByRecursion, count_by}
use Rattle.std.specs.Option.{option_map}
use Rattle.std.proofs.Common.{◌≡◌, ◌++◌, ℕ, zero, List, [], ◌∷◌, Option, Some, None, refl, sym, ◌∙◌, ap, subst, arith, inl, inr}
use Rattle.std.proofs.lemmas.List.{append-nil, append_assoc, length-append}
use Rattle.std.proofs.lemmas.List.Sums.{sum_by-append}
use Rattle.std.proofs.lemmas.List.Elements.{All-append, All-weaker}
use Rattle.disk_model.specs.Disk.{Faults, History}
use Rattle.mdbox_base.specs.Streams.{Appended, Taken}
use Rattle.mdbox_base.specs.declared.replies.Refusal.TheVariants as refused
use Rattle.mdbox_base.specs.declared.replies.Reply.{Reply}
use Rattle.mdbox_base.specs.declared.replies.Reply.TheVariants as reply
use Rattle.mdbox_base.specs.declared.requests.Request.{Request}
use Rattle.mdbox_base.specs.declared.script.JournalEntry.{JournalEntry}
use Rattle.mdbox_base.proofs.StreamLemmas.{taken_more}
use Rattle.journal.specs.Journal.{HasReply, Requests}
use Rattle.lanes.specs.Asked.{GoesWith, IsOnlyLeft, asked_in, events_of}
use Rattle.lanes.specs.Worlds.{WorldValue}
use Rattle.lanes.proofs.WithLemmas.{follow, keep_with, own_entries}
use Rattle.request_text.specs.BatchText.{answer_text, batch_text, request_steps}
use Rattle.script_text.specs.Script.{FitsLanes, request_text, script_text}
use Rattle.script_text.specs.Taking.{extent}
use Rattle.script_text.specs.declared.take.Extent.{Extent}
use Rattle.script_run.proofs.ChainLemmas.{replied_on}
use Rattle.session.specs.OneRequest.{HaveReplies, IsAnswered, IsOneDone, IsUnderWay, IsWaiting, extent_then, last_text}
use Rattle.session.specs.Rounds.{HasServed}

-- ---- the replies

none_empty : {X : Type 0} → (i : ℕ) (x : X) → slice_get {X = X} [] i ≡ Some x → ⊥
none_empty i x at = let e : None ≡ Some x = at in cc e

rest_replied : (x : Option Reply) (xs : List (Option Reply)) → HaveReplies (x ∷ xs) → HaveReplies xs
rest_replied x xs each i l = each (suc i) (omega (arith, l))

-- Replies that stay, and one more, are all.
pub reply_more : (xs ys : List (Option Reply)) (given : Reply) → HaveReplies xs → ((i : ℕ) (one : Reply) → HasReply xs i one → HasReply ys i one) → length ys ≡ length xs + 1 → HasReply ys (length xs) given → ys ≡ xs ++ Some given ∷ []
reply_more [] [] given each stay many last = absurd (omega (arith, many))
reply_more [] (y ∷ []) given each stay many last = let e : Some y ≡ Some (Some given) = last in let is : y ≡ Some given = cc e in ap (λ (o : Option Reply). o ∷ []) is
reply_more [] (y ∷ z ∷ ys) given each stay many last = absurd (omega (arith, many))
reply_more (x ∷ xs) [] given each stay many last = absurd (omega (arith, many))
reply_more (x ∷ xs) (y ∷ ys) given each stay many last =
    let h = each 0 (omega arith) in
    let x_is : Some x ≡ Some (Some h.0) = h.1 in
    let y_is : Some y ≡ Some (Some h.0) = stay 0 h.0 h.1 in
    let same : y ≡ x = cc (x_is, y_is) in
    let rest = reply_more xs ys given (rest_replied x xs each) (λ i one at. stay (suc i) one at) (omega (arith, many)) last in
    ap (λ (o : Option Reply). o ∷ ys) same ∙ ap (λ (os : List (Option Reply)). x ∷ os) rest

-- behind replies that are all there only the last place has none
pub only_last : (xs : List (Option Reply)) → HaveReplies xs → IsOnlyLeft (length xs) (xs ++ None ∷ [])
only_last [] each zero at = refl
only_last [] each (suc i) at = absurd (none_empty i None at)
only_last (x ∷ xs) each zero at =
    let h = each 0 (omega arith) in
    let x_is : Some x ≡ Some (Some h.0) = h.1 in
    let k : Some x ≡ Some None = at in
    absurd (cc (x_is, k))
only_last (x ∷ xs) each (suc i) at = ap suc (only_last xs (rest_replied x xs each) i at)

get_front : (xs : List (Option Reply)) (y : Option Reply) (i : ℕ) (one : Reply) → HasReply xs i one → HasReply (xs ++ y ∷ []) i one
get_front [] y i one at = absurd (none_empty i (Some one) at)
get_front (x ∷ xs) y zero one at = at
get_front (x ∷ xs) y (suc i) one at = get_front xs y i one at

-- a reply of a longer list is one of the others, or the last
pub front_or_last : (xs : List (Option Reply)) (y : Reply) (i : ℕ) (one : Reply) → HasReply (xs ++ Some y ∷ []) i one → HasReply xs i one ⊎ (y ≡ one)
front_or_last [] y zero one at = let e : Some (Some y) ≡ Some (Some one) = at in inr (cc e)
front_or_last [] y (suc i) one at = absurd (none_empty i (Some one) at)
front_or_last (x ∷ xs) y zero one at = inl at
front_or_last (x ∷ xs) y (suc i) one at = front_or_last xs y i one at

-- a place without a reply isn't one of those that have all
pub none_left_over : (xs : List (Option Reply)) (i : ℕ) → HaveReplies xs → slice_get xs i ≡ Some None → ⊥
none_left_over [] i each at = none_empty i None at
none_left_over (x ∷ xs) zero each at =
    let h = each 0 (omega arith) in
    let x_is : Some x ≡ Some (Some h.0) = h.1 in
    let k : Some x ≡ Some None = at in
    cc (x_is, k)
none_left_over (x ∷ xs) (suc i) each at = none_left_over xs i (rest_replied x xs each) at

-- ---- what is asked

pub asked_append : (first second : List (ℕ × Option Request)) → asked_in (first ++ second) ≡ asked_in first ++ asked_in second
asked_append [] second = refl
asked_append ((lane, None) ∷ first) second = asked_append first second
asked_append ((lane, Some asked) ∷ first) second = ap (λ (s : Requests). (lane, asked) ∷ s) (asked_append first second)

pub none_asked : (lanes : List ℕ) → asked_in (events_of lanes) ≡ []
none_asked [] = refl
none_asked (lane ∷ lanes) = none_asked lanes

-- the moves of one request
abbrev pub moves_of : ℕ × Request → List ℕ → List (ℕ × Option Request)
moves_of asked lanes = (asked.0, Some asked.1) ∷ events_of lanes

pub asked_more : (moves : List (ℕ × Option Request)) (asked : ℕ × Request) (lanes : List ℕ) → asked_in (moves ++ moves_of asked lanes) ≡ asked_in moves ++ asked ∷ []
asked_more moves asked lanes = asked_append moves (moves_of asked lanes) ∙ ap (λ (s : Requests). asked_in moves ++ asked ∷ s) (none_asked lanes)

pub text_more : (script : Requests) (asked : ℕ × Request) → script_text (script ++ asked ∷ []) ≡ script_text script ++ request_text asked
text_more [] asked = append-nil (request_text asked)
text_more (one ∷ script) asked = ap (λ (t : List ℕ). request_text one ++ t) (text_more script asked) ∙ sym (append_assoc (request_text one) (script_text script) (request_text asked))

pub fits_more : (script : Requests) (asked : ℕ × Request) → AllByRecursion (FitsLanes 64) script → FitsLanes 64 asked → AllByRecursion (FitsLanes 64) (script ++ asked ∷ [])
fits_more [] asked all one = (one, tt)
fits_more (first ∷ script) asked all one = (all.0, fits_more script asked all.1 one)

abbrev so_far : ℕ → ℕ → Extent
so_far octets lines = record { octets = octets; lines = lines }

abbrev lines_in : List ℕ → ℕ
lines_in text = count_by (λ octet. nat_eq octet 10) text

pub extent_append : (a b : List ℕ) → extent_then (extent a) (extent b) ≡ extent (a ++ b)
extent_append a b =
    let long : length a + length b ≡ length (a ++ b) = sym (length-append a b) in
    let more : lines_in a + lines_in b ≡ lines_in (a ++ b) = sym (sum_by-append (λ (octet : ℕ). cond (nat_eq octet 10) 1 0) a b) in
    ap (λ (n : ℕ). so_far n (lines_in a + lines_in b)) long ∙ ap (λ (n : ℕ). so_far (length (a ++ b)) n) more

-- ---- the journal

-- What is known of a world that has been asked one request more.
pub record OneMore {D : Type 0} (old new : WorldValue D) : Type 0 where
  pub more : List JournalEntry
  pub journal_is : new.journal ≡ old.journal ++ more
  pub own : All (λ entry. entry.request ≡ length old.replies) more
  pub left : IsOnlyLeft (length old.replies) new.replies
  pub stay : (i : ℕ) (one : Reply) → HasReply old.replies i one → HasReply new.replies i one
  pub many : length new.replies ≡ length old.replies + 1

module _ {D : Type 0} (history : D → Option History) (faults : D → Faults) where
  -- a reply that was given stays over events
  stay_with : (lanes : List ℕ) (old new : WorldValue D) (i : ℕ) (one : Reply) → GoesWith history faults (events_of lanes) old new → HasReply old.replies i one → HasReply new.replies i one
  stay_with [] old new i one g at = subst (λ (w : WorldValue D). HasReply w.replies i one) (sym g) at
  stay_with (lane ∷ lanes) old new i one g at = stay_with lanes g.0 new i one g.2 (replied_on i one lane old g.0 (history old.store.disk) (history g.0.store.disk) (faults old.store.disk) (faults g.0.store.disk) g.1.1 at)

  pub one_more : (asked : ℕ × Request) (old new : WorldValue D) → HaveReplies old.replies → IsUnderWay history faults asked old new → OneMore old new
  one_more asked old new each u =
      let mid = u.goes.0 in
      let a = u.goes.1 in
      let replies_are : mid.replies ≡ old.replies ++ None ∷ [] = ap (λ (w : WorldValue D). w.replies) a.new_is in
      let journal_same : mid.journal ≡ old.journal = ap (λ (w : WorldValue D). w.journal) a.new_is in
      let only = subst (λ (rs : List (Option Reply)). IsOnlyLeft (length old.replies) rs) (sym replies_are) (only_last old.replies each) in
      let e = own_entries history faults u.lanes (length old.replies) mid new u.goes.2 only in
      let k = keep_with history faults (moves_of asked u.lanes) old new u.goes in
      let many = k.3 in
      let none : length (asked_in (moves_of asked u.lanes)) ≡ 1 = ap (λ (s : Requests). suc (length s)) (none_asked u.lanes) in
      record {
        more = e.0;
        journal_is = e.1 ∙ ap (λ (js : List JournalEntry). js ++ e.0) journal_same;
        own = e.2;
        left = e.3;
        stay = λ i one at. stay_with u.lanes mid new i one u.goes.2 (subst (λ (rs : List (Option Reply)). HasReply rs i one) (sym replies_are) (get_front old.replies None i one at));
        many = omega (arith, many, none);
      }

-- ---- what is told

pub appended_then : (held told later : Option (List ℕ)) (a b : List ℕ) → Appended held a told → Appended told b later → Appended held (a ++ b) later
appended_then None told later a b first second = second ∙ ap (option_map (λ h. h ++ b)) first
appended_then (Some h) told later a b first second = second ∙ (ap (option_map (λ x. x ++ b)) first ∙ ap (λ (t : List ℕ). Some t) (append_assoc h a b))

-- the law of replies that are told one after another
abbrev pub ToldInOrder : Type 0
ToldInOrder = (journal more : List JournalEntry) (replies : List (Option Reply)) (given : Reply) → All (λ entry. entry.request < length replies) journal → All (λ entry. entry.request ≡ length replies) more
    → batch_text (journal ++ more) (replies ++ Some given ∷ []) ≡ batch_text journal replies ++ answer_text (length replies + 1) (request_steps (journal ++ more) (length replies)) (Some given)

pub text_on : {D : Type 0} → (old new : WorldValue D) (given : Reply) → ToldInOrder → OneMore old new → HaveReplies old.replies → All (λ entry. entry.request < length old.replies) old.journal → HasReply new.replies (length old.replies) given → batch_text new.journal new.replies ≡ batch_text old.journal old.replies ++ last_text old new given
text_on old new given law m each own reply =
    let replies_are = reply_more old.replies new.replies given each m.stay m.many reply in
    ap (λ (rs : List (Option Reply)). batch_text new.journal rs) replies_are
    ∙ (ap (λ (js : List JournalEntry). batch_text js (old.replies ++ Some given ∷ [])) m.journal_is
    ∙ (law old.journal m.more old.replies given own m.own ∙ ap (λ (js : List JournalEntry). batch_text old.journal old.replies ++ answer_text (length old.replies + 1) (request_steps js (length old.replies)) (Some given)) (sym m.journal_is)))

-- ---- a world waits again

pub waits_again : {D : Type 0} → (history : D → Option History) (faults : D → Faults) (asked : ℕ × Request) (old new : WorldValue D) (given : Reply) → IsWaiting old → IsAnswered history faults asked old new given → given ≢ reply.Refused refused.Stopped → IsWaiting new
waits_again history faults asked old new given w a runs =
    let m = one_more history faults asked old new w.replied a.begun in
    let replies_are = reply_more old.replies new.replies given w.replied m.stay m.many a.reply in
    let many = m.many in
    let k = keep_with history faults (moves_of asked a.begun.lanes) old new a.begun.goes in
    record {
      many = k.0 ∙ w.many;
      idle = a.idle;
      replied = a.replied;
      goes_on = k.1 ∙ w.goes_on;
      running = λ place at. elim (front_or_last old.replies given place (reply.Refused refused.Stopped) (subst (λ (rs : List (Option Reply)). HasReply rs place (reply.Refused refused.Stopped)) replies_are at)) [ inl here ↦ w.running place here | inr is ↦ runs is ];
      own =
          subst (λ (js : List JournalEntry). All (λ entry. entry.request < length new.replies) js) (sym m.journal_is)
          (All-append (λ (entry : JournalEntry). entry.request < length new.replies) old.journal m.more
          (All-weaker (λ (entry : JournalEntry). entry.request < length old.replies) (λ (entry : JournalEntry). entry.request < length new.replies) (λ entry l. omega (arith, l, many)) old.journal w.own)
          (All-weaker (λ (entry : JournalEntry). entry.request ≡ length old.replies) (λ (entry : JournalEntry). entry.request < length new.replies) (λ entry is. omega (arith, is, many)) m.more m.own));
    }

-- ---- one request more

pub served_more : {D : Type 0} → (history : D → Option History) (faults : D → Faults) (moves : List (ℕ × Option Request)) (world old new : WorldValue D) (left between rest held told later : Option (List ℕ)) (at next : Extent) → ToldInOrder → HasServed history faults moves world old left between held told
    → (d : IsOneDone history faults old new between rest told later at next) → HasServed history faults (moves ++ moves_of d.asked d.served.answered.begun.lanes) world new left rest held later
served_more {D} history faults moves world old new left between rest held told later at next law s d =
    let a = d.served.answered in
    let m = one_more history faults d.asked old new s.waits.replied a.begun in
    let script = asked_more moves d.asked a.begun.lanes in
    let text : script_text (asked_in (moves ++ moves_of d.asked a.begun.lanes)) ≡ script_text (asked_in moves) ++ request_text d.asked = ap script_text script ∙ text_more (asked_in moves) d.asked in
    record {
      goes = follow history faults moves (moves_of d.asked a.begun.lanes) world old new s.goes a.begun.goes;
      waits = waits_again history faults d.asked old new d.given s.waits a d.runs;
      taken = subst (λ (t : List ℕ). Taken left t rest) (sym text) (taken_more left between rest (script_text (asked_in moves)) (request_text d.asked) s.taken d.taken);
      fits = subst (λ (q : Requests). AllByRecursion (FitsLanes 64) q) (sym script) (fits_more (asked_in moves) d.asked s.fits d.fits);
      printed = subst (λ (t : List ℕ). Appended held t later) (sym (text_on old new d.given law m s.waits.replied s.waits.own a.reply)) (appended_then held told later (batch_text old.journal old.replies) (last_text old new d.given) s.printed d.served.printed);
    }

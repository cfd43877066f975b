-- A law of the list machine: an event of a run has one reply, and leaves one state of the lists.
use Rattle.std.specs.Prelude.{◌≡◌, ℕ, Bool, List, ◌∷◌, [], ◌++◌, map, Option, Some, None, if◌then◌else◌, refl}
use Rattle.std.proofs.Common.{sym, ◌∙◌, ap}
use Rattle.mdbox_base.specs.declared.ids.Uid.{Uid}
use Rattle.mdbox_base.specs.declared.ids.Guid.{Guid}
use Rattle.mdbox_base.specs.declared.requests.Request.{Request}
use Rattle.mdbox_base.specs.declared.requests.Request.TheVariants as request
use Rattle.mdbox_base.specs.declared.replies.ListRow.{ListRow}
use Rattle.mdbox_base.specs.declared.replies.Reply.{Reply}
use Rattle.mdbox_base.specs.declared.replies.Reply.TheVariants as reply
use Rattle.model_lists.specs.Lists.{ListedMessage, Mailbox, Lists, listing_row, empty_mailbox}
use Rattle.list_machine.specs.Run.{EventPart, First, Last, SecondHalf, RunEvent, Run, source_of}
use Rattle.list_machine.specs.Machine.{Answers, Does, IsCopied, IsDelivered, IsMade, AreCounts, ArePurged, AreResynced, IsSecondHalf, expunge_from, add_message}
use Rattle.list_machine.proofs.MachineLemmas.{some_one, refused_alone}

abbrev IsOne : Reply → Reply → Lists → Lists → Type 0
IsOne r s new other = (r ≡ s) × (new ≡ other)

saved_one : (u v : Uid) (g h : Guid) → u.0 ≡ v.0 → g.0 ≡ h.0 → reply.Saved u g ≡ reply.Saved v h
saved_one u v g h p q = ap (λ (n : ℕ). reply.Saved (record { 0 = n }) g) p ∙ ap (λ (x : List ℕ). reply.Saved v (record { 0 = x })) q

copied_reply : (u v : Uid) → u.0 ≡ v.0 → reply.Copied u ≡ reply.Copied v
copied_reply u v p = ap (λ (n : ℕ). reply.Copied (record { 0 = n })) p

moved_reply : (u v : Uid) (gone late : Bool) → u.0 ≡ v.0 → gone ≡ late → reply.Moved u gone ≡ reply.Moved v late
moved_reply u v gone late p q = ap (λ (n : ℕ). reply.Moved (record { 0 = n }) gone) p ∙ ap (λ (b : Bool). reply.Moved v b) q

-- the lists with a message of this UID and GUID
abbrev with_saved : List ℕ → ℕ → List ℕ → Lists → ℕ → List ℕ → Lists
with_saved name time octets old uid guid = add_message name (record { uid = uid; flags = 0; time = time; guid = guid; octets = octets; words = [] }) old

delivered_one : (run : Run) (event : RunEvent) (old : Lists) (name : List ℕ) (time : ℕ) (octets : List ℕ) (u v : Uid) (g h : Guid) (new other : Lists) →
    IsDelivered run event old name time octets u.0 g.0 new → IsDelivered run event old name time octets v.0 h.0 other → IsOne (reply.Saved u g) (reply.Saved v h) new other
delivered_one run event old name time octets u v g h new other d e =
    let same : d.mailbox ≡ e.mailbox = some_one _ d.mailbox e.mailbox d.target_is e.target_is in
    let uids : u.0 ≡ v.0 = (d.given_is ∙ ap (λ (m : Mailbox). m.next_uid) same) ∙ sym e.given_is in
    let guids : g.0 ≡ h.0 = some_one _ g.0 h.0 d.guid_is e.guid_is in
    let lists : with_saved name time octets old u.0 g.0 ≡ with_saved name time octets old v.0 h.0 =
    ap (λ (n : ℕ). with_saved name time octets old n g.0) uids ∙ ap (λ (x : List ℕ). with_saved name time octets old v.0 x) guids in
    (saved_one u v g h uids guids, (d.new_is ∙ lists) ∙ sym e.new_is)

-- the target's next UID, and the lists with the copy
copied_one : (old : Lists) (name : List ℕ) (uid : ℕ) (target : List ℕ) (u v : Uid) (new other : Lists) →
    IsCopied old name uid target u.0 new → IsCopied old name uid target v.0 other → IsOne (reply.Copied u) (reply.Copied v) new other
copied_one old name uid target u v new other d e =
    let same : d.mailbox ≡ e.mailbox = some_one _ d.mailbox e.mailbox d.target_is e.target_is in
    let source : d.message ≡ e.message = some_one _ d.message e.message d.source_is e.source_is in
    let uids : u.0 ≡ v.0 = (d.given_is ∙ ap (λ (m : Mailbox). m.next_uid) same) ∙ sym e.given_is in
    (copied_reply u v uids, (d.new_is ∙ ap (λ (m : ListedMessage). add_message target m old) source) ∙ sym e.new_is)

made_one : (run : Run) (event : RunEvent) (old : Lists) (name : List ℕ) (new other : Lists) → IsMade run event old name new → IsMade run event old name other → new ≡ other
made_one run event old name new other d e =
    let same : d.number ≡ e.number = some_one _ d.number e.number d.number_is e.number_is in
    (d.new_is ∙ ap (λ (n : ℕ). old ++ empty_mailbox n name ∷ []) same) ∙ sym e.new_is

half_one : (run : Run) (event : RunEvent) (old : Lists) (number : ℕ) (uid : ℕ) (copied : Option ℕ) (u v : Uid) (gone late : Bool) (new other : Lists) →
    (copied ≡ Some u.0) × IsSecondHalf old number uid gone new → (copied ≡ Some v.0) × IsSecondHalf old number uid late other → IsOne (reply.Moved u gone) (reply.Moved v late) new other
half_one run event old number uid copied u v gone late new other d e =
    let uids : u.0 ≡ v.0 = some_one copied u.0 v.0 d.0 e.0 in
    let both : gone ≡ late = d.1.0 ∙ sym e.1.0 in
    (moved_reply u v gone late uids both, (d.1.1 ∙ ap (λ (b : Bool). if b then old else expunge_from number uid old) both) ∙ sym e.1.1)

counted_one : (run : Run) (old : Lists) (a b c d k l m n : ℕ) → AreCounts run old a b c d → AreCounts run old k l m n → reply.Counted a b c d ≡ reply.Counted k l m n
counted_one run old a b c d k l m n x y =
    ((ap (λ (i : ℕ). reply.Counted i b c d) (x.records_are ∙ sym y.records_are) ∙ ap (λ (i : ℕ). reply.Counted k i c d) (x.references_are ∙ sym y.references_are))
    ∙ ap (λ (i : ℕ). reply.Counted k l i d) (x.counts_are ∙ sym y.counts_are)) ∙ ap (λ (i : ℕ). reply.Counted k l m i) (x.instances_are ∙ sym y.instances_are)

purged_one : (run : Run) (event : RunEvent) (a b c k l m : ℕ) → ArePurged run event a b c → ArePurged run event k l m → reply.Purged a b c ≡ reply.Purged k l m
purged_one run event a b c k l m x y =
    (ap (λ (i : ℕ). reply.Purged i b c) (x.dropped_are ∙ sym y.dropped_are) ∙ ap (λ (i : ℕ). reply.Purged k i c) (x.files_are ∙ sym y.files_are))
    ∙ ap (λ (i : ℕ). reply.Purged k l i) (x.instances_are ∙ sym y.instances_are)

resynced_one : (run : Run) (event : RunEvent) (a b k l : ℕ) → AreResynced run event a b → AreResynced run event k l → reply.Resynced a b ≡ reply.Resynced k l
resynced_one run event a b k l x y =
    ap (λ (i : ℕ). reply.Resynced i b) (x.corrected_are ∙ sym y.corrected_are) ∙ ap (λ (i : ℕ). reply.Resynced k i) (x.damaged_are ∙ sym y.damaged_are)

-- both are the old lists
of_old : (old new other : Lists) → new ≡ old → other ≡ old → new ≡ other
of_old old new other p q = p ∙ sym q

-- Where none of its checks refuses, a part of a request does one thing.
does_one : (run : Run) (event : RunEvent) (old : Lists) (q : Request) (part : EventPart) (r s : Reply) (new other : Lists) →
    Does run event old q part r new → Does run event old q part s other → IsOne r s new other
does_one run event old (request.List name) First (reply.Listed rows) (reply.Listed more) new other d e =
    let same : d.0 ≡ e.0 = some_one _ d.0 e.0 d.1 e.1 in
    (ap (λ (x : List ListRow). reply.Listed x) ((d.2 ∙ ap (λ (m : Mailbox). map listing_row m.messages) same) ∙ sym e.2), of_old old new other d.3 e.3)
does_one run event old (request.List name) First (reply.Listed rows) s new other d e = absurd e
does_one run event old (request.Fetch name uid) First (reply.Fetched octets) (reply.Fetched more) new other d e =
    let same : d.0 ≡ e.0 = some_one _ d.0 e.0 d.1 e.1 in
    (ap (λ (x : List ℕ). reply.Fetched x) ((d.2 ∙ ap (λ (m : ListedMessage). m.octets) same) ∙ sym e.2), of_old old new other d.3 e.3)
does_one run event old (request.Fetch name uid) First (reply.Fetched octets) s new other d e = absurd e
does_one run event old (request.Flag name uid flags) First reply.Done reply.Done new other d e = (refl, d ∙ sym e)
does_one run event old (request.Flag name uid flags) First reply.Done s new other d e = absurd e
does_one run event old (request.Keywords name uid words) First reply.Done reply.Done new other d e = (refl, d ∙ sym e)
does_one run event old (request.Keywords name uid words) First reply.Done s new other d e = absurd e
does_one run event old (request.Make name) Last reply.Done reply.Done new other d e = (refl, made_one run event old name new other d e)
does_one run event old (request.Make name) Last reply.Done s new other d e = absurd e
does_one run event old (request.Deliver name time octets) Last (reply.Saved u g) (reply.Saved v h) new other d e =
    delivered_one run event old name time octets u v g h new other d e
does_one run event old (request.Deliver name time octets) Last (reply.Saved u g) s new other d e = absurd e
does_one run event old (request.Copy name uid target) Last (reply.Copied u) (reply.Copied v) new other d e = copied_one old name uid.0 target u v new other d e
does_one run event old (request.Copy name uid target) Last (reply.Copied u) s new other d e = absurd e
does_one run event old (request.Move name uid target) Last (reply.Copied u) (reply.Copied v) new other d e = copied_one old name uid.0 target u v new other d e
does_one run event old (request.Move name uid target) Last (reply.Copied u) s new other d e = absurd e
does_one run event old (request.Move name uid target) SecondHalf (reply.Moved u gone) (reply.Moved v late) new other d e =
    half_one run event old (source_of event.request run) uid.0 _ u v gone late new other d e
does_one run event old (request.Move name uid target) SecondHalf (reply.Moved u gone) s new other d e = absurd e
does_one run event old (request.Expunge name uid) First reply.Done reply.Done new other d e = (refl, d ∙ sym e)
does_one run event old (request.Expunge name uid) First reply.Done s new other d e = absurd e
does_one run event old (request.Delete name) First reply.Done reply.Done new other d e = (refl, d ∙ sym e)
does_one run event old (request.Delete name) First reply.Done s new other d e = absurd e
does_one run event old (request.Rename name target) First reply.Done reply.Done new other d e = (refl, d ∙ sym e)
does_one run event old (request.Rename name target) First reply.Done s new other d e = absurd e
does_one run event old request.Counts First (reply.Counted a b c i) (reply.Counted k l m n) new other d e =
    (counted_one run old a b c i k l m n d.0 e.0, of_old old new other d.1 e.1)
does_one run event old request.Counts First (reply.Counted a b c i) s new other d e = absurd e
does_one run event old request.Purge Last (reply.Purged a b c) (reply.Purged k l m) new other d e =
    (purged_one run event a b c k l m d.0 e.0, of_old old new other d.1 e.1)
does_one run event old request.Purge Last (reply.Purged a b c) s new other d e = absurd e
does_one run event old request.Resync Last (reply.Resynced a b) (reply.Resynced k l) new other d e =
    (resynced_one run event a b k l d.0 e.0, of_old old new other d.1 e.1)
does_one run event old request.Resync Last (reply.Resynced a b) s new other d e = absurd e
does_one run event old q part r s new other d e = absurd d

some_none : {X : Type 0} → (o : Option X) (x : X) → o ≡ Some x → o ≡ None → ⊥
some_none o x p q = let h : Some x ≡ None = sym p ∙ q in cc h

-- An event has one reply, and leaves one state of the lists.
pub answers_one : (run : Run) (old : Lists) (q : Request) (event : RunEvent) (r s : Reply) (new other : Lists) → Answers run old q event r new → Answers run old q event s other → (r ≡ s) × (new ≡ other)
answers_one run old q event (reply.Refused refusal) (reply.Refused second) new other a b =
    (sym (refused_alone run old q event refusal (reply.Refused second) new other a b), of_old old new other a.1 b.1)
answers_one run old q event (reply.Refused refusal) s new other a b = absurd (some_none _ refusal a.0 b.0)
answers_one run old q event r (reply.Refused refusal) new other a b = absurd (some_none _ refusal b.0 a.0)
answers_one run old q event r s new other a b = does_one run event old q event.part r s new other a.1 b.1

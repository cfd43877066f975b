-- Which part of a fetch comes next, by its own events.
use Rattle.mail_fetch.proofs.Common.{◌≡◌, ◌≤◌, ◌<◌, ◌==◌, ◌&&◌, ◌||◌, ℕ, Bool, true, false, cond, List, [], ◌∷◌, ◌++◌, ◌⊎◌, length, Option, Some, None, refl, sym, ◌∙◌, ap, subst, arith, inl, inr, All, sum_by, filter, nat_lt, if◌then◌else◌, list_any, option_or, eqb-true, common_steps, All-cons}
use Rattle.mail_fetch.proofs.Common.{All-nil, All-head, All-tail, All-weaker, sum_by-cons, Uid, Refusal, Reply, EventPart, First, ReadsPiece, Unpins, RunEvent, Run, Pin, own_events, is_unpinning, has_unpinned, refusal_in, Around, next_part, behind_event, piece_left, last_refusal, parts_to_read}
use Rattle.mail_fetch.proofs.Common.{pieces_left, one_pin, HasPinned, HasReadAllBut, UnpinsNext, StoredAt}
use Rattle.std.specs.Prelude.{count_by, is_none}
use Rattle.std.proofs.lemmas.List.Elements.{All-append}
use Rattle.mdbox_base.specs.declared.replies.Refusal.TheVariants as refusal
use Rattle.mdbox_base.specs.declared.requests.Request.{Request}
use Rattle.mdbox_base.specs.declared.requests.Request.TheVariants as request
use Rattle.list_machine.specs.Run.{is_unpinning_part}
use Rattle.journal.specs.Events.{behind_fetch, behind_refused, is_piece}
use Rattle.mail_fetch.proofs.OwnPinLemmas.{pins_at_all, own_pins}
use Rattle.mail_fetch.specs.Stages.{ReadPiece, IsPieceRefusal}

-- ---- the last of some events

pub next_behind : (around : Around) (run : Run) (q : Request) (front : List RunEvent) (last : RunEvent) → next_part around run q (front ++ last ∷ []) ≡ behind_event around run q last last.refused
next_behind around run q [] last = refl
next_behind around run q (e ∷ []) last = refl
next_behind around run q (e ∷ f ∷ front) last = next_behind around run q (f ∷ front) last

pub last_with : (front : List RunEvent) (last : RunEvent) → last_refusal (front ++ last ∷ []) ≡ option_or last.refused (last_refusal front)
last_with [] last = none_or last.refused
  where
    none_or : (r : Option Refusal) → option_or None r ≡ option_or r None
    none_or None = refl
    none_or (Some r) = refl
last_with (e ∷ front) last = ap (λ (r : Option Refusal). option_or r e.refused) (last_with front last) ∙ assoc last.refused (last_refusal front) e.refused
  where
    assoc : (a b c : Option Refusal) → option_or (option_or a b) c ≡ option_or a (option_or b c)
    assoc None b c = refl
    assoc (Some a) b c = refl

-- own events are of the request
own_requests : (place : ℕ) (events : List RunEvent) → All (λ e. e.request ≡ place) (filter (λ e. e.request == place) events)
own_requests place [] = All-nil (λ (e : RunEvent). e.request ≡ place)
own_requests place (e ∷ es) = by_test (e.request == place) refl (own_requests place es)
  where
    by_test : (b : Bool) → (e.request == place) ≡ b → All (λ x. x.request ≡ place) (filter (λ (x : RunEvent). x.request == place) es) → All (λ x. x.request ≡ place) (cond (e.request == place) (e ∷ filter (λ (x : RunEvent). x.request == place) es) (filter (λ (x : RunEvent). x.request == place) es))
    by_test true t rest = subst (λ (c : Bool). All (λ x. x.request ≡ place) (cond c (e ∷ filter (λ (x : RunEvent). x.request == place) es) (filter (λ (x : RunEvent). x.request == place) es))) (sym t)
        (All-cons (λ (x : RunEvent). x.request ≡ place) e _ (eqb-true e.request place t) rest)
    by_test false t rest = subst (λ (c : Bool). All (λ x. x.request ≡ place) (cond c (e ∷ filter (λ (x : RunEvent). x.request == place) es) (filter (λ (x : RunEvent). x.request == place) es))) (sym t) rest

last_of_all : (P : RunEvent → Type 0) (front : List RunEvent) (last : RunEvent) → All P (front ++ last ∷ []) → P last
last_of_all P [] last h = All-head P last [] h
last_of_all P (e ∷ front) last h = last_of_all P front last (All-tail P e (front ++ last ∷ []) h)

-- ---- pieces

-- of these events none was refused
none_refused : (es : List RunEvent) → All (ReadPiece None) es → last_refusal es ≡ None
none_refused [] h = refl
none_refused (e ∷ es) h =
    ap (λ (r : Option Refusal). option_or r e.refused) (none_refused es (All-tail (ReadPiece None) e es h)) ∙ (All-head (ReadPiece None) e es h).refused_is

abbrev one_piece : RunEvent → ℕ
one_piece e = if is_piece e.part then 1 else 0

abbrev one_of_part : EventPart → ℕ
one_of_part part = if is_piece part then 1 else 0

pub pieces_counted : (es : List RunEvent) → All (ReadPiece None) es → count_by (λ e. is_piece e.part) es ≡ length es
pieces_counted [] h = refl
pieces_counted (e ∷ es) h =
    let a = sum_by-cons one_piece e es in
    let here : one_piece e ≡ 1 = ap one_of_part (All-head (ReadPiece None) e es h).part in
    let rest = pieces_counted es (All-tail (ReadPiece None) e es h) in
    omega (arith, a, here, rest)

pub none_pinned : (refused : Option Refusal) (es : List RunEvent) → All (ReadPiece refused) es → All (λ e. e.pins ≡ []) es
none_pinned refused [] h = All-nil (λ (e : RunEvent). e.pins ≡ [])
none_pinned refused (e ∷ es) h = All-cons (λ (x : RunEvent). x.pins ≡ []) e es (All-head (ReadPiece refused) e es h).pinned (none_pinned refused es (All-tail (ReadPiece refused) e es h))

abbrev pieces_pinned : RunEvent → ℕ
pieces_pinned e = sum_by (λ p. p.pieces) e.pins

no_pieces : (es : List RunEvent) → All (λ e. e.pins ≡ []) es → sum_by pieces_pinned es ≡ 0
no_pieces [] h = refl
no_pieces (e ∷ es) h =
    let a = sum_by-cons pieces_pinned e es in
    let here : pieces_pinned e ≡ 0 = ap (λ (ps : List Pin). sum_by (λ (p : Pin). p.pieces) ps) (All-head (λ (x : RunEvent). x.pins ≡ []) e es h) in
    let rest = no_pieces es (All-tail (λ (x : RunEvent). x.pins ≡ []) e es h) in
    omega (arith, a, here, rest)

-- whether a piece is left, of a request that read so many
left_by_counts : (from : StoredAt) (own behind : List RunEvent) (place : ℕ) (run : Run) (h : HasPinned from own behind) → All (ReadPiece None) behind → own_events place run ≡ own → piece_left place run ≡ nat_lt (length behind) (pieces_left (parts_to_read from))
left_by_counts from own behind place run h read is =
    ap (λ (es : List RunEvent). nat_lt (count_by (λ (e : RunEvent). is_piece e.part) es) (sum_by (λ (e : RunEvent). sum_by (λ (p : Pin). p.pieces) e.pins) es)) (is ∙ h.own_are)
    ∙ (ap (λ (n : ℕ). nat_lt n (sum_by pieces_pinned (h.pin ∷ behind))) many ∙ ap (λ (n : ℕ). nat_lt (length behind) n) pinned)
  where
    many : count_by (λ (e : RunEvent). is_piece e.part) (h.pin ∷ behind) ≡ length behind
    many =
        let a = sum_by-cons one_piece h.pin behind in
        let here : one_piece h.pin ≡ 0 = ap one_of_part h.part in
        let rest = pieces_counted behind read in
        omega (arith, a, here, rest)

    pinned : sum_by pieces_pinned (h.pin ∷ behind) ≡ pieces_left (parts_to_read from)
    pinned =
        let a = sum_by-cons pieces_pinned h.pin behind in
        let here : pieces_pinned h.pin ≡ pieces_left (parts_to_read from) = ap (λ (ps : List Pin). sum_by (λ (p : Pin). p.pieces) ps) h.pins ∙ (let k = sum_by-cons (λ (p : Pin). p.pieces) (record { file = from.file.0; pieces = pieces_left (parts_to_read from); instances = from.instances }) [] in omega (arith, k)) in
        let rest = no_pieces behind (none_pinned None behind read) in
        omega (arith, a, here, rest)

-- the request of the last of its own events
pub last_request : (place : ℕ) (run : Run) (front : List RunEvent) (last : RunEvent) → own_events place run ≡ front ++ last ∷ [] → last.request ≡ place
last_request place run front last is = last_of_all (λ e. e.request ≡ place) front last (subst (λ (es : List RunEvent). All (λ e. e.request ≡ place) es) is (own_requests place run.events))

-- what stands behind events that read pieces, none of which was refused
behind_read : (around : Around) (name : List ℕ) (uid : Uid) (run : Run) (place : ℕ) (front : List RunEvent) (last : RunEvent) → own_events place run ≡ front ++ last ∷ [] → (last.part ≡ First) ⊎ (last.part ≡ ReadsPiece) → last.refused ≡ None
    → behind_event around run (request.Fetch name uid) last last.refused ≡ (if piece_left place run then Some ReadsPiece else Some Unpins)
behind_read around name uid run place front last is part none =
    ap (λ (r : Option Refusal). behind_event around run (request.Fetch name uid) last r) none ∙ (by_part part ∙ ap (λ (p : ℕ). if piece_left p run then Some ReadsPiece else Some Unpins) (last_request place run front last is))
  where
    by_part : (last.part ≡ First) ⊎ (last.part ≡ ReadsPiece) → behind_fetch run last last.part ≡ (if piece_left last.request run then Some ReadsPiece else Some Unpins)
    by_part (inl e) = ap (λ (p : EventPart). behind_fetch run last p) e
    by_part (inr e) = ap (λ (p : EventPart). behind_fetch run last p) e

-- the events behind the first one, and the last of them
abbrev IsLast : List RunEvent → List RunEvent → RunEvent → Type 0
IsLast own front last = (own ≡ front ++ last ∷ []) × ((last.part ≡ First) ⊎ (last.part ≡ ReadsPiece)) × (last.refused ≡ None)

last_one : (pin : RunEvent) (behind : List RunEvent) → pin.part ≡ First → pin.refused ≡ None → All (ReadPiece None) behind → (front : List RunEvent) × (last : RunEvent) × IsLast (pin ∷ behind) front last
last_one pin [] part none read = ([], pin, (refl, inl part, none))
last_one pin (e ∷ []) part none read = let h = All-head (ReadPiece None) e [] read in (pin ∷ [], e, (refl, inr h.part, h.refused_is))
last_one pin (e ∷ f ∷ behind) part none read =
    let r = last_of e (f ∷ behind) read in
    (pin ∷ r.0, r.1, (ap (λ (es : List RunEvent). pin ∷ es) r.2.0, r.2.1, r.2.2))
  where
    last_of : (x : RunEvent) (xs : List RunEvent) → All (ReadPiece None) (x ∷ xs) → (front : List RunEvent) × (last : RunEvent) × IsLast (x ∷ xs) front last
    last_of x [] h = let k = All-head (ReadPiece None) x [] h in ([], x, (refl, inr k.part, k.refused_is))
    last_of x (y ∷ ys) h = let r = last_of y ys (All-tail (ReadPiece None) x (y ∷ ys) h) in (x ∷ r.0, r.1, (ap (λ (es : List RunEvent). x ∷ es) r.2.0, r.2.1, r.2.2))

pub less : (a b : ℕ) → a < b → nat_lt a b ≡ true
less a b l = grind (arith, common_steps, l)

pub not_less : (a b : ℕ) → b ≤ a → nat_lt a b ≡ false
not_less a b l = grind (arith, common_steps, l)

-- A piece is read next, while one is left.
pub next_reads : (around : Around) (name : List ℕ) (uid : Uid) (run : Run) (place left : ℕ) (from : StoredAt) → HasReadAllBut from left (own_events place run) → 0 < left → next_part around run (request.Fetch name uid) (own_events place run) ≡ Some ReadsPiece
next_reads around name uid run place left from (behind, h, read, many) l =
    let r = last_one h.pin behind h.part h.unrefused read in
    let own = h.own_are ∙ r.2.0 in
    (ap (next_part around run (request.Fetch name uid)) own ∙ (next_behind around run (request.Fetch name uid) r.0 r.1 ∙ behind_read around name uid run place r.0 r.1 own r.2.1 r.2.2))
    ∙ ap (λ (b : Bool). if b then Some ReadsPiece else Some Unpins) (left_by_counts from (own_events place run) behind place run h read refl ∙ less (length behind) (pieces_left (parts_to_read from)) (omega (arith, l, many)))

-- ---- it unpins next

pub next_unpins : (around : Around) (name : List ℕ) (uid : Uid) (run : Run) (place : ℕ) (from : StoredAt) (given : Reply) → UnpinsNext from given (own_events place run) → next_part around run (request.Fetch name uid) (own_events place run) ≡ Some Unpins
next_unpins around name uid run place from given (inl (fetched, (behind, h, read, many))) =
    let r = last_one h.pin behind h.part h.unrefused read in
    let own = h.own_are ∙ r.2.0 in
    (ap (next_part around run (request.Fetch name uid)) own ∙ (next_behind around run (request.Fetch name uid) r.0 r.1 ∙ behind_read around name uid run place r.0 r.1 own r.2.1 r.2.2))
    ∙ ap (λ (b : Bool). if b then Some ReadsPiece else Some Unpins) (left_by_counts from (own_events place run) behind place run h read refl ∙ not_less (length behind) (pieces_left (parts_to_read from)) (omega (arith, many)))
next_unpins around name uid run place from given (inr (why, front, last, given_is, may, h, read, refused)) =
    ap (next_part around run (request.Fetch name uid)) h.own_are
    ∙ (next_behind around run (request.Fetch name uid) (h.pin ∷ front) last ∙ (ap (λ (r : Option Refusal). behind_event around run (request.Fetch name uid) last r) refused.refused_is ∙ by_refusal why may))
  where
    by_refusal : (r : Refusal) → IsPieceRefusal r → behind_event around run (request.Fetch name uid) last (Some r) ≡ Some Unpins
    by_refusal refusal.ReadFault m = ap (λ (p : EventPart). behind_refused (request.Fetch name uid) p refusal.ReadFault) refused.part
    by_refusal (refusal.Damaged file offset) m = ap (λ (p : EventPart). behind_refused (request.Fetch name uid) p (refusal.Damaged file offset)) refused.part
    by_refusal refusal.NoMailbox m = absurd m
    by_refusal refusal.Inbox m = absurd m
    by_refusal refusal.Exists m = absurd m
    by_refusal refusal.NoMessage m = absurd m
    by_refusal refusal.Sealed m = absurd m
    by_refusal (refusal.TooManyCopies n) m = absurd m
    by_refusal (refusal.MailboxFull n) m = absurd m
    by_refusal (refusal.TooManyMailboxes n) m = absurd m
    by_refusal (refusal.StoreFull n) m = absurd m
    by_refusal refusal.NoMemory m = absurd m
    by_refusal refusal.Stopped m = absurd m

-- by the last refusal of its events it replies
pub unpins_by : (from : StoredAt) (given : Reply) (own : List RunEvent) → UnpinsNext from given own → last_refusal own ≡ refusal_in given
unpins_by from given own (inl (fetched, (behind, h, read, many))) =
    ap last_refusal h.own_are ∙ (ap (λ (r : Option Refusal). option_or r h.pin.refused) (none_refused behind read) ∙ (h.unrefused ∙ sym fetched))
unpins_by from given own (inr (why, front, last, given_is, may, h, read, refused)) =
    ap last_refusal h.own_are
    ∙ (last_with (h.pin ∷ front) last ∙ (ap (λ (r : Option Refusal). option_or r (last_refusal (h.pin ∷ front))) refused.refused_is ∙ sym given_is))

-- ---- pins and dooms

no_unpin : (es : List RunEvent) → All (λ e. is_unpinning e ≡ false) es → list_any is_unpinning es ≡ false
no_unpin [] h = refl
no_unpin (e ∷ es) h = ap (λ (b : Bool). b || list_any is_unpinning es) (All-head (λ (x : RunEvent). is_unpinning x ≡ false) e es h) ∙ no_unpin es (All-tail (λ (x : RunEvent). is_unpinning x ≡ false) e es h)

and_none : (b : Bool) → (b && false) ≡ false
and_none true = refl
and_none false = refl

part_keeps : (e : RunEvent) (part : EventPart) → e.part ≡ part → is_unpinning_part part ≡ false → is_unpinning e ≡ false
part_keeps e part is keeps = ap (λ (p : EventPart). is_none e.refused && is_unpinning_part p) is ∙ (ap (λ (b : Bool). is_none e.refused && b) keeps ∙ and_none (is_none e.refused))

piece_keeps : (refused : Option Refusal) (es : List RunEvent) → All (ReadPiece refused) es → All (λ e. is_unpinning e ≡ false) es
piece_keeps refused [] h = All-nil (λ (e : RunEvent). is_unpinning e ≡ false)
piece_keeps refused (e ∷ es) h =
    All-cons (λ (x : RunEvent). is_unpinning x ≡ false) e es (part_keeps e ReadsPiece (All-head (ReadPiece refused) e es h).part refl) (piece_keeps refused es (All-tail (ReadPiece refused) e es h))

-- none of its own events unpinned, and one of them pinned
pub none_unpinned : (from : StoredAt) (own behind : List RunEvent) (place : ℕ) (run : Run) → (h : HasPinned from own behind) → All (λ e. is_unpinning e ≡ false) behind → own_events place run ≡ own → has_unpinned place run ≡ false
none_unpinned from own behind place run h keep is =
    ap (λ (es : List RunEvent). list_any is_unpinning es) (is ∙ h.own_are) ∙ no_unpin (h.pin ∷ behind) (All-cons (λ (x : RunEvent). is_unpinning x ≡ false) h.pin behind (part_keeps h.pin First h.part refl) keep)

pub one_pinned : (from : StoredAt) (own behind : List RunEvent) (other : ℕ) → (h : HasPinned from own behind) → All (λ e. e.pins ≡ []) behind → sum_by (pins_at_all other) own ≡ one_pin from.file.0 other
one_pinned from own behind other h none = ap (sum_by (pins_at_all other)) h.own_are ∙ own_pins from.file.0 (pieces_left (parts_to_read from)) other from.instances h.pin behind h.pins none

-- what is known of the pins as it unpins
pub record HoldsPin (from : StoredAt) (place : ℕ) (run : Run) : Type 0 where
  pub none : has_unpinned place run ≡ false
  pub one : (other : ℕ) → sum_by (pins_at_all other) (own_events place run) ≡ one_pin from.file.0 other

pub holds_pin : (from : StoredAt) (given : Reply) (place : ℕ) (run : Run) → UnpinsNext from given (own_events place run) → HoldsPin from place run
holds_pin from given place run (inl (fetched, (behind, h, read, many))) = record {
  none = none_unpinned from (own_events place run) behind place run h (piece_keeps None behind read) refl;
  one = λ other. one_pinned from (own_events place run) behind other h (none_pinned None behind read);
}
holds_pin from given place run (inr (why, front, last, given_is, may, h, read, refused)) = record {
  none = none_unpinned from (own_events place run) (front ++ last ∷ []) place run h
      (All-append (λ (x : RunEvent). is_unpinning x ≡ false) front (last ∷ []) (piece_keeps None front read) (All-cons (λ (x : RunEvent). is_unpinning x ≡ false) last [] (part_keeps last ReadsPiece refused.part refl) (All-nil (λ (x : RunEvent). is_unpinning x ≡ false)))) refl;
  one = λ other. one_pinned from (own_events place run) (front ++ last ∷ []) other h
      (All-append (λ (x : RunEvent). x.pins ≡ []) front (last ∷ []) (none_pinned None front read) (All-cons (λ (x : RunEvent). x.pins ≡ []) last [] refused.pinned (All-nil (λ (x : RunEvent). x.pins ≡ []))));
}

-- its own events pin no other file
pub own_files : (from : StoredAt) (given : Reply) (own : List RunEvent) → UnpinsNext from given own → All (λ e. All (λ p. p.file ≡ from.file.0) e.pins) own
own_files from given own h = elim h [
  | inl (fetched, (behind, p, read, many)) ↦ pins_of_file from own behind p (none_pinned None behind read)
  | inr (why, front, last, given_is, may, p, read, refused) ↦ pins_of_file from own (front ++ last ∷ []) p
      (All-append (λ (x : RunEvent). x.pins ≡ []) front (last ∷ []) (none_pinned None front read) (All-cons (λ (x : RunEvent). x.pins ≡ []) last [] refused.pinned (All-nil (λ (x : RunEvent). x.pins ≡ []))))
]
  where
    pins_of_file : (from : StoredAt) (own behind : List RunEvent) → HasPinned from own behind → All (λ e. e.pins ≡ []) behind → All (λ e. All (λ p. p.file ≡ from.file.0) e.pins) own
    pins_of_file from own behind p none =
        let Q : Pin → Type 0 = λ x. x.file ≡ from.file.0 in
        let P : RunEvent → Type 0 = λ e. All Q e.pins in
        subst (All P) (sym p.own_are)
        (All-cons P p.pin behind (subst (All Q) (sym p.pins) (All-cons Q (record { file = from.file.0; pieces = pieces_left (parts_to_read from); instances = from.instances }) [] refl (All-nil Q)))
        (All-weaker (λ (e : RunEvent). e.pins ≡ []) P (λ e n. subst (All Q) (sym n) (All-nil Q)) behind none))

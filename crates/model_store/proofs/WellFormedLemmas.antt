-- Lists for which an image stands are well formed.
use Rattle.std.specs.Prelude.{◌≡◌, ◌≢◌, ◌<◌, ◌≤◌, ℕ, List, [], ◌∷◌, length, All, AllPairs}
use Rattle.std.proofs.Common.{sym, ◌∙◌, ap, arith, subst}
use Rattle.std.proofs.lemmas.List.Elements.{All-nil, All-cons, All-head, All-tail}
use Rattle.std.proofs.lemmas.List.Kept.{AllPairs-cons}
use Rattle.disk_model.specs.Disk.{Files}
use Rattle.mdbox_base.specs.Keywords.{AreWords}
use Rattle.mdbox_base.specs.Words.{IsName}
use Rattle.model_lists.specs.Lists.{ListedMessage, Mailbox, Lists, IsMessageInRange, IsMailboxInOrder, AreWellFormed}
use Rattle.model_meaning.specs.BoxMeaning.{LogRow, box_meaning, rows_after, next_after}
use Rattle.model_meaning.specs.MapMeaning.{MapBox, MapMeaning, map_meaning}
use Rattle.model_octets.proofs.PairLemmas.{pairs_nil, pairs_head, pairs_tail}
use Rattle.model_meaning.specs.Sound.{IsSoundRow, IsSoundBox, IsSoundMapBox, IsSoundMap}
use Rattle.model_meaning.proofs.BoxSoundLemmas.{box_sound}
use Rattle.model_meaning.proofs.MapSoundLemmas.{map_sound}
use Rattle.model_store.specs.Stands.{IsListed, AreListed, IsMailbox, AreMailboxes, Stands}

abbrev Rises : ListedMessage → ListedMessage → Type 0
Rises a b = a.uid < b.uid

abbrev RowRises : LogRow → LogRow → Type 0
RowRises a b = a.uid < b.uid

-- each listed message is in range
message_fits : (image : Files) (m : MapMeaning) (next : ℕ) (row : LogRow) (x : ListedMessage) → next ≤ 4294967295 → IsSoundRow next row → IsListed image m row x → IsMessageInRange x
message_fits image m next row x le r l =
    let uid = l.uid in
    let flags = l.flags in
    let time = l.time in
    let size = l.size in
    let h1 = r.uid_some in
    let h2 = r.below in
    let h3 = r.flags in
    let h4 = r.time in
    let h5 = r.size in
    record {
      uid_some = omega (arith, uid, h1);
      uid_fits = omega (arith, uid, h2, le);
      flags = omega (arith, flags, h3);
      time = omega (arith, time, h4);
      guid = ap length l.guid ∙ r.guid;
      size = omega (arith, size, h5);
      words = subst AreWords (sym l.words) r.words;
    }

messages_fit : (image : Files) (m : MapMeaning) (next : ℕ) (rows : List LogRow) (xs : List ListedMessage) → next ≤ 4294967295 → All (IsSoundRow next) rows → AreListed image m rows xs → All IsMessageInRange xs
messages_fit image m next [] [] le r l = All-nil IsMessageInRange
messages_fit image m next [] (x ∷ xs) le r l = absurd l
messages_fit image m next (row ∷ rows) [] le r l = absurd l
messages_fit image m next (row ∷ rows) (x ∷ xs) le r l =
    All-cons IsMessageInRange x xs (message_fits image m next row x le (All-head (IsSoundRow next) row rows r) l.0) (messages_fit image m next rows xs le (All-tail (IsSoundRow next) row rows r) l.1)

messages_below : (image : Files) (m : MapMeaning) (next : ℕ) (rows : List LogRow) (xs : List ListedMessage) → All (IsSoundRow next) rows → AreListed image m rows xs → All (λ x. x.uid < next) xs
messages_below image m next [] [] r l = All-nil (λ (x : ListedMessage). x.uid < next)
messages_below image m next [] (x ∷ xs) r l = absurd l
messages_below image m next (row ∷ rows) [] r l = absurd l
messages_below image m next (row ∷ rows) (x ∷ xs) r l =
    let uid = l.0.uid in
    let h = (All-head (IsSoundRow next) row rows r).below in
    All-cons (λ (x : ListedMessage). x.uid < next) x xs (omega (arith, uid, h)) (messages_below image m next rows xs (All-tail (IsSoundRow next) row rows r) l.1)

-- UIDs of messages rise as those of their rows
later_above : (image : Files) (m : MapMeaning) (row : LogRow) (x : ListedMessage) (rows : List LogRow) (xs : List ListedMessage) → x.uid ≡ row.uid → All (RowRises row) rows → AreListed image m rows xs → All (Rises x) xs
later_above image m row x [] [] e r l = All-nil (Rises x)
later_above image m row x [] (y ∷ ys) e r l = absurd l
later_above image m row x (q ∷ rows) [] e r l = absurd l
later_above image m row x (q ∷ rows) (y ∷ ys) e r l =
    let uid = l.0.uid in
    let h = All-head (RowRises row) q rows r in
    All-cons (Rises x) y ys (omega (arith, uid, h, e)) (later_above image m row x rows ys e (All-tail (RowRises row) q rows r) l.1)

messages_rise : (image : Files) (m : MapMeaning) (rows : List LogRow) (xs : List ListedMessage) → AllPairs RowRises rows → AreListed image m rows xs → AllPairs Rises xs
messages_rise image m [] [] r l = pairs_nil Rises
messages_rise image m [] (x ∷ xs) r l = absurd l
messages_rise image m (row ∷ rows) [] r l = absurd l
messages_rise image m (row ∷ rows) (x ∷ xs) r l =
    AllPairs-cons Rises x xs (later_above image m row x rows xs l.0.uid (pairs_head RowRises row rows r) l.1) (messages_rise image m rows xs (pairs_tail RowRises row rows r) l.1)

-- a mailbox is in order
mailbox_in_order : (image : Files) (m : MapMeaning) (high : ℕ) (box : MapBox) (mailbox : Mailbox) → IsSoundMapBox high box → IsMailbox image m box mailbox → IsMailboxInOrder mailbox
mailbox_in_order image m high box mailbox b h =
    let s : IsSoundBox (box_meaning h.entries) = box_sound h.entries h.log.fit h.log.in_range in
    let number = h.number in
    let low = b.number.low in
    let high = b.number.high in
    let next = h.next in
    let some = s.some in
    let fits = s.fits in
    record {
      number_some = omega (arith, number, low);
      number_fits = omega (arith, number, high);
      name = subst IsName (sym h.name) b.name;
      next_some = omega (arith, next, some);
      next_fits = omega (arith, next, fits);
      rising = messages_rise image m (rows_after h.entries) mailbox.messages s.rising h.messages;
      below = subst (λ (n : ℕ). All (λ x. x.uid < n) mailbox.messages) (sym h.next) (messages_below image m (next_after h.entries) (rows_after h.entries) mailbox.messages s.rows h.messages);
      in_range = messages_fit image m (next_after h.entries) (rows_after h.entries) mailbox.messages s.fits s.rows h.messages;
    }

mailboxes_in_order : (image : Files) (m : MapMeaning) (high : ℕ) (boxes : List MapBox) (lists : Lists) → All (IsSoundMapBox high) boxes → AreMailboxes image m boxes lists → All IsMailboxInOrder lists
mailboxes_in_order image m high [] [] s h = All-nil IsMailboxInOrder
mailboxes_in_order image m high [] (x ∷ xs) s h = absurd h
mailboxes_in_order image m high (box ∷ boxes) [] s h = absurd h
mailboxes_in_order image m high (box ∷ boxes) (x ∷ xs) s h =
    All-cons IsMailboxInOrder x xs (mailbox_in_order image m high box x (All-head (IsSoundMapBox high) box boxes s) h.0) (mailboxes_in_order image m high boxes xs (All-tail (IsSoundMapBox high) box boxes s) h.1)

-- a relation between mailboxes of the map is one between the lists'
abbrev Carries : Files → MapMeaning → (MapBox → MapBox → Type 0) → (Mailbox → Mailbox → Type 0) → Type 0
Carries image m R Q = (a b : MapBox) (x y : Mailbox) → IsMailbox image m a x → IsMailbox image m b y → R a b → Q x y

all_along : (image : Files) (m : MapMeaning) (R : MapBox → MapBox → Type 0) (Q : Mailbox → Mailbox → Type 0) → Carries image m R Q → (box : MapBox) (x : Mailbox) → IsMailbox image m box x → (boxes : List MapBox) (xs : Lists) → All (R box) boxes → AreMailboxes image m boxes xs → All (Q x) xs
all_along image m R Q carries box x i [] [] r h = All-nil (Q x)
all_along image m R Q carries box x i [] (y ∷ ys) r h = absurd h
all_along image m R Q carries box x i (b ∷ bs) [] r h = absurd h
all_along image m R Q carries box x i (b ∷ bs) (y ∷ ys) r h =
    All-cons (Q x) y ys (carries box b x y i h.0 (All-head (R box) b bs r)) (all_along image m R Q carries box x i bs ys (All-tail (R box) b bs r) h.1)

pairs_along : (image : Files) (m : MapMeaning) (R : MapBox → MapBox → Type 0) (Q : Mailbox → Mailbox → Type 0) → Carries image m R Q → (boxes : List MapBox) (xs : Lists) → AllPairs R boxes → AreMailboxes image m boxes xs → AllPairs Q xs
pairs_along image m R Q carries [] [] r h = pairs_nil Q
pairs_along image m R Q carries [] (y ∷ ys) r h = absurd h
pairs_along image m R Q carries (b ∷ bs) [] r h = absurd h
pairs_along image m R Q carries (b ∷ bs) (y ∷ ys) r h =
    AllPairs-cons Q y ys (all_along image m R Q carries b y h.0 bs ys (pairs_head R b bs r) h.1) (pairs_along image m R Q carries bs ys (pairs_tail R b bs r) h.1)

-- Lists for which an image stands are well formed.
pub well_formed : (image : Files) (lists : Lists) → Stands image lists → AreWellFormed lists
well_formed image lists s =
    let m : MapMeaning = map_meaning s.store s.entries in
    let sound : IsSoundMap m = map_sound s.store s.entries s.by.map_log.fit s.by.map_log.in_range in
    record {
      names = pairs_along image m (λ a b. a.name ≢ b.name) (λ x y. x.name ≢ y.name) (λ a b x y p q h e. h (sym p.name ∙ e ∙ q.name)) m.boxes lists sound.names s.by.mailboxes;
      numbers = pairs_along image m (λ a b. a.number < b.number) (λ x y. x.number < y.number) (λ a b x y p q h. let u = p.number in let v = q.number in omega (arith, u, v, h)) m.boxes lists sound.boxes_rising s.by.mailboxes;
      each = mailboxes_in_order image m m.highest.mailbox m.boxes lists sound.boxes s.by.mailboxes;
    }

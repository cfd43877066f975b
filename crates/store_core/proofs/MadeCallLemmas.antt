-- A store that makes, removes or names the log of a mailbox, by what the calls have at hand.
use Rattle.store_core.proofs.Common.{◌||◌, AllPairs, not, list_any, option_map, ◌≡◌, ◌≢◌, ◌<◌, ◌≤◌, ◌==◌, ℕ, Bool, true, false, List, [], ◌∷◌, ◌++◌, length, find, slice_index_or, Option, Some, All, sym, ◌∙◌, ap, subst, arith, All-nil, All-cons, All-append, All-filter, All-weaker, ne_eqb, History}
use Rattle.store_core.proofs.Common.{if_told-map, LogState, IsLogHeld, Holds, box_meaning, MapBox, MapMeaning, head_of, OthersAreNamed, HaveOtherNumbers, IsMadeLog, IsUnnamed, KeepsMadeLogs, has_made_log, without_box, HasEntryRoom, IsStore, StoreValue, entry_room, OpenBox}
use Rattle.std.specs.Prelude.{remove, slice_get, max}
use Rattle.std.proofs.Math.Bool.{or-false}
use Rattle.std.proofs.lemmas.List.Folds.{list_any_none, list_any-append}
use Rattle.std.proofs.lemmas.List.Kept.{AllPairs-filter}
use Rattle.disk_model.specs.declared.name.FileName.TheVariants as file
use Rattle.mdbox_base.specs.Words.{IsNumber}
use Rattle.model_logs.specs.declared.log_head.LogKind.TheVariants as kind
use Rattle.model_meaning.specs.Sound.{IsSoundMapBox}
use Rattle.model_octets.proofs.PairLemmas.{pairs_push}
use Rattle.store_core.proofs.BoxAppendLemmas.{store_sound}
use Rattle.store_core.proofs.MadeLogLemmas.{IsHeldBy, apart_from_made, held_named, none_has, others_left, taken_left, taken_found, left_has, more_has, find_made, found_made}
use Rattle.store_core.proofs.PlacingLemmas.{number_at}

-- ---- one that is taken out

pub taken_at : (n k : ℕ) (boxes found : List OpenBox) (b : OpenBox) → found ≡ boxes → (k < length found) × (option_map (λ o. o.number.0) (slice_get found k) ≡ Some n) → AllPairs HaveOtherNumbers boxes → b ≡ slice_index_or boxes k b
    → (remove boxes k ≡ without_box n boxes) × (Some b ≡ find (λ o. o.number.0 == n) boxes)
taken_at n k boxes found b same at apart is =
    let below : k < length boxes = subst (λ (bs : List OpenBox). k < length bs) same at.0 in
    let number : (slice_index_or boxes k b).number.0 ≡ n = number_at boxes k b n below (subst (λ (bs : List OpenBox). option_map (λ (o : OpenBox). o.number.0) (slice_get bs k) ≡ Some n) same at.1) in
    (taken_left n k b boxes below apart number, ap Some is ∙ sym (taken_found n k b boxes below apart number))

-- ---- room

pub room_same : {D : Type 0} → (v w : StoreValue D) → w.map_log ≡ v.map_log → w.boxes ≡ v.boxes → HasEntryRoom v → HasEntryRoom w
room_same v w log boxes r = record {
  map_log = subst (λ (l : LogState). entry_room ≤ l.room) (sym log) r.map_log;
  box_logs = subst (λ (bs : List OpenBox). All (λ (o : OpenBox). entry_room ≤ o.log.room) bs) (sym boxes) r.box_logs;
}

-- ---- one that was made

pub logged_as : (log : LogState) (id store : List ℕ) (n : ℕ) → log ≡ record { name = file.Box n 1; head = head_of id kind.Box n 1; end = 25; count = 0; room = 0 } → id ≡ store → log ≡ record { name = file.Box n 1; head = head_of store kind.Box n 1; end = 25; count = 0; room = 0 }
logged_as log id store n is same = is ∙ ap (λ (i : List ℕ). record { name = file.Box n 1; head = head_of i kind.Box n 1; end = 25; count = 0; room = 0 }) same

roomier_held : (a : LogState) (room : ℕ) (h : Option History) → Holds a [] h → Holds (record a { room = room }) [] h
roomier_held a room h = if_told-map (IsLogHeld a []) (IsLogHeld (record a { room = room }) []) h (λ disk l. record { reads = record { file = l.reads.file; end = l.reads.end; count = l.reads.count; head_fits = l.reads.head_fits; entries_fit = l.reads.entries_fit }; keeps = l.keeps })

pub created : {D : Type 0} → (old new : Option History) (v w : StoreValue D) (b : OpenBox) (log : LogState) (room n : ℕ) → KeepsMadeLogs old v → v.stopped ≡ false → w.made ≡ v.made ++ b ∷ [] → w.map ≡ v.map → w.drawn ≡ v.drawn
    → IsNumber n → n ≤ v.drawn.mailbox → IsUnnamed n v.map → has_made_log n v ≡ false → b.number.0 ≡ n → log ≡ record { name = file.Box n 1; head = head_of v.map.store kind.Box n 1; end = 25; count = 0; room = 0 } → b.log ≡ record log { room = max log.room room } → entry_room ≤ room
    → b.index.meaning ≡ box_meaning [] → Holds log [] new → OthersAreNamed (file.Box n 1) old new → KeepsMadeLogs new w
created old new v w b log room n k runs made same_map same_drawn number drawn unnamed none is logged roomy enough empty held others =
    let apart : All (λ (o : OpenBox). o.number.0 ≢ n) v.made = none_has n v.made none in
    let headed : log.name ≡ file.Box n 1 = ap (λ (l : LogState). l.name) logged in
    let one : IsMadeLog v.map v.drawn b = record {
      is_number = subst IsNumber (sym is) number;
      was_drawn = omega (arith, is, drawn);
      unnamed = subst (λ (m : ℕ). IsUnnamed m v.map) (sym is) unnamed;
      name = ap (λ (l : LogState). l.name) roomy ∙ headed ∙ ap (λ (m : ℕ). file.Box m 1) (sym is);
      head = ap (λ (l : LogState). l.head) roomy ∙ ap (λ (l : LogState). l.head) logged ∙ ap (λ (m : ℕ). head_of v.map.store kind.Box m 1) (sym is);
      empty = empty;
      room = let r : b.log.room ≡ max log.room room = ap (λ (l : LogState). l.room) roomy in omega (arith, r, enough);
    } in
    record {
      are_made = subst (λ (bs : List OpenBox). All (IsMadeLog w.map w.drawn) bs) (sym made)
          (subst (λ (m : MapMeaning). All (IsMadeLog m w.drawn) (v.made ++ b ∷ [])) (sym same_map)
          (subst (λ (d : _). All (IsMadeLog v.map d) (v.made ++ b ∷ [])) (sym same_drawn)
          (All-append (IsMadeLog v.map v.drawn) v.made (b ∷ []) k.are_made (All-cons (IsMadeLog v.map v.drawn) b [] one (All-nil (IsMadeLog v.map v.drawn))))));
      apart = subst (λ (bs : List OpenBox). AllPairs HaveOtherNumbers bs) (sym made) (pairs_push HaveOtherNumbers v.made b k.apart (λ i d lt p. apart i d lt (p ∙ is)));
      held = λ _. subst (λ (bs : List OpenBox). All (IsHeldBy new) bs) (sym made)
          (All-append (IsHeldBy new) v.made (b ∷ []) (held_named (file.Box n 1) old new v.made others (apart_from_made v.map v.drawn n 1 v.made apart k.are_made) (k.held runs))
          (All-cons (IsHeldBy new) b [] (subst (λ (l : LogState). Holds l [] new) (sym roomy) (roomier_held log (max log.room room) new held)) (All-nil (IsHeldBy new))));
    }

-- ---- one that was removed

pub removed : {D : Type 0} → (old new : Option History) (v w : StoreValue D) (n generation : ℕ) → KeepsMadeLogs old v → v.stopped ≡ false → w.made ≡ without_box n v.made → w.map ≡ v.map → w.drawn ≡ v.drawn → OthersAreNamed (file.Box n generation) old new → KeepsMadeLogs new w
removed old new v w n generation k runs made same_map same_drawn others =
    let are : All (IsMadeLog v.map v.drawn) (without_box n v.made) = All-filter (λ (o : OpenBox). not (o.number.0 == n)) (IsMadeLog v.map v.drawn) v.made k.are_made in
    record {
      are_made = subst (λ (bs : List OpenBox). All (IsMadeLog w.map w.drawn) bs) (sym made)
          (subst (λ (m : MapMeaning). All (IsMadeLog m w.drawn) (without_box n v.made)) (sym same_map) (subst (λ (d : _). All (IsMadeLog v.map d) (without_box n v.made)) (sym same_drawn) are));
      apart = subst (λ (bs : List OpenBox). AllPairs HaveOtherNumbers bs) (sym made) (AllPairs-filter HaveOtherNumbers (λ (o : OpenBox). not (o.number.0 == n)) v.made k.apart);
      held = λ _. subst (λ (bs : List OpenBox). All (IsHeldBy new) bs) (sym made)
          (held_named (file.Box n generation) old new (without_box n v.made) others (apart_from_made v.map v.drawn n generation (without_box n v.made) (others_left n v.made) are) (All-filter (λ (o : OpenBox). not (o.number.0 == n)) (IsHeldBy old) v.made (k.held runs)));
    }

-- ---- which are made

pub one_more : (n other : ℕ) (old before later : List OpenBox) (b : OpenBox) → later ≡ before ++ b ∷ [] → before ≡ old → b.number.0 ≡ n → list_any (λ o. o.number.0 == other) later ≡ (list_any (λ o. o.number.0 == other) old || n == other)
one_more n other old before later b is same number =
    ap (list_any (λ (o : OpenBox). o.number.0 == other)) (is ∙ ap (λ (bs : List OpenBox). bs ++ b ∷ []) same)
    ∙ list_any-append (λ (o : OpenBox). o.number.0 == other) old (b ∷ [])
    ∙ ap (λ (t : Bool). list_any (λ (o : OpenBox). o.number.0 == other) old || t) (or-false (b.number.0 == other) ∙ ap (λ (m : ℕ). m == other) number)

pub keeps_others : (other : ℕ) (old before later : List OpenBox) (b : OpenBox) → later ≡ before ++ b ∷ [] → before ≡ old → list_any (λ o. o.number.0 == other) old ≡ true → list_any (λ o. o.number.0 == other) later ≡ true
keeps_others other old before later b is same has =
    subst (λ (bs : List OpenBox). list_any (λ o. o.number.0 == other) bs ≡ true) (sym is) (more_has other before b (subst (λ (bs : List OpenBox). list_any (λ o. o.number.0 == other) bs ≡ true) (sym same) has))

pub left_others : (n other : ℕ) (old later : List OpenBox) → later ≡ without_box n old → other ≢ n → list_any (λ o. o.number.0 == other) old ≡ true → list_any (λ o. o.number.0 == other) later ≡ true
left_others n other old later is apart has = subst (λ (bs : List OpenBox). list_any (λ o. o.number.0 == other) bs ≡ true) (sym is) (left_has n other old apart has)

-- ---- what is known of them

pub log_known : {D : Type 0} → (h : Option History) (v : StoreValue D) (n : ℕ) → KeepsMadeLogs h v → has_made_log n v ≡ true → IsNumber n × (n ≤ v.drawn.mailbox) × IsUnnamed n v.map
log_known h v n k has =
    let f = find_made n v.made has in
    let m = found_made (IsMadeLog v.map v.drawn) n v.made f.0 f.1 k.are_made in
    (subst IsNumber m.1 m.0.is_number, subst (λ (j : ℕ). j ≤ v.drawn.mailbox) m.1 m.0.was_drawn, subst (λ (j : ℕ). IsUnnamed j v.map) m.1 m.0.unnamed)

pub number_fresh : {D : Type 0} → (h : Option History) (v : StoreValue D) (n : ℕ) → IsStore h v → KeepsMadeLogs h v → v.drawn.mailbox < n → IsUnnamed n v.map × (has_made_log n v ≡ false)
number_fresh h v n s k less = (
  All-weaker (IsSoundMapBox v.map.highest.mailbox) (λ (box : MapBox). box.number ≢ n) (λ box b e. let below = b.below in let up = s.drawn.mailbox in absurd (omega (arith, below, up, less, e))) v.map.boxes (store_sound h v s).boxes,
  list_any_none (λ (o : OpenBox). o.number.0 == n) v.made
      (All-weaker (IsMadeLog v.map v.drawn) (λ (o : OpenBox). (o.number.0 == n) ≡ false) (λ o l. let d = l.was_drawn in ne_eqb o.number.0 n (λ (e : o.number.0 ≡ n). omega (arith, d, less, e))) v.made k.are_made),
)

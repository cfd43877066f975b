-- What safe files show.
use Rattle.std.specs.Prelude.{◌≡◌, ℕ, false, List, [], ◌∷◌, map, Option, Some, None, if◌then◌else◌}
use Rattle.std.specs.Str.{bytes_eq}
use Rattle.std.proofs.Common.{refl, sym, ◌∙◌, ap, subst}
use Rattle.disk_model.specs.Disk.{History, IfTold}
use Rattle.mdbox_base.specs.declared.entries.BoxEntry.{BoxEntry}
use Rattle.mdbox_base.specs.declared.entries.MapEntry.{MapEntry}
use Rattle.mdbox_base.specs.declared.replies.Reply.{Reply}
use Rattle.mdbox_base.specs.declared.requests.Request.TheVariants as request
use Rattle.model_lists.specs.Lists.{Lists, AreWellFormed}
use Rattle.list_machine.specs.Machine.{PartAnswers}
use Rattle.list_machine.specs.Run.{Run, RunEvent, First}
use Rattle.model_meaning.specs.BoxMeaning.{BoxMeaning, box_meaning}
use Rattle.model_meaning.specs.MapMeaning.{MapBox, MapMeaning, map_meaning}
use Rattle.model_meaning.specs.SameMeaning.{MeansSame}
use Rattle.model_meaning.proofs.SameMeaningLemmas.{means_itself}
use Rattle.model_rewritten.proofs.CarriedLemmas.{carried_safe as safe_again}
use Rattle.model_store.specs.Listing.{HaveListings, ShowLists, meaning_named, listing_of}
use Rattle.model_store.specs.Opening.{Opens}
use Rattle.model_store.specs.Settled.{files_of}
use Rattle.model_store.proofs.OpeningLemmas.{one_store}
use Rattle.model_store.proofs.OpeningSafeLemmas.{safe_opens}
use Rattle.model_store.proofs.WellFormedLemmas.{well_formed}
use Rattle.mail_fetch.specs.Clause.{ReadsSafe}
use Rattle.store_core.specs.Running.{IsStore}
use Rattle.store_core.specs.Value.{StoreValue, indexes_of}
use Rattle.store_open.specs.Opened.{IsOpenedAs, StoreCarries}
use Rattle.script_run.specs.Opening.{AreSafeFor, LogsShowLists}

-- what a name finds depends on the mailboxes by their names alone
named_same : (name : List ℕ) (a b : List MapBox) (meanings : List BoxMeaning) → map (λ box. box.name) a ≡ map (λ box. box.name) b → meaning_named name a meanings ≡ meaning_named name b meanings
named_same name [] [] meanings e = refl
named_same name [] (y ∷ b) meanings e = absurd (cc e)
named_same name (x ∷ a) [] meanings e = absurd (cc e)
named_same name (x ∷ a) (y ∷ b) [] e = refl
named_same name (x ∷ a) (y ∷ b) (m ∷ meanings) e =
    let h : x.name ≡ y.name = cc e in
    let t : map (λ box. box.name) a ≡ map (λ box. box.name) b = cc e in
    ap (λ (n : List ℕ). if bytes_eq n name then Some m else meaning_named name a meanings) h ∙ ap (λ (o : Option BoxMeaning). if bytes_eq y.name name then Some m else o) (named_same name a b meanings t)

-- the laws of what the logs show, and of what a listing is answered
abbrev pub LogsShow : Type 0
LogsShow = (boxes : List MapBox) (logs : List (List BoxEntry)) (lists : Lists) → HaveListings boxes logs lists → ShowLists boxes (map box_meaning logs) lists

abbrev pub ListsAnswer : Type 0
ListsAnswer = (run : Run) (event : RunEvent) (boxes : List MapBox) (meanings : List BoxMeaning) (lists : Lists) (name : List ℕ) → ShowLists boxes meanings lists
    → PartAnswers run event lists (request.List name) First (listing_of (meaning_named name boxes meanings)) lists

-- the logs of safe files that open show the lists
pub shown_safe : (lists : Lists) (old : Option History) (store : List ℕ) (entries : List MapEntry) (logs : List (List BoxEntry)) → LogsShow → AreSafeFor lists old → IfTold old (λ now. Opens (files_of now) store entries logs)
    → ShowLists (map_meaning store entries).boxes (map box_meaning logs) lists
shown_safe lists None store entries logs show safe opens = absurd safe
shown_safe lists (Some h) store entries logs show safe opens =
    let o = safe_opens (files_of h.now) safe.store safe.entries lists safe.by in
    let same = one_store (files_of h.now) safe.store store safe.entries entries o.0 logs o.1 opens in
    let have : HaveListings (map_meaning store entries).boxes logs lists =
    subst (λ (ls : List (List BoxEntry)). HaveListings (map_meaning store entries).boxes ls lists) same.2
    (subst (λ (es : List MapEntry). HaveListings (map_meaning store es).boxes o.0 lists) same.1
    (subst (λ (s : List ℕ). HaveListings (map_meaning s safe.entries).boxes o.0 lists) same.0 o.2)) in
    show (map_meaning store entries).boxes logs lists have

-- what the lists show depends on the mailboxes by their numbers and names alone
pub shows_same : (a b : List MapBox) (meanings : List BoxMeaning) (lists : Lists) → map (λ box. box.number) b ≡ map (λ box. box.number) a → map (λ box. box.name) b ≡ map (λ box. box.name) a → ShowLists a meanings lists → ShowLists b meanings lists
shows_same [] [] meanings lists n e s = s
shows_same [] (y ∷ b) meanings lists n e s = absurd (cc n)
shows_same (x ∷ a) [] meanings lists n e s = absurd (cc n)
shows_same (x ∷ a) (y ∷ b) [] lists n e s = s
shows_same (x ∷ a) (y ∷ b) (m ∷ meanings) [] n e s = s
shows_same (x ∷ a) (y ∷ b) (m ∷ meanings) (l ∷ lists) n e s =
    let hn : y.number ≡ x.number = cc n in
    let he : y.name ≡ x.name = cc e in
    let tn : map (λ box. box.number) b ≡ map (λ box. box.number) a = cc n in
    let te : map (λ box. box.name) b ≡ map (λ box. box.name) a = cc e in
    (record { number = s.0.number ∙ sym hn; name = s.0.name ∙ sym he; next = s.0.next; rows = s.0.rows }, shows_same a b meanings lists tn te s.1)

safe_formed : (lists : Lists) (old : Option History) → AreSafeFor lists old → AreWellFormed lists
safe_formed lists None safe = absurd safe
safe_formed lists (Some h) safe = well_formed (files_of h.now) lists (record { store = safe.store; entries = safe.entries; by = safe.by.stands })

-- what logs show with which safe files opened
pub opened_logs_show : (lists : Lists) (old : Option History) (m : MapMeaning) (meanings : List BoxMeaning) → IsOpenedAs old m meanings → LogsShow → AreSafeFor lists old → LogsShowLists m meanings lists
opened_logs_show lists old m meanings o show safe = (
  safe_formed lists old safe,
  subst (λ (ms : List BoxMeaning). ShowLists m.boxes ms lists) (sym o.meanings_are)
      (shows_same (map_meaning m.store o.entries).boxes m.boxes (map box_meaning o.logs) lists o.means.numbers o.means.names (shown_safe lists old m.store o.entries o.logs show safe o.opens)),
)

-- what a store that was opened from them shows
pub opened_shows : {D : Type 0} → (lists : Lists) (old : Option History) (s : StoreValue D) → IsOpenedAs old s.map (indexes_of s.boxes) → LogsShow → AreSafeFor lists old → AreWellFormed lists × ShowLists s.map.boxes (indexes_of s.boxes) lists
opened_shows lists old s o show safe = opened_logs_show lists old s.map (indexes_of s.boxes) o show safe

-- of files that were safe the listing is the list machine's reply
pub answers_safe : (name : List ℕ) (old : Option History) (m : MapMeaning) (meanings : List BoxMeaning) → IsOpenedAs old m meanings → LogsShow → ListsAnswer
    → (run : Run) (event : RunEvent) (lists : Lists) → AreSafeFor lists old → PartAnswers run event lists (request.List name) First (listing_of (meaning_named name m.boxes meanings)) lists
answers_safe name old m meanings o show answer run event lists safe =
    let shows = shown_safe lists old m.store o.entries o.logs show safe o.opens in
    let named = named_same name (map_meaning m.store o.entries).boxes m.boxes (map box_meaning o.logs) (sym o.means.names) in
    let given : listing_of (meaning_named name (map_meaning m.store o.entries).boxes (map box_meaning o.logs)) ≡ listing_of (meaning_named name m.boxes meanings) =
    ap listing_of (named ∙ ap (λ (ms : List BoxMeaning). meaning_named name m.boxes ms) (sym o.meanings_are)) in
    subst (λ (r : Reply). PartAnswers run event lists (request.List name) First r lists) given (answer run event (map_meaning m.store o.entries).boxes (map box_meaning o.logs) lists name shows)

-- files that open again, with logs that mean the same and the same mail, are safe for the same lists
pub carried_safe : (lists : Lists) (old new : Option History) → StoreCarries old new → AreSafeFor lists old → ReadsSafe lists new
carried_safe lists None new carry safe = absurd safe
carried_safe lists (Some h) None carry safe = absurd carry
carried_safe lists (Some h) (Some g) carry safe =
    let o = safe_opens (files_of h.now) safe.store safe.entries lists safe.by in
    let again = carry.again safe.store safe.entries o.0 o.1 in
    record { store = safe.store; entries = again.later; by = safe_again (files_of h.now) (files_of g.now) safe.store safe.entries o.0 lists safe.by o.1 again }

-- a store that isn't stopped opens again
pub opens_again : {D : Type 0} → (new : Option History) (s : StoreValue D) → IsStore new s → s.stopped ≡ false → IsOpenedAs new s.map (indexes_of s.boxes)
opens_again new s k running = record {
  entries = k.entries;
  logs = k.logs;
  good = k.good;
  opens = (k.running running).opens;
  means = subst (λ (n : MapMeaning). MeansSame n s.map) k.map_is (means_itself s.map);
  meanings_are = k.boxes_are;
}

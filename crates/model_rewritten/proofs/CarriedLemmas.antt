-- Files that open again, with logs that mean the same and the same mail, are safe for the same lists.
use Rattle.std.specs.Prelude.{◌≡◌, ◌≢◌, ℕ, List, [], ◌∷◌, take, drop, map, Some, All, AllPairs, refl}
use Rattle.std.proofs.Common.{sym, ◌∙◌, ap, subst}
use Rattle.std.proofs.lemmas.List.Elements.{All-nil, All-cons, All-weaker}
use Rattle.disk_model.specs.Disk.{Files}
use Rattle.disk_model.specs.declared.name.FileName.TheVariants as file
use Rattle.mdbox_base.specs.declared.entries.BoxEntry.{BoxEntry}
use Rattle.mdbox_base.specs.declared.entries.InstRow.{InstRow}
use Rattle.mdbox_base.specs.declared.entries.MapEntry.{MapEntry}
use Rattle.model_lists.specs.Lists.{Mailbox, Lists}
use Rattle.model_logs.proofs.EntryLemmas.{box_one}
use Rattle.model_logs.specs.Entries.{box_text, BoxInRange}
use Rattle.model_meaning.proofs.SameMeaningLemmas.{means_itself, means_along}
use Rattle.model_meaning.specs.BoxMeaning.{BoxMeaning, rows_after, box_meaning}
use Rattle.model_meaning.specs.MapMeaning.{MapRecord, MapBox, MapMeaning, map_meaning}
use Rattle.model_store.proofs.OpeningSafeLemmas.{opens_safe}
use Rattle.model_store.proofs.SettledLemmas.{all_listed_along, stands_carried}
use Rattle.model_store.proofs.StandsLemmas.{log_same}
use Rattle.model_store.specs.Carrying.{HasSameEntries, CarryOver}
use Rattle.model_store.specs.Opening.{PassesBox, PassBoxes, Opens}
use Rattle.model_store.specs.Safe.{LiesInFile, SafeBy}
use Rattle.model_store.specs.Settled.{HasSameRegion, HasSameInstance}
use Rattle.model_store.specs.Stands.{AreListed, IsMailbox, AreMailboxes, StandsBy}
use Rattle.model_appends.specs.MapAppending.{IsMapStep}
use Rattle.model_appends.proofs.AppendBoxLemmas.{once_as, detached_as}
use Rattle.model_appends.proofs.AppendFileLemmas.{SameStored}
use Rattle.model_appends.proofs.AppendMapLemmas.{made_step}
use Rattle.model_rewritten.specs.CarriedStore.{CarriesMail, CarriesStore}
use Rattle.model_rewritten.proofs.KeptMailLemmas.{all_listed_as}

-- ---- the logs of the first files, with the mail of the second

abbrev with_mail : Files → Files → Files
with_mail a b file.Root = a file.Root
with_mail a b (file.Map g) = a (file.Map g)
with_mail a b (file.Box k g) = a (file.Box k g)
with_mail a b (file.Mail n) = b (file.Mail n)
with_mail a b (file.Inst hash id) = b (file.Inst hash id)

same_logs : (a : Files) (boxes : List MapBox) → All (λ (box : MapBox). HasSameEntries (a (file.Box box.number box.generation)) (a (file.Box box.number box.generation))) boxes
same_logs a [] = All-nil (λ (box : MapBox). HasSameEntries (a (file.Box box.number box.generation)) (a (file.Box box.number box.generation)))
same_logs a (box ∷ boxes) = All-cons (λ (b : MapBox). HasSameEntries (a (file.Box b.number b.generation)) (a (file.Box b.number b.generation))) box boxes (λ head entries l. l) (same_logs a boxes)

carry_mail : (g : ℕ) (m : MapMeaning) (a b : Files) → CarriesMail m a b → CarryOver g m a (with_mail a b)
carry_mail g m a b mail = record {
  root = λ head entries l. l;
  map = λ head entries l. l;
  boxes = same_logs a m.boxes;
  regions = All-weaker (HasSameRegion a b) (HasSameRegion a (with_mail a b)) (λ row r. r) m.records mail.regions;
  instances = All-weaker (λ (row : MapRecord). All (HasSameInstance a b) row.instances) (λ (row : MapRecord). All (HasSameInstance a (with_mail a b)) row.instances)
      (λ row r. All-weaker (HasSameInstance a b) (HasSameInstance a (with_mail a b)) (λ inst s. s) row.instances r) m.records mail.instances;
}

mail_stored : (a b : Files) → SameStored (with_mail a b) b
mail_stored a b = record { mails = λ n. refl; instances = λ hash id. refl }

-- ---- the mailboxes

one_mailbox : (g : ℕ) (m n : MapMeaning) (a b : Files) (box other : MapBox) (log later : List BoxEntry) (x : Mailbox) → CarriesMail m a b → n.records ≡ m.records → other.number ≡ box.number → other.name ≡ box.name
    → box_meaning later ≡ box_meaning log → PassesBox a m box log → PassesBox b n other later → IsMailbox a m box x → IsMailbox b n other x
one_mailbox g m n a b box other log later x mail records number name means p q h =
    let same : h.entries ≡ log = (log_same box_text BoxInRange (box_one 2) a _ _ _ h.entries log h.log.in_range p.log.in_range h.log.log p.log.log).1 in
    let one : box_meaning h.entries ≡ box_meaning later = ap box_meaning same ∙ sym means in
    record {
      entries = later;
      log = q.log;
      number = h.number ∙ sym number;
      name = h.name ∙ sym name;
      next = h.next ∙ ap (λ (o : BoxMeaning). o.next) one;
      messages = subst (λ (o : BoxMeaning). AreListed b n o.rows x.messages) one
          (all_listed_as (with_mail a b) b m n (rows_after h.entries) x.messages (mail_stored a b) records (all_listed_along g m a (with_mail a b) (rows_after h.entries) x.messages (carry_mail g m a b mail) h.messages));
    }

heads : {X : Type 0} → (x y : X) (xs ys : List X) → x ∷ xs ≡ y ∷ ys → (x ≡ y) × (xs ≡ ys)
heads x y xs ys e = (cc e, cc e)

all_mailboxes : (g : ℕ) (m n : MapMeaning) (a b : Files) (boxes others : List MapBox) (logs later : List (List BoxEntry)) (xs : Lists) → CarriesMail m a b → n.records ≡ m.records
    → map (λ box. box.number) others ≡ map (λ box. box.number) boxes → map (λ box. box.name) others ≡ map (λ box. box.name) boxes → map box_meaning later ≡ map box_meaning logs
    → PassBoxes a m boxes logs → PassBoxes b n others later → AreMailboxes a m boxes xs → AreMailboxes b n others xs
all_mailboxes g m n a b [] [] logs later [] mail records number name means p q h = tt
all_mailboxes g m n a b [] [] logs later (x ∷ xs) mail records number name means p q h = absurd h
all_mailboxes g m n a b [] (other ∷ others) logs later xs mail records number name means p q h = absurd (cc number)
all_mailboxes g m n a b (box ∷ boxes) [] logs later xs mail records number name means p q h = absurd (cc number)
all_mailboxes g m n a b (box ∷ boxes) (other ∷ others) [] later xs mail records number name means p q h = absurd p
all_mailboxes g m n a b (box ∷ boxes) (other ∷ others) (log ∷ logs) [] xs mail records number name means p q h = absurd q
all_mailboxes g m n a b (box ∷ boxes) (other ∷ others) (log ∷ logs) (l ∷ ls) [] mail records number name means p q h = absurd h
all_mailboxes g m n a b (box ∷ boxes) (other ∷ others) (log ∷ logs) (l ∷ ls) (x ∷ xs) mail records number name means p q h =
    let numbers = heads _ _ _ _ number in
    let names = heads _ _ _ _ name in
    let meanings = heads _ _ _ _ means in
    (one_mailbox g m n a b box other log l x mail records numbers.0 names.0 meanings.0 p.0 q.0 h.0, all_mailboxes g m n a b boxes others logs ls xs mail records numbers.1 names.1 meanings.1 p.1 q.1 h.1)

-- ---- the law

pub carried_safe : (a b : Files) (store : List ℕ) (entries : List MapEntry) (logs : List (List BoxEntry)) (lists : Lists) → SafeBy a store entries lists → Opens a store entries logs → (c : CarriesStore store entries logs a b) → SafeBy b store c.later lists
carried_safe a b store entries logs lists s o c =
    let m : MapMeaning = map_meaning store entries in
    let n : MapMeaning = map_meaning store c.later in
    let g : ℕ = s.stands.map_log.generation in
    let between : StandsBy (with_mail a b) store entries lists = stands_carried a (with_mail a b) store entries lists s.stands (carry_mail g m a b c.mail) in
    let step : IsMapStep b m n = made_step b m n c.means.records (once_as (with_mail a b) b m (mail_stored a b) between.once) (detached_as (with_mail a b) b m (mail_stored a b) between.detached) in
    opens_safe b store c.later c.later_logs lists c.opens (record {
      map_log = c.opens.passed.map_log;
      mailboxes = all_mailboxes g m n a b m.boxes n.boxes logs c.later_logs lists c.mail c.means.records c.means.numbers c.means.names c.boxes o.passed.boxes c.opens.passed.boxes s.stands.mailboxes;
      one_record = subst (λ (rows : List MapRecord). AllPairs (λ (x y : MapRecord). x.guid ≢ y.guid) rows) (sym c.means.records) s.stands.one_record;
      once = step.once;
      detached = step.detached;
    })

-- ---- they go on

region_itself : (a : Files) (row : MapRecord) → LiesInFile a row → HasSameRegion a a row
region_itself a row l = record { first = l.octets; second = l.octets; in_first = l.there; in_second = l.there; first_holds = l.inside; second_holds = l.inside; same = refl }

region_on : (a b c : Files) (row : MapRecord) → HasSameRegion a b row → HasSameRegion b c row → HasSameRegion a c row
region_on a b c row r s =
    let between : Some r.second ≡ Some s.first = sym r.in_second ∙ s.in_first in
    let one : r.second ≡ s.first = cc between in
    record {
      first = r.first;
      second = s.second;
      in_first = r.in_first;
      in_second = s.in_second;
      first_holds = r.first_holds;
      second_holds = s.second_holds;
      same = s.same ∙ ap (λ (o : List ℕ). take row.size (drop row.offset o)) (sym one) ∙ r.same;
    }

same_instances : (a : Files) (rows : List InstRow) → All (HasSameInstance a a) rows
same_instances a [] = All-nil (HasSameInstance a a)
same_instances a (row ∷ rows) = All-cons (HasSameInstance a a) row rows refl (same_instances a rows)

all_instances : (a : Files) (rows : List MapRecord) → All (λ (row : MapRecord). All (HasSameInstance a a) row.instances) rows
all_instances a [] = All-nil (λ (row : MapRecord). All (HasSameInstance a a) row.instances)
all_instances a (row ∷ rows) = All-cons (λ (r : MapRecord). All (HasSameInstance a a) r.instances) row rows (same_instances a row.instances) (all_instances a rows)

pub carried_itself : (a : Files) (store : List ℕ) (entries : List MapEntry) (logs : List (List BoxEntry)) → Opens a store entries logs → CarriesStore store entries logs a a
carried_itself a store entries logs o = record {
  later = entries;
  later_logs = logs;
  opens = o;
  means = means_itself (map_meaning store entries);
  boxes = refl;
  mail = record {
    regions = All-weaker (LiesInFile a) (HasSameRegion a a) (λ row l. region_itself a row l) (map_meaning store entries).records o.regions;
    instances = all_instances a (map_meaning store entries).records;
  };
}

pub carried_on : (a b c : Files) (store : List ℕ) (entries : List MapEntry) (logs : List (List BoxEntry)) → (s : CarriesStore store entries logs a b) → CarriesStore store s.later s.later_logs b c → CarriesStore store entries logs a c
carried_on a b c store entries logs s t =
    let m : MapMeaning = map_meaning store entries in
    let regions : All (HasSameRegion b c) m.records = subst (λ (rows : List MapRecord). All (HasSameRegion b c) rows) s.means.records t.mail.regions in
    let instances : All (λ (row : MapRecord). All (HasSameInstance b c) row.instances) m.records = subst (λ (rows : List MapRecord). All (λ (row : MapRecord). All (HasSameInstance b c) row.instances) rows) s.means.records t.mail.instances in
    record {
      later = t.later;
      later_logs = t.later_logs;
      opens = t.opens;
      means = means_along m (map_meaning store s.later) (map_meaning store t.later) s.means t.means;
      boxes = t.boxes ∙ s.boxes;
      mail = record {
        regions = λ k d lt. region_on a b c _ (s.mail.regions k d lt) (regions k d lt);
        instances = λ k d lt i e le. instances k d lt i e le ∙ s.mail.instances k d lt i e le;
      };
    }
